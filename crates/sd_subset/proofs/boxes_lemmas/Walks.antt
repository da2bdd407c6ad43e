-- A list gone through from one place on.
use Rattle.std.specs.List.{AllByRecursion, Contains}
use Rattle.std.proofs.Common.{◌≡◌, ◌⊎◌, ℕ, suc, ◌+◌, ◌<◌, List, [], ◌∷◌, ◌++◌, length, get_or, take, drop, drop-cons, add-one, sym, ap, ◌∙◌, subst}
use Rattle.std.proofs.Math.Seq.{take-suc}
use Rattle.std.proofs.lemmas.List.Elements.{All-from_recursion}
use Rattle.sd_range.proofs.Members.{Contains-cases}

-- what is left from a place on begins with the one at the place
pub drop-next : {X : Type 0} (xs : List X) (i : ℕ) (one : X) → i < length xs → one ≡ get_or xs i one → drop i xs ≡ one ∷ drop (i + 1) xs
drop-next xs i one below is = rw (add-one i) (drop-cons xs i one below ∙ ap (λ first. first ∷ drop (suc i) xs) (sym is))

-- a member from a place on is the one at the place or a later one
pub member-later : {X : Type 0} (xs : List X) (i : ℕ) (one x : X) → i < length xs → one ≡ get_or xs i one → Contains (drop i xs) x → (one ≡ x) ⊎ Contains (drop (i + 1) xs) x
member-later xs i one x below is member =
    Contains-cases one (drop (i + 1) xs) x
    (subst (λ all. Contains all x) (drop-next xs i one below is) member)

-- what holds of each holds of the one at a place
pub each-at : {X : Type 0} (P : X → Type 0) (xs : List X) (i : ℕ) (one : X) → i < length xs → one ≡ get_or xs i one → AllByRecursion P xs → P one
each-at P xs i one below is each = subst P (sym is) (All-from_recursion P xs each i one below)

-- one more of the first ones
pub take-next : {X : Type 0} (xs : List X) (i : ℕ) (one : X) → i < length xs → one ≡ get_or xs i one → take (i + 1) xs ≡ take i xs ++ one ∷ []
take-next xs i one below is = rw (add-one i) (take-suc xs i one below ∙ ap (λ last. take i xs ++ last ∷ []) (sym is))
