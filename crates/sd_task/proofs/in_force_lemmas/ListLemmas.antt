-- Lists that grow at their end, and lists of which all is dropped.
use Rattle.std.proofs.Common.{◌≡◌, ◌∙◌, ℕ, zero, suc, ◌+◌, ◌≤◌, List, [], ◌∷◌, ◌++◌, length, map, drop, refl, ap, sym, arith}
use Rattle.std.proofs.lemmas.List.{append-nil}

pub append_one_length : {A : Type 0} (members : List A) (member : A) → length (members ++ member ∷ []) ≡ length members + 1
append_one_length [] member = refl
append_one_length (first ∷ rest) member = omega (arith, append_one_length rest member)

pub drop_all : {A : Type 0} (count : ℕ) (members : List A) → length members ≤ count → drop count members ≡ []
drop_all zero [] all = refl
drop_all zero (first ∷ rest) all = absurd (omega (arith, all))
drop_all (suc count) [] all = refl
drop_all (suc count) (first ∷ rest) all = drop_all count rest (omega (arith, all))

-- what was made of all members, where none is left
pub all_mapped : {A B : Type 0} (f : A → B) (made : List B) (members : List A) (count : ℕ) → length members ≤ count → made ++ map f (drop count members) ≡ map f members → made ≡ map f members
all_mapped f made members count all whole = sym (append-nil made) ∙ ap (λ rest. made ++ map f rest) (sym (drop_all count members all)) ∙ whole
