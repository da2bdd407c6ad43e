-- What holds of all parts holds of one.
use Rattle.std.proofs.Common.{◌≡◌, ℕ, zero, suc, ◌<◌, List, [], ◌∷◌, ◌++◌, map, length, get_or, true, refl, sym, ap, ◌∙◌, arith}
use Rattle.std.proofs.lemmas.List.{append-nil}
use Rattle.sd_work.specs.Memory.{Memories}
use Rattle.sd_left.specs.left.Waits.{Told, all_hold}
use Rattle.sd_left.specs.left.Telling.{Telling, all_right}
use Rattle.sd_left.proofs.left_lemmas.Sameness.{both-true}

module _ {A : Type 0} where
  pub right-at : (telling : A → Telling) (parts : List A) (number : ℕ) (part : A) → number < length parts → part ≡ get_or parts number part
      → all_right (map telling parts) ≡ true → (telling part).is_right ≡ true
  right-at telling [] number part there is right = absurd (omega (arith, there))
  right-at telling (first ∷ parts) zero part there is right = ap (λ (p : A). (telling p).is_right) is ∙ (both-true (telling first).is_right (all_right (map telling parts)) right).0
  right-at telling (first ∷ parts) (suc number) part there is right =
      right-at telling parts number part (omega (arith, there)) is (both-true (telling first).is_right (all_right (map telling parts)) right).1

  pub held-at : (counted : A → Told) (memories : Memories) (parts : List A) (number : ℕ) (part : A) → number < length parts → part ≡ get_or parts number part
      → all_hold (map counted parts) memories ≡ true → counted part memories ≡ true
  held-at counted memories [] number part there is held = absurd (omega (arith, there))
  held-at counted memories (first ∷ parts) zero part there is held = ap (λ (p : A). counted p memories) is ∙ (both-true (counted first memories) (all_hold (map counted parts) memories) held).0
  held-at counted memories (first ∷ parts) (suc number) part there is held =
      held-at counted memories parts number part (omega (arith, there)) is (both-true (counted first memories) (all_hold (map counted parts) memories) held).1

-- a part with units is there
pub counted-there : (counts : List ℕ) (number rest : ℕ) → rest < get_or counts number 0 → number < length counts
counted-there [] number rest inside = absurd (omega (arith, inside))
counted-there (count ∷ counts) zero rest inside = omega arith
counted-there (count ∷ counts) (suc number) rest inside = omega (arith, counted-there counts number rest inside)

pub nothing-more : (place path : List ℕ) → path ≡ [] → place ≡ place ++ path
nothing-more place path none = sym (append-nil place) ∙ ap (λ (p : List ℕ). place ++ p) (sym none)

pub as-long : {A B : Type 0} (f : A → B) (all : List A) → length (map f all) ≡ length all
as-long f [] = refl
as-long f (first ∷ all) = ap suc (as-long f all)
