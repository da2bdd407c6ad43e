-- Lists side by side of which a member changes.
use Rattle.std.proofs.Common.{◌≡◌, ℕ, zero, suc, ◌<◌, List, [], ◌∷◌, length, get_or, slice_set, sym, ap, subst, arith}
use Rattle.std.specs.List.{AllZip}

module _ {A B : Type 0} (Is : A → B → Type 0) where
  -- they are as long
  pub zip_length : (members : List A) (others : List B) → AllZip Is members others → length members ≡ length others
  zip_length [] [] all = cc
  zip_length [] (other ∷ others) all = absurd all
  zip_length (member ∷ members) [] all = absurd all
  zip_length (member ∷ members) (other ∷ others) all = ap suc (zip_length members others all.1)

  -- what stands at a place
  pub zip_there : (members : List A) (others : List B) (number : ℕ) (member : A) (other : B) → AllZip Is members others → number < length members →
      member ≡ get_or members number member → other ≡ get_or others number other → Is member other
  zip_there [] others number member other all within here there = absurd (omega (arith, within))
  zip_there (first ∷ members) [] number member other all within here there = absurd all
  zip_there (first ∷ members) (second ∷ others) zero member other all within here there = subst (λ m. Is m other) (sym here) (subst (Is first) (sym there) all.0)
  zip_there (first ∷ members) (second ∷ others) (suc number) member other all within here there = zip_there members others number member other all.1 (omega (arith, within)) here there

  -- another one at a place
  pub zip_again : (members : List A) (others : List B) (number : ℕ) (member : A) (other : B) → AllZip Is members others → number < length members →
      member ≡ get_or members number member → Is member other → AllZip Is members (slice_set others number other)
  zip_again [] others number member other all within here is = absurd (omega (arith, within))
  zip_again (first ∷ members) [] number member other all within here is = absurd all
  zip_again (first ∷ members) (second ∷ others) zero member other all within here is = (subst (λ m. Is m other) here is, all.1)
  zip_again (first ∷ members) (second ∷ others) (suc number) member other all within here is = (all.0, zip_again members others number member other all.1 (omega (arith, within)) here is)
