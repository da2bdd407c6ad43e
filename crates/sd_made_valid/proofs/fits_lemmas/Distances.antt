-- Ranges that go as far have the same extents.
use Rattle.std.proofs.Common.{◌≡◌, ℕ, ℤ, pos, neg_ℤ, ◌-ℤ◌, List, [], ◌∷◌, Bool, true, Option, refl, sym, ◌∙◌, arith}
use Rattle.std.specs.List.{list_all}
use Rattle.std.proofs.lemmas.Bool.Decides.{Decides-int_eq}
use Rattle.std.proofs.lemmas.Int.{ints}
use Rattle.sd_range.specs.Arithmetic.{affine_difference}
use Rattle.sd_range.specs.Terms.{IsNormal, coefficient_of}
use Rattle.sd_range.specs.declared.affine.Affine.{Affine}
use Rattle.sd_range.proofs.Coefficients.{coefficient_of-combined}
use Rattle.sd_task.specs.in_force.Ranges.{range_between}
use Rattle.sd_validity.specs.rules.Shapes.{Extent, is_coefficient_same, is_extent_same, range_extent, dim_extent}

-- how far it is from the first number to the last, but for one
pub record IsDistance (extent : Extent) (length : Affine) : Type 0 where
  pub constant : extent.last.constant -ℤ extent.begin.constant ≡ length.constant -ℤ pos 1
  pub terms : (variable : ℕ) → coefficient_of extent.last.terms variable -ℤ coefficient_of extent.begin.terms variable ≡ coefficient_of length.terms variable

pub dim_distance : (extent : Affine) → IsDistance (dim_extent extent) extent
dim_distance extent = record { constant = refl; terms = λ variable. omega (arith, ints) }

pub range_distance : (begin end : Affine) (step : Option ℤ) → IsNormal begin.terms → IsNormal end.terms → IsDistance (range_extent (range_between begin end step)) (affine_difference end begin)
range_distance begin end step low high = record {
  constant = omega (arith, ints);
  terms = λ variable. omega (arith, ints, coefficient_of-combined end.terms (neg_ℤ (pos 1)) begin.terms variable high low);
}

all_pass : {A : Type 0} (test : A → Bool) (members : List A) → ((member : A) → test member ≡ true) → list_all test members ≡ true
all_pass test [] each = refl
all_pass test (member ∷ members) each = rw (each member, all_pass test members each) refl

-- two that go as far
pub same_distance : (one' other : Extent) (length : Affine) → IsDistance one' length → IsDistance other length → is_extent_same one' other ≡ true
same_distance one' other length first second =
    rw ((Decides-int_eq (one'.last.constant -ℤ one'.begin.constant) (other.last.constant -ℤ other.begin.constant)).1 (first.constant ∙ sym second.constant))
    (all_pass (is_coefficient_same one' other) _
    (λ variable. (Decides-int_eq (coefficient_of one'.last.terms variable -ℤ coefficient_of one'.begin.terms variable) (coefficient_of other.last.terms variable -ℤ coefficient_of other.begin.terms variable)).1
    (first.terms variable ∙ sym (second.terms variable))))
