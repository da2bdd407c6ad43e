-- Small affine expressions have exact arithmetic.
use Rattle.std.proofs.Common.{ℕ, zero, suc, ◌<◌, ◌^◌, ℤ, pos, negsuc, ◌+ℤ◌, arith}
use Rattle.std.specs.Prelude.{unsigned_abs}
use Rattle.std.specs.Int.{w128}
use Rattle.std.proofs.lemmas.Int.{fits_signed_from_abs}
use Rattle.sd_range.specs.Arithmetic.{IsRepresentable, affine_zero, affine_difference}
use Rattle.sd_range.specs.declared.affine.Affine.{Affine}
use Rattle.sd_program.specs.Names.{Named}
use Rattle.sd_program.specs.Affines.{affine_number, affine_of}
use Rattle.sd_lex.specs.PlainTree.{Expression, number, named, element_at, one, two, choice}
use Rattle.sd_program.specs.Small.{IsWithinLimits, IsAlwaysWithin, HasSmallParts, IsSmall}
use Rattle.sd_program.proofs.Sizes.{representable_within}
use Rattle.sd_task.specs.in_force.Exact.{IsExact}

exact_parts : (expression : Expression) → IsAlwaysWithin expression → HasSmallParts expression → IsExact expression
exact_parts (number value) within parts = tt
exact_parts (named name) within parts = tt
exact_parts (element_at name at) within parts = tt
exact_parts (one sign of) within parts = (exact_parts of parts.0 parts.1, λ variables. representable_within _ (within variables))
exact_parts (two sign left right) within parts =
    (exact_parts left parts.0.0 parts.0.1, (exact_parts right parts.1.0 parts.1.1, λ variables. representable_within _ (within variables)))
exact_parts (choice value when other) within parts = tt

pub exact_from_small : (expression : Expression) → IsSmall expression → IsExact expression
exact_from_small expression small = exact_parts expression small.0 small.1

one_less_within : (n : ℤ) → unsigned_abs n < 2 ^ 40 → unsigned_abs (n +ℤ negsuc 0) < 2 ^ 127
one_less_within (pos zero) within = grind arith
one_less_within (pos (suc n)) within = grind arith
one_less_within (negsuc n) within = grind arith

-- one less than an expression within the limits fits 128 bits
pub one_less_fits : (a : Affine) → IsWithinLimits a → IsRepresentable (affine_difference a (affine_number (pos 1)))
one_less_fits a within = record {
  constant = fits_signed_from_abs w128 (a.constant +ℤ negsuc 0) (one_less_within a.constant within.constant);
  terms = (representable_within a within).terms;
}

-- a small expression is within the limits
pub within_from_small : (variables : Named ℕ) (expression : Expression) → IsSmall expression → IsWithinLimits (affine_of variables expression)
within_from_small variables expression small = small.0 variables

pub zero_within : IsWithinLimits affine_zero
zero_within = record { constant = omega arith; coefficients = omega arith }
