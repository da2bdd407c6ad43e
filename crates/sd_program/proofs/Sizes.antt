-- Numbers within the limits fit 128 bits.
use Rattle.std.proofs.Common.{ℕ, ◌<◌, ◌^◌, ℤ, List, [], ◌∷◌, arith, FitsSigned, rules}
use Rattle.std.specs.Int.{w128}
use Rattle.std.specs.List.{All}
use Rattle.std.proofs.lemmas.Int.{fits_signed_from_abs}
use Rattle.sd_range.specs.Arithmetic.{IsRepresentable}
use Rattle.sd_range.specs.Weight.{weight_of}
use Rattle.sd_range.specs.declared.affine.Affine.{Affine}
use Rattle.sd_program.specs.Small.{IsWithinLimits}

-- each coefficient of light terms fits
each_fits : (terms : List (ℕ × ℤ)) → weight_of terms < 2 ^ 127 → All (λ term. FitsSigned w128 term.1) terms
each_fits [] light = search rules
each_fits (term ∷ terms) light =
    let first : FitsSigned w128 term.1 = fits_signed_from_abs w128 term.1 (omega arith) in
    search (rules, first, each_fits terms (omega arith))

pub representable_within : (a : Affine) → IsWithinLimits a → IsRepresentable a
representable_within a within = record {
  constant = fits_signed_from_abs w128 a.constant (omega (arith, within.constant));
  terms = each_fits a.terms (omega (arith, within.coefficients));
}
