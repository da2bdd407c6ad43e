-- Small expressions, and what is combined of them.
use Rattle.std.proofs.Common.{◌≡◌, ℕ, ◌*◌, ◌^◌, ◌<◌, ◌≤◌, ℤ, pos, neg_ℤ, unsigned_abs, nat_lt, nat_le, List, [], true, ◌&&◌, refl, arith, FitsSigned}
use Rattle.std.specs.Int.{w128}
use Rattle.std.proofs.lemmas.Int.{fits_signed_from_abs}
use Rattle.std.proofs.lemmas.Nat.{mul-le}
use Rattle.sd_range.specs.Arithmetic.{affine_zero, affine_sum, affine_difference, affine_product, combination, IsRepresentable}
use Rattle.sd_range.specs.Weight.{weight_of}
use Rattle.sd_range.specs.declared.affine.Affine.{Affine}
use Rattle.sd_range.proofs.Weights.{constant-combination, representable, weight-combined}
use Rattle.sd_graph.specs.PlainTree.{ValueTree, literal, variable, local, input, one, two, choice}
use Rattle.sd_validity.specs.rules.WithinLimits.{affine_of, is_small, is_value_small}
use Rattle.sd_validity.proofs.rules_lemmas.HoldingLemmas.{both}

-- the numbers of a small expression
record IsBounded (a : Affine) : Type 0 where
  constant : unsigned_abs a.constant < 2 ^ 41
  weight : weight_of a.terms ≤ 2 ^ 10

bounded : (a : Affine) → is_small a ≡ true → IsBounded a
bounded a small =
    let parts = both (nat_lt (unsigned_abs a.constant) (2 ^ 41)) (nat_le (weight_of a.terms) (2 ^ 10)) small in
    record { constant = grind (arith, parts.0); weight = grind (arith, parts.1) }

small_from : (a : Affine) → unsigned_abs a.constant < 2 ^ 41 → weight_of a.terms ≤ 2 ^ 10 → is_small a ≡ true
small_from a constant weight =
    let first : nat_lt (unsigned_abs a.constant) (2 ^ 41) ≡ true = grind (arith, constant) in
    let second : nat_le (weight_of a.terms) (2 ^ 10) ≡ true = grind (arith, weight) in
    λ i. first i && second i

-- a small expression, and another so many times, where the number is no larger than a small constant
fits : (a b : Affine) (factor : ℤ) → unsigned_abs a.constant < 2 ^ 41 → weight_of a.terms ≤ 2 ^ 10 → is_small b ≡ true → unsigned_abs factor < 2 ^ 41 →
    IsRepresentable (combination a factor b)
fits a b factor constant weight small few =
    let other = bounded b small in
    let constants : unsigned_abs factor * unsigned_abs b.constant ≤ 2 ^ 41 * 2 ^ 41 =
    mul-le (unsigned_abs factor) (unsigned_abs b.constant) (2 ^ 41) (2 ^ 41) (omega (arith, few)) (omega (arith, other.constant)) in
    let weights : unsigned_abs factor * weight_of b.terms ≤ 2 ^ 41 * 2 ^ 10 =
    mul-le (unsigned_abs factor) (weight_of b.terms) (2 ^ 41) (2 ^ 10) (omega (arith, few)) other.weight in
    representable a b factor (omega (arith, constant, constants)) (omega (arith, weight, weights))

pub sum_fits : (a b : Affine) → is_small a ≡ true → is_small b ≡ true → IsRepresentable (affine_sum a b)
sum_fits a b small other = fits a b (pos 1) (bounded a small).constant (bounded a small).weight other (omega arith)

pub difference_fits : (a b : Affine) → is_small a ≡ true → is_small b ≡ true → IsRepresentable (affine_difference a b)
difference_fits a b small other = fits a b (neg_ℤ (pos 1)) (bounded a small).constant (bounded a small).weight other (omega arith)

pub negation_fits : (a : Affine) → is_small a ≡ true → IsRepresentable (affine_difference affine_zero a)
negation_fits a small = difference_fits affine_zero a refl small

pub product_fits : (a b : Affine) → is_small a ≡ true → is_small b ≡ true → IsRepresentable (affine_product a.constant b)
product_fits a b small other = fits affine_zero b a.constant (omega arith) (omega arith) other (bounded a small).constant

pub constant_fits : (a : Affine) → is_small a ≡ true → FitsSigned w128 a.constant
constant_fits a small = fits_signed_from_abs w128 a.constant (omega (arith, (bounded a small).constant))

-- an expression with the other sign
negation_small : (a : Affine) → is_small a ≡ true → is_small (affine_difference affine_zero a) ≡ true
negation_small a small =
    let parts = bounded a small in
    small_from (affine_difference affine_zero a)
    (omega (arith, constant-combination affine_zero a (neg_ℤ (pos 1)), parts.constant))
    (omega (arith, weight-combined [] (neg_ℤ (pos 1)) a.terms, parts.weight))

-- a value whose parts are small is small as an expression
pub small_is : (variables : List ℕ) (value : ValueTree) → is_value_small variables value ≡ true → is_small (affine_of variables value) ≡ true
small_is variables (literal number) small = small
small_is variables (variable place) small = refl
small_is variables (local number) small = refl
small_is variables (input connector at) small = refl
small_is variables (one sign of) small = negation_small (affine_of variables of) (small_is variables of small)
small_is variables (two sign left right) small =
    (both (is_small (affine_of variables (two sign left right))) (is_value_small variables left && is_value_small variables right) small).0
small_is variables (choice value when other) small = refl
