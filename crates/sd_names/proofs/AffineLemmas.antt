-- Affine expressions within the limits have sums, differences and products whose numbers fit.
use Rattle.std.proofs.Common.{◌≡◌, refl, ℕ, ◌*◌, ◌≤◌, ◌<◌, true, ℤ, pos, neg_ℤ, arith, unsigned_abs, FitsSigned}
use Rattle.std.specs.Int.{w128}
use Rattle.std.proofs.lemmas.Int.{fits_signed_from_abs}
use Rattle.std.proofs.Math.Nat.{mul-le-mul_left, mul-le-mul_right}
use Rattle.sd_range.specs.declared.affine.Affine.{Affine}
use Rattle.sd_range.specs.Arithmetic.{combination, affine_zero, affine_sum, affine_difference, affine_product, IsRepresentable}
use Rattle.sd_range.specs.Weight.{weight_of}
use Rattle.sd_range.proofs.Weights.{representable}
use Rattle.sd_names.specs.Limits.{is_within}

pub within_constant : (a : Affine) → is_within a ≡ true → unsigned_abs a.constant < 1099511627776
within_constant a within = grind arith

pub within_weight : (a : Affine) → is_within a ≡ true → weight_of a.terms ≤ 1024
within_weight a within = grind arith

-- a product of two numbers with these bounds
pub product_bound : (a b m n : ℕ) → a ≤ m → b ≤ n → a * b ≤ m * n
product_bound a b m n below above = let first = mul-le-mul_left a above in let second = mul-le-mul_right n below in omega arith

pub combination_fits : (a : Affine) (factor : ℤ) (b : Affine) → is_within a ≡ true → is_within b ≡ true → unsigned_abs factor ≤ 1099511627776 → IsRepresentable (combination a factor b)
combination_fits a factor b low high small =
    let first = within_constant a low in
    let second = within_constant b high in
    let size : unsigned_abs factor * unsigned_abs b.constant ≤ 1099511627776 * 1099511627776 = product_bound (unsigned_abs factor) (unsigned_abs b.constant) 1099511627776 1099511627776 small (omega arith) in
    let light = within_weight a low in
    let heavy : unsigned_abs factor * weight_of b.terms ≤ 1099511627776 * 1024 = product_bound (unsigned_abs factor) (weight_of b.terms) 1099511627776 1024 small (within_weight b high) in
    representable a b factor (omega arith) (omega arith)

pub zero_within : is_within affine_zero ≡ true
zero_within = refl

pub sum_fits : (a b : Affine) → is_within a ≡ true → is_within b ≡ true → IsRepresentable (affine_sum a b)
sum_fits a b low high = combination_fits a (pos 1) b low high (omega arith)

pub difference_fits : (a b : Affine) → is_within a ≡ true → is_within b ≡ true → IsRepresentable (affine_difference a b)
difference_fits a b low high = combination_fits a (neg_ℤ (pos 1)) b low high (omega arith)

pub negative_fits : (a : Affine) → is_within a ≡ true → IsRepresentable (affine_product (neg_ℤ (pos 1)) a)
negative_fits a within = combination_fits affine_zero (neg_ℤ (pos 1)) a zero_within within (omega arith)

pub product_fits : (a b : Affine) → is_within a ≡ true → is_within b ≡ true → IsRepresentable (affine_product a.constant b)
product_fits a b low high = combination_fits affine_zero a.constant b zero_within high (let first = within_constant a low in omega arith)

pub constant_fits : (a : Affine) → is_within a ≡ true → FitsSigned w128 a.constant
constant_fits a within = fits_signed_from_abs w128 a.constant (let first = within_constant a within in omega arith)
