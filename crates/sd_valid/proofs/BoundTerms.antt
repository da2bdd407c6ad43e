-- The terms of an expression, one after another.
use Rattle.std.proofs.Common.{◌≡◌, ℕ, ◌+◌, ◌<◌, ℤ, ◌+ℤ◌, ◌*ℤ◌, List, length, drop, slice_index_or, ap, sym, ◌∙◌, arith}
use Rattle.std.proofs.lemmas.Int.{ints}
use Rattle.std.proofs.lemmas.List.{at_drop_more}
use Rattle.sd_range.specs.Affine.{variable_value, terms_value}

-- a term that goes into the constant leaves those that are left
pub next_constant : (constant : ℤ) (terms : List (ℕ × ℤ)) (sizes : List ℤ) (i : ℕ) (d : ℕ × ℤ) → i < length terms →
    (constant +ℤ ((slice_index_or terms i d).1 *ℤ variable_value sizes (slice_index_or terms i d).0)) +ℤ terms_value sizes (drop (i + 1) terms) ≡ constant +ℤ terms_value sizes (drop i terms)
next_constant constant terms sizes i d h =
    let product = (slice_index_or terms i d).1 *ℤ variable_value sizes (slice_index_or terms i d).0 in
    let others = terms_value sizes (drop (i + 1) terms) in
    let regrouped : (constant +ℤ product) +ℤ others ≡ constant +ℤ (product +ℤ others) = omega (arith, ints) in
    regrouped ∙ ap (λ (rest : ℤ). constant +ℤ rest) (sym (at_drop_more (λ left. terms_value sizes left) terms i d h))
