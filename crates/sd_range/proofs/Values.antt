-- The value of an affine expression, term after term.
use Rattle.std.proofs.Common.{◌≡◌, ℕ, ◌+◌, ◌<◌, ℤ, ◌+ℤ◌, ◌*ℤ◌, ap, sym, ◌∙◌, arith, List, length, drop, get_or}
use Rattle.std.proofs.lemmas.Int.{ints, int_wrap-add_left}
use Rattle.std.proofs.lemmas.List.{at_drop_more}
use Rattle.std.specs.Int.{int_wrap, w128}
use Rattle.sd_range.specs.Affine.{terms_value, variable_value}

-- a term that goes into the sum leaves those that are left
pub wrapped_sum-next : (sum : ℤ) (terms : List (ℕ × ℤ)) (values : List ℤ) (i : ℕ) (d : ℕ × ℤ) → i < length terms →
    let term = get_or terms i d in
    int_wrap w128 (int_wrap w128 (sum +ℤ (term.1 *ℤ variable_value values term.0)) +ℤ terms_value values (drop (i + 1) terms))
    ≡ int_wrap w128 (sum +ℤ terms_value values (drop i terms))
wrapped_sum-next sum terms values i d h =
    let term = get_or terms i d in
    let product = term.1 *ℤ variable_value values term.0 in
    let others = terms_value values (drop (i + 1) terms) in
    let regrouped : (sum +ℤ product) +ℤ others ≡ sum +ℤ (product +ℤ others) = omega (arith, ints) in
    int_wrap-add_left w128 (sum +ℤ product) others
    ∙ ap (int_wrap w128) regrouped
    ∙ ap (λ rest. int_wrap w128 (sum +ℤ rest)) (sym (at_drop_more (λ left. terms_value values left) terms i d h))
