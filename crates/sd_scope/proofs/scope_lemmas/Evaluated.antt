-- The value of an expression, term after term.
use Rattle.std.proofs.Common.{◌≡◌, ℕ, ◌+◌, ◌<◌, ℤ, ◌+ℤ◌, ◌*ℤ◌, ap, sym, ◌∙◌, arith, List, length, drop, get_or}
use Rattle.std.proofs.lemmas.Int.{ints}
use Rattle.std.proofs.lemmas.List.{at_drop_more}
use Rattle.sd_range.specs.Affine.{terms_value, variable_value}

-- a term that goes into the sum leaves those that are left
pub sum_next : (sum next all : ℤ) (terms : List (ℕ × ℤ)) (values : List ℤ) (i : ℕ) (d : ℕ × ℤ) → i < length terms →
    next ≡ sum +ℤ ((get_or terms i d).1 *ℤ variable_value values (get_or terms i d).0) →
    sum +ℤ terms_value values (drop i terms) ≡ all → next +ℤ terms_value values (drop (i + 1) terms) ≡ all
sum_next sum next all terms values i d below is left =
    let product = (get_or terms i d).1 *ℤ variable_value values (get_or terms i d).0 in
    let others = terms_value values (drop (i + 1) terms) in
    let regrouped : (sum +ℤ product) +ℤ others ≡ sum +ℤ (product +ℤ others) = omega (arith, ints) in
    ap (λ first. first +ℤ others) is
    ∙ regrouped
    ∙ ap (λ rest. sum +ℤ rest) (sym (at_drop_more (λ left. terms_value values left) terms i d below))
    ∙ left
