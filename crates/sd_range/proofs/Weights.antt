-- Sums, products and values of small expressions are small.
use Rattle.std.proofs.Common.{◌≡◌, ℕ, ◌+◌, ◌*◌, ◌<◌, ◌≤◌, ◌^◌, ℤ, pos, ◌+ℤ◌, ◌*ℤ◌, List, [], ◌∷◌, length, inl, inr, unsigned_abs, sym, subst, arith, FitsSigned, rules}
use Rattle.std.specs.Int.{w128}
use Rattle.std.specs.List.{All}
use Rattle.std.proofs.lemmas.Int.{ints, unsigned_abs-mul, fits_signed_from_abs}
use Rattle.std.proofs.lemmas.Nat.{mul-le}
use Rattle.std.proofs.lemmas.Bool.{cases_lt, eq-eqb, ne_eqb}
use Rattle.std.proofs.lemmas.List.{get_or_past}
use Rattle.std.proofs.lemmas.List.Elements.{All-get_or}
use Rattle.sd_range.specs.Affine.{variable_value, terms_value, affine_value, IsEvaluable}
use Rattle.sd_range.specs.Terms.{coefficient_of}
use Rattle.sd_range.specs.Arithmetic.{put_before, plus_term, combined, combination, others_of, IsRepresentable}
use Rattle.sd_range.specs.Weight.{weight_of}
use Rattle.sd_range.specs.declared.affine.Affine.{Affine}
use Rattle.sd_range.proofs.Normal.{by_zero, by_order, by_same, put_before-zero, put_before-other, plus_term-before, plus_term-same, plus_term-after}

-- a sum is no larger than its parts together
pub abs_sum : (a b : ℤ) → unsigned_abs (a +ℤ b) ≤ unsigned_abs a + unsigned_abs b
abs_sum a b = omega (arith, ints)

-- a term before others weighs no more
weight-put_before : (variable : ℕ) (coefficient : ℤ) (terms : List (ℕ × ℤ)) → weight_of (put_before variable coefficient terms) ≤ unsigned_abs coefficient + weight_of terms
weight-put_before variable coefficient terms =
    by_zero coefficient
    (λ is. rw (put_before-zero variable coefficient terms is) (omega arith))
    (λ other. rw (put_before-other variable coefficient terms other) (omega arith))

-- a term more adds no more than its own size
weight-plus_term : (terms : List (ℕ × ℤ)) (variable : ℕ) (coefficient : ℤ) → weight_of (plus_term terms variable coefficient) ≤ weight_of terms + unsigned_abs coefficient
weight-plus_term [] variable coefficient = omega (arith, weight-put_before variable coefficient [])
weight-plus_term (term ∷ terms) variable coefficient =
    by_order variable term.0
    (λ is. rw (plus_term-before term terms variable coefficient is) (omega (arith, weight-put_before variable coefficient (term ∷ terms))))
    (λ is. rw (plus_term-same term terms variable coefficient is)
    (omega (arith, weight-put_before variable (term.1 +ℤ coefficient) terms, abs_sum term.1 coefficient)))
    (λ is. rw (plus_term-after term terms variable coefficient is) (omega (arith, weight-plus_term terms variable coefficient)))

-- the weight of a combination
pub weight-combined : (terms : List (ℕ × ℤ)) (factor : ℤ) (others : List (ℕ × ℤ)) → weight_of (combined terms factor others) ≤ weight_of terms + unsigned_abs factor * weight_of others
weight-combined terms factor [] = omega arith
weight-combined terms factor (other ∷ others) =
    omega (arith, weight-combined terms factor others, weight-plus_term (combined terms factor others) other.0 (factor *ℤ other.1), unsigned_abs-mul factor other.1)

-- each coefficient is no larger than the weight
each_below : (terms : List (ℕ × ℤ)) (limit : ℕ) → weight_of terms < limit → All (λ term. unsigned_abs term.1 < limit) terms
each_below [] limit h = search rules
each_below (term ∷ terms) limit h = search (rules, each_below terms limit (omega arith))

-- the value of terms is no larger than their weight times the largest value
pub value_below : (terms : List (ℕ × ℤ)) (values : List ℤ) (most : ℕ) → ((variable : ℕ) → unsigned_abs (variable_value values variable) ≤ most) → unsigned_abs (terms_value values terms) ≤ weight_of terms * most
value_below [] values most h = omega arith
value_below (term ∷ terms) values most h =
    let value = variable_value values term.0 in
    let size = unsigned_abs term.1 in
    let distributed : (size + weight_of terms) * most ≡ size * most + weight_of terms * most = grind arith in
    let own : unsigned_abs (term.1 *ℤ value) ≤ size * most =
    subst (λ n. n ≤ size * most) (sym (unsigned_abs-mul term.1 value)) (mul-le size (unsigned_abs value) size most (omega arith) (h term.0)) in
    rw distributed (omega (arith, own, abs_sum (term.1 *ℤ value) (terms_value values terms), value_below terms values most h))

-- a variable that has no value counts as 0, and so its size is below too
each_value : (values : List ℤ) (most : ℕ) → All (λ value. unsigned_abs value ≤ most) values → (variable : ℕ) → unsigned_abs (variable_value values variable) ≤ most
each_value values most all variable =
    elim (cases_lt variable (length values)) [
      | inl inside ↦ All-get_or (λ value. unsigned_abs value ≤ most) values variable (pos 0) inside all
      | inr past ↦ rw (get_or_past values variable (pos 0) past) (omega arith)
    ]

-- a small expression has a value
pub evaluable : (a : Affine) (values : List ℤ) (most : ℕ) → All (λ term. term.0 < length values) a.terms → All (λ value. unsigned_abs value ≤ most) values → unsigned_abs a.constant + weight_of a.terms * most < 2 ^ 127 → IsEvaluable values a
evaluable a values most known all small =
    let below : unsigned_abs (affine_value values a) < 2 ^ 127 =
    omega (arith, abs_sum a.constant (terms_value values a.terms), value_below a.terms values most (each_value values most all)) in
    record { known = known; fits = fits_signed_from_abs w128 (affine_value values a) below }

-- numbers below the half of the range fit
fits_each : (terms : List (ℕ × ℤ)) → All (λ term. unsigned_abs term.1 < 2 ^ 127) terms → All (λ term. FitsSigned w128 term.1) terms
fits_each [] h = search rules
fits_each (term ∷ terms) h = search rules

-- an expression and a small one so many times
pub representable : (a b : Affine) (factor : ℤ) → unsigned_abs a.constant + unsigned_abs factor * unsigned_abs b.constant < 2 ^ 127 → weight_of a.terms + unsigned_abs factor * weight_of b.terms < 2 ^ 127 → IsRepresentable (combination a factor b)
representable a b factor constants weights =
    let small : unsigned_abs (a.constant +ℤ (factor *ℤ b.constant)) < 2 ^ 127 = omega (arith, abs_sum a.constant (factor *ℤ b.constant), unsigned_abs-mul factor b.constant) in
    let light : weight_of (combined a.terms factor b.terms) < 2 ^ 127 = omega (arith, weight-combined a.terms factor b.terms) in
    record {
      constant = fits_signed_from_abs w128 (a.constant +ℤ (factor *ℤ b.constant)) small;
      terms = fits_each (combined a.terms factor b.terms) (each_below (combined a.terms factor b.terms) (2 ^ 127) light);
    }

-- the constant of a combination
pub constant-combination : (a b : Affine) (factor : ℤ) → unsigned_abs (combination a factor b).constant ≤ unsigned_abs a.constant + unsigned_abs factor * unsigned_abs b.constant
constant-combination a b factor = omega (arith, abs_sum a.constant (factor *ℤ b.constant), unsigned_abs-mul factor b.constant)

-- a coefficient and the terms of other variables weigh no more than all
pub weight-parts : (variable : ℕ) (terms : List (ℕ × ℤ)) → unsigned_abs (coefficient_of terms variable) + weight_of (others_of variable terms) ≤ weight_of terms
weight-parts variable [] = omega arith
weight-parts variable (term ∷ terms) =
    by_same term.0 variable
    (λ is. rw (eq-eqb term.0 variable is) (omega (arith, weight-parts variable terms)))
    (λ other. rw (ne_eqb term.0 variable other) (omega (arith, weight-parts variable terms)))
