-- The laws of affine expressions.
use Rattle.std.specs.List.{All, AllByRecursion}
use Rattle.std.proofs.lemmas.List.Elements.{recursion_from_All}
use Rattle.std.proofs.Common.{◌≡◌, ◌≢◌, zero, suc, sym, ℕ, ◌<◌, ℤ, pos, neg_ℤ, ◌+ℤ◌, ◌-ℤ◌, ◌*ℤ◌, List, [], ◌∷◌, ◌++◌, not, nat_eq, length, replicate, slice_set, refl, ap, ◌∙◌, arith}
use Rattle.std.specs.List.{filter}
use Rattle.std.proofs.lemmas.Bool.{eq-eqb, ne_eqb}
use Rattle.std.proofs.lemmas.Int.{ints}
use Rattle.std.proofs.lemmas.List.{get_or-set_same, get_or-set_other, get_or_at, get_or_append_left, get_or-replicate, get_or_past, length-replicate, length_push}
use Rattle.std.proofs.Math.IntN.{*ℤ-zero, zero-*ℤ}
use Rattle.sd_range.specs.Terms.{IsNormal, coefficient_of}
use Rattle.sd_range.specs.Affine.{variable_value, terms_value, affine_value}
use Rattle.sd_range.specs.Arithmetic.{put_before, plus_term, combined, combination, affine_zero, affine_sum, affine_difference, affine_product, without, substituted}
use Rattle.sd_range.specs.declared.affine.Affine.{Affine}
use Rattle.sd_range.proofs.Products.{*ℤ_assoc, *ℤ_distrib, *ℤ_distrib_left}
use Rattle.sd_range.proofs.Normal.{by_zero, by_order, by_same, put_before-zero, put_before-other, plus_term-before, plus_term-same, plus_term-after}
use Rattle.sd_range.proofs.Coefficients.{coefficient_of-first, coefficient_of-rest, coefficient_of-after, same_coefficients}
use Rattle.sd_range.proofs.Same.{same_parts}

-- a term before others adds its value
terms_value-put_before : (variable : ℕ) (coefficient : ℤ) (terms : List (ℕ × ℤ)) (values : List ℤ) →
    terms_value values (put_before variable coefficient terms) ≡ terms_value values terms +ℤ (coefficient *ℤ variable_value values variable)
terms_value-put_before variable coefficient terms values =
    by_zero coefficient
    (λ is. rw (put_before-zero variable coefficient terms is, is) (omega (arith, ints)))
    (λ other. rw (put_before-other variable coefficient terms other) (omega (arith, ints)))

-- a term more adds its value
pub terms_value-plus_term : (terms : List (ℕ × ℤ)) (variable : ℕ) (coefficient : ℤ) (values : List ℤ) →
    terms_value values (plus_term terms variable coefficient) ≡ terms_value values terms +ℤ (coefficient *ℤ variable_value values variable)
terms_value-plus_term [] variable coefficient values = terms_value-put_before variable coefficient [] values
terms_value-plus_term (term ∷ terms) variable coefficient values =
    by_order variable term.0
    (λ is. ap (λ all. terms_value values all) (plus_term-before term terms variable coefficient is) ∙ terms_value-put_before variable coefficient (term ∷ terms) values)
    (λ is. ap (λ all. terms_value values all) (plus_term-same term terms variable coefficient is)
    ∙ terms_value-put_before variable (term.1 +ℤ coefficient) terms values
    ∙ rw (← is) (omega (arith, ints, *ℤ_distrib term.1 coefficient (variable_value values variable))))
    (λ is. ap (λ all. terms_value values all) (plus_term-after term terms variable coefficient is)
    ∙ omega (arith, ints, terms_value-plus_term terms variable coefficient values))

-- the value of a combination is the combination of the values
pub terms_value-combined : (terms : List (ℕ × ℤ)) (factor : ℤ) (others : List (ℕ × ℤ)) (values : List ℤ) →
    terms_value values (combined terms factor others) ≡ terms_value values terms +ℤ (factor *ℤ terms_value values others)
terms_value-combined terms factor [] values = omega (arith, ints, *ℤ-zero factor)
terms_value-combined terms factor (other ∷ others) values =
    let product = other.1 *ℤ variable_value values other.0 in
    let later = terms_value values others in
    terms_value-plus_term (combined terms factor others) other.0 (factor *ℤ other.1) values
    ∙ omega (arith, ints, terms_value-combined terms factor others values, *ℤ_assoc factor other.1 (variable_value values other.0), *ℤ_distrib_left factor product later)

-- the value of a combination of expressions
pub affine_value-combination : (a : Affine) (factor : ℤ) (b : Affine) (values : List ℤ) →
    affine_value values (combination a factor b) ≡ affine_value values a +ℤ (factor *ℤ affine_value values b)
affine_value-combination a factor b values =
    omega (arith, ints, terms_value-combined a.terms factor b.terms values, *ℤ_distrib_left factor b.constant (terms_value values b.terms))

-- the value of a sum
pub affine_value-sum : (a b : Affine) (values : List ℤ) → affine_value values (affine_sum a b) ≡ affine_value values a +ℤ affine_value values b
affine_value-sum a b values = affine_value-combination a (pos 1) b values ∙ omega (arith, ints)

-- the value of a difference
pub affine_value-difference : (a b : Affine) (values : List ℤ) → affine_value values (affine_difference a b) ≡ affine_value values a -ℤ affine_value values b
affine_value-difference a b values = affine_value-combination a (neg_ℤ (pos 1)) b values ∙ omega (arith, ints)

-- the value of a product
pub affine_value-product : (factor : ℤ) (a : Affine) (values : List ℤ) → affine_value values (affine_product factor a) ≡ factor *ℤ affine_value values a
affine_value-product factor a values = affine_value-combination affine_zero factor a values ∙ omega (arith, ints)

-- with a value set the terms have the value of those of other variables, and the coefficient times that value
terms_value-set : (terms : List (ℕ × ℤ)) (variable : ℕ) (values : List ℤ) (value : ℤ) → IsNormal terms → variable < length values →
    terms_value (slice_set values variable value) terms
    ≡ terms_value values (filter (λ term. not (nat_eq term.0 variable)) terms) +ℤ (coefficient_of terms variable *ℤ value)
terms_value-set [] variable values value normal known = omega (arith, ints, zero-*ℤ value)
terms_value-set (term ∷ terms) variable values value normal known =
    by_same term.0 variable
    (λ is.
    let here : variable_value (slice_set values variable value) term.0 ≡ value = rw is (get_or-set_same values variable value (pos 0) known) in
    let none : coefficient_of terms variable *ℤ value ≡ pos 0 = ap (λ n. n *ℤ value) (coefficient_of-after term terms variable normal is) ∙ zero-*ℤ value in
    rw (eq-eqb term.0 variable is, here) (omega (arith, ints, terms_value-set terms variable values value normal.2 known)))
    (λ is.
    let there : variable_value (slice_set values variable value) term.0 ≡ variable_value values term.0 = get_or-set_other values variable term.0 value (pos 0) is in
    rw (ne_eqb term.0 variable is, there) (omega (arith, ints, terms_value-set terms variable values value normal.2 known)))

-- the value where an expression stands for a variable
pub affine_value-substituted : (variable : ℕ) (by a : Affine) (values : List ℤ) → IsNormal a.terms → variable < length values →
    affine_value values (substituted variable by a) ≡ affine_value (slice_set values variable (affine_value values by)) a
affine_value-substituted variable by a values normal known =
    affine_value-combination (without variable a) (coefficient_of a.terms variable) by values
    ∙ omega (arith, ints, terms_value-set a.terms variable values (affine_value values by) normal known)

-- the values under which one variable is 1 and the others are 0
abbrev unit : ℕ → List ℤ
unit variable = replicate variable (pos 0) ++ pos 1 ∷ []

-- the variable is 1
unit-own : (variable : ℕ) → variable_value (unit variable) variable ≡ pos 1
unit-own variable = get_or_at (replicate variable (pos 0)) (pos 1) [] (pos 0) variable (length-replicate variable (pos 0))

-- each other one is 0
unit-other : (variable other : ℕ) → other ≢ variable → variable_value (unit variable) other ≡ pos 0
unit-other variable other none =
    by_order other variable
    (λ before. let within : other < length (replicate variable (pos 0)) = rw (length-replicate variable (pos 0)) before in
    get_or_append_left (replicate variable (pos 0)) (pos 1 ∷ []) (pos 0) other within ∙ get_or-replicate variable other (pos 0) (pos 0) before)
    (λ is. absurd (none is))
    (λ after. get_or_past (unit variable) other (pos 0) (rw (length_push (replicate variable (pos 0)) (pos 1), length-replicate variable (pos 0)) (omega arith)))

-- under those values the terms have the value of the coefficient
terms_value-unit : (terms : List (ℕ × ℤ)) (variable : ℕ) → IsNormal terms → terms_value (unit variable) terms ≡ coefficient_of terms variable
terms_value-unit [] variable normal = refl
terms_value-unit (term ∷ terms) variable normal =
    by_same term.0 variable
    (λ is.
    let own : variable_value (unit variable) term.0 ≡ pos 1 = rw is (unit-own variable) in
    let none : coefficient_of terms variable ≡ pos 0 = coefficient_of-after term terms variable normal is in
    rw (own, coefficient_of-first term terms variable is) (omega (arith, ints, terms_value-unit terms variable normal.2)))
    (λ is. rw (unit-other variable term.0 is, coefficient_of-rest term terms variable is) (omega (arith, ints, terms_value-unit terms variable normal.2)))

-- without values the terms have the value 0
terms_value-none : (terms : List (ℕ × ℤ)) → terms_value [] terms ≡ pos 0
terms_value-none [] = refl
terms_value-none (term ∷ terms) = rw (terms_value-none terms) (omega (arith, ints, *ℤ-zero term.1))

-- where all values are one the constants are
same_constants : (a b : Affine) → ((values : List ℤ) → affine_value values a ≡ affine_value values b) → a.constant ≡ b.constant
same_constants a b same = omega (arith, ints, same [], terms_value-none a.terms, terms_value-none b.terms)

-- where all values are one the expressions are, in normal form
pub same_values : (a b : Affine) → IsNormal a.terms → IsNormal b.terms → ((values : List ℤ) → affine_value values a ≡ affine_value values b) → a ≡ b
same_values a b normal normal' same =
    let constant : a.constant ≡ b.constant = same_constants a b same in
    same_parts a b constant
    (same_coefficients a.terms b.terms normal normal'
    (λ variable. omega (arith, ints, same (unit variable), terms_value-unit a.terms variable normal, terms_value-unit b.terms variable normal')))

-- so many values: those given, and 0 for each that is wanting
abbrev resized : ℕ → List ℤ → List ℤ
resized zero values = []
resized (suc count) [] = pos 0 ∷ resized count []
resized (suc count) (value ∷ values) = value ∷ resized count values

length-resized : (count : ℕ) (values : List ℤ) → length (resized count values) ≡ count
length-resized zero values = refl
length-resized (suc count) [] = ap suc (length-resized count [])
length-resized (suc count) (value ∷ values) = ap suc (length-resized count values)

-- each variable below that number keeps its value
variable_value-resized : (count : ℕ) (values : List ℤ) (variable : ℕ) → variable < count → variable_value (resized count values) variable ≡ variable_value values variable
variable_value-resized zero values variable below = absurd (omega arith)
variable_value-resized (suc count) [] zero below = refl
variable_value-resized (suc count) [] (suc variable) below = variable_value-resized count [] variable (omega arith)
variable_value-resized (suc count) (value ∷ values) zero below = refl
variable_value-resized (suc count) (value ∷ values) (suc variable) below = variable_value-resized count values variable (omega arith)

-- and so do terms of such variables
terms_value-resized : (count : ℕ) (terms : List (ℕ × ℤ)) (values : List ℤ) → AllByRecursion (λ term. term.0 < count) terms → terms_value (resized count values) terms ≡ terms_value values terms
terms_value-resized count [] values known = refl
terms_value-resized count (term ∷ terms) values known =
    ap (λ value. (term.1 *ℤ value) +ℤ terms_value (resized count values) terms) (variable_value-resized count values term.0 known.0)
    ∙ ap (λ rest. (term.1 *ℤ variable_value values term.0) +ℤ rest) (terms_value-resized count terms values known.1)

affine_value-resized : (count : ℕ) (a : Affine) (values : List ℤ) → All (λ term. term.0 < count) a.terms → affine_value (resized count values) a ≡ affine_value values a
affine_value-resized count a values known = ap (λ rest. a.constant +ℤ rest) (terms_value-resized count a.terms values (recursion_from_All (λ term. term.0 < count) a.terms known))

-- it is enough that the values are one where each variable of both has one
pub same_known_values : (a b : Affine) (count : ℕ) → IsNormal a.terms → IsNormal b.terms → All (λ term. term.0 < count) a.terms → All (λ term. term.0 < count) b.terms →
    ((values : List ℤ) → length values ≡ count → affine_value values a ≡ affine_value values b) → a ≡ b
same_known_values a b count normal normal' known known' same =
    same_values a b normal normal'
    (λ values. sym (affine_value-resized count a values known) ∙ same (resized count values) (length-resized count values) ∙ affine_value-resized count b values known')
