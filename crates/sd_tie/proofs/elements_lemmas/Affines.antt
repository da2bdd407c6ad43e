-- The value of an affine expression by numbers is its exact value by names.
use Rattle.std.proofs.Common.{◌≡◌, ◌∙◌, ◌⊎◌, inl, inr, ℕ, ℤ, pos, neg_ℤ, ◌-ℤ◌, ◌*ℤ◌, List, [], ◌∷◌, map, Option, Some, None, option_map, unwrap_or, refl, ap, sym, arith}
use Rattle.std.proofs.lemmas.Int.{ints}
use Rattle.std.proofs.Math.IntN.{*ℤ_comm}
use Rattle.sd_lex.specs.PlainTree.{Expression, number, named, element_at, one, two, choice, Expressions, no_expression, and_expression, Dimension, index, span}
use Rattle.sd_lex.specs.declared.syntax.operator.OneSign.{OneSign}
use Rattle.sd_lex.specs.declared.syntax.operator.OneSign.TheVariants as one_signs
use Rattle.sd_lex.specs.declared.syntax.operator.TwoSign.{TwoSign}
use Rattle.sd_lex.specs.declared.syntax.operator.TwoSign.TheVariants as two_signs
use Rattle.sd_range.specs.Affine.{affine_value, variable_value}
use Rattle.sd_range.specs.Arithmetic.{combined, affine_zero, affine_difference, affine_product}
use Rattle.sd_range.specs.Range.{range_values, stepped}
use Rattle.sd_range.specs.declared.affine.Affine.{Affine}
use Rattle.sd_range.proofs.SubsetLaws.{index-range}
use Rattle.sd_range.proofs.AffineLaws.{affine_value-sum, affine_value-difference, affine_value-product}
use Rattle.sd_program.specs.Names.{Name, Named, in_force}
use Rattle.sd_program.specs.Affines.{affine_number, affine_variable, affine_name, product_of, affine_one, affine_two, affine_of, affines_of}
use Rattle.sd_program.specs.IsAffine.{HasNoName, MayJoin, IsAffine}
use Rattle.sd_program.specs.Bounds.{EachExpression, IfWritten, EachEnd, EachDimension}
use Rattle.sd_task.specs.in_force.Ranges.{affine_or, range_of}
use Rattle.sd_says.specs.Exact.{variable_in, exact_one, exact_two, exact, exact_all, exact_or, step_or_one, range_in, ranges_in}
use Rattle.sd_says.specs.Setting.{with_each}
use Rattle.sd_tie.proofs.elements_lemmas.Lookups.{in_force_made}

pub number_value : (values : List ℤ) (value : ℤ) → affine_value values (affine_number value) ≡ value
number_value values value = omega (arith, ints)

one_variable : (values : List ℤ) (variable : ℕ) → affine_value values (affine_variable variable) ≡ variable_value values variable
one_variable values variable = omega (arith, ints)

pub zero_value : (values : List ℤ) → affine_value values affine_zero ≡ pos 0
zero_value values = omega (arith, ints)

name_value : (values : List ℤ) (found : Option ℕ) → affine_value values (affine_name found) ≡ unwrap_or (option_map (variable_value values) found) (pos 0)
name_value values None = zero_value values
name_value values (Some variable) = one_variable values variable

named_exact : (values : List ℤ) (variables : Named ℕ) (name : Name) → affine_value values (affine_name (in_force variables name)) ≡ variable_in (with_each (variable_value values) variables) name
named_exact values variables name = name_value values (in_force variables name) ∙ ap (λ found. unwrap_or found (pos 0)) (sym (in_force_made (variable_value values) variables name))

-- ---- without a name there is no term

no_terms_one : (sign : OneSign) (a : Affine) → a.terms ≡ [] → (affine_one sign a).terms ≡ []
no_terms_one one_signs.Not a e = refl
no_terms_one one_signs.Neg a e = ap (λ terms. (affine_product (neg_ℤ (pos 1)) (record { constant = a.constant; terms = terms })).terms) e
no_terms_one one_signs.Inv a e = refl

no_terms_two : (sign : TwoSign) (a b : Affine) → a.terms ≡ [] → b.terms ≡ [] → (affine_two sign a b).terms ≡ []
no_terms_two two_signs.Add a b e f = λ i. combined (e i) (pos 1) (f i)
no_terms_two two_signs.Sub a b e f = λ i. combined (e i) (neg_ℤ (pos 1)) (f i)
no_terms_two two_signs.Mul a b e f = (λ i. (product_of (e i) a b).terms) ∙ ap (λ terms. combined [] a.constant terms) f
no_terms_two sign a b e f = refl

no_terms : (variables : Named ℕ) (expression : Expression) → IsAffine expression → HasNoName expression → (affine_of variables expression).terms ≡ []
no_terms variables (number value) h none = refl
no_terms variables (named name) h none = absurd none
no_terms variables (element_at name at) h none = absurd h
no_terms variables (one sign of) h none = no_terms_one sign (affine_of variables of) (no_terms variables of h.1 none)
no_terms variables (two sign left right) h none =
    no_terms_two sign (affine_of variables left) (affine_of variables right) (no_terms variables left h.1.0 none.0) (no_terms variables right h.1.1 none.1)
no_terms variables (choice value when other) h none = absurd h

-- ---- signs

one_exact : (sign : OneSign) (a : Affine) (values : List ℤ) → affine_value values (affine_one sign a) ≡ exact_one sign (affine_value values a)
one_exact one_signs.Not a values = zero_value values
one_exact one_signs.Neg a values = affine_value-product (neg_ℤ (pos 1)) a values ∙ omega (arith, ints)
one_exact one_signs.Inv a values = zero_value values

constant_value : (a : Affine) (values : List ℤ) → a.terms ≡ [] → affine_value values a ≡ a.constant
constant_value a values e = ap (λ terms. affine_value values (record { constant = a.constant; terms = terms })) e ∙ number_value values a.constant

product_exact : (a b : Affine) (values : List ℤ) (terms : List (ℕ × ℤ)) → terms ≡ a.terms → ((a.terms ≡ []) ⊎ (b.terms ≡ [])) →
    affine_value values (product_of terms a b) ≡ affine_value values a *ℤ affine_value values b
product_exact a b values [] e h = affine_value-product a.constant b values ∙ ap (λ z. z *ℤ affine_value values b) (sym (constant_value a values (sym e)))
product_exact a b values (term ∷ terms) e (inl h) = cc
product_exact a b values (term ∷ terms) e (inr h) =
    affine_value-product b.constant a values ∙ ap (λ z. z *ℤ affine_value values a) (sym (constant_value b values h)) ∙ *ℤ_comm (affine_value values b) (affine_value values a)

one_side : (variables : Named ℕ) (left right : Expression) → IsAffine left → IsAffine right → HasNoName left ⊎ HasNoName right →
    ((affine_of variables left).terms ≡ []) ⊎ ((affine_of variables right).terms ≡ [])
one_side variables left right h g (inl none) = inl (no_terms variables left h none)
one_side variables left right h g (inr none) = inr (no_terms variables right g none)

two_exact : (sign : TwoSign) (variables : Named ℕ) (left right : Expression) (values : List ℤ) → MayJoin sign left right → IsAffine left → IsAffine right →
    affine_value values (affine_two sign (affine_of variables left) (affine_of variables right))
    ≡ exact_two sign (affine_value values (affine_of variables left)) (affine_value values (affine_of variables right))
two_exact two_signs.Add variables left right values may h g = affine_value-sum (affine_of variables left) (affine_of variables right) values
two_exact two_signs.Sub variables left right values may h g = affine_value-difference (affine_of variables left) (affine_of variables right) values
two_exact two_signs.Mul variables left right values may h g =
    product_exact (affine_of variables left) (affine_of variables right) values (affine_of variables left).terms refl (one_side variables left right h g may)
two_exact sign variables left right values may h g = zero_value values

-- ---- expressions, ranges

pub affine_exact : (values : List ℤ) (variables : Named ℕ) (expression : Expression) → IsAffine expression →
    affine_value values (affine_of variables expression) ≡ exact (with_each (variable_value values) variables) expression
affine_exact values variables (number value) h = number_value values value
affine_exact values variables (named name) h = named_exact values variables name
affine_exact values variables (element_at name at) h = absurd h
affine_exact values variables (one sign of) h = one_exact sign (affine_of variables of) values ∙ ap (exact_one sign) (affine_exact values variables of h.1)
affine_exact values variables (two sign left right) h =
    two_exact sign variables left right values h.0 h.1.0 h.1.1
    ∙ (λ i. exact_two sign (affine_exact values variables left h.1.0 i) (affine_exact values variables right h.1.1 i))
affine_exact values variables (choice value when other) h = absurd h

pub affines_exact : (values : List ℤ) (variables : Named ℕ) (expressions : Expressions) → EachExpression IsAffine expressions →
    map (affine_value values) (affines_of variables expressions) ≡ exact_all (with_each (variable_value values) variables) expressions
affines_exact values variables no_expression h = refl
affines_exact values variables (and_expression first rest) h = λ i. affine_exact values variables first h.0 i ∷ affines_exact values variables rest h.1 i

pub affine_or_exact : (values : List ℤ) (variables : Named ℕ) (other : Affine) (default : ℤ) → affine_value values other ≡ default → (expression : Option Expression) → IfWritten IsAffine expression →
    affine_value values (affine_or other variables expression) ≡ exact_or default (with_each (variable_value values) variables) expression
affine_or_exact values variables other default e None h = e
affine_or_exact values variables other default e (Some expression) h = affine_exact values variables expression h

-- the last value of a range, where the end that is left out has this value
pub last_exact : (values : List ℤ) (variables : Named ℕ) (other : Affine) (default : ℤ) → affine_value values other ≡ default → (end : Option Expression) → IfWritten IsAffine end →
    affine_value values (affine_difference (affine_or other variables end) (affine_number (pos 1))) ≡ exact_or default (with_each (variable_value values) variables) end -ℤ pos 1
last_exact values variables other default e end h =
    affine_value-difference (affine_or other variables end) (affine_number (pos 1)) values
    ∙ (λ i. affine_or_exact values variables other default e end h i -ℤ number_value values (pos 1) i)

pub range_exact : (values : List ℤ) (variables : Named ℕ) (range : Dimension) → EachEnd IsAffine range →
    range_values values (range_of variables range) ≡ range_in (with_each (variable_value values) variables) range
range_exact values variables (index at) h = sym (index-range (affine_of variables at) values) ∙ ap (λ (x : ℤ). x ∷ []) (affine_exact values variables at h)
range_exact values variables (span begin end step) h =
    λ i. stepped (affine_or_exact values variables affine_zero (pos 0) (zero_value values) begin h.0 i) (last_exact values variables affine_zero (pos 0) (zero_value values) end h.1 i) (step_or_one step)

pub ranges_exact : (values : List ℤ) (variables : Named ℕ) (ranges : List Dimension) → EachDimension IsAffine ranges →
    map (range_values values) (map (range_of variables) ranges) ≡ ranges_in (with_each (variable_value values) variables) ranges
ranges_exact values variables [] h = refl
ranges_exact values variables (first ∷ rest) h = λ i. range_exact values variables first h.0 i ∷ ranges_exact values variables rest h.1 i
