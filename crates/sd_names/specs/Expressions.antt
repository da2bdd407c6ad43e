-- What stands in an expression: its names, its elements, and whether it is affine.
use Rattle.std.specs.Prelude.{ℕ, ◌+◌, pos, neg_ℤ, List, [], ◌∷◌, ◌++◌, map, Bool, true, false, not, ◌&&◌, ◌||◌, Option, Some, None, is_none}
use Rattle.std.specs.List.{flat_map}
use Rattle.sd_range.specs.declared.affine.Affine.{Affine}
use Rattle.sd_range.specs.Arithmetic.{affine_zero, affine_sum, affine_difference, affine_product}
use Rattle.sd_lex.specs.declared.syntax.operator.OneSign.{OneSign}
use Rattle.sd_lex.specs.declared.syntax.operator.OneSign.TheVariants.{Neg}
use Rattle.sd_lex.specs.declared.syntax.operator.TwoSign.{TwoSign}
use Rattle.sd_lex.specs.declared.syntax.operator.TwoSign.TheVariants.{Add, Sub, Mul}
use Rattle.sd_lex.specs.PlainTree.{Expression, number, named, element_at, one, two, choice, Expressions, no_expression, and_expression, Dimension, index, span}
use Rattle.sd_names.specs.declared.meaning.Meaning.{Meaning}
use Rattle.sd_names.specs.Names.{Name, Names, place_of}
use Rattle.sd_names.specs.Limits.{if_within}

abbrev pub count_of : Expressions → ℕ
count_of no_expression = 0
count_of (and_expression first rest) = count_of rest + 1

abbrev pub expression_list : Expressions → List Expression
expression_list no_expression = []
expression_list (and_expression first rest) = first ∷ expression_list rest

abbrev mutual
  -- a name that stands alone passes the one test, or one before so many subscripts the other
  pub any_name : (alone : Name → Bool) → (subscripted : Name → ℕ → Bool) → Expression → Bool
  any_name alone subscripted (number value) = false
  any_name alone subscripted (named name) = alone name
  any_name alone subscripted (element_at name at) = subscripted name (count_of at) || any_name_of alone subscripted at
  any_name alone subscripted (one sign of) = any_name alone subscripted of
  any_name alone subscripted (two sign left right) = any_name alone subscripted left || any_name alone subscripted right
  any_name alone subscripted (choice value when other) = any_name alone subscripted value || any_name alone subscripted when || any_name alone subscripted other

  pub any_name_of : (alone : Name → Bool) → (subscripted : Name → ℕ → Bool) → Expressions → Bool
  any_name_of alone subscripted no_expression = false
  any_name_of alone subscripted (and_expression first rest) = any_name alone subscripted first || any_name_of alone subscripted rest

abbrev pub has_name : Expression → Bool
has_name = any_name (λ name. true) (λ name count. true)

abbrev mutual
  -- an affine place of the expression, that is a subscript of an element, passes the test
  pub any_subscript : (Expression → Bool) → Expression → Bool
  any_subscript test (number value) = false
  any_subscript test (named name) = false
  any_subscript test (element_at name at) = any_of test at
  any_subscript test (one sign of) = any_subscript test of
  any_subscript test (two sign left right) = any_subscript test left || any_subscript test right
  any_subscript test (choice value when other) = any_subscript test value || any_subscript test when || any_subscript test other

  pub any_of : (Expression → Bool) → Expressions → Bool
  any_of test no_expression = false
  any_of test (and_expression first rest) = test first || any_of test rest

-- how many elements stand in an expression, those in subscripts aside
abbrev pub element_count : Expression → ℕ
element_count (number value) = 0
element_count (named name) = 0
element_count (element_at name at) = 1
element_count (one sign of) = element_count of
element_count (two sign left right) = element_count left + element_count right
element_count (choice value when other) = element_count value + element_count when + element_count other

abbrev pub by_sign : {A : Type 0} → OneSign → (negated other : A) → A
by_sign Neg negated other = negated
by_sign sign negated other = other

abbrev pub by_signs : {A : Type 0} → TwoSign → (sum difference product other : A) → A
by_signs Add sum difference product other = sum
by_signs Sub sum difference product other = difference
by_signs Mul sum difference product other = product
by_signs sign sum difference product other = other

-- numbers and names with +, -, and * where one side has no name
abbrev pub is_affine : Expression → Bool
is_affine (number value) = true
is_affine (named name) = true
is_affine (element_at name at) = false
is_affine (one sign of) = by_sign sign (is_affine of) false
is_affine (two sign left right) =
    let both = is_affine left && is_affine right in
    by_signs sign both both (both && not (has_name left && has_name right)) false
is_affine (choice value when other) = false

abbrev pub is_rough : Expression → Bool
is_rough e = not (is_affine e)

abbrev pub product_of : (is_left_a_number : Bool) → Affine → Affine → Affine
product_of true left right = affine_product left.constant right
product_of false left right = affine_product right.constant left

-- what two expressions come to with the sign between them; other signs than those of affine expressions give zero
abbrev pub joined : TwoSign → (is_left_a_number : Bool) → Affine → Affine → Affine
joined sign is_left_a_number left right = by_signs sign (affine_sum left right) (affine_difference left right) (product_of is_left_a_number left right) affine_zero

abbrev pub after_value : Option Affine → (Affine → Option Affine) → Option Affine
after_value None next = None
after_value (Some a) next = next a

-- the normal form of an affine expression, in which a variable is named by its place among the names in force; None where a part of it passes the limits
abbrev pub affine_of : List (Name × Meaning) → Expression → Option Affine
affine_of names (number value) = if_within (record { constant = value; terms = [] })
affine_of names (named name) = Some (record { constant = pos 0; terms = (place_of names name, pos 1) ∷ [] })
affine_of names (element_at name at) = Some affine_zero
affine_of names (one sign of) = after_value (affine_of names of) (λ a. if_within (affine_product (neg_ℤ (pos 1)) a))
affine_of names (two sign left right) =
    after_value (affine_of names left) (λ a. after_value (affine_of names right) (λ b. if_within (joined sign (not (has_name left)) a b)))
affine_of names (choice value when other) = Some affine_zero

abbrev pub value_or_zero : Option Affine → Affine
value_or_zero None = affine_zero
value_or_zero (Some a) = a

abbrev pub value_of : List (Name × Meaning) → Expression → Affine
value_of names e = value_or_zero (affine_of names e)

-- a part of the expression passes the limits
abbrev pub is_wide : List (Name × Meaning) → Expression → Bool
is_wide names e = is_none (affine_of names e)

abbrev pub optional : {A : Type 0} → Option A → List A
optional None = []
optional (Some a) = a ∷ []

-- the affine places of a dimension
abbrev pub expressions_of_dimension : Dimension → List Expression
expressions_of_dimension (index at) = at ∷ []
expressions_of_dimension (span begin end step) = optional begin ++ optional end

abbrev pub expressions_of_dimensions : List Dimension → List Expression
expressions_of_dimensions dimensions = flat_map expressions_of_dimension dimensions

-- the values of the extents of a container
abbrev pub affine_list : Names → Expressions → List Affine
affine_list names extents = map (value_of names.meanings) (expression_list extents)
