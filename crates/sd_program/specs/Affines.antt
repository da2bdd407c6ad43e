-- Affine expressions by the numbers of their variables.
use Rattle.std.specs.Prelude.{ℕ, ℤ, pos, neg_ℤ, List, [], ◌∷◌, Option, Some, None}
use Rattle.sd_lex.specs.PlainTree.{Expression, number, named, element_at, one, two, choice, Expressions, no_expression, and_expression}
use Rattle.sd_lex.specs.declared.syntax.operator.OneSign.{OneSign}
use Rattle.sd_lex.specs.declared.syntax.operator.OneSign.TheVariants.{Neg}
use Rattle.sd_lex.specs.declared.syntax.operator.TwoSign.{TwoSign}
use Rattle.sd_lex.specs.declared.syntax.operator.TwoSign.TheVariants.{Add, Sub, Mul}
use Rattle.sd_range.specs.Arithmetic.{affine_zero, affine_sum, affine_difference, affine_product}
use Rattle.sd_range.specs.declared.affine.Affine.{Affine}
use Rattle.sd_program.specs.Names.{Named, in_force}

abbrev pub affine_number : ℤ → Affine
affine_number value = record { constant = value; terms = [] }

abbrev pub affine_variable : ℕ → Affine
affine_variable variable = record { constant = pos 0; terms = (variable, pos 1) ∷ [] }

-- a variable in force; what is not in force is 0
abbrev pub affine_name : Option ℕ → Affine
affine_name None = affine_zero
affine_name (Some variable) = affine_variable variable

-- the product where one side has no variable; these are the terms of the left one
abbrev pub product_of : List (ℕ × ℤ) → Affine → Affine → Affine
product_of [] left right = affine_product left.constant right
product_of (term ∷ terms) left right = affine_product right.constant left

abbrev pub affine_one : OneSign → Affine → Affine
affine_one Neg of = affine_product (neg_ℤ (pos 1)) of
affine_one sign of = affine_zero

abbrev pub affine_two : TwoSign → Affine → Affine → Affine
affine_two Add left right = affine_sum left right
affine_two Sub left right = affine_difference left right
affine_two Mul left right = product_of left.terms left right
affine_two sign left right = affine_zero

-- an affine expression; what is none counts as 0
abbrev pub affine_of : Named ℕ → Expression → Affine
affine_of variables (number value) = affine_number value
affine_of variables (named name) = affine_name (in_force variables name)
affine_of variables (element_at name at) = affine_zero
affine_of variables (one sign of) = affine_one sign (affine_of variables of)
affine_of variables (two sign left right) = affine_two sign (affine_of variables left) (affine_of variables right)
affine_of variables (choice value when other) = affine_zero

abbrev pub affines_of : Named ℕ → Expressions → List Affine
affines_of variables no_expression = []
affines_of variables (and_expression first rest) = affine_of variables first ∷ affines_of variables rest
