-- Affine places in exact whole numbers: subscripts, extents, bounds and the ranges of maps.
use Rattle.std.specs.Prelude.{ℕ, ℤ, pos, neg_ℤ, ◌+ℤ◌, ◌-ℤ◌, ◌*ℤ◌, List, [], ◌∷◌, map, Option, Some, None, unsigned_abs, unwrap_or}
use Rattle.sd_lex.specs.PlainTree.{Expression, number, named, element_at, one, two, choice, Expressions, no_expression, and_expression, Dimension, index, span}
use Rattle.sd_lex.specs.declared.syntax.operator.OneSign.{OneSign}
use Rattle.sd_lex.specs.declared.syntax.operator.OneSign.TheVariants.{Neg}
use Rattle.sd_lex.specs.declared.syntax.operator.TwoSign.{TwoSign}
use Rattle.sd_lex.specs.declared.syntax.operator.TwoSign.TheVariants.{Add, Sub, Mul}
use Rattle.sd_range.specs.Range.{stepped}
use Rattle.sd_program.specs.Names.{Name, Named, in_force}

-- the value of a variable; one that is not in force is 0
abbrev pub variable_in : Named ℤ → Name → ℤ
variable_in variables name = unwrap_or (in_force variables name) (pos 0)

abbrev pub exact_one : OneSign → ℤ → ℤ
exact_one Neg value = neg_ℤ value
exact_one sign value = pos 0

abbrev pub exact_two : TwoSign → (left right : ℤ) → ℤ
exact_two Add left right = left +ℤ right
exact_two Sub left right = left -ℤ right
exact_two Mul left right = left *ℤ right
exact_two sign left right = pos 0

-- the value of an affine expression; what stands in no affine expression counts as 0
abbrev pub exact : Named ℤ → Expression → ℤ
exact variables (number value) = value
exact variables (named name) = variable_in variables name
exact variables (element_at name at) = pos 0
exact variables (one sign of) = exact_one sign (exact variables of)
exact variables (two sign left right) = exact_two sign (exact variables left) (exact variables right)
exact variables (choice value when other) = pos 0

abbrev pub exact_all : Named ℤ → Expressions → List ℤ
exact_all variables no_expression = []
exact_all variables (and_expression first rest) = exact variables first ∷ exact_all variables rest

-- an expression that may be left out
abbrev pub exact_or : ℤ → Named ℤ → Option Expression → ℤ
exact_or other variables None = other
exact_or other variables (Some expression) = exact variables expression

-- a step is 1 where none is written
abbrev pub step_or_one : Option ℤ → ℤ
step_or_one step = unwrap_or step (pos 1)

-- the extents of an array; where none is written there is one of 1
abbrev pub extents_in : Named ℤ → Expressions → List ℕ
extents_in variables no_expression = 1 ∷ []
extents_in variables (and_expression first rest) = map unsigned_abs (exact_all variables (and_expression first rest))

-- the values of a map's range, whose end is left out
abbrev pub range_in : Named ℤ → Dimension → List ℤ
range_in variables (index at) = exact variables at ∷ []
range_in variables (span begin end step) = stepped (exact_or (pos 0) variables begin) (exact_or (pos 0) variables end -ℤ pos 1) (step_or_one step)

abbrev pub ranges_in : Named ℤ → List Dimension → List (List ℤ)
ranges_in variables ranges = map (range_in variables) ranges
