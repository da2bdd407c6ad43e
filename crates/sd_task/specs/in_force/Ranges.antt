-- Ranges and extents by the numbers of variables.
use Rattle.std.specs.Prelude.{ℕ, ◌+◌, ℤ, pos, List, [], ◌∷◌, Option, Some, None, unwrap_or}
use Rattle.sd_lex.specs.PlainTree.{Expression, Expressions, no_expression, and_expression, Dimension, index, span}
use Rattle.sd_range.specs.Arithmetic.{affine_zero, affine_difference}
use Rattle.sd_range.specs.declared.affine.Affine.{Affine}
use Rattle.sd_range.specs.declared.range.Range.{Range}
use Rattle.sd_program.specs.Names.{Named}
use Rattle.sd_program.specs.Affines.{affine_number, affine_of, affines_of}

-- an expression that may be left out
abbrev pub affine_or : Affine → Named ℕ → Option Expression → Affine
affine_or other variables None = other
affine_or other variables (Some expression) = affine_of variables expression

-- the values from a begin on that are below an end; the step is 1 where none is written
abbrev pub range_between : (begin : Affine) → (end : Affine) → (step : Option ℤ) → Range
range_between begin end step = record { begin = begin; ends = affine_difference end (affine_number (pos 1)) ∷ []; step = unwrap_or step (pos 1) }

-- the range of a map's parameter; a begin that is left out is 0
abbrev pub range_of : Named ℕ → Dimension → Range
range_of variables (index at) = record { begin = affine_of variables at; ends = affine_of variables at ∷ []; step = pos 1 }
range_of variables (span begin end step) = range_between (affine_or affine_zero variables begin) (affine_or affine_zero variables end) step

-- the parameters of a map with their ranges: the first is the variable of this number
abbrev pub parameters_of : Named ℕ → List Dimension → (variable : ℕ) → List (ℕ × Range)
parameters_of variables [] variable = []
parameters_of variables (first ∷ rest) variable = (variable, range_of variables first) ∷ parameters_of variables rest (variable + 1)

-- the extents of an array; where none is written there is one of 1
abbrev pub extents_of : Named ℕ → Expressions → List Affine
extents_of symbols no_expression = affine_number (pos 1) ∷ []
extents_of symbols (and_expression first rest) = affines_of symbols (and_expression first rest)
