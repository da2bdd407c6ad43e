-- Copies, reductions and calls whose sides have one shape, whatever numbers the variables have.
use Rattle.std.specs.Prelude.{◌≡◌, ℕ, ℤ, pos, List, [], ◌∷◌, ◌++◌, map, drop, Some, option_map, unwrap_or, true, false, ⊤, bytes_eq}
use Rattle.std.specs.List.{AllByRecursion}
use Rattle.sd_range.specs.declared.affine.Affine.{Affine}
use Rattle.sd_range.specs.Arithmetic.{affine_zero, affine_difference}
use Rattle.sd_lex.specs.PlainTree.{Expression, number, named, element_at, one, two, choice, Expressions, no_expression, and_expression, Dimension, index, span, StatementTree, argument_array, local_array, copy, reduce, map_scope, consume_scope, call, for_loop, Block, no_statement, and_statement, FunctionTree}
use Rattle.sd_lex.specs.StatementKind.{has_connector}
use Rattle.sd_names.specs.Names.{is_among}
use Rattle.sd_names.specs.Expressions.{expression_list}
use Rattle.sd_names.specs.Extents.{or_one}
use Rattle.sd_uses.specs.ShapeMismatch.{first_extent, left_over}
use Rattle.sd_program.specs.Names.{Name, Named, in_force}
use Rattle.sd_program.specs.Affines.{affine_of}
use Rattle.sd_program.specs.Every.{EveryOf}
use Rattle.sd_program.specs.IsAffine.{IsAffine}
use Rattle.sd_task.specs.in_force.Ranges.{affine_or}

-- ---- extents

-- the extents of an array, as they are written; where none is written there is one of 1
abbrev pub extents_written : Expressions → List Expression
extents_written no_expression = number (pos 1) ∷ []
extents_written (and_expression first rest) = expression_list (and_expression first rest)

-- those of the parameters of a program
abbrev pub parameter_extents : Block → List (List Expression)
parameter_extents no_statement = []
parameter_extents (and_statement (argument_array line name bits extents) rest) = extents_written extents ∷ parameter_extents rest
parameter_extents (and_statement statement rest) = parameter_extents rest

abbrev pub extents_of_programs : List FunctionTree → Named (List (List Expression))
extents_of_programs functions = map (λ function. (function.name, parameter_extents function.arguments)) functions

-- each name that stands alone in an expression is one of these
abbrev pub IsOver : List Name → Expression → Type 0
IsOver symbols (number value) = ⊤
IsOver symbols (named name) = is_among symbols name ≡ true
IsOver symbols (element_at name at) = ⊤
IsOver symbols (one sign of) = IsOver symbols of
IsOver symbols (two sign left right) = IsOver symbols left × IsOver symbols right
IsOver symbols (choice value when other) = ⊤

-- affine expressions of these symbols
abbrev pub AreExtents : List Name → List Expression → Type 0
AreExtents symbols extents = AllByRecursion (λ extent. IsAffine extent × IsOver symbols extent) extents

abbrev pub values : Named ℕ → List Expression → List Affine
values variables extents = map (affine_of variables) extents

-- ---- subsets

-- how far it is from the begin of a dimension to its end, and the step; an index has none
abbrev pub stretch_of : Named ℕ → (extent : Affine) → Dimension → List (Affine × ℤ)
stretch_of variables extent (index at) = []
stretch_of variables extent (span begin end step) = (affine_difference (affine_or extent variables end) (affine_or affine_zero variables begin), unwrap_or step (pos 1)) ∷ []

abbrev pub stretches_of : Named ℕ → (extents : List Affine) → List Dimension → List (Affine × ℤ)
stretches_of variables extents [] = []
stretches_of variables extents (dimension ∷ dimensions) = stretch_of variables (first_extent extents) dimension ++ stretches_of variables (drop 1 extents) dimensions

-- those of a subset of an array; where none is written it is the whole
abbrev pub subset_of : Named ℕ → (extents : List Affine) → List Dimension → List (Affine × ℤ)
subset_of variables extents [] = map (λ extent. (extent, pos 1)) extents
subset_of variables extents (dimension ∷ dimensions) = stretches_of variables extents (dimension ∷ dimensions)

-- ---- statements

-- with these size symbols, where arrays have these extents, below these programs
module _ (symbols : List Name) (arrays : Named (List Expression)) (above : List FunctionTree) where
  -- two arrays, with a relation of their extents
  abbrev pub OfTwo : (name other : Name) → (List Expression → List Expression → Type 0) → Type 0
  OfTwo name other Fit = (bytes_eq name other ≡ false)
      × ((first : List Expression) × ((second : List Expression) × ((in_force arrays name ≡ Some first) × ((in_force arrays other ≡ Some second) × Fit first second))))

  -- an argument has steps of 1 and the extents of the parameter
  abbrev pub HasShape : Name × List Dimension → (parameter : List Expression) → Type 0
  HasShape argument parameter = (extents : List Expression) × ((in_force arrays argument.0 ≡ Some extents)
      × ((variables : Named ℕ) → let stretches = subset_of variables (values variables extents) argument.1 in
      AllByRecursion (λ stretch. stretch.1 ≡ pos 1) stretches × (or_one (map (λ stretch. stretch.0) stretches) ≡ values variables parameter)))

  -- so has each argument, and the extents of each parameter are of these size symbols
  abbrev pub HaveShapes : List (Name × List Dimension) → (parameters : List (List Expression)) → Type 0
  HaveShapes [] [] = ⊤
  HaveShapes [] (parameter ∷ parameters) = ⊥
  HaveShapes (argument ∷ arguments) [] = ⊥
  HaveShapes (argument ∷ arguments) (parameter ∷ parameters) = (AreExtents symbols parameter × HasShape argument parameter) × HaveShapes arguments parameters

  abbrev pub Fits : StatementTree → Type 0
  Fits (argument_array line name bits extents) = (in_force arrays name ≡ Some (extents_written extents)) × AreExtents symbols (extents_written extents)
  Fits (local_array line name extents bits) = (in_force arrays name ≡ Some (extents_written extents)) × AreExtents symbols (extents_written extents)
  Fits (copy line to to_dimensions from from_dimensions) = OfTwo to from
      (λ first second. (variables : Named ℕ) → subset_of variables (values variables first) to_dimensions ≡ subset_of variables (values variables second) from_dimensions)
  Fits (reduce line lambda from to axis identity) = OfTwo from to
      (λ first second. (variables : Named ℕ) → option_map or_one (left_over axis (values variables first)) ≡ Some (values variables second))
  Fits (map_scope line parameters ranges body) = AllByRecursion (λ parameter. is_among symbols parameter ≡ false) parameters
  Fits (consume_scope line stream size name element worker body) = has_connector body ≡ false → in_force arrays element ≡ Some (number (pos 1) ∷ [])
  Fits (call line name arguments) = (parameters : List (List Expression)) × ((in_force (extents_of_programs above) name ≡ Some parameters) × HaveShapes arguments parameters)
  Fits (for_loop line name begin end step body) = is_among symbols name ≡ false
  Fits statement = ⊤

-- each program, with those above it, fits where it has some size symbols, and arrays of some extents
abbrev pub AllFit : List FunctionTree → Type 0
AllFit [] = ⊤
AllFit (function ∷ above) = ((symbols : List Name) × ((arrays : Named (List Expression)) × EveryOf (Fits symbols arrays above) function)) × AllFit above
