-- Conditions that ask whether a variable is below a value.
use Rattle.std.specs.Prelude.{ℕ, Bool, true, false, if◌then◌else◌, Option, Some, None}
use Rattle.sd_graph.specs.PlainTree.{ValueTree, variable, two, ValueTrees, no_value, and_value, ActTree, set_local, assign, branch, ActTrees, no_act, and_act}
use Rattle.sd_graph.specs.declared.operator.TwoSign.{TwoSign}
use Rattle.sd_graph.specs.declared.operator.TwoSign.TheVariants.{Less}

-- a value that is given without subscripts
abbrev pub bare_value : (at : ValueTrees) → ValueTree → Option ValueTree
bare_value no_value value = Some value
bare_value (and_value first rest) value = None

-- the value that an assignment without subscripts gives to its output
abbrev pub given_by : ActTree → Option ValueTree
given_by (set_local number value) = None
given_by (assign connector at value) = bare_value at value
given_by (branch when body other) = None

-- that of code which is one such assignment
abbrev pub given : ActTrees → Option ValueTree
given no_act = None
given (and_act act no_act) = given_by act
given (and_act act (and_act other acts)) = None

-- a variable, by its place among those of the code, and what it is to be below
pub record Comparison : Type 0 where
  pub place : ℕ
  pub bound : ValueTree

-- the place of a value that is a variable
abbrev pub place_of_variable : ValueTree → Option ℕ
place_of_variable (variable place) = Some place
place_of_variable value = None

abbrev pub comparison_at : Option ℕ → (bound : ValueTree) → Option Comparison
comparison_at None bound = None
comparison_at (Some place) bound = Some (record { place = place; bound = bound })

abbrev pub is_less : TwoSign → Bool
is_less Less = true
is_less sign = false

abbrev pub comparison : ValueTree → Option Comparison
comparison (two sign left right) = if is_less sign then comparison_at (place_of_variable left) right else None
comparison value = None

abbrev pub comparison_in : Option ValueTree → Option Comparison
comparison_in None = None
comparison_in (Some value) = comparison value

-- what code that is one comparison compares
abbrev pub compared : ActTrees → Option Comparison
compared acts = comparison_in (given acts)
