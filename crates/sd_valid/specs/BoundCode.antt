-- The code of tasklets and conditions with sizes in the place of the size symbols.
use Rattle.std.specs.Prelude.{ℕ, ℤ, List, length, Bool, ◌&&◌, nat_lt, if◌then◌else◌, slice_index_or}
use Rattle.sd_range.specs.Affine.{variable_value}
use Rattle.sd_graph.specs.PlainTree.{ValueTree, literal, variable, local, input, one, two, choice, ValueTrees, no_value, and_value, ActTree, set_local, assign, branch, ActTrees, no_act, and_act, TaskletTree}

-- the variable at a place of the code's variables is one of the size symbols, which are the first variables
abbrev pub names_symbol : (symbols : ℕ) → (variables : List ℕ) → (place : ℕ) → Bool
names_symbol symbols variables place = nat_lt place (length variables) && nat_lt (slice_index_or variables place 0) symbols

-- such a variable as its size
abbrev pub bound_variable : (sizes : List ℤ) → (variables : List ℕ) → (place : ℕ) → ValueTree
bound_variable sizes variables place =
    if names_symbol (length sizes) variables place then literal (variable_value sizes (slice_index_or variables place 0)) else variable place

abbrev mutual
  -- an expression of code that has these variables
  pub bound_value : (sizes : List ℤ) → (variables : List ℕ) → ValueTree → ValueTree
  bound_value sizes variables (literal value) = literal value
  bound_value sizes variables (variable place) = bound_variable sizes variables place
  bound_value sizes variables (local number) = local number
  bound_value sizes variables (input connector at) = input connector (bound_values sizes variables at)
  bound_value sizes variables (one sign of) = one sign (bound_value sizes variables of)
  bound_value sizes variables (two sign left right) = two sign (bound_value sizes variables left) (bound_value sizes variables right)
  bound_value sizes variables (choice value when other) =
      choice (bound_value sizes variables value) (bound_value sizes variables when) (bound_value sizes variables other)

  pub bound_values : (sizes : List ℤ) → (variables : List ℕ) → ValueTrees → ValueTrees
  bound_values sizes variables no_value = no_value
  bound_values sizes variables (and_value first rest) = and_value (bound_value sizes variables first) (bound_values sizes variables rest)

abbrev mutual
  -- a statement
  pub bound_act : (sizes : List ℤ) → (variables : List ℕ) → ActTree → ActTree
  bound_act sizes variables (set_local number value) = set_local number (bound_value sizes variables value)
  bound_act sizes variables (assign connector at value) = assign connector (bound_values sizes variables at) (bound_value sizes variables value)
  bound_act sizes variables (branch when body other) =
      branch (bound_value sizes variables when) (bound_acts sizes variables body) (bound_acts sizes variables other)

  pub bound_acts : (sizes : List ℤ) → (variables : List ℕ) → ActTrees → ActTrees
  bound_acts sizes variables no_act = no_act
  bound_acts sizes variables (and_act first rest) = and_act (bound_act sizes variables first) (bound_acts sizes variables rest)

-- the code; its list of variables stays, so that each has its place
abbrev pub bound_tasklet : (sizes : List ℤ) → TaskletTree → TaskletTree
bound_tasklet sizes code = record code { body = bound_acts sizes code.variables code.body }
