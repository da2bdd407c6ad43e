-- Code whose numbers stand in variables behind its own.
use Rattle.std.specs.Prelude.{ℕ, ◌+◌, ℤ, pos, List, ◌++◌, length, replicate, Option, Some, None, option_map, nat_lt, if◌then◌else◌}
use Rattle.std.specs.List.{position}
use Rattle.std.specs.Ordering.{int_eq}
use Rattle.sd_graph.specs.PlainTree.{ValueTree, literal, variable, local, input, one, two, choice, ValueTrees, no_value, and_value, ActTree, set_local, assign, branch, ActTrees, no_act, and_act, TaskletTree}
use Rattle.sd_graph.specs.TaskletMeaning.{Inputs}

-- a variable of the code, which has so many of its own; one that is not there is 0
abbrev pub own_variable : (own place : ℕ) → ValueTree
own_variable own place = if nat_lt place own then variable place else literal (pos 0)

-- the variable of a number, behind so many of the code's own, where it is among these numbers
abbrev pub variable_of : (numbers : List ℤ) → (own : ℕ) → (number : ℤ) → Option ℕ
variable_of numbers own number = option_map (λ place. own + place) (position (int_eq number) numbers)

-- a number that stands in this variable; without one it stays
abbrev pub number_in : (number : ℤ) → (place : Option ℕ) → ValueTree
number_in number None = literal number
number_in number (Some place) = variable place

abbrev mutual
  -- an expression
  pub lifted_value : (numbers : List ℤ) → (own : ℕ) → ValueTree → ValueTree
  lifted_value numbers own (literal number) = number_in number (variable_of numbers own number)
  lifted_value numbers own (variable place) = own_variable own place
  lifted_value numbers own (local number) = local number
  lifted_value numbers own (input connector at) = input connector (lifted_values numbers own at)
  lifted_value numbers own (one sign of) = one sign (lifted_value numbers own of)
  lifted_value numbers own (two sign left right) = two sign (lifted_value numbers own left) (lifted_value numbers own right)
  lifted_value numbers own (choice value when other) =
      choice (lifted_value numbers own value) (lifted_value numbers own when) (lifted_value numbers own other)

  pub lifted_values : (numbers : List ℤ) → (own : ℕ) → ValueTrees → ValueTrees
  lifted_values numbers own no_value = no_value
  lifted_values numbers own (and_value first rest) = and_value (lifted_value numbers own first) (lifted_values numbers own rest)

abbrev mutual
  -- a statement
  pub lifted_act : (numbers : List ℤ) → (own : ℕ) → ActTree → ActTree
  lifted_act numbers own (set_local number value) = set_local number (lifted_value numbers own value)
  lifted_act numbers own (assign connector at value) = assign connector (lifted_values numbers own at) (lifted_value numbers own value)
  lifted_act numbers own (branch when body other) = branch (lifted_value numbers own when) (lifted_acts numbers own body) (lifted_acts numbers own other)

  pub lifted_acts : (numbers : List ℤ) → (own : ℕ) → ActTrees → ActTrees
  lifted_acts numbers own no_act = no_act
  lifted_acts numbers own (and_act first rest) = and_act (lifted_act numbers own first) (lifted_acts numbers own rest)

-- the code, with a variable more for each number
abbrev pub lifted_tasklet : (numbers : List ℤ) → TaskletTree → TaskletTree
lifted_tasklet numbers code = record code {
  variables = code.variables ++ replicate (length numbers) 0;
  body = lifted_acts numbers (length code.variables) code.body;
}

-- what the code is given, with the numbers behind the values of its own variables
abbrev pub with_numbers : (numbers : List ℤ) → Inputs → Inputs
with_numbers numbers inputs = record inputs { variables = inputs.variables ++ numbers }
