-- The names in the code of a tasklet or condition: connectors with their subscripts, locals where they are in force, and variables.
use Rattle.std.specs.Prelude.{ℕ, suc, ◌-◌, nat_eq, nat_lt, List, [], ◌∷◌, ◌++◌, length, Bool, true, false, not, ◌&&◌, Option, Some, None, slice_get, is_some}
use Rattle.sd_graph.specs.PlainTree.{ValueTree, literal, variable, local, input, one, two, choice, ValueTrees, no_value, and_value, ActTree, set_local, assign, branch, ActTrees, no_act, and_act, TaskletTree}
use Rattle.sd_graph.specs.Wiring.{has_number}
use Rattle.sd_graph.specs.declared.tasklet.Port.{Port}
use Rattle.sd_validity.specs.rules.Compared.{given}

-- how many expressions there are
abbrev pub count_values : ValueTrees → ℕ
count_values no_value = 0
count_values (and_value first rest) = suc (count_values rest)

-- the list has a connector of this number, with so many dimensions
abbrev pub has_dims : Option Port → (count : ℕ) → Bool
has_dims None count = false
has_dims (Some port) count = nat_eq port.dims count

-- the code of a tasklet has an input of this number, which is named with so many subscripts
abbrev pub is_input : TaskletTree → (connector subscripts : ℕ) → Bool
is_input code connector subscripts = has_dims (slice_get code.ins connector) subscripts

-- an output, whose numbers are those behind the inputs
abbrev pub is_output : TaskletTree → (connector subscripts : ℕ) → Bool
is_output code connector subscripts =
    not (nat_lt connector (length code.ins)) && has_dims (slice_get code.outs (connector - length code.ins)) subscripts

-- an expression names variables and inputs that the code has, and locals that are in force
abbrev mutual
  pub is_value_known : TaskletTree → (locals : List ℕ) → ValueTree → Bool
  is_value_known code locals (literal number) = true
  is_value_known code locals (variable place) = nat_lt place (length code.variables)
  is_value_known code locals (local number) = has_number locals number
  is_value_known code locals (input connector at) = is_input code connector (count_values at) && are_values_known code locals at
  is_value_known code locals (one sign of) = is_value_known code locals of
  is_value_known code locals (two sign left right) = is_value_known code locals left && is_value_known code locals right
  is_value_known code locals (choice value when other) =
      is_value_known code locals value && (is_value_known code locals when && is_value_known code locals other)

  pub are_values_known : TaskletTree → (locals : List ℕ) → ValueTrees → Bool
  are_values_known code locals no_value = true
  are_values_known code locals (and_value first rest) = is_value_known code locals first && are_values_known code locals rest

-- the locals in force behind a statement, to the end of its block
abbrev pub locals_behind : ActTree → List ℕ → List ℕ
locals_behind (set_local number value) locals = locals ++ number ∷ []
locals_behind (assign connector at value) locals = locals
locals_behind (branch when body other) locals = locals

-- a statement gives values to locals that the code has and to outputs
abbrev mutual
  pub is_act_known : TaskletTree → (locals : List ℕ) → ActTree → Bool
  is_act_known code locals (set_local number value) = nat_lt number code.locals && is_value_known code locals value
  is_act_known code locals (assign connector at value) =
      is_output code connector (count_values at) && (are_values_known code locals at && is_value_known code locals value)
  is_act_known code locals (branch when body other) =
      is_value_known code locals when && (are_acts_known code locals body && are_acts_known code locals other)

  pub are_acts_known : TaskletTree → (locals : List ℕ) → ActTrees → Bool
  are_acts_known code locals no_act = true
  are_acts_known code locals (and_act act acts) = is_act_known code locals act && are_acts_known code (locals_behind act locals) acts

-- no local is in force where the code begins
abbrev pub is_code_known : TaskletTree → Bool
is_code_known code = are_acts_known code [] code.body

-- the code is one assignment to its one output, a scalar
abbrev pub is_one_value : TaskletTree → Bool
is_one_value code = nat_eq (length code.outs) 1 && is_some (given code.body)
