-- The variables that code uses, each once, in the order of their first uses.
use Rattle.std.specs.Prelude.{ℕ, pos, List, [], ◌∷◌, ◌++◌, nat_eq, position, Option, Some, None, if◌then◌else◌, unwrap_or}
use Rattle.std.specs.List.{list_any}
use Rattle.sd_graph.specs.PlainTree as plain
use Rattle.sd_graph.specs.PlainTree.{ValueTree}

-- one more variable, the last one, unless it stands there
abbrev pub with_used : List ℕ → ℕ → List ℕ
with_used used variable = if list_any (nat_eq variable) used then used else used ++ variable ∷ []

-- the same of a variable that may not be in force
abbrev pub with_variable : List ℕ → Option ℕ → List ℕ
with_variable used None = used
with_variable used (Some variable) = with_used used variable

-- a variable by its place among those that are used; what is not in force is 0
abbrev pub variable_value : List ℕ → Option ℕ → ValueTree
variable_value used None = plain.literal (pos 0)
variable_value used (Some variable) = plain.variable (unwrap_or (position (nat_eq variable) used) 0)
