-- The containers that a program writes, by their names, and which of its parameters these are.
use Rattle.std.specs.Prelude.{List, [], ◌∷◌, ◌++◌, map, Bool, if◌then◌else◌, unwrap_or, bytes_eq}
use Rattle.std.specs.List.{list_any}
use Rattle.sd_lex.specs.PlainTree.{Dimension, StatementTree, argument_array, assign, copy, reduce, map_scope, tasklet, consume_scope, call, for_loop, while_loop, branch, output, tasklet_branch, Block, no_statement, and_statement, FunctionTree}
use Rattle.sd_program.specs.Names.{Name, Named, in_force}

-- one of the names
abbrev pub is_among : List Name → Name → Bool
is_among names name = list_any (bytes_eq name) names

-- the arguments of a call whose parameters are written
abbrev pub arguments_written : (written : List Bool) → List (Name × List Dimension) → List Name
arguments_written [] arguments = []
arguments_written (written ∷ parameters) [] = []
arguments_written (written ∷ parameters) (argument ∷ arguments) =
    (if written then argument.0 ∷ [] else []) ++ arguments_written parameters arguments

-- where the programs above write these of their parameters
module _ (programs : Named (List Bool)) where
  -- the names that a statement writes to, in the blocks below it too
  abbrev mutual
    pub names_written : StatementTree → List Name
    names_written (assign line name at add value) = name ∷ []
    names_written (copy line to to_dimensions from from_dimensions) = to ∷ []
    names_written (reduce line lambda from to axis identity) = to ∷ []
    names_written (map_scope line parameters ranges body) = all_written body
    names_written (tasklet line body) = all_written body
    names_written (consume_scope line stream size name element worker body) = all_written body
    names_written (call line name arguments) = arguments_written (unwrap_or (in_force programs name) []) arguments
    names_written (for_loop line name begin end step body) = all_written body
    names_written (while_loop line when body) = all_written body
    names_written (branch line when body other) = all_written body ++ all_written other
    names_written (output line connector memlet) = memlet.name ∷ []
    names_written (tasklet_branch line when body other) = all_written body ++ all_written other
    names_written statement = []

    pub all_written : Block → List Name
    all_written no_statement = []
    all_written (and_statement first rest) = names_written first ++ all_written rest

-- the names of the parameters of a program
abbrev pub parameter_names : (arguments : Block) → List Name
parameter_names no_statement = []
parameter_names (and_statement (argument_array line name bits extents) rest) = name ∷ parameter_names rest
parameter_names (and_statement statement rest) = parameter_names rest

-- which of its parameters a program writes, where those above it write these of theirs
abbrev pub parameters_written : Named (List Bool) → FunctionTree → List Bool
parameters_written programs function = map (is_among (all_written programs function.body)) (parameter_names function.arguments)

-- which of its parameters each of the programs writes, the latest first
abbrev pub written_by_programs : List FunctionTree → Named (List Bool)
written_by_programs [] = []
written_by_programs (function ∷ above) = (function.name, parameters_written (written_by_programs above) function) ∷ written_by_programs above
