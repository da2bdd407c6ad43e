-- Calls of the programs above.
use Rattle.std.specs.Prelude.{◌≡◌, ℕ, ◌+◌, ◌≤◌, max, List, [], ◌∷◌, length, map, Some, unwrap_or, ⊤}
use Rattle.sd_lex.specs.PlainTree.{StatementTree, map_scope, consume_scope, call, for_loop, while_loop, branch, Block, no_statement, and_statement, FunctionTree}
use Rattle.sd_program.specs.Names.{Named, in_force}
use Rattle.sd_program.specs.Declared.{containers_in_all}
use Rattle.sd_program.specs.Place.{Place}

-- programs, the latest first, with how many arguments each has
abbrev pub argument_counts : List FunctionTree → Named ℕ
argument_counts functions = map (λ function. (function.name, containers_in_all function.arguments)) functions

-- a call is of one of the programs above, the latest of its name, and has as many arguments
abbrev pub IsCallable : Place → StatementTree → Type 0
IsCallable place (call line name arguments) = in_force (argument_counts place.programs) name ≡ Some (length arguments)
IsCallable place statement = ⊤

-- the longest chain of calls that a statement makes, where these programs make chains of these lengths
abbrev mutual
  pub calls_in : Named ℕ → StatementTree → ℕ
  calls_in depths (call line name arguments) = unwrap_or (in_force depths name) 0 + 1
  calls_in depths (map_scope line parameters ranges body) = calls_in_all depths body
  calls_in depths (consume_scope line from size name element worker body) = calls_in_all depths body
  calls_in depths (for_loop line name begin end step body) = calls_in_all depths body
  calls_in depths (while_loop line when body) = calls_in_all depths body
  calls_in depths (branch line when body other) = max (calls_in_all depths body) (calls_in_all depths other)
  calls_in depths statement = 0

  pub calls_in_all : Named ℕ → Block → ℕ
  calls_in_all depths no_statement = 0
  calls_in_all depths (and_statement first rest) = max (calls_in depths first) (calls_in_all depths rest)

-- programs, the latest first, with the longest chain of calls below each
abbrev pub call_depths : List FunctionTree → Named ℕ
call_depths [] = []
call_depths (function ∷ before) = (function.name, calls_in_all (call_depths before) function.body) ∷ call_depths before

-- below each program at most eight calls stand in a chain
abbrev pub CallShallowly : List FunctionTree → Type 0
CallShallowly [] = ⊤
CallShallowly (function ∷ before) = (calls_in_all (call_depths before) function.body ≤ 8) × CallShallowly before
