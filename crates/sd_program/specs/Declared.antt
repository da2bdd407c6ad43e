-- The containers and states that a program makes.
use Rattle.std.specs.Prelude.{ℕ, ◌+◌}
use Rattle.sd_lex.specs.PlainTree.{StatementTree, argument_array, local_array, local_stream, map_scope, consume_scope, for_loop, while_loop, branch, Block, no_statement, and_statement}

abbrev mutual
  -- how many containers a statement declares, in the blocks below it too
  pub containers_in : StatementTree → ℕ
  containers_in (argument_array line name bits extents) = 1
  containers_in (local_array line name extents bits) = 1
  containers_in (local_stream line name bits size) = 1
  containers_in (map_scope line parameters ranges body) = containers_in_all body
  containers_in (consume_scope line from size name element worker body) = 1 + containers_in_all body
  containers_in (for_loop line name begin end step body) = containers_in_all body
  containers_in (while_loop line when body) = containers_in_all body
  containers_in (branch line when body other) = containers_in_all body + containers_in_all other
  containers_in statement = 0

  pub containers_in_all : Block → ℕ
  containers_in_all no_statement = 0
  containers_in_all (and_statement first rest) = containers_in first + containers_in_all rest

abbrev mutual
  -- how many states a statement makes: a loop one of its own, one for its block and one behind it; a branch one for each block and one behind both
  pub states_in : StatementTree → ℕ
  states_in (argument_array line name bits extents) = 0
  states_in (local_array line name extents bits) = 0
  states_in (local_stream line name bits size) = 0
  states_in (branch line when body other) = 1 + states_in_all body + states_in_other other
  states_in (while_loop line when body) = 2 + states_in_all body + 1
  states_in (for_loop line name begin end step body) = 2 + states_in_all body + 1
  states_in statement = 1

  pub states_in_all : Block → ℕ
  states_in_all no_statement = 0
  states_in_all (and_statement first rest) = states_in first + states_in_all rest

  -- an `else` and the state behind both
  pub states_in_other : Block → ℕ
  states_in_other no_statement = 1
  states_in_other (and_statement first rest) = 1 + (states_in first + states_in_all rest) + 1
