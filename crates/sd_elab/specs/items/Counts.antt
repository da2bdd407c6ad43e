-- How many variables a statement declares, in the blocks below it too.
use Rattle.std.specs.Prelude.{ℕ, ◌+◌, length}
use Rattle.sd_lex.specs.PlainTree.{StatementTree, map_scope, consume_scope, for_loop, while_loop, branch, Block, no_statement, and_statement}

-- the parameters of maps, and loop variables
abbrev mutual
  pub variables_in : StatementTree → ℕ
  variables_in (map_scope line parameters ranges body) = length parameters + variables_in_all body
  variables_in (consume_scope line stream size name element worker body) = variables_in_all body
  variables_in (for_loop line name begin end step body) = 1 + variables_in_all body
  variables_in (while_loop line when body) = variables_in_all body
  variables_in (branch line when body other) = variables_in_all body + variables_in_all other
  variables_in statement = 0

  pub variables_in_all : Block → ℕ
  variables_in_all no_statement = 0
  variables_in_all (and_statement first rest) = variables_in first + variables_in_all rest
