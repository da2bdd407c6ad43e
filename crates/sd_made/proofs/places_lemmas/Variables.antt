-- How many variables a program has.
use Rattle.std.proofs.Common.{◌≡◌, ◌+◌, List, [], ◌∷◌, ◌++◌, length, arith, length-append}
use Rattle.sd_lex.specs.PlainTree.{StatementTree, map_scope, consume_scope, for_loop, while_loop, branch, Block, no_statement, and_statement}
use Rattle.sd_program.specs.Names.{Name}
use Rattle.sd_elab.specs.items.Counts.{variables_in, variables_in_all}
use Rattle.sd_task.specs.containers.Declarations.{variable_names, variable_names_all}

mutual
  names_longer : (statement : StatementTree) (names : List Name) → length (variable_names statement names) ≡ length names + variables_in statement
  names_longer (map_scope line parameters ranges body) names = omega (arith, all_names_longer body (names ++ parameters), length-append names parameters)
  names_longer (consume_scope line stream size name element worker body) names = all_names_longer body names
  names_longer (for_loop line name begin end step body) names = omega (arith, all_names_longer body (names ++ name ∷ []), length-append names (name ∷ []))
  names_longer (while_loop line when body) names = all_names_longer body names
  names_longer (branch line when body other) names = omega (arith, all_names_longer body names, all_names_longer other (variable_names_all body names))
  names_longer statement names = omega arith

  pub all_names_longer : (block : Block) (names : List Name) → length (variable_names_all block names) ≡ length names + variables_in_all block
  all_names_longer no_statement names = omega arith
  all_names_longer (and_statement first rest) names = omega (arith, names_longer first names, all_names_longer rest (variable_names first names))
