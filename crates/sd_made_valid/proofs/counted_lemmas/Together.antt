-- What is known of each statement of a function in its place, and of each of its statements, is known of it together.
use Rattle.std.proofs.Common.{List}
use Rattle.sd_lex.specs.PlainTree.{StatementTree, map_scope, tasklet, consume_scope, for_loop, while_loop, branch, tasklet_branch, Block, no_statement, and_statement, FunctionTree}
use Rattle.sd_lex.specs.StatementKind.{has_connector}
use Rattle.sd_program.specs.Every.{Every, EveryIn, EveryOf}
use Rattle.sd_program.specs.Place.{Place, past, past_all, in_map, in_tasklet, in_loop, in_consume, in_signature, in_function, EveryAt, EveryFrom, EveryOfFunction}

module _ (First : Place → StatementTree → Type 0) (Second : StatementTree → Type 0) (Both : Place → StatementTree → Type 0)
    (so : (place : Place) (statement : StatementTree) → First place statement → Second statement → Both place statement) where
  mutual
    both_at : (place : Place) (statement : StatementTree) → EveryAt First place statement → Every Second statement → EveryAt Both place statement
    both_at place (map_scope line parameters ranges body) first second = (so place _ first.0 second.0, both_from (in_map place) body first.1 second.1)
    both_at place (tasklet line body) first second = (so place _ first.0 second.0, both_from (in_tasklet place) body first.1 second.1)
    both_at place (consume_scope line stream size name element worker body) first second =
        (so place _ first.0 second.0, both_from (in_consume (has_connector body) element place) body first.1 second.1)
    both_at place (for_loop line name begin end step body) first second = (so place _ first.0 second.0, both_from (in_loop place) body first.1 second.1)
    both_at place (while_loop line when body) first second = (so place _ first.0 second.0, both_from (in_loop place) body first.1 second.1)
    both_at place (branch line when body other) first second =
        (so place _ first.0 second.0, (both_from place body first.1.0 second.1.0, both_from (past_all body place) other first.1.1 second.1.1))
    both_at place (tasklet_branch line when body other) first second =
        (so place _ first.0 second.0, (both_from place body first.1.0 second.1.0, both_from (past_all body place) other first.1.1 second.1.1))
    both_at place statement first second = so place statement first second

    both_from : (place : Place) (block : Block) → EveryFrom First place block → EveryIn Second block → EveryFrom Both place block
    both_from place no_statement first second = tt
    both_from place (and_statement one rest) first second = (both_at place one first.0 second.0, both_from (past one place) rest first.1 second.1)

  pub both_of : (above : List FunctionTree) (function : FunctionTree) → EveryOfFunction First above function → EveryOf Second function → EveryOfFunction Both above function
  both_of above function first second = (both_from (in_signature above) function.arguments first.0 second.0, both_from (in_function above function.arguments) function.body first.1 second.1)
