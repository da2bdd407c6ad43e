-- What is given of each statement in its place gives what follows from it.
use Rattle.sd_lex.specs.PlainTree.{StatementTree, map_scope, tasklet, consume_scope, for_loop, while_loop, branch, tasklet_branch, Block, no_statement, and_statement}
use Rattle.sd_lex.specs.StatementKind.{has_connector}
use Rattle.sd_program.specs.Place.{Place, past, past_all, in_map, in_tasklet, in_loop, in_consume, EveryAt, EveryFrom}

module _ (Given Other : Place → StatementTree → Type 0) (so : (place : Place) (statement : StatementTree) → Given place statement → Other place statement) where
  mutual
    pub so_at : (place : Place) (statement : StatementTree) → EveryAt Given place statement → EveryAt Other place statement
    so_at place (map_scope line parameters ranges body) given = (so place (map_scope line parameters ranges body) given.0, so_from (in_map place) body given.1)
    so_at place (tasklet line body) given = (so place (tasklet line body) given.0, so_from (in_tasklet place) body given.1)
    so_at place (consume_scope line stream size name element worker body) given =
        (so place (consume_scope line stream size name element worker body) given.0, so_from (in_consume (has_connector body) element place) body given.1)
    so_at place (for_loop line name begin end step body) given = (so place (for_loop line name begin end step body) given.0, so_from (in_loop place) body given.1)
    so_at place (while_loop line when body) given = (so place (while_loop line when body) given.0, so_from (in_loop place) body given.1)
    so_at place (branch line when body other) given = (so place (branch line when body other) given.0, (so_from place body given.1.0, so_from (past_all body place) other given.1.1))
    so_at place (tasklet_branch line when body other) given =
        (so place (tasklet_branch line when body other) given.0, (so_from place body given.1.0, so_from (past_all body place) other given.1.1))
    so_at place statement given = so place statement given

    pub so_from : (place : Place) (block : Block) → EveryFrom Given place block → EveryFrom Other place block
    so_from place no_statement given = tt
    so_from place (and_statement first rest) given = (so_at place first given.0, so_from (past first place) rest given.1)
