-- What is known of each statement of a function in its place, and of its shapes, is known of it together.
use Rattle.std.proofs.Common.{List}
use Rattle.sd_lex.specs.PlainTree.{Expression, StatementTree, map_scope, tasklet, consume_scope, for_loop, while_loop, branch, tasklet_branch, Block, no_statement, and_statement, FunctionTree}
use Rattle.sd_lex.specs.StatementKind.{has_connector}
use Rattle.sd_program.specs.Every.{Every, EveryIn, EveryOf}
use Rattle.sd_program.specs.Names.{Name, Named}
use Rattle.sd_program.specs.Place.{Place, past, past_all, in_map, in_tasklet, in_loop, in_consume, in_signature, in_function, EveryAt, EveryFrom, EveryOfFunction}
use Rattle.sd_program.specs.Known.{IsPlaced, IsKnown}
use Rattle.sd_made_valid.specs.read_shapes.Fits.{Fits}
use Rattle.sd_made_valid.proofs.fits_lemmas.Tied.{Fit}

abbrev pub IsPlacedKnown : Place → StatementTree → Type 0
IsPlacedKnown place statement = IsPlaced place statement × IsKnown place statement

module _ (symbols : List Name) (arrays : Named (List Expression)) (above : List FunctionTree) where
  abbrev IsFit : Place → StatementTree → Type 0
  IsFit = Fit symbols arrays above

  abbrev Holds : StatementTree → Type 0
  Holds = Fits symbols arrays above

  together : (place : Place) (statement : StatementTree) → IsPlacedKnown place statement → Holds statement → IsFit place statement
  together place statement placed fit = (placed.0, (placed.1, fit))

  mutual
    both_at : (place : Place) (statement : StatementTree) → EveryAt IsPlacedKnown place statement → Every Holds statement → EveryAt IsFit place statement
    both_at place (map_scope line parameters ranges body) first second = (together place _ first.0 second.0, both_from (in_map place) body first.1 second.1)
    both_at place (tasklet line body) first second = (together place _ first.0 second.0, both_from (in_tasklet place) body first.1 second.1)
    both_at place (consume_scope line stream size name element worker body) first second =
        (together place _ first.0 second.0, both_from (in_consume (has_connector body) element place) body first.1 second.1)
    both_at place (for_loop line name begin end step body) first second = (together place _ first.0 second.0, both_from (in_loop place) body first.1 second.1)
    both_at place (while_loop line when body) first second = (together place _ first.0 second.0, both_from (in_loop place) body first.1 second.1)
    both_at place (branch line when body other) first second =
        (together place _ first.0 second.0, (both_from place body first.1.0 second.1.0, both_from (past_all body place) other first.1.1 second.1.1))
    both_at place (tasklet_branch line when body other) first second =
        (together place _ first.0 second.0, (both_from place body first.1.0 second.1.0, both_from (past_all body place) other first.1.1 second.1.1))
    both_at place statement first second = together place statement first second

    both_from : (place : Place) (block : Block) → EveryFrom IsPlacedKnown place block → EveryIn Holds block → EveryFrom IsFit place block
    both_from place no_statement first second = tt
    both_from place (and_statement one rest) first second = (both_at place one first.0 second.0, both_from (past one place) rest first.1 second.1)

  pub all_together : (function : FunctionTree) → EveryOfFunction IsPlacedKnown above function → EveryOf Holds function → EveryOfFunction IsFit above function
  all_together function first second = (both_from (in_signature above) function.arguments first.0 second.0, both_from (in_function above function.arguments) function.body first.1 second.1)
