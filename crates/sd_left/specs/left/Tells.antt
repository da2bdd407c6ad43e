-- What the counts that a tree keeps tell of its next moves and of its open consume scopes, and whether they are right.
use Rattle.std.specs.Prelude.{◌+◌, [], Ok, cond, not}
use Rattle.sd_work.specs.Leaf.{is_done}
use Rattle.sd_moves.specs.numbered.Counts.{one_if}
use Rattle.sd_leaves.specs.moves.Left.{doing_left, instance_left}
use Rattle.sd_order.specs.table.Told.{told}
use Rattle.sd_left.specs.declared.left.left.Left.{Left as LeftNow}
use Rattle.sd_left.specs.declared.left.left.Bodies.{Bodies as BodiesNow}
use Rattle.sd_left.specs.declared.left.left.Body.{Body as BodyNow}
use Rattle.sd_left.specs.declared.left.left.Run.{Run as RunNow}
use Rattle.sd_left.specs.declared.left.left.Left.TheOpen.{Left-F, Bodies-F, Body-F, Run-F, Instance, Doing, Points, Sparse, Pool, Nested}
use Rattle.sd_left.specs.declared.left.left.Left.TheFolds.{fold-Left, fold-Bodies, fold-Body, fold-Run}
use Rattle.sd_left.specs.left.Telling.{Telling, BodiesTelling, moves_told, unfinished_told, pools_told, flags_told, ready_moves, all_right, counts_tell, count_of_first, map_tells, leaf_tells}
use Rattle.sd_left.specs.sparse.Stretch.{stretch_tells}

abbrev pub tells_step : Left-F Telling BodiesTelling Telling Telling → Telling
tells_step (Instance instance) = leaf_tells (is_done (instance_left (λ values. Ok []) instance))
tells_step (Doing doing) = leaf_tells (is_done (doing_left doing))
tells_step (Points sequential points) = map_tells sequential points
tells_step (Sparse sequential tasks points) = stretch_tells sequential tasks points
tells_step (Pool stream active waiting closed) =
    record { is_unfinished = not closed; moves = cond closed 0 (active.together.moves + waiting); pools = one_if (not closed) + active.together.pools; is_right = active.together.is_right }
tells_step (Nested run) = run.value

abbrev pub bodies_tell_step : Bodies-F Telling BodiesTelling Telling Telling → BodiesTelling
bodies_tell_step bodies = record {
  together = counts_tell bodies.moves bodies.unfinished bodies.«open» (moves_told bodies.bodies.items) (unfinished_told bodies.bodies.items) (pools_told bodies.bodies.items) (all_right bodies.bodies.items);
  first = count_of_first bodies.moves bodies.unfinished;
}

abbrev pub body_tells_step : Body-F Telling BodiesTelling Telling Telling → Telling
body_tells_step body =
    counts_tell body.moves body.unfinished body.«open» (ready_moves (told body.order) (flags_told body.parts.items) 0 body.parts.items) (unfinished_told body.parts.items) (pools_told body.parts.items) (all_right body.parts.items)

-- a run that goes on has the moves of its state, and one where nothing is left of that; and the open consume scopes of its state
abbrev pub run_tells_step : Run-F Telling BodiesTelling Telling Telling → Telling
run_tells_step run =
    record { is_unfinished = not run.ended; moves = cond run.ended 0 (cond run.body.is_unfinished run.body.moves 1); pools = cond run.ended 0 run.body.pools; is_right = run.body.is_right }

abbrev pub tells : LeftNow → Telling
tells = fold-Left Telling BodiesTelling Telling Telling tells_step bodies_tell_step body_tells_step run_tells_step

abbrev pub bodies_telling : BodiesNow → BodiesTelling
bodies_telling = fold-Bodies Telling BodiesTelling Telling Telling tells_step bodies_tell_step body_tells_step run_tells_step

abbrev pub bodies_tell : BodiesNow → Telling
bodies_tell bodies = (bodies_telling bodies).together

abbrev pub body_tells : BodyNow → Telling
body_tells = fold-Body Telling BodiesTelling Telling Telling tells_step bodies_tell_step body_tells_step run_tells_step

abbrev pub run_tells : RunNow → Telling
run_tells = fold-Run Telling BodiesTelling Telling Telling tells_step bodies_tell_step body_tells_step run_tells_step
