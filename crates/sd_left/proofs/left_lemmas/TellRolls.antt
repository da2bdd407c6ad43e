-- What a tree tells by its counts, one layer opened.
use Rattle.std.proofs.Common.{◌≡◌, ℕ, ◌+◌, map, Bool, not, cond, Ok, [], Box, ap}
use Rattle.std.specs.declared.alloc.Global.{Global}
use Rattle.sd_work.specs.Leaf.{is_done}
use Rattle.sd_moves.specs.numbered.Counts.{one_if}
use Rattle.sd_mem.specs.declared.machine.address.Station.{Station}
use Rattle.sd_leaves.specs.moves.Left.{doing_left, instance_left}
use Rattle.sd_leaves.specs.declared.moves.doing.Doing.{Doing}
use Rattle.sd_leaves.specs.declared.moves.instance.Instance.{Instance}
use Rattle.sd_order.specs.table.Told.{told}
use Rattle.sd_left.specs.declared.left.left.Left as shape
use Rattle.sd_left.specs.declared.left.left.Left.TheOpen as layer
use Rattle.sd_left.specs.declared.left.left.Left.TheViews.{out-Bodies, out-Body, out-Run, roll-Bodies, roll-Body}
use Rattle.sd_left.specs.declared.left.left.Left.TheFolds.{fold-roll-Left, fold-roll-Bodies, fold-roll-Body, fold_out-Bodies, fold_out-Body, fold_out-Run}
use Rattle.sd_left.specs.declared.left.left.Bodies.{Bodies as BodiesNow}
use Rattle.sd_left.specs.declared.left.left.Body.{Body as BodyNow}
use Rattle.sd_left.specs.declared.left.left.Run.{Run as RunNow}
use Rattle.sd_left.specs.declared.sparse.point.Tasks.{Tasks}
use Rattle.sd_left.specs.declared.sparse.stretch.Stretch.{Stretch}
use Rattle.sd_left.specs.sparse.Stretch.{stretch_tells}
use Rattle.sd_left.specs.left.Telling.{Telling, BodiesTelling, map_tells, leaf_tells, counts_tell, count_of_first, moves_told, unfinished_told, pools_told, flags_told, ready_moves, all_right}
use Rattle.sd_left.specs.left.Tells.{tells_step, bodies_tell_step, body_tells_step, run_tells_step, tells, bodies_telling, bodies_tell, body_tells, run_tells}

pub instance_tells : (instance : Instance) → tells (shape.Instance instance) ≡ leaf_tells (is_done (instance_left (λ values. Ok []) instance))
unfolding shape.roll-Left denote.Hole.Carrier.roll
instance_tells instance = fold-roll-Left Telling BodiesTelling Telling Telling tells_step bodies_tell_step body_tells_step run_tells_step (layer.Instance instance)

pub doing_tells : (doing : Doing) → tells (shape.Doing doing) ≡ leaf_tells (is_done (doing_left doing))
unfolding shape.roll-Left denote.Hole.Carrier.roll
doing_tells doing = fold-roll-Left Telling BodiesTelling Telling Telling tells_step bodies_tell_step body_tells_step run_tells_step (layer.Doing doing)

pub points_tell : (sequential : Bool) (points : BodiesNow) → tells (shape.Points sequential points) ≡ map_tells sequential (bodies_telling points)
unfolding shape.roll-Left denote.Hole.Carrier.roll
points_tell sequential points = fold-roll-Left Telling BodiesTelling Telling Telling tells_step bodies_tell_step body_tells_step run_tells_step (layer.Points sequential points)

pub sparse_tells : (sequential : Bool) (tasks : Tasks) (points : Stretch) → tells (shape.Sparse sequential tasks points) ≡ stretch_tells sequential tasks points
unfolding shape.roll-Left denote.Hole.Carrier.roll
sparse_tells sequential tasks points = fold-roll-Left Telling BodiesTelling Telling Telling tells_step bodies_tell_step body_tells_step run_tells_step (layer.Sparse sequential tasks points)

pub pool_tells : (stream : Station) (active : BodiesNow) (waiting : ℕ) (closed : Bool) → tells (shape.Pool stream active waiting closed)
    ≡ record { is_unfinished = not closed; moves = cond closed 0 ((bodies_tell active).moves + waiting); pools = one_if (not closed) + (bodies_tell active).pools; is_right = (bodies_tell active).is_right }
unfolding shape.roll-Left denote.Hole.Carrier.roll
pool_tells stream active waiting closed = fold-roll-Left Telling BodiesTelling Telling Telling tells_step bodies_tell_step body_tells_step run_tells_step (layer.Pool stream active waiting closed)

pub nested_tells : (run : Box RunNow Global) → tells (shape.Nested run) ≡ run_tells run.value
unfolding shape.roll-Left denote.Hole.Carrier.roll
nested_tells run = fold-roll-Left Telling BodiesTelling Telling Telling tells_step bodies_tell_step body_tells_step run_tells_step (layer.Nested run)

pub bodies_rolled : (x : layer.Bodies-F shape.Left BodiesNow BodyNow RunNow) → bodies_tell (roll-Bodies x)
    ≡ counts_tell x.moves x.unfinished x.«open» (moves_told (map body_tells x.bodies.items)) (unfinished_told (map body_tells x.bodies.items)) (pools_told (map body_tells x.bodies.items)) (all_right (map body_tells x.bodies.items))
bodies_rolled x = ap (λ (t : BodiesTelling). t.together) (fold-roll-Bodies Telling BodiesTelling Telling Telling tells_step bodies_tell_step body_tells_step run_tells_step x)

pub body_rolled : (x : layer.Body-F shape.Left BodiesNow BodyNow RunNow) → body_tells (roll-Body x)
    ≡ counts_tell x.moves x.unfinished x.«open» (ready_moves (told x.order) (flags_told (map tells x.parts.items)) 0 (map tells x.parts.items)) (unfinished_told (map tells x.parts.items)) (pools_told (map tells x.parts.items)) (all_right (map tells x.parts.items))
body_rolled = fold-roll-Body Telling BodiesTelling Telling Telling tells_step bodies_tell_step body_tells_step run_tells_step

pub bodies_told : (bodies : BodiesNow) → bodies_tell bodies
    ≡ counts_tell (out-Bodies bodies).moves (out-Bodies bodies).unfinished (out-Bodies bodies).«open» (moves_told (map body_tells (out-Bodies bodies).bodies.items)) (unfinished_told (map body_tells (out-Bodies bodies).bodies.items)) (pools_told (map body_tells (out-Bodies bodies).bodies.items)) (all_right (map body_tells (out-Bodies bodies).bodies.items))
bodies_told bodies = ap (λ (t : BodiesTelling). t.together) (fold_out-Bodies Telling BodiesTelling Telling Telling tells_step bodies_tell_step body_tells_step run_tells_step bodies)

pub first_told : (bodies : BodiesNow) → (bodies_telling bodies).first ≡ count_of_first (out-Bodies bodies).moves (out-Bodies bodies).unfinished
first_told bodies = ap (λ (t : BodiesTelling). t.first) (fold_out-Bodies Telling BodiesTelling Telling Telling tells_step bodies_tell_step body_tells_step run_tells_step bodies)

pub body_told : (body : BodyNow) → body_tells body
    ≡ counts_tell (out-Body body).moves (out-Body body).unfinished (out-Body body).«open» (ready_moves (told (out-Body body).order) (flags_told (map tells (out-Body body).parts.items)) 0 (map tells (out-Body body).parts.items)) (unfinished_told (map tells (out-Body body).parts.items)) (pools_told (map tells (out-Body body).parts.items)) (all_right (map tells (out-Body body).parts.items))
body_told = fold_out-Body Telling BodiesTelling Telling Telling tells_step bodies_tell_step body_tells_step run_tells_step

pub run_told : (run : RunNow) → run_tells run
    ≡ record { is_unfinished = not (out-Run run).ended; moves = cond (out-Run run).ended 0 (cond (body_tells (out-Run run).body).is_unfinished (body_tells (out-Run run).body).moves 1); pools = cond (out-Run run).ended 0 (body_tells (out-Run run).body).pools; is_right = (body_tells (out-Run run).body).is_right }
run_told = fold_out-Run Telling BodiesTelling Telling Telling tells_step bodies_tell_step body_tells_step run_tells_step
