-- What the code keeps of what is left, as a tree beside the graph.
use Rattle.std.specs.Prelude.{List}
use Rattle.sd_work.specs.Residual.{leaf, list, pool, Points}
use Rattle.sd_graph.specs.Context.{place_at}
use Rattle.sd_graph.specs.Unfold.{order_of_points}
use Rattle.sd_leaves.specs.moves.Left.{doing_left, instance_left}
use Rattle.sd_order.specs.table.Told.{told}
use Rattle.sd_left.specs.tree.Standing.{ItemLeft, BodyLeft, RunLeft, element_term, points_left, active_left, nested_left}
use Rattle.sd_left.specs.tree.Evaluated.{evaluation_in}
use Rattle.sd_left.specs.sparse.Stretch.{points_in}
use Rattle.sd_left.specs.sparse.Terms.{bodies_at}
use Rattle.sd_left.specs.declared.left.left.Left.{Left as LeftNow}
use Rattle.sd_left.specs.declared.left.left.Bodies.{Bodies as BodiesNow}
use Rattle.sd_left.specs.declared.left.left.Body.{Body as BodyNow}
use Rattle.sd_left.specs.declared.left.left.Run.{Run as RunNow}
use Rattle.sd_left.specs.declared.left.left.Left.TheOpen.{Left-F, Bodies-F, Body-F, Run-F, Instance, Doing, Points as At_points, Sparse, Pool, Nested}
use Rattle.sd_left.specs.declared.left.left.Left.TheFolds.{fold-Left, fold-Bodies, fold-Body, fold-Run}

-- one layer of what is left of an item
abbrev pub left_step : Left-F ItemLeft (List BodyLeft) BodyLeft RunLeft → ItemLeft
left_step (Instance instance) kind line context = leaf (place_at context line) (instance_left (evaluation_in kind context) instance)
left_step (Doing doing) kind line context = leaf (place_at context line) (doing_left doing)
left_step (At_points sequential points) kind line context = list Points (order_of_points sequential) (points_left points kind context)
left_step (Sparse sequential tasks points) kind line context = list Points (order_of_points sequential) (points_left (bodies_at tasks (points_in points) kind context) kind context)
left_step (Pool stream active waiting closed) kind line context =
    pool stream.level stream.container (element_term kind context) (active_left active kind context) closed
left_step (Nested run) kind line context = nested_left run.value kind line context

-- one layer of points or elements
abbrev pub bodies_step : Bodies-F ItemLeft (List BodyLeft) BodyLeft RunLeft → List BodyLeft
bodies_step bodies = bodies.bodies.items

-- one layer of what is left of items
abbrev pub body_step : Body-F ItemLeft (List BodyLeft) BodyLeft RunLeft → BodyLeft
body_step body = record { at = body.at.items; own = body.own.contents; order = told body.order; parts = body.parts.items }

-- one layer of what is left of a run
abbrev pub run_step : Run-F ItemLeft (List BodyLeft) BodyLeft RunLeft → RunLeft
run_step run = record { state = run.state; ended = run.ended; body = run.body }

-- the work that is left of an item
abbrev pub left_of : LeftNow → ItemLeft
left_of = fold-Left ItemLeft (List BodyLeft) BodyLeft RunLeft left_step bodies_step body_step run_step

-- what is left at points or in elements
abbrev pub bodies_kept : BodiesNow → List BodyLeft
bodies_kept = fold-Bodies ItemLeft (List BodyLeft) BodyLeft RunLeft left_step bodies_step body_step run_step

-- what is left of items
abbrev pub body_kept : BodyNow → BodyLeft
body_kept = fold-Body ItemLeft (List BodyLeft) BodyLeft RunLeft left_step bodies_step body_step run_step

-- what is left of a run
abbrev pub run_kept : RunNow → RunLeft
run_kept = fold-Run ItemLeft (List BodyLeft) BodyLeft RunLeft left_step bodies_step body_step run_step
