-- What is left of an item of the code, one layer opened.
use Rattle.std.proofs.Common.{◌≡◌, ℕ, List, map, Bool, ap, Box}
use Rattle.std.specs.declared.alloc.Global.{Global}
use Rattle.sd_work.specs.Residual.{leaf, list, pool, Points}
use Rattle.sd_graph.specs.PlainTree.{KindTree}
use Rattle.sd_graph.specs.Context.{Context, place_at}
use Rattle.sd_graph.specs.Unfold.{order_of_points}
use Rattle.sd_mem.specs.declared.machine.address.Station.{Station}
use Rattle.sd_leaves.specs.moves.Left.{doing_left, instance_left}
use Rattle.sd_leaves.specs.declared.moves.doing.Doing.{Doing}
use Rattle.sd_leaves.specs.declared.moves.instance.Instance.{Instance}
use Rattle.sd_order.specs.table.Told.{told}
use Rattle.sd_left.specs.declared.left.left.Left as shape
use Rattle.sd_left.specs.declared.left.left.Left.TheOpen as layer
use Rattle.sd_left.specs.declared.left.left.Left.TheViews.{out-Bodies, out-Body, out-Run}
use Rattle.sd_left.specs.declared.left.left.Left.TheFolds.{fold-roll-Left, fold_out-Bodies, fold_out-Body, fold_out-Run}
use Rattle.sd_left.specs.declared.left.left.Bodies.{Bodies as BodiesNow}
use Rattle.sd_left.specs.declared.left.left.Body.{Body as BodyNow}
use Rattle.sd_left.specs.declared.left.left.Run.{Run as RunNow}
use Rattle.sd_left.specs.declared.sparse.point.Tasks.{Tasks}
use Rattle.sd_left.specs.declared.sparse.stretch.Stretch.{Stretch}
use Rattle.sd_left.specs.sparse.Stretch.{points_in}
use Rattle.sd_left.specs.sparse.Terms.{bodies_at}
use Rattle.sd_left.specs.tree.Standing.{ItemLeft, BodyLeft, RunLeft, element_term, points_left, active_left, nested_left}
use Rattle.sd_left.specs.tree.Evaluated.{evaluation_in}
use Rattle.sd_left.specs.left.Kept.{left_step, bodies_step, body_step, run_step, left_of, bodies_kept, body_kept, run_kept}

module _ (kind : KindTree) (line : ℕ) (context : Context) where
  pub instance_is : (instance : Instance) → left_of (shape.Instance instance) kind line context ≡ leaf (place_at context line) (instance_left (evaluation_in kind context) instance)
  unfolding shape.roll-Left denote.Hole.Carrier.roll
  instance_is instance = ap (λ (left : ItemLeft). left kind line context) (fold-roll-Left ItemLeft (List BodyLeft) BodyLeft RunLeft left_step bodies_step body_step run_step (layer.Instance instance))

  pub doing_is : (doing : Doing) → left_of (shape.Doing doing) kind line context ≡ leaf (place_at context line) (doing_left doing)
  unfolding shape.roll-Left denote.Hole.Carrier.roll
  doing_is doing = ap (λ (left : ItemLeft). left kind line context) (fold-roll-Left ItemLeft (List BodyLeft) BodyLeft RunLeft left_step bodies_step body_step run_step (layer.Doing doing))

  pub points_is : (sequential : Bool) (points : BodiesNow) → left_of (shape.Points sequential points) kind line context ≡ list Points (order_of_points sequential) (points_left (bodies_kept points) kind context)
  unfolding shape.roll-Left denote.Hole.Carrier.roll
  points_is sequential points = ap (λ (left : ItemLeft). left kind line context) (fold-roll-Left ItemLeft (List BodyLeft) BodyLeft RunLeft left_step bodies_step body_step run_step (layer.Points sequential points))

  pub sparse_is : (sequential : Bool) (tasks : Tasks) (points : Stretch) → left_of (shape.Sparse sequential tasks points) kind line context
      ≡ list Points (order_of_points sequential) (points_left (bodies_at tasks (points_in points) kind context) kind context)
  unfolding shape.roll-Left denote.Hole.Carrier.roll
  sparse_is sequential tasks points =
      ap (λ (left : ItemLeft). left kind line context) (fold-roll-Left ItemLeft (List BodyLeft) BodyLeft RunLeft left_step bodies_step body_step run_step (layer.Sparse sequential tasks points))

  pub pool_is : (stream : Station) (active : BodiesNow) (waiting : ℕ) (closed : Bool) → left_of (shape.Pool stream active waiting closed) kind line context
      ≡ pool stream.level stream.container (element_term kind context) (active_left (bodies_kept active) kind context) closed
  unfolding shape.roll-Left denote.Hole.Carrier.roll
  pool_is stream active waiting closed = ap (λ (left : ItemLeft). left kind line context) (fold-roll-Left ItemLeft (List BodyLeft) BodyLeft RunLeft left_step bodies_step body_step run_step (layer.Pool stream active waiting closed))

  pub nested_is : (run : Box RunNow Global) → left_of (shape.Nested run) kind line context ≡ nested_left (run_kept run.value) kind line context
  unfolding shape.roll-Left denote.Hole.Carrier.roll
  nested_is run = ap (λ (left : ItemLeft). left kind line context) (fold-roll-Left ItemLeft (List BodyLeft) BodyLeft RunLeft left_step bodies_step body_step run_step (layer.Nested run))

pub bodies_opened : (bodies : BodiesNow) → bodies_kept bodies ≡ map body_kept (out-Bodies bodies).bodies.items
bodies_opened = fold_out-Bodies ItemLeft (List BodyLeft) BodyLeft RunLeft left_step bodies_step body_step run_step

pub body_opened : (body : BodyNow) → body_kept body ≡ record { at = (out-Body body).at.items; own = (out-Body body).own.contents; order = told (out-Body body).order; parts = map left_of (out-Body body).parts.items }
body_opened = fold_out-Body ItemLeft (List BodyLeft) BodyLeft RunLeft left_step bodies_step body_step run_step

pub run_opened : (run : RunNow) → run_kept run ≡ record { state = (out-Run run).state; ended = (out-Run run).ended; body = body_kept (out-Run run).body }
run_opened = fold_out-Run ItemLeft (List BodyLeft) BodyLeft RunLeft left_step bodies_step body_step run_step
