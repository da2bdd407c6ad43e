-- Trees whose counts are right again behind a move.
use Rattle.std.specs.Prelude.{◌≡◌, ℕ, List, Bool, true}
use Rattle.sd_work.specs.Residual.{list, pool, Points}
use Rattle.sd_work.specs.Moves.{Path}
use Rattle.sd_work.specs.BigStep.{Reached}
use Rattle.sd_graph.specs.PlainTree.{KindTree, ItemTrees, GraphTree}
use Rattle.sd_graph.specs.Context.{Context, Reach}
use Rattle.sd_graph.specs.declared.place.Frame.{Frame}
use Rattle.sd_mem.specs.declared.machine.address.Station.{Station}
use Rattle.sd_mem.specs.declared.machine.end.End.{End}
use Rattle.sd_left.specs.tree.Standing.{element_term, body_left, points_left, active_left, nested_left, run_left}
use Rattle.sd_left.specs.declared.left.left.Left.{Left}
use Rattle.sd_left.specs.declared.left.left.Bodies.{Bodies}
use Rattle.sd_left.specs.declared.left.left.Body.{Body}
use Rattle.sd_left.specs.declared.left.left.Run.{Run}
use Rattle.sd_left.specs.declared.sparse.point.Tasks.{Tasks}
use Rattle.sd_left.specs.declared.sparse.stretch.Stretch.{Stretch}
use Rattle.sd_left.specs.sparse.Stretch.{points_in, is_summed}
use Rattle.sd_left.specs.sparse.Terms.{bodies_at}
use Rattle.sd_left.specs.left.Kept.{left_of, bodies_kept, body_kept, run_kept}
use Rattle.sd_left.specs.left.Tells.{tells, bodies_tell, body_tells, run_tells}
use Rattle.sd_left.specs.fired.Fired.{IsFired, IsBodyFired}

-- of an item
pub record IsLeftFired (old : Left) (kind : KindTree) (line : ℕ) (context : Context) (path : Path) (before : Reached) (end : End) (after : Reached) (new : Left) : Type 0 where
  pub fired : IsFired (left_of old kind line context) path before end after (left_of new kind line context)
  pub right : (tells new).is_right ≡ true

-- of the points of a map, in whatever order they come
pub record ArePointsFired (old : Bodies) (kind : KindTree) (context : Context) (path : Path) (before : Reached) (end : End) (after : Reached) (new : Bodies) : Type 0 where
  pub fired : (order : ℕ → ℕ → Bool) → IsFired (list Points order (points_left (bodies_kept old) kind context)) path before end after (list Points order (points_left (bodies_kept new) kind context))
  pub right : (bodies_tell new).is_right ≡ true

-- of the points of a map of tasklets, in whatever order they come
pub record AreSparseFired (tasks : Tasks) (old : Stretch) (kind : KindTree) (context : Context) (path : Path) (before : Reached) (end : End) (after : Reached) (new : Stretch) : Type 0 where
  pub fired : (order : ℕ → ℕ → Bool) → IsFired (list Points order (points_left (bodies_at tasks (points_in old) kind context) kind context)) path before end after (list Points order (points_left (bodies_at tasks (points_in new) kind context) kind context))
  pub summed : is_summed tasks new ≡ true

-- of a consume scope over a stream, open or closed
pub record AreElementsFired (stream : Station) (old : Bodies) (kind : KindTree) (context : Context) (path : Path) (before : Reached) (end : End) (after : Reached) (new : Bodies) : Type 0 where
  pub fired : (closed : Bool) → IsFired (pool stream.level stream.container (element_term kind context) (active_left (bodies_kept old) kind context) closed) path before end after (pool stream.level stream.container (element_term kind context) (active_left (bodies_kept new) kind context) closed)
  pub right : (bodies_tell new).is_right ≡ true

-- of the items of a body, whose memory is the innermost one; its numbers stay
pub record ArePartsFired (old : Body) (items : ItemTrees) (context : Context) (path : Path) (before : Reached) (end : End) (after : Reached) (new : Body) : Type 0 where
  pub fired : IsFired (body_left (body_kept old) items context) path before end after (body_left (body_kept new) items context)
  pub at : (body_kept new).at ≡ (body_kept old).at
  pub right : (body_tells new).is_right ≡ true

-- of the items of a body inside its memory
pub record AreItemsFired (old : Body) (items : ItemTrees) (context : Context) (path : Path) (before : Reached) (end : End) (after : Reached) (new : Body) : Type 0 where
  pub fired : IsBodyFired (body_kept old) items context path before end after (body_kept new)
  pub right : (body_tells new).is_right ≡ true

-- of a nested graph
pub record IsNestedFired (old : Run) (kind : KindTree) (line : ℕ) (context : Context) (path : Path) (before : Reached) (end : End) (after : Reached) (new : Run) : Type 0 where
  pub fired : IsFired (nested_left (run_kept old) kind line context) path before end after (nested_left (run_kept new) kind line context)
  pub right : (run_tells new).is_right ≡ true

-- of a run of a graph
pub record IsRunFired (old : Run) (tree : GraphTree) (reach : ℕ → Reach) (around : List Frame) (path : Path) (before : Reached) (end : End) (after : Reached) (new : Run) : Type 0 where
  pub fired : IsFired (run_left (run_kept old) tree reach around) path before end after (run_left (run_kept new) tree reach around)
  pub right : (run_tells new).is_right ≡ true
