-- What is left of a run, where finished points and elements have let go of what they held.
use Rattle.std.specs.Prelude.{◌≡◌, ℕ, List, true}
use Rattle.sd_work.specs.Memory.{Memories}
use Rattle.sd_work.specs.Residual.{owning}
use Rattle.sd_graph.specs.PlainTree.{KindTree, ItemTrees, GraphTree}
use Rattle.sd_graph.specs.Context.{Context, Reach}
use Rattle.sd_graph.specs.declared.place.Frame.{Frame}
use Rattle.sd_left.specs.tree.Standing.{body_left, points_left, active_left, run_left}
use Rattle.sd_left.specs.declared.left.left.Left.{Left}
use Rattle.sd_left.specs.declared.left.left.Bodies.{Bodies}
use Rattle.sd_left.specs.declared.left.left.Body.{Body}
use Rattle.sd_left.specs.declared.left.left.Run.{Run}
use Rattle.sd_left.specs.declared.sparse.point.Tasks.{Tasks}
use Rattle.sd_left.specs.declared.sparse.stretch.Stretch.{Stretch}
use Rattle.sd_left.specs.sparse.Stretch.{points_in, is_summed}
use Rattle.sd_left.specs.sparse.Terms.{bodies_at}
use Rattle.sd_left.specs.left.Kept.{left_of, bodies_kept, body_kept, run_kept}
use Rattle.sd_left.specs.left.Waits.{is_counted, are_bodies_counted, is_body_counted, is_run_counted}
use Rattle.sd_left.specs.left.Tells.{tells, bodies_tell, body_tells, run_tells}
use Rattle.sd_core.specs.Released.{IsReleased, AreReleased, AreActiveReleased}

-- of an item
pub record IsLeftReleased (old new : Left) : Type 0 where
  pub released : (kind : KindTree) (line : ℕ) (context : Context) → IsReleased (left_of old kind line context) (left_of new kind line context)
  pub counted : (memories : Memories) → is_counted old memories ≡ true → is_counted new memories ≡ true
  pub right : (tells new).is_right ≡ true

-- of the points of a map, or of the elements of a consume scope
pub record AreBodiesReleased (old new : Bodies) : Type 0 where
  pub points : (kind : KindTree) (context : Context) → AreReleased (points_left (bodies_kept old) kind context) (points_left (bodies_kept new) kind context)
  pub active : (kind : KindTree) (context : Context) → AreActiveReleased (active_left (bodies_kept old) kind context) (active_left (bodies_kept new) kind context)
  pub counted : (memories : Memories) → are_bodies_counted old memories ≡ true → are_bodies_counted new memories ≡ true
  pub right : (bodies_tell new).is_right ≡ true

-- of the points of a map of tasklets
pub record AreSparseReleased (tasks : Tasks) (old new : Stretch) : Type 0 where
  pub released : (kind : KindTree) (context : Context) → AreReleased (points_left (bodies_at tasks (points_in old) kind context) kind context) (points_left (bodies_at tasks (points_in new) kind context) kind context)
  pub summed : is_summed tasks new ≡ true

-- of the items of a body; its numbers and its memory stay
pub record AreItemsReleased (old new : Body) : Type 0 where
  pub released : (items : ItemTrees) (context : Context) → IsReleased (body_left (body_kept old) items context) (body_left (body_kept new) items context)
  pub at : (body_kept new).at ≡ (body_kept old).at
  pub own : (body_kept new).own ≡ (body_kept old).own
  pub counted : (memories : Memories) → is_body_counted old memories ≡ true → is_body_counted new memories ≡ true
  pub right : (body_tells new).is_right ≡ true

-- of a point or an element; its numbers stay
pub record IsOwnerReleased (old new : Body) : Type 0 where
  pub released : (items : ItemTrees) (context : Context)
      → IsReleased (owning (body_kept old).own (body_left (body_kept old) items context)) (owning (body_kept new).own (body_left (body_kept new) items context))
  pub at : (body_kept new).at ≡ (body_kept old).at
  pub counted : (memories : Memories) → is_body_counted old memories ≡ true → is_body_counted new memories ≡ true
  pub right : (body_tells new).is_right ≡ true

-- of a run
pub record IsRunReleased (old new : Run) : Type 0 where
  pub released : (tree : GraphTree) (reach : ℕ → Reach) (around : List Frame) → IsReleased (run_left (run_kept old) tree reach around) (run_left (run_kept new) tree reach around)
  pub counted : (memories : Memories) → is_run_counted old memories ≡ true → is_run_counted new memories ≡ true
  pub right : (run_tells new).is_right ≡ true
