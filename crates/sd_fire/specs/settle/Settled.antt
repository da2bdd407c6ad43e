-- What is left of a run, settled in one pass from left to right.
use Rattle.std.specs.Prelude.{◌≡◌, ℕ, ◌<◌, nat_eq, nat_lt, List, [], ◌∷◌, map, length, slice_set, slice_index_or, Bool, true, not, ◌&&◌, ◌||◌}
use Rattle.sd_work.specs.Memory.{Memories, waiting}
use Rattle.sd_work.specs.Residual.{Points}
use Rattle.sd_work.specs.Settle.{settle, settle_parts, settle_active}
use Rattle.sd_graph.specs.PlainTree.{KindTree, ItemTrees, GraphTree}
use Rattle.sd_graph.specs.Context.{Context, Reach}
use Rattle.sd_graph.specs.Unfold.{order_of_points}
use Rattle.sd_graph.specs.declared.place.Frame.{Frame}
use Rattle.sd_mem.specs.declared.machine.address.Station.{Station}
use Rattle.sd_left.specs.tree.Standing.{body_left, points_left, active_left, run_left}
use Rattle.sd_left.specs.declared.left.left.Left.{Left}
use Rattle.sd_left.specs.declared.left.left.Bodies.{Bodies}
use Rattle.sd_left.specs.declared.left.left.Body.{Body}
use Rattle.sd_left.specs.declared.left.left.Run.{Run}
use Rattle.sd_left.specs.declared.left.left.Left.TheViews.{out-Bodies, out-Body}
use Rattle.sd_left.specs.left.Kept.{left_of, bodies_kept, body_kept, run_kept}
use Rattle.sd_left.specs.left.Waits.{all_hold, is_counted, are_bodies_counted, is_body_counted, is_run_counted}
use Rattle.sd_left.specs.left.Tells.{tells, bodies_tell, body_tells, run_tells}
use Rattle.sd_fire.specs.settle.Cleared.{ClearsTo}

-- an item
pub record IsLeftSettled (old new : Left) (may_go : Bool) (clear : ℕ) (memories : Memories) : Type 0 where
  pub settled : (cleared : List Bool) → ClearsTo cleared clear → (kind : KindTree) (line : ℕ) (context : Context)
      → left_of new kind line context ≡ settle may_go cleared memories (left_of old kind line context)
  pub counted : is_counted new memories ≡ true
  pub right : (tells new).is_right ≡ true

-- the points of a map, sequential or not
pub record ArePointsSettled (sequential : Bool) (old new : Bodies) (may_go : Bool) (clear : ℕ) (memories : Memories) : Type 0 where
  pub settled : (cleared : List Bool) → ClearsTo cleared clear → (kind : KindTree) (context : Context)
      → points_left (bodies_kept new) kind context ≡ settle_parts may_go cleared memories Points (order_of_points sequential) [] 0 (points_left (bodies_kept old) kind context)
  pub counted : are_bodies_counted new memories ≡ true
  pub right : (bodies_tell new).is_right ≡ true

-- the elements of a consume scope
pub record AreElementsSettled (old new : Bodies) (may_go : Bool) (clear : ℕ) (memories : Memories) : Type 0 where
  pub settled : (cleared : List Bool) → ClearsTo cleared clear → (kind : KindTree) (context : Context)
      → active_left (bodies_kept new) kind context ≡ settle_active may_go cleared memories (active_left (bodies_kept old) kind context)
  pub counted : are_bodies_counted new memories ≡ true
  pub right : (bodies_tell new).is_right ≡ true

-- a consume scope over a stream: it is finished where it may go on, no element is in work, no value waits, and its stream is clear
pub record IsPoolSettled (stream : Station) (old : Bodies) (was_closed : Bool) (new : Bodies) (values : ℕ) (is_closed may_go : Bool) (clear : ℕ) (memories : Memories) : Type 0 where
  pub elements : AreElementsSettled old new may_go clear memories
  pub kept : values ≡ length (waiting stream.level stream.container memories)
  pub closed : is_closed ≡ (was_closed || (may_go && (not (bodies_tell new).is_unfinished && (nat_eq values 0 && nat_lt stream.level clear))))

-- items whose memory is the innermost one
pub record AreItemsSettled (old new : Body) (may_go : Bool) (clear : ℕ) (memories : Memories) : Type 0 where
  pub settled : (cleared : List Bool) → ClearsTo cleared clear → (items : ItemTrees) (context : Context)
      → body_left (body_kept new) items context ≡ settle may_go cleared memories (body_left (body_kept old) items context)
  pub at : (body_kept new).at ≡ (body_kept old).at
  pub counted : all_hold (map is_counted (out-Body new).parts.items) memories ≡ true
  pub right : (body_tells new).is_right ≡ true

-- items inside their memory
pub record IsBodySettled (old new : Body) (may_go : Bool) (clear : ℕ) (memories : Memories) : Type 0 where
  pub settled : (cleared : List Bool) → ClearsTo cleared clear → (items : ItemTrees) (context : Context)
      → body_left (body_kept new) items context ≡ settle may_go (true ∷ cleared) ((body_kept old).own ∷ memories) (body_left (body_kept old) items context)
  pub at : (body_kept new).at ≡ (body_kept old).at
  pub own : (body_kept new).own ≡ (body_kept old).own
  pub counted : is_body_counted new memories ≡ true
  pub right : (body_tells new).is_right ≡ true

-- a run of a graph
pub record IsRunSettled (old new : Run) (may_go : Bool) (clear : ℕ) (memories : Memories) : Type 0 where
  pub settled : (cleared : List Bool) → ClearsTo cleared clear → (tree : GraphTree) (reach : ℕ → Reach) (around : List Frame)
      → run_left (run_kept new) tree reach around ≡ settle may_go cleared memories (run_left (run_kept old) tree reach around)
  pub counted : is_run_counted new memories ≡ true
  pub right : (run_tells new).is_right ≡ true

-- one body of many, in which so many open consume scopes are then
pub record IsOneSettled (old new : Bodies) (number count : ℕ) (may_go : Bool) (clear : ℕ) (memories : Memories) : Type 0 where
  pub body : Body
  pub there : number < length (out-Bodies old).bodies.items
  pub put : (out-Bodies new).bodies.items ≡ slice_set (out-Bodies old).bodies.items number body
  pub settled : (before : Body) → before ≡ slice_index_or (out-Bodies old).bodies.items number before → IsBodySettled before body may_go clear memories
  pub pools : count ≡ (body_tells body).pools
  pub right : (bodies_tell new).is_right ≡ true

-- one item of many, in which so many open consume scopes are then
pub record IsPartSettled (old new : Body) (number count : ℕ) (may_go : Bool) (clear : ℕ) (memories : Memories) : Type 0 where
  pub part : Left
  pub there : number < length (out-Body old).parts.items
  pub put : (out-Body new).parts.items ≡ slice_set (out-Body old).parts.items number part
  pub at : (out-Body new).at ≡ (out-Body old).at
  pub order : (out-Body new).order ≡ (out-Body old).order
  pub settled : (before : Left) → before ≡ slice_index_or (out-Body old).parts.items number before → IsLeftSettled before part may_go clear memories
  pub pools : count ≡ (tells part).pools
  pub right : (body_tells new).is_right ≡ true
