-- What is left of a map of tasklets, point by point.
use Rattle.std.specs.Prelude.{ℕ, suc, ℤ, List, [], ◌∷◌, map, Option, Some, None, Ok, slice_index_or}
use Rattle.sd_range.specs.Points.{points, ranges_of}
use Rattle.sd_work.specs.Memory.{Memory}
use Rattle.sd_work.specs.Leaf.{Leaf, instance_of}
use Rattle.sd_work.specs.Residual.{leaf}
use Rattle.sd_graph.specs.PlainTree.{KindTree, task, map_scope, consume_scope, nested_graph, reduction, copy}
use Rattle.sd_graph.specs.Context.{Context, place_at, private_memory}
use Rattle.sd_graph.specs.Unfold.{task_of}
use Rattle.sd_mem.specs.mem.Shaped.{Shaped}
use Rattle.sd_leaves.specs.moves.Left.{instance_left}
use Rattle.sd_leaves.specs.declared.moves.instance.Instance.{Instance}
use Rattle.sd_order.specs.table.Told.{told}
use Rattle.sd_left.specs.declared.sparse.point.Begun.{Begun}
use Rattle.sd_left.specs.declared.sparse.point.Tasks.{Tasks}
use Rattle.sd_left.specs.tree.Standing.{ItemLeft, BodyLeft}
use Rattle.sd_left.specs.tree.Evaluated.{evaluation_in}
use Rattle.sd_left.specs.sparse.Point.{tasks_at}

-- the numbers of a point of a map, by its place among the points
abbrev pub point_numbers : KindTree → Context → (place : ℕ) → List ℤ
point_numbers (task code ins outs) context place = []
point_numbers (map_scope sequential params private body) context place = slice_index_or (points (ranges_of params) context.values) place []
point_numbers (consume_scope stream element private body) context place = []
point_numbers (nested_graph inner links) context place = []
point_numbers (reduction resolution axis identity from to) context place = []
point_numbers (copy from to) context place = []

-- the private containers of a point of a map, as they begin
abbrev pub private_of : KindTree → Context → Memory
private_of (task code ins outs) context = []
private_of (map_scope sequential params private body) context = private_memory context.containers private
private_of (consume_scope stream element private body) context = []
private_of (nested_graph inner links) context = []
private_of (reduction resolution axis identity from to) context = []
private_of (copy from to) context = []

-- a tasklet that has not begun; in the place of another item, one that does nothing
abbrev pub fresh_work : KindTree → Context → Leaf
fresh_work (task code ins outs) context = task_of context code ins outs
fresh_work (map_scope sequential params private body) context = instance_of [] (λ values. Ok [])
fresh_work (consume_scope stream element private body) context = instance_of [] (λ values. Ok [])
fresh_work (nested_graph inner links) context = instance_of [] (λ values. Ok [])
fresh_work (reduction resolution axis identity from to) context = instance_of [] (λ values. Ok [])
fresh_work (copy from to) context = instance_of [] (λ values. Ok [])

-- what is left of a tasklet, which has not begun or has
abbrev pub task_left : Option Instance → ItemLeft
task_left None kind line context = leaf (place_at context line) (fresh_work kind context)
task_left (Some instance) kind line context = leaf (place_at context line) (instance_left (evaluation_in kind context) instance)

-- the private containers of a point: those that were made, or as they begin
abbrev pub memory_or : Option Shaped → Memory → Memory
memory_or None memory = memory
memory_or (Some own) memory = own.contents

abbrev pub own_at : Option Begun → KindTree → Context → Memory
own_at None kind context = private_of kind context
own_at (Some begun) kind context = memory_or begun.own (private_of kind context)

-- what is left of a point of a map, which is in this place
abbrev pub body_at : Tasks → KindTree → Context → (placed : ℕ × Option Begun) → BodyLeft
body_at tasks kind context placed = record {
  at = point_numbers kind context placed.0;
  own = own_at placed.1 kind context;
  order = told tasks.order;
  parts = map task_left (tasks_at tasks.count placed.1);
}

-- each with its place, from this one on
abbrev pub placed_from : {A : Type 0} → (place : ℕ) → List A → List (ℕ × A)
placed_from place [] = []
placed_from place (first ∷ others) = (place, first) ∷ placed_from (suc place) others

-- the points of a map
abbrev pub bodies_at : Tasks → List (Option Begun) → KindTree → Context → List BodyLeft
bodies_at tasks points kind context = map (body_at tasks kind context) (placed_from 0 points)
