-- Without consume scopes there are no pools.
use Rattle.std.proofs.Common.{◌≡◌, ℕ, zero, suc, ℤ, List, [], ◌∷◌, Bool, true, false, ◌||◌, refl}
use Rattle.sd_work.specs.Memory.{Memory}
use Rattle.sd_work.specs.Residual.{Term}
use Rattle.sd_work.specs.WellFormed.{HasNoPool, HaveNoPool}
use Rattle.sd_graph.specs.PlainTree.{KindTree, task, map_scope, consume_scope, nested_graph, reduction, copy, ItemTrees, no_item, and_item, StateTrees, no_state, and_state, GraphTree, graph}
use Rattle.sd_graph.specs.TreeParts.{containers_of}
use Rattle.sd_graph.specs.Context.{Reach, Context, frames_at}
use Rattle.sd_graph.specs.Unfold.{at_point, at_state, point_terms, reach_inside, run_memory, unfold_kind, unfold_items, unfold_state, unfold_graph}
use Rattle.sd_range.specs.Points.{points, ranges_of}
use Rattle.sd_graph.specs.declared.place.Frame.{Frame}
use Rattle.sd_graph.specs.declared.place.Place.{Place}
use Rattle.sd_left.specs.pool_free.Consuming.{kind_consumes, items_consume, states_consume, graph_consumes}

neither : (a b : Bool) → (a || b) ≡ false → (a ≡ false) × (b ≡ false)
neither false b h = (refl, h)
neither true b h = absurd (let no : true ≡ false = h in cc)

points-free : (term : List ℤ → Term Place) (points : List (List ℤ)) → ((point : List ℤ) → HasNoPool (term point)) → HaveNoPool (point_terms term points)
points-free term [] free = tt
points-free term (point ∷ points) free = (free point, points-free term points free)

mutual
  kind-free : (kind : KindTree) (line : ℕ) (context : Context) → kind_consumes kind ≡ false → HasNoPool (unfold_kind kind line context)
  kind-free (task code ins outs) line context none = tt
  kind-free (map_scope sequential params private body) line context none = points-free _ (points (ranges_of params) context.values) (λ point. items-free body (at_point context params private point) none)
  kind-free (consume_scope stream element private body) line context none = absurd (let no : true ≡ false = none in cc)
  kind-free (nested_graph inner links) line context none = graph-free inner (reach_inside context links (containers_of inner)) (run_memory (containers_of inner)) (frames_at context line) none
  kind-free (reduction resolution axis identity from to) line context none = tt
  kind-free (copy from to) line context none = tt

  items-free : (items : ItemTrees) (context : Context) → items_consume items ≡ false → HaveNoPool (unfold_items items context)
  items-free no_item context none = tt
  items-free (and_item line kind items) context none =
      let each = neither (kind_consumes kind) (items_consume items) none in
      (kind-free kind line context each.0, items-free items context each.1)

  state-free : (states : StateTrees) (state : ℕ) (context : Context) → states_consume states ≡ false → HasNoPool (unfold_state states state context)
  state-free no_state state context none = tt
  state-free (and_state items exits states) zero context none = items-free items context (neither (items_consume items) (states_consume states) none).0
  state-free (and_state items exits states) (suc state) context none = state-free states state context (neither (items_consume items) (states_consume states) none).1

  pub graph-free : (tree : GraphTree) (reach : ℕ → Reach) (own : Memory) (around : List Frame) → graph_consumes tree ≡ false → HasNoPool (unfold_graph tree reach own around)
  graph-free (graph name containers arguments variables symbols states) reach own around none =
      (state-free states 0 _ none, λ state values. state-free states state (at_state containers variables states reach around state values) none)
