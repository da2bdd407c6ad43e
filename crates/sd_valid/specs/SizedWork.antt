-- What a graph has to do where its size symbols have these sizes, as residual work: what `sd_graph` makes of it, with the sizes among the values of the variables wherever
-- an expression is evaluated. Extents of containers, of which work looks at constants alone, and code stand with their sizes.
use Rattle.std.specs.Prelude.{ℕ, zero, suc, ℤ, pos, List, [], map, length, replicate, option_map, false}
use Rattle.std.specs.List.{zip}
use Rattle.sd_range.specs.Affine.{affine_value}
use Rattle.sd_range.specs.Variables.{with_variables}
use Rattle.sd_range.specs.Points.{points, ranges_of}
use Rattle.sd_work.specs.Memory.{Memory}
use Rattle.sd_work.specs.Exit.{Values}
use Rattle.sd_work.specs.Exit as work
use Rattle.sd_work.specs.Leaf.{copy_of, reduction_of}
use Rattle.sd_work.specs.Residual.{Term, leaf, list, Items, owning, pool, Terms, none, also, idle, begun}
use Rattle.sd_graph.specs.PlainTree.{KindTree, task, map_scope, consume_scope, nested_graph, reduction, copy, ItemTrees, no_item, and_item, StateTrees, no_state, and_state, GraphTree, graph, ExitTree}
use Rattle.sd_graph.specs.TreeParts.{containers_of, exits_at}
use Rattle.sd_graph.specs.ContainerParts.{Containers}
use Rattle.sd_graph.specs.Context.{Reach, Context, own_reach, link_elements, frames_at, place_at}
use Rattle.sd_graph.specs.Unfold.{task_of, guard_of, reduction_pairs, map_over, at_element, element_memory, list_of, in_any_order, at_state, reach_inside, run_memory}
use Rattle.sd_graph.specs.declared.place.Frame.{Frame}
use Rattle.sd_graph.specs.declared.place.Place.{Place}
use Rattle.sd_valid.specs.BoundTree.{bound_entry}
use Rattle.sd_valid.specs.SizedValues.{sized}

-- where work stands, with the sizes among the values
abbrev pub at_sizes : (sizes : List ℤ) → Context → Context
at_sizes sizes context = record context { values = sized sizes context.values }

-- containers whose extents have the sizes
abbrev pub sized_containers : (sizes : List ℤ) → Containers → Containers
sized_containers sizes containers = map (bound_entry sizes) containers

-- a transition sets its variables as it does with the sizes; the others keep their values
abbrev pub sized_exit : (sizes : List ℤ) → Context → ExitTree → work.Exit Place
sized_exit sizes context exit = record {
  when = option_map (guard_of (at_sizes sizes context)) exit.when;
  marked = exit.back;
  state = exit.to;
  values = with_variables (map (λ assignment. (assignment.0, affine_value (sized sizes context.values) assignment.1)) exit.set) context.values;
}

abbrev mutual
  -- what an item has to do
  pub sized_kind : (sizes : List ℤ) → KindTree → (line : ℕ) → Context → Term Place
  sized_kind sizes (task code ins outs) line context = leaf (place_at context line) (task_of (at_sizes sizes context) code ins outs)
  sized_kind sizes (map_scope sequential params private body) line context =
      map_over context sequential params private (λ inside. list_of inside body (sized_items sizes body inside)) (points (ranges_of params) (sized sizes context.values))
  sized_kind sizes (consume_scope stream element private body) line context =
      pool (context.reach stream).level (context.reach stream).container
      (λ value. owning (element_memory context element private value) (let inside = at_element context element private value in list_of inside body (sized_items sizes body inside)))
      idle false
  sized_kind sizes (nested_graph inner links) line context =
      sized_graph sizes inner (reach_inside (at_sizes sizes context) links (sized_containers sizes (containers_of inner))) (run_memory (sized_containers sizes (containers_of inner))) (frames_at context line)
  sized_kind sizes (reduction resolution axis identity from to) line context =
      leaf (place_at context line) (reduction_of resolution identity (link_elements (at_sizes sizes context) to) (reduction_pairs (at_sizes sizes context) axis from to))
  sized_kind sizes (copy from to) line context =
      leaf (place_at context line) (copy_of (zip (link_elements (at_sizes sizes context) from) (link_elements (at_sizes sizes context) to)))

  -- what the items of a list have to do
  pub sized_items : (sizes : List ℤ) → ItemTrees → Context → Terms Place
  sized_items sizes no_item context = none
  sized_items sizes (and_item line kind items) context = also (sized_kind sizes kind line context) (sized_items sizes items context)

  -- what the state of this number has to do; nothing where there is no such state
  pub sized_state : (sizes : List ℤ) → StateTrees → (state : ℕ) → Context → Term Place
  sized_state sizes no_state state context = list Items in_any_order none
  sized_state sizes (and_state items exits states) zero context = list_of context items (sized_items sizes items context)
  sized_state sizes (and_state items exits states) (suc state) context = sized_state sizes states state context

  -- a run of a graph from its state 0 on, with all variables 0 but for the size symbols
  pub sized_graph : (sizes : List ℤ) → GraphTree → (reach : ℕ → Reach) → (own : Memory) → (around : List Frame) → Term Place
  sized_graph sizes (graph name containers arguments variables symbols states) reach own around =
      begun
      (λ state values. sized_state sizes states state (at_state (sized_containers sizes containers) variables states reach around state values))
      (λ state values. map (sized_exit sizes (at_state (sized_containers sizes containers) variables states reach around state values)) (exits_at states state))
      own (replicate (length variables) (pos 0))

-- a run of a whole graph with these sizes over its memory
abbrev pub sized_run : (sizes : List ℤ) → GraphTree → Memory → Term Place
sized_run sizes tree memory = sized_graph sizes tree (own_reach (sized_containers sizes (containers_of tree))) memory []
