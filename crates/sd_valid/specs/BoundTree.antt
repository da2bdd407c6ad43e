-- A graph with sizes in the place of the size symbols, in each expression of it and of the graphs that are nested in it.
use Rattle.std.specs.Prelude.{ℕ, ℤ, List, map, option_map}
use Rattle.sd_graph.specs.PlainTree.{GuardTree, ExitTree, KindTree, task, map_scope, consume_scope, nested_graph, reduction, copy, ItemTrees, no_item, and_item, StateTrees, no_state, and_state, GraphTree, graph}
use Rattle.sd_graph.specs.declared.container.Container.{Container}
use Rattle.sd_valid.specs.BoundExpression.{bound_link, bound_container, bound_assignment, bound_param}
use Rattle.sd_valid.specs.BoundCode.{bound_tasklet}

abbrev pub bound_guard : (sizes : List ℤ) → GuardTree → GuardTree
bound_guard sizes guard = record guard { reads = map (bound_link sizes) guard.reads; code = bound_tasklet sizes guard.code }

abbrev pub bound_exit : (sizes : List ℤ) → ExitTree → ExitTree
bound_exit sizes exit = record exit { when = option_map (bound_guard sizes) exit.when; set = map (bound_assignment sizes) exit.set }

-- a container with its name
abbrev pub bound_entry : (sizes : List ℤ) → List ℕ × Container → List ℕ × Container
bound_entry sizes entry = (entry.0, bound_container sizes entry.1)

abbrev mutual
  pub bound_kind : (sizes : List ℤ) → KindTree → KindTree
  bound_kind sizes (task code ins outs) = task (bound_tasklet sizes code) (map (bound_link sizes) ins) (map (bound_link sizes) outs)
  bound_kind sizes (map_scope sequential params private body) = map_scope sequential (map (bound_param sizes) params) private (bound_items sizes body)
  bound_kind sizes (consume_scope stream element private body) = consume_scope stream element private (bound_items sizes body)
  bound_kind sizes (nested_graph inner links) = nested_graph (bound_graph sizes inner) (map (bound_link sizes) links)
  bound_kind sizes (reduction resolution axis identity from to) = reduction resolution axis identity (bound_link sizes from) (bound_link sizes to)
  bound_kind sizes (copy from to) = copy (bound_link sizes from) (bound_link sizes to)

  pub bound_items : (sizes : List ℤ) → ItemTrees → ItemTrees
  bound_items sizes no_item = no_item
  bound_items sizes (and_item line kind items) = and_item line (bound_kind sizes kind) (bound_items sizes items)

  pub bound_states : (sizes : List ℤ) → StateTrees → StateTrees
  bound_states sizes no_state = no_state
  bound_states sizes (and_state items exits states) = and_state (bound_items sizes items) (map (bound_exit sizes) exits) (bound_states sizes states)

  pub bound_graph : (sizes : List ℤ) → GraphTree → GraphTree
  bound_graph sizes (graph name containers arguments variables symbols states) =
      graph name (map (bound_entry sizes) containers) arguments variables symbols (bound_states sizes states)
