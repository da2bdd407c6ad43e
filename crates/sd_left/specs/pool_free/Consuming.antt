-- Whether a graph has consume scopes.
use Rattle.std.specs.Prelude.{Bool, true, false, ◌||◌}
use Rattle.sd_graph.specs.PlainTree.{KindTree, task, map_scope, consume_scope, nested_graph, reduction, copy, ItemTrees, no_item, and_item, StateTrees, no_state, and_state, GraphTree, graph}

abbrev mutual
  -- an item is one, or has one in its body or its graph
  pub kind_consumes : KindTree → Bool
  kind_consumes (task code ins outs) = false
  kind_consumes (map_scope sequential params private body) = items_consume body
  kind_consumes (consume_scope stream element private body) = true
  kind_consumes (nested_graph inner links) = graph_consumes inner
  kind_consumes (reduction resolution axis identity from to) = false
  kind_consumes (copy from to) = false

  pub items_consume : ItemTrees → Bool
  items_consume no_item = false
  items_consume (and_item line kind items) = kind_consumes kind || items_consume items

  pub states_consume : StateTrees → Bool
  states_consume no_state = false
  states_consume (and_state items exits states) = items_consume items || states_consume states

  pub graph_consumes : GraphTree → Bool
  graph_consumes (graph name containers arguments variables symbols states) = states_consume states
