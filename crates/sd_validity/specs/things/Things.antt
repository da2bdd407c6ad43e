-- What stands in a graph, in the order of its places, without the graphs nested in it.
use Rattle.std.specs.Prelude.{List, [], ◌∷◌, ◌++◌}
use Rattle.sd_graph.specs.PlainTree.{KindTree, task, map_scope, consume_scope, nested_graph, reduction, copy, ItemTrees, no_item, and_item, StateTrees, no_state, and_state, GraphTree, graph}
use Rattle.sd_validity.specs.rules.Places.{Thing, whole, leaving, doing}

abbrev mutual
  -- in an item
  pub things_in : KindTree → List Thing
  things_in (task code ins outs) = []
  things_in (map_scope sequential params private body) = item_things body
  things_in (consume_scope stream element private body) = item_things body
  things_in (nested_graph inner links) = []
  things_in (reduction resolution axis identity from to) = []
  things_in (copy from to) = []

  pub item_things : ItemTrees → List Thing
  item_things no_item = []
  item_things (and_item line kind items) = doing kind ∷ (things_in kind ++ item_things items)

abbrev pub state_things : StateTrees → List Thing
state_things no_state = []
state_things (and_state items exits states) = leaving items exits ∷ (item_things items ++ state_things states)

abbrev pub graph_things : GraphTree → List Thing
graph_things (graph name containers arguments variables symbols states) = whole ∷ state_things states
