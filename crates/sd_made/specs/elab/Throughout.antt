-- What holds of the states of a graph and of those of each graph nested in it.
use Rattle.std.specs.Prelude.{⊤}
use Rattle.sd_graph.specs.PlainTree.{KindTree, task, map_scope, consume_scope, nested_graph, reduction, copy, ItemTrees, no_item, and_item, StateTrees, no_state, and_state, GraphTree, graph}

module _ (Holds : StateTrees → Type 0) where
  abbrev mutual
    -- in the graphs nested in an item
    pub KindThroughout : KindTree → Type 0
    KindThroughout (task code ins outs) = ⊤
    KindThroughout (map_scope sequential params private body) = ItemsThroughout body
    KindThroughout (consume_scope stream element private body) = ItemsThroughout body
    KindThroughout (nested_graph inner links) = Throughout inner
    KindThroughout (reduction resolution axis identity from to) = ⊤
    KindThroughout (copy from to) = ⊤

    pub ItemsThroughout : ItemTrees → Type 0
    ItemsThroughout no_item = ⊤
    ItemsThroughout (and_item line kind items) = KindThroughout kind × ItemsThroughout items

    pub StatesThroughout : StateTrees → Type 0
    StatesThroughout no_state = ⊤
    StatesThroughout (and_state items exits states) = ItemsThroughout items × StatesThroughout states

    pub Throughout : GraphTree → Type 0
    Throughout (graph name containers arguments variables symbols states) = Holds states × StatesThroughout states
