-- Lists of tasklets.
use Rattle.std.specs.Prelude.{Bool, true, false}
use Rattle.sd_graph.specs.PlainTree.{KindTree, task, map_scope, consume_scope, nested_graph, reduction, copy, ItemTrees, no_item, and_item}

-- this item is a tasklet, and so is each of these
abbrev pub and_tasks : KindTree → (others : Bool) → Bool
and_tasks (task code ins outs) others = others
and_tasks (map_scope sequential params private body) others = false
and_tasks (consume_scope stream element private body) others = false
and_tasks (nested_graph inner links) others = false
and_tasks (reduction resolution axis identity from to) others = false
and_tasks (copy from to) others = false

-- each item is a tasklet
abbrev pub are_tasks : ItemTrees → Bool
are_tasks no_item = true
are_tasks (and_item line kind items) = and_tasks kind (are_tasks items)
