-- The nodes of a state's items, one for each item, depth first: those that are neither an access nor an exit.
use Rattle.std.specs.Prelude.{ℕ, suc, ◌+◌, List, [], ◌∷◌, drop, Bool, true, false, if◌then◌else◌}
use Rattle.sd_graph.specs.PlainTree.{KindTree, task, map_scope, consume_scope, nested_graph, reduction, copy, ItemTrees, no_item, and_item}
use Rattle.sd_graph.specs.ContainerParts.{Containers}
use Rattle.sd_graph.specs.declared.wired.Node.{Node}
use Rattle.sd_graph.specs.declared.wired.NodeKind.{NodeKind}
use Rattle.sd_graph.specs.declared.wired.NodeKind.TheVariants.{Access, Tasklet, MapEntry, ConsumeEntry, Exit, Nested, Reduce, Copy}
use Rattle.sd_wire.specs.wiring.Listing.{nodes_of}

abbrev pub is_of_item : NodeKind → Bool
is_of_item (Access container) = false
is_of_item Tasklet = true
is_of_item MapEntry = true
is_of_item ConsumeEntry = true
is_of_item (Exit entry) = false
is_of_item Nested = true
is_of_item Reduce = true
is_of_item Copy = true

-- the numbers of those among nodes, the first of which has this number
abbrev pub of_items : (number : ℕ) → List Node → List ℕ
of_items number [] = []
of_items number (node ∷ nodes) = if is_of_item node.kind then number ∷ of_items (suc number) nodes else of_items (suc number) nodes

-- the nodes of the items of a state
abbrev pub item_nodes : Containers → ItemTrees → List ℕ
item_nodes containers items = of_items 0 (nodes_of containers items)

-- of the nodes of an item, of those in it and of those behind it, the item's own
abbrev pub own_node : List ℕ → ℕ
own_node [] = 0
own_node (node ∷ nodes) = node

-- and the others
abbrev pub nodes_behind : List ℕ → List ℕ
nodes_behind [] = []
nodes_behind (node ∷ nodes) = nodes

abbrev mutual
  -- how many nodes an item has so: its own, and those of the items of its body
  pub node_count : KindTree → ℕ
  node_count (task code ins outs) = 1
  node_count (map_scope sequential params private body) = suc (node_counts body)
  node_count (consume_scope stream element private body) = suc (node_counts body)
  node_count (nested_graph inner links) = 1
  node_count (reduction resolution axis identity from to) = 1
  node_count (copy from to) = 1

  pub node_counts : ItemTrees → ℕ
  node_counts no_item = 0
  node_counts (and_item line kind items) = node_count kind + node_counts items

-- without those of an item
abbrev pub past : KindTree → List ℕ → List ℕ
past kind nodes = drop (node_count kind) nodes
