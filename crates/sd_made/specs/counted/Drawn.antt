-- How many nodes are drawn for the items of a list.
use Rattle.std.specs.Prelude.{ℕ, ◌+◌, List, [], ◌++◌, length, not}
use Rattle.std.specs.List.{filter}
use Rattle.sd_graph.specs.PlainTree.{KindTree, task, map_scope, consume_scope, nested_graph, reduction, copy, ItemTrees, no_item, and_item}
use Rattle.sd_graph.specs.ContainerParts.{Containers}
use Rattle.sd_graph.specs.Wiring.{has_number, kind_uses}
use Rattle.sd_wire.specs.declared.wiring.access.Access.TheVariants.{Reads, Writes}
use Rattle.sd_wire.specs.wiring.Mentioned.{containers_by}
use Rattle.sd_wire.specs.wiring.Drawing.{own_among}

-- the own containers that an item reads, those that have a current access node aside
abbrev pub read_anew : KindTree → Containers → (own current : List ℕ) → List ℕ
read_anew kind containers own current = filter (λ container. not (has_number current container)) (own_among own (containers_by Reads (kind_uses kind containers)))

-- the own containers that it writes
abbrev pub written : KindTree → Containers → (own : List ℕ) → List ℕ
written kind containers own = own_among own (containers_by Writes (kind_uses kind containers))

-- the containers with a current access node behind it
abbrev pub current_behind : KindTree → Containers → (own current : List ℕ) → List ℕ
current_behind kind containers own current = (current ++ read_anew kind containers own current) ++ written kind containers own

abbrev mutual
  -- of an item itself: one, or a scope's entry and exit with those of its body
  pub item_nodes : KindTree → Containers → ℕ
  item_nodes (task code ins outs) containers = 1
  item_nodes (map_scope sequential params private body) containers = 2 + list_nodes body containers private []
  item_nodes (consume_scope stream element private body) containers = 2 + list_nodes body containers private []
  item_nodes (nested_graph inner links) containers = 1
  item_nodes (reduction resolution axis identity from to) containers = 1
  item_nodes (copy from to) containers = 1

  -- of a list with these containers of its own, some of which have a current access node
  pub list_nodes : ItemTrees → Containers → (own current : List ℕ) → ℕ
  list_nodes no_item containers own current = 0
  list_nodes (and_item line kind items) containers own current =
      length (read_anew kind containers own current)
      + (item_nodes kind containers + (length (written kind containers own) + list_nodes items containers own (current_behind kind containers own current)))
