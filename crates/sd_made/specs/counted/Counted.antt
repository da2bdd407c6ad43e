-- How many nodes the items of a source's list have, and the names that an item reads or writes.
use Rattle.std.specs.Prelude.{ℕ, ◌+◌, ◌-◌, List, [], ◌∷◌, ◌++◌, length}
use Rattle.sd_source.specs.nodes.Items.{Name, Item, none, single, map_scope, consume_scope, Items, no_item, and_item}
use Rattle.sd_source.specs.nodes.Names.{Named, noted_own}
use Rattle.sd_source.specs.nodes.Nodes.{chosen}
use Rattle.sd_source.specs.nodes.NodeLimits.{nested}
use Rattle.sd_source.specs.declared.nodes.access.Access.{Access}
use Rattle.sd_source.specs.declared.nodes.access.Access.TheVariants.{Read, Write}

-- the containers that an item reads or writes, itself or in the scopes in it
abbrev mutual
  pub names_in : Access → Item → List Name
  names_in access (none line) = []
  names_in access (single line called reads writes) = chosen access reads writes
  names_in access (map_scope line own body) = names_in_all access body
  names_in access (consume_scope line stream own body) = chosen access (stream ∷ []) [] ++ names_in_all access body

  pub names_in_all : Access → Items → List Name
  names_in_all access no_item = []
  names_in_all access (and_item item items) = names_in access item ++ names_in_all access items

-- how many of a list's own containers these names have more than are known
abbrev pub more : (own known : List Name) → List Name → ℕ
more own known names = length (noted_own own known names) - length known

abbrev mutual
  -- of an item itself: one, or a scope's entry and exit with those of its body
  pub item_nodes : Item → ℕ
  item_nodes (none line) = 0
  item_nodes (single line called reads writes) = 1
  item_nodes (map_scope line own body) = 2 + list_nodes own [] body
  item_nodes (consume_scope line stream own body) = 2 + list_nodes own [] body

  -- of a list with these containers of its own, some of which have a current access node
  pub list_nodes : (own current : List Name) → Items → ℕ
  list_nodes own current no_item = 0
  list_nodes own current (and_item item items) =
      more own current (names_in Read item)
      + (item_nodes item + (more own [] (names_in Write item) + list_nodes own (noted_own own (noted_own own current (names_in Read item)) (names_in Write item)) items))

-- the nodes of the graphs of the functions that are called
abbrev mutual
  pub item_nested : Named ℕ → Item → ℕ
  item_nested counts (none line) = 0
  item_nested counts (single line called reads writes) = nested counts called
  item_nested counts (map_scope line own body) = list_nested counts body
  item_nested counts (consume_scope line stream own body) = list_nested counts body

  pub list_nested : Named ℕ → Items → ℕ
  list_nested counts no_item = 0
  list_nested counts (and_item item items) = item_nested counts item + list_nested counts items
