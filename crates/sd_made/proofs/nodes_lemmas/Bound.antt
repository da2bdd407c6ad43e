-- With sizes a graph has the same nodes.
use Rattle.std.proofs.Common.{◌≡◌, ◌∙◌, ℕ, suc, ◌+◌, ℤ, List, [], ◌∷◌, ◌++◌, map, length, None, Bool, not, if◌then◌else◌, refl, ap, sym, arith}
use Rattle.std.specs.List.{filter}
use Rattle.sd_graph.specs.PlainTree.{KindTree, task, map_scope, consume_scope, nested_graph, reduction, copy, ItemTrees, no_item, and_item, StateTrees, no_state, and_state, GraphTree, graph}
use Rattle.sd_graph.specs.ContainerParts.{Containers, container_at}
use Rattle.sd_graph.specs.InForce.{is_private}
use Rattle.sd_graph.specs.LoopScope.{numbers_below}
use Rattle.sd_graph.specs.Wiring.{Use, has_number}
use Rattle.sd_wire.specs.declared.wiring.access.Access.TheVariants.{Reads, Writes}
use Rattle.sd_wire.specs.wiring.Mentioned.{containers_by, own_of_state}
use Rattle.sd_wire.specs.wiring.Drawing.{blank, own_among}
use Rattle.sd_wire.specs.wiring.Listing.{nodes_of}
use Rattle.sd_valid.specs.BoundTree.{bound_entry, bound_kind, bound_items, bound_states, bound_graph}
use Rattle.sd_valid.proofs.SizedUses.{SameKinds, same_kinds, kind_same}
use Rattle.sd_made.specs.counted.Drawn.{read_anew, written, current_behind, item_nodes, list_nodes}
use Rattle.sd_made.proofs.counted_lemmas.DrawnNodes.{items_drawn}
use Rattle.sd_made.proofs.nodes_lemmas.Places.{nested_in, nested_in_all, nodes_in_states, nodes_in, IsFew, AreFew, HaveFew, HasFew}

-- the nodes of a state are as many as its items have
pub nodes_counted : (containers : Containers) (items : ItemTrees) → length (nodes_of containers items) ≡ list_nodes items containers (own_of_state containers) []
nodes_counted containers items = omega (arith, items_drawn items containers None (own_of_state containers) blank)

-- ---- containers of a state's own

filtered_same : (test other : ℕ → Bool) → ((number : ℕ) → test number ≡ other number) → (numbers : List ℕ) → filter test numbers ≡ filter other numbers
filtered_same test other same [] = refl
filtered_same test other same (number ∷ numbers) =
    ap (λ kept. if kept then number ∷ filter test numbers else filter test numbers) (same number)
    ∙ ap (λ rest. if other number then number ∷ rest else rest) (filtered_same test other same numbers)

module _ (sizes : List ℤ) where
  as_many : (containers : Containers) → length (map (bound_entry sizes) containers) ≡ length containers
  as_many [] = refl
  as_many (entry ∷ containers) = ap (λ count. suc count) (as_many containers)

  own_same : (containers : Containers) → own_of_state (map (bound_entry sizes) containers) ≡ own_of_state containers
  own_same containers =
      filtered_same (λ number. not (is_private (container_at (map (bound_entry sizes) containers) number).kind)) (λ number. not (is_private (container_at containers number).kind))
      (λ number. ap (λ kind. not (is_private kind)) (same_kinds sizes containers number)) (numbers_below (length (map (bound_entry sizes) containers)))
      ∙ ap (λ count. filter (λ number. not (is_private (container_at containers number).kind)) (numbers_below count)) (as_many containers)

  -- ---- items

  module _ (containers others : Containers) (same : SameKinds containers others) where
    read_same : (kind : KindTree) (own current : List ℕ) → read_anew (bound_kind sizes kind) containers own current ≡ read_anew kind others own current
    read_same kind own current =
        ap (λ (uses : List Use). filter (λ container. not (has_number current container)) (own_among own (containers_by Reads uses))) (kind_same sizes kind containers others same)

    written_same : (kind : KindTree) (own : List ℕ) → written (bound_kind sizes kind) containers own ≡ written kind others own
    written_same kind own = ap (λ (uses : List Use). own_among own (containers_by Writes uses)) (kind_same sizes kind containers others same)

    behind_same : (kind : KindTree) (own current : List ℕ) → current_behind (bound_kind sizes kind) containers own current ≡ current_behind kind others own current
    behind_same kind own current = λ i. (current ++ read_same kind own current i) ++ written_same kind own i

    mutual
      item_same : (kind : KindTree) → item_nodes (bound_kind sizes kind) containers ≡ item_nodes kind others
      item_same (task code ins outs) = refl
      item_same (map_scope sequential params private body) = ap (λ count. 2 + count) (list_same body private [])
      item_same (consume_scope stream element private body) = ap (λ count. 2 + count) (list_same body private [])
      item_same (nested_graph inner links) = refl
      item_same (reduction resolution axis identity from to) = refl
      item_same (copy from to) = refl

      pub list_same : (items : ItemTrees) (own current : List ℕ) → list_nodes (bound_items sizes items) containers own current ≡ list_nodes items others own current
      list_same no_item own current = refl
      list_same (and_item line kind items) own current =
          omega (
            arith,
            ap (λ (numbers : List ℕ). length numbers) (read_same kind own current),
            item_same kind,
            ap (λ (numbers : List ℕ). length numbers) (written_same kind own),
            list_same items own (current_behind (bound_kind sizes kind) containers own current),
            ap (λ current. list_nodes items others own current) (behind_same kind own current),
          )

  state_same : (containers : Containers) (items : ItemTrees) → length (nodes_of (map (bound_entry sizes) containers) (bound_items sizes items)) ≡ length (nodes_of containers items)
  state_same containers items =
      nodes_counted (map (bound_entry sizes) containers) (bound_items sizes items)
      ∙ list_same (map (bound_entry sizes) containers) containers (same_kinds sizes containers) items (own_of_state (map (bound_entry sizes) containers)) []
      ∙ ap (λ own. list_nodes items containers own []) (own_same containers)
      ∙ sym (nodes_counted containers items)

  -- ---- graphs

  mutual
    kind_nested : (kind : KindTree) → nested_in (bound_kind sizes kind) ≡ nested_in kind
    kind_nested (task code ins outs) = refl
    kind_nested (map_scope sequential params private body) = items_nested body
    kind_nested (consume_scope stream element private body) = items_nested body
    kind_nested (nested_graph inner links) = graph_nodes inner
    kind_nested (reduction resolution axis identity from to) = refl
    kind_nested (copy from to) = refl

    items_nested : (items : ItemTrees) → nested_in_all (bound_items sizes items) ≡ nested_in_all items
    items_nested no_item = refl
    items_nested (and_item line kind items) = omega (arith, kind_nested kind, items_nested items)

    states_nodes : (states : StateTrees) (containers : Containers) → nodes_in_states (bound_states sizes states) (map (bound_entry sizes) containers) ≡ nodes_in_states states containers
    states_nodes no_state containers = refl
    states_nodes (and_state items exits states) containers = omega (arith, state_same containers items, items_nested items, states_nodes states containers)

    pub graph_nodes : (tree : GraphTree) → nodes_in (bound_graph sizes tree) ≡ nodes_in tree
    graph_nodes (graph name containers arguments variables symbols states) = states_nodes states containers

  module _ (most : ℕ) where
    mutual
      kind_few : (kind : KindTree) → IsFew most kind → IsFew most (bound_kind sizes kind)
      kind_few (task code ins outs) few = tt
      kind_few (map_scope sequential params private body) few = items_few body few
      kind_few (consume_scope stream element private body) few = items_few body few
      kind_few (nested_graph inner links) few = graph_few inner few
      kind_few (reduction resolution axis identity from to) few = tt
      kind_few (copy from to) few = tt

      items_few : (items : ItemTrees) → AreFew most items → AreFew most (bound_items sizes items)
      items_few no_item few = tt
      items_few (and_item line kind items) few = (kind_few kind few.0, items_few items few.1)

      states_few : (states : StateTrees) (containers : Containers) → HaveFew most states containers → HaveFew most (bound_states sizes states) (map (bound_entry sizes) containers)
      states_few no_state containers few = tt
      states_few (and_state items exits states) containers few = (omega (arith, few.0, state_same containers items), (items_few items few.1.0, states_few states containers few.1.1))

      pub graph_few : (tree : GraphTree) → HasFew most tree → HasFew most (bound_graph sizes tree)
      graph_few (graph name containers arguments variables symbols states) few = states_few states containers few
