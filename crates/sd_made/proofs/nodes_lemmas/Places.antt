-- The nodes of a graph in all, and of each of its states, at the places of the graph.
use Rattle.std.proofs.Common.{◌≡◌, ◌∙◌, ℕ, suc, ◌+◌, ◌≤◌, nat_le, List, [], ◌∷◌, ◌++◌, length, None, true, ◌&&◌, refl, ap, sym, arith}
use Rattle.std.specs.Prelude.{⊤}
use Rattle.std.specs.List.{AllByRecursion}
use Rattle.std.proofs.lemmas.List.Sums.{sum-map, sum_by-cons}
use Rattle.sd_graph.specs.PlainTree.{KindTree, task, map_scope, consume_scope, nested_graph, reduction, copy, ItemTrees, no_item, and_item, StateTrees, no_state, and_state, GraphTree, graph}
use Rattle.sd_graph.specs.TreeParts.{containers_of}
use Rattle.sd_graph.specs.ContainerParts.{Containers}
use Rattle.sd_wire.specs.wiring.Listing.{nodes_of}
use Rattle.sd_validity.specs.rules.Places.{Place, Scopes, no_scopes, in_map, in_consume, item_place, state_place, graph_place, places_in, item_places, state_places, places_of, all_places}
use Rattle.sd_validity.specs.rules.Failing.{failing, Holds}
use Rattle.sd_validity.specs.rules.WithinLimits.{nodes_at, nodes_among}
use Rattle.sd_validity.proofs.bound_places_lemmas.EachPlace.{all_joined}
use Rattle.sd_made.specs.nodes.FewNodes.{nodes_rule}

-- ---- in all

abbrev mutual
  -- the nodes of the graphs nested in an item
  pub nested_in : KindTree → ℕ
  nested_in (task code ins outs) = 0
  nested_in (map_scope sequential params private body) = nested_in_all body
  nested_in (consume_scope stream element private body) = nested_in_all body
  nested_in (nested_graph inner links) = nodes_in inner
  nested_in (reduction resolution axis identity from to) = 0
  nested_in (copy from to) = 0

  pub nested_in_all : ItemTrees → ℕ
  nested_in_all no_item = 0
  nested_in_all (and_item line kind items) = nested_in kind + nested_in_all items

  -- of states with those of the graphs nested in them
  pub nodes_in_states : StateTrees → Containers → ℕ
  nodes_in_states no_state containers = 0
  nodes_in_states (and_state items exits states) containers = length (nodes_of containers items) + (nested_in_all items + nodes_in_states states containers)

  pub nodes_in : GraphTree → ℕ
  nodes_in (graph name containers arguments variables symbols states) = nodes_in_states states containers

first_among : (place : Place) (places : List Place) → nodes_among (place ∷ places) ≡ nodes_at place.graph place.thing + nodes_among places
first_among place places =
    let nodes : Place → ℕ = λ other. nodes_at other.graph other.thing in
    sum-map nodes (place ∷ places) ∙ sum_by-cons nodes place places ∙ ap (λ (total : ℕ). nodes_at place.graph place.thing + total) (sym (sum-map nodes places))

none_among : nodes_among [] ≡ 0
none_among = refl

pub among_joined : (first second : List Place) → nodes_among (first ++ second) ≡ nodes_among first + nodes_among second
among_joined [] second = omega (arith, none_among)
among_joined (place ∷ first) second = omega (arith, among_joined first second, first_among place first, first_among place (first ++ second))

mutual
  kind_summed : (kind : KindTree) (place : Place) → nodes_among (places_in kind place) ≡ nested_in kind
  kind_summed (task code ins outs) place = refl
  kind_summed (map_scope sequential params private body) place = items_summed body place (in_map place.scopes params private) 0
  kind_summed (consume_scope stream element private body) place = items_summed body place (in_consume place.scopes element private) 0
  kind_summed (nested_graph inner links) place = graph_summed inner place.path (suc place.depth)
  kind_summed (reduction resolution axis identity from to) place = refl
  kind_summed (copy from to) place = refl

  items_summed : (items : ItemTrees) (around : Place) (scopes : Scopes) (number : ℕ) → nodes_among (item_places items around scopes number) ≡ nested_in_all items
  items_summed no_item around scopes number = refl
  items_summed (and_item line kind items) around scopes number =
      omega (
        arith,
        first_among (item_place around scopes number kind) (places_in kind (item_place around scopes number kind) ++ item_places items around scopes (suc number)),
        among_joined (places_in kind (item_place around scopes number kind)) (item_places items around scopes (suc number)),
        kind_summed kind (item_place around scopes number kind),
        items_summed items around scopes (suc number),
      )

  states_summed : (states : StateTrees) (around : Place) (number : ℕ) → nodes_among (state_places states around number) ≡ nodes_in_states states (containers_of around.graph)
  states_summed no_state around number = refl
  states_summed (and_state items exits states) around number =
      omega (
        arith,
        first_among (state_place around number items exits) (item_places items (state_place around number items exits) no_scopes 0 ++ state_places states around (suc number)),
        among_joined (item_places items (state_place around number items exits) no_scopes 0) (state_places states around (suc number)),
        items_summed items (state_place around number items exits) no_scopes 0,
        states_summed states around (suc number),
      )

  graph_summed : (tree : GraphTree) (path : List ℕ) (depth : ℕ) → nodes_among (places_of tree path depth) ≡ nodes_in tree
  graph_summed (graph name containers arguments variables symbols states) path depth =
      let around : Place = graph_place (graph name containers arguments variables symbols states) path depth in
      omega (arith, first_among around (state_places states around 0), states_summed states around 0)

-- the nodes at the places of a graph are those of it in all
pub nodes_summed : (tree : GraphTree) → nodes_among (all_places tree) ≡ nodes_in tree
nodes_summed tree = graph_summed tree [] 0

-- ---- of each state

abbrev mutual
  -- each state of a graph nested in an item has at most so many
  pub IsFew : (most : ℕ) → KindTree → Type 0
  IsFew most (task code ins outs) = ⊤
  IsFew most (map_scope sequential params private body) = AreFew most body
  IsFew most (consume_scope stream element private body) = AreFew most body
  IsFew most (nested_graph inner links) = HasFew most inner
  IsFew most (reduction resolution axis identity from to) = ⊤
  IsFew most (copy from to) = ⊤

  pub AreFew : (most : ℕ) → ItemTrees → Type 0
  AreFew most no_item = ⊤
  AreFew most (and_item line kind items) = IsFew most kind × AreFew most items

  pub HaveFew : (most : ℕ) → StateTrees → Containers → Type 0
  HaveFew most no_state containers = ⊤
  HaveFew most (and_state items exits states) containers = (length (nodes_of containers items) ≤ most) × (AreFew most items × HaveFew most states containers)

  pub HasFew : (most : ℕ) → GraphTree → Type 0
  HasFew most (graph name containers arguments variables symbols states) = HaveFew most states containers

module _ (most : ℕ) where
  abbrev IsFewAt : Place → Type 0
  IsFewAt place = nodes_at place.graph place.thing ≤ most

  mutual
    kind_few : (kind : KindTree) (place : Place) → IsFew most kind → AllByRecursion IsFewAt (places_in kind place)
    kind_few (task code ins outs) place few = tt
    kind_few (map_scope sequential params private body) place few = items_few body place (in_map place.scopes params private) 0 few
    kind_few (consume_scope stream element private body) place few = items_few body place (in_consume place.scopes element private) 0 few
    kind_few (nested_graph inner links) place few = graph_few inner place.path (suc place.depth) few
    kind_few (reduction resolution axis identity from to) place few = tt
    kind_few (copy from to) place few = tt

    items_few : (items : ItemTrees) (around : Place) (scopes : Scopes) (number : ℕ) → AreFew most items → AllByRecursion IsFewAt (item_places items around scopes number)
    items_few no_item around scopes number few = tt
    items_few (and_item line kind items) around scopes number few = (
      omega arith,
      all_joined IsFewAt (places_in kind (item_place around scopes number kind)) (item_places items around scopes (suc number)) (kind_few kind (item_place around scopes number kind) few.0)
          (items_few items around scopes (suc number) few.1),
    )

    states_few : (states : StateTrees) (around : Place) (number : ℕ) → HaveFew most states (containers_of around.graph) → AllByRecursion IsFewAt (state_places states around number)
    states_few no_state around number few = tt
    states_few (and_state items exits states) around number few = (
      few.0,
      all_joined IsFewAt (item_places items (state_place around number items exits) no_scopes 0) (state_places states around (suc number))
          (items_few items (state_place around number items exits) no_scopes 0 few.1.0) (states_few states around (suc number) few.1.1),
    )

    graph_few : (tree : GraphTree) (path : List ℕ) (depth : ℕ) → HasFew most tree → AllByRecursion IsFewAt (places_of tree path depth)
    graph_few (graph name containers arguments variables symbols states) path depth few =
        (omega arith, states_few states (graph_place (graph name containers arguments variables symbols states) path depth) 0 few)

-- ---- the limits

both_kept : (nodes before : ℕ) → nodes ≤ 1024 → before + nodes ≤ 65536 → (nat_le nodes 1024 && nat_le (before + nodes) 65536) ≡ true
both_kept nodes before few together =
    let first : nat_le nodes 1024 ≡ true = grind (arith, few) in
    let second : nat_le (before + nodes) 65536 ≡ true = grind (arith, together) in
    rw (first, second) refl

none_fails : (before places : List Place) → AllByRecursion (λ place. nodes_at place.graph place.thing ≤ 1024) places → nodes_among before + nodes_among places ≤ 65536 → failing nodes_rule before places ≡ None
none_fails before [] few together = refl
none_fails before (place ∷ places) few together =
    rw (both_kept (nodes_at place.graph place.thing) (nodes_among before) few.0 (omega (arith, together, first_among place places)))
    (none_fails (before ++ place ∷ []) places few.1 (omega (arith, together, first_among place places, first_among place [], among_joined before (place ∷ []), none_among)))

pub places_kept : (tree : GraphTree) → HasFew 1024 tree → nodes_in tree ≤ 65536 → Holds nodes_rule tree
places_kept tree few together = none_fails [] (all_places tree) (graph_few 1024 tree [] 0 few) (omega (arith, together, nodes_summed tree, none_among))
