-- What holds of each place of a graph with an item replaced holds of the places of what came to stand there.
use Rattle.std.proofs.Common.{◌≡◌, ℕ, zero, suc, List, [], ◌∷◌, length, Option, Some, None, subst}
use Rattle.std.specs.List.{AllByRecursion}
use Rattle.sd_graph.specs.PlainTree.{KindTree, task, map_scope, consume_scope, nested_graph, reduction, copy, ItemTrees, no_item, and_item, StateTrees, no_state, and_state, GraphTree, graph}
use Rattle.sd_validity.specs.rules.GraphParts.{variables_of}
use Rattle.sd_validity.specs.rules.Places.{Place, Scopes, no_scopes, in_map, in_consume, item_place, state_place, graph_place, places_in, item_places, state_places, places_of}
use Rattle.sd_safe.proofs.fit_lemmas.Members.{each-parts}
use Rattle.sd_alike.specs.alike.Places.{Replacing, items_then, kind_with, items_with, states_with, graph_with}
use Rattle.sd_mapx.specs.Found.{Found, found_in, found_among, found_in_states, found_at}

abbrev at_item : GraphTree → KindTree → Found
at_item tree kind = record { tree = tree; kind = kind }

module _ (Holding : Place → Type 0) (replacing : Replacing) (names : List (List ℕ)) where
  abbrev Each : List Place → Type 0
  Each places = AllByRecursion Holding places

  -- what stands there now, with the items behind it, in the scopes that are about it
  pub record IsPlacedAfter (found : Found) : Type 0 where
    pub line : ℕ
    pub behind : ItemTrees
    pub around : Place
    pub scopes : Scopes
    pub number : ℕ
    pub each : AllByRecursion Holding (item_places (items_then (replacing (length (variables_of found.tree)) line found.kind) behind) around scopes number)

  here : (tree : GraphTree) (line : ℕ) (kind : KindTree) (behind : ItemTrees) (around : Place) (scopes : Scopes) (number : ℕ) (found : Found) →
      Each (item_places (items_then (replacing (length (variables_of tree)) line kind) behind) around scopes number) → Some (at_item tree kind) ≡ Some found → IsPlacedAfter found
  here tree line kind behind around scopes number found each same =
      subst (λ (at : Option Found). OnFound at) same (record { line = line; behind = behind; around = around; scopes = scopes; number = number; each = each })
    where
      OnFound : Option Found → Type 0
      OnFound None = ⊥
      OnFound (Some found) = IsPlacedAfter found

  mutual
    kind_after : (tree : GraphTree) (kind : KindTree) (at : Place) (path : List ℕ) (found : Found) → Each (places_in (kind_with replacing names (length (variables_of tree)) kind path) at) →
        found_in tree kind path ≡ Some found → IsPlacedAfter found
    kind_after tree (task code ins outs) at path found each is = cc
    kind_after tree (map_scope sequential params private body) at path found each is = items_after tree body at (in_map at.scopes params private) 0 path found each is
    kind_after tree (consume_scope stream element private body) at path found each is = items_after tree body at (in_consume at.scopes element private) 0 path found each is
    kind_after tree (nested_graph inner links) at path found each is = graph_after inner at.path (suc at.depth) path found each is
    kind_after tree (reduction resolution axis identity from to) at path found each is = cc
    kind_after tree (copy from to) at path found each is = cc

    items_after : (tree : GraphTree) (items : ItemTrees) (around : Place) (scopes : Scopes) (number : ℕ) (path : List ℕ) (found : Found) →
        Each (item_places (items_with replacing names (length (variables_of tree)) items path) around scopes number) → found_among tree items path ≡ Some found → IsPlacedAfter found
    items_after tree no_item around scopes number path found each is = cc
    items_after tree (and_item line kind items) around scopes number [] found each is = cc
    items_after tree (and_item line kind items) around scopes number (zero ∷ []) found each is = here tree line kind items around scopes number found each is
    items_after tree (and_item line kind items) around scopes number (zero ∷ next ∷ path) found each is =
        let new : KindTree = kind_with replacing names (length (variables_of tree)) kind (next ∷ path) in
        let place : Place = item_place around scopes number new in
        kind_after tree kind place (next ∷ path) found (each-parts Holding (places_in new place) (item_places items around scopes (suc number)) each.1).0 is
    items_after tree (and_item line kind items) around scopes number (suc next ∷ path) found each is =
        let new : ItemTrees = items_with replacing names (length (variables_of tree)) items (next ∷ path) in
        items_after tree items around scopes (suc number) (next ∷ path) found
        (each-parts Holding (places_in kind (item_place around scopes number kind)) (item_places new around scopes (suc number)) each.1).1 is

    states_after : (tree : GraphTree) (states : StateTrees) (around : Place) (number : ℕ) (path : List ℕ) (found : Found) →
        Each (state_places (states_with replacing names (length (variables_of tree)) states path) around number) → found_in_states tree states path ≡ Some found → IsPlacedAfter found
    states_after tree no_state around number path found each is = cc
    states_after tree (and_state items exits states) around number [] found each is = cc
    states_after tree (and_state items exits states) around number (zero ∷ path) found each is =
        let new : ItemTrees = items_with replacing names (length (variables_of tree)) items path in
        let place : Place = state_place around number new exits in
        items_after tree items place no_scopes 0 path found (each-parts Holding (item_places new place no_scopes 0) (state_places states around (suc number)) each.1).0 is
    states_after tree (and_state items exits states) around number (suc next ∷ path) found each is =
        let new : StateTrees = states_with replacing names (length (variables_of tree)) states (next ∷ path) in
        let place : Place = state_place around number items exits in
        states_after tree states around (suc number) (next ∷ path) found (each-parts Holding (item_places items place no_scopes 0) (state_places new around (suc number)) each.1).1 is

    pub graph_after : (tree : GraphTree) (path : List ℕ) (depth : ℕ) (place : List ℕ) (found : Found) → AllByRecursion Holding (places_of (graph_with replacing names tree place) path depth) →
        found_at tree place ≡ Some found → IsPlacedAfter found
    graph_after (graph name containers arguments variables symbols states) path depth place found each is =
        let tree : GraphTree = graph name containers arguments variables symbols states in
        states_after tree states (graph_place (graph_with replacing names tree place) path depth) 0 place found each.1 is
