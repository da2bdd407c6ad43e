-- What holds of a graph and of each graph nested in it.
use Rattle.std.proofs.Common.{◌≡◌, ◌∙◌, ℕ, zero, suc, List, [], ◌∷◌, ◌++◌, length, sym, ap, append_assoc}
use Rattle.std.specs.Bool.{⊤}
use Rattle.std.specs.List.{AllByRecursion}
use Rattle.sd_graph.specs.PlainTree.{KindTree, task, map_scope, consume_scope, nested_graph, reduction, copy, ItemTrees, no_item, and_item, StateTrees, no_state, and_state, GraphTree, graph}
use Rattle.sd_validity.specs.rules.Places.{Place, Scopes, no_scopes, in_map, in_consume, item_place, state_place, graph_place, places_in, item_places, state_places, places_of}
use Rattle.sd_validity.proofs.paths_lemmas.Found.{all_joined}
use Rattle.sd_alike.specs.alike.Places.{Replacing, items_then, kind_with, items_with, states_with, graph_with, KindLeads, ItemsLead, StatesLead, GraphLeads}

module _ (Holding : GraphTree → Type 0) where
  abbrev mutual
    pub InKind : KindTree → Type 0
    InKind (task code ins outs) = ⊤
    InKind (map_scope sequential params private body) = AmongItems body
    InKind (consume_scope stream element private body) = AmongItems body
    InKind (nested_graph inner links) = EachGraph inner
    InKind (reduction resolution axis identity from to) = ⊤
    InKind (copy from to) = ⊤

    pub AmongItems : ItemTrees → Type 0
    AmongItems no_item = ⊤
    AmongItems (and_item line kind items) = InKind kind × AmongItems items

    pub AmongStates : StateTrees → Type 0
    AmongStates no_state = ⊤
    AmongStates (and_state items exits states) = AmongItems items × AmongStates states

    pub EachGraph : GraphTree → Type 0
    EachGraph (graph name containers arguments variables symbols states) = Holding (graph name containers arguments variables symbols states) × AmongStates states

  -- ---- at each place

  mutual
    kind_places : (kind : KindTree) (place : Place) → Holding place.graph → InKind kind → AllByRecursion (λ (other : Place). Holding other.graph) (places_in kind place)
    kind_places (task code ins outs) place here each = tt
    kind_places (map_scope sequential params private body) place here each = items_places body place (in_map place.scopes params private) 0 here each
    kind_places (consume_scope stream element private body) place here each = items_places body place (in_consume place.scopes element private) 0 here each
    kind_places (nested_graph inner links) place here each = graph_places inner place.path (suc place.depth) each
    kind_places (reduction resolution axis identity from to) place here each = tt
    kind_places (copy from to) place here each = tt

    items_places : (items : ItemTrees) (around : Place) (scopes : Scopes) (number : ℕ) → Holding around.graph → AmongItems items → AllByRecursion (λ (other : Place). Holding other.graph) (item_places items around scopes number)
    items_places no_item around scopes number here each = tt
    items_places (and_item line kind items) around scopes number here each =
        let place = item_place around scopes number kind in
        (here, all_joined (λ (other : Place). Holding other.graph) (places_in kind place) (item_places items around scopes (suc number)) (kind_places kind place here each.0) (items_places items around scopes (suc number) here each.1))

    states_places : (states : StateTrees) (around : Place) (number : ℕ) → Holding around.graph → AmongStates states → AllByRecursion (λ (other : Place). Holding other.graph) (state_places states around number)
    states_places no_state around number here each = tt
    states_places (and_state items exits states) around number here each =
        let place = state_place around number items exits in
        (here, all_joined (λ (other : Place). Holding other.graph) (item_places items place no_scopes 0) (state_places states around (suc number)) (items_places items place no_scopes 0 here each.0) (states_places states around (suc number) here each.1))

    pub graph_places : (tree : GraphTree) (path : List ℕ) (depth : ℕ) → EachGraph tree → AllByRecursion (λ (other : Place). Holding other.graph) (places_of tree path depth)
    graph_places (graph name containers arguments variables symbols states) path depth each =
        (each.0, states_places states (graph_place (graph name containers arguments variables symbols states) path depth) 0 each.0 each.1)

  -- ---- from the places

  -- the places are these, with others before and behind them
  abbrev pub IsPart : (all places : List Place) → Type 0
  IsPart all places = (before : List Place) × ((behind : List Place) × (all ≡ before ++ (places ++ behind)))

  first_part : (all first second : List Place) → IsPart all (first ++ second) → IsPart all first
  first_part all first second (before, (behind, e)) = (before, (second ++ behind, e ∙ ap (λ rest. before ++ rest) (append_assoc first second behind)))

  second_part : (all first second : List Place) → IsPart all (first ++ second) → IsPart all second
  second_part all first second (before, (behind, e)) =
      (before ++ first, (behind, e ∙ ap (λ rest. before ++ rest) (append_assoc first second behind) ∙ sym (append_assoc before first (second ++ behind))))

  module _ (all : List Place) (gives : (tree : GraphTree) (path : List ℕ) (depth : ℕ) → IsPart all (places_of tree path depth) → Holding tree) where
    mutual
      kind_each : (kind : KindTree) (place : Place) → IsPart all (places_in kind place) → InKind kind
      kind_each (task code ins outs) place part = tt
      kind_each (map_scope sequential params private body) place part = items_each body place (in_map place.scopes params private) 0 part
      kind_each (consume_scope stream element private body) place part = items_each body place (in_consume place.scopes element private) 0 part
      kind_each (nested_graph inner links) place part = graph_each inner place.path (suc place.depth) part
      kind_each (reduction resolution axis identity from to) place part = tt
      kind_each (copy from to) place part = tt

      items_each : (items : ItemTrees) (around : Place) (scopes : Scopes) (number : ℕ) → IsPart all (item_places items around scopes number) → AmongItems items
      items_each no_item around scopes number part = tt
      items_each (and_item line kind items) around scopes number part =
          let place = item_place around scopes number kind in
          let inside = places_in kind place in
          let others = item_places items around scopes (suc number) in
          let rest = second_part all (place ∷ []) (inside ++ others) part in
          (kind_each kind place (first_part all inside others rest), items_each items around scopes (suc number) (second_part all inside others rest))

      states_each : (states : StateTrees) (around : Place) (number : ℕ) → IsPart all (state_places states around number) → AmongStates states
      states_each no_state around number part = tt
      states_each (and_state items exits states) around number part =
          let place = state_place around number items exits in
          let inside = item_places items place no_scopes 0 in
          let others = state_places states around (suc number) in
          let rest = second_part all (place ∷ []) (inside ++ others) part in
          (items_each items place no_scopes 0 (first_part all inside others rest), states_each states around (suc number) (second_part all inside others rest))

      pub graph_each : (tree : GraphTree) (path : List ℕ) (depth : ℕ) → IsPart all (places_of tree path depth) → EachGraph tree
      graph_each (graph name containers arguments variables symbols states) path depth part =
          let place = graph_place (graph name containers arguments variables symbols states) path depth in
          (gives (graph name containers arguments variables symbols states) path depth part, states_each states place 0 (second_part all (place ∷ []) (state_places states place 0) part))

  -- ---- with an item replaced

  among_then : (items others : ItemTrees) → AmongItems items → AmongItems others → AmongItems (items_then items others)
  among_then no_item others each rest = rest
  among_then (and_item line kind items) others each rest = (each.0, among_then items others each.1 rest)

  module _ (names : List (List ℕ)) (Leading : ℕ → KindTree → Type 0) (replacing : Replacing)
      (replaced : (variables line : ℕ) (kind : KindTree) → Leading variables kind → InKind kind → AmongItems (replacing variables line kind))
      (stays : (tree : GraphTree) (path : List ℕ) → GraphLeads Leading tree path → Holding tree → Holding (graph_with replacing names tree path)) where
    mutual
      kind_stays : (kind : KindTree) (path : List ℕ) (variables : ℕ) → KindLeads Leading variables kind path → InKind kind → InKind (kind_with replacing names variables kind path)
      kind_stays (task code ins outs) path variables leads each = elim leads [ ]
      kind_stays (map_scope sequential params private body) path variables leads each = items_stay body path variables leads each
      kind_stays (consume_scope stream element private body) path variables leads each = items_stay body path variables leads each
      kind_stays (nested_graph inner links) path variables leads each = each_stays inner path leads each
      kind_stays (reduction resolution axis identity from to) path variables leads each = elim leads [ ]
      kind_stays (copy from to) path variables leads each = elim leads [ ]

      items_stay : (items : ItemTrees) (path : List ℕ) (variables : ℕ) → ItemsLead Leading variables items path → AmongItems items → AmongItems (items_with replacing names variables items path)
      items_stay no_item path variables leads each = elim leads [ ]
      items_stay (and_item line kind items) [] variables leads each = elim leads [ ]
      items_stay (and_item line kind items) (zero ∷ []) variables leads each = among_then (replacing variables line kind) items (replaced variables line kind leads each.0) each.1
      items_stay (and_item line kind items) (zero ∷ next ∷ path) variables leads each = (kind_stays kind (next ∷ path) variables leads each.0, each.1)
      items_stay (and_item line kind items) (suc number ∷ path) variables leads each = (each.0, items_stay items (number ∷ path) variables leads each.1)

      states_stay : (states : StateTrees) (path : List ℕ) (variables : ℕ) → StatesLead Leading variables states path → AmongStates states → AmongStates (states_with replacing names variables states path)
      states_stay no_state path variables leads each = elim leads [ ]
      states_stay (and_state items exits states) [] variables leads each = elim leads [ ]
      states_stay (and_state items exits states) (zero ∷ path) variables leads each = (items_stay items path variables leads each.0, each.1)
      states_stay (and_state items exits states) (suc number ∷ path) variables leads each = (each.0, states_stay states (number ∷ path) variables leads each.1)

      pub each_stays : (tree : GraphTree) (path : List ℕ) → GraphLeads Leading tree path → EachGraph tree → EachGraph (graph_with replacing names tree path)
      each_stays (graph name containers arguments variables symbols states) path leads each =
          (stays (graph name containers arguments variables symbols states) path leads each.0, states_stay states path (length variables) leads each.1)
