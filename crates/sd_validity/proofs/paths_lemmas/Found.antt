-- The graph of each place is the one at its path.
use Rattle.std.proofs.Common.{◌≡◌, ◌∙◌, ◌⊎◌, inl, inr, ℕ, suc, ◌+◌, List, [], ◌∷◌, ◌++◌, Option, Some, refl, ap, sym, arith, append_assoc, append-nil, zero-add, add-zero}
use Rattle.std.specs.List.{AllByRecursion}
use Rattle.sd_graph.specs.PlainTree.{KindTree, task, map_scope, consume_scope, nested_graph, reduction, copy, ItemTrees, no_item, and_item, StateTrees, no_state, and_state, GraphTree, graph, ExitTree}
use Rattle.sd_validity.specs.rules.Places.{Place, Scopes, no_scopes, in_map, in_consume, further, item_place, state_place, graph_place, places_in, item_places, state_places, places_of, all_places}
use Rattle.sd_validity.specs.paths.GraphAt.{in_kind, in_items, in_states, graph_at}

pub all_joined : {A : Type 0} (P : A → Type 0) (first second : List A) → AllByRecursion P first → AllByRecursion P second → AllByRecursion P (first ++ second)
all_joined P [] second all others = others
all_joined P (member ∷ first) second all others = (all.0, all_joined P first second all.1 others)

pub all_so : {A : Type 0} (P Q : A → Type 0) → ((one : A) → P one → Q one) → (members : List A) → AllByRecursion P members → AllByRecursion Q members
all_so P Q so [] all = tt
all_so P Q so (member ∷ members) all = (so member all.0, all_so P Q so members all.1)

pub all_both : {A : Type 0} (P Q : A → Type 0) (members : List A) → AllByRecursion P members → AllByRecursion Q members → AllByRecursion (λ (member : A). P member × Q member) members
all_both P Q [] one other = tt
all_both P Q (member ∷ members) one other = ((one.0, other.0), all_both P Q members one.1 other.1)

-- the place is of the graph about another
abbrev IsOfSame : Place → Place → Type 0
IsOfSame around place = (place.graph_path ≡ around.graph_path) × (place.graph ≡ around.graph)

-- or of one that is found behind this path
abbrev IsBehind : (List ℕ → Option GraphTree) → (path : List ℕ) → Place → Type 0
IsBehind find path place = (rest : List ℕ) × ((place.graph_path ≡ path ++ rest) × (find rest ≡ Some place.graph))

abbrev InKind : KindTree → Place → Place → Type 0
InKind kind around place = IsOfSame around place ⊎ IsBehind (in_kind kind) around.path place

-- among the items from this number on
abbrev InItems : ItemTrees → Place → (number : ℕ) → Place → Type 0
InItems items around number place = IsOfSame around place ⊎ ((count : ℕ) × ((rest : List ℕ) × ((place.graph_path ≡ around.path ++ (number + count) ∷ rest) × (in_items items (count ∷ rest) ≡ Some place.graph))))

abbrev InStates : StateTrees → Place → (number : ℕ) → Place → Type 0
InStates states around number place = IsOfSame around place ⊎ ((count : ℕ) × ((rest : List ℕ) × ((place.graph_path ≡ around.path ++ (number + count) ∷ rest) × (in_states states (count ∷ rest) ≡ Some place.graph))))

-- one number more
one_further : (path : List ℕ) (number : ℕ) (rest : List ℕ) → further path number ++ rest ≡ path ++ (number + 0) ∷ rest
one_further path number rest = append_assoc path (number ∷ []) rest ∙ ap (λ (number : ℕ). path ++ number ∷ rest) (sym (add-zero number))

next_further : (path : List ℕ) (number count : ℕ) (rest : List ℕ) → path ++ (suc number + count) ∷ rest ≡ path ++ (number + suc count) ∷ rest
next_further path number count rest = ap (λ (number : ℕ). path ++ number ∷ rest) (omega arith)

item_first : (line : ℕ) (kind : KindTree) (items : ItemTrees) (around : Place) (scopes : Scopes) (number : ℕ) (place : Place) → InKind kind (item_place around scopes number kind) place → InItems (and_item line kind items) around number place
item_first line kind items around scopes number place (inl same) = inl same
item_first line kind items around scopes number place (inr (rest, (e, found))) = inr (0, (rest, (e ∙ one_further around.path number rest, found)))

item_later : (line : ℕ) (kind : KindTree) (items : ItemTrees) (around : Place) (number : ℕ) (place : Place) → InItems items around (suc number) place → InItems (and_item line kind items) around number place
item_later line kind items around number place (inl same) = inl same
item_later line kind items around number place (inr (count, (rest, (e, found)))) = inr (suc count, (rest, (e ∙ next_further around.path number count rest, found)))

state_first : (items : ItemTrees) (exits : List ExitTree) (states : StateTrees) (around : Place) (number : ℕ) (place : Place) → InItems items (state_place around number items exits) 0 place →
    InStates (and_state items exits states) around number place
state_first items exits states around number place (inl same) = inl same
state_first items exits states around number place (inr (count, (rest, (e, found)))) =
    inr (0, (count ∷ rest, (e ∙ ap (λ (count : ℕ). further around.path number ++ count ∷ rest) (zero-add count) ∙ one_further around.path number (count ∷ rest), found)))

state_later : (items : ItemTrees) (exits : List ExitTree) (states : StateTrees) (around : Place) (number : ℕ) (place : Place) → InStates states around (suc number) place → InStates (and_state items exits states) around number place
state_later items exits states around number place (inl same) = inl same
state_later items exits states around number place (inr (count, (rest, (e, found)))) = inr (suc count, (rest, (e ∙ next_further around.path number count rest, found)))

-- what is in the body of a scope is in the scope
body_in : (find : List ℕ → Option GraphTree) (body : ItemTrees) (around : Place) (place : Place) → ((rest : List ℕ) → find rest ≡ in_items body rest) → InItems body around 0 place → IsOfSame around place ⊎ IsBehind find around.path place
body_in find body around place is (inl same) = inl same
body_in find body around place is (inr (count, (rest, (e, found)))) =
    inr (count ∷ rest, (e ∙ ap (λ (count : ℕ). around.path ++ count ∷ rest) (zero-add count), is (count ∷ rest) ∙ found))

whole_at : (tree : GraphTree) → graph_at tree [] ≡ Some tree
whole_at (graph name containers arguments variables symbols states) = refl

elim_states : (tree : GraphTree) (around : Place) (states : StateTrees) (place : Place) → around.graph ≡ tree → around.graph_path ≡ around.path → ((number : ℕ) (rest : List ℕ) → graph_at tree (number ∷ rest) ≡ in_states states (number ∷ rest)) →
    InStates states around 0 place → IsBehind (graph_at tree) around.path place
elim_states tree around states place e e' is (inl same) = ([], (same.0 ∙ e' ∙ sym (append-nil around.path), whole_at tree ∙ ap Some (sym (same.1 ∙ e))))
elim_states tree around states place e e' is (inr (count, (rest, (path, found)))) =
    (count ∷ rest, (path ∙ ap (λ (count : ℕ). around.path ++ count ∷ rest) (zero-add count), is count rest ∙ found))

mutual
  kind_found : (kind : KindTree) (place : Place) → AllByRecursion (InKind kind place) (places_in kind place)
  kind_found (task code ins outs) place = tt
  kind_found (map_scope sequential params private body) place =
      all_so (InItems body place 0) (InKind (map_scope sequential params private body) place) (λ one. body_in (in_kind (map_scope sequential params private body)) body place one (λ rest. refl))
      (item_places body place (in_map place.scopes params private) 0) (items_found body place (in_map place.scopes params private) 0)
  kind_found (consume_scope stream element private body) place =
      all_so (InItems body place 0) (InKind (consume_scope stream element private body) place) (λ one. body_in (in_kind (consume_scope stream element private body)) body place one (λ rest. refl))
      (item_places body place (in_consume place.scopes element private) 0) (items_found body place (in_consume place.scopes element private) 0)
  kind_found (nested_graph inner links) place =
      all_so (IsBehind (graph_at inner) place.path) (InKind (nested_graph inner links) place) (λ one found. inr found) (places_of inner place.path (suc place.depth)) (graph_found inner place.path (suc place.depth))
  kind_found (reduction resolution axis identity from to) place = tt
  kind_found (copy from to) place = tt

  items_found : (items : ItemTrees) (around : Place) (scopes : Scopes) (number : ℕ) → AllByRecursion (InItems items around number) (item_places items around scopes number)
  items_found no_item around scopes number = tt
  items_found (and_item line kind items) around scopes number =
      let place = item_place around scopes number kind in (
        inl (refl, refl),
        all_joined (InItems (and_item line kind items) around number) (places_in kind place) (item_places items around scopes (suc number))
            (all_so (InKind kind place) (InItems (and_item line kind items) around number) (item_first line kind items around scopes number) (places_in kind place) (kind_found kind place))
            (all_so (InItems items around (suc number)) (InItems (and_item line kind items) around number) (item_later line kind items around number) (item_places items around scopes (suc number))
            (items_found items around scopes (suc number))),
      )

  states_found : (states : StateTrees) (around : Place) (number : ℕ) → AllByRecursion (InStates states around number) (state_places states around number)
  states_found no_state around number = tt
  states_found (and_state items exits states) around number =
      let place = state_place around number items exits in (
        inl (refl, refl),
        all_joined (InStates (and_state items exits states) around number) (item_places items place no_scopes 0) (state_places states around (suc number))
            (all_so (InItems items place 0) (InStates (and_state items exits states) around number) (state_first items exits states around number) (item_places items place no_scopes 0)
            (items_found items place no_scopes 0))
            (all_so (InStates states around (suc number)) (InStates (and_state items exits states) around number) (state_later items exits states around number) (state_places states around (suc number))
            (states_found states around (suc number))),
      )

  graph_found : (tree : GraphTree) (path : List ℕ) (depth : ℕ) → AllByRecursion (IsBehind (graph_at tree) path) (places_of tree path depth)
  graph_found (graph name containers arguments variables symbols states) path depth =
      let tree : GraphTree = graph name containers arguments variables symbols states in
      let around : Place = graph_place tree path depth in (
        ([], (sym (append-nil path), refl)),
        all_so (InStates states around 0) (IsBehind (graph_at tree) path) (λ place. elim_states tree around states place refl refl (λ number rest. refl)) (state_places states around 0) (states_found states around 0),
      )

-- so in a graph of its own
pub places_found : (tree : GraphTree) → AllByRecursion (λ place. graph_at tree place.graph_path ≡ Some place.graph) (all_places tree)
places_found tree =
    all_so (IsBehind (graph_at tree) []) (λ place. graph_at tree place.graph_path ≡ Some place.graph) (λ place found. ap (graph_at tree) found.1.0 ∙ found.1.1) (all_places tree) (graph_found tree [] 0)
