-- Where each scope with a path is free of races, the map to which the path leads is.
use Rattle.std.proofs.Common.{◌≡◌, ℕ, zero, suc, ◌+◌, nat_eq, List, [], ◌∷◌, ◌++◌, length, Option, Some, None, Bool, true, false, if◌then◌else◌, refl, ap, sym, ◌∙◌, subst, arith, append_assoc}
use Rattle.std.proofs.lemmas.Bool.{eqb-true}
use Rattle.std.specs.Prelude.{⊤}
use Rattle.std.specs.List.{AllByRecursion}
use Rattle.sd_subset.specs.boxes.Box.{Parameter}
use Rattle.sd_graph.specs.ContainerParts.{Containers}
use Rattle.sd_graph.specs.PlainTree.{KindTree, task, map_scope, consume_scope, nested_graph, reduction, copy, ItemTrees, no_item, and_item, StateTrees, no_state, and_state, GraphTree, graph}
use Rattle.sd_prop.specs.propagation.ItemNodes.{item_nodes, own_node, nodes_behind, past}
use Rattle.sd_prop.specs.propagation.Scopes.{Scope, further, scopes_itself, scopes_inside, item_scopes, state_scopes, scopes_of}
use Rattle.sd_race.specs.race.Pairs.{IsFreeOfRaces}
use Rattle.sd_race.proofs.race_lemmas.Members.{all-parts}
use Rattle.sd_exchange.specs.maps.Tails.{Asked, ItemsLeadTo, StatesLeadTo, GraphLeadsTo}
use Rattle.sd_exchange.specs.maps.OrderAsked.{IsFreeMap}
use Rattle.sd_mapx.specs.Paths.{behind, or_else, place_behind, place_in_body, place_among, place_in_state, place_of}

-- the first item is free of races, if it is a map
abbrev pub IsFreeKind : Containers → (around : List Parameter) → KindTree → Type 0
IsFreeKind c a (task code ins outs) = ⊤
IsFreeKind c a (map_scope sequential params private body) = IsFreeMap sequential c a params private body
IsFreeKind c a (consume_scope stream element private body) = ⊤
IsFreeKind c a (nested_graph inner links) = ⊤
IsFreeKind c a (reduction resolution axis identity from to) = ⊤
IsFreeKind c a (copy from to) = ⊤

abbrev pub FirstFree : Asked
FirstFree c a v no_item = ⊥
FirstFree c a v (and_item line kind items) = IsFreeKind c a kind

-- each of these scopes that has a path is free of races
abbrev pub AreFreeAt : (path : List ℕ) → List Scope → Type 0
AreFreeAt path scopes = AllByRecursion (λ (scope : Scope). scope.path ≡ path → IsFreeOfRaces scope) scopes

free_parts : (path : List ℕ) (more less : List Scope) → AreFreeAt path (more ++ less) → AreFreeAt path more × AreFreeAt path less
free_parts path more less free = all-parts (λ (scope : Scope). scope.path ≡ path → IsFreeOfRaces scope) more less free

-- ---- a place that may be there leads to one

abbrev ItemsMayLead : Containers → (around : List Parameter) → (variables : ℕ) → ItemTrees → Option (List ℕ) → Type 0
ItemsMayLead c a v items None = ⊤
ItemsMayLead c a v items (Some place) = ItemsLeadTo FirstFree c a v items place

abbrev StatesMayLead : Containers → (variables : ℕ) → StateTrees → Option (List ℕ) → Type 0
StatesMayLead c v states None = ⊤
StatesMayLead c v states (Some place) = StatesLeadTo FirstFree c v states place

abbrev pub GraphMayLead : GraphTree → Option (List ℕ) → Type 0
GraphMayLead tree None = ⊤
GraphMayLead tree (Some place) = GraphLeadsTo FirstFree tree place

-- ---- places from one number more

abbrev shift : Option (List ℕ) → Option (List ℕ)
shift None = None
shift (Some []) = Some []
shift (Some (number ∷ place)) = Some (suc number ∷ place)

shift_choice : (same : Bool) (number : ℕ) (here inside later more : Option (List ℕ)) → more ≡ shift later →
    (if same then behind (suc number) here else or_else (behind (suc number) inside) more) ≡ shift (if same then behind number here else or_else (behind number inside) later)
shift_choice true number None inside later more is = refl
shift_choice true number (Some place) inside later more is = refl
shift_choice false number here None later more is = is
shift_choice false number here (Some place) later more is = refl

shift_among : (items : ItemTrees) (nodes : List ℕ) (node : ℕ) (path : List ℕ) (number : ℕ) → place_among items nodes node path (suc number) ≡ shift (place_among items nodes node path number)
shift_among no_item nodes node path number = refl
shift_among (and_item line kind items) nodes node path number =
    shift_choice (nat_eq node (own_node nodes)) number (place_behind kind path) (place_in_body kind (nodes_behind nodes) node path)
    (place_among items (past kind nodes) node path (suc number)) (place_among items (past kind nodes) node path (suc (suc number))) (shift_among items (past kind nodes) node path (suc number))

-- ---- the three ways to an item

nowhere : (c : Containers) (a : List Parameter) (v : ℕ) (items : ItemTrees) {R : Type 0} → ItemsLeadTo FirstFree c a v items [] → R
nowhere c a v no_item leads = absurd leads
nowhere c a v (and_item line kind items) leads = absurd leads

later_leads : (c : Containers) (a : List Parameter) (v line : ℕ) (kind : KindTree) (items : ItemTrees) (place : Option (List ℕ)) → ItemsMayLead c a v items place → ItemsMayLead c a v (and_item line kind items) (shift place)
later_leads c a v line kind items None leads = tt
later_leads c a v line kind items (Some []) leads = nowhere c a v items leads
later_leads c a v line kind items (Some (number ∷ place)) leads = leads

by_ways : (c : Containers) (a : List Parameter) (v line : ℕ) (kind : KindTree) (items : ItemTrees) (same : Bool) (here inside later : Option (List ℕ))
    → (same ≡ true → ItemsMayLead c a v (and_item line kind items) (behind 0 here)) → ItemsMayLead c a v (and_item line kind items) (behind 0 inside) → ItemsMayLead c a v (and_item line kind items) later
    → ItemsMayLead c a v (and_item line kind items) (if same then behind 0 here else or_else (behind 0 inside) later)
by_ways c a v line kind items true here inside later first second third = first refl
by_ways c a v line kind items false here None later first second third = third
by_ways c a v line kind items false here (Some place) later first second third = second

map_leads : (c : Containers) (a : List Parameter) (v line : ℕ) (sequential : Bool) (params : List Parameter) (private : List ℕ) (body items : ItemTrees) (place : Option (List ℕ))
    → ItemsMayLead c (a ++ params) v body place → ItemsMayLead c a v (and_item line (map_scope sequential params private body) items) (behind 0 place)
map_leads c a v line sequential params private body items None leads = tt
map_leads c a v line sequential params private body items (Some []) leads = nowhere c (a ++ params) v body leads
map_leads c a v line sequential params private body items (Some (number ∷ place)) leads = leads

consume_leads : (c : Containers) (a : List Parameter) (v line stream element : ℕ) (private : List ℕ) (body items : ItemTrees) (place : Option (List ℕ))
    → ItemsMayLead c a v body place → ItemsMayLead c a v (and_item line (consume_scope stream element private body) items) (behind 0 place)
consume_leads c a v line stream element private body items None leads = tt
consume_leads c a v line stream element private body items (Some []) leads = nowhere c a v body leads
consume_leads c a v line stream element private body items (Some (number ∷ place)) leads = leads

nested_leads : (c : Containers) (a : List Parameter) (v line : ℕ) (inner : GraphTree) (links : _) (items : ItemTrees) (place : Option (List ℕ))
    → GraphMayLead inner place → ItemsMayLead c a v (and_item line (nested_graph inner links) items) (behind 0 place)
nested_leads c a v line inner links items None leads = tt
nested_leads c a v line inner links items (Some []) leads = tt
nested_leads c a v line inner links items (Some (number ∷ place)) leads = leads

states_further : (c : Containers) (v : ℕ) (items : ItemTrees) (exits : _) (states : StateTrees) (state : ℕ) (place : Option (List ℕ))
    → StatesMayLead c v states (behind state place) → StatesMayLead c v (and_state items exits states) (behind (suc state) place)
states_further c v items exits states state None leads = tt
states_further c v items exits states state (Some place) leads = leads

state_first : (c : Containers) (v : ℕ) (items : ItemTrees) (exits : _) (states : StateTrees) (place : Option (List ℕ))
    → ItemsMayLead c [] v items place → StatesMayLead c v (and_state items exits states) (behind 0 place)
state_first c v items exits states None leads = tt
state_first c v items exits states (Some place) leads = leads

graph_states : (name : _) (containers : Containers) (arguments : _) (variables : _) (symbols : _) (states : StateTrees) (place : Option (List ℕ))
    → StatesMayLead containers (length variables) states place → GraphMayLead (graph name containers arguments variables symbols states) place
graph_states name containers arguments variables symbols states None leads = tt
graph_states name containers arguments variables symbols states (Some place) leads = leads

-- ---- everywhere

own_path : (prefix : List ℕ) (node own : ℕ) (rest : List ℕ) → nat_eq node own ≡ true → further prefix own ++ rest ≡ prefix ++ node ∷ rest
own_path prefix node own rest same = append_assoc prefix (own ∷ []) rest ∙ ap (λ n. prefix ++ n ∷ rest) (sym (eqb-true node own same))

mutual
  -- an item itself, or what a path names behind it
  here_there : (c : Containers) (a : List Parameter) (v line : ℕ) (kind : KindTree) (items : ItemTrees) (prefix nodes : List ℕ) (node : ℕ) (path whole : List ℕ) → whole ≡ prefix ++ node ∷ path → nat_eq node (own_node nodes) ≡ true
      → AreFreeAt whole (scopes_itself kind c prefix a nodes) → AreFreeAt whole (scopes_inside kind c prefix a nodes) → ItemsMayLead c a v (and_item line kind items) (behind 0 (place_behind kind path))
  here_there c a v line (task code ins outs) items prefix nodes node [] whole is same itself inside = tt
  here_there c a v line (task code ins outs) items prefix nodes node (number ∷ path) whole is same itself inside = tt
  here_there c a v line (map_scope sequential params private body) items prefix nodes node [] whole is same itself inside =
      record { path = prefix; nodes = nodes; free = itself.0 (ap (λ n. prefix ++ n ∷ []) (sym (eqb-true node (own_node nodes) same)) ∙ sym is) }
  here_there c a v line (map_scope sequential params private body) items prefix nodes node (number ∷ path) whole is same itself inside = tt
  here_there c a v line (consume_scope stream element private body) items prefix nodes node [] whole is same itself inside = tt
  here_there c a v line (consume_scope stream element private body) items prefix nodes node (number ∷ path) whole is same itself inside = tt
  here_there c a v line (nested_graph inner links) items prefix nodes node [] whole is same itself inside = tt
  here_there c a v line (nested_graph inner links) items prefix nodes node (state ∷ path) whole is same itself inside =
      nested_leads c a v line inner links items (place_of inner (state ∷ path))
      (graph_there inner (further prefix (own_node nodes)) (state ∷ path) whole (is ∙ sym (own_path prefix node (own_node nodes) (state ∷ path) same)) inside)
  here_there c a v line (reduction resolution axis identity from to) items prefix nodes node [] whole is same itself inside = tt
  here_there c a v line (reduction resolution axis identity from to) items prefix nodes node (number ∷ path) whole is same itself inside = tt
  here_there c a v line (copy from to) items prefix nodes node [] whole is same itself inside = tt
  here_there c a v line (copy from to) items prefix nodes node (number ∷ path) whole is same itself inside = tt

  -- in the body of a scope
  inside_there : (c : Containers) (a : List Parameter) (v line : ℕ) (kind : KindTree) (items : ItemTrees) (prefix nodes : List ℕ) (node : ℕ) (path whole : List ℕ) → whole ≡ prefix ++ node ∷ path
      → AreFreeAt whole (scopes_inside kind c prefix a nodes) → ItemsMayLead c a v (and_item line kind items) (behind 0 (place_in_body kind (nodes_behind nodes) node path))
  inside_there c a v line (task code ins outs) items prefix nodes node path whole is inside = tt
  inside_there c a v line (map_scope sequential params private body) items prefix nodes node path whole is inside =
      map_leads c a v line sequential params private body items (place_among body (nodes_behind nodes) node path 0) (among_there c (a ++ params) v body prefix (nodes_behind nodes) node path whole is inside)
  inside_there c a v line (consume_scope stream element private body) items prefix nodes node path whole is inside =
      consume_leads c a v line stream element private body items (place_among body (nodes_behind nodes) node path 0) (among_there c a v body prefix (nodes_behind nodes) node path whole is inside)
  inside_there c a v line (nested_graph inner links) items prefix nodes node path whole is inside = tt
  inside_there c a v line (reduction resolution axis identity from to) items prefix nodes node path whole is inside = tt
  inside_there c a v line (copy from to) items prefix nodes node path whole is inside = tt

  among_there : (c : Containers) (a : List Parameter) (v : ℕ) (items : ItemTrees) (prefix nodes : List ℕ) (node : ℕ) (path whole : List ℕ) → whole ≡ prefix ++ node ∷ path
      → AreFreeAt whole (item_scopes items c prefix a nodes) → ItemsMayLead c a v items (place_among items nodes node path 0)
  among_there c a v no_item prefix nodes node path whole is free = tt
  among_there c a v (and_item line kind items) prefix nodes node path whole is free =
      let itself : List Scope = scopes_itself kind c prefix a nodes in
      let inside : List Scope = scopes_inside kind c prefix a nodes in
      let others : List Scope = item_scopes items c prefix a (past kind nodes) in
      let first = free_parts whole itself (inside ++ others) free in
      let second = free_parts whole inside others first.1 in
      by_ways c a v line kind items (nat_eq node (own_node nodes)) (place_behind kind path) (place_in_body kind (nodes_behind nodes) node path) (place_among items (past kind nodes) node path 1)
      (λ same. here_there c a v line kind items prefix nodes node path whole is same first.0 second.0)
      (inside_there c a v line kind items prefix nodes node path whole is second.0)
      (subst (ItemsMayLead c a v (and_item line kind items)) (sym (shift_among items (past kind nodes) node path 0))
      (later_leads c a v line kind items (place_among items (past kind nodes) node path 0) (among_there c a v items prefix (past kind nodes) node path whole is second.1)))

  states_there : (c : Containers) (v : ℕ) (states : StateTrees) (prefix : List ℕ) (number state : ℕ) (path whole : List ℕ) → whole ≡ prefix ++ (number + state) ∷ path
      → AreFreeAt whole (state_scopes states c prefix number) → StatesMayLead c v states (behind state (place_in_state states c state path))
  states_there c v no_state prefix number state path whole is free = tt
  states_there c v (and_state items exits states) prefix number zero [] whole is free = tt
  states_there c v (and_state items exits states) prefix number zero (node ∷ path) whole is free =
      let nodes : List ℕ = item_nodes c items in
      let parts = free_parts whole (item_scopes items c (further prefix number) [] nodes) (state_scopes states c prefix (suc number)) free in
      let at : further prefix number ++ node ∷ path ≡ prefix ++ (number + 0) ∷ node ∷ path = append_assoc prefix (number ∷ []) (node ∷ path) ∙ ap (λ n. prefix ++ n ∷ node ∷ path) (omega arith) in
      state_first c v items exits states (place_among items nodes node path 0) (among_there c [] v items (further prefix number) nodes node path whole (is ∙ sym at) parts.0)
  states_there c v (and_state items exits states) prefix number (suc state) path whole is free =
      let parts = free_parts whole (item_scopes items c (further prefix number) [] (item_nodes c items)) (state_scopes states c prefix (suc number)) free in
      let at : prefix ++ (suc number + state) ∷ path ≡ prefix ++ (number + suc state) ∷ path = ap (λ n. prefix ++ n ∷ path) (omega arith) in
      states_further c v items exits states state (place_in_state states c state path) (states_there c v states prefix (suc number) state path whole (is ∙ sym at) parts.1)

  graph_there : (tree : GraphTree) (prefix path whole : List ℕ) → whole ≡ prefix ++ path → AreFreeAt whole (scopes_of tree prefix) → GraphMayLead tree (place_of tree path)
  graph_there (graph name containers arguments variables symbols states) prefix [] whole is free = tt
  graph_there (graph name containers arguments variables symbols states) prefix (state ∷ path) whole is free =
      let first : state ≡ 0 + state = omega arith in
      graph_states name containers arguments variables symbols states (behind state (place_in_state states containers state path))
      (states_there containers (length variables) states prefix 0 state path whole (is ∙ ap (λ n. prefix ++ n ∷ path) first) free)

-- the map to which a path leads
pub free_there : (tree : GraphTree) (path : List ℕ) → AreFreeAt path (scopes_of tree []) → GraphMayLead tree (place_of tree path)
free_there tree path free = graph_there tree [] path path refl free
