-- A path that leads to a map is that of a scope, which has its parameters.
use Rattle.std.proofs.Common.{◌≡◌, ℕ, zero, suc, ◌+◌, nat_eq, List, [], ◌∷◌, ◌++◌, Option, Some, None, Bool, true, false, if◌then◌else◌, refl, ap, sym, ◌∙◌, subst, arith, append_assoc}
use Rattle.std.specs.Prelude.{⊤}
use Rattle.std.specs.List.{Contains}
use Rattle.std.proofs.lemmas.Bool.{ne_eqb}
use Rattle.std.proofs.lemmas.List.Elements.{Contains-append_left, Contains-append_right}
use Rattle.sd_range.proofs.Members.{Contains-first}
use Rattle.sd_range.proofs.Normal.{by_same}
use Rattle.sd_subset.specs.boxes.Box.{Parameter}
use Rattle.sd_graph.specs.ContainerParts.{Containers}
use Rattle.sd_graph.specs.PlainTree.{KindTree, task, map_scope, consume_scope, nested_graph, reduction, copy, ItemTrees, no_item, and_item, StateTrees, no_state, and_state, GraphTree, graph}
use Rattle.sd_prop.specs.propagation.ItemNodes.{item_nodes, own_node, nodes_behind, past}
use Rattle.sd_prop.specs.propagation.Scopes.{Scope, points, params_of, scope_of, further, scopes_itself, scopes_inside, item_scopes, state_scopes, scopes_of}
use Rattle.sd_mapx.specs.Conditions.{found_by, is_found}
use Rattle.sd_mapx.specs.Found.{Found, found_among, found_in_states}
use Rattle.sd_mapx.specs.MapTests.{is_map}
use Rattle.sd_mapx.specs.Paths.{behind, or_else, place_behind, place_in_body, place_among, place_in_state, place_of}

-- ---- what is found

-- the item at a place that may be there
abbrev among : GraphTree → ItemTrees → Option (List ℕ) → Option Found
among tree items None = None
among tree items (Some place) = found_among tree items place

abbrev in_states : GraphTree → StateTrees → Option (List ℕ) → Option Found
in_states tree states None = None
in_states tree states (Some place) = found_in_states tree states place

-- the parameters of a map
abbrev pub params_in : KindTree → Option (List Parameter)
params_in (task code ins outs) = None
params_in (map_scope sequential params private body) = Some params
params_in (consume_scope stream element private body) = None
params_in (nested_graph inner links) = None
params_in (reduction resolution axis identity from to) = None
params_in (copy from to) = None

-- of one that is found
abbrev pub params_found : Option Found → Option (List Parameter)
params_found None = None
params_found (Some found) = params_in found.kind

-- one of the scopes has this path and these parameters
abbrev pub HasScope : List Scope → (path : List ℕ) → (params : List Parameter) → Type 0
HasScope scopes path params = (scope : Scope) × Contains scopes scope × (scope.path ≡ path) × (params_of scope.over ≡ params)

-- ---- places from one number more

abbrev shift : Option (List ℕ) → Option (List ℕ)
shift None = None
shift (Some []) = Some []
shift (Some (number ∷ place)) = Some (suc number ∷ place)

shift_choice : (same : Bool) (number : ℕ) (here inside : Option (List ℕ)) (later more : Option (List ℕ)) → more ≡ shift later →
    (if same then behind (suc number) here else or_else (behind (suc number) inside) more) ≡ shift (if same then behind number here else or_else (behind number inside) later)
shift_choice true number None inside later more is = refl
shift_choice true number (Some place) inside later more is = refl
shift_choice false number here None later more is = is
shift_choice false number here (Some place) later more is = refl

shift_among : (items : ItemTrees) (nodes : List ℕ) (node : ℕ) (path : List ℕ) (number : ℕ) → place_among items nodes node path (suc number) ≡ shift (place_among items nodes node path number)
shift_among no_item nodes node path number = refl
shift_among (and_item line kind items) nodes node path number =
    shift_choice (nat_eq node (own_node nodes)) number (place_behind kind path) (place_in_body kind (nodes_behind nodes) node path)
    (place_among items (past kind nodes) node path (suc number)) (place_among items (past kind nodes) node path (suc (suc number))) (shift_among items (past kind nodes) node path (suc number))

among_none : (tree : GraphTree) (items : ItemTrees) → found_among tree items [] ≡ None
among_none tree no_item = refl
among_none tree (and_item line kind items) = refl

among_shifted : (tree : GraphTree) (line : ℕ) (kind : KindTree) (items : ItemTrees) (place : Option (List ℕ)) → among tree (and_item line kind items) (shift place) ≡ among tree items place
among_shifted tree line kind items None = refl
among_shifted tree line kind items (Some []) = sym (among_none tree items)
among_shifted tree line kind items (Some (number ∷ place)) = refl

-- ---- places that name an item

abbrev IsLed : Option (List ℕ) → Type 0
IsLed None = ⊤
IsLed (Some []) = ⊥
IsLed (Some (number ∷ place)) = ⊤

led_choice : (same : Bool) (number : ℕ) (here inside later : Option (List ℕ)) → IsLed later → IsLed (if same then behind number here else or_else (behind number inside) later)
led_choice true number None inside later led = tt
led_choice true number (Some place) inside later led = tt
led_choice false number here None later led = led
led_choice false number here (Some place) later led = tt

among_led : (items : ItemTrees) (nodes : List ℕ) (node : ℕ) (path : List ℕ) (number : ℕ) → IsLed (place_among items nodes node path number)
among_led no_item nodes node path number = tt
among_led (and_item line kind items) nodes node path number =
    led_choice (nat_eq node (own_node nodes)) number (place_behind kind path) (place_in_body kind (nodes_behind nodes) node path)
    (place_among items (past kind nodes) node path (suc number)) (among_led items (past kind nodes) node path (suc number))

-- ---- scopes with the parameters of a map

pub same_number : (a b : ℕ) → nat_eq a b ≡ true → a ≡ b
same_number a b is = by_same a b (λ same. same) (λ other. (let wrong : false ≡ true = sym (ne_eqb a b other) ∙ is in cc))

module _ (wanted : List Parameter) where
  -- one of the scopes has this path and those parameters
  abbrev HasPath : List Scope → (path : List ℕ) → Type 0
  HasPath scopes path = HasScope scopes path wanted

  first_has : (more less : List Scope) (path : List ℕ) → HasPath more path → HasPath (more ++ less) path
  first_has more less path has = (has.0, Contains-append_left more less has.0 has.1, has.2, has.3)

  later_has : (more less : List Scope) (path : List ℕ) → HasPath less path → HasPath (more ++ less) path
  later_has more less path has = (has.0, Contains-append_right more less has.0 has.1, has.2, has.3)

  -- a map with those parameters is found
  abbrev IsMapFound : Option Found → Type 0
  IsMapFound found = params_found found ≡ Some wanted

  -- ---- the three ways to an item

  by_ways : {R : Type 0} (tree : GraphTree) (line : ℕ) (kind : KindTree) (items : ItemTrees) (same : Bool) (here inside later : Option (List ℕ))
      → IsMapFound (among tree (and_item line kind items) (if same then behind 0 here else or_else (behind 0 inside) (shift later)))
      → (same ≡ true → IsMapFound (among tree (and_item line kind items) (behind 0 here)) → R)
      → (IsMapFound (among tree (and_item line kind items) (behind 0 inside)) → R)
      → (IsMapFound (among tree items later) → R) → R
  by_ways tree line kind items true here inside later is first second third = first refl is
  by_ways tree line kind items false here None later is first second third = third (subst IsMapFound (among_shifted tree line kind items later) is)
  by_ways tree line kind items false here (Some place) later is first second third = second is

  map_body : (tree : GraphTree) (line : ℕ) (sequential : Bool) (params : List Parameter) (private : List ℕ) (body items : ItemTrees) (place : Option (List ℕ)) → IsLed place
      → IsMapFound (among tree (and_item line (map_scope sequential params private body) items) (behind 0 place)) → IsMapFound (among tree body place)
  map_body tree line sequential params private body items None led is = is
  map_body tree line sequential params private body items (Some []) led is = absurd led
  map_body tree line sequential params private body items (Some (number ∷ place)) led is = is

  consume_body : (tree : GraphTree) (line stream element : ℕ) (private : List ℕ) (body items : ItemTrees) (place : Option (List ℕ))
      → IsMapFound (among tree (and_item line (consume_scope stream element private body) items) (behind 0 place)) → IsMapFound (among tree body place)
  consume_body tree line stream element private body items None is = is
  consume_body tree line stream element private body items (Some []) is = cc
  consume_body tree line stream element private body items (Some (number ∷ place)) is = is

  nested_graph_found : (tree : GraphTree) (line : ℕ) (inner : GraphTree) (links : _) (items : ItemTrees) (place : Option (List ℕ))
      → IsMapFound (among tree (and_item line (nested_graph inner links) items) (behind 0 place)) → IsMapFound (found_by inner place)
  nested_graph_found tree line inner links items None is = is
  nested_graph_found tree line inner links items (Some []) is = cc
  nested_graph_found tree line inner links items (Some (number ∷ place)) is = is

  states_further : (tree : GraphTree) (items : ItemTrees) (exits : _) (states : StateTrees) (state : ℕ) (place : Option (List ℕ))
      → IsMapFound (in_states tree (and_state items exits states) (behind (suc state) place)) → IsMapFound (in_states tree states (behind state place))
  states_further tree items exits states state None is = is
  states_further tree items exits states state (Some place) is = is

  state_first : (tree : GraphTree) (items : ItemTrees) (exits : _) (states : StateTrees) (place : Option (List ℕ))
      → IsMapFound (in_states tree (and_state items exits states) (behind 0 place)) → IsMapFound (among tree items place)
  state_first tree items exits states None is = is
  state_first tree items exits states (Some place) is = is

  graph_states : (name : _) (containers : _) (arguments : _) (variables : _) (symbols : _) (states : StateTrees) (state : ℕ) (place : Option (List ℕ))
      → IsMapFound (found_by (graph name containers arguments variables symbols states) (behind state place))
      → IsMapFound (in_states (graph name containers arguments variables symbols states) states (behind state place))
  graph_states name containers arguments variables symbols states state None is = is
  graph_states name containers arguments variables symbols states state (Some place) is = is

  -- ---- an item's own path

  own_has : (scope : Scope) (prefix : List ℕ) (node own : ℕ) → nat_eq node own ≡ true → scope.path ≡ further prefix own → params_of scope.over ≡ wanted → HasPath (scope ∷ []) (prefix ++ node ∷ [])
  own_has scope prefix node own same path are =
      (scope, Contains-first scope [], path ∙ ap (λ n. prefix ++ n ∷ []) (sym (same_number node own same)), are)

  longer_has : (scopes : List Scope) (prefix rest : List ℕ) (node own : ℕ) → nat_eq node own ≡ true → HasPath scopes (further prefix own ++ rest) → HasPath scopes (prefix ++ node ∷ rest)
  longer_has scopes prefix rest node own same has =
      subst (HasPath scopes) (append_assoc prefix (own ∷ []) rest ∙ ap (λ n. prefix ++ n ∷ rest) (sym (same_number node own same))) has

  -- ---- everywhere

  mutual
    -- an item itself, or what a path names behind it
    here_there : (tree : GraphTree) (line : ℕ) (kind : KindTree) (items : ItemTrees) (containers : Containers) (prefix : List ℕ) (around : List Parameter) (nodes : List ℕ) (node : ℕ) (path : List ℕ) → nat_eq node (own_node nodes) ≡ true
        → IsMapFound (among tree (and_item line kind items) (behind 0 (place_behind kind path)))
        → HasPath (scopes_itself kind containers prefix around nodes ++ scopes_inside kind containers prefix around nodes) (prefix ++ node ∷ path)
    here_there tree line (task code ins outs) items containers prefix around nodes node [] same is = cc
    here_there tree line (task code ins outs) items containers prefix around nodes node (number ∷ path) same is = cc
    here_there tree line (map_scope sequential params private body) items containers prefix around nodes node [] same is =
        let scope : Scope = scope_of (points sequential params) private body containers prefix around nodes in
        let are : params ≡ wanted = cc in
        first_has (scope ∷ []) (scopes_inside (map_scope sequential params private body) containers prefix around nodes) (prefix ++ node ∷ []) (own_has scope prefix node (own_node nodes) same refl are)
    here_there tree line (map_scope sequential params private body) items containers prefix around nodes node (number ∷ path) same is = cc
    here_there tree line (consume_scope stream element private body) items containers prefix around nodes node [] same is = cc
    here_there tree line (consume_scope stream element private body) items containers prefix around nodes node (number ∷ path) same is = cc
    here_there tree line (nested_graph inner links) items containers prefix around nodes node [] same is = cc
    here_there tree line (nested_graph inner links) items containers prefix around nodes node (state ∷ path) same is =
        longer_has (scopes_of inner (further prefix (own_node nodes))) prefix (state ∷ path) node (own_node nodes) same
        (graph_there inner (further prefix (own_node nodes)) (state ∷ path) (nested_graph_found tree line inner links items (place_of inner (state ∷ path)) is))
    here_there tree line (reduction resolution axis identity from to) items containers prefix around nodes node [] same is = cc
    here_there tree line (reduction resolution axis identity from to) items containers prefix around nodes node (number ∷ path) same is = cc
    here_there tree line (copy from to) items containers prefix around nodes node [] same is = cc
    here_there tree line (copy from to) items containers prefix around nodes node (number ∷ path) same is = cc

    -- in the body of a scope
    inside_there : (tree : GraphTree) (line : ℕ) (kind : KindTree) (items : ItemTrees) (containers : Containers) (prefix : List ℕ) (around : List Parameter) (nodes : List ℕ) (node : ℕ) (path : List ℕ)
        → IsMapFound (among tree (and_item line kind items) (behind 0 (place_in_body kind (nodes_behind nodes) node path)))
        → HasPath (scopes_inside kind containers prefix around nodes) (prefix ++ node ∷ path)
    inside_there tree line (task code ins outs) items containers prefix around nodes node path is = cc
    inside_there tree line (map_scope sequential params private body) items containers prefix around nodes node path is =
        among_there tree body containers prefix (around ++ params) (nodes_behind nodes) node path
        (map_body tree line sequential params private body items (place_among body (nodes_behind nodes) node path 0) (among_led body (nodes_behind nodes) node path 0) is)
    inside_there tree line (consume_scope stream element private body) items containers prefix around nodes node path is =
        among_there tree body containers prefix around (nodes_behind nodes) node path
        (consume_body tree line stream element private body items (place_among body (nodes_behind nodes) node path 0) is)
    inside_there tree line (nested_graph inner links) items containers prefix around nodes node path is = cc
    inside_there tree line (reduction resolution axis identity from to) items containers prefix around nodes node path is = cc
    inside_there tree line (copy from to) items containers prefix around nodes node path is = cc

    among_there : (tree : GraphTree) (items : ItemTrees) (containers : Containers) (prefix : List ℕ) (around : List Parameter) (nodes : List ℕ) (node : ℕ) (path : List ℕ)
        → IsMapFound (among tree items (place_among items nodes node path 0)) → HasPath (item_scopes items containers prefix around nodes) (prefix ++ node ∷ path)
    among_there tree no_item containers prefix around nodes node path is = cc
    among_there tree (and_item line kind items) containers prefix around nodes node path is =
        let itself : List Scope = scopes_itself kind containers prefix around nodes in
        let inside : List Scope = scopes_inside kind containers prefix around nodes in
        let others : List Scope = item_scopes items containers prefix around (past kind nodes) in
        let whole : List ℕ = prefix ++ node ∷ path in
        by_ways tree line kind items (nat_eq node (own_node nodes)) (place_behind kind path) (place_in_body kind (nodes_behind nodes) node path) (place_among items (past kind nodes) node path 0)
        (subst (λ later. IsMapFound (among tree (and_item line kind items) (if nat_eq node (own_node nodes) then behind 0 (place_behind kind path) else or_else (behind 0 (place_in_body kind (nodes_behind nodes) node path)) later))) (shift_among items (past kind nodes) node path 0) is)
        (λ same found. subst (λ all. HasPath all whole) (append_assoc itself inside others) (first_has (itself ++ inside) others whole (here_there tree line kind items containers prefix around nodes node path same found)))
        (λ found. later_has itself (inside ++ others) whole (first_has inside others whole (inside_there tree line kind items containers prefix around nodes node path found)))
        (λ found. later_has itself (inside ++ others) whole (later_has inside others whole (among_there tree items containers prefix around (past kind nodes) node path found)))

    states_there : (tree : GraphTree) (states : StateTrees) (containers : Containers) (prefix : List ℕ) (number state : ℕ) (path : List ℕ)
        → IsMapFound (in_states tree states (behind state (place_in_state states containers state path))) → HasPath (state_scopes states containers prefix number) (prefix ++ (number + state) ∷ path)
    states_there tree no_state containers prefix number state path is = cc
    states_there tree (and_state items exits states) containers prefix number zero [] is = cc
    states_there tree (and_state items exits states) containers prefix number zero (node ∷ path) is =
        let nodes : List ℕ = item_nodes containers items in
        let here : List Scope = item_scopes items containers (further prefix number) [] nodes in
        let at : further prefix number ++ node ∷ path ≡ prefix ++ (number + 0) ∷ node ∷ path = append_assoc prefix (number ∷ []) (node ∷ path) ∙ ap (λ n. prefix ++ n ∷ node ∷ path) (omega arith) in
        first_has here (state_scopes states containers prefix (suc number)) (prefix ++ (number + 0) ∷ node ∷ path)
        (subst (HasPath here) at (among_there tree items containers (further prefix number) [] nodes node path (state_first tree items exits states (place_among items nodes node path 0) is)))
    states_there tree (and_state items exits states) containers prefix number (suc state) path is =
        let here : List Scope = item_scopes items containers (further prefix number) [] (item_nodes containers items) in
        let others : List Scope = state_scopes states containers prefix (suc number) in
        let at : prefix ++ (suc number + state) ∷ path ≡ prefix ++ (number + suc state) ∷ path = ap (λ n. prefix ++ n ∷ path) (omega arith) in
        later_has here others (prefix ++ (number + suc state) ∷ path)
        (subst (HasPath others) at (states_there tree states containers prefix (suc number) state path (states_further tree items exits states state (place_in_state states containers state path) is)))

    graph_there : (tree : GraphTree) (prefix path : List ℕ) → IsMapFound (found_by tree (place_of tree path)) → HasPath (scopes_of tree prefix) (prefix ++ path)
    graph_there (graph name containers arguments variables symbols states) prefix [] is = cc
    graph_there (graph name containers arguments variables symbols states) prefix (state ∷ path) is =
        let first : 0 + state ≡ state = omega arith in
        subst (λ number. HasPath (state_scopes states containers prefix 0) (prefix ++ number ∷ path)) first
        (states_there (graph name containers arguments variables symbols states) states containers prefix 0 state path
        (graph_states name containers arguments variables symbols states state (place_in_state states containers state path) is))

-- a path that leads to a map is that of a scope with its parameters
pub map_there : (tree : GraphTree) (path : List ℕ) (params : List Parameter) → params_found (found_by tree (place_of tree path)) ≡ Some params → HasScope (scopes_of tree []) path params
map_there tree path params is = graph_there params tree [] path is

kind_params : (kind : KindTree) → is_map kind ≡ true → (params : List Parameter) × (params_in kind ≡ Some params)
kind_params (task code ins outs) is = cc
kind_params (map_scope sequential params private body) is = (params, refl)
kind_params (consume_scope stream element private body) is = cc
kind_params (nested_graph inner links) is = cc
kind_params (reduction resolution axis identity from to) is = cc
kind_params (copy from to) is = cc

-- a map that is found has parameters
pub found_params : (found : Option Found) → is_found is_map found ≡ true → (params : List Parameter) × (params_found found ≡ Some params)
found_params None is = cc
found_params (Some found) is = kind_params found.kind is
