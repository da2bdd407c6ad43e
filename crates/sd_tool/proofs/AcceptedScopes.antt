-- Which scopes are accepted does not go by the numbers of nodes.
use Rattle.std.proofs.Common.{◌≡◌, ◌∙◌, ℕ, suc, List, [], ◌∷◌, ◌++◌, map, Bool, true, false, not, if◌then◌else◌, Option, Some, None, refl, ap, sym, subst}
use Rattle.std.specs.List.{AllByRecursion}
use Rattle.sd_subset.specs.boxes.Box.{Parameter}
use Rattle.sd_graph.specs.declared.link.Link.{Link}
use Rattle.sd_graph.specs.ContainerParts.{Containers}
use Rattle.sd_graph.specs.Mode.{Mode, Read, joined_mode}
use Rattle.sd_graph.specs.Wiring.{Use, has_number, modes_on, graph_uses}
use Rattle.sd_graph.specs.PlainTree.{KindTree, task, map_scope, consume_scope, nested_graph, reduction, copy, ItemTrees, no_item, and_item, StateTrees, no_state, and_state, GraphTree, graph}
use Rattle.sd_prop.specs.propagation.Accesses.{Access, access_of, output_access, link_accesses, nested_accesses, take_access, access_replaced, outside_accesses, kind_accesses, item_accesses}
use Rattle.sd_prop.specs.propagation.ItemNodes.{item_nodes, own_node, nodes_behind, past}
use Rattle.sd_prop.specs.propagation.Scopes.{Over, points, elements, Scope, scope_of, scopes_itself, scopes_inside, item_scopes, state_scopes, scopes_of, further}
use Rattle.sd_race.specs.race.Pairs.{pair_of, pairs_among, IsAccepted, IsScopeAccepted, AreScopesAccepted, IsGraphAccepted}
use Rattle.sd_tool.specs.Accepted.{HasAcceptedScopes, HaveAcceptedScopes, AreRaceFree, IsRaceFree}

-- ---- accesses without their nodes

abbrev bare : Access → Access
bare access = record access { node = 0 }

map_joined : (xs ys : List Access) → map bare (xs ++ ys) ≡ map bare xs ++ map bare ys
map_joined [] ys = refl
map_joined (x ∷ xs) ys = ap (λ rest. bare x ∷ rest) (map_joined xs ys)

of_links : (make other : Link → Access) → ((link : Link) → bare (make link) ≡ bare (other link)) → (links : List Link) → map bare (map make links) ≡ map bare (map other links)
of_links make other same [] = refl
of_links make other same (link ∷ links) = ap (λ access. access ∷ map bare (map make links)) (same link) ∙ ap (λ rest. bare (other link) ∷ rest) (of_links make other same links)

outside_bare : (own : List ℕ) (accesses : List Access) → map bare (outside_accesses own accesses) ≡ outside_accesses own (map bare accesses)
outside_bare own [] = refl
outside_bare own (access ∷ accesses) = by_test (has_number own access.container) (outside_bare own accesses) where
  by_test : (test : Bool) → map bare (outside_accesses own accesses) ≡ outside_accesses own (map bare accesses) →
      map bare (if not test then access ∷ outside_accesses own accesses else outside_accesses own accesses) ≡ (if not test then bare access ∷ outside_accesses own (map bare accesses) else outside_accesses own (map bare accesses))
  by_test true same = same
  by_test false same = ap (λ rest. bare access ∷ rest) same

replaced_bare : (params : List Parameter) (accesses : List Access) → map bare (map (access_replaced params) accesses) ≡ map (access_replaced params) (map bare accesses)
replaced_bare params [] = refl
replaced_bare params (access ∷ accesses) = ap (λ rest. bare (access_replaced params access) ∷ rest) (replaced_bare params accesses)

nested_bare : (node other : ℕ) (inner : List Use) (number : ℕ) (links : List Link) → map bare (nested_accesses node inner number links) ≡ map bare (nested_accesses other inner number links)
nested_bare node other inner number [] = refl
nested_bare node other inner number (link ∷ links) = by_mode (joined_mode (modes_on number inner)) (nested_bare node other inner (suc number) links) where
  by_mode : (mode : Option Mode) → map bare (nested_accesses node inner (suc number) links) ≡ map bare (nested_accesses other inner (suc number) links) →
      map bare (link_accesses node link mode ++ nested_accesses node inner (suc number) links) ≡ map bare (link_accesses other link mode ++ nested_accesses other inner (suc number) links)
  by_mode None same = same
  by_mode (Some mode) same = ap (λ rest. bare (access_of node mode link) ∷ rest) same

outside_same : (own : List ℕ) (xs ys : List Access) → map bare xs ≡ map bare ys → map bare (outside_accesses own xs) ≡ map bare (outside_accesses own ys)
outside_same own xs ys same = outside_bare own xs ∙ ap (outside_accesses own) same ∙ sym (outside_bare own ys)

mutual
  kind_bare : (kind : KindTree) (containers : Containers) (nodes others : List ℕ) → map bare (kind_accesses kind containers nodes) ≡ map bare (kind_accesses kind containers others)
  kind_bare (task code ins outs) containers nodes others =
      map_joined (map (access_of (own_node nodes) Read) ins) (map (output_access containers (own_node nodes)) outs)
      ∙ ap (λ front. front ++ map bare (map (output_access containers (own_node nodes)) outs)) (of_links (access_of (own_node nodes) Read) (access_of (own_node others) Read) (λ link. refl) ins)
      ∙ ap (λ back. map bare (map (access_of (own_node others) Read) ins) ++ back) (of_links (output_access containers (own_node nodes)) (output_access containers (own_node others)) (λ link. refl) outs)
      ∙ sym (map_joined (map (access_of (own_node others) Read) ins) (map (output_access containers (own_node others)) outs))
  kind_bare (map_scope sequential params private body) containers nodes others =
      replaced_bare params (outside_accesses private (item_accesses body containers (nodes_behind nodes)))
      ∙ ap (map (access_replaced params)) (outside_same private (item_accesses body containers (nodes_behind nodes)) (item_accesses body containers (nodes_behind others)) (items_bare body containers (nodes_behind nodes) (nodes_behind others)))
      ∙ sym (replaced_bare params (outside_accesses private (item_accesses body containers (nodes_behind others))))
  kind_bare (consume_scope stream element private body) containers nodes others =
      ap (λ rest. take_access 0 stream ∷ rest) (outside_same (element ∷ private) (item_accesses body containers (nodes_behind nodes)) (item_accesses body containers (nodes_behind others)) (items_bare body containers (nodes_behind nodes) (nodes_behind others)))
  kind_bare (nested_graph inner links) containers nodes others = nested_bare (own_node nodes) (own_node others) (graph_uses inner) 0 links
  kind_bare (reduction resolution axis identity from to) containers nodes others = refl
  kind_bare (copy from to) containers nodes others = refl

  items_bare : (items : ItemTrees) (containers : Containers) (nodes others : List ℕ) → map bare (item_accesses items containers nodes) ≡ map bare (item_accesses items containers others)
  items_bare no_item containers nodes others = refl
  items_bare (and_item line kind items) containers nodes others =
      map_joined (kind_accesses kind containers nodes) (item_accesses items containers (past kind nodes))
      ∙ ap (λ front. front ++ map bare (item_accesses items containers (past kind nodes))) (kind_bare kind containers nodes others)
      ∙ ap (λ back. map bare (kind_accesses kind containers others) ++ back) (items_bare items containers (past kind nodes) (past kind others))
      ∙ sym (map_joined (kind_accesses kind containers others) (item_accesses items containers (past kind others)))

-- ---- lists

split : {A : Type 0} (P : A → Type 0) (xs ys : List A) → AllByRecursion P (xs ++ ys) → AllByRecursion P xs × AllByRecursion P ys
split P [] ys all = (tt, all)
split P (x ∷ xs) ys all = let rest = split P xs ys all.1 in ((all.0, rest.0), rest.1)

join : {A : Type 0} (P : A → Type 0) (xs ys : List A) → AllByRecursion P xs → AllByRecursion P ys → AllByRecursion P (xs ++ ys)
join P [] ys front back = back
join P (x ∷ xs) ys front back = (front.0, join P xs ys front.1 back)

-- ---- pairs

module _ (over : Over) (around : List Parameter) where
  -- a scope that is done for this, with parameters around it
  abbrev scope : (path : List ℕ) → Containers → List Access → Scope
  scope path containers accesses = record { path = path; containers = containers; around = around; over = over; accesses = accesses }

  abbrev AreAccepted : Scope → List Access → Type 0
  AreAccepted of accesses = AllByRecursion IsAccepted (pairs_among of accesses)

  module _ (path other : List ℕ) (containers others : Containers) (xs ys : List Access) where
    row_bare : (access : Access) (accesses : List Access) → AllByRecursion IsAccepted (map (pair_of (scope path containers xs) access) accesses) → AllByRecursion IsAccepted (map (pair_of (scope other others ys) (bare access)) (map bare accesses))
    row_bare access [] all = tt
    row_bare access (next ∷ accesses) all = (all.0, row_bare access accesses all.1)

    row_of_bare : (access : Access) (accesses : List Access) → AllByRecursion IsAccepted (map (pair_of (scope path containers xs) (bare access)) (map bare accesses)) → AllByRecursion IsAccepted (map (pair_of (scope other others ys) access) accesses)
    row_of_bare access [] all = tt
    row_of_bare access (next ∷ accesses) all = (all.0, row_of_bare access accesses all.1)

    pairs_bare : (accesses : List Access) → AreAccepted (scope path containers xs) accesses → AreAccepted (scope other others ys) (map bare accesses)
    pairs_bare [] all = tt
    pairs_bare (access ∷ accesses) all =
        let parts = split IsAccepted (map (pair_of (scope path containers xs) access) (access ∷ accesses)) (pairs_among (scope path containers xs) accesses) all in
        join IsAccepted (map (pair_of (scope other others ys) (bare access)) (map bare (access ∷ accesses))) (pairs_among (scope other others ys) (map bare accesses))
        (row_bare access (access ∷ accesses) parts.0) (pairs_bare accesses parts.1)

    pairs_of_bare : (accesses : List Access) → AreAccepted (scope path containers xs) (map bare accesses) → AreAccepted (scope other others ys) accesses
    pairs_of_bare [] all = tt
    pairs_of_bare (access ∷ accesses) all =
        let parts = split IsAccepted (map (pair_of (scope path containers xs) (bare access)) (map bare (access ∷ accesses))) (pairs_among (scope path containers xs) (map bare accesses)) all in
        join IsAccepted (map (pair_of (scope other others ys) access) (access ∷ accesses)) (pairs_among (scope other others ys) accesses)
        (row_of_bare access (access ∷ accesses) parts.0) (pairs_of_bare accesses parts.1)

-- a scope is accepted whatever its path and its nodes are
scope_same : (over : Over) (own : List ℕ) (body : ItemTrees) (containers : Containers) (path other : List ℕ) (around : List Parameter) (nodes others : List ℕ) →
    IsScopeAccepted (scope_of over own body containers path around nodes) → IsScopeAccepted (scope_of over own body containers other around others)
scope_same over own body containers path other around nodes others accepted not_sequential =
    let xs : List Access = outside_accesses own (item_accesses body containers (nodes_behind nodes)) in
    let ys : List Access = outside_accesses own (item_accesses body containers (nodes_behind others)) in
    let same : map bare xs ≡ map bare ys = outside_same own (item_accesses body containers (nodes_behind nodes)) (item_accesses body containers (nodes_behind others)) (items_bare body containers (nodes_behind nodes) (nodes_behind others)) in
    let there : List ℕ = further other (own_node others) in
    pairs_of_bare over around there there containers containers ys ys ys
    (subst (AreAccepted over around (scope over around there containers ys)) same
    (pairs_bare over around (further path (own_node nodes)) there containers containers xs ys xs (accepted not_sequential)))

-- ---- graphs

mutual
  kind_free : (kind : KindTree) (containers : Containers) (path : List ℕ) (around : List Parameter) (nodes : List ℕ) →
      AreScopesAccepted (scopes_itself kind containers path around nodes) → AreScopesAccepted (scopes_inside kind containers path around nodes) → HasAcceptedScopes kind containers around
  kind_free (task code ins outs) containers path around nodes itself inside = tt
  kind_free (map_scope sequential params private body) containers path around nodes itself inside = (
    scope_same (points sequential params) private body containers path [] around nodes [] itself.0,
    items_free body containers path (around ++ params) (nodes_behind nodes) inside,
  )
  kind_free (consume_scope stream element private body) containers path around nodes itself inside = (
    scope_same elements (element ∷ private) body containers path [] around nodes [] itself.0,
    items_free body containers path around (nodes_behind nodes) inside,
  )
  kind_free (nested_graph inner links) containers path around nodes itself inside = graph_free inner (further path (own_node nodes)) inside
  kind_free (reduction resolution axis identity from to) containers path around nodes itself inside = tt
  kind_free (copy from to) containers path around nodes itself inside = tt

  items_free : (items : ItemTrees) (containers : Containers) (path : List ℕ) (around : List Parameter) (nodes : List ℕ) → AreScopesAccepted (item_scopes items containers path around nodes) → HaveAcceptedScopes items containers around
  items_free no_item containers path around nodes all = tt
  items_free (and_item line kind items) containers path around nodes all =
      let first = split IsScopeAccepted (scopes_itself kind containers path around nodes) (scopes_inside kind containers path around nodes ++ item_scopes items containers path around (past kind nodes)) all in
      let rest = split IsScopeAccepted (scopes_inside kind containers path around nodes) (item_scopes items containers path around (past kind nodes)) first.1 in
      (kind_free kind containers path around nodes first.0 rest.0, items_free items containers path around (past kind nodes) rest.1)

  states_free : (states : StateTrees) (containers : Containers) (path : List ℕ) (number : ℕ) → AreScopesAccepted (state_scopes states containers path number) → AreRaceFree states containers
  states_free no_state containers path number all = tt
  states_free (and_state items exits states) containers path number all =
      let parts = split IsScopeAccepted (item_scopes items containers (further path number) [] (item_nodes containers items)) (state_scopes states containers path (suc number)) all in
      (items_free items containers (further path number) [] (item_nodes containers items) parts.0, states_free states containers path (suc number) parts.1)

  graph_free : (tree : GraphTree) (path : List ℕ) → AreScopesAccepted (scopes_of tree path) → IsRaceFree tree
  graph_free (graph name containers arguments variables symbols states) path all = states_free states containers path 0 all

mutual
  kind_accepted : (kind : KindTree) (containers : Containers) (path : List ℕ) (around : List Parameter) (nodes : List ℕ) → HasAcceptedScopes kind containers around →
      AreScopesAccepted (scopes_itself kind containers path around nodes) × AreScopesAccepted (scopes_inside kind containers path around nodes)
  kind_accepted (task code ins outs) containers path around nodes free = (tt, tt)
  kind_accepted (map_scope sequential params private body) containers path around nodes free =
      ((scope_same (points sequential params) private body containers [] path around [] nodes free.0, tt), items_accepted body containers path (around ++ params) (nodes_behind nodes) free.1)
  kind_accepted (consume_scope stream element private body) containers path around nodes free =
      ((scope_same elements (element ∷ private) body containers [] path around [] nodes free.0, tt), items_accepted body containers path around (nodes_behind nodes) free.1)
  kind_accepted (nested_graph inner links) containers path around nodes free = (tt, graph_accepted inner (further path (own_node nodes)) free)
  kind_accepted (reduction resolution axis identity from to) containers path around nodes free = (tt, tt)
  kind_accepted (copy from to) containers path around nodes free = (tt, tt)

  items_accepted : (items : ItemTrees) (containers : Containers) (path : List ℕ) (around : List Parameter) (nodes : List ℕ) → HaveAcceptedScopes items containers around → AreScopesAccepted (item_scopes items containers path around nodes)
  items_accepted no_item containers path around nodes free = tt
  items_accepted (and_item line kind items) containers path around nodes free =
      let first = kind_accepted kind containers path around nodes free.0 in
      join IsScopeAccepted (scopes_itself kind containers path around nodes) (scopes_inside kind containers path around nodes ++ item_scopes items containers path around (past kind nodes)) first.0
      (join IsScopeAccepted (scopes_inside kind containers path around nodes) (item_scopes items containers path around (past kind nodes)) first.1 (items_accepted items containers path around (past kind nodes) free.1))

  states_accepted : (states : StateTrees) (containers : Containers) (path : List ℕ) (number : ℕ) → AreRaceFree states containers → AreScopesAccepted (state_scopes states containers path number)
  states_accepted no_state containers path number free = tt
  states_accepted (and_state items exits states) containers path number free =
      join IsScopeAccepted (item_scopes items containers (further path number) [] (item_nodes containers items)) (state_scopes states containers path (suc number))
      (items_accepted items containers (further path number) [] (item_nodes containers items) free.0) (states_accepted states containers path (suc number) free.1)

  graph_accepted : (tree : GraphTree) (path : List ℕ) → IsRaceFree tree → AreScopesAccepted (scopes_of tree path)
  graph_accepted (graph name containers arguments variables symbols states) path free = states_accepted states containers path 0 free

-- a graph is accepted exactly where it is free of races
pub accepted_is_free : (tree : GraphTree) → IsGraphAccepted tree → IsRaceFree tree
accepted_is_free tree accepted = graph_free tree [] accepted

pub free_is_accepted : (tree : GraphTree) → IsRaceFree tree → IsGraphAccepted tree
free_is_accepted tree free = graph_accepted tree [] free
