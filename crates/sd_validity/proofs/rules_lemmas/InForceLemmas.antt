-- Where rule 1 holds, each container that is named is in force there.
use Rattle.std.proofs.Common.{◌≡◌, ◌⊎◌, inl, inr, ℕ, suc, nat_lt, ℤ, pos, unsigned_abs, List, [], ◌∷◌, ◌++◌, map, length, Bool, true, false, not, ◌&&◌, ◌||◌, Option, Some, None, refl, ap, subst, arith}
use Rattle.std.specs.List.{list_all}
use Rattle.std.specs.Ordering.{int_eq}
use Rattle.sd_range.specs.declared.affine.Affine.{Affine}
use Rattle.sd_graph.specs.PlainTree.{KindTree, task, map_scope, consume_scope, nested_graph, reduction, copy, ItemTrees, no_item, and_item, StateTrees, no_state, and_state, GraphTree, graph, GuardTree, ExitTree}
use Rattle.sd_graph.specs.TreeParts.{containers_of}
use Rattle.sd_graph.specs.ContainerParts.{Containers, container_at, is_stream}
use Rattle.sd_graph.specs.Wiring.{has_number}
use Rattle.sd_graph.specs.InForce.{is_private, IsInForce, AreLinksInForce, IsConditionInForce, AreExitsInForce, IsElement, IsKindInForce, AreItemsInForce, AreStatesInForce, AreContainersInForce}
use Rattle.sd_graph.specs.declared.container.ContainerKind.{ContainerKind}
use Rattle.sd_graph.specs.declared.container.ContainerKind.TheVariants.{Argument, Transient, Private, Stream, PrivateStream}
use Rattle.sd_graph.specs.declared.link.Link.{Link}
use Rattle.sd_validity.specs.rules.Places.{doing, Place, Scopes, no_scopes, in_map, in_consume, item_place, state_place, graph_place, places_in, item_places, state_places, places_of, all_places}
use Rattle.sd_validity.specs.rules.Parts.{is_empty, container_of, is_dim_passed, is_link_passed, are_links_passed, is_condition_passed, is_exit_passed, is_kind_passed, is_thing_passed}
use Rattle.sd_validity.specs.rules.NamesInForce.{is_container_in_force, is_stream_in_force, is_one, is_element, is_own, are_own_private, is_there, params_at, set_at, is_each_held, are_symbols_apart, names_tests, are_names_in_force, of_graph, are_single, rule_1}
use Rattle.sd_validity.specs.rules.Failing.{Holds}
use Rattle.sd_validity.proofs.rules_lemmas.HoldingLemmas.{both, parts, each_passes}

-- ---- containers of links

free_or_own : (private own : Bool) → (not private || own) ≡ true → (private ≡ false) ⊎ (own ≡ true)
free_or_own true own is = inr is
free_or_own false own is = inl refl

in_force : (containers : Containers) (private : List ℕ) (number : ℕ) → is_container_in_force containers private number ≡ true → IsInForce containers private number
in_force containers private number is =
    let kind = is_private (container_at containers number).kind in
    let split = both (nat_lt number (length containers)) (not kind || has_number private number) is in
    (grind (arith, split.0), free_or_own kind (has_number private number) split.1)

link_in_force : (place : Place) (link : Link) → is_link_passed (names_tests place) link ≡ true → IsInForce (containers_of place.graph) place.scopes.private link.memlet.container
link_in_force place link is =
    let named = is_container_in_force (containers_of place.graph) place.scopes.private (container_of link) in
    in_force (containers_of place.graph) place.scopes.private (container_of link) (both named (list_all (is_dim_passed (names_tests place)) link.memlet.subset.dims) is).0

links_in_force : (place : Place) (links : List Link) → are_links_passed (names_tests place) links ≡ true → AreLinksInForce (containers_of place.graph) place.scopes.private links
links_in_force place [] is = tt
links_in_force place (link ∷ links) is =
    let split = both (is_link_passed (names_tests place) link) (are_links_passed (names_tests place) links) is in
    (link_in_force place link split.0, links_in_force place links split.1)

two_in_force : (place : Place) (from to : Link) → (is_link_passed (names_tests place) from && is_link_passed (names_tests place) to) ≡ true →
    AreLinksInForce (containers_of place.graph) place.scopes.private (from ∷ to ∷ [])
two_in_force place from to is =
    let split = both (is_link_passed (names_tests place) from) (is_link_passed (names_tests place) to) is in
    (link_in_force place from split.0, (link_in_force place to split.1, tt))

condition_in_force : (place : Place) → place.scopes ≡ no_scopes → (when : Option GuardTree) → is_condition_passed (names_tests place) when ≡ true → IsConditionInForce (containers_of place.graph) when
condition_in_force place none None is = tt
condition_in_force place none (Some guard) is =
    let split = both (are_links_passed (names_tests place) guard.reads) ((names_tests place).code guard.code) is in
    subst (λ (scopes : Scopes). AreLinksInForce (containers_of place.graph) scopes.private guard.reads) none (links_in_force place guard.reads split.0)

exits_in_force : (place : Place) → place.scopes ≡ no_scopes → (exits : List ExitTree) → list_all (is_exit_passed (names_tests place)) exits ≡ true → AreExitsInForce (containers_of place.graph) exits
exits_in_force place none [] is = tt
exits_in_force place none (exit ∷ exits) is =
    let split = both (is_exit_passed (names_tests place) exit) (list_all (is_exit_passed (names_tests place)) exits) is in
    let own = both (is_condition_passed (names_tests place) exit.when) (list_all (λ (assignment : ℕ × Affine). (names_tests place).expression assignment.1) exit.set) split.0 in
    (condition_in_force place none exit.when own.0, exits_in_force place none exits split.1)

-- ---- elements

private_array : (kind : ContainerKind) → (is_private kind && not (is_stream kind)) ≡ true → kind ≡ Private
private_array Argument is = cc
private_array Transient is = cc
private_array Private is = refl
private_array Stream is = cc
private_array PrivateStream is = cc

one_extent : (extents : List Affine) → is_one extents ≡ true → map (λ extent. unsigned_abs extent.constant) extents ≡ 1 ∷ []
one_extent [] is = cc
one_extent (extent ∷ []) is =
    let split = both (int_eq extent.constant (pos 1) && is_empty extent.terms) true is in
    let constant = both (int_eq extent.constant (pos 1)) (is_empty extent.terms) split.0 in
    let one : extent.constant ≡ pos 1 = grind (arith, constant.0) in
    ap (λ (number : ℤ). unsigned_abs number ∷ []) one
one_extent (extent ∷ (other ∷ extents)) is =
    let split = both (int_eq extent.constant (pos 1) && is_empty extent.terms) false is in
    let never : false ≡ true = split.1 in cc

element_right : (containers : Containers) (number : ℕ) → is_element (container_at containers number) ≡ true → IsElement containers number
element_right containers number is =
    let container = container_at containers number in
    let split = both (is_private container.kind && not (is_stream container.kind)) (is_one container.extents) is in
    (private_array container.kind split.0, one_extent container.extents split.1)

-- ---- the graph

abbrev names_pass : Place → Bool
names_pass place =
    (is_thing_passed (names_tests place) place.thing && is_stream_in_force (containers_of place.graph) place.scopes.private place.thing) && are_own_private (containers_of place.graph) place.thing

mutual
  kind_in_force : (kind : KindTree) (place : Place) → is_kind_passed (names_tests place) kind ≡ true →
      is_stream_in_force (containers_of place.graph) place.scopes.private (doing kind) ≡ true → are_own_private (containers_of place.graph) (doing kind) ≡ true →
      list_all names_pass (places_in kind place) ≡ true → IsKindInForce kind (containers_of place.graph) place.scopes.private
  kind_in_force (task code ins outs) place named stream own inside =
      let split = both ((names_tests place).code code) (are_links_passed (names_tests place) ins && are_links_passed (names_tests place) outs) named in
      let links = both (are_links_passed (names_tests place) ins) (are_links_passed (names_tests place) outs) split.1 in
      (links_in_force place ins links.0, links_in_force place outs links.1)
  kind_in_force (map_scope sequential params private body) place named stream own inside = items_in_force body place (in_map place.scopes params private) 0 inside
  kind_in_force (consume_scope from element private body) place named stream own inside =
      let containers = containers_of place.graph in
      let held = both (is_element (container_at containers element)) (list_all (is_own containers) private) own in
      (in_force containers place.scopes.private from stream, element_right containers element held.0, items_in_force body place (in_consume place.scopes element private) 0 inside)
  kind_in_force (nested_graph inner links) place named stream own inside = (links_in_force place links named, graph_in_force inner place.path (suc place.depth) inside)
  kind_in_force (reduction resolution axis identity from to) place named stream own inside = two_in_force place from to named
  kind_in_force (copy from to) place named stream own inside = two_in_force place from to named

  items_in_force : (items : ItemTrees) (around : Place) (scopes : Scopes) (number : ℕ) → list_all names_pass (item_places items around scopes number) ≡ true →
      AreItemsInForce items (containers_of around.graph) scopes.private
  items_in_force no_item around scopes number is = tt
  items_in_force (and_item line kind items) around scopes number is =
      let place = item_place around scopes number kind in
      let containers = containers_of around.graph in
      let first = both (names_pass place) (list_all names_pass (places_in kind place ++ item_places items around scopes (suc number))) is in
      let rest = parts names_pass (places_in kind place) (item_places items around scopes (suc number)) first.1 in
      let passed = is_kind_passed (names_tests place) kind in
      let stream = is_stream_in_force containers scopes.private (doing kind) in
      let own = both (passed && stream) (are_own_private containers (doing kind)) first.0 in
      let named = both passed stream own.0 in
      (kind_in_force kind place named.0 named.1 own.1 rest.0, items_in_force items around scopes (suc number) rest.1)

  states_in_force : (states : StateTrees) (around : Place) (number : ℕ) → around.scopes ≡ no_scopes → list_all names_pass (state_places states around number) ≡ true →
      AreStatesInForce states (containers_of around.graph)
  states_in_force no_state around number none is = tt
  states_in_force (and_state items exits states) around number none is =
      let place = state_place around number items exits in
      let first = both (names_pass place) (list_all names_pass (item_places items place no_scopes 0 ++ state_places states around (suc number))) is in
      let rest = parts names_pass (item_places items place no_scopes 0) (state_places states around (suc number)) first.1 in
      let passed = list_all (is_exit_passed (names_tests place)) exits in
      let own = both passed true (both (passed && true) true first.0).0 in
      (items_in_force items place no_scopes 0 rest.0, exits_in_force place none exits own.0, states_in_force states around (suc number) none rest.1)

  graph_in_force : (tree : GraphTree) (path : List ℕ) (depth : ℕ) → list_all names_pass (places_of tree path depth) ≡ true → AreContainersInForce tree
  graph_in_force (graph name containers arguments variables symbols states) path depth is =
      states_in_force states (graph_place (graph name containers arguments variables symbols states) path depth) 0 refl is

one_implies : (before : List Place) (place : Place) → rule_1 before place ≡ true → names_pass place ≡ true
one_implies before place is =
    let containers = containers_of place.graph in
    let split = both (are_names_in_force place && (is_each_held place.graph place.thing && are_symbols_apart place.graph place.thing)) (are_own_private containers place.thing && are_single (of_graph before place) place.thing) is in
    let names = (both (are_names_in_force place) (is_each_held place.graph place.thing && are_symbols_apart place.graph place.thing) split.0).0 in
    let named = is_thing_passed (names_tests place) place.thing && is_stream_in_force containers place.scopes.private place.thing in
    let there = list_all (is_there place.graph) (params_at place.thing) && list_all (is_there place.graph) (set_at place.thing) in
    let first = (both named there names).0 in
    let own = (both (are_own_private containers place.thing) (are_single (of_graph before place) place.thing) split.1).0 in
    λ i. first i && own i

pub names_what_is_in_force : (tree : GraphTree) → Holds rule_1 tree → AreContainersInForce tree
names_what_is_in_force tree holds = graph_in_force tree [] 0 (each_passes rule_1 names_pass one_implies [] (all_places tree) holds)
