-- Where rule 5 holds, a nested graph has a link for each of its arguments, which are its first containers.
use Rattle.std.proofs.Common.{◌≡◌, ℕ, zero, suc, nat_eq, List, [], ◌∷◌, ◌++◌, length, Bool, true, not, ◌&&◌, arith}
use Rattle.std.specs.List.{list_all}
use Rattle.sd_graph.specs.PlainTree.{KindTree, task, map_scope, consume_scope, nested_graph, reduction, copy, ItemTrees, no_item, and_item, StateTrees, no_state, and_state, GraphTree, graph}
use Rattle.sd_graph.specs.TreeParts.{containers_of}
use Rattle.sd_graph.specs.ContainerParts.{Containers, is_argument}
use Rattle.sd_graph.specs.InPlace.{arguments_of, ArgumentsComeFirst, IsKindLinked, AreItemsLinked, AreStatesLinked, IsLinked}
use Rattle.sd_validity.specs.rules.Places.{doing, Place, Scopes, no_scopes, in_map, in_consume, item_place, state_place, graph_place, places_in, item_places, state_places, places_of, all_places}
use Rattle.sd_validity.specs.rules.NestedLinks.{do_arguments_come_first, have_shapes, written_of, are_unshared, is_nesting_right, rule_5}
use Rattle.sd_validity.specs.rules.Failing.{Holds}
use Rattle.sd_validity.proofs.rules_lemmas.HoldingLemmas.{both, parts, each_passes}
use Rattle.sd_validity.proofs.rules_lemmas.InPlaceLemmas.{not_so}

come_first : (arguments : ℕ) (containers : Containers) → do_arguments_come_first arguments containers ≡ true → ArgumentsComeFirst arguments containers
come_first zero [] is = tt
come_first (suc arguments) [] is = cc
come_first zero (entry ∷ entries) is =
    let split = both (not (is_argument entry.1.kind)) (do_arguments_come_first zero entries) is in
    (not_so (is_argument entry.1.kind) split.0, come_first zero entries split.1)
come_first (suc arguments) (entry ∷ entries) is =
    let split = both (is_argument entry.1.kind) (do_arguments_come_first arguments entries) is in
    (split.0, come_first arguments entries split.1)

abbrev nesting_passes : Place → Bool
nesting_passes place = is_nesting_right place.graph place.thing

mutual
  kind_linked : (kind : KindTree) (place : Place) → is_nesting_right place.graph (doing kind) ≡ true → list_all nesting_passes (places_in kind place) ≡ true → IsKindLinked kind
  kind_linked (task code ins outs) place own inside = tt
  kind_linked (map_scope sequential params private body) place own inside = items_linked body place (in_map place.scopes params private) 0 inside
  kind_linked (consume_scope stream element private body) place own inside = items_linked body place (in_consume place.scopes element private) 0 inside
  kind_linked (nested_graph inner links) place own inside =
      let shaped = nat_eq (length links) (arguments_of inner) && have_shapes (containers_of inner) 0 links in
      let many = (both (nat_eq (length links) (arguments_of inner)) (have_shapes (containers_of inner) 0 links) (both shaped (are_unshared (written_of inner) 0 links) own).0).0 in
      let same : length links ≡ arguments_of inner = grind (arith, many) in
      (same, graph_linked inner place.path (suc place.depth) inside)
  kind_linked (reduction resolution axis identity from to) place own inside = tt
  kind_linked (copy from to) place own inside = tt

  items_linked : (items : ItemTrees) (around : Place) (scopes : Scopes) (number : ℕ) → list_all nesting_passes (item_places items around scopes number) ≡ true → AreItemsLinked items
  items_linked no_item around scopes number is = tt
  items_linked (and_item line kind items) around scopes number is =
      let place = item_place around scopes number kind in
      let first = both (nesting_passes place) (list_all nesting_passes (places_in kind place ++ item_places items around scopes (suc number))) is in
      let rest = parts nesting_passes (places_in kind place) (item_places items around scopes (suc number)) first.1 in
      (kind_linked kind place first.0 rest.0, items_linked items around scopes (suc number) rest.1)

  states_linked : (states : StateTrees) (around : Place) (number : ℕ) → list_all nesting_passes (state_places states around number) ≡ true → AreStatesLinked states
  states_linked no_state around number is = tt
  states_linked (and_state items exits states) around number is =
      let place = state_place around number items exits in
      let first = both (nesting_passes place) (list_all nesting_passes (item_places items place no_scopes 0 ++ state_places states around (suc number))) is in
      let rest = parts nesting_passes (item_places items place no_scopes 0) (state_places states around (suc number)) first.1 in
      (items_linked items place no_scopes 0 rest.0, states_linked states around (suc number) rest.1)

  graph_linked : (tree : GraphTree) (path : List ℕ) (depth : ℕ) → list_all nesting_passes (places_of tree path depth) ≡ true → IsLinked tree
  graph_linked (graph name containers arguments variables symbols states) path depth is =
      let place = graph_place (graph name containers arguments variables symbols states) path depth in
      let first = both (do_arguments_come_first arguments containers) (list_all nesting_passes (state_places states place 0)) is in
      (come_first arguments containers first.0, states_linked states place 0 first.1)

pub is_linked : (tree : GraphTree) → Holds rule_5 tree → IsLinked tree
is_linked tree holds = graph_linked tree [] 0 (each_passes rule_5 nesting_passes (λ before place is. is) [] (all_places tree) holds)
