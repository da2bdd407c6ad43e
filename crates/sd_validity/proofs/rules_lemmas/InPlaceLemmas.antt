-- Where rule 4 holds, streams are in place in every part of a graph.
use Rattle.std.proofs.Common.{◌≡◌, ℕ, suc, List, [], ◌∷◌, ◌++◌, Bool, true, false, not, ◌&&◌, Option, Some, None, refl}
use Rattle.std.specs.List.{list_all}
use Rattle.sd_graph.specs.PlainTree.{KindTree, task, map_scope, consume_scope, nested_graph, reduction, copy, ItemTrees, no_item, and_item, StateTrees, no_state, and_state, GraphTree, graph, GuardTree, ExitTree}
use Rattle.sd_graph.specs.TreeParts.{containers_of}
use Rattle.sd_graph.specs.ContainerParts.{Containers}
use Rattle.sd_graph.specs.InPlace.{AreToArrays, IsConditionOnArrays, AreExitsOnArrays, KindHasStreamsInPlace, ItemsHaveStreamsInPlace, StatesHaveStreamsInPlace, HasStreamsInPlace}
use Rattle.sd_graph.specs.declared.link.Link.{Link}
use Rattle.sd_validity.specs.rules.Places.{doing, Place, Scopes, no_scopes, in_map, in_consume, item_place, state_place, graph_place, places_in, item_places, state_places, places_of, all_places}
use Rattle.sd_validity.specs.rules.Parts.{container_of}
use Rattle.sd_validity.specs.rules.StreamUse.{is_stream_at, is_of_array, are_of_arrays, is_condition_of_arrays, are_streams_in_place, rule_4}
use Rattle.sd_validity.specs.rules.Failing.{Holds}
use Rattle.sd_validity.proofs.rules_lemmas.HoldingLemmas.{both, parts, each_passes}

pub not_so : (b : Bool) → not b ≡ true → b ≡ false
not_so true is = cc
not_so false is = refl

to_arrays : (containers : Containers) (links : List Link) → are_of_arrays containers links ≡ true → AreToArrays containers links
to_arrays containers [] is = tt
to_arrays containers (link ∷ links) is =
    let split = both (not (is_stream_at containers (container_of link))) (are_of_arrays containers links) is in
    (not_so (is_stream_at containers (container_of link)) split.0, to_arrays containers links split.1)

condition_arrays : (containers : Containers) (when : Option GuardTree) → is_condition_of_arrays containers when ≡ true → IsConditionOnArrays containers when
condition_arrays containers None is = tt
condition_arrays containers (Some guard) is = to_arrays containers guard.reads is

exits_arrays : (containers : Containers) (exits : List ExitTree) → list_all (λ exit. is_condition_of_arrays containers exit.when) exits ≡ true → AreExitsOnArrays containers exits
exits_arrays containers [] is = tt
exits_arrays containers (exit ∷ exits) is =
    let split = both (is_condition_of_arrays containers exit.when) (list_all (λ (exit : ExitTree). is_condition_of_arrays containers exit.when) exits) is in
    (condition_arrays containers exit.when split.0, exits_arrays containers exits split.1)

two_arrays : (containers : Containers) (from to : Link) → (is_of_array containers from && is_of_array containers to) ≡ true → AreToArrays containers (from ∷ to ∷ [])
two_arrays containers from to is =
    let split = both (is_of_array containers from) (is_of_array containers to) is in
    (not_so (is_stream_at containers (container_of from)) split.0, (not_so (is_stream_at containers (container_of to)) split.1, tt))

abbrev streams_pass : Place → Bool
streams_pass place = are_streams_in_place (containers_of place.graph) place.thing

mutual
  kind_streams : (kind : KindTree) (place : Place) → are_streams_in_place (containers_of place.graph) (doing kind) ≡ true → list_all streams_pass (places_in kind place) ≡ true →
      KindHasStreamsInPlace kind (containers_of place.graph)
  kind_streams (task code ins outs) place own inside = to_arrays (containers_of place.graph) ins own
  kind_streams (map_scope sequential params private body) place own inside = items_streams body place (in_map place.scopes params private) 0 inside
  kind_streams (consume_scope stream element private body) place own inside = (own, items_streams body place (in_consume place.scopes element private) 0 inside)
  kind_streams (nested_graph inner links) place own inside = (to_arrays (containers_of place.graph) links own, graph_streams inner place.path (suc place.depth) inside)
  kind_streams (reduction resolution axis identity from to) place own inside = two_arrays (containers_of place.graph) from to own
  kind_streams (copy from to) place own inside = two_arrays (containers_of place.graph) from to own

  items_streams : (items : ItemTrees) (around : Place) (scopes : Scopes) (number : ℕ) → list_all streams_pass (item_places items around scopes number) ≡ true →
      ItemsHaveStreamsInPlace items (containers_of around.graph)
  items_streams no_item around scopes number is = tt
  items_streams (and_item line kind items) around scopes number is =
      let place = item_place around scopes number kind in
      let first = both (streams_pass place) (list_all streams_pass (places_in kind place ++ item_places items around scopes (suc number))) is in
      let rest = parts streams_pass (places_in kind place) (item_places items around scopes (suc number)) first.1 in
      (kind_streams kind place first.0 rest.0, items_streams items around scopes (suc number) rest.1)

  states_streams : (states : StateTrees) (around : Place) (number : ℕ) → list_all streams_pass (state_places states around number) ≡ true →
      StatesHaveStreamsInPlace states (containers_of around.graph)
  states_streams no_state around number is = tt
  states_streams (and_state items exits states) around number is =
      let place = state_place around number items exits in
      let first = both (streams_pass place) (list_all streams_pass (item_places items place no_scopes 0 ++ state_places states around (suc number))) is in
      let rest = parts streams_pass (item_places items place no_scopes 0) (state_places states around (suc number)) first.1 in
      (items_streams items place no_scopes 0 rest.0, exits_arrays (containers_of around.graph) exits first.0, states_streams states around (suc number) rest.1)

  graph_streams : (tree : GraphTree) (path : List ℕ) (depth : ℕ) → list_all streams_pass (places_of tree path depth) ≡ true → HasStreamsInPlace tree
  graph_streams (graph name containers arguments variables symbols states) path depth is =
      states_streams states (graph_place (graph name containers arguments variables symbols states) path depth) 0 is

pub has_streams_in_place : (tree : GraphTree) → Holds rule_4 tree → HasStreamsInPlace tree
has_streams_in_place tree holds = graph_streams tree [] 0 (each_passes rule_4 streams_pass (λ before place is. is) [] (all_places tree) holds)
