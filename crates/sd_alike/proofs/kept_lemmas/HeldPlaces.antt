-- A rule holds of a graph exactly where what it asks holds of all that is in the graph.
use Rattle.std.proofs.Common.{◌≡◌, ℕ, suc, List, [], ◌∷◌, ◌++◌, Bool, true, ◌&&◌, Some, None, if◌then◌else◌, refl, sym, ◌∙◌, ap, ap₂}
use Rattle.std.specs.List.{list_all}
use Rattle.std.proofs.lemmas.List.Folds.{list_all-append}
use Rattle.sd_graph.specs.PlainTree.{KindTree, task, map_scope, consume_scope, nested_graph, reduction, copy, ItemTrees, no_item, and_item, StateTrees, no_state, and_state, GraphTree, graph}
use Rattle.sd_validity.specs.rules.Places.{Place, Scopes, no_scopes, in_map, in_consume, loops_at, graph_place, state_place, item_place, places_in, item_places, state_places, places_of, all_places}
use Rattle.sd_validity.specs.rules.Failing.{failing, Holds}
use Rattle.sd_validity.proofs.rules_lemmas.HoldingLemmas.{both, each_passes, parts}
use Rattle.sd_alike.proofs.kept_lemmas.Held.{Asked, rule_of, HoldsIn, HoldsAmong, HoldsInStates, HoldsAll}

abbrev pub test_of : Asked → Place → Bool
test_of asked place = asked place.graph place.loops place.scopes place.thing

-- ---- places that pass

none_fails : (asked : Asked) (before places : List Place) → list_all (test_of asked) places ≡ true → failing (rule_of asked) before places ≡ None
none_fails asked before [] all = refl
none_fails asked before (place ∷ places) all =
    ap (λ passes. if passes then failing (rule_of asked) (before ++ place ∷ []) places else Some place.path) (both (test_of asked place) (list_all (test_of asked) places) all).0
    ∙ none_fails asked (before ++ place ∷ []) places (both (test_of asked place) (list_all (test_of asked) places) all).1

pub joined : (a b : Bool) → a ≡ true → b ≡ true → (a && b) ≡ true
joined a b is also = ap₂ (λ a b. a && b) is also

mutual
  inside_held : (asked : Asked) (kind : KindTree) (place : Place) → list_all (test_of asked) (places_in kind place) ≡ true → HoldsIn asked place.graph place.loops place.scopes kind
  inside_held asked (task code ins outs) place all = tt
  inside_held asked (map_scope sequential params private body) place all = among_held asked body place (in_map place.scopes params private) 0 all
  inside_held asked (consume_scope stream element private body) place all = among_held asked body place (in_consume place.scopes element private) 0 all
  inside_held asked (nested_graph inner links) place all = all_held asked inner place.path (suc place.depth) all
  inside_held asked (reduction resolution axis identity from to) place all = tt
  inside_held asked (copy from to) place all = tt

  among_held : (asked : Asked) (items : ItemTrees) (around : Place) (scopes : Scopes) (number : ℕ) → list_all (test_of asked) (item_places items around scopes number) ≡ true →
      HoldsAmong asked around.graph around.loops scopes items
  among_held asked no_item around scopes number all = tt
  among_held asked (and_item line kind items) around scopes number all =
      let place : Place = item_place around scopes number kind in
      let first = both (test_of asked place) (list_all (test_of asked) (places_in kind place ++ item_places items around scopes (suc number))) all in
      let rest = parts (test_of asked) (places_in kind place) (item_places items around scopes (suc number)) first.1 in
      (first.0, (inside_held asked kind place rest.0, among_held asked items around scopes (suc number) rest.1))

  states_held : (asked : Asked) (states : StateTrees) (around : Place) (number : ℕ) → around.scopes ≡ no_scopes → list_all (test_of asked) (state_places states around number) ≡ true →
      HoldsInStates asked around.graph number states
  states_held asked no_state around number alone all = tt
  states_held asked (and_state items exits states) around number alone all =
      let place : Place = state_place around number items exits in
      let first = both (test_of asked place) (list_all (test_of asked) (item_places items place no_scopes 0 ++ state_places states around (suc number))) all in
      let rest = parts (test_of asked) (item_places items place no_scopes 0) (state_places states around (suc number)) first.1 in (
        sym (ap (λ (scopes : Scopes). asked around.graph (loops_at around.graph number) scopes place.thing) alone) ∙ first.0,
        (among_held asked items place no_scopes 0 rest.0, states_held asked states around (suc number) alone rest.1),
      )

  pub all_held : (asked : Asked) (tree : GraphTree) (path : List ℕ) (depth : ℕ) → list_all (test_of asked) (places_of tree path depth) ≡ true → HoldsAll asked tree
  all_held asked (graph name containers arguments variables symbols states) path depth all =
      let tree : GraphTree = graph name containers arguments variables symbols states in
      let first = both (test_of asked (graph_place tree path depth)) (list_all (test_of asked) (state_places states (graph_place tree path depth) 0)) all in
      (first.0, states_held asked states (graph_place tree path depth) 0 refl first.1)

appended : (asked : Asked) (first rest : List Place) → list_all (test_of asked) first ≡ true → list_all (test_of asked) rest ≡ true → list_all (test_of asked) (first ++ rest) ≡ true
appended asked first rest is also = list_all-append (test_of asked) first rest ∙ joined (list_all (test_of asked) first) (list_all (test_of asked) rest) is also

mutual
  inside_passes : (asked : Asked) (kind : KindTree) (place : Place) → HoldsIn asked place.graph place.loops place.scopes kind → list_all (test_of asked) (places_in kind place) ≡ true
  inside_passes asked (task code ins outs) place holds = refl
  inside_passes asked (map_scope sequential params private body) place holds = among_passes asked body place (in_map place.scopes params private) 0 holds
  inside_passes asked (consume_scope stream element private body) place holds = among_passes asked body place (in_consume place.scopes element private) 0 holds
  inside_passes asked (nested_graph inner links) place holds = all_passes asked inner place.path (suc place.depth) holds
  inside_passes asked (reduction resolution axis identity from to) place holds = refl
  inside_passes asked (copy from to) place holds = refl

  among_passes : (asked : Asked) (items : ItemTrees) (around : Place) (scopes : Scopes) (number : ℕ) → HoldsAmong asked around.graph around.loops scopes items →
      list_all (test_of asked) (item_places items around scopes number) ≡ true
  among_passes asked no_item around scopes number holds = refl
  among_passes asked (and_item line kind items) around scopes number holds =
      let place : Place = item_place around scopes number kind in
      joined (test_of asked place) (list_all (test_of asked) (places_in kind place ++ item_places items around scopes (suc number))) holds.0
      (appended asked (places_in kind place) (item_places items around scopes (suc number)) (inside_passes asked kind place holds.1.0) (among_passes asked items around scopes (suc number) holds.1.1))

  states_pass : (asked : Asked) (states : StateTrees) (around : Place) (number : ℕ) → around.scopes ≡ no_scopes → HoldsInStates asked around.graph number states →
      list_all (test_of asked) (state_places states around number) ≡ true
  states_pass asked no_state around number alone holds = refl
  states_pass asked (and_state items exits states) around number alone holds =
      let place : Place = state_place around number items exits in
      joined (test_of asked place) (list_all (test_of asked) (item_places items place no_scopes 0 ++ state_places states around (suc number)))
      (ap (λ (scopes : Scopes). asked around.graph (loops_at around.graph number) scopes place.thing) alone ∙ holds.0)
      (appended asked (item_places items place no_scopes 0) (state_places states around (suc number)) (among_passes asked items place no_scopes 0 holds.1.0) (states_pass asked states around (suc number) alone holds.1.1))

  pub all_passes : (asked : Asked) (tree : GraphTree) (path : List ℕ) (depth : ℕ) → HoldsAll asked tree → list_all (test_of asked) (places_of tree path depth) ≡ true
  all_passes asked (graph name containers arguments variables symbols states) path depth holds =
      let tree : GraphTree = graph name containers arguments variables symbols states in
      joined (test_of asked (graph_place tree path depth)) (list_all (test_of asked) (state_places states (graph_place tree path depth) 0)) holds.0 (states_pass asked states (graph_place tree path depth) 0 refl holds.1)

pub rule_held : (asked : Asked) (tree : GraphTree) → Holds (rule_of asked) tree → HoldsAll asked tree
rule_held asked tree holds = all_held asked tree [] 0 (each_passes (rule_of asked) (test_of asked) (λ before place is. is) [] (all_places tree) holds)

pub held_rule : (asked : Asked) (tree : GraphTree) → HoldsAll asked tree → Holds (rule_of asked) tree
held_rule asked tree holds = none_fails asked [] (all_places tree) (all_passes asked tree [] 0 holds)
