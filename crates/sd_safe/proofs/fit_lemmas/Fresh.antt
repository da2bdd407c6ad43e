-- Where rule 1 holds, the parameters of a map are new where they stand.
use Rattle.std.specs.List.{AllByRecursion, Contains, list_any, filter}
use Rattle.std.proofs.Common.{◌≡◌, inl, inr, ℕ, zero, suc, nat_eq, List, [], ◌∷◌, ◌++◌, map, length, Bool, true, ◌&&◌, None, refl, sym, subst}
use Rattle.std.proofs.lemmas.List.Elements.{Contains-append_left, Contains-append_right, Contains-append_cases}
use Rattle.sd_range.specs.declared.affine.Affine.{Affine}
use Rattle.sd_range.proofs.Members.{Contains-nil, Contains-first, Contains-later, Contains-map, Contains-flat_map, Contains-from_flat_map}
use Rattle.sd_subset.proofs.boxes_lemmas.Disjoint.{of_member}
use Rattle.sd_race.proofs.cover_lemmas.Among.{among-filtered}
use Rattle.sd_graph.specs.PlainTree.{KindTree, task, map_scope, consume_scope, nested_graph, reduction, copy, ItemTrees, no_item, and_item, StateTrees, no_state, and_state, GraphTree, graph, ExitTree}
use Rattle.sd_graph.specs.TreeParts.{count_states, exits_at}
use Rattle.sd_graph.specs.LoopScope.{numbers_below, is_on_loop, closes_loop, is_in_force, loops_in_force}
use Rattle.sd_validity.specs.rules.Places.{Place, Scopes, no_scopes, in_map, in_consume, param_numbers, loops_at, graph_place, state_place, item_place, places_in, item_places, state_places, places_of, all_places}
use Rattle.sd_validity.specs.rules.Parts.{is_thing_passed}
use Rattle.sd_validity.specs.rules.Failing.{failing, Holds}
use Rattle.sd_validity.specs.rules.NamesInForce.{params_at, set_at, names_tests, is_stream_in_force, are_given_there, are_names_in_force, is_each_held, are_symbols_apart, are_own_private, are_single, of_graph, rule_1}
use Rattle.sd_validity.proofs.rules_lemmas.HoldingLemmas.{each_passes}
use Rattle.sd_graph.specs.TreeParts.{containers_of}
use Rattle.sd_safe.proofs.fit_lemmas.Members.{both, same_number, each-append, each-member, each-passes, some-passes}
use Rattle.sd_safe.proofs.fit_lemmas.Single.{AreOnce, params-other, params-once, first-holds, parts-hold, never_both}

-- ---- parameters of the scopes about a place

-- each is a parameter at a place of the graph before
abbrev AreKnown : (before : List Place) → (path : List ℕ) → (params : List ℕ) → Type 0
AreKnown before path params = (v : ℕ) → Contains params v → (other : Place) × Contains before other × (other.graph_path ≡ path) × Contains (params_at other.thing) v

known-more : (before more : List Place) (path params : List ℕ) → AreKnown before path params → AreKnown (before ++ more) path params
known-more before more path params known v member =
    let (other, among, same, param) = known v member in (other, Contains-append_left before more other among, same, param)

known-none : (before : List Place) (path : List ℕ) → AreKnown before path []
known-none before path v member = absurd (Contains-nil v member)

-- those of a scope and those about it
known-own : (before : List Place) (place : Place) (own params : List ℕ) → params_at place.thing ≡ own → Contains before place → AreKnown before place.graph_path params → AreKnown before place.graph_path (own ++ params)
known-own before place own params is among known v member = elim (Contains-append_cases own params v member) [
  | inl here ↦ (place, among, refl, subst (λ numbers. Contains numbers v) (sym is) here)
  | inr there ↦ known v there
]

-- the parameters of a place are there once, and new
record IsNew (place : Place) : Type 0 where
  once : AreOnce (params_at place.thing)
  other : (v : ℕ) → Contains (params_at place.thing) v → Contains place.scopes.params v → ⊥

new-at : (before : List Place) (place : Place) → rule_1 before place ≡ true → AreKnown before place.graph_path place.scopes.params → IsNew place
new-at before place is known = record {
  once = params-once before place is;
  other = λ v member about. (let (other, among, same, param) = known v about in params-other before place other is among same v member param);
}

mutual
  kind_new : (kind : KindTree) (around : Place) (scopes : Scopes) (number : ℕ) (before : List Place) → failing rule_1 before (places_in kind (item_place around scopes number kind)) ≡ None →
      Contains before (item_place around scopes number kind) → AreKnown before around.graph_path scopes.params → AllByRecursion IsNew (places_in kind (item_place around scopes number kind))
  kind_new (task code ins outs) around scopes number before none among known = tt
  kind_new (map_scope sequential params private body) around scopes number before none among known =
      let place = item_place around scopes number (map_scope sequential params private body) in
      items_new body place (in_map scopes params private) 0 before none (known-own before place (param_numbers params) scopes.params refl among known)
  kind_new (consume_scope stream element private body) around scopes number before none among known =
      items_new body (item_place around scopes number (consume_scope stream element private body)) (in_consume scopes element private) 0 before none known
  kind_new (nested_graph inner links) around scopes number before none among known =
      let place = item_place around scopes number (nested_graph inner links) in graph_new inner place.path (suc place.depth) before none
  kind_new (reduction resolution axis identity from to) around scopes number before none among known = tt
  kind_new (copy from to) around scopes number before none among known = tt

  items_new : (items : ItemTrees) (around : Place) (scopes : Scopes) (number : ℕ) (before : List Place) → failing rule_1 before (item_places items around scopes number) ≡ None →
      AreKnown before around.graph_path scopes.params → AllByRecursion IsNew (item_places items around scopes number)
  items_new no_item around scopes number before none known = tt
  items_new (and_item line kind items) around scopes number before none known =
      let place = item_place around scopes number kind in
      let inside = places_in kind place in
      let others = item_places items around scopes (suc number) in
      let first = first-holds rule_1 before place (inside ++ others) none in
      let rest = parts-hold rule_1 (before ++ place ∷ []) inside others first.1 in
      let known' = known-more before (place ∷ []) around.graph_path scopes.params known in (
        new-at before place first.0 known,
        each-append IsNew inside others
            (kind_new kind around scopes number (before ++ place ∷ []) rest.0 (Contains-append_right before (place ∷ []) place (Contains-first place [])) known')
            (items_new items around scopes (suc number) ((before ++ place ∷ []) ++ inside) rest.1 (known-more (before ++ place ∷ []) inside around.graph_path scopes.params known')),
      )

  states_new : (states : StateTrees) (around : Place) (number : ℕ) (before : List Place) → around.scopes ≡ no_scopes → failing rule_1 before (state_places states around number) ≡ None →
      AllByRecursion IsNew (state_places states around number)
  states_new no_state around number before alone none = tt
  states_new (and_state items exits states) around number before alone none =
      let place = state_place around number items exits in
      let inside = item_places items place no_scopes 0 in
      let others = state_places states around (suc number) in
      let first = first-holds rule_1 before place (inside ++ others) none in
      let rest = parts-hold rule_1 (before ++ place ∷ []) inside others first.1 in (
        record { once = tt; other = λ v member about. Contains-nil v member },
        each-append IsNew inside others
            (items_new items place no_scopes 0 (before ++ place ∷ []) rest.0 (known-none (before ++ place ∷ []) around.graph_path))
            (states_new states around (suc number) ((before ++ place ∷ []) ++ inside) alone rest.1),
      )

  graph_new : (tree : GraphTree) (path : List ℕ) (depth : ℕ) (before : List Place) → failing rule_1 before (places_of tree path depth) ≡ None → AllByRecursion IsNew (places_of tree path depth)
  graph_new (graph name containers arguments variables symbols states) path depth before none =
      let place = graph_place (graph name containers arguments variables symbols states) path depth in
      let first = first-holds rule_1 before place (state_places states place 0) none in
      (record { once = tt; other = λ v member about. Contains-nil v member }, states_new states place 0 (before ++ place ∷ []) refl first.1)

-- ---- variables of loops

-- a variable is set at one of these places, of the graph with this path
abbrev IsSet : (all : List Place) → (path : List ℕ) → (v : ℕ) → Type 0
IsSet all path v = (other : Place) × Contains all other × (other.graph_path ≡ path) × Contains (set_at other.thing) v

-- the loop variables in force at a place are set
abbrev AreLoopsSet : (all : List Place) → Place → Type 0
AreLoopsSet all place = (v : ℕ) → Contains place.loops v → IsSet all place.graph_path v

-- what a transition of a state sets is set at the state's place
set-at_state : (states : StateTrees) (around : Place) (number from : ℕ) (exit : ExitTree) (v : ℕ) → Contains (exits_at states from) exit → Contains (map (λ (assignment : ℕ × Affine). assignment.0) exit.set) v →
    IsSet (state_places states around number) around.graph_path v
set-at_state no_state around number from exit v member set = absurd (Contains-nil exit member)
set-at_state (and_state items exits states) around number zero exit v member set =
    let place = state_place around number items exits in (
      place,
      Contains-first place (item_places items place no_scopes 0 ++ state_places states around (suc number)),
      refl,
      Contains-flat_map (λ (one : ExitTree). map (λ (assignment : ℕ × Affine). assignment.0) one.set) exits exit v member set,
    )
set-at_state (and_state items exits states) around number (suc from) exit v member set =
    let place = state_place around number items exits in
    let (other, among, same, is) = set-at_state states around (suc number) from exit v member set in
    (other, Contains-later place (item_places items place no_scopes 0 ++ state_places states around (suc number)) other (Contains-append_right (item_places items place no_scopes 0) (state_places states around (suc number)) other among), same, is)

-- a transition that closes a loop sets its variable
closing-sets : (begin v : ℕ) (exit : ExitTree) → closes_loop begin v exit ≡ true → Contains (map (λ (assignment : ℕ × Affine). assignment.0) exit.set) v
closing-sets begin v exit is =
    let sets = list_any (λ (assignment : ℕ × Affine). nat_eq assignment.0 v) exit.set in
    let split = both exit.back (nat_eq exit.to begin && sets) is in
    let (assignment, member, same) = some-passes (λ (assignment : ℕ × Affine). nat_eq assignment.0 v) exit.set (both (nat_eq exit.to begin) sets split.1).1 in
    subst (Contains (map (λ (assignment : ℕ × Affine). assignment.0) exit.set)) (same_number assignment.0 v same) (Contains-map (λ (assignment : ℕ × Affine). assignment.0) exit.set assignment member)

-- a loop variable in force is set by a transition
loops-set : (states : StateTrees) (around : Place) (number variables state v : ℕ) → Contains (loops_in_force states variables state) v → IsSet (state_places states around number) around.graph_path v
loops-set states around number variables state v member =
    let (begin, _, here) = Contains-from_flat_map (λ begin. filter (is_in_force states state begin) (numbers_below variables)) (numbers_below (count_states states)) v member in
    let (_, in_force) = among-filtered (is_in_force states state begin) (numbers_below variables) v here in
    let (end, _, closed) = some-passes (λ end. list_any (closes_loop begin v) (exits_at states end) && is_on_loop states begin end state) (numbers_below (count_states states)) in_force in
    let closing = (both (list_any (closes_loop begin v) (exits_at states end)) (is_on_loop states begin end state) closed).0 in
    let (exit, among, closes) = some-passes (closes_loop begin v) (exits_at states end) closing in
    set-at_state states around number end exit v among (closing-sets begin v exit closes)

abbrev AreAllAmong : List Place → List Place → Type 0
AreAllAmong places all = (place : Place) → Contains places place → Contains all place

mutual
  kind_loops : (kind : KindTree) (around : Place) (scopes : Scopes) (number : ℕ) (all : List Place) → AreAllAmong (places_in kind (item_place around scopes number kind)) all → AreLoopsSet all around →
      AllByRecursion (AreLoopsSet all) (places_in kind (item_place around scopes number kind))
  kind_loops (task code ins outs) around scopes number all among set = tt
  kind_loops (map_scope sequential params private body) around scopes number all among set =
      items_loops body (item_place around scopes number (map_scope sequential params private body)) (in_map scopes params private) 0 all among set
  kind_loops (consume_scope stream element private body) around scopes number all among set =
      items_loops body (item_place around scopes number (consume_scope stream element private body)) (in_consume scopes element private) 0 all among set
  kind_loops (nested_graph inner links) around scopes number all among set =
      let place = item_place around scopes number (nested_graph inner links) in graph_loops inner place.path (suc place.depth) all among
  kind_loops (reduction resolution axis identity from to) around scopes number all among set = tt
  kind_loops (copy from to) around scopes number all among set = tt

  items_loops : (items : ItemTrees) (around : Place) (scopes : Scopes) (number : ℕ) (all : List Place) → AreAllAmong (item_places items around scopes number) all → AreLoopsSet all around →
      AllByRecursion (AreLoopsSet all) (item_places items around scopes number)
  items_loops no_item around scopes number all among set = tt
  items_loops (and_item line kind items) around scopes number all among set =
      let place = item_place around scopes number kind in
      let inside = places_in kind place in
      let others = item_places items around scopes (suc number) in (
        set,
        each-append (AreLoopsSet all) inside others
            (kind_loops kind around scopes number all (λ one member. among one (Contains-later place (inside ++ others) one (Contains-append_left inside others one member))) set)
            (items_loops items around scopes (suc number) all (λ one member. among one (Contains-later place (inside ++ others) one (Contains-append_right inside others one member))) set),
      )

  states_loops : (states : StateTrees) (around : Place) (number : ℕ) (all : List Place) → AreAllAmong (state_places states around number) all →
      ((state v : ℕ) → Contains (loops_at around.graph state) v → IsSet all around.graph_path v) → AllByRecursion (AreLoopsSet all) (state_places states around number)
  states_loops no_state around number all among set = tt
  states_loops (and_state items exits states) around number all among set =
      let place = state_place around number items exits in
      let inside = item_places items place no_scopes 0 in
      let others = state_places states around (suc number) in (
        set number,
        each-append (AreLoopsSet all) inside others
            (items_loops items place no_scopes 0 all (λ one member. among one (Contains-later place (inside ++ others) one (Contains-append_left inside others one member))) (set number))
            (states_loops states around (suc number) all (λ one member. among one (Contains-later place (inside ++ others) one (Contains-append_right inside others one member))) set),
      )

  graph_loops : (tree : GraphTree) (path : List ℕ) (depth : ℕ) (all : List Place) → AreAllAmong (places_of tree path depth) all → AllByRecursion (AreLoopsSet all) (places_of tree path depth)
  graph_loops (graph name containers arguments variables symbols states) path depth all among =
      let tree = graph name containers arguments variables symbols states in
      let place = graph_place tree path depth in
      let inside : AreAllAmong (state_places states place 0) all = λ one member. among one (Contains-later place (state_places states place 0) one member) in (
        λ v none. absurd (Contains-nil v none),
        states_loops states place 0 all inside
            (λ state v member. (let (other, known, same, is) = loops-set states place 0 (length variables) state v member in (other, inside other known, same, is))),
      )

-- ---- each place of a graph

abbrev names_alone : Place → Bool
names_alone place = is_thing_passed (names_tests place) place.thing

-- what is named is in force, and the parameters of a map are there once, new, and not those of loops
pub record IsFreshPlace (place : Place) : Type 0 where
  pub named : is_thing_passed (names_tests place) place.thing ≡ true
  pub once : AreOnce (params_at place.thing)
  pub other : (v : ℕ) → Contains (params_at place.thing) v → Contains place.scopes.params v → ⊥
  pub unset : (v : ℕ) → Contains (params_at place.thing) v → Contains place.loops v → ⊥

one-names : (before : List Place) (place : Place) → rule_1 before place ≡ true → names_alone place ≡ true
one-names before place is =
    let containers = containers_of place.graph in
    let split = both (are_names_in_force place && (is_each_held place.graph place.thing && are_symbols_apart place.graph place.thing)) (are_own_private containers place.thing && are_single (of_graph before place) place.thing) is in
    let names = (both (are_names_in_force place) (is_each_held place.graph place.thing && are_symbols_apart place.graph place.thing) split.0).0 in
    let stream = is_stream_in_force containers place.scopes.private place.thing in
    (both (names_alone place) stream (both (names_alone place && stream) (are_given_there place) names).0).0

pub fresh-places : (tree : GraphTree) → Holds rule_1 tree → AllByRecursion IsFreshPlace (all_places tree)
fresh-places tree holds =
    let all = all_places tree in
    let new = graph_new tree [] 0 [] holds in
    let loops = graph_loops tree [] 0 all (λ one member. member) in
    let names = each-passes (λ place. names_alone place ≡ true) names_alone (λ place is. is) all (each_passes rule_1 names_alone one-names [] all holds) in
    each-member IsFreshPlace all
    (λ place member.
    let own = of_member IsNew all place new member in
    record {
      named = of_member (λ place. names_alone place ≡ true) all place names member;
      once = own.once;
      other = own.other;
      unset = λ v param loop. (let (other, among, same, is) = of_member (AreLoopsSet all) all place loops member v loop in never_both [] all holds place other member among (sym same) v param is);
    })
