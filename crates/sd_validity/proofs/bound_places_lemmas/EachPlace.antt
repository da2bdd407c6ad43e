-- What holds throughout a graph holds at each of its places.
use Rattle.std.proofs.Common.{◌≡◌, ℕ, suc, List, [], ◌∷◌, ◌++◌, refl}
use Rattle.std.specs.Prelude.{⊤}
use Rattle.std.specs.List.{AllByRecursion}
use Rattle.sd_graph.specs.PlainTree.{KindTree, task, map_scope, consume_scope, nested_graph, reduction, copy, ItemTrees, no_item, and_item, StateTrees, no_state, and_state, GraphTree, graph, ExitTree}
use Rattle.sd_validity.specs.rules.Places.{Thing, whole, leaving, doing, Place, Scopes, no_scopes, in_map, in_consume, loops_at, item_place, state_place, graph_place, places_in, item_places, state_places, places_of}
use Rattle.sd_validity.specs.bound_places.Throughout.{InKind, InItems, InStates, Throughout}

pub all_joined : {A : Type 0} (P : A → Type 0) (first second : List A) → AllByRecursion P first → AllByRecursion P second → AllByRecursion P (first ++ second)
all_joined P [] second all others = others
all_joined P (member ∷ first) second all others = (all.0, all_joined P first second all.1 others)

module _ (Whole : GraphTree → Type 0) (Leaving : GraphTree → (state : ℕ) → ExitTree → Type 0) (Doing : GraphTree → (state : ℕ) → Scopes → KindTree → Type 0) where
  -- of what stands at a place; in a state the loop variables of the place are those in force there
  abbrev pub AtThing : Thing → Place → Type 0
  AtThing whole place = ⊤
  AtThing (leaving items exits) place = (place.loops ≡ loops_at place.graph place.state) × AllByRecursion (Leaving place.graph place.state) exits
  AtThing (doing kind) place = (place.loops ≡ loops_at place.graph place.state) × Doing place.graph place.state place.scopes kind

  abbrev pub AtPlace : Place → Type 0
  AtPlace place = Whole place.graph × AtThing place.thing place

  mutual
    kind_places : (kind : KindTree) (place : Place) → Whole place.graph → place.loops ≡ loops_at place.graph place.state → InKind Whole Leaving Doing kind place.graph place.state place.scopes →
        AllByRecursion AtPlace (places_in kind place)
    kind_places (task code ins outs) place about loops holds = tt
    kind_places (map_scope sequential params private body) place about loops holds = items_places body place (in_map place.scopes params private) 0 about loops holds
    kind_places (consume_scope stream element private body) place about loops holds = items_places body place (in_consume place.scopes element private) 0 about loops holds
    kind_places (nested_graph inner links) place about loops holds = graph_places inner place.path (suc place.depth) holds
    kind_places (reduction resolution axis identity from to) place about loops holds = tt
    kind_places (copy from to) place about loops holds = tt

    items_places : (items : ItemTrees) (around : Place) (scopes : Scopes) (number : ℕ) → Whole around.graph → around.loops ≡ loops_at around.graph around.state →
        InItems Whole Leaving Doing items around.graph around.state scopes → AllByRecursion AtPlace (item_places items around scopes number)
    items_places no_item around scopes number about loops holds = tt
    items_places (and_item line kind items) around scopes number about loops holds =
        let place = item_place around scopes number kind in (
          (about, (loops, holds.0)),
          all_joined AtPlace (places_in kind place) (item_places items around scopes (suc number)) (kind_places kind place about loops holds.1)
              (items_places items around scopes (suc number) about loops holds.2),
        )

    states_places : (states : StateTrees) (around : Place) (number : ℕ) → Whole around.graph → InStates Whole Leaving Doing states around.graph number →
        AllByRecursion AtPlace (state_places states around number)
    states_places no_state around number about holds = tt
    states_places (and_state items exits states) around number about holds =
        let place = state_place around number items exits in (
          (about, (refl, holds.0)),
          all_joined AtPlace (item_places items place no_scopes 0) (state_places states around (suc number)) (items_places items place no_scopes 0 about refl holds.1)
              (states_places states around (suc number) about holds.2),
        )

    pub graph_places : (tree : GraphTree) (path : List ℕ) (depth : ℕ) → Throughout Whole Leaving Doing tree → AllByRecursion AtPlace (places_of tree path depth)
    graph_places (graph name containers arguments variables symbols states) path depth holds =
        ((holds.0, tt), states_places states (graph_place (graph name containers arguments variables symbols states) path depth) 0 holds.0 holds.1)
