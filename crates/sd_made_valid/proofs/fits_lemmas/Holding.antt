-- A graph with the shapes that it may have keeps the rules on them.
use Rattle.std.proofs.Common.{◌≡◌, ℕ, suc, List, [], ◌∷◌, true, refl}
use Rattle.std.specs.List.{AllByRecursion}
use Rattle.sd_graph.specs.PlainTree.{KindTree, task, map_scope, consume_scope, nested_graph, reduction, copy, ItemTrees, no_item, and_item, StateTrees, no_state, and_state, GraphTree, graph}
use Rattle.sd_validity.specs.rules.Places.{Thing, whole, leaving, doing, Place, Scopes, no_scopes, in_map, in_consume, all_places, places_of}
use Rattle.sd_validity.specs.rules.Failing.{Holds}
use Rattle.sd_validity.specs.rules.MovedShapes.{are_shapes_right, rule_6}
use Rattle.sd_validity.specs.bound_places.Throughout.{InKind, InItems, InStates}
use Rattle.sd_validity.proofs.bound_places_lemmas.EachPlace.{AtThing, AtPlace, graph_places}
use Rattle.sd_validity.proofs.bound_places_lemmas.Asked.{HoldsAt, none_fails}
use Rattle.sd_made_valid.specs.nesting.Shaped.{HaveShapes, IsShaped}
use Rattle.sd_made_valid.proofs.fits_lemmas.Items.{IsWhole, IsLeaving, IsDoing, IsRightThroughout}

-- ---- links of calls

abbrev IsLinked : GraphTree → (state : ℕ) → Scopes → KindTree → Type 0
IsLinked tree state scopes kind = HaveShapes kind

mutual
  kind_shaped : (kind : KindTree) (tree : GraphTree) (state : ℕ) (scopes : Scopes) → InKind IsWhole IsLeaving IsDoing kind tree state scopes → InKind IsWhole IsLeaving IsLinked kind tree state scopes
  kind_shaped (task code ins outs) tree state scopes right = tt
  kind_shaped (map_scope sequential params private body) tree state scopes right = items_shaped body tree state (in_map scopes params private) right
  kind_shaped (consume_scope stream element private body) tree state scopes right = items_shaped body tree state (in_consume scopes element private) right
  kind_shaped (nested_graph inner links) tree state scopes right = graph_shaped inner right
  kind_shaped (reduction resolution axis identity from to) tree state scopes right = tt
  kind_shaped (copy from to) tree state scopes right = tt

  items_shaped : (items : ItemTrees) (tree : GraphTree) (state : ℕ) (scopes : Scopes) → InItems IsWhole IsLeaving IsDoing items tree state scopes → InItems IsWhole IsLeaving IsLinked items tree state scopes
  items_shaped no_item tree state scopes right = tt
  items_shaped (and_item line kind items) tree state scopes right = (right.0.0, kind_shaped kind tree state scopes right.1, items_shaped items tree state scopes right.2)

  states_shaped : (states : StateTrees) (tree : GraphTree) (number : ℕ) → InStates IsWhole IsLeaving IsDoing states tree number → InStates IsWhole IsLeaving IsLinked states tree number
  states_shaped no_state tree number right = tt
  states_shaped (and_state items exits states) tree number right = (right.0, items_shaped items tree number no_scopes right.1, states_shaped states tree (suc number) right.2)

  pub graph_shaped : (tree : GraphTree) → IsRightThroughout tree → IsShaped tree
  graph_shaped (graph name containers arguments variables symbols states) right = (tt, states_shaped states (graph name containers arguments variables symbols states) 0 right.1)

-- ---- copies and reductions

thing_right : (thing : Thing) (place : Place) → AtThing IsWhole IsLeaving IsDoing thing place → are_shapes_right thing ≡ true
thing_right whole place at = refl
thing_right (leaving items exits) place at = refl
thing_right (doing kind) place at = at.1.1

each_right : (places : List Place) → AllByRecursion (AtPlace IsWhole IsLeaving IsDoing) places → AllByRecursion (HoldsAt rule_6) places
each_right [] all = tt
each_right (place ∷ places) all = (λ before. thing_right place.thing place all.0.1, each_right places all.1)

pub shapes_hold : (tree : GraphTree) → IsRightThroughout tree → Holds rule_6 tree
shapes_hold tree right = none_fails rule_6 [] (all_places tree) (each_right (places_of tree [] 0) (graph_places IsWhole IsLeaving IsDoing tree [] 0 right))
