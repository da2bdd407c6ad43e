-- A graph that is linked, apart and shaped keeps the rule on nested graphs.
use Rattle.std.proofs.Common.{◌≡◌, ℕ, zero, suc, List, [], ◌∷◌, length, nat_eq, Ok, true, refl}
use Rattle.std.specs.Prelude.{⊤}
use Rattle.std.specs.List.{AllByRecursion}
use Rattle.sd_lex.specs.PlainTree.{ProgramTree}
use Rattle.sd_graph.specs.PlainTree.{KindTree, task, map_scope, consume_scope, nested_graph, reduction, copy, ItemTrees, no_item, and_item, StateTrees, no_state, and_state, GraphTree, graph}
use Rattle.sd_graph.specs.ContainerParts.{Containers}
use Rattle.sd_graph.proofs.Among.{nat_eq_same}
use Rattle.sd_graph.specs.InPlace.{ArgumentsComeFirst, IsKindLinked, AreItemsLinked, AreStatesLinked, IsLinked, arguments_of}
use Rattle.sd_program.specs.Place.{EveryPlace}
use Rattle.sd_program.specs.WellFormed.{IsWellFormed}
use Rattle.sd_elab.specs.elab.Elaboration.{graph_of}
use Rattle.sd_valid.specs.SizeValues.{NamedSizes}
use Rattle.sd_valid.specs.Binding.{binding}
use Rattle.sd_validity.specs.rules.Places.{doing, Place, Scopes, no_scopes, in_map, in_consume, item_place, state_place, graph_place, places_in, item_places, state_places, places_of, all_places}
use Rattle.sd_validity.specs.rules.Failing.{Holds}
use Rattle.sd_validity.specs.rules.NestedLinks.{do_arguments_come_first, is_nesting_right, rule_5}
use Rattle.sd_validity.specs.bound_places.Throughout.{InKind, InItems, InStates}
use Rattle.sd_validity.proofs.bound_places_lemmas.EachPlace.{all_joined}
use Rattle.sd_validity.proofs.bound_places_lemmas.Asked.{HoldsAt, none_fails}
use Rattle.sd_made.proofs.links_lemmas.Linked.{program_linked}
use Rattle.sd_made.specs.writes.Apart.{CallsApart, IsKindApart, AreItemsApart, AreStatesApart, IsGraphApart}
use Rattle.sd_made.proofs.writes_lemmas.Programs.{program_apart}
use Rattle.sd_made.proofs.shapes_lemmas.Kept.{nesting_bound}
use Rattle.sd_made_valid.specs.nesting.Shaped.{HaveShapes, IsShaped}

arguments_first : (arguments : ℕ) (containers : Containers) → ArgumentsComeFirst arguments containers → do_arguments_come_first arguments containers ≡ true
arguments_first zero [] first = refl
arguments_first (suc arguments) [] first = absurd first
arguments_first zero (entry ∷ containers) first = rw first.0 (arguments_first zero containers first.1)
arguments_first (suc arguments) (entry ∷ containers) first = rw first.0 (arguments_first arguments containers first.1)

-- what a graph has without the graphs nested in it
abbrev ItemsShaped : ItemTrees → GraphTree → (state : ℕ) → Scopes → Type 0
ItemsShaped items tree state scopes = InItems (λ tree. ⊤) (λ tree state exit. ⊤) (λ tree state scopes kind. HaveShapes kind) items tree state scopes

abbrev KindShaped : KindTree → GraphTree → (state : ℕ) → Scopes → Type 0
KindShaped kind tree state scopes = InKind (λ tree. ⊤) (λ tree state exit. ⊤) (λ tree state scopes kind. HaveShapes kind) kind tree state scopes

abbrev StatesShaped : StateTrees → GraphTree → (number : ℕ) → Type 0
StatesShaped states tree number = InStates (λ tree. ⊤) (λ tree state exit. ⊤) (λ tree state scopes kind. HaveShapes kind) states tree number

abbrev AllRight : List Place → Type 0
AllRight places = AllByRecursion (HoldsAt rule_5) places

item_right : (tree : GraphTree) (kind : KindTree) → IsKindLinked kind → IsKindApart kind → HaveShapes kind → is_nesting_right tree (doing kind) ≡ true
item_right tree (task code ins outs) linked apart shaped = refl
item_right tree (map_scope sequential params private body) linked apart shaped = refl
item_right tree (consume_scope stream element private body) linked apart shaped = refl
item_right tree (nested_graph inner links) linked apart shaped =
    let many : nat_eq (length links) (arguments_of inner) ≡ true = nat_eq_same (length links) (arguments_of inner) linked.0 in
    rw (many, shaped, apart.0) refl
item_right tree (reduction resolution axis identity from to) linked apart shaped = refl
item_right tree (copy from to) linked apart shaped = refl

mutual
  kind_right : (kind : KindTree) (place : Place) → IsKindLinked kind → IsKindApart kind → KindShaped kind place.graph place.state place.scopes → AllRight (places_in kind place)
  kind_right (task code ins outs) place linked apart shaped = tt
  kind_right (map_scope sequential params private body) place linked apart shaped = items_right body place (in_map place.scopes params private) 0 linked apart shaped
  kind_right (consume_scope stream element private body) place linked apart shaped = items_right body place (in_consume place.scopes element private) 0 linked apart shaped
  kind_right (nested_graph inner links) place linked apart shaped = graph_right inner place.path (suc place.depth) linked.1 apart.1 shaped
  kind_right (reduction resolution axis identity from to) place linked apart shaped = tt
  kind_right (copy from to) place linked apart shaped = tt

  items_right : (items : ItemTrees) (around : Place) (scopes : Scopes) (number : ℕ) → AreItemsLinked items → AreItemsApart items → ItemsShaped items around.graph around.state scopes → AllRight (item_places items around scopes number)
  items_right no_item around scopes number linked apart shaped = tt
  items_right (and_item line kind items) around scopes number linked apart shaped =
      let place = item_place around scopes number kind in (
        λ before. item_right around.graph kind linked.0 apart.0 shaped.0,
        all_joined (HoldsAt rule_5) (places_in kind place) (item_places items around scopes (suc number)) (kind_right kind place linked.0 apart.0 shaped.1)
            (items_right items around scopes (suc number) linked.1 apart.1 shaped.2),
      )

  states_right : (states : StateTrees) (around : Place) (number : ℕ) → AreStatesLinked states → AreStatesApart states → StatesShaped states around.graph number → AllRight (state_places states around number)
  states_right no_state around number linked apart shaped = tt
  states_right (and_state items exits states) around number linked apart shaped =
      let place = state_place around number items exits in (
        λ before. refl,
        all_joined (HoldsAt rule_5) (item_places items place no_scopes 0) (state_places states around (suc number)) (items_right items place no_scopes 0 linked.0 apart.0 shaped.1)
            (states_right states around (suc number) linked.1 apart.1 shaped.2),
      )

  graph_right : (tree : GraphTree) (path : List ℕ) (depth : ℕ) → IsLinked tree → IsGraphApart tree → IsShaped tree → AllRight (places_of tree path depth)
  graph_right (graph name containers arguments variables symbols states) path depth linked apart shaped = (
    λ before. arguments_first arguments containers linked.0,
    states_right states (graph_place (graph name containers arguments variables symbols states) path depth) 0 linked.1 apart shaped.1,
  )

pub nesting_holds : (source : ProgramTree) (named : NamedSizes) (bound : GraphTree) → IsWellFormed source → EveryPlace CallsApart source → IsShaped (graph_of source) → binding (graph_of source) named ≡ Ok bound → Holds rule_5 bound
nesting_holds source named bound well apart shaped is =
    nesting_bound source named bound
    (none_fails rule_5 [] (all_places (graph_of source)) (graph_right (graph_of source) [] 0 (program_linked source well) (program_apart source well apart) shaped)) is
