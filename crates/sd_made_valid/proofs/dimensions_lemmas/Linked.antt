-- Code and conditions of the bound graph of a program are linked.
use Rattle.std.proofs.Common.{◌≡◌, inl, inr, ℕ, ℤ, List, [], ◌∷◌, map, Ok, true, refl, sym, subst}
use Rattle.std.specs.List.{AllByRecursion, list_all}
use Rattle.sd_lex.specs.PlainTree.{named, two, StatementTree, FunctionTree, ProgramTree}
use Rattle.sd_lex.specs.declared.syntax.operator.TwoSign.TheVariants.{Less}
use Rattle.sd_graph.specs.PlainTree as plain
use Rattle.sd_graph.specs.PlainTree.{KindTree, GraphTree, ExitTree}
use Rattle.sd_program.specs.Names.{Name}
use Rattle.sd_program.specs.Place.{Place}
use Rattle.sd_program.specs.WellFormed.{IsWellFormed}
use Rattle.sd_elab.specs.elab.Elaboration.{graph_of}
use Rattle.sd_valid.specs.BoundTree.{bound_kind, bound_exit, bound_graph}
use Rattle.sd_valid.specs.SizeValues.{NamedSizes, sizes_in}
use Rattle.sd_valid.specs.Binding.{binding}
use Rattle.sd_validity.specs.rules.Places.{Thing, whole, leaving, doing, Place as GraphPlace, all_places, places_of}
use Rattle.sd_validity.specs.rules.Dimensions.{is_condition_sound, is_code_linked}
use Rattle.sd_validity.specs.bound_places.BoundPlace.{bound_thing, bound_place}
use Rattle.sd_validity.proofs.bound_places_lemmas.EachPlace.{AtThing, AtPlace, graph_places}
use Rattle.sd_validity.proofs.bound_places_lemmas.Asked.{all_mapped}
use Rattle.sd_validity.proofs.bound_places_lemmas.BoundPlaces.{graph_bound}
use Rattle.sd_made.proofs.places_lemmas.Made.{Fitting, IsWhole, IsItem, IsExit}
use Rattle.sd_made.proofs.places_lemmas.ProgramMade.{IsTold}
use Rattle.sd_made.proofs.places_lemmas.Bound.{AnyFunction, bound_is, told}
use Rattle.sd_made_valid.proofs.dimensions_lemmas.Ports.{ports_linked, condition_sound, HasPorts, item_ports}

module _ (sizes : List ℤ) where
  kind_linked : (kind : KindTree) → HasPorts kind → is_code_linked (doing (bound_kind sizes kind)) ≡ true
  kind_linked (plain.task code ins outs) ports = rw (ports.0, ports.1, ports_linked sizes ins) (ports_linked sizes outs)
  kind_linked (plain.map_scope sequential params private body) ports = refl
  kind_linked (plain.consume_scope stream element private body) ports = refl
  kind_linked (plain.nested_graph inner links) ports = refl
  kind_linked (plain.reduction resolution axis identity from to) ports = refl
  kind_linked (plain.copy from to) ports = refl

  abbrev IsLinked : ExitTree → Type 0
  IsLinked exit = is_condition_sound (bound_exit sizes exit).when ≡ true

  module _ (Given : Place → StatementTree → Type 0) (Is : List Name → FunctionTree → Type 0) (fits : (place : Place) (statement : StatementTree) → Given place statement → Fitting place statement) where
    exit_linked : (tree : GraphTree) (state : ℕ) (exit : ExitTree) → IsExit Given Is tree state exit → IsLinked exit
    exit_linked tree state exit (inl (to, inl plain)) = subst IsLinked (sym plain) refl
    exit_linked tree state exit (inl (to, inr plain)) = subst IsLinked (sym plain) refl
    exit_linked tree state exit (inr (inl is)) = subst IsLinked (sym is.made) (condition_sound sizes is.table is.line is.when)
    exit_linked tree state exit (inr (inr (inl is))) = subst IsLinked (sym is.made) refl
    exit_linked tree state exit (inr (inr (inr (inl is)))) =
        subst IsLinked (sym is.made) (condition_sound sizes is.table is.loop.line (two Less (named is.loop.name) is.loop.end))
    exit_linked tree state exit (inr (inr (inr (inr is)))) = subst IsLinked (sym is.made) refl

    exits_linked : (tree : GraphTree) (state : ℕ) (exits : List ExitTree) → AllByRecursion (IsExit Given Is tree state) exits →
        list_all (λ (exit : ExitTree). is_condition_sound exit.when) (map (bound_exit sizes) exits) ≡ true
    exits_linked tree state [] all = refl
    exits_linked tree state (exit ∷ exits) all = rw (exit_linked tree state exit all.0) (exits_linked tree state exits all.1)

    abbrev At : GraphPlace → Type 0
    At place = AtPlace (IsWhole Given Is) (IsExit Given Is) (IsItem Given Is) place

    thing_linked : (place : GraphPlace) (thing : Thing) → AtThing (IsWhole Given Is) (IsExit Given Is) (IsItem Given Is) thing place → is_code_linked (bound_thing sizes thing) ≡ true
    thing_linked place whole is = refl
    thing_linked place (leaving items exits) is = exits_linked place.graph place.state exits is.1
    thing_linked place (doing kind) is = kind_linked kind (item_ports Given Is place.graph place.state place.scopes kind is.1)

    pub all_linked : (tree : GraphTree) → IsTold Given Is fits tree → AllByRecursion (λ place. is_code_linked place.thing ≡ true) (all_places (bound_graph sizes tree))
    all_linked tree told =
        subst (AllByRecursion (λ place. is_code_linked place.thing ≡ true)) (sym (graph_bound sizes tree [] 0))
        (all_mapped (bound_place sizes) At (λ place. is_code_linked place.thing ≡ true) (λ place is. thing_linked place place.thing is.1) (places_of tree [] 0) (graph_places _ _ _ tree [] 0 told))

pub code_linked : (program : ProgramTree) (known : NamedSizes) (bound : GraphTree) → IsWellFormed program → binding (graph_of program) known ≡ Ok bound →
    AllByRecursion (λ place. is_code_linked place.thing ≡ true) (all_places bound)
code_linked program known bound well is =
    subst (λ bound. AllByRecursion (λ place. is_code_linked place.thing ≡ true) (all_places bound)) (bound_is (graph_of program) bound known is)
    (all_linked (sizes_in known (graph_of program)) Fitting AnyFunction (λ place statement fits. fits) (graph_of program) (told program well))
