-- In the bound graph of a program each expression is small.
use Rattle.std.proofs.Common.{◌≡◌, inl, inr, ℕ, ℤ, List, [], ◌∷◌, map, Ok, true, refl, sym, subst}
use Rattle.std.specs.List.{AllByRecursion, list_all}
use Rattle.sd_lex.specs.PlainTree.{Expression, named, two, StatementTree, while_loop, branch, ProgramTree}
use Rattle.sd_lex.specs.declared.syntax.operator.TwoSign.TheVariants.{Less}
use Rattle.sd_range.specs.Arithmetic.{affine_zero}
use Rattle.sd_graph.specs.PlainTree.{KindTree, GraphTree, ExitTree}
use Rattle.sd_program.specs.Bounds.{EachBound, EachSubscript}
use Rattle.sd_program.specs.Every.{EveryOf}
use Rattle.sd_program.specs.Limits.{HasSteps}
use Rattle.sd_program.specs.Place.{Place, EveryAt, EveryPlace}
use Rattle.sd_program.specs.Small.{IsSmall}
use Rattle.sd_program.specs.WellFormed.{IsWellFormed}
use Rattle.sd_task.specs.in_force.Ranges.{affine_or}
use Rattle.sd_task.proofs.in_force_lemmas.SmallLemmas.{zero_within}
use Rattle.sd_task.specs.task.Table.{Table}
use Rattle.sd_task.specs.task.ElementCode.{links_with, guard_of}
use Rattle.sd_elab.specs.states.Exits.{if_holds, stepped_on}
use Rattle.sd_elab.specs.elab.Elaboration.{graph_of}
use Rattle.sd_valid.specs.BoundTree.{bound_exit, bound_graph}
use Rattle.sd_valid.specs.SizeValues.{NamedSizes, sizes_in}
use Rattle.sd_valid.specs.Binding.{binding}
use Rattle.sd_validity.specs.rules.Places.{Thing, whole, leaving, doing, Place as GraphPlace, Scopes, no_scopes, loops_at, all_places, places_of}
use Rattle.sd_validity.specs.rules.Parts.{is_exit_passed, is_thing_passed}
use Rattle.sd_validity.specs.bound_places.BoundPlace.{bound_thing, bound_place}
use Rattle.sd_validity.proofs.bound_places_lemmas.EachPlace.{AtThing, AtPlace, graph_places}
use Rattle.sd_validity.proofs.bound_places_lemmas.Asked.{all_mapped}
use Rattle.sd_validity.proofs.bound_places_lemmas.BoundPlaces.{graph_bound}
use Rattle.sd_made.proofs.places_lemmas.Made.{Stands, Fitting, IsWhole, IsItem, IsAsked, IsExit}
use Rattle.sd_made.proofs.places_lemmas.ProgramMade.{IsTold, program_told}
use Rattle.sd_made.proofs.places_lemmas.Givens.{all_reversed, everywhere_at, both_places, fitting}
use Rattle.sd_made.proofs.places_lemmas.Bound.{bound_is}
use Rattle.sd_made.specs.limits.Expressions.{expression_tests}
use Rattle.sd_made.proofs.limits_lemmas.Near.{AreSizes, are_sizes, IsNear, near_within, near_bound}
use Rattle.sd_made.proofs.limits_lemmas.Few.{or_within}
use Rattle.sd_made.proofs.limits_lemmas.FewBound.{links_passed, kind_passed}
use Rattle.sd_made.proofs.limits_lemmas.MadeFew.{IsLight, IsLightFunction, light_fits, elements_few, table_light, item_few, no_subscript, stepped_near}

-- ---- transitions

asked_small : (place : Place) (statement : StatementTree) (line : ℕ) (when : Expression) → EveryAt IsLight place statement → IsAsked IsLight IsLightFunction statement line when → EachSubscript IsSmall when
asked_small place (while_loop line when body) line' when' given asked = subst (EachSubscript IsSmall) asked.1 given.0.small
asked_small place (branch line when body other) line' when' given asked = subst (EachSubscript IsSmall) asked.1 given.0.small
asked_small place statement line' when' given asked = absurd asked

module _ (sizes : List ℤ) (are : AreSizes sizes) where
  abbrev IsPassed : ExitTree → Type 0
  IsPassed exit = is_exit_passed expression_tests (bound_exit sizes exit) ≡ true

  module _ (tree : GraphTree) (about : IsWhole IsLight IsLightFunction tree) (state : ℕ) where
    guard_passed : (place : Place) (table : Table) (line : ℕ) (when : Expression) (to : ℕ) → Stands tree no_scopes (loops_at tree state) place table → EachSubscript IsSmall when →
        IsPassed (if_holds (guard_of table line when) to)
    guard_passed place table line when to stands small =
        rw (links_passed sizes are (links_with table [] when) (elements_few table (table_light tree about no_scopes (loops_at tree state) place table stands) [] when small tt)) refl

    exit_passed : (exit : ExitTree) → IsExit IsLight IsLightFunction tree state exit → IsPassed exit
    exit_passed exit (inl (to, inl plain)) = subst IsPassed (sym plain) refl
    exit_passed exit (inl (to, inr plain)) = subst IsPassed (sym plain) refl
    exit_passed exit (inr (inl is)) =
        subst IsPassed (sym is.made) (guard_passed is.place is.table is.line is.when is.to is.stands (asked_small is.place is.statement is.line is.when is.given is.asked))
    exit_passed exit (inr (inr (inl is))) =
        let begin = affine_or affine_zero is.table.variables is.loop.begin in
        let near : IsNear begin = near_within begin (or_within is.table.variables affine_zero is.loop.begin zero_within is.loop.given.0.small.0) in
        subst IsPassed (sym is.made) (rw (near_bound sizes are begin near) refl)
    exit_passed exit (inr (inr (inr (inl is)))) =
        subst IsPassed (sym is.made)
        (guard_passed is.loop.place is.table is.loop.line (two Less (named is.loop.name) is.loop.end) is.to is.stands (tt, no_subscript is.loop.end is.loop.given.0.fitting.affine.1))
    exit_passed exit (inr (inr (inr (inr is)))) =
        let value = stepped_on is.variable is.loop.step in
        subst IsPassed (sym is.made) (rw (near_bound sizes are value (stepped_near is.variable is.loop.step is.loop.given.0.steps)) refl)

    exits_passed : (exits : List ExitTree) → AllByRecursion (IsExit IsLight IsLightFunction tree state) exits → list_all (is_exit_passed expression_tests) (map (bound_exit sizes) exits) ≡ true
    exits_passed [] all = refl
    exits_passed (exit ∷ exits) all = rw (exit_passed exit all.0) (exits_passed exits all.1)

  -- ---- at each place

  abbrev Wholes : GraphTree → Type 0
  Wholes tree = IsWhole IsLight IsLightFunction tree

  abbrev Exits : GraphTree → (state : ℕ) → ExitTree → Type 0
  Exits tree state exit = IsExit IsLight IsLightFunction tree state exit

  abbrev Items : GraphTree → (state : ℕ) → Scopes → KindTree → Type 0
  Items tree state scopes kind = IsItem IsLight IsLightFunction tree state scopes kind

  thing_passed : (place : GraphPlace) (thing : Thing) → Wholes place.graph → AtThing Wholes Exits Items thing place → is_thing_passed expression_tests (bound_thing sizes thing) ≡ true
  thing_passed place whole about is = refl
  thing_passed place (leaving items exits) about is = exits_passed place.graph about place.state exits is.1
  thing_passed place (doing kind) about is = kind_passed sizes are kind (item_few place.graph about place.state place.scopes kind is.1)

  all_passed : (tree : GraphTree) → IsTold IsLight IsLightFunction light_fits tree → AllByRecursion (λ place. is_thing_passed expression_tests place.thing ≡ true) (all_places (bound_graph sizes tree))
  all_passed tree told =
      subst (AllByRecursion (λ place. is_thing_passed expression_tests place.thing ≡ true)) (sym (graph_bound sizes tree [] 0))
      (all_mapped (bound_place sizes) (AtPlace Wholes Exits Items) (λ place. is_thing_passed expression_tests place.thing ≡ true) (λ place is. thing_passed place place.thing is.0 is.1) (places_of tree [] 0)
      (graph_places Wholes Exits Items tree [] 0 told))

abbrev IsSmallStepped : Place → StatementTree → Type 0
IsSmallStepped place statement = EachBound IsSmall statement × HasSteps statement

-- the graph of a program is made of statements with small expressions
pub light_told : (program : ProgramTree) → IsWellFormed program → IsTold IsLight IsLightFunction light_fits (graph_of program)
light_told program well =
    let given : EveryPlace IsLight program =
    both_places Fitting IsSmallStepped IsLight (λ place statement fits is. record { fitting = fits; small = is.0; steps = is.1 }) program (fitting program well)
    (both_places (λ place. EachBound IsSmall) (λ place. HasSteps) IsSmallStepped (λ place statement small steps. (small, steps)) program
    (everywhere_at (EachBound IsSmall) program well.small) (everywhere_at HasSteps program well.steps)) in
    program_told IsLight IsLightFunction light_fits program (all_reversed (EveryOf (EachBound IsSmall)) program.functions well.small) given

pub expressions_small : (program : ProgramTree) (known : NamedSizes) (bound : GraphTree) → IsWellFormed program → binding (graph_of program) known ≡ Ok bound →
    AllByRecursion (λ place. is_thing_passed expression_tests place.thing ≡ true) (all_places bound)
expressions_small program known bound well is =
    subst (λ bound. AllByRecursion (λ place. is_thing_passed expression_tests place.thing ≡ true) (all_places bound)) (bound_is (graph_of program) bound known is)
    (all_passed (sizes_in known (graph_of program)) (are_sizes (graph_of program) bound known is) (graph_of program) (light_told program well))
