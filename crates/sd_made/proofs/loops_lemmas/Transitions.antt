-- The transitions of the bound graph of a program are right.
use Rattle.std.proofs.Common.{◌≡◌, ◌∙◌, inl, inr, ℕ, ℤ, List, [], ◌∷◌, map, length, Ok, true, refl, ap, sym, subst, arith}
use Rattle.std.specs.Prelude.{⊤}
use Rattle.std.specs.List.{AllByRecursion, list_all}
use Rattle.sd_lex.specs.PlainTree.{FunctionTree, ProgramTree}
use Rattle.sd_range.specs.declared.affine.Affine.{Affine}
use Rattle.sd_graph.specs.PlainTree.{StateTrees, no_state, GraphTree, graph, ExitTree}
use Rattle.sd_graph.specs.TreeParts.{count_states, exits_at, states_of_graph}
use Rattle.sd_graph.specs.Upwards.{ExitsLeadUpwards}
use Rattle.sd_program.specs.WellFormed.{IsWellFormed}
use Rattle.sd_elab.specs.elab.Elaboration.{graph_of}
use Rattle.sd_valid.specs.BoundExpression.{bound_assignment}
use Rattle.sd_valid.specs.BoundTree.{bound_exit, bound_states, bound_graph}
use Rattle.sd_valid.specs.SizeValues.{NamedSizes, sizes_in}
use Rattle.sd_valid.specs.Binding.{binding}
use Rattle.sd_valid.proofs.SizedLoops.{exits_at_same}
use Rattle.sd_made.specs.elab.Throughout.{Throughout}
use Rattle.sd_made.specs.elab.LoopShape.{SetsLoopVariable, SetLoopVariables, HasLoopShape}
use Rattle.sd_made.proofs.elab_lemmas.LoopEntries.{ClosesLoopAlone}
use Rattle.sd_made.proofs.elab_lemmas.LoopsClosed.{function_closes}
use Rattle.sd_made.proofs.elab_lemmas.LoopShapes.{program_sets_loop_variables_only}
use Rattle.sd_made.proofs.elab_lemmas.UpwardsLemmas.{program_leads_upwards}
use Rattle.sd_made.proofs.elab_lemmas.ThroughoutLemmas.{program_throughout}
use Rattle.sd_validity.specs.rules.GraphParts.{symbols_in}
use Rattle.sd_validity.specs.rules.Places.{Thing, whole, leaving, doing, Place as GraphPlace, places_of, all_places}
use Rattle.sd_validity.specs.rules.Transitions.{is_exit_right, are_transitions_right, rule_3}
use Rattle.sd_validity.specs.rules.Failing.{Holds}
use Rattle.sd_validity.specs.bound_places.BoundPlace.{bound_thing, bound_place}
use Rattle.sd_validity.proofs.bound_places_lemmas.EachPlace.{AtThing, AtPlace, graph_places}
use Rattle.sd_validity.proofs.bound_places_lemmas.Asked.{all_mapped}
use Rattle.sd_validity.proofs.bound_places_lemmas.BoundPlaces.{graph_bound}
use Rattle.sd_validity.proofs.paths_lemmas.Found.{all_both, places_found}
use Rattle.sd_validity.proofs.paths_lemmas.Leaving.{HasExits, HasItsExits, graph_leaves}
use Rattle.sd_made.proofs.places_lemmas.Made.{Fitting, IsWhole, IsItem, IsExit}
use Rattle.sd_made.proofs.places_lemmas.ProgramMade.{IsTold}
use Rattle.sd_made.proofs.places_lemmas.Bound.{bound_is}
use Rattle.sd_made.proofs.places_lemmas.Sizes.{HasSymbols, symbols_told, sizes_counted_in}
use Rattle.sd_made.proofs.loops_lemmas.AtGraphs.{OfItsGraph, graph_graphs, AreUpwards, graph_upwards}
use Rattle.sd_made.proofs.loops_lemmas.Together.{none_fails_behind}
use Rattle.sd_made.proofs.loops_lemmas.Right.{IsOwn, some_state, exits_right}
use Rattle.sd_made.proofs.loops_lemmas.Agreed.{LeadsToBegins, HasBegins, IsIn, begins_agree}

-- ---- what is known of the states of each graph

abbrev AreClosed : StateTrees → Type 0
AreClosed states = (state : ℕ) → AllByRecursion (ClosesLoopAlone states state) (exits_at states state)

any_function : (functions : List FunctionTree) → AllByRecursion (λ (function : FunctionTree). ⊤) functions
any_function [] = tt
any_function (function ∷ functions) = (tt, any_function functions)

closed_throughout : (source : ProgramTree) → Throughout AreClosed (graph_of source)
closed_throughout source =
    program_throughout AreClosed (λ state. tt) source.symbols (λ function. ⊤) (λ graphs function is. function_closes source.symbols graphs function) source.functions (any_function source.functions)

abbrev Known : StateTrees → Type 0
Known states = HasLoopShape states × (AreClosed states × AreUpwards states)

-- ---- the sizes

module _ (sizes : List ℤ) (count : ℕ) (same : length sizes ≡ count) where
  abbrev Whole : GraphTree → Type 0
  Whole tree = IsWhole Fitting (HasSymbols count) tree

  abbrev Exit : GraphTree → (state : ℕ) → ExitTree → Type 0
  Exit tree state exit = IsExit Fitting (HasSymbols count) tree state exit

  -- a transition sets no size symbol
  exit_own : (tree : GraphTree) (state : ℕ) (exit : ExitTree) → symbols_in tree ≡ count → Exit tree state exit → IsOwn (length sizes) exit
  exit_own tree state exit e (inl (to, inl plain)) = subst (IsOwn (length sizes)) (sym plain) tt
  exit_own tree state exit e (inl (to, inr plain)) = subst (IsOwn (length sizes)) (sym plain) tt
  exit_own tree state exit e (inr (inl is)) = subst (IsOwn (length sizes)) (sym is.made) tt
  exit_own tree state exit e (inr (inr (inl is))) = subst (IsOwn (length sizes)) (sym is.made) (omega (arith, is.own, e, same), tt)
  exit_own tree state exit e (inr (inr (inr (inl is)))) = subst (IsOwn (length sizes)) (sym is.made) tt
  exit_own tree state exit e (inr (inr (inr (inr is)))) = subst (IsOwn (length sizes)) (sym is.made) (omega (arith, is.own, e, same), tt)

  exits_own : (tree : GraphTree) (state : ℕ) (exits : List ExitTree) → symbols_in tree ≡ count → AllByRecursion (Exit tree state) exits → AllByRecursion (IsOwn (length sizes)) exits
  exits_own tree state [] e all = tt
  exits_own tree state (exit ∷ exits) e all = (exit_own tree state exit e all.0, exits_own tree state exits e all.1)

  -- a graph without states has no transition
  none_own : (tree : GraphTree) (state : ℕ) (exits : List ExitTree) → exits_at (states_of_graph tree) state ≡ exits → states_of_graph tree ≡ no_state → AllByRecursion (IsOwn (length sizes)) exits
  none_own tree state exits e none = subst (AllByRecursion (IsOwn (length sizes))) (sym (ap (λ states. exits_at states state) none) ∙ e) tt

  whole_own : (tree : GraphTree) (state : ℕ) (exits : List ExitTree) → exits_at (states_of_graph tree) state ≡ exits → Whole tree → AllByRecursion (Exit tree state) exits → AllByRecursion (IsOwn (length sizes)) exits
  whole_own tree state exits e (inl none) all = none_own tree state exits e (ap states_of_graph none)
  whole_own tree state exits e (inr is) all = exits_own tree state exits (ap symbols_in is.made ∙ is.is) all

  of_bound : (tree : GraphTree) → states_of_graph (bound_graph sizes tree) ≡ bound_states sizes (states_of_graph tree)
  of_bound (graph name containers arguments variables symbols states) = refl

  -- at a state
  state_right : (tree : GraphTree) (state : ℕ) (exits : List ExitTree) → exits_at (states_of_graph tree) state ≡ exits → Known (states_of_graph tree) → AllByRecursion (IsOwn (length sizes)) exits →
      list_all (is_exit_right (states_of_graph (bound_graph sizes tree)) state) (map (bound_exit sizes) exits) ≡ true
  state_right tree state exits e known own =
      let states : StateTrees = states_of_graph tree in
      subst (λ bound. list_all (is_exit_right bound state) (map (bound_exit sizes) exits) ≡ true) (sym (of_bound tree))
      (exits_right sizes states known.0.0 state exits (λ exit others same. some_state states state exit others (e ∙ same))
      (subst (ExitsLeadUpwards (count_states states) state) e (known.1.1 state)) (subst (AllByRecursion (ClosesLoopAlone states state)) e (known.1.0 state))
      (subst (SetLoopVariables states known.0.0) e (known.0.1 state)) own)

  thing_right : (place : GraphPlace) (thing : Thing) → HasExits thing place → Known (states_of_graph place.graph) → Whole place.graph → AtThing Whole Exit (IsItem Fitting (HasSymbols count)) thing place →
      are_transitions_right (states_of_graph (bound_graph sizes place.graph)) place.state (bound_thing sizes thing) ≡ true
  thing_right place whole e known about is = refl
  thing_right place (leaving items exits) e known about is = state_right place.graph place.state exits e known (whole_own place.graph place.state exits e about is.1)
  thing_right place (doing kind) e known about is = refl

  -- ---- the begins of loops

  sets_begins : (states : StateTrees) (begin : ℕ → ℕ) (exit : ExitTree) (to : ℕ) (set : List (ℕ × Affine)) → exit.to ≡ to → AllByRecursion (SetsLoopVariable states begin exit) set →
      AllByRecursion (λ (assignment : ℕ × Affine). to ≡ begin assignment.0) (map (bound_assignment sizes) set)
  sets_begins states begin exit to [] e all = tt
  sets_begins states begin exit to (assignment ∷ set) e all = (sym e ∙ all.0.0, sets_begins states begin exit to set e all.1)

  exits_begins : (states : StateTrees) (begin : ℕ → ℕ) (exits : List ExitTree) → SetLoopVariables states begin exits → LeadsToBegins begin (map (bound_exit sizes) exits)
  exits_begins states begin [] all = tt
  exits_begins states begin (exit ∷ exits) all = (sets_begins states begin exit exit.to exit.set refl all.0, exits_begins states begin exits all.1)

  has_begins : (tree : GraphTree) → HasLoopShape (states_of_graph tree) → HasBegins (states_of_graph (bound_graph sizes tree))
  has_begins tree shape = (
    shape.0,
    λ state.
        subst (λ bound. LeadsToBegins shape.0 (exits_at bound state)) (sym (of_bound tree))
        (subst (LeadsToBegins shape.0) (sym (exits_at_same sizes (states_of_graph tree) state)) (exits_begins (states_of_graph tree) shape.0 (exits_at (states_of_graph tree) state) (shape.1 state))),
  )

  -- ---- together

  -- what is known of a place of the graph, and of the bound one
  abbrev Before : GraphPlace → Type 0
  Before place = (AtPlace Whole Exit (IsItem Fitting (HasSymbols count)) place × HasItsExits place) × OfItsGraph Known place

  abbrev After : GraphPlace → Type 0
  After place = HasBegins (states_of_graph place.graph) × (are_transitions_right (states_of_graph place.graph) place.state place.thing ≡ true)

  place_after : (place : GraphPlace) → Before place → After (bound_place sizes place)
  place_after place is = (has_begins place.graph is.1.0, thing_right place place.thing is.0.1 is.1 is.0.0.0 is.0.0.1)

  abbrev Behind : (bound : GraphTree) → GraphPlace → Type 0
  Behind bound place = (IsIn bound place × HasItsExits place) × After place

  first_known : (bound : GraphTree) (places : List GraphPlace) → AllByRecursion (Behind bound) places → AllByRecursion (λ place. IsIn bound place × HasItsExits place) places
  first_known bound [] all = tt
  first_known bound (place ∷ places) all = (all.0.0, first_known bound places all.1)

  rule_holds : (bound : GraphTree) (before : List GraphPlace) (place : GraphPlace) → AllByRecursion (Behind bound) before → Behind bound place → rule_3 before place ≡ true
  rule_holds bound before place passed is = rw is.1.1 (begins_agree bound place is.0.0 is.1.0.0 is.1.0.1 before (first_known bound before passed) is.0.1)

  pub transitions_right : (tree : GraphTree) → IsTold Fitting (HasSymbols count) (λ place statement fits. fits) tree → Throughout HasLoopShape tree → Throughout AreClosed tree → Throughout AreUpwards tree →
      Holds rule_3 (bound_graph sizes tree)
  transitions_right tree told shape closed upwards =
      let bound : GraphTree = bound_graph sizes tree in
      let places : List GraphPlace = places_of tree [] 0 in
      let known : AllByRecursion (OfItsGraph Known) places =
      all_both (OfItsGraph HasLoopShape) (λ place. AreClosed (states_of_graph place.graph) × AreUpwards (states_of_graph place.graph)) places (graph_graphs HasLoopShape tree [] 0 shape)
      (all_both (OfItsGraph AreClosed) (OfItsGraph AreUpwards) places (graph_graphs AreClosed tree [] 0 closed) (graph_graphs AreUpwards tree [] 0 upwards)) in
      let at : AllByRecursion Before places =
      all_both (λ place. AtPlace Whole Exit (IsItem Fitting (HasSymbols count)) place × HasItsExits place) (OfItsGraph Known) places
      (all_both (AtPlace Whole Exit (IsItem Fitting (HasSymbols count))) HasItsExits places (graph_places _ _ _ tree [] 0 told) (graph_leaves tree [] 0)) known in
      let after : AllByRecursion After (all_places bound) =
      subst (AllByRecursion After) (sym (graph_bound sizes tree [] 0)) (all_mapped (bound_place sizes) Before After place_after places at) in
      none_fails_behind rule_3 (Behind bound) (rule_holds bound) [] (all_places bound) tt
      (all_both (λ place. IsIn bound place × HasItsExits place) After (all_places bound) (all_both (IsIn bound) HasItsExits (all_places bound) (places_found bound) (graph_leaves bound [] 0)) after)

pub transitions_bound : (source : ProgramTree) (named : NamedSizes) (bound : GraphTree) → IsWellFormed source → binding (graph_of source) named ≡ Ok bound → Holds rule_3 bound
transitions_bound source named bound well is =
    let tree : GraphTree = graph_of source in
    subst (Holds rule_3) (bound_is tree bound named is)
    (transitions_right (sizes_in named tree) (symbols_in tree) (sizes_counted_in source named well) tree (symbols_told source well) (program_sets_loop_variables_only source well) (closed_throughout source)
    (graph_upwards tree (program_leads_upwards source)))
