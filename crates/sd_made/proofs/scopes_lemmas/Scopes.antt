-- The bound graph of a program keeps the rule of names.
use Rattle.std.proofs.Common.{◌≡◌, ◌∙◌, inl, inr, ℕ, zero, suc, ◌+◌, ◌<◌, ◌≤◌, nat_lt, ℤ, List, [], ◌∷◌, ◌++◌, map, length, Ok, None, Bool, true, false, not, ◌||◌, reverse, refl, ap, sym, subst, arith}
use Rattle.std.specs.Prelude.{⊤}
use Rattle.std.specs.List.{AllByRecursion, list_all}
use Rattle.sd_lex.specs.PlainTree.{StatementTree, FunctionTree, ProgramTree}
use Rattle.sd_graph.specs.PlainTree as plain
use Rattle.sd_graph.specs.PlainTree.{KindTree, StateTrees, GraphTree, graph}
use Rattle.sd_graph.specs.TreeParts.{containers_of}
use Rattle.sd_graph.specs.ContainerParts.{Containers, container_at}
use Rattle.sd_graph.specs.InForce.{is_private}
use Rattle.sd_graph.specs.LoopScope.{numbers_below}
use Rattle.sd_graph.specs.Wiring.{has_number}
use Rattle.sd_program.specs.Names.{Name}
use Rattle.sd_program.specs.Every.{EveryOf}
use Rattle.sd_program.specs.Limits.{HasFewParameters}
use Rattle.sd_program.specs.Known.{IsPlaced}
use Rattle.sd_program.specs.Place as source
use Rattle.sd_program.specs.Place.{EveryOfFunction, EveryFunction}
use Rattle.sd_program.specs.WellFormed.{IsWellFormed}
use Rattle.sd_elab.specs.elab.Elaboration.{graph_of}
use Rattle.sd_valid.specs.BoundTree.{bound_entry, bound_graph}
use Rattle.sd_valid.specs.SizeValues.{NamedSizes, sizes_in}
use Rattle.sd_valid.specs.Binding.{binding}
use Rattle.sd_validity.specs.rules.GraphParts.{variables_of, symbols_in}
use Rattle.sd_validity.specs.rules.Places.{Thing, whole, leaving, doing, Place, all_places, places_of}
use Rattle.sd_validity.specs.rules.Failing.{failing, Holds}
use Rattle.sd_validity.specs.rules.NamesInForce.{held_at, held_in_states, is_private_held, is_own, are_own_private, params_at, set_at, of_graph, numbers_at, are_new, are_apart, is_each_held, is_no_symbol, are_symbols_apart, are_names_in_force, rule_1}
use Rattle.sd_validity.specs.bound_places.BoundPlace.{bound_thing, bound_place}
use Rattle.sd_validity.proofs.bound_places_lemmas.EachPlace.{AtThing, AtPlace, graph_places}
use Rattle.sd_validity.proofs.bound_places_lemmas.Asked.{all_mapped}
use Rattle.sd_validity.proofs.bound_places_lemmas.BoundPlaces.{graph_bound}
use Rattle.sd_validity.proofs.paths_lemmas.Found.{all_both}
use Rattle.sd_validity.specs.things.Things.{state_things, graph_things}
use Rattle.sd_validity.specs.things.Behind.{AllBehind, things_at, StandsBehind}
use Rattle.sd_validity.proofs.things_lemmas.Walked.{places_walked}
use Rattle.sd_made.proofs.places_lemmas.Made.{Fitting, IsWhole, IsItem, IsExit}
use Rattle.sd_made.proofs.places_lemmas.ProgramMade.{IsTold, program_told}
use Rattle.sd_made.proofs.places_lemmas.Givens.{fitting, all_reversed}
use Rattle.sd_made.proofs.places_lemmas.Extents.{few_symbols}
use Rattle.sd_made.proofs.places_lemmas.Bound.{bound_is}
use Rattle.sd_made.proofs.names_lemmas.Names.{names_bound}
use Rattle.sd_validity.proofs.things_lemmas.Times.{times, times_joined, is_there, each_passes, each_below_passes, new_from, apart_from}
use Rattle.sd_made.proofs.scopes_lemmas.Counted.{counted, counted_joined, places_counted, states_held, counted_bound, held_bound, params_bound, set_bound}
use Rattle.sd_made.proofs.scopes_lemmas.Privates.{private_at, private_there, there_private, private_once}
use Rattle.sd_made.proofs.scopes_lemmas.HeldMade.{IsHeldOnce, function_held}
use Rattle.sd_made.proofs.scopes_lemmas.VariablesMade.{IsSingle, function_single, HasFreeSymbols, function_free}
use Rattle.sd_made.proofs.scopes_lemmas.Elements.{HasBoundElement, item_bound}

-- ---- a graph whose private containers are held once

free_or_held : (private own : Bool) → (private ≡ true → own ≡ true) → (not private || own) ≡ true
free_or_held true own held = held refl
free_or_held false own held = refl

module _ (containers : Containers) (states : StateTrees) (once : (number : ℕ) → counted held_at number (state_things states) ≡ private_at containers number) where
  number_held : (number : ℕ) → number < length containers → is_private_held containers (held_in_states states) number ≡ true
  number_held number there =
      free_or_held (is_private (container_at containers number).kind) (has_number (held_in_states states) number)
      (λ private. is_there number (held_in_states states) (omega (arith, there_private containers number there private, once number, states_held number states)))

  all_held : list_all (is_private_held containers (held_in_states states)) (numbers_below (length containers)) ≡ true
  all_held = each_below_passes (is_private_held containers (held_in_states states)) (length containers) number_held

each_held : (tree : GraphTree) (thing : Thing) → IsHeldOnce tree → is_each_held tree thing ≡ true
each_held (graph name containers arguments variables symbols states) whole once = all_held containers states (λ number. omega (arith, once number))
each_held tree (leaving items exits) once = refl
each_held tree (doing kind) once = refl

-- ---- size symbols

-- they are there, and no parameter is one
abbrev IsApart : GraphTree → Type 0
IsApart tree = (symbols_in tree ≤ length (variables_of tree)) × HasFreeSymbols tree

no_symbol : (symbols number : ℕ) (less : Bool) → nat_lt number symbols ≡ less → (number < symbols → ⊥) → not less ≡ true
no_symbol symbols number true is none = absurd (none (grind (arith, is)))
no_symbol symbols number false is none = refl

symbols_apart : (tree : GraphTree) (thing : Thing) → symbols_in tree ≤ length (variables_of tree) → ((number : ℕ) → number < symbols_in tree → times number (params_at thing) ≡ 0) → are_symbols_apart tree thing ≡ true
symbols_apart tree whole few none = grind (arith, few)
symbols_apart tree (leaving items exits) few none = refl
symbols_apart tree (doing kind) few none =
    each_passes (is_no_symbol (symbols_in tree)) (params_at (doing kind))
    (λ number some. no_symbol (symbols_in tree) number (nat_lt number (symbols_in tree)) refl (λ below. omega (arith, some, none number below)))

-- ---- what stands at a place

module _ (containers : Containers) where
  own_private : (number : ℕ) → 1 ≤ private_at containers number → is_own containers number ≡ true
  own_private number some =
      let there : (number < length containers) × (is_private (container_at containers number).kind ≡ true) = private_there containers number some in
      let below : nat_lt number (length containers) ≡ true = grind (arith, there.0) in
      rw (below, there.1) refl

abbrev HasElementAt : GraphTree → Thing → Type 0
HasElementAt tree whole = ⊤
HasElementAt tree (leaving items exits) = ⊤
HasElementAt tree (doing kind) = HasBoundElement tree kind

module _ (tree : GraphTree) where
  kind_private : (kind : KindTree) → HasBoundElement tree kind → ((number : ℕ) → 1 ≤ times number (held_at (doing kind)) → is_own (containers_of tree) number ≡ true) → are_own_private (containers_of tree) (doing kind) ≡ true
  kind_private (plain.task code ins outs) element own = refl
  kind_private (plain.map_scope sequential params private body) element own = each_passes (is_own (containers_of tree)) private own
  kind_private (plain.consume_scope stream number private body) element own =
      rw element (each_passes (is_own (containers_of tree)) private (λ number some. own number (omega (arith, some))))
  kind_private (plain.nested_graph inner links) element own = refl
  kind_private (plain.reduction resolution axis identity from to) element own = refl
  kind_private (plain.copy from to) element own = refl

  thing_private : (thing : Thing) → HasElementAt tree thing → ((number : ℕ) → 1 ≤ times number (held_at thing) → is_own (containers_of tree) number ≡ true) → are_own_private (containers_of tree) thing ≡ true
  thing_private whole element own = refl
  thing_private (leaving items exits) element own = refl
  thing_private (doing kind) element own = kind_private kind element own

-- ---- a place behind those before it

module _ (before : List Place) (place : Place) (stands : StandsBehind before place) where
  abbrev earlier : List Place
  earlier = of_graph before place

  -- what stands in the graph stands before, here or later
  split : (numbers : Thing → List ℕ) (number : ℕ) →
      counted numbers number (graph_things place.graph) ≡ times number (numbers_at numbers earlier) + (times number (numbers place.thing) + counted numbers number stands.0)
  split numbers number =
      ap (counted numbers number) stands.1 ∙ counted_joined numbers number (things_at earlier) (place.thing ∷ stands.0)
      ∙ ap (λ (count : ℕ). count + (times number (numbers place.thing) + counted numbers number stands.0)) (sym (places_counted numbers number earlier))

  held_new : IsHeldOnce place.graph → are_new (numbers_at held_at earlier) (held_at place.thing) ≡ true
  held_new once =
      new_from (numbers_at held_at earlier) (held_at place.thing)
      (λ number. omega (arith, split held_at number, once number, private_once (containers_of place.graph) number))
      (λ number some. omega (arith, some, split held_at number, once number, private_once (containers_of place.graph) number))

  params_new : IsSingle place.graph → are_new (numbers_at params_at earlier ++ numbers_at set_at earlier) (params_at place.thing) ≡ true
  params_new single =
      new_from (numbers_at params_at earlier ++ numbers_at set_at earlier) (params_at place.thing)
      (λ number. omega (arith, split params_at number, single number))
      (λ number some. omega (arith, some, split params_at number, split set_at number, single number, times_joined number (numbers_at params_at earlier) (numbers_at set_at earlier)))

  set_apart : IsSingle place.graph → are_apart (numbers_at params_at earlier) (set_at place.thing) ≡ true
  set_apart single =
      apart_from (numbers_at params_at earlier) (set_at place.thing) (λ number some. omega (arith, some, split params_at number, split set_at number, single number))

  held_private : IsHeldOnce place.graph → HasElementAt place.graph place.thing → are_own_private (containers_of place.graph) place.thing ≡ true
  held_private once element =
      thing_private place.graph place.thing element
      (λ number some. own_private (containers_of place.graph) number (omega (arith, some, split held_at number, once number)))

  params_apart : IsApart place.graph → are_symbols_apart place.graph place.thing ≡ true
  params_apart apart = symbols_apart place.graph place.thing apart.0 (λ number below. omega (arith, split params_at number, apart.1 number below))

-- what is known of each place
abbrev IsSoundGraph : GraphTree → Type 0
IsSoundGraph tree = (IsHeldOnce tree × IsSingle tree) × IsApart tree

abbrev IsSoundAt : Place → Type 0
IsSoundAt place = IsSoundGraph place.graph × HasElementAt place.graph place.thing

abbrev IsFit : Place → Type 0
IsFit place = (are_names_in_force place ≡ true) × IsSoundAt place

rule_holds : (before : List Place) (place : Place) → IsFit place → StandsBehind before place → rule_1 before place ≡ true
rule_holds before place fit stands =
    rw (
      fit.0,
      each_held place.graph place.thing fit.1.0.0.0,
      params_apart before place stands fit.1.0.1,
      held_private before place stands fit.1.0.0.0 fit.1.1,
      held_new before place stands fit.1.0.0.0,
      params_new before place stands fit.1.0.0.1,
      set_apart before place stands fit.1.0.0.1,
    ) refl

none_fails_fit : (before places : List Place) → AllByRecursion IsFit places → AllBehind StandsBehind before places → failing rule_1 before places ≡ None
none_fails_fit before [] fit stands = refl
none_fails_fit before (place ∷ places) fit stands = rw (rule_holds before place fit.0 stands.0) (none_fails_fit (before ++ place ∷ []) places fit.1 stands.1)

-- ---- with sizes

module _ (sizes : List ℤ) where
  entries_bound : (containers : Containers) (number : ℕ) → private_at (map (bound_entry sizes) containers) number ≡ private_at containers number
  entries_bound [] number = refl
  entries_bound (entry ∷ containers) zero = refl
  entries_bound (entry ∷ containers) (suc number) = entries_bound containers number

  once_bound : (tree : GraphTree) → IsHeldOnce tree → IsHeldOnce (bound_graph sizes tree)
  once_bound (graph name containers arguments variables symbols states) once number =
      counted_bound sizes held_at (held_bound sizes) number (graph name containers arguments variables symbols states) ∙ once number ∙ sym (entries_bound containers number)

  single_bound : (tree : GraphTree) → IsSingle tree → IsSingle (bound_graph sizes tree)
  single_bound tree single number =
      omega (arith, single number, counted_bound sizes params_at (params_bound sizes) number tree, counted_bound sizes set_at (set_bound sizes) number tree)

  apart_bound : (tree : GraphTree) → IsApart tree → IsApart (bound_graph sizes tree)
  apart_bound (graph name containers arguments variables symbols states) apart =
      (apart.0, λ number below. counted_bound sizes params_at (params_bound sizes) number (graph name containers arguments variables symbols states) ∙ apart.1 number below)

  module _ (Given : source.Place → StatementTree → Type 0) (Is : List Name → FunctionTree → Type 0) where
    thing_element : (place : Place) (thing : Thing) → AtThing (IsWhole Given Is) (IsExit Given Is) (IsItem Given Is) thing place → HasElementAt (bound_graph sizes place.graph) (bound_thing sizes thing)
    thing_element place whole at = tt
    thing_element place (leaving items exits) at = tt
    thing_element place (doing kind) at = item_bound Given Is sizes place.graph place.state place.scopes kind at.1

-- ---- of a program

-- the statements of a function stand where they may, and its maps have a range for each parameter
abbrev IsSound : List Name → FunctionTree → Type 0
IsSound symbols function = (above : List FunctionTree) × (EveryOfFunction IsPlaced above function × EveryOf HasFewParameters function)

all_sound : (symbols : List Name) (functions : List FunctionTree) → EveryFunction IsPlaced functions → AllByRecursion (EveryOf HasFewParameters) functions → AllByRecursion (IsSound symbols) functions
all_sound symbols [] placed few = tt
all_sound symbols (function ∷ above) placed few = ((above, (placed.0, few.0)), all_sound symbols above placed.1 few.1)

whole_sound : (Given : source.Place → StatementTree → Type 0) (tree : GraphTree) → IsWhole Given IsSound tree → IsSoundGraph tree
whole_sound Given tree (inl none) = subst IsSoundGraph (sym none) ((λ number. refl, λ number. omega arith), (omega arith, λ number below. refl))
whole_sound Given tree (inr is) =
    let few : symbols_in tree ≤ length (variables_of tree) = few_symbols Given IsSound tree (inr is) in
    subst IsSoundGraph (sym is.made) (
      (function_held is.symbols is.graphs is.is.0 is.function is.is.1.0, function_single is.symbols is.graphs is.function is.is.1.1),
      (subst (λ tree. symbols_in tree ≤ length (variables_of tree)) is.made few, function_free is.symbols is.graphs is.function is.is.1.1),
    )

places_sound : (sizes : List ℤ) (tree : GraphTree) → IsTold Fitting IsSound (λ place statement fits. fits) tree → AllByRecursion IsSoundAt (all_places (bound_graph sizes tree))
places_sound sizes tree told =
    subst (AllByRecursion IsSoundAt) (sym (graph_bound sizes tree [] 0))
    (all_mapped (bound_place sizes) (AtPlace (IsWhole Fitting IsSound) (IsExit Fitting IsSound) (IsItem Fitting IsSound)) IsSoundAt
    (λ place at. (
    let whole_is : IsSoundGraph place.graph = whole_sound Fitting place.graph at.0 in
    (((once_bound sizes place.graph whole_is.0.0, single_bound sizes place.graph whole_is.0.1), apart_bound sizes place.graph whole_is.1), thing_element sizes Fitting IsSound place place.thing at.1)
    ))
    (places_of tree [] 0) (graph_places _ _ _ tree [] 0 told))

program_sound : (source : ProgramTree) (named : NamedSizes) (bound : GraphTree) → IsWellFormed source → binding (graph_of source) named ≡ Ok bound → AllByRecursion IsSoundAt (all_places bound)
program_sound source named bound well is =
    let sound = all_sound source.symbols (reverse source.functions) well.placed (all_reversed (EveryOf HasFewParameters) source.functions well.parameters) in
    subst (λ bound. AllByRecursion IsSoundAt (all_places bound)) (bound_is (graph_of source) bound named is)
    (places_sound (sizes_in named (graph_of source)) (graph_of source) (program_told Fitting IsSound (λ place statement fits. fits) source sound (fitting source well)))

pub names_hold : (source : ProgramTree) (named : NamedSizes) (bound : GraphTree) → IsWellFormed source → binding (graph_of source) named ≡ Ok bound → Holds rule_1 bound
names_hold source named bound well is =
    none_fails_fit [] (all_places bound)
    (all_both (λ place. are_names_in_force place ≡ true) IsSoundAt (all_places bound) (names_bound source named bound well is) (program_sound source named bound well is))
    (places_walked bound)
