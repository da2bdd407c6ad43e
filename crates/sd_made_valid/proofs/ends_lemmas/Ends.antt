-- In the bound graph of a program the ends of loops are small.
use Rattle.std.proofs.Common.{◌≡◌, ◌∙◌, inl, inr, ℕ, ℤ, List, [], ◌∷◌, map, Option, Some, None, Ok, Bool, true, false, ◌||◌, refl, ap, sym, subst}
use Rattle.std.specs.List.{AllByRecursion, list_all}
use Rattle.sd_lex.specs.PlainTree.{Expression, named, two, StatementTree, ProgramTree}
use Rattle.sd_lex.specs.declared.syntax.operator.TwoSign.TheVariants.{Less}
use Rattle.sd_range.specs.declared.affine.Affine.{Affine}
use Rattle.sd_graph.specs.PlainTree.{ValueTree, GuardTree, ExitTree, StateTrees, no_state, and_state, GraphTree, graph}
use Rattle.sd_graph.specs.TreeParts.{states_of_graph}
use Rattle.sd_program.specs.Bounds.{EachBound}
use Rattle.sd_program.specs.IsAffine.{IsAffine}
use Rattle.sd_program.specs.Names.{Name, in_force}
use Rattle.sd_program.specs.Place.{Place, EveryPlace}
use Rattle.sd_program.specs.Small.{IsSmall}
use Rattle.sd_program.specs.WellFormed.{IsWellFormed}
use Rattle.sd_task.specs.task.Table.{Table}
use Rattle.sd_task.specs.task.ElementCode.{used_with, code_of, below}
use Rattle.sd_task.specs.task.UsedVariables.{variable_value}
use Rattle.sd_elab.specs.elab.Elaboration.{graph_of}
use Rattle.sd_made.proofs.names_lemmas.UsedPlaces.{AllUsed, all_used}
use Rattle.sd_valid.specs.BoundCode.{bound_value}
use Rattle.sd_valid.specs.BoundExpression.{bound_assignment}
use Rattle.sd_valid.specs.BoundTree.{bound_guard, bound_exit, bound_states, bound_graph}
use Rattle.sd_valid.specs.SizeValues.{NamedSizes, sizes_in}
use Rattle.sd_valid.specs.Binding.{binding}
use Rattle.sd_validity.specs.rules.Compared.{Comparison, place_of_variable, comparison_at, compared}
use Rattle.sd_validity.specs.rules.Ranks.{set_to, begun_at}
use Rattle.sd_validity.specs.rules.Places.{Thing, whole, leaving, doing, Place as GraphPlace, all_places, places_of}
use Rattle.sd_validity.specs.rules.WithinLimits.{is_value_small, is_end_small, is_condition_small}
use Rattle.sd_validity.specs.bound_places.BoundPlace.{bound_thing, bound_place}
use Rattle.sd_validity.proofs.bound_places_lemmas.EachPlace.{AtThing, AtPlace, graph_places}
use Rattle.sd_validity.proofs.bound_places_lemmas.Asked.{all_mapped}
use Rattle.sd_validity.proofs.bound_places_lemmas.BoundPlaces.{graph_bound}
use Rattle.sd_made.proofs.places_lemmas.Givens.{everywhere_at, both_places}
use Rattle.sd_made.proofs.places_lemmas.Bound.{bound_is}
use Rattle.sd_made.proofs.limits_lemmas.Near.{AreSizes, are_sizes}
use Rattle.sd_made.proofs.depths_lemmas.Made.{IsExit}
use Rattle.sd_made.proofs.depths_lemmas.Told.{Whole, Leaving, Doing, IsTold, program_told}
use Rattle.sd_made_valid.specs.ends.Ends.{are_ends_small}
use Rattle.sd_made_valid.proofs.ends_lemmas.Values.{each_small}

-- ---- what is given of each statement

abbrev IsFine : Place → StatementTree → Type 0
IsFine place statement = EachBound IsAffine statement × EachBound IsSmall statement

-- ---- variables that are given their begins, with sizes

module _ (sizes : List ℤ) where
  names_bound : (set : List (ℕ × Affine)) → map (λ assignment. assignment.0) (map (bound_assignment sizes) set) ≡ map (λ assignment. assignment.0) set
  names_bound [] = refl
  names_bound (assignment ∷ set) = ap (λ names. assignment.0 ∷ names) (names_bound set)

  set_bound : (state : ℕ) (exits : List ExitTree) → set_to state (map (bound_exit sizes) exits) ≡ set_to state exits
  set_bound state [] = refl
  set_bound state (exit ∷ exits) = rw (names_bound exit.set, set_bound state exits) refl

  begun_bound : (states : StateTrees) (state : ℕ) → begun_at (bound_states sizes states) state ≡ begun_at states state
  begun_bound no_state state = refl
  begun_bound (and_state items exits states) state = rw (set_bound state exits, begun_bound states state) refl

  graph_begun : (tree : GraphTree) (state : ℕ) → begun_at (states_of_graph (bound_graph sizes tree)) state ≡ begun_at (states_of_graph tree) state
  graph_begun (graph name containers arguments variables symbols states) state = begun_bound states state

-- ---- conditions

second_true : (first : Bool) → (first || true) ≡ true
second_true true = refl
second_true false = refl

end_at : (begun variables : List ℕ) (found : Option ℕ) (bound : ValueTree) → is_value_small variables bound ≡ true → is_end_small begun variables (comparison_at found bound) ≡ true
end_at begun variables None bound small = refl
end_at begun variables (Some place) bound small = rw small (second_true _)

end_none : (variables : List ℕ) (comparison : Option Comparison) → is_end_small [] variables comparison ≡ true
end_none variables None = refl
end_none variables (Some comparison) = refl

condition_none : (when : Option GuardTree) → is_condition_small [] when ≡ true
condition_none None = refl
condition_none (Some guard) = end_none guard.code.variables (compared guard.code.body)

module _ (sizes : List ℤ) (are : AreSizes sizes) where
  abbrev IsPassed : (begun : List ℕ) → ExitTree → Type 0
  IsPassed begun exit = is_condition_small begun (bound_exit sizes exit).when ≡ true

  going_small : (begun : List ℕ) (table : Table) (line : ℕ) (name : Name) (end : Expression) → IsAffine end → IsSmall end → is_condition_small begun (Some (bound_guard sizes (below table line name end))) ≡ true
  going_small begun table line name end affine small =
      let compares : Expression = two Less (named name) end in
      let used : List ℕ = used_with table.variables [] compares in
      let there : AllUsed table.variables used compares = all_used table.variables compares in
      end_at begun used (place_of_variable (bound_value sizes used (variable_value used (in_force table.variables name)))) (bound_value sizes used (code_of table.variables used 0 end))
      (each_small sizes table.variables used are 0 end affine there.1 small)

  exit_passed : (begun : List ℕ) (exit : ExitTree) → IsExit IsFine begun exit → IsPassed begun exit
  exit_passed begun exit (inl none) = rw none refl
  exit_passed begun exit (inr (inl (is, none))) = subst (λ begun. IsPassed begun exit) (sym none) (condition_none (bound_exit sizes exit).when)
  exit_passed begun exit (inr (inr is)) = subst (IsPassed begun) (sym is.made) (going_small begun is.table is.line is.name is.end is.given.0.0.1 is.given.0.1.1)

  exits_passed : (begun : List ℕ) (exits : List ExitTree) → AllByRecursion (IsExit IsFine begun) exits → list_all (λ exit. is_condition_small begun exit.when) (map (bound_exit sizes) exits) ≡ true
  exits_passed begun [] all = refl
  exits_passed begun (exit ∷ exits) all = rw (exit_passed begun exit all.0) (exits_passed begun exits all.1)

  -- ---- at each place

  abbrev AreSmall : GraphPlace → Type 0
  AreSmall place = are_ends_small place place.thing ≡ true

  thing_small : (place : GraphPlace) (thing : Thing) → AtThing (Whole IsFine) (Leaving IsFine) (Doing IsFine) thing place → are_ends_small (bound_place sizes place) (bound_thing sizes thing) ≡ true
  thing_small place whole is = refl
  thing_small place (leaving items exits) is =
      ap (λ begun. list_all (λ exit. is_condition_small begun exit.when) (map (bound_exit sizes) exits)) (graph_begun sizes place.graph place.state)
      ∙ exits_passed (begun_at (states_of_graph place.graph) place.state) exits is.1
  thing_small place (doing kind) is = refl

  all_small : (tree : GraphTree) → IsTold IsFine tree → AllByRecursion AreSmall (all_places (bound_graph sizes tree))
  all_small tree told =
      subst (AllByRecursion AreSmall) (sym (graph_bound sizes tree [] 0))
      (all_mapped (bound_place sizes) (AtPlace (Whole IsFine) (Leaving IsFine) (Doing IsFine)) AreSmall (λ place is. thing_small place place.thing is.1) (places_of tree [] 0)
      (graph_places (Whole IsFine) (Leaving IsFine) (Doing IsFine) tree [] 0 told))

fine_places : (source : ProgramTree) → IsWellFormed source → EveryPlace IsFine source
fine_places source well =
    both_places (λ place. EachBound IsAffine) (λ place. EachBound IsSmall) IsFine (λ place statement affine small. (affine, small)) source (everywhere_at (EachBound IsAffine) source well.affine)
    (everywhere_at (EachBound IsSmall) source well.small)

pub ends_small : (source : ProgramTree) (known : NamedSizes) (bound : GraphTree) → IsWellFormed source → binding (graph_of source) known ≡ Ok bound →
    AllByRecursion (λ place. are_ends_small place place.thing ≡ true) (all_places bound)
ends_small source known bound well is =
    subst (λ bound. AllByRecursion (λ place. are_ends_small place place.thing ≡ true) (all_places bound)) (bound_is (graph_of source) bound known is)
    (all_small (sizes_in known (graph_of source)) (are_sizes (graph_of source) bound known is) (graph_of source) (program_told IsFine source (fine_places source well)))
