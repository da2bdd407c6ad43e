-- With sizes in the place of size symbols each naming names lower variables alone, where it names no others beside the symbols.
use Rattle.std.proofs.Common.{◌≡◌, ℕ, suc, ◌<◌, ℤ, List, [], ◌∷◌, ◌++◌, map, length, true, refl, ap, sym, subst}
use Rattle.std.specs.List.{AllByRecursion}
use Rattle.sd_range.specs.declared.affine.Affine.{Affine}
use Rattle.sd_graph.specs.PlainTree.{ExitTree, StateTrees, no_state, and_state, GraphTree, graph}
use Rattle.sd_graph.specs.TreeParts.{states_of_graph}
use Rattle.sd_valid.specs.BoundExpression.{bound_assignment}
use Rattle.sd_valid.specs.BoundTree.{bound_exit, bound_items, bound_states, bound_graph}
use Rattle.sd_validity.specs.rules.Ranks.{Naming, begin_namings, set_to, begun_at, end_namings, item_namings, namings_from, namings, is_ranked, ranks_of}
use Rattle.sd_validity.specs.levels.Levels.{IsLowerBesideSizes, AreEndsPlaced}
use Rattle.sd_validity.proofs.levels_lemmas.Lower.{graph_ranked}
use Rattle.sd_validity.proofs.levels_lemmas.Named.{joined, in_first, in_second, Before, After, items_lower, begins_lower}
use Rattle.sd_validity.proofs.levels_lemmas.Ends.{ends_lower}

-- ---- variables that are given their begins

module _ (sizes : List ℤ) where
  names_bound : (set : List (ℕ × Affine)) → map (λ assignment. assignment.0) (map (bound_assignment sizes) set) ≡ map (λ assignment. assignment.0) set
  names_bound [] = refl
  names_bound (assignment ∷ set) = ap (λ names. assignment.0 ∷ names) (names_bound set)

  set_bound : (state : ℕ) (exits : List ExitTree) → set_to state (map (bound_exit sizes) exits) ≡ set_to state exits
  set_bound state [] = refl
  set_bound state (exit ∷ exits) = rw (names_bound exit.set, set_bound state exits) refl

  begun_bound : (states : StateTrees) (state : ℕ) → begun_at (bound_states sizes states) state ≡ begun_at states state
  begun_bound no_state state = refl
  begun_bound (and_state items exits states) state = rw (set_bound state exits, begun_bound states state) refl

-- ---- a whole graph

module _ (sizes : List ℤ) (level : ℕ → ℕ) where
  states_lower : (all : StateTrees) (state : ℕ) (states : StateTrees) → AreEndsPlaced states → AllByRecursion (Before sizes level) (namings_from all state states) →
      AllByRecursion (After sizes level) (namings_from (bound_states sizes all) state (bound_states sizes states))
  states_lower all state no_state there before = tt
  states_lower all state (and_state items exits states) there before =
      let begun : List ℕ = begun_at all state in
      let first : List Naming = begin_namings exits ++ end_namings begun exits in
      let rest : List Naming = item_namings items ++ namings_from all (suc state) states in
      let leaving : AllByRecursion (Before sizes level) first = in_first (Before sizes level) first rest before in
      let others : AllByRecursion (Before sizes level) rest = in_second (Before sizes level) first rest before in
      let bound_exits : List ExitTree = map (bound_exit sizes) exits in
      joined (After sizes level) (begin_namings bound_exits ++ end_namings (begun_at (bound_states sizes all) state) bound_exits) (item_namings (bound_items sizes items) ++ namings_from (bound_states sizes all) (suc state) (bound_states sizes states))
      (joined (After sizes level) (begin_namings bound_exits) (end_namings (begun_at (bound_states sizes all) state) bound_exits) (begins_lower sizes level exits (in_first (Before sizes level) (begin_namings exits) (end_namings begun exits) leaving))
      (subst (λ begun. AllByRecursion (After sizes level) (end_namings begun bound_exits)) (sym (begun_bound sizes all state))
      (ends_lower sizes level begun exits there.0 (in_second (Before sizes level) (begin_namings exits) (end_namings begun exits) leaving))))
      (joined (After sizes level) (item_namings (bound_items sizes items)) (namings_from (bound_states sizes all) (suc state) (bound_states sizes states))
      (items_lower sizes level items (in_first (Before sizes level) (item_namings items) (namings_from all (suc state) states) others))
      (states_lower all (suc state) states there.1 (in_second (Before sizes level) (item_namings items) (namings_from all (suc state) states) others)))

pub bound_ranked : (sizes : List ℤ) (tree : GraphTree) (level : ℕ → ℕ) → AreEndsPlaced (states_of_graph tree) → AllByRecursion (IsLowerBesideSizes (length sizes) level) (namings (states_of_graph tree)) →
    (number : ℕ) → level number < 7 → is_ranked (ranks_of (bound_graph sizes tree)) number ≡ true
bound_ranked sizes (graph name containers arguments variables symbols states) level there lower =
    graph_ranked (bound_graph sizes (graph name containers arguments variables symbols states)) level (states_lower sizes level states 0 states there lower)
