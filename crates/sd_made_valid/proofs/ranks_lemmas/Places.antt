-- Where each graph has levels, the variables of its maps and loops have ranks with sizes.
use Rattle.std.proofs.Common.{◌≡◌, ◌∙◌, ℕ, suc, ◌<◌, ℤ, List, [], ◌∷◌, map, length, Bool, true, refl, ap, sym, subst}
use Rattle.std.specs.List.{AllByRecursion, list_all}
use Rattle.sd_range.specs.declared.affine.Affine.{Affine}
use Rattle.sd_range.specs.declared.range.Range.{Range}
use Rattle.sd_graph.specs.PlainTree as plain
use Rattle.sd_graph.specs.PlainTree.{KindTree, ItemTrees, no_item, and_item, StateTrees, no_state, and_state, GraphTree, graph, ExitTree}
use Rattle.sd_graph.specs.TreeParts.{states_of_graph}
use Rattle.sd_made.specs.elab.Throughout.{KindThroughout, ItemsThroughout, StatesThroughout, Throughout}
use Rattle.sd_valid.specs.BoundExpression.{bound_assignment, bound_param}
use Rattle.sd_valid.specs.BoundTree.{bound_exit, bound_kind, bound_states, bound_graph}
use Rattle.sd_validity.specs.rules.Ranks.{set_to, begun_at, is_ranked, ranks_of}
use Rattle.sd_validity.specs.rules.Places.{Place, Scopes, no_scopes, in_map, in_consume, param_numbers, item_place, state_place, graph_place, places_in, item_places, state_places, places_of, all_places}
use Rattle.sd_validity.specs.bound_places.BoundPlace.{bound_thing, bound_place}
use Rattle.sd_validity.proofs.bound_places_lemmas.Asked.{all_mapped}
use Rattle.sd_validity.proofs.bound_places_lemmas.BoundPlaces.{graph_bound}
use Rattle.sd_validity.proofs.bound_places_lemmas.EachPlace.{all_joined}
use Rattle.sd_validity.proofs.levels_lemmas.Bound.{bound_ranked}
use Rattle.sd_made_valid.specs.ranks.Ranks.{has_ranked_parameters, are_variables_ranked}
use Rattle.sd_made_valid.proofs.ranks_lemmas.Items.{IsRightParam, KindRight, ItemsRight}
use Rattle.sd_made_valid.proofs.ranks_lemmas.Namings.{AllItemsRight, HasLevels}

module _ (sizes : List ℤ) where
  -- ---- variables that are given their begins, with sizes

  names_bound : (set : List (ℕ × Affine)) → map (λ assignment. assignment.0) (map (bound_assignment sizes) set) ≡ map (λ assignment. assignment.0) set
  names_bound [] = refl
  names_bound (assignment ∷ set) = ap (λ names. assignment.0 ∷ names) (names_bound set)

  set_bound : (state : ℕ) (exits : List ExitTree) → set_to state (map (bound_exit sizes) exits) ≡ set_to state exits
  set_bound state [] = refl
  set_bound state (exit ∷ exits) = rw (names_bound exit.set, set_bound state exits) refl

  begun_bound : (states : StateTrees) (state : ℕ) → begun_at (bound_states sizes states) state ≡ begun_at states state
  begun_bound no_state state = refl
  begun_bound (and_state items exits states) state = rw (set_bound state exits, begun_bound states state) refl

  graph_begun : (tree : GraphTree) (state : ℕ) → begun_at (states_of_graph (bound_graph sizes tree)) state ≡ begun_at (states_of_graph tree) state
  graph_begun (graph name containers arguments variables symbols states) state = begun_bound states state

  -- ---- ranks

  abbrev Ranks : GraphTree → List Bool
  Ranks tree = ranks_of (bound_graph sizes tree)

  -- a graph whose variables of levels below seven have ranks
  abbrev RanksLow : GraphTree → (level : ℕ → ℕ) → Type 0
  RanksLow tree level = (number : ℕ) → level number < 7 → is_ranked (Ranks tree) number ≡ true

  all_ranked : (ranks : List Bool) (level : ℕ → ℕ) → ((number : ℕ) → level number < 7 → is_ranked ranks number ≡ true) → (variables : List ℕ) → AllByRecursion (λ variable. level variable < 7) variables →
      list_all (is_ranked ranks) variables ≡ true
  all_ranked ranks level so [] low = refl
  all_ranked ranks level so (variable ∷ variables) low = rw (so variable low.0) (all_ranked ranks level so variables low.1)

  params_ranked : (ranks : List Bool) (level : ℕ → ℕ) → ((number : ℕ) → level number < 7 → is_ranked ranks number ≡ true) → (params : List (ℕ × Range)) → AllByRecursion (IsRightParam (length sizes) level) params →
      list_all (is_ranked ranks) (param_numbers (map (bound_param sizes) params)) ≡ true
  params_ranked ranks level so [] right = refl
  params_ranked ranks level so (param ∷ params) right = rw (so param.0 right.0.0) (params_ranked ranks level so params right.1)

  kind_parameters : (ranks : List Bool) (level : ℕ → ℕ) → ((number : ℕ) → level number < 7 → is_ranked ranks number ≡ true) → (kind : KindTree) → KindRight (length sizes) level kind →
      has_ranked_parameters ranks (bound_kind sizes kind) ≡ true
  kind_parameters ranks level so (plain.task code ins outs) right = refl
  kind_parameters ranks level so (plain.map_scope sequential params private body) right = params_ranked ranks level so params right.0
  kind_parameters ranks level so (plain.consume_scope stream element private body) right = refl
  kind_parameters ranks level so (plain.nested_graph inner links) right = refl
  kind_parameters ranks level so (plain.reduction resolution axis identity from to) right = refl
  kind_parameters ranks level so (plain.copy from to) right = refl

  -- ---- at each place

  abbrev At : Place → Type 0
  At place = are_variables_ranked (bound_place sizes place) (bound_thing sizes place.thing) ≡ true

  abbrev Has : StateTrees → Type 0
  Has states = HasLevels (length sizes) states

  mutual
    kind_ranked : (kind : KindTree) (place : Place) (level : ℕ → ℕ) → RanksLow place.graph level → KindRight (length sizes) level kind → KindThroughout Has kind → AllByRecursion At (places_in kind place)
    kind_ranked (plain.task code ins outs) place level so right through = tt
    kind_ranked (plain.map_scope sequential params private body) place level so right through = items_ranked body place (in_map place.scopes params private) 0 level so right.1 through
    kind_ranked (plain.consume_scope stream element private body) place level so right through = items_ranked body place (in_consume place.scopes element private) 0 level so right through
    kind_ranked (plain.nested_graph inner links) place level so right through = graph_ranked inner place.path (suc place.depth) through
    kind_ranked (plain.reduction resolution axis identity from to) place level so right through = tt
    kind_ranked (plain.copy from to) place level so right through = tt

    items_ranked : (items : ItemTrees) (around : Place) (scopes : Scopes) (number : ℕ) (level : ℕ → ℕ) → RanksLow around.graph level → ItemsRight (length sizes) level items → ItemsThroughout Has items →
        AllByRecursion At (item_places items around scopes number)
    items_ranked no_item around scopes number level so right through = tt
    items_ranked (and_item line kind items) around scopes number level so right through =
        let place = item_place around scopes number kind in (
          kind_parameters (Ranks around.graph) level so kind right.0,
          all_joined At (places_in kind place) (item_places items around scopes (suc number)) (kind_ranked kind place level so right.0 through.0)
              (items_ranked items around scopes (suc number) level so right.1 through.1),
        )

    states_ranked : (states : StateTrees) (around : Place) (number : ℕ) (level : ℕ → ℕ) → RanksLow around.graph level →
        ((state : ℕ) → AllByRecursion (λ variable. level variable < 7) (begun_at (states_of_graph around.graph) state)) → AllItemsRight (length sizes) level states → StatesThroughout Has states →
        AllByRecursion At (state_places states around number)
    states_ranked no_state around number level so begun right through = tt
    states_ranked (and_state items exits states) around number level so begun right through =
        let place = state_place around number items exits in (
          ap (list_all (is_ranked (Ranks around.graph))) (graph_begun around.graph number) ∙ all_ranked (Ranks around.graph) level so (begun_at (states_of_graph around.graph) number) (begun number),
          all_joined At (item_places items place no_scopes 0) (state_places states around (suc number)) (items_ranked items place no_scopes 0 level so right.0 through.0)
              (states_ranked states around (suc number) level so begun right.1 through.1),
        )

    graph_ranked : (tree : GraphTree) (path : List ℕ) (depth : ℕ) → Throughout Has tree → AllByRecursion At (places_of tree path depth)
    graph_ranked (graph name containers arguments variables symbols states) path depth through =
        let tree : GraphTree = graph name containers arguments variables symbols states in
        let has : Has states = through.0 in
        let so : RanksLow tree has.level = bound_ranked sizes tree has.level has.placed has.lower in
        (refl, states_ranked states (graph_place tree path depth) 0 has.level so has.begun has.items through.1)

  pub all_ranked_at : (tree : GraphTree) → Throughout Has tree → AllByRecursion (λ place. are_variables_ranked place place.thing ≡ true) (all_places (bound_graph sizes tree))
  all_ranked_at tree through =
      subst (AllByRecursion (λ place. are_variables_ranked place place.thing ≡ true)) (sym (graph_bound sizes tree [] 0))
      (all_mapped (bound_place sizes) At (λ place. are_variables_ranked place place.thing ≡ true) (λ place is. is) (places_of tree [] 0) (graph_ranked tree [] 0 through))
