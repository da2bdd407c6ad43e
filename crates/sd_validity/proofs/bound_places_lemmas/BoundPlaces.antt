-- The places of a bound graph are those of the graph, one for one.
use Rattle.std.proofs.Common.{◌≡◌, ◌∙◌, ℕ, suc, ℤ, List, [], ◌∷◌, ◌++◌, map, refl, ap, sym}
use Rattle.std.proofs.lemmas.List.{map-append}
use Rattle.sd_range.specs.declared.range.Range.{Range}
use Rattle.sd_graph.specs.PlainTree.{KindTree, task, map_scope, consume_scope, nested_graph, reduction, copy, ItemTrees, no_item, and_item, StateTrees, no_state, and_state, GraphTree, graph, ExitTree}
use Rattle.sd_valid.specs.BoundExpression.{bound_param}
use Rattle.sd_valid.specs.BoundTree.{bound_exit, bound_kind, bound_items, bound_states, bound_graph}
use Rattle.sd_validity.specs.rules.Places.{Place, Scopes, no_scopes, in_map, in_consume, param_numbers, item_place, state_place, graph_place, places_in, item_places, state_places, places_of}
use Rattle.sd_validity.specs.bound_places.BoundPlace.{bound_place}
use Rattle.sd_validity.proofs.bound_places_lemmas.LoopsAbout.{about_same, at_same}

params_same : (sizes : List ℤ) (params : List (ℕ × Range)) → param_numbers (map (bound_param sizes) params) ≡ param_numbers params
params_same sizes [] = refl
params_same sizes (param ∷ params) = ap (λ (numbers : List ℕ). param.0 ∷ numbers) (params_same sizes params)

in_map_same : (sizes : List ℤ) (scopes : Scopes) (params : List (ℕ × Range)) (private : List ℕ) → in_map scopes (map (bound_param sizes) params) private ≡ in_map scopes params private
in_map_same sizes scopes params private i = record (in_map scopes params private) { params = params_same sizes params i ++ scopes.params }

state_same : (sizes : List ℤ) (around : Place) (number : ℕ) (items : ItemTrees) (exits : List ExitTree) →
    state_place (bound_place sizes around) number (bound_items sizes items) (map (bound_exit sizes) exits) ≡ bound_place sizes (state_place around number items exits)
state_same sizes around number items exits i =
    record (bound_place sizes (state_place around number items exits)) { loops = at_same sizes around.graph number i; loop_count = about_same sizes around.graph number i }

mutual
  kind_bound : (sizes : List ℤ) (kind : KindTree) (place : Place) → places_in (bound_kind sizes kind) (bound_place sizes place) ≡ map (bound_place sizes) (places_in kind place)
  kind_bound sizes (task code ins outs) place = refl
  kind_bound sizes (map_scope sequential params private body) place =
      ap (λ scopes. item_places (bound_items sizes body) (bound_place sizes place) scopes 0) (in_map_same sizes place.scopes params private)
      ∙ items_bound sizes body place (in_map place.scopes params private) 0
  kind_bound sizes (consume_scope stream element private body) place = items_bound sizes body place (in_consume place.scopes element private) 0
  kind_bound sizes (nested_graph inner links) place = graph_bound sizes inner place.path (suc place.depth)
  kind_bound sizes (reduction resolution axis identity from to) place = refl
  kind_bound sizes (copy from to) place = refl

  items_bound : (sizes : List ℤ) (items : ItemTrees) (around : Place) (scopes : Scopes) (number : ℕ) →
      item_places (bound_items sizes items) (bound_place sizes around) scopes number ≡ map (bound_place sizes) (item_places items around scopes number)
  items_bound sizes no_item around scopes number = refl
  items_bound sizes (and_item line kind items) around scopes number =
      let place = item_place around scopes number kind in
      ap (λ rest. bound_place sizes place ∷ rest)
      ((λ i. kind_bound sizes kind place i ++ items_bound sizes items around scopes (suc number) i)
      ∙ sym (map-append (bound_place sizes) (places_in kind place) (item_places items around scopes (suc number))))

  states_bound : (sizes : List ℤ) (states : StateTrees) (around : Place) (number : ℕ) →
      state_places (bound_states sizes states) (bound_place sizes around) number ≡ map (bound_place sizes) (state_places states around number)
  states_bound sizes no_state around number = refl
  states_bound sizes (and_state items exits states) around number =
      let place = state_place around number items exits in
      (λ i. state_same sizes around number items exits i ∷ (item_places (bound_items sizes items) (state_same sizes around number items exits i) no_scopes 0 ++ states_bound sizes states around (suc number) i))
      ∙ ap (λ rest. bound_place sizes place ∷ (rest ++ map (bound_place sizes) (state_places states around (suc number)))) (items_bound sizes items place no_scopes 0)
      ∙ ap (λ rest. bound_place sizes place ∷ rest) (sym (map-append (bound_place sizes) (item_places items place no_scopes 0) (state_places states around (suc number))))

  pub graph_bound : (sizes : List ℤ) (tree : GraphTree) (path : List ℕ) (depth : ℕ) → places_of (bound_graph sizes tree) path depth ≡ map (bound_place sizes) (places_of tree path depth)
  graph_bound sizes (graph name containers arguments variables symbols states) path depth =
      let place = graph_place (graph name containers arguments variables symbols states) path depth in
      ap (λ rest. bound_place sizes place ∷ rest) (states_bound sizes states place 0)
