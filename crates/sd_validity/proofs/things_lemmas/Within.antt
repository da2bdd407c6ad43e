-- The paths of the graphs of places: a place among items is of the graph about them, or of one nested in them.
use Rattle.std.proofs.Common.{◌≡◌, ◌∙◌, ◌⊎◌, inl, inr, ℕ, suc, ◌≤◌, List, [], ◌∷◌, ◌++◌, refl, sym, arith, append_assoc, append-nil}
use Rattle.std.specs.List.{AllByRecursion}
use Rattle.sd_graph.specs.PlainTree.{KindTree, task, map_scope, consume_scope, nested_graph, reduction, copy, ItemTrees, no_item, and_item, StateTrees, no_state, and_state, GraphTree, graph, ExitTree}
use Rattle.sd_validity.specs.rules.Places.{Place, Scopes, no_scopes, in_map, in_consume, item_place, state_place, graph_place, places_in, item_places, state_places, places_of}
use Rattle.sd_validity.proofs.paths_lemmas.Found.{all_joined, all_so}

-- of a graph whose path begins with this one
abbrev pub IsUnder : (path : List ℕ) → Place → Type 0
IsUnder path place = (rest : List ℕ) × (place.graph_path ≡ path ++ rest)

-- and goes on with this number or a later one
abbrev pub IsFrom : (path : List ℕ) → (number : ℕ) → Place → Type 0
IsFrom path number place = (next : ℕ) × ((rest : List ℕ) × ((number ≤ next) × (place.graph_path ≡ path ++ next ∷ rest)))

-- of the graph about an item or nested in it
abbrev pub IsInItem : Place → Place → Type 0
IsInItem around place = (place.graph_path ≡ around.graph_path) ⊎ IsUnder around.path place

-- of the graph about the items from this number on or nested in one of them
abbrev pub IsInItems : Place → (number : ℕ) → Place → Type 0
IsInItems around number place = (place.graph_path ≡ around.graph_path) ⊎ IsFrom around.path number place

item_in_items : (around : Place) (scopes : Scopes) (number : ℕ) (kind : KindTree) (place : Place) → IsInItem (item_place around scopes number kind) place → IsInItems around number place
item_in_items around scopes number kind place (inl same) = inl same
item_in_items around scopes number kind place (inr (rest, e)) = inr (number, (rest, (omega arith, e ∙ append_assoc around.path (number ∷ []) rest)))

later_in_items : (around : Place) (number : ℕ) (place : Place) → IsInItems around (suc number) place → IsInItems around number place
later_in_items around number place (inl same) = inl same
later_in_items around number place (inr (next, (rest, (least, e)))) = inr (next, (rest, (omega (arith, least), e)))

body_in_item : (around : Place) (place : Place) → IsInItems around 0 place → IsInItem around place
body_in_item around place (inl same) = inl same
body_in_item around place (inr (next, (rest, (least, e)))) = inr (next ∷ rest, e)

items_in_state : (around : Place) (number : ℕ) (items : ItemTrees) (exits : List ExitTree) (place : Place) → IsInItems (state_place around number items exits) 0 place → IsInItems around number place
items_in_state around number items exits place (inl same) = inl same
items_in_state around number items exits place (inr (next, (rest, (least, e)))) = inr (number, (next ∷ rest, (omega arith, e ∙ append_assoc around.path (number ∷ []) (next ∷ rest))))

states_in_graph : (around : Place) (place : Place) → around.graph_path ≡ around.path → IsInItems around 0 place → IsUnder around.path place
states_in_graph around place same (inl e) = ([], e ∙ same ∙ sym (append-nil around.path))
states_in_graph around place same (inr (next, (rest, (least, e)))) = (next ∷ rest, e)

mutual
  pub kind_within : (kind : KindTree) (place : Place) → AllByRecursion (IsInItem place) (places_in kind place)
  kind_within (task code ins outs) place = tt
  kind_within (map_scope sequential params private body) place =
      all_so (IsInItems place 0) (IsInItem place) (body_in_item place) (item_places body place (in_map place.scopes params private) 0) (items_within body place (in_map place.scopes params private) 0)
  kind_within (consume_scope stream element private body) place =
      all_so (IsInItems place 0) (IsInItem place) (body_in_item place) (item_places body place (in_consume place.scopes element private) 0) (items_within body place (in_consume place.scopes element private) 0)
  kind_within (nested_graph inner links) place =
      all_so (IsUnder place.path) (IsInItem place) (λ other under. inr under) (places_of inner place.path (suc place.depth)) (graph_within inner place.path (suc place.depth))
  kind_within (reduction resolution axis identity from to) place = tt
  kind_within (copy from to) place = tt

  pub items_within : (items : ItemTrees) (around : Place) (scopes : Scopes) (number : ℕ) → AllByRecursion (IsInItems around number) (item_places items around scopes number)
  items_within no_item around scopes number = tt
  items_within (and_item line kind items) around scopes number =
      let place = item_place around scopes number kind in (
        inl refl,
        all_joined (IsInItems around number) (places_in kind place) (item_places items around scopes (suc number))
            (all_so (IsInItem place) (IsInItems around number) (item_in_items around scopes number kind) (places_in kind place) (kind_within kind place))
            (all_so (IsInItems around (suc number)) (IsInItems around number) (later_in_items around number) (item_places items around scopes (suc number)) (items_within items around scopes (suc number))),
      )

  states_within : (states : StateTrees) (around : Place) (number : ℕ) → AllByRecursion (IsInItems around number) (state_places states around number)
  states_within no_state around number = tt
  states_within (and_state items exits states) around number =
      let place = state_place around number items exits in (
        inl refl,
        all_joined (IsInItems around number) (item_places items place no_scopes 0) (state_places states around (suc number))
            (all_so (IsInItems place 0) (IsInItems around number) (items_in_state around number items exits) (item_places items place no_scopes 0) (items_within items place no_scopes 0))
            (all_so (IsInItems around (suc number)) (IsInItems around number) (later_in_items around number) (state_places states around (suc number)) (states_within states around (suc number))),
      )

  pub graph_within : (tree : GraphTree) (path : List ℕ) (depth : ℕ) → AllByRecursion (IsUnder path) (places_of tree path depth)
  graph_within (graph name containers arguments variables symbols states) path depth =
      let around : Place = graph_place (graph name containers arguments variables symbols states) path depth in (
        ([], sym (append-nil path)),
        all_so (IsInItems around 0) (IsUnder path) (λ place. states_in_graph around place refl) (state_places states around 0) (states_within states around 0),
      )
