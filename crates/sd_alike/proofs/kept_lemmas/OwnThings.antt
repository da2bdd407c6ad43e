-- What stands at those places of a list that are of one graph.
use Rattle.std.proofs.Common.{◌≡◌, ◌∙◌, ℕ, suc, ◌<◌, ◌≤◌, List, [], ◌∷◌, ◌++◌, length, Bool, true, false, cond, bytes_eq, refl, ap, arith, length-append}
use Rattle.std.specs.List.{AllByRecursion, filter}
use Rattle.sd_graph.specs.PlainTree.{KindTree, task, map_scope, consume_scope, nested_graph, reduction, copy, ItemTrees, no_item, and_item, StateTrees, no_state, and_state, GraphTree, graph}
use Rattle.sd_validity.specs.rules.Places.{Thing, whole, leaving, doing, Place, Scopes, no_scopes, in_map, in_consume, further, item_place, state_place, graph_place, places_in, item_places, state_places, places_of}
use Rattle.sd_validity.specs.things.Things.{things_in, item_things, state_things, graph_things}
use Rattle.sd_validity.specs.things.Behind.{things_at}
use Rattle.sd_validity.proofs.paths_lemmas.Found.{all_so}
use Rattle.sd_validity.proofs.things_lemmas.Paths.{at_least, is_itself, is_other, shorter_is_other}
use Rattle.sd_validity.proofs.things_lemmas.Within.{IsUnder, graph_within}

-- those of the graph with this path
abbrev pub things_of : (path : List ℕ) → List Place → List Thing
things_of path places = things_at (filter (λ other. bytes_eq other.graph_path path) places)

one_joined : (same : Bool) (place : Place) (path : List ℕ) (first second : List Place) → things_of path (first ++ second) ≡ things_of path first ++ things_of path second →
    things_at (cond same (place ∷ filter (λ other. bytes_eq other.graph_path path) (first ++ second)) (filter (λ other. bytes_eq other.graph_path path) (first ++ second)))
    ≡ things_at (cond same (place ∷ filter (λ other. bytes_eq other.graph_path path) first) (filter (λ other. bytes_eq other.graph_path path) first)) ++ things_of path second
one_joined true place path first second e = ap (λ (things : List Thing). place.thing ∷ things) e
one_joined false place path first second e = e

pub things_joined : (path : List ℕ) (first second : List Place) → things_of path (first ++ second) ≡ things_of path first ++ things_of path second
things_joined path [] second = refl
things_joined path (place ∷ first) second = one_joined (bytes_eq place.graph_path path) place path first second (things_joined path first second)

-- one place, of the graph or of another
pub at_own : (path : List ℕ) (place : Place) (places : List Place) (same : Bool) → bytes_eq place.graph_path path ≡ same → things_of path (place ∷ places) ≡ cond same (place.thing ∷ things_of path places) (things_of path places)
at_own path place places same is = ap (λ same. things_at (cond same (place ∷ filter (λ other. bytes_eq other.graph_path path) places) (filter (λ other. bytes_eq other.graph_path path) places))) is ∙ cased same
  where
    cased : (same : Bool) → things_at (cond same (place ∷ filter (λ other. bytes_eq other.graph_path path) places) (filter (λ other. bytes_eq other.graph_path path) places)) ≡ cond same (place.thing ∷ things_of path places) (things_of path places)
    cased true = refl
    cased false = refl

none_of : (path : List ℕ) (places : List Place) → AllByRecursion (λ (other : Place). other.graph_path ≡ path → ⊥) places → things_of path places ≡ []
none_of path [] all = refl
none_of path (place ∷ places) all = at_own path place places false (is_other place.graph_path path all.0) ∙ none_of path places all.1

-- the path of a graph is shorter than that of what is in an item of it
under_is_other : (path inner : List ℕ) → length path < length inner → (other : Place) → IsUnder inner other → other.graph_path ≡ path → ⊥
under_is_other path inner less other (rest, e) same = shorter_is_other other.graph_path path (omega (arith, less, at_least inner other.graph_path rest e)) same

own_longer : (around : Place) (number : ℕ) → length around.graph_path ≤ length around.path → length around.graph_path < length (further around.path number)
own_longer around number less = omega (arith, less, length-append around.path (number ∷ []))

mutual
  kind_things : (kind : KindTree) (place : Place) → length place.graph_path < length place.path → things_of place.graph_path (places_in kind place) ≡ things_in kind
  kind_things (task code ins outs) place less = refl
  kind_things (map_scope sequential params private body) place less = items_things body place (in_map place.scopes params private) 0 (omega (arith, less))
  kind_things (consume_scope stream element private body) place less = items_things body place (in_consume place.scopes element private) 0 (omega (arith, less))
  kind_things (nested_graph inner links) place less =
      none_of place.graph_path (places_of inner place.path (suc place.depth))
      (all_so (IsUnder place.path) (λ (other : Place). other.graph_path ≡ place.graph_path → ⊥) (under_is_other place.graph_path place.path less) (places_of inner place.path (suc place.depth))
      (graph_within inner place.path (suc place.depth)))
  kind_things (reduction resolution axis identity from to) place less = refl
  kind_things (copy from to) place less = refl

  items_things : (items : ItemTrees) (around : Place) (scopes : Scopes) (number : ℕ) → length around.graph_path ≤ length around.path →
      things_of around.graph_path (item_places items around scopes number) ≡ item_things items
  items_things no_item around scopes number less = refl
  items_things (and_item line kind items) around scopes number less =
      let place = item_place around scopes number kind in
      at_own place.graph_path place (places_in kind place ++ item_places items around scopes (suc number)) true (is_itself place.graph_path)
      ∙ ap (λ (things : List Thing). doing kind ∷ things)
      (things_joined around.graph_path (places_in kind place) (item_places items around scopes (suc number))
      ∙ ap (λ (things : List Thing). things ++ things_of around.graph_path (item_places items around scopes (suc number))) (kind_things kind place (own_longer around number less))
      ∙ ap (λ (things : List Thing). things_in kind ++ things) (items_things items around scopes (suc number) less))

states_things : (states : StateTrees) (around : Place) (number : ℕ) → length around.graph_path ≤ length around.path → things_of around.graph_path (state_places states around number) ≡ state_things states
states_things no_state around number less = refl
states_things (and_state items exits states) around number less =
    let place = state_place around number items exits in
    let here = item_places items place no_scopes 0 in
    at_own place.graph_path place (here ++ state_places states around (suc number)) true (is_itself place.graph_path)
    ∙ ap (λ (things : List Thing). leaving items exits ∷ things)
    (things_joined around.graph_path here (state_places states around (suc number))
    ∙ ap (λ (things : List Thing). things ++ things_of around.graph_path (state_places states around (suc number))) (items_things items place no_scopes 0 (omega (arith, own_longer around number less)))
    ∙ ap (λ (things : List Thing). item_things items ++ things) (states_things states around (suc number) less))

-- at the places of a graph stands what is in it
pub own_things : (tree : GraphTree) (path : List ℕ) (depth : ℕ) → things_of path (places_of tree path depth) ≡ graph_things tree
own_things (graph name containers arguments variables symbols states) path depth =
    let place = graph_place (graph name containers arguments variables symbols states) path depth in
    at_own path place (state_places states place 0) true (is_itself path)
    ∙ ap (λ (things : List Thing). whole ∷ things) (states_things states place 0 (omega arith))
