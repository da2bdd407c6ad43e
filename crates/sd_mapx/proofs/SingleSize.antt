-- A map of one parameter in tiles: the graph runs as the old one, whatever the order of its points does.
use Rattle.std.proofs.Common.{◌≡◌, ℕ, zero, suc, List, [], ◌∷◌, ◌++◌, length, Option, Some, None, if◌then◌else◌, refl, ap, sym, subst, arith}
use Rattle.sd_graph.specs.PlainTree.{KindTree, task, map_scope, consume_scope, nested_graph, reduction, copy, ItemTrees, no_item, and_item, StateTrees, no_state, and_state, GraphTree, graph}
use Rattle.sd_validity.specs.rules.GraphParts.{variables_of}
use Rattle.sd_validity.specs.rules.Valid.{IsValid}
use Rattle.sd_alike.specs.alike.Places.{Replacing, items_then, states_nest, kind_with, items_with, states_with, graph_with, KindLeads, ItemsLead, StatesLead, GraphLeads}
use Rattle.sd_alike.specs.alike.Rewritten.{RunsSame}
use Rattle.sd_alike.specs.alike.Tiles.{IsTileable, tiled}
use Rattle.sd_alike.proofs.alike_lemmas.TiledMaps.{tiled_runs_same}
use Rattle.sd_alike.proofs.kept_lemmas.NamesThere.{valid_names_its_variables}
use Rattle.sd_exchange.specs.maps.OrderRewrites.{tiled_by}
use Rattle.sd_mapx.specs.Found.{Found, found_at}
use Rattle.sd_mapx.proofs.ConditionLaws.{HoldsFound, graph_leads}
use Rattle.sd_mapx.proofs.TileLimits.{IsCuttableMap}

-- ---- two ways to replace items that agree where a place leads

module _ (Holds : ℕ → KindTree → Type 0) (first second : Replacing) (names : List (List ℕ))
    (same : (variables line : ℕ) (kind : KindTree) → Holds variables kind → first variables line kind ≡ second variables line kind) where
  mutual
    kind_same : (variables : ℕ) (kind : KindTree) (path : List ℕ) → KindLeads Holds variables kind path → kind_with first names variables kind path ≡ kind_with second names variables kind path
    kind_same variables (task code ins outs) path leads = refl
    kind_same variables (map_scope sequential params private body) path leads = ap (map_scope sequential params private) (items_same variables body path leads)
    kind_same variables (consume_scope stream element private body) path leads = ap (consume_scope stream element private) (items_same variables body path leads)
    kind_same variables (nested_graph inner links) path leads = ap (λ (inner : GraphTree). nested_graph inner links) (graph_same inner path leads)
    kind_same variables (reduction resolution axis identity from to) path leads = refl
    kind_same variables (copy from to) path leads = refl

    items_same : (variables : ℕ) (items : ItemTrees) (path : List ℕ) → ItemsLead Holds variables items path → items_with first names variables items path ≡ items_with second names variables items path
    items_same variables no_item path leads = refl
    items_same variables (and_item line kind items) [] leads = refl
    items_same variables (and_item line kind items) (zero ∷ []) leads = ap (λ (new : ItemTrees). items_then new items) (same variables line kind leads)
    items_same variables (and_item line kind items) (zero ∷ next ∷ path) leads = ap (λ (new : KindTree). and_item line new items) (kind_same variables kind (next ∷ path) leads)
    items_same variables (and_item line kind items) (suc number ∷ path) leads = ap (and_item line kind) (items_same variables items (number ∷ path) leads)

    states_same : (variables : ℕ) (states : StateTrees) (path : List ℕ) → StatesLead Holds variables states path → states_with first names variables states path ≡ states_with second names variables states path
    states_same variables no_state path leads = refl
    states_same variables (and_state items exits states) [] leads = refl
    states_same variables (and_state items exits states) (zero ∷ path) leads = ap (λ (new : ItemTrees). and_state new exits states) (items_same variables items path leads)
    states_same variables (and_state items exits states) (suc number ∷ path) leads = ap (and_state items exits) (states_same variables states (number ∷ path) leads)

    graph_same : (tree : GraphTree) (path : List ℕ) → GraphLeads Holds tree path → graph_with first names tree path ≡ graph_with second names tree path
    graph_same (graph name containers arguments variables symbols states) path leads =
        ap (graph name containers arguments (if states_nest states path then variables else variables ++ names) symbols) (states_same (length variables) states path leads)

-- ---- a map of one parameter

tileable : (size variables : ℕ) (kind : KindTree) → IsCuttableMap (size ∷ []) variables kind → IsTileable size variables kind
tileable size variables (task code ins outs) cut = absurd cut
tileable size variables (map_scope sequential [] private body) cut = let none = cut.0 in absurd (omega (arith, none))
tileable size variables (map_scope sequential (param ∷ []) private body) cut = record {
  sequential = sequential;
  parameter = param.0;
  range = param.1;
  private = private;
  body = body;
  shape = refl;
  ended = cut.1.0.0.1.0;
  rises = cut.1.0.0.1.1;
  sized = cut.1.0.0.0;
}
tileable size variables (map_scope sequential (param ∷ second ∷ params) private body) cut = absurd cut.1.0.1
tileable size variables (consume_scope stream element private body) cut = absurd cut
tileable size variables (nested_graph inner links) cut = absurd cut
tileable size variables (reduction resolution axis identity from to) cut = absurd cut
tileable size variables (copy from to) cut = absurd cut

found_tileable : (size : ℕ) (found : Option Found) → HoldsFound (IsCuttableMap (size ∷ [])) found → HoldsFound (IsTileable size) found
found_tileable size None cut = absurd cut
found_tileable size (Some found) cut = tileable size (length (variables_of found.tree)) found.kind cut

tiled_same : (size variables line : ℕ) (kind : KindTree) → IsTileable size variables kind → tiled_by (size ∷ []) variables line kind ≡ tiled size variables line kind
tiled_same size variables line kind holds = subst (λ (kind : KindTree). tiled_by (size ∷ []) variables line kind ≡ tiled size variables line kind) (sym holds.shape) refl

pub one_size_runs_same : (size : ℕ) (name : List ℕ) (tree : GraphTree) (place : List ℕ) → IsValid tree → HoldsFound (IsCuttableMap (size ∷ [])) (found_at tree place) → RunsSame tree (graph_with (tiled_by (size ∷ [])) (name ∷ []) tree place)
one_size_runs_same size name tree place valid cut =
    let leads = graph_leads (IsTileable size) tree place (found_tileable size (found_at tree place) cut) in
    subst (RunsSame tree) (sym (graph_same (IsTileable size) (tiled_by (size ∷ [])) (tiled size) (name ∷ []) (tiled_same size) tree place leads))
    (tiled_runs_same size name tree place leads (valid_names_its_variables tree valid.names))
