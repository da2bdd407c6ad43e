-- Where no condition fails, the graph with a map in tiles ends alike, and is valid.
use Rattle.std.proofs.Common.{◌≡◌, ℕ, suc, nat_eq, List, [], ◌∷◌, length, Option, Some, None, Bool, true, false, ◌||◌, refl, ap, sym, ◌∙◌, subst, arith}
use Rattle.std.specs.List.{list_all}
use Rattle.std.proofs.lemmas.List.{length-map}
use Rattle.sd_range.specs.declared.range.Range.{Range}
use Rattle.sd_subset.specs.boxes.Box.{Parameter}
use Rattle.sd_graph.specs.ContainerParts.{Containers}
use Rattle.sd_graph.specs.PlainTree.{KindTree, task, map_scope, consume_scope, nested_graph, reduction, copy, ItemTrees, and_item, GraphTree}
use Rattle.sd_prop.specs.propagation.Scopes.{all_scopes}
use Rattle.sd_validity.specs.rules.GraphParts.{variables_of}
use Rattle.sd_validity.specs.rules.Valid.{IsValid}
use Rattle.sd_safe.specs.normal.NormalForm.{IsGraphNormal}
use Rattle.sd_safe.proofs.fit_lemmas.Members.{both, same_number}
use Rattle.sd_alike.specs.alike.Places.{graph_with}
use Rattle.sd_alike.specs.alike.Rewritten.{RunsSame}
use Rattle.sd_exchange.specs.maps.AcceptedPools.{ArePoolsAccepted}
use Rattle.sd_exchange.specs.maps.OrderAsked.{TilingAsked}
use Rattle.sd_exchange.specs.maps.OrderRewrites.{tiled_by, HasSizes}
use Rattle.sd_exchange.proofs.kept_lemmas.ValidKept.{tiled_valid}
use Rattle.sd_exchange.proofs.valid_lemmas.Following.{runs-same, runs-back}
use Rattle.sd_exchange.proofs.valid_lemmas.ValidOrder.{BothEndAlike, tiled-alike}
use Rattle.sd_mapx.specs.Paths.{place_of}
use Rattle.sd_mapx.specs.Found.{Found, found_at}
use Rattle.sd_mapx.specs.Conditions.{lowest_failing, found_by, item_of, is_found, meets_limits}
use Rattle.sd_mapx.specs.FreshNames.{name_of, names_in_use, fresh_name, fresh_names}
use Rattle.sd_mapx.specs.MapTests.{is_map, is_size, has_sizes, is_single}
use Rattle.sd_mapx.specs.ScopeTests.{is_free_at, are_pools_free}
use Rattle.sd_mapx.specs.Results.{replaced_by, params_of, param_names, tile_names, tiled_at}
use Rattle.sd_mapx.specs.MapConditions.{tiling_conditions}
use Rattle.sd_mapx.proofs.ConditionLaws.{HoldsFound, graph_leads, first_holds}
use Rattle.sd_mapx.proofs.FreeThere.{IsFreeKind, GraphMayLead, free_there}
use Rattle.sd_mapx.proofs.MapLaws.{both_kept}
use Rattle.sd_mapx.proofs.OrderLaws.{graph_both}
use Rattle.sd_mapx.proofs.ScopeLaws.{free_at, pools_free}
use Rattle.sd_mapx.proofs.SingleSize.{one_size_runs_same}
use Rattle.sd_mapx.proofs.TileLimits.{IsCuttableMap, found_cuttable}

-- ---- from the conditions

record AreTilingConditions (tree : GraphTree) (path sizes : List ℕ) : Type 0 where
  sized : is_found (has_sizes sizes) (item_of tree path) ≡ true
  scope : (is_single sizes || is_free_at path (all_scopes tree)) ≡ true
  pools : (is_single sizes || are_pools_free (all_scopes tree)) ≡ true
  limits : meets_limits (tiled_at tree path sizes) ≡ true

tiling_holds : (tree : GraphTree) (path sizes : List ℕ) → lowest_failing (tiling_conditions tree path sizes) ≡ None → AreTilingConditions tree path sizes
tiling_holds tree path sizes none =
    let item : Option Found = item_of tree path in
    let last : List (ℕ × Bool) = (9, meets_limits (tiled_at tree path sizes)) ∷ [] in
    let pools : List (ℕ × Bool) = (8, is_single sizes || are_pools_free (all_scopes tree)) ∷ last in
    let scope : List (ℕ × Bool) = (3, is_single sizes || is_free_at path (all_scopes tree)) ∷ pools in
    let sized : List (ℕ × Bool) = (2, is_found (has_sizes sizes) item) ∷ scope in
    let first = first_holds 1 (is_found is_map item) sized none in
    let second = first_holds 2 (is_found (has_sizes sizes) item) scope first.1 in
    let third = first_holds 3 (is_single sizes || is_free_at path (all_scopes tree)) pools second.1 in
    let eighth = first_holds 8 (is_single sizes || are_pools_free (all_scopes tree)) last third.1 in
    record { sized = second.0; scope = third.0; pools = eighth.0; limits = (first_holds 9 (meets_limits (tiled_at tree path sizes)) [] eighth.1).0 }

-- ---- names

fresh_many : (used names : List (List ℕ)) → length (fresh_names used names) ≡ length names
fresh_many used [] = refl
fresh_many used (name ∷ names) = ap suc (fresh_many (fresh_name used name ∷ used) names)

params_many : (sizes : List ℕ) (kind : KindTree) → has_sizes sizes kind ≡ true → length (params_of kind) ≡ length sizes
params_many sizes (task code ins outs) has = cc
params_many sizes (map_scope sequential params private body) has = sym (same_number (length sizes) (length params) (both (nat_eq (length sizes) (length params)) (list_all is_size sizes) has).0)
params_many sizes (consume_scope stream element private body) has = cc
params_many sizes (nested_graph inner links) has = cc
params_many sizes (reduction resolution axis identity from to) has = cc
params_many sizes (copy from to) has = cc

-- there is a name for each size
names_many : (sizes : List ℕ) (found : Option Found) → is_found (has_sizes sizes) found ≡ true → length (tile_names found) ≡ length sizes
names_many sizes None has = cc
names_many sizes (Some found) has =
    fresh_many (names_in_use found.tree) (param_names found)
    ∙ length-map (params_of found.kind) (λ (param : ℕ × Range). name_of (variables_of found.tree) param.0)
    ∙ params_many sizes found.kind has

sole : (names : List (List ℕ)) → length names ≡ 1 → (name : List ℕ) × (names ≡ name ∷ [])
sole [] one = absurd (omega (arith, one))
sole (name ∷ []) one = (name, refl)
sole (name ∷ next ∷ names) one = absurd (omega (arith, one))

-- ---- one size: exact, whatever the order

single_runs : (size : ℕ) (name : List ℕ) (tree : GraphTree) (place : Option (List ℕ)) → IsValid tree → is_found (has_sizes (size ∷ [])) (found_by tree place) ≡ true →
    meets_limits (replaced_by (tiled_by (size ∷ [])) (name ∷ []) tree place) ≡ true → RunsSame tree (replaced_by (tiled_by (size ∷ [])) (name ∷ []) tree place)
single_runs size name tree None valid has limits = cc
single_runs size name tree (Some place) valid has limits =
    let kept = both_kept (graph_with (tiled_by (size ∷ [])) (name ∷ []) tree place) limits in
    one_size_runs_same size name tree place valid (found_cuttable (size ∷ []) (name ∷ []) tree place (found_at tree place) refl has kept.1)

single_same : (size : ℕ) (tree : GraphTree) (path : List ℕ) → IsValid tree → AreTilingConditions tree path (size ∷ []) → RunsSame tree (tiled_at tree path (size ∷ []))
single_same size tree path valid holds =
    let name = sole (tile_names (item_of tree path)) (names_many (size ∷ []) (item_of tree path) holds.sized) in
    subst (λ (names : List (List ℕ)). RunsSame tree (replaced_by (tiled_by (size ∷ [])) names tree (place_of tree path))) (sym name.1)
    (single_runs size name.0 tree (place_of tree path) valid holds.sized
    (subst (λ (names : List (List ℕ)). meets_limits (replaced_by (tiled_by (size ∷ [])) names tree (place_of tree path)) ≡ true) name.1 holds.limits))

pub tiled_by_one_same : (tree : GraphTree) (path : List ℕ) (size : ℕ) → IsValid tree → lowest_failing (tiling_conditions tree path (size ∷ [])) ≡ None → RunsSame tree (tiled_at tree path (size ∷ []))
tiled_by_one_same tree path size valid none = single_same size tree path valid (tiling_holds tree path (size ∷ []) none)

-- ---- several sizes: the map is free of races

tiling_asked : (sizes : List ℕ) (c : Containers) (a : List Parameter) (v line : ℕ) (kind : KindTree) (items : ItemTrees) → IsCuttableMap sizes v kind → IsFreeKind c a kind → TilingAsked sizes c a v (and_item line kind items)
tiling_asked sizes c a v line (task code ins outs) items cut free = cut
tiling_asked sizes c a v line (map_scope sequential params private body) items cut free = (cut.1, free)
tiling_asked sizes c a v line (consume_scope stream element private body) items cut free = cut
tiling_asked sizes c a v line (nested_graph inner links) items cut free = cut
tiling_asked sizes c a v line (reduction resolution axis identity from to) items cut free = cut
tiling_asked sizes c a v line (copy from to) items cut free = cut

several_end : (sizes : List ℕ) (names : List (List ℕ)) (tree : GraphTree) (place : Option (List ℕ)) → IsValid tree → IsGraphNormal tree → ArePoolsAccepted tree → GraphMayLead tree place →
    is_found (has_sizes sizes) (found_by tree place) ≡ true → meets_limits (replaced_by (tiled_by sizes) names tree place) ≡ true → BothEndAlike tree (replaced_by (tiled_by sizes) names tree place)
several_end sizes names tree None valid normal pools free has limits = cc
several_end sizes names tree (Some place) valid normal pools free has limits =
    let kept = both_kept (graph_with (tiled_by sizes) names tree place) limits in
    let leads = graph_leads (IsCuttableMap sizes) tree place (found_cuttable sizes names tree place (found_at tree place) refl has kept.1) in
    tiled-alike sizes names tree place valid normal pools (graph_both (IsCuttableMap sizes) (TilingAsked sizes) (tiling_asked sizes) tree place leads free)

told : (single other : Bool) → single ≡ false → (single || other) ≡ true → other ≡ true
told true other is holds = cc
told false other is holds = holds

several_alike : (sizes : List ℕ) (tree : GraphTree) (path : List ℕ) → is_single sizes ≡ false → IsValid tree → IsGraphNormal tree → AreTilingConditions tree path sizes → BothEndAlike tree (tiled_at tree path sizes)
several_alike sizes tree path several valid normal holds =
    let pools = told (is_single sizes) (are_pools_free (all_scopes tree)) several holds.pools in
    let scope = told (is_single sizes) (is_free_at path (all_scopes tree)) several holds.scope in
    several_end sizes (tile_names (item_of tree path)) tree (place_of tree path) valid normal (pools_free tree pools) (free_there tree path (free_at path (all_scopes tree) scope)) holds.sized holds.limits

both_alike : (tree other : GraphTree) → RunsSame tree other → BothEndAlike tree other
both_alike tree other same = (runs-same tree other same, runs-back tree other same)

by_sizes : (sizes : List ℕ) (tree : GraphTree) (path : List ℕ) → IsValid tree → IsGraphNormal tree → AreTilingConditions tree path sizes → BothEndAlike tree (tiled_at tree path sizes)
by_sizes [] tree path valid normal holds = several_alike [] tree path refl valid normal holds
by_sizes (size ∷ []) tree path valid normal holds = both_alike tree (tiled_at tree path (size ∷ [])) (single_same size tree path valid holds)
by_sizes (size ∷ next ∷ sizes) tree path valid normal holds = several_alike (size ∷ next ∷ sizes) tree path refl valid normal holds

pub tiled_alike : (tree : GraphTree) (path sizes : List ℕ) → IsValid tree → IsGraphNormal tree → lowest_failing (tiling_conditions tree path sizes) ≡ None → BothEndAlike tree (tiled_at tree path sizes)
tiled_alike tree path sizes valid normal none = by_sizes sizes tree path valid normal (tiling_holds tree path sizes none)

-- ---- and it is valid

kind_sized : (sizes : List ℕ) (variables : ℕ) (kind : KindTree) → has_sizes sizes kind ≡ true → HasSizes sizes variables kind
kind_sized sizes variables (task code ins outs) has = cc
kind_sized sizes variables (map_scope sequential params private body) has = same_number (length sizes) (length params) (both (nat_eq (length sizes) (length params)) (list_all is_size sizes) has).0
kind_sized sizes variables (consume_scope stream element private body) has = cc
kind_sized sizes variables (nested_graph inner links) has = cc
kind_sized sizes variables (reduction resolution axis identity from to) has = cc
kind_sized sizes variables (copy from to) has = cc

found_sized : (sizes : List ℕ) (found : Option Found) → is_found (has_sizes sizes) found ≡ true → HoldsFound (HasSizes sizes) found
found_sized sizes None has = cc
found_sized sizes (Some found) has = kind_sized sizes (length (variables_of found.tree)) found.kind has

tiled_stays : (sizes : List ℕ) (names : List (List ℕ)) (tree : GraphTree) (place : Option (List ℕ)) → IsValid tree → is_found (has_sizes sizes) (found_by tree place) ≡ true → length names ≡ length sizes →
    meets_limits (replaced_by (tiled_by sizes) names tree place) ≡ true → IsValid (replaced_by (tiled_by sizes) names tree place)
tiled_stays sizes names tree None valid has many limits = cc
tiled_stays sizes names tree (Some place) valid has many limits =
    let kept = both_kept (graph_with (tiled_by sizes) names tree place) limits in
    tiled_valid sizes names tree place valid (graph_leads (HasSizes sizes) tree place (found_sized sizes (found_at tree place) has)) many kept.0 kept.1

pub tile_valid : (tree : GraphTree) (path sizes : List ℕ) → IsValid tree → lowest_failing (tiling_conditions tree path sizes) ≡ None → IsValid (tiled_at tree path sizes)
tile_valid tree path sizes valid none =
    let holds = tiling_holds tree path sizes none in
    tiled_stays sizes (tile_names (item_of tree path)) tree (place_of tree path) valid holds.sized (names_many sizes (item_of tree path) holds.sized) holds.limits
