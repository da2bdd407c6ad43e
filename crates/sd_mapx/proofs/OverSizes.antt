-- Where the begins of tiles are too far apart, the graph with the map in tiles breaks the limits.
use Rattle.std.proofs.Common.{◌≡◌, ℕ, suc, List, [], ◌∷◌, length, Option, Some, None, Bool, true, false, ◌&&◌, refl, sym, ◌∙◌}
use Rattle.sd_range.specs.declared.range.Range.{Range}
use Rattle.sd_graph.specs.PlainTree.{GraphTree}
use Rattle.sd_validity.specs.rules.GraphParts.{variables_of}
use Rattle.sd_validity.specs.rules.Parts.{is_range_passed, are_params_passed}
use Rattle.sd_validity.specs.rules.WithinLimits.{limits_tests}
use Rattle.sd_validity.proofs.rules_lemmas.HoldingLemmas.{both}
use Rattle.sd_alike.specs.alike.Places.{graph_with}
use Rattle.sd_alike.specs.alike.Tiles.{range_of_tiles}
use Rattle.sd_exchange.specs.maps.OrderRewrites.{tiled_by}
use Rattle.sd_exchange.specs.tiles.Tiled.{tile_params}
use Rattle.sd_mapx.specs.Paths.{place_of}
use Rattle.sd_mapx.specs.Found.{Found}
use Rattle.sd_mapx.specs.Conditions.{found_by, item_of, meets_limits}
use Rattle.sd_mapx.specs.MapTests.{has_sizes, are_steps_small}
use Rattle.sd_mapx.specs.Results.{replaced_by, params_of, tile_names, tiled_at}
use Rattle.sd_mapx.proofs.MapLaws.{both_kept}
use Rattle.sd_mapx.proofs.TileLimits.{range_limits, tiles_limited}

-- within the limits the begins are near enough
steps_small : (sizes : List ℕ) (variable : ℕ) (params : List (ℕ × Range)) → are_params_passed limits_tests (tile_params sizes variable params) ≡ true → are_steps_small sizes params ≡ true
steps_small [] variable params is = refl
steps_small (size ∷ sizes) variable [] is = refl
steps_small (size ∷ sizes) variable (param ∷ params) is =
    let parts = both (is_range_passed limits_tests (range_of_tiles size param.1)) (are_params_passed limits_tests (tile_params sizes (suc variable) params)) is in
    let step = (range_limits (range_of_tiles size param.1) parts.0).1 in
    λ i. (step.0 i && step.1 i) && steps_small sizes (suc variable) params parts.1 i

never_both : (a b : Bool) → (a ≡ true → b ≡ true) → b ≡ false → a ≡ false
never_both true b gives none = sym (gives refl) ∙ none
never_both false b gives none = refl

over_at : (tree : GraphTree) (sizes : List ℕ) (names : List (List ℕ)) (place : Option (List ℕ)) (found : Found) → found_by tree place ≡ Some found → has_sizes sizes found.kind ≡ true →
    are_steps_small sizes (params_of found.kind) ≡ false → meets_limits (replaced_by (tiled_by sizes) names tree place) ≡ false
over_at tree sizes names None found is has over = cc
over_at tree sizes names (Some place) found is has over =
    never_both (meets_limits (graph_with (tiled_by sizes) names tree place)) (are_steps_small sizes (params_of found.kind))
    (λ limits.
    let kept = both_kept (graph_with (tiled_by sizes) names tree place) limits in
    steps_small sizes (length (variables_of found.tree)) (params_of found.kind) (tiles_limited sizes names tree place found is has kept.1).tiles) over

pub steps_over : (tree : GraphTree) (path sizes : List ℕ) (found : Found) → item_of tree path ≡ Some found → has_sizes sizes found.kind ≡ true → are_steps_small sizes (params_of found.kind) ≡ false →
    meets_limits (tiled_at tree path sizes) ≡ false
steps_over tree path sizes found is has over = over_at tree sizes (tile_names (item_of tree path)) (place_of tree path) found is has over
