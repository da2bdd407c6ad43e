-- Where no condition of MapFusion fails, the graph with the two maps fused ends alike.
use Rattle.std.proofs.Common.{◌≡◌, ℕ, List, [], ◌∷◌, Option, Some, None, Bool, true, refl}
use Rattle.sd_graph.specs.PlainTree.{GraphTree}
use Rattle.sd_prop.specs.propagation.Scopes.{all_scopes}
use Rattle.sd_validity.specs.rules.Valid.{IsValid}
use Rattle.sd_safe.specs.normal.NormalForm.{IsGraphNormal}
use Rattle.sd_exchange.specs.maps.AcceptedPools.{ArePoolsAccepted}
use Rattle.sd_exchange.proofs.valid_lemmas.ValidOrder.{BothEndAlike}
use Rattle.sd_mapx.specs.Paths.{place_of}
use Rattle.sd_mapx.specs.Conditions.{lowest_failing, meets_limits}
use Rattle.sd_mapx.specs.ScopeTests.{are_pools_free}
use Rattle.sd_mapx.proofs.ConditionLaws.{first_holds}
use Rattle.sd_mapx.proofs.ScopeLaws.{pools_free}
use Rattle.sd_fuse.specs.maps.FusionAsked.{FusionAsked}
use Rattle.sd_fuse.specs.paths.TwoMaps.{TwoMaps, distance_between, maps_at, maps_there}
use Rattle.sd_fuse.specs.paths.FusionTests.{are_ranges_same, is_none_between, are_bodies_harmless, are_found}
use Rattle.sd_fuse.specs.paths.FusionConditions.{fused_there, fused_at, maps_of, fusion_conditions}
use Rattle.sd_fuse.proofs.valid_lemmas.ValidFusion.{fused-alike}
use Rattle.sd_fuse.proofs.paths_lemmas.Tested.{fusion-asked}
use Rattle.sd_fuse.proofs.paths_lemmas.MapsThere.{graph-there}

-- what no failing condition says
record AreFusionConditions (tree : GraphTree) (first second : List ℕ) : Type 0 where
  ranges : are_found are_ranges_same (maps_of tree first second) ≡ true
  free : are_found is_none_between (maps_of tree first second) ≡ true
  harmless : are_found are_bodies_harmless (maps_of tree first second) ≡ true
  pools : are_pools_free (all_scopes tree) ≡ true

conditions-hold : (tree : GraphTree) (first second : List ℕ) → lowest_failing (fusion_conditions tree first second) ≡ None → AreFusionConditions tree first second
conditions-hold tree first second none =
    let maps : Option TwoMaps = maps_of tree first second in
    let last : List (ℕ × Bool) = (9, meets_limits (fused_at tree first second)) ∷ [] in
    let pools : List (ℕ × Bool) = (8, are_pools_free (all_scopes tree)) ∷ last in
    let harmless : List (ℕ × Bool) = (4, are_found are_bodies_harmless maps) ∷ pools in
    let free : List (ℕ × Bool) = (3, are_found is_none_between maps) ∷ harmless in
    let ranges : List (ℕ × Bool) = (2, are_found are_ranges_same maps) ∷ free in
    let one = first_holds 1 (are_found (λ maps. true) maps) ranges none in
    let two = first_holds 2 (are_found are_ranges_same maps) free one.1 in
    let three = first_holds 3 (are_found is_none_between maps) harmless two.1 in
    let four = first_holds 4 (are_found are_bodies_harmless maps) pools three.1 in
    record { ranges = two.0; free = three.0; harmless = four.0; pools = (first_holds 8 (are_pools_free (all_scopes tree)) last four.1).0 }

module _ (tree : GraphTree) (valid : IsValid tree) (normal : IsGraphNormal tree) (pools : ArePoolsAccepted tree) where
  alike-at : (place : List ℕ) (distance : ℕ) (maps : Option TwoMaps) → maps_at distance tree place ≡ maps →
      are_found are_ranges_same maps ≡ true → are_found is_none_between maps ≡ true → are_found are_bodies_harmless maps ≡ true → BothEndAlike tree (fused_there tree (Some place) (Some distance))
  alike-at place distance None is ranges free harmless = cc
  alike-at place distance (Some maps) is ranges free harmless =
      fused-alike distance tree place valid normal pools
      (graph-there distance maps (FusionAsked distance) (fusion-asked distance maps (record { ranges = ranges; free = free; harmless = harmless })) tree place is)

  alike-there : (place : Option (List ℕ)) (distance : Option ℕ) → are_found are_ranges_same (maps_there tree place distance) ≡ true → are_found is_none_between (maps_there tree place distance) ≡ true →
      are_found are_bodies_harmless (maps_there tree place distance) ≡ true → BothEndAlike tree (fused_there tree place distance)
  alike-there None distance ranges free harmless = cc
  alike-there (Some place) None ranges free harmless = cc
  alike-there (Some place) (Some distance) ranges free harmless = alike-at place distance (maps_at distance tree place) refl ranges free harmless

pub fused-there-alike : (tree : GraphTree) (first second : List ℕ) → IsValid tree → IsGraphNormal tree → lowest_failing (fusion_conditions tree first second) ≡ None → BothEndAlike tree (fused_at tree first second)
fused-there-alike tree first second valid normal none =
    let holds = conditions-hold tree first second none in
    alike-there tree valid normal (pools_free tree holds.pools) (place_of tree first) (distance_between (place_of tree first) (place_of tree second)) holds.ranges holds.free holds.harmless
