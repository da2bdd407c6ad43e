-- MapFusion of the maps to which two paths lead: its conditions by their numbers, and the graph that it gives.
use Rattle.std.specs.Prelude.{ℕ, List, [], ◌∷◌, Option, Some, None, Bool, true}
use Rattle.sd_graph.specs.PlainTree.{GraphTree}
use Rattle.sd_prop.specs.propagation.Scopes.{all_scopes}
use Rattle.sd_exchange.specs.maps.Tails.{graph_tail}
use Rattle.sd_mapx.specs.Paths.{place_of}
use Rattle.sd_mapx.specs.Conditions.{meets_limits}
use Rattle.sd_mapx.specs.ScopeTests.{are_pools_free}
use Rattle.sd_fuse.specs.maps.FusionRewrite.{fused_by}
use Rattle.sd_fuse.specs.paths.TwoMaps.{TwoMaps, distance_between, maps_there}
use Rattle.sd_fuse.specs.paths.FusionTests.{are_ranges_same, is_none_between, are_bodies_harmless, are_found}

-- the graph with the item at a place fused with the one that stands so many behind the next; without a place or a distance it stays as it is
abbrev pub fused_there : GraphTree → (place : Option (List ℕ)) → (distance : Option ℕ) → GraphTree
fused_there tree None distance = tree
fused_there tree (Some place) None = tree
fused_there tree (Some place) (Some distance) = graph_tail (fused_by distance) [] tree place

-- one map where the first one stood
abbrev pub fused_at : GraphTree → (first second : List ℕ) → GraphTree
fused_at tree first second = fused_there tree (place_of tree first) (distance_between (place_of tree first) (place_of tree second))

-- the two maps to which the paths lead
abbrev pub maps_of : GraphTree → (first second : List ℕ) → Option TwoMaps
maps_of tree first second = maps_there tree (place_of tree first) (distance_between (place_of tree first) (place_of tree second))

-- the paths lead to two maps of one list, the first one's before the other's; their ranges are the same after renaming; no other item is on a path from the first to the second;
-- each conflicting pair of accesses, one of each body, is harmless; all consume scopes are free of races
abbrev pub fusion_conditions : GraphTree → (first second : List ℕ) → List (ℕ × Bool)
fusion_conditions tree first second =
    (1, are_found (λ maps. true) (maps_of tree first second))
    ∷ (2, are_found are_ranges_same (maps_of tree first second))
    ∷ (3, are_found is_none_between (maps_of tree first second))
    ∷ (4, are_found are_bodies_harmless (maps_of tree first second))
    ∷ (8, are_pools_free (all_scopes tree))
    ∷ (9, meets_limits (fused_at tree first second))
    ∷ []
