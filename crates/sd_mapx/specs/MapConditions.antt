-- The conditions of the rewrites of maps, by their numbers.
use Rattle.std.specs.Prelude.{ℕ, List, [], ◌∷◌, Bool, ◌&&◌, ◌||◌}
use Rattle.sd_graph.specs.PlainTree.{GraphTree}
use Rattle.sd_prop.specs.propagation.Scopes.{all_scopes}
use Rattle.sd_mapx.specs.MapTests.{is_map, is_round_one_map, is_inner_free, has_two_params, has_sizes, is_single}
use Rattle.sd_mapx.specs.ScopeTests.{is_free_at, is_free_behind, are_pools_free}
use Rattle.sd_mapx.specs.Conditions.{item_of, is_found, meets_limits}
use Rattle.sd_mapx.specs.Results.{collapsed_at, expanded_at, interchanged_at, tiled_at}

-- the path leads to a map; its body is one map alone, and it has no private container; the inner ranges name no outer parameter
abbrev pub collapse_conditions : GraphTree → (path : List ℕ) → List (ℕ × Bool)
collapse_conditions tree path =
    (1, is_found is_map (item_of tree path))
    ∷ (2, is_found is_round_one_map (item_of tree path))
    ∷ (3, is_found is_inner_free (item_of tree path))
    ∷ (9, meets_limits (collapsed_at tree path))
    ∷ []

-- the path leads to a map; it has at least two parameters
abbrev pub expansion_conditions : GraphTree → (path : List ℕ) → List (ℕ × Bool)
expansion_conditions tree path =
    (1, is_found is_map (item_of tree path))
    ∷ (2, is_found has_two_params (item_of tree path))
    ∷ (9, meets_limits (expanded_at tree path))
    ∷ []

-- the same as to collapse; both scopes are free of races, and so are all consume scopes
abbrev pub interchange_conditions : GraphTree → (path : List ℕ) → List (ℕ × Bool)
interchange_conditions tree path =
    (1, is_found is_map (item_of tree path))
    ∷ (2, is_found is_round_one_map (item_of tree path))
    ∷ (3, is_found is_inner_free (item_of tree path))
    ∷ (4, is_free_at path (all_scopes tree) && is_free_behind path (all_scopes tree))
    ∷ (8, are_pools_free (all_scopes tree))
    ∷ (9, meets_limits (interchanged_at tree path))
    ∷ []

-- the path leads to a map; it has a size for each parameter; but for one parameter it is free of races, and so are all consume scopes
abbrev pub tiling_conditions : GraphTree → (path sizes : List ℕ) → List (ℕ × Bool)
tiling_conditions tree path sizes =
    (1, is_found is_map (item_of tree path))
    ∷ (2, is_found (has_sizes sizes) (item_of tree path))
    ∷ (3, is_single sizes || is_free_at path (all_scopes tree))
    ∷ (8, is_single sizes || are_pools_free (all_scopes tree))
    ∷ (9, meets_limits (tiled_at tree path sizes))
    ∷ []
