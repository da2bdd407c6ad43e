-- A map of any number of parameters cut into tiles.
use Rattle.std.specs.Prelude.{Bool, ℕ, suc, ◌<◌, pos, ◌<ℤ◌, List, [], ◌∷◌, length, ⊤}
use Rattle.sd_range.specs.declared.range.Range.{Range}
use Rattle.sd_graph.specs.PlainTree.{KindTree, map_scope, ItemTrees, no_item, and_item}
use Rattle.sd_alike.specs.alike.Tiles.{range_of_tiles, range_in_tile}

-- the tiles of parameters: for each a new variable, from this one on, that takes the begins of its tiles
abbrev pub tile_params : (sizes : List ℕ) → (variable : ℕ) → List (ℕ × Range) → List (ℕ × Range)
tile_params [] variable params = []
tile_params (size ∷ sizes) variable [] = []
tile_params (size ∷ sizes) variable (param ∷ params) = (variable, range_of_tiles size param.1) ∷ tile_params sizes (suc variable) params

-- the parameters in a tile
abbrev pub params_in_tile : (sizes : List ℕ) → (variable : ℕ) → List (ℕ × Range) → List (ℕ × Range)
params_in_tile [] variable params = []
params_in_tile (size ∷ sizes) variable [] = []
params_in_tile (size ∷ sizes) variable (param ∷ params) = (param.0, range_in_tile size variable param.1) ∷ params_in_tile sizes (suc variable) params

-- a map over the tiles round a map over the values of a tile, which keeps the private containers
abbrev pub tiled_map : (sequential : Bool) → (sizes : List ℕ) → (variable line : ℕ) → List (ℕ × Range) → List ℕ → ItemTrees → KindTree
tiled_map sequential sizes variable line params private body =
    map_scope sequential (tile_params sizes variable params) [] (and_item line (map_scope sequential (params_in_tile sizes variable params) private body) no_item)

-- what is asked of sizes and ranges: as many, and each size, number of ends and step at least 1
abbrev pub AreTileable : (sizes : List ℕ) → List (ℕ × Range) → Type 0
AreTileable [] [] = ⊤
AreTileable [] (param ∷ params) = ⊥
AreTileable (size ∷ sizes) [] = ⊥
AreTileable (size ∷ sizes) (param ∷ params) = ((0 < size) × ((0 < length param.1.ends) × (pos 0 <ℤ param.1.step))) × AreTileable sizes params
