-- A map of any number of parameters cut into tiles, in another order of its points.
use Rattle.std.specs.Prelude.{Bool, ℕ, suc, ◌<◌, List, [], ◌∷◌, length}
use Rattle.std.specs.List.{AllByRecursion}
use Rattle.sd_subset.specs.boxes.Box.{Parameter}
use Rattle.sd_graph.specs.ContainerParts.{Containers}
use Rattle.sd_graph.specs.PlainTree.{map_scope, ItemTrees, and_item}
use Rattle.sd_alike.specs.alike.Alike.{RangeBelow, ItemsBelow}
use Rattle.sd_prop.specs.propagation.Scopes.{points, scope_of}
use Rattle.sd_race.specs.race.Pairs.{IsFreeOfRaces}
use Rattle.sd_race.specs.cover.Fit.{IsFit}
use Rattle.sd_exchange.specs.maps.Spared.{ItemsSpare}
use Rattle.sd_exchange.specs.tiles.Tiled.{AreTileable, tiled_map}

-- the variables of tiles
abbrev pub tile_names : (sizes : List ℕ) → (variable : ℕ) → List ℕ
tile_names [] variable = []
tile_names (size ∷ sizes) variable = variable ∷ tile_names sizes (suc variable)

-- the map may be cut into tiles with the variables from this one on: it is free of races, has a size for each parameter, its ranges may have one end more, and nothing has those variables yet
pub record MayTile (sequential : Bool) (containers : Containers) (around params : List Parameter) (private : List ℕ) (body : ItemTrees) (sizes : List ℕ) (count : ℕ) : Type 0 where
  pub valid : IsFit (map_scope sequential params private body) around
  pub tileable : AreTileable sizes params
  pub few : AllByRecursion (λ (param : Parameter). length param.1.ends < 4) params
  pub ranges : AllByRecursion (λ (param : Parameter). RangeBelow count param.1) params
  pub own : AllByRecursion (λ (param : Parameter). param.0 < count) params
  pub outer : AllByRecursion (λ (param : Parameter). (param.0 < count) × RangeBelow count param.1) around
  pub below : ItemsBelow count body
  pub spare : ItemsSpare (tile_names sizes count) body
  pub path : List ℕ
  pub nodes : List ℕ
  pub free : IsFreeOfRaces (scope_of (points sequential params) private body containers path around nodes)

-- the first of some items is such a map, and comes to stand there in tiles
pub data MapTiled : Containers → List Parameter → ItemTrees → ItemTrees → Type 0 where
  map_tiled : (sequential : Bool) (containers : Containers) (around params : List Parameter) (private : List ℕ) (line : ℕ) (body items : ItemTrees) (sizes : List ℕ) (count : ℕ) → MayTile sequential containers around params private body sizes count →
      MapTiled containers around (and_item line (map_scope sequential params private body) items) (and_item line (tiled_map sequential sizes count line params private body) items)

-- the other way round
pub data MapTiledBack : Containers → List Parameter → ItemTrees → ItemTrees → Type 0 where
  untiled : (containers : Containers) (around : List Parameter) (items others : ItemTrees) → MapTiled containers around others items → MapTiledBack containers around items others
