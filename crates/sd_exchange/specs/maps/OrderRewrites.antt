-- MapInterchange and MapTiling of the items of a list from one on: when, and what comes to stand there.
use Rattle.std.specs.Prelude.{◌≡◌, ℕ, List, [], length}
use Rattle.sd_subset.specs.boxes.Box.{Parameter}
use Rattle.sd_graph.specs.ContainerParts.{Containers}
use Rattle.sd_graph.specs.PlainTree.{KindTree, map_scope, no_item, and_item}
use Rattle.sd_alike.specs.alike.Places.{Replacing}
use Rattle.sd_exchange.specs.tiles.Tiled.{tiled_map}
use Rattle.sd_exchange.specs.maps.Tails.{Asked}
use Rattle.sd_exchange.specs.maps.Interchange.{MayInterchange}
use Rattle.sd_exchange.specs.maps.MapTiled.{MayTile}

-- ---- MapInterchange

-- the two parameter lists exchanged; each takes its mark along
abbrev pub interchanged : Replacing
interchanged variables line (map_scope outer_sequential outer [] (and_item inner_line (map_scope inner_sequential inner private body) no_item)) =
    and_item line (map_scope inner_sequential inner [] (and_item inner_line (map_scope outer_sequential outer private body) no_item)) no_item
interchanged variables line kind = and_item line kind no_item

abbrev pub CanInterchangeKind : Containers → (around : List Parameter) → KindTree → Type 0
CanInterchangeKind containers around (map_scope outer_sequential outer [] (and_item inner_line (map_scope inner_sequential inner private body) no_item)) = MayInterchange outer_sequential inner_sequential containers around outer inner private inner_line body
CanInterchangeKind containers around kind = ⊥

abbrev pub CanInterchange : Asked
CanInterchange containers around variables no_item = ⊥
CanInterchange containers around variables (and_item line kind items) = CanInterchangeKind containers around kind

-- ---- MapTiling

-- a map over the tiles round a map over the values of a tile, which keeps the private containers
abbrev pub tiled_by : (sizes : List ℕ) → Replacing
tiled_by sizes variables line (map_scope sequential params private body) = and_item line (tiled_map sequential sizes variables line params private body) no_item
tiled_by sizes variables line kind = and_item line kind no_item

-- a map with a size for each parameter
abbrev pub HasSizes : (sizes : List ℕ) → (variables : ℕ) → KindTree → Type 0
HasSizes sizes variables (map_scope sequential params private body) = length sizes ≡ length params
HasSizes sizes variables kind = ⊥

abbrev pub CanTileKind : (sizes : List ℕ) → Containers → (around : List Parameter) → (variables : ℕ) → KindTree → Type 0
CanTileKind sizes containers around variables (map_scope sequential params private body) = MayTile sequential containers around params private body sizes variables
CanTileKind sizes containers around variables kind = ⊥

abbrev pub CanTile : (sizes : List ℕ) → Asked
CanTile sizes containers around variables no_item = ⊥
CanTile sizes containers around variables (and_item line kind items) = CanTileKind sizes containers around variables kind
