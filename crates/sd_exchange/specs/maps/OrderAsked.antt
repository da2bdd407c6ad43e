-- What MapInterchange and MapTiling ask of the items of a list from one on, in a valid graph.
use Rattle.std.specs.Prelude.{Bool, ℕ, ◌<◌, List, [], length}
use Rattle.std.specs.List.{AllByRecursion}
use Rattle.sd_subset.specs.boxes.Box.{Parameter}
use Rattle.sd_subset.specs.boxes.InForce.{RangeNamesOthers}
use Rattle.sd_graph.specs.ContainerParts.{Containers}
use Rattle.sd_graph.specs.PlainTree.{KindTree, map_scope, ItemTrees, no_item, and_item}
use Rattle.sd_prop.specs.propagation.Scopes.{points, scope_of}
use Rattle.sd_race.specs.race.Pairs.{IsFreeOfRaces}
use Rattle.sd_exchange.specs.tiles.Tiled.{AreTileable}
use Rattle.sd_exchange.specs.ends.Points.{alone}
use Rattle.sd_exchange.specs.maps.Tails.{Asked}

-- a map is free of races
pub record IsFreeMap (sequential : Bool) (containers : Containers) (around params : List Parameter) (private : List ℕ) (body : ItemTrees) : Type 0 where
  pub path : List ℕ
  pub nodes : List ℕ
  pub free : IsFreeOfRaces (scope_of (points sequential params) private body containers path around nodes)

-- the first is a map without private containers round one map alone, whose ranges name none of its parameters; and it is free of races
abbrev pub InterchangeAskedOf : Containers → (around : List Parameter) → KindTree → Type 0
InterchangeAskedOf containers around (map_scope outer_sequential outer [] (and_item inner_line (map_scope inner_sequential inner private body) no_item)) =
    AllByRecursion (λ (parameter : Parameter). RangeNamesOthers outer parameter.1) inner × IsFreeMap outer_sequential containers around outer [] (alone inner_line (map_scope inner_sequential inner private body))
InterchangeAskedOf containers around kind = ⊥

abbrev pub InterchangeAsked : Asked
InterchangeAsked containers around variables no_item = ⊥
InterchangeAsked containers around variables (and_item line kind items) = InterchangeAskedOf containers around kind

-- the first is a map with a size of at least 1 for each parameter, whose ranges may have one end more; and it is free of races
abbrev pub TilingAskedOf : (sizes : List ℕ) → Containers → (around : List Parameter) → KindTree → Type 0
TilingAskedOf sizes containers around (map_scope sequential params private body) =
    (AreTileable sizes params × AllByRecursion (λ (param : Parameter). length param.1.ends < 4) params) × IsFreeMap sequential containers around params private body
TilingAskedOf sizes containers around kind = ⊥

abbrev pub TilingAsked : (sizes : List ℕ) → Asked
TilingAsked sizes containers around variables no_item = ⊥
TilingAsked sizes containers around variables (and_item line kind items) = TilingAskedOf sizes containers around kind
