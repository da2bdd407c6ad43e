-- The graphs that the rewrites of maps give.
use Rattle.std.specs.Prelude.{ℕ, List, [], map, Option, Some, None}
use Rattle.sd_range.specs.declared.range.Range.{Range}
use Rattle.sd_graph.specs.PlainTree.{KindTree, map_scope, GraphTree}
use Rattle.sd_validity.specs.rules.GraphParts.{variables_of}
use Rattle.sd_alike.specs.alike.Places.{Replacing, graph_with}
use Rattle.sd_alike.specs.alike.Maps.{collapsed, expanded}
use Rattle.sd_exchange.specs.maps.OrderRewrites.{interchanged, tiled_by}
use Rattle.sd_mapx.specs.Paths.{place_of}
use Rattle.sd_mapx.specs.Found.{Found}
use Rattle.sd_mapx.specs.Conditions.{item_of}
use Rattle.sd_mapx.specs.FreshNames.{name_of, names_in_use, fresh_names}

-- the graph with the item at a place replaced; the graph that has the item gets further variables. Where there is no place it stays as it is
abbrev pub replaced_by : Replacing → (names : List (List ℕ)) → GraphTree → Option (List ℕ) → GraphTree
replaced_by replacing names tree None = tree
replaced_by replacing names tree (Some place) = graph_with replacing names tree place

-- one map: the outer parameters, then the inner ones
abbrev pub collapsed_at : GraphTree → (path : List ℕ) → GraphTree
collapsed_at tree path = replaced_by collapsed [] tree (place_of tree path)

-- a map of the first parameter round a map of the others
abbrev pub expanded_at : GraphTree → (path : List ℕ) → GraphTree
expanded_at tree path = replaced_by expanded [] tree (place_of tree path)

-- the two parameter lists exchanged
abbrev pub interchanged_at : GraphTree → (path : List ℕ) → GraphTree
interchanged_at tree path = replaced_by interchanged [] tree (place_of tree path)

-- ---- tiles

-- the parameters of an item, and their names
abbrev pub params_of : KindTree → List (ℕ × Range)
params_of (map_scope sequential params private body) = params
params_of kind = []

abbrev pub param_names : Found → List (List ℕ)
param_names found = map (λ param. name_of (variables_of found.tree) param.0) (params_of found.kind)

-- a fresh name for each parameter of the map that is found
abbrev pub tile_names : Option Found → List (List ℕ)
tile_names None = []
tile_names (Some found) = fresh_names (names_in_use found.tree) (param_names found)

-- a map over the tiles, which have these sizes, round a map over the values of a tile
abbrev pub tiled_at : GraphTree → (path sizes : List ℕ) → GraphTree
tiled_at tree path sizes = replaced_by (tiled_by sizes) (tile_names (item_of tree path)) tree (place_of tree path)
