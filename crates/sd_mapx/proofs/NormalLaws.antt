-- The expressions of a graph that a rewrite gives are in normal form where those of the old one are.
use Rattle.std.proofs.Common.{◌≢◌, ℕ, zero, suc, ◌-◌, ℤ, pos, ◌*ℤ◌, List, [], ◌∷◌, length, Option, Some, None}
use Rattle.sd_range.specs.declared.affine.Affine.{Affine}
use Rattle.sd_range.specs.declared.range.Range.{Range}
use Rattle.sd_graph.specs.PlainTree.{KindTree, task, map_scope, consume_scope, nested_graph, reduction, copy, ItemTrees, no_item, and_item, StateTrees, no_state, and_state, GraphTree, graph}
use Rattle.sd_race.proofs.race_lemmas.Members.{all-joined}
use Rattle.sd_safe.specs.normal.NormalForm.{IsAffineNormal, IsRangeNormal, AreParamsNormal, IsKindNormal, AreItemsNormal, AreStatesNormal, IsGraphNormal}
use Rattle.sd_alike.specs.alike.Maps.{collapsed, expanded}
use Rattle.sd_alike.specs.alike.Places.{Replacing, items_then, kind_with, items_with, states_with, graph_with}
use Rattle.sd_alike.specs.alike.Tiles.{variable_plus, range_in_tile}
use Rattle.sd_exchange.specs.maps.OrderRewrites.{interchanged, tiled_by}
use Rattle.sd_exchange.specs.tiles.Tiled.{tile_params, params_in_tile}
use Rattle.sd_mapx.specs.Paths.{place_of}
use Rattle.sd_mapx.specs.Conditions.{item_of}
use Rattle.sd_mapx.specs.Results.{replaced_by, collapsed_at, expanded_at, interchanged_at, tile_names, tiled_at}

-- ---- an item replaced

-- what comes to stand in the place of an item in normal form is in normal form
abbrev KeepsNormal : Replacing → Type 0
KeepsNormal replacing = (variables line : ℕ) (kind : KindTree) → IsKindNormal kind → AreItemsNormal (replacing variables line kind)

then_normal : (items others : ItemTrees) → AreItemsNormal items → AreItemsNormal others → AreItemsNormal (items_then items others)
then_normal no_item others normal behind = behind
then_normal (and_item line kind items) others normal behind = (normal.0, then_normal items others normal.1 behind)

module _ (replacing : Replacing) (keeps : KeepsNormal replacing) (names : List (List ℕ)) where
  mutual
    kind_normal : (variables : ℕ) (kind : KindTree) (path : List ℕ) → IsKindNormal kind → IsKindNormal (kind_with replacing names variables kind path)
    kind_normal variables (task code ins outs) path normal = normal
    kind_normal variables (map_scope sequential params private body) path normal = (normal.0, items_normal variables body path normal.1)
    kind_normal variables (consume_scope stream element private body) path normal = items_normal variables body path normal
    kind_normal variables (nested_graph inner links) path normal = (normal.0, graph_normal inner path normal.1)
    kind_normal variables (reduction resolution axis identity from to) path normal = normal
    kind_normal variables (copy from to) path normal = normal

    items_normal : (variables : ℕ) (items : ItemTrees) (path : List ℕ) → AreItemsNormal items → AreItemsNormal (items_with replacing names variables items path)
    items_normal variables no_item path normal = normal
    items_normal variables (and_item line kind items) [] normal = normal
    items_normal variables (and_item line kind items) (zero ∷ []) normal = then_normal (replacing variables line kind) items (keeps variables line kind normal.0) normal.1
    items_normal variables (and_item line kind items) (zero ∷ next ∷ path) normal = (kind_normal variables kind (next ∷ path) normal.0, normal.1)
    items_normal variables (and_item line kind items) (suc number ∷ path) normal = (normal.0, items_normal variables items (number ∷ path) normal.1)

    states_normal : (variables : ℕ) (states : StateTrees) (path : List ℕ) → AreStatesNormal states → AreStatesNormal (states_with replacing names variables states path)
    states_normal variables no_state path normal = normal
    states_normal variables (and_state items exits states) [] normal = normal
    states_normal variables (and_state items exits states) (zero ∷ path) normal = ((items_normal variables items path normal.0.0, normal.0.1), normal.1)
    states_normal variables (and_state items exits states) (suc number ∷ path) normal = (normal.0, states_normal variables states (number ∷ path) normal.1)

    graph_normal : (tree : GraphTree) (path : List ℕ) → IsGraphNormal tree → IsGraphNormal (graph_with replacing names tree path)
    graph_normal (graph name containers arguments variables symbols states) path normal = (normal.0, states_normal (length variables) states path normal.1)

  replaced_normal : (tree : GraphTree) (place : Option (List ℕ)) → IsGraphNormal tree → IsGraphNormal (replaced_by replacing names tree place)
  replaced_normal tree None normal = normal
  replaced_normal tree (Some place) normal = graph_normal tree place normal

-- ---- two maps as one, one as two, and two interchanged

collapsed_keeps : KeepsNormal collapsed
collapsed_keeps variables line (task code ins outs) normal = (normal, tt)
collapsed_keeps variables line (map_scope outer_sequential outer [] (and_item number (map_scope inner_sequential inner private body) no_item)) normal =
    ((all-joined (λ (param : ℕ × Range). IsRangeNormal param.1) outer inner normal.0 normal.1.0.0, normal.1.0.1), tt)
collapsed_keeps variables line (map_scope sequential params (own ∷ private) body) normal = (normal, tt)
collapsed_keeps variables line (map_scope sequential params [] no_item) normal = (normal, tt)
collapsed_keeps variables line (map_scope sequential params [] (and_item number (task code ins outs) items)) normal = (normal, tt)
collapsed_keeps variables line (map_scope sequential params [] (and_item number (map_scope inner_sequential inner private body) (and_item next other items))) normal = (normal, tt)
collapsed_keeps variables line (map_scope sequential params [] (and_item number (consume_scope stream element private body) items)) normal = (normal, tt)
collapsed_keeps variables line (map_scope sequential params [] (and_item number (nested_graph inner links) items)) normal = (normal, tt)
collapsed_keeps variables line (map_scope sequential params [] (and_item number (reduction resolution axis identity from to) items)) normal = (normal, tt)
collapsed_keeps variables line (map_scope sequential params [] (and_item number (copy from to) items)) normal = (normal, tt)
collapsed_keeps variables line (consume_scope stream element private body) normal = (normal, tt)
collapsed_keeps variables line (nested_graph inner links) normal = (normal, tt)
collapsed_keeps variables line (reduction resolution axis identity from to) normal = (normal, tt)
collapsed_keeps variables line (copy from to) normal = (normal, tt)

expanded_keeps : KeepsNormal expanded
expanded_keeps variables line (task code ins outs) normal = (normal, tt)
expanded_keeps variables line (map_scope sequential [] private body) normal = (normal, tt)
expanded_keeps variables line (map_scope sequential (first ∷ []) private body) normal = (normal, tt)
expanded_keeps variables line (map_scope sequential (first ∷ second ∷ others) private body) normal = (((normal.0.0, tt), ((normal.0.1, normal.1), tt)), tt)
expanded_keeps variables line (consume_scope stream element private body) normal = (normal, tt)
expanded_keeps variables line (nested_graph inner links) normal = (normal, tt)
expanded_keeps variables line (reduction resolution axis identity from to) normal = (normal, tt)
expanded_keeps variables line (copy from to) normal = (normal, tt)

interchanged_keeps : KeepsNormal interchanged
interchanged_keeps variables line (task code ins outs) normal = (normal, tt)
interchanged_keeps variables line (map_scope outer_sequential outer [] (and_item number (map_scope inner_sequential inner private body) no_item)) normal =
    ((normal.1.0.0, ((normal.0, normal.1.0.1), tt)), tt)
interchanged_keeps variables line (map_scope sequential params (own ∷ private) body) normal = (normal, tt)
interchanged_keeps variables line (map_scope sequential params [] no_item) normal = (normal, tt)
interchanged_keeps variables line (map_scope sequential params [] (and_item number (task code ins outs) items)) normal = (normal, tt)
interchanged_keeps variables line (map_scope sequential params [] (and_item number (map_scope inner_sequential inner private body) (and_item next other items))) normal = (normal, tt)
interchanged_keeps variables line (map_scope sequential params [] (and_item number (consume_scope stream element private body) items)) normal = (normal, tt)
interchanged_keeps variables line (map_scope sequential params [] (and_item number (nested_graph inner links) items)) normal = (normal, tt)
interchanged_keeps variables line (map_scope sequential params [] (and_item number (reduction resolution axis identity from to) items)) normal = (normal, tt)
interchanged_keeps variables line (map_scope sequential params [] (and_item number (copy from to) items)) normal = (normal, tt)
interchanged_keeps variables line (consume_scope stream element private body) normal = (normal, tt)
interchanged_keeps variables line (nested_graph inner links) normal = (normal, tt)
interchanged_keeps variables line (reduction resolution axis identity from to) normal = (normal, tt)
interchanged_keeps variables line (copy from to) normal = (normal, tt)

-- ---- tiles

one_is_some : pos 1 ≢ pos 0
one_is_some same = cc

plus_normal : (variable : ℕ) (number : ℤ) → IsAffineNormal (variable_plus variable number)
plus_normal variable number = (one_is_some, tt, tt)

in_tile_normal : (size variable : ℕ) (range : Range) → IsRangeNormal range → IsRangeNormal (range_in_tile size variable range)
in_tile_normal size variable range normal =
    let last : Affine = variable_plus variable (range.step *ℤ pos (size - 1)) in
    (plus_normal variable (pos 0), all-joined IsAffineNormal range.ends (last ∷ []) normal.1 (plus_normal variable (range.step *ℤ pos (size - 1)), tt))

tiles_normal : (sizes : List ℕ) (variable : ℕ) (params : List (ℕ × Range)) → AreParamsNormal params → AreParamsNormal (tile_params sizes variable params)
tiles_normal [] variable params normal = tt
tiles_normal (size ∷ sizes) variable [] normal = normal
tiles_normal (size ∷ sizes) variable (param ∷ params) normal = (normal.0, tiles_normal sizes (suc variable) params normal.1)

inner_normal : (sizes : List ℕ) (variable : ℕ) (params : List (ℕ × Range)) → AreParamsNormal params → AreParamsNormal (params_in_tile sizes variable params)
inner_normal [] variable params normal = tt
inner_normal (size ∷ sizes) variable [] normal = normal
inner_normal (size ∷ sizes) variable (param ∷ params) normal = (in_tile_normal size variable param.1 normal.0, inner_normal sizes (suc variable) params normal.1)

tiled_keeps : (sizes : List ℕ) → KeepsNormal (tiled_by sizes)
tiled_keeps sizes variables line (task code ins outs) normal = (normal, tt)
tiled_keeps sizes variables line (map_scope sequential params private body) normal =
    ((tiles_normal sizes variables params normal.0, ((inner_normal sizes variables params normal.0, normal.1), tt)), tt)
tiled_keeps sizes variables line (consume_scope stream element private body) normal = (normal, tt)
tiled_keeps sizes variables line (nested_graph inner links) normal = (normal, tt)
tiled_keeps sizes variables line (reduction resolution axis identity from to) normal = (normal, tt)
tiled_keeps sizes variables line (copy from to) normal = (normal, tt)

-- ---- at a path

pub collapsed_normal : (tree : GraphTree) (path : List ℕ) → IsGraphNormal tree → IsGraphNormal (collapsed_at tree path)
collapsed_normal tree path normal = replaced_normal collapsed collapsed_keeps [] tree (place_of tree path) normal

pub expanded_normal : (tree : GraphTree) (path : List ℕ) → IsGraphNormal tree → IsGraphNormal (expanded_at tree path)
expanded_normal tree path normal = replaced_normal expanded expanded_keeps [] tree (place_of tree path) normal

pub interchanged_normal : (tree : GraphTree) (path : List ℕ) → IsGraphNormal tree → IsGraphNormal (interchanged_at tree path)
interchanged_normal tree path normal = replaced_normal interchanged interchanged_keeps [] tree (place_of tree path) normal

pub tiled_normal : (tree : GraphTree) (path sizes : List ℕ) → IsGraphNormal tree → IsGraphNormal (tiled_at tree path sizes)
tiled_normal tree path sizes normal = replaced_normal (tiled_by sizes) (tiled_keeps sizes) (tile_names (item_of tree path)) tree (place_of tree path) normal
