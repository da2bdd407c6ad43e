-- MapFusion of the items of a list from one on: when, and what comes to stand there.
use Rattle.std.specs.Prelude.{◌++◌, ℕ, zero, suc, List, Bool, ◌||◌}
use Rattle.sd_subset.specs.boxes.Box.{Parameter}
use Rattle.sd_graph.specs.ContainerParts.{Containers}
use Rattle.sd_graph.specs.Wiring.{kind_uses}
use Rattle.sd_graph.specs.PlainTree.{map_scope, ItemTrees, no_item, and_item}
use Rattle.sd_alike.specs.alike.Places.{items_then}
use Rattle.sd_fuse.specs.renamed.Renamed.{items_renamed}
use Rattle.sd_exchange.specs.maps.Tails.{Tailing, Asked}
use Rattle.sd_fuse.specs.maps.MapRenamed.{names_for}
use Rattle.sd_fuse.specs.maps.Gathered.{early, late}
use Rattle.sd_fuse.specs.maps.MapsFused.{MayFuse}

-- so many items
abbrev pub items_before : (number : ℕ) → ItemTrees → ItemTrees
items_before zero items = no_item
items_before (suc number) no_item = no_item
items_before (suc number) (and_item line kind items) = and_item line kind (items_before number items)

-- those behind so many
abbrev pub items_from : (number : ℕ) → ItemTrees → ItemTrees
items_from zero items = items
items_from (suc number) no_item = no_item
items_from (suc number) (and_item line kind items) = items_from number items

-- of the items between the two the ones with a path to the second, the one map, the others, and the rest
abbrev pub fused_with : (line : ℕ) → Containers → (sequential : Bool) → List Parameter → List ℕ → ItemTrees → (between : ItemTrees) → (behind : ItemTrees) → ItemTrees
fused_with line containers sequential params private body between (and_item there (map_scope other_sequential others own other) items) =
    items_then (early containers between (kind_uses (map_scope other_sequential others own other) containers))
    (and_item line (map_scope (sequential || other_sequential) params (private ++ own) (items_then body (items_renamed (names_for others params) other)))
    (items_then (late containers between (kind_uses (map_scope other_sequential others own other) containers)) items))
fused_with line containers sequential params private body between behind = and_item line (map_scope sequential params private body) (items_then between behind)

-- the first item fused with the one that stands so many behind the next
abbrev pub fused_by : (distance : ℕ) → Tailing
fused_by distance variables containers (and_item line (map_scope sequential params private body) items) =
    fused_with line containers sequential params private body (items_before distance items) (items_from distance items)
fused_by distance variables containers items = items

abbrev pub CanFuseWith : Containers → (sequential : Bool) → (around params : List Parameter) → List ℕ → ItemTrees → (between : ItemTrees) → (behind : ItemTrees) → Type 0
CanFuseWith containers sequential around params private body between (and_item there (map_scope other_sequential others own other) items) =
    MayFuse sequential other_sequential containers around params others private own body other between
CanFuseWith containers sequential around params private body between behind = ⊥

-- the first item may be fused with that one
abbrev pub CanFuse : (distance : ℕ) → Asked
CanFuse distance containers around variables (and_item line (map_scope sequential params private body) items) =
    CanFuseWith containers sequential around params private body (items_before distance items) (items_from distance items)
CanFuse distance containers around variables items = ⊥
