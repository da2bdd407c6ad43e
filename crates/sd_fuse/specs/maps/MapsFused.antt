-- MapFusion: two maps of a list as one.
use Rattle.std.specs.Prelude.{◌≡◌, ◌++◌, ℕ, List, Bool, true, ◌||◌}
use Rattle.sd_subset.specs.boxes.Box.{Parameter}
use Rattle.sd_graph.specs.ContainerParts.{Containers}
use Rattle.sd_graph.specs.Wiring.{kind_uses}
use Rattle.sd_graph.specs.PlainTree.{map_scope, ItemTrees, and_item}
use Rattle.sd_alike.specs.alike.Places.{items_then}
use Rattle.sd_prop.specs.propagation.Accesses.{item_accesses, outside_accesses}
use Rattle.sd_fuse.specs.renamed.Renamed.{items_renamed}
use Rattle.sd_fuse.specs.ends.Avoids.{ArePrivate}
use Rattle.sd_fuse.specs.maps.Cross.{CrossHarmlessly}
use Rattle.sd_fuse.specs.maps.MapRenamed.{names_for, MayRename}
use Rattle.sd_fuse.specs.maps.Gathered.{early, late, is_free_of}

-- the two may be fused: the second one's parameters may be renamed to the first one's, no item between them is on a path from the first to the second, each conflicting pair
-- of accesses, one of each body, is harmless, and neither body mentions the other's private containers
pub record MayFuse (first_sequential second_sequential : Bool) (containers : Containers) (around params others : List Parameter) (private own : List ℕ) (body other between : ItemTrees) : Type 0 where
  pub rename : MayRename second_sequential around others params own other
  pub free : is_free_of containers (kind_uses (map_scope first_sequential params private body) containers) (early containers between (kind_uses (map_scope second_sequential others own other) containers)) ≡ true
  pub nodes : List ℕ
  pub other_nodes : List ℕ
  pub harmless : CrossHarmlessly around params (outside_accesses private (item_accesses body containers nodes)) (outside_accesses own (item_accesses (items_renamed (names_for others params) other) containers other_nodes))
  pub private_to : ArePrivate private own body (items_renamed (names_for others params) other)

-- the items of a list from the first map on: of those between the two the ones with a path to the second, the one map with both bodies, the others between, and the rest
pub data MapsFused : Containers → List Parameter → ItemTrees → ItemTrees → Type 0 where
  maps_fused : (first_sequential second_sequential : Bool) (containers : Containers) (around params others : List Parameter) (private own : List ℕ) (line there : ℕ) (body other between items : ItemTrees) → MayFuse first_sequential second_sequential containers around params others private own body other between →
      MapsFused containers around (and_item line (map_scope first_sequential params private body) (items_then between (and_item there (map_scope second_sequential others own other) items)))
      (items_then (early containers between (kind_uses (map_scope second_sequential others own other) containers))
      (and_item line (map_scope (first_sequential || second_sequential) params (private ++ own) (items_then body (items_renamed (names_for others params) other))) (items_then (late containers between (kind_uses (map_scope second_sequential others own other) containers)) items)))
