-- Two maps over the same points, one behind the other, as one map.
use Rattle.std.specs.Prelude.{◌++◌, ℕ, List, Bool, ◌||◌}
use Rattle.sd_subset.specs.boxes.Box.{Parameter}
use Rattle.sd_graph.specs.ContainerParts.{Containers}
use Rattle.sd_graph.specs.PlainTree.{map_scope, ItemTrees, and_item}
use Rattle.sd_alike.specs.alike.Places.{items_then}
use Rattle.sd_prop.specs.propagation.Accesses.{item_accesses, outside_accesses}
use Rattle.sd_fuse.specs.ends.Avoids.{ArePrivate}
use Rattle.sd_fuse.specs.maps.Cross.{CrossHarmlessly}

-- of some items the first two are maps over the same points whose bodies cross harmlessly, and one map with both bodies stands for them; its points come one after another where those of either do
pub data Fused : Containers → List Parameter → ItemTrees → ItemTrees → Type 0 where
  fused : (first_sequential second_sequential : Bool) (containers : Containers) (around params : List Parameter) (private own nodes others : List ℕ) (line there : ℕ) (body other items : ItemTrees) →
      CrossHarmlessly around params (outside_accesses private (item_accesses body containers nodes)) (outside_accesses own (item_accesses other containers others)) → ArePrivate private own body other →
      Fused containers around (and_item line (map_scope first_sequential params private body) (and_item there (map_scope second_sequential params own other) items))
      (and_item line (map_scope (first_sequential || second_sequential) params (private ++ own) (items_then body other)) items)

-- the other way round
pub data FusedBack : Containers → List Parameter → ItemTrees → ItemTrees → Type 0 where
  apart_again : (containers : Containers) (around : List Parameter) (items others : ItemTrees) → Fused containers around others items → FusedBack containers around items others
