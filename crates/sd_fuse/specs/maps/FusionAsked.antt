-- What MapFusion asks of the items of a list from the first map on, in a valid graph.
use Rattle.std.specs.Prelude.{◌≡◌, ℕ, List, Bool, true}
use Rattle.sd_subset.specs.boxes.Box.{Parameter}
use Rattle.sd_graph.specs.ContainerParts.{Containers}
use Rattle.sd_graph.specs.Wiring.{kind_uses}
use Rattle.sd_graph.specs.PlainTree.{map_scope, ItemTrees, and_item}
use Rattle.sd_prop.specs.propagation.Accesses.{item_accesses, outside_accesses}
use Rattle.sd_fuse.specs.renamed.Renamed.{items_renamed}
use Rattle.sd_exchange.specs.maps.Tails.{Asked}
use Rattle.sd_fuse.specs.maps.Cross.{CrossHarmlessly}
use Rattle.sd_fuse.specs.maps.Gathered.{early, is_free_of}
use Rattle.sd_fuse.specs.maps.MapRenamed.{names_for, HaveSameRanges}
use Rattle.sd_fuse.specs.maps.FusionRewrite.{items_before, items_from}

-- each conflicting pair of accesses, one of each body, is harmless, where the second body has the parameters of the first map
pub record AreBodiesHarmless (containers : Containers) (around params others : List Parameter) (private own : List ℕ) (body other : ItemTrees) : Type 0 where
  pub nodes : List ℕ
  pub other_nodes : List ℕ
  pub harmless : CrossHarmlessly around params (outside_accesses private (item_accesses body containers nodes))
      (outside_accesses own (item_accesses (items_renamed (names_for others params) other) containers other_nodes))

-- the ranges are equal after renaming, no item between is on a path from the first to the second, and the bodies are harmless to each other
pub record FusionAskedOf (first_sequential second_sequential : Bool) (containers : Containers) (around params others : List Parameter) (private own : List ℕ) (body other between : ItemTrees) : Type 0 where
  pub ranges : HaveSameRanges (names_for others params) others params
  pub free : is_free_of containers (kind_uses (map_scope first_sequential params private body) containers) (early containers between (kind_uses (map_scope second_sequential others own other) containers)) ≡ true
  pub bodies : AreBodiesHarmless containers around params others private own body other

abbrev pub FusionAskedWith : Containers → (sequential : Bool) → (around params : List Parameter) → List ℕ → ItemTrees → (between : ItemTrees) → (behind : ItemTrees) → Type 0
FusionAskedWith containers sequential around params private body between (and_item there (map_scope other_sequential others own other) items) =
    FusionAskedOf sequential other_sequential containers around params others private own body other between
FusionAskedWith containers sequential around params private body between behind = ⊥

-- the first is a map, so is the one that stands so many behind the next, and this holds of the two
abbrev pub FusionAsked : (distance : ℕ) → Asked
FusionAsked distance containers around variables (and_item line (map_scope sequential params private body) items) =
    FusionAskedWith containers sequential around params private body (items_before distance items) (items_from distance items)
FusionAsked distance containers around variables items = ⊥
