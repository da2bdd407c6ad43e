-- The items between two maps of a list, those that lead to the second one before both, the others behind both.
use Rattle.std.specs.Prelude.{◌≡◌, ℕ, List, Bool, true, not, ◌&&◌, ◌||◌, if◌then◌else◌}
use Rattle.sd_subset.specs.boxes.Box.{Parameter}
use Rattle.sd_graph.specs.ContainerParts.{Containers}
use Rattle.sd_graph.specs.Wiring.{Use, kind_uses, items_conflict}
use Rattle.sd_graph.specs.PlainTree.{KindTree, ItemTrees, no_item, and_item}
use Rattle.sd_alike.specs.alike.Places.{items_then}

-- a path leads from an item, over these, to the one behind them
abbrev pub leads_over : Containers → (from : List Use) → (between : ItemTrees) → (target : List Use) → Bool
leads_over containers from no_item target = items_conflict from target
leads_over containers from (and_item line kind items) target =
    leads_over containers from items target || (items_conflict from (kind_uses kind containers) && leads_over containers (kind_uses kind containers) items target)

-- of these, the ones from which a path leads to the one behind them
abbrev pub early : Containers → (between : ItemTrees) → (target : List Use) → ItemTrees
early containers no_item target = no_item
early containers (and_item line kind items) target =
    if leads_over containers (kind_uses kind containers) items target then and_item line kind (early containers items target) else early containers items target

-- and the others
abbrev pub late : Containers → (between : ItemTrees) → (target : List Use) → ItemTrees
late containers no_item target = no_item
late containers (and_item line kind items) target =
    if leads_over containers (kind_uses kind containers) items target then late containers items target else and_item line kind (late containers items target)

-- none of these items conflicts with one that does this
abbrev pub is_free_of : Containers → (uses : List Use) → ItemTrees → Bool
is_free_of containers uses no_item = true
is_free_of containers uses (and_item line kind items) = not (items_conflict uses (kind_uses kind containers)) && is_free_of containers uses items

-- of a list the first item and a later one, between which no item is on a path, come to stand side by side
pub data Gathered : Containers → List Parameter → ItemTrees → ItemTrees → Type 0 where
  gathered : (containers : Containers) (around : List Parameter) (line there : ℕ) (kind other : KindTree) (between items : ItemTrees) →
      is_free_of containers (kind_uses kind containers) (early containers between (kind_uses other containers)) ≡ true →
      Gathered containers around (and_item line kind (items_then between (and_item there other items)))
      (items_then (early containers between (kind_uses other containers)) (and_item line kind (and_item there other (items_then (late containers between (kind_uses other containers)) items))))

-- the other way round
pub data GatheredBack : Containers → List Parameter → ItemTrees → ItemTrees → Type 0 where
  spread : (containers : Containers) (around : List Parameter) (items others : ItemTrees) → Gathered containers around others items → GatheredBack containers around items others
