-- A map behind another one, with the parameters of that one.
use Rattle.std.specs.Prelude.{◌≡◌, ℕ, List, [], ◌∷◌, Bool, ⊤}
use Rattle.sd_subset.specs.boxes.Box.{Parameter}
use Rattle.sd_graph.specs.ContainerParts.{Containers}
use Rattle.sd_graph.specs.PlainTree.{map_scope, ItemTrees, and_item}
use Rattle.sd_race.specs.cover.Fit.{IsFit}
use Rattle.sd_fuse.specs.renamed.Renamed.{Names, range_renamed, items_renamed, ItemsSpare}
use Rattle.sd_fuse.specs.ends.NamesOthers.{ItemsNameOthers}

-- the parameters of one map with those of another one for their new names
abbrev pub names_for : (params others : List Parameter) → Names
names_for [] others = []
names_for (param ∷ params) [] = []
names_for (param ∷ params) (other ∷ others) = (param.0, other.0) ∷ names_for params others

-- there are as many of both, with equal ranges after renaming
abbrev pub HaveSameRanges : Names → (params others : List Parameter) → Type 0
HaveSameRanges names [] [] = ⊤
HaveSameRanges names [] (other ∷ others) = ⊥
HaveSameRanges names (param ∷ params) [] = ⊥
HaveSameRanges names (param ∷ params) (other ∷ others) = (range_renamed names param.1 ≡ other.1) × HaveSameRanges names params others

-- the parameters may be given these names: the ranges are the same, the body names none of the new ones, and its scopes have none of either
pub record MayRename (sequential : Bool) (around params others : List Parameter) (own : List ℕ) (body : ItemTrees) : Type 0 where
  pub valid : IsFit (map_scope sequential params own body) around
  pub ranges : HaveSameRanges (names_for params others) params others
  pub free : ItemsNameOthers others body
  pub spare : ItemsSpare (names_for params others) body

-- the second of two maps gets the parameters of the first
pub data MapRenamed : Containers → List Parameter → ItemTrees → ItemTrees → Type 0 where
  map_renamed : (first_sequential second_sequential : Bool) (containers : Containers) (around params others : List Parameter) (private own : List ℕ) (line there : ℕ) (body other items : ItemTrees) → MayRename second_sequential around others params own other →
      MapRenamed containers around (and_item line (map_scope first_sequential params private body) (and_item there (map_scope second_sequential others own other) items))
      (and_item line (map_scope first_sequential params private body) (and_item there (map_scope second_sequential params own (items_renamed (names_for others params) other)) items))

-- the other way round
pub data MapRenamedBack : Containers → List Parameter → ItemTrees → ItemTrees → Type 0 where
  named_again : (containers : Containers) (around : List Parameter) (items others : ItemTrees) → MapRenamed containers around others items → MapRenamedBack containers around items others
