-- Two maps, one alone in the other, exchanged.
use Rattle.std.specs.Prelude.{Bool, ℕ, List, []}
use Rattle.std.specs.List.{AllByRecursion}
use Rattle.sd_subset.specs.boxes.Box.{Parameter}
use Rattle.sd_subset.specs.boxes.InForce.{RangeNamesOthers}
use Rattle.sd_graph.specs.ContainerParts.{Containers}
use Rattle.sd_graph.specs.PlainTree.{KindTree, map_scope, ItemTrees, and_item}
use Rattle.sd_exchange.specs.ends.Points.{alone}
use Rattle.sd_race.specs.cover.Fit.{IsFit}
use Rattle.sd_race.specs.race.Pairs.{IsFreeOfRaces}
use Rattle.sd_prop.specs.propagation.Scopes.{points, scope_of}

-- a map without private containers round another one
abbrev pub nest_of : (first_sequential second_sequential : Bool) → (first second : List Parameter) → (private : List ℕ) → (line : ℕ) → ItemTrees → KindTree
nest_of first_sequential second_sequential first second private line body = map_scope first_sequential first [] (alone line (map_scope second_sequential second private body))

-- the two may be exchanged: the inner ranges name no outer parameter, and the outer scope is free of races
pub record MayInterchange (first_sequential second_sequential : Bool) (containers : Containers) (around first second : List Parameter) (private : List ℕ) (line : ℕ) (body : ItemTrees) : Type 0 where
  pub valid : IsFit (nest_of first_sequential second_sequential first second private line body) around
  pub ranges : AllByRecursion (λ (parameter : Parameter). RangeNamesOthers first parameter.1) second
  pub path : List ℕ
  pub nodes : List ℕ
  pub free : IsFreeOfRaces (scope_of (points first_sequential first) [] (alone line (map_scope second_sequential second private body)) containers path around nodes)

-- the first of some items is such a nest, and the two parameter lists are exchanged
pub data Interchanged : Containers → List Parameter → ItemTrees → ItemTrees → Type 0 where
  interchanged : (first_sequential second_sequential : Bool) (containers : Containers) (around first second : List Parameter) (private : List ℕ) (place there line other : ℕ) (body items : ItemTrees) → MayInterchange first_sequential second_sequential containers around first second private line body →
      Interchanged containers around (and_item place (nest_of first_sequential second_sequential first second private line body) items) (and_item there (nest_of second_sequential first_sequential second first private other body) items)

-- the other way round
pub data InterchangedBack : Containers → List Parameter → ItemTrees → ItemTrees → Type 0 where
  back : (containers : Containers) (around : List Parameter) (items others : ItemTrees) → Interchanged containers around others items → InterchangedBack containers around items others
