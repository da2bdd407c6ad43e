-- Graphs in which streams are only pushed into and consumed, and each nested graph has a link for each of its arguments.
use Rattle.std.specs.Prelude.{◌≡◌, ℕ, zero, suc, List, [], ◌∷◌, length, Option, Some, None, true, false, ⊤}
use Rattle.std.specs.List.{AllByRecursion}
use Rattle.sd_graph.specs.PlainTree.{KindTree, task, map_scope, consume_scope, nested_graph, reduction, copy, ItemTrees, no_item, and_item, StateTrees, no_state, and_state, GraphTree, graph, GuardTree, ExitTree}
use Rattle.sd_graph.specs.ContainerParts.{Containers, container_at, is_stream, is_argument}
use Rattle.sd_graph.specs.declared.link.Link.{Link}

-- ---- streams

-- the links are to arrays
abbrev pub AreToArrays : Containers → List Link → Type 0
AreToArrays containers links = AllByRecursion (λ link. is_stream (container_at containers link.memlet.container).kind ≡ false) links

-- a condition reads arrays
abbrev pub IsConditionOnArrays : Containers → Option GuardTree → Type 0
IsConditionOnArrays containers None = ⊤
IsConditionOnArrays containers (Some guard) = AreToArrays containers guard.reads

-- so do the conditions of transitions
abbrev pub AreExitsOnArrays : Containers → List ExitTree → Type 0
AreExitsOnArrays containers exits = AllByRecursion (λ exit. IsConditionOnArrays containers exit.when) exits

-- streams are pushed into by outputs of tasklets alone, and consumed; what is consumed is a stream
abbrev mutual
  pub KindHasStreamsInPlace : KindTree → Containers → Type 0
  KindHasStreamsInPlace (task code ins outs) containers = AreToArrays containers ins
  KindHasStreamsInPlace (map_scope sequential params private body) containers = ItemsHaveStreamsInPlace body containers
  KindHasStreamsInPlace (consume_scope stream element private body) containers =
      (is_stream (container_at containers stream).kind ≡ true) × ItemsHaveStreamsInPlace body containers
  KindHasStreamsInPlace (nested_graph inner links) containers = AreToArrays containers links × HasStreamsInPlace inner
  KindHasStreamsInPlace (reduction resolution axis identity from to) containers = AreToArrays containers (from ∷ to ∷ [])
  KindHasStreamsInPlace (copy from to) containers = AreToArrays containers (from ∷ to ∷ [])

  pub ItemsHaveStreamsInPlace : ItemTrees → Containers → Type 0
  ItemsHaveStreamsInPlace no_item containers = ⊤
  ItemsHaveStreamsInPlace (and_item line kind items) containers = KindHasStreamsInPlace kind containers × ItemsHaveStreamsInPlace items containers

  pub StatesHaveStreamsInPlace : StateTrees → Containers → Type 0
  StatesHaveStreamsInPlace no_state containers = ⊤
  StatesHaveStreamsInPlace (and_state items exits states) containers =
      ItemsHaveStreamsInPlace items containers × AreExitsOnArrays containers exits × StatesHaveStreamsInPlace states containers

  -- so it is in each state of a graph, and in the graphs nested in it
  pub HasStreamsInPlace : GraphTree → Type 0
  HasStreamsInPlace (graph name containers arguments variables symbols states) = StatesHaveStreamsInPlace states containers

-- ---- links of nested graphs

-- how many arguments a graph has
abbrev pub arguments_of : GraphTree → ℕ
arguments_of (graph name containers arguments variables symbols states) = arguments

-- the first so many containers are the arguments, and no others
abbrev pub ArgumentsComeFirst : (arguments : ℕ) → Containers → Type 0
ArgumentsComeFirst zero [] = ⊤
ArgumentsComeFirst (suc arguments) [] = ⊥
ArgumentsComeFirst zero (entry ∷ entries) = (is_argument entry.1.kind ≡ false) × ArgumentsComeFirst zero entries
ArgumentsComeFirst (suc arguments) (entry ∷ entries) = (is_argument entry.1.kind ≡ true) × ArgumentsComeFirst arguments entries

-- a nested graph has as many links as arguments, which are the first of its containers
abbrev mutual
  pub IsKindLinked : KindTree → Type 0
  IsKindLinked (task code ins outs) = ⊤
  IsKindLinked (map_scope sequential params private body) = AreItemsLinked body
  IsKindLinked (consume_scope stream element private body) = AreItemsLinked body
  IsKindLinked (nested_graph inner links) = (length links ≡ arguments_of inner) × IsLinked inner
  IsKindLinked (reduction resolution axis identity from to) = ⊤
  IsKindLinked (copy from to) = ⊤

  pub AreItemsLinked : ItemTrees → Type 0
  AreItemsLinked no_item = ⊤
  AreItemsLinked (and_item line kind items) = IsKindLinked kind × AreItemsLinked items

  pub AreStatesLinked : StateTrees → Type 0
  AreStatesLinked no_state = ⊤
  AreStatesLinked (and_state items exits states) = AreItemsLinked items × AreStatesLinked states

  -- so it is in each state of a graph, and in the graphs nested in it
  pub IsLinked : GraphTree → Type 0
  IsLinked (graph name containers arguments variables symbols states) = ArgumentsComeFirst arguments containers × AreStatesLinked states
