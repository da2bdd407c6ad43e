-- Graphs in which each container that is named is in force there.
use Rattle.std.specs.Prelude.{◌≡◌, ◌⊎◌, ℕ, ◌<◌, List, [], ◌∷◌, ◌++◌, length, Option, Some, None, Bool, true, false, ⊤}
use Rattle.std.specs.List.{AllByRecursion}
use Rattle.sd_graph.specs.PlainTree.{KindTree, task, map_scope, consume_scope, nested_graph, reduction, copy, ItemTrees, no_item, and_item, StateTrees, no_state, and_state, GraphTree, graph, GuardTree, ExitTree}
use Rattle.sd_graph.specs.ContainerParts.{Containers, container_at, extents_of}
use Rattle.sd_graph.specs.Wiring.{has_number}
use Rattle.sd_graph.specs.declared.container.ContainerKind.{ContainerKind}
use Rattle.sd_graph.specs.declared.container.ContainerKind.TheVariants.{Argument, Transient, Private, Stream, PrivateStream}
use Rattle.sd_graph.specs.declared.link.Link.{Link}

-- one that belongs to the points or elements of a scope
abbrev pub is_private : ContainerKind → Bool
is_private Argument = false
is_private Transient = false
is_private Private = true
is_private Stream = false
is_private PrivateStream = true

-- A container is in force: the graph has it, and it is in force in the whole graph, or is one of the private containers of the scopes round here.
abbrev pub IsInForce : Containers → (private : List ℕ) → (number : ℕ) → Type 0
IsInForce containers private number =
    (number < length containers) × ((is_private (container_at containers number).kind ≡ false) ⊎ (has_number private number ≡ true))

-- the containers of links are in force
abbrev pub AreLinksInForce : Containers → (private : List ℕ) → List Link → Type 0
AreLinksInForce containers private links = AllByRecursion (λ link. IsInForce containers private link.memlet.container) links

-- the containers that a condition reads are in force where no scope is
abbrev pub IsConditionInForce : Containers → Option GuardTree → Type 0
IsConditionInForce containers None = ⊤
IsConditionInForce containers (Some guard) = AreLinksInForce containers [] guard.reads

-- those of the conditions of transitions
abbrev pub AreExitsInForce : Containers → List ExitTree → Type 0
AreExitsInForce containers exits = AllByRecursion (λ exit. IsConditionInForce containers exit.when) exits

-- the element of a consume scope is a private array with one element
abbrev pub IsElement : Containers → (number : ℕ) → Type 0
IsElement containers number = ((container_at containers number).kind ≡ Private) × (extents_of (container_at containers number) ≡ 1 ∷ [])

-- Each container that an item names is in force where it is named. In the body of a scope its list of private containers is in force too,
-- and the element of a consume scope; a nested graph has containers of its own.
abbrev mutual
  pub IsKindInForce : KindTree → Containers → (private : List ℕ) → Type 0
  IsKindInForce (task code ins outs) containers private = AreLinksInForce containers private ins × AreLinksInForce containers private outs
  IsKindInForce (map_scope sequential params own body) containers private = AreItemsInForce body containers (own ++ private)
  IsKindInForce (consume_scope stream element own body) containers private =
      IsInForce containers private stream × IsElement containers element × AreItemsInForce body containers (element ∷ own ++ private)
  IsKindInForce (nested_graph inner links) containers private = AreLinksInForce containers private links × AreContainersInForce inner
  IsKindInForce (reduction resolution axis identity from to) containers private = AreLinksInForce containers private (from ∷ to ∷ [])
  IsKindInForce (copy from to) containers private = AreLinksInForce containers private (from ∷ to ∷ [])

  pub AreItemsInForce : ItemTrees → Containers → (private : List ℕ) → Type 0
  AreItemsInForce no_item containers private = ⊤
  AreItemsInForce (and_item line kind items) containers private = IsKindInForce kind containers private × AreItemsInForce items containers private

  pub AreStatesInForce : StateTrees → Containers → Type 0
  AreStatesInForce no_state containers = ⊤
  AreStatesInForce (and_state items exits states) containers =
      AreItemsInForce items containers [] × AreExitsInForce containers exits × AreStatesInForce states containers

  -- so it is in each state of a graph, and in the graphs nested in it
  pub AreContainersInForce : GraphTree → Type 0
  AreContainersInForce (graph name containers arguments variables symbols states) = AreStatesInForce states containers
