-- Where an item of a graph stands.
use Rattle.std.specs.Prelude.{◌≡◌, ◌⊎◌, ℕ, List, [], ◌++◌}
use Rattle.sd_subset.specs.boxes.Box.{Parameter}
use Rattle.sd_graph.specs.PlainTree.{KindTree, task, map_scope, consume_scope, nested_graph, reduction, copy, ItemTrees, no_item, and_item, StateTrees, no_state, and_state, GraphTree, graph}
use Rattle.sd_graph.specs.ContainerParts.{Containers}
use Rattle.sd_graph.specs.Wiring.{kind_uses}
use Rattle.sd_graph.specs.Context.{Context}
use Rattle.sd_safe.specs.safe.Reached.{MayStand}

-- the containers of the graph in which it stands, and the parameters of the maps around it, the outermost first
pub record Spot : Type 0 where
  pub containers : Containers
  pub around : List Parameter

abbrev mutual
  -- an item does this, or one in it
  pub StandsInKind : KindTree → Spot → (kind : KindTree) → (here : Spot) → Type 0
  StandsInKind sought at (task code ins outs) here = ⊥
  StandsInKind sought at (map_scope sequential params private body) here = StandsInItems sought at body (record here { around = here.around ++ params })
  StandsInKind sought at (consume_scope stream element private body) here = StandsInItems sought at body here
  StandsInKind sought at (nested_graph inner links) here = StandsInGraph sought at inner
  StandsInKind sought at (reduction resolution axis identity from to) here = ⊥
  StandsInKind sought at (copy from to) here = ⊥

  -- one of these items does, or one in them
  pub StandsInItems : KindTree → Spot → ItemTrees → (here : Spot) → Type 0
  StandsInItems sought at no_item here = ⊥
  StandsInItems sought at (and_item line kind items) here = ((kind ≡ sought) × (here ≡ at)) ⊎ (StandsInKind sought at kind here ⊎ StandsInItems sought at items here)

  pub StandsInStates : KindTree → Spot → StateTrees → Containers → Type 0
  StandsInStates sought at no_state containers = ⊥
  StandsInStates sought at (and_state items exits states) containers =
      StandsInItems sought at items (record { containers = containers; around = [] }) ⊎ StandsInStates sought at states containers

  -- what is sought stands at this spot in a graph, or in one that is nested in it
  pub StandsInGraph : KindTree → Spot → GraphTree → Type 0
  StandsInGraph sought at (graph name containers arguments variables symbols states) = StandsInStates sought at states containers

-- a context in which an item at a spot may be done alone, over one memory in which all that it reaches lies
pub record StandsAlone (context : Context) (kind : KindTree) (around : List Parameter) : Type 0 where
  pub stands : MayStand context around (kind_uses kind context.containers)
  pub here : (number : ℕ) → (context.reach number).level ≡ 0
