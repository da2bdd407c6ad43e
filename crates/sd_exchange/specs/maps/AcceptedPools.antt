-- Graphs whose consume scopes are accepted, whatever their maps do.
use Rattle.std.specs.Prelude.{◌∷◌, ⊤}
use Rattle.sd_graph.specs.ContainerParts.{Containers}
use Rattle.sd_graph.specs.PlainTree.{KindTree, task, map_scope, consume_scope, nested_graph, reduction, copy, ItemTrees, no_item, and_item, StateTrees, no_state, and_state, GraphTree, graph}
use Rattle.std.specs.List.{AllByRecursion}
use Rattle.sd_prop.specs.propagation.Scopes.{Over, points, elements, Scope, all_scopes}
use Rattle.sd_race.specs.race.Pairs.{IsScopeAccepted}
use Rattle.sd_exchange.specs.maps.Accepting.{IsConsumeAccepted}
use Rattle.sd_graph.specs.Wiring.{outside, item_uses}

abbrev mutual
  -- each consume scope of an item is accepted, those of nested graphs included
  pub HasAcceptedPools : KindTree → Containers → Type 0
  HasAcceptedPools (task code ins outs) containers = ⊤
  HasAcceptedPools (map_scope sequential params private body) containers = HaveAcceptedPools body containers
  HasAcceptedPools (consume_scope stream element private body) containers =
      IsConsumeAccepted (outside (element ∷ private) (item_uses body containers)) × HaveAcceptedPools body containers
  HasAcceptedPools (nested_graph inner links) containers = GraphHasAcceptedPools inner
  HasAcceptedPools (reduction resolution axis identity from to) containers = ⊤
  HasAcceptedPools (copy from to) containers = ⊤

  pub HaveAcceptedPools : ItemTrees → Containers → Type 0
  HaveAcceptedPools no_item containers = ⊤
  HaveAcceptedPools (and_item line kind items) containers = HasAcceptedPools kind containers × HaveAcceptedPools items containers

  pub StatesHaveAcceptedPools : StateTrees → Containers → Type 0
  StatesHaveAcceptedPools no_state containers = ⊤
  StatesHaveAcceptedPools (and_state items exits states) containers = HaveAcceptedPools items containers × StatesHaveAcceptedPools states containers

  pub GraphHasAcceptedPools : GraphTree → Type 0
  GraphHasAcceptedPools (graph name containers arguments variables symbols states) = StatesHaveAcceptedPools states containers

-- a scope that is done for each element of a stream
abbrev pub IsOverElements : Over → Type 0
IsOverElements (points sequential params) = ⊥
IsOverElements elements = ⊤

-- condition 8: each consume scope of the whole graph, nested graphs included, is accepted
abbrev pub IsPoolAccepted : Scope → Type 0
IsPoolAccepted scope = IsOverElements scope.over → IsScopeAccepted scope

abbrev pub ArePoolsAccepted : GraphTree → Type 0
ArePoolsAccepted tree = AllByRecursion IsPoolAccepted (all_scopes tree)
