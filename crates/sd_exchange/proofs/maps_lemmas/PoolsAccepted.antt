-- Where each consume scope is accepted by the race check, all pools are.
use Rattle.std.specs.List.{AllByRecursion}
use Rattle.std.proofs.Common.{suc, ℕ, List, [], ◌∷◌, ◌++◌}
use Rattle.sd_subset.specs.boxes.Box.{Parameter}
use Rattle.sd_graph.specs.ContainerParts.{Containers}
use Rattle.sd_graph.specs.PlainTree.{KindTree, task, map_scope, consume_scope, nested_graph, reduction, copy, ItemTrees, no_item, and_item, StateTrees, no_state, and_state, GraphTree, graph}
use Rattle.sd_prop.specs.propagation.ItemNodes.{item_nodes, own_node, nodes_behind, past}
use Rattle.sd_prop.specs.propagation.Scopes.{further, scopes_itself, scopes_inside, item_scopes, state_scopes, scopes_of}
use Rattle.sd_race.proofs.race_lemmas.Members.{all-parts}
use Rattle.sd_safe.proofs.safe_lemmas.Accepting.{elements-free}
use Rattle.sd_exchange.specs.maps.AcceptedPools.{IsPoolAccepted, ArePoolsAccepted, HasAcceptedPools, HaveAcceptedPools, StatesHaveAcceptedPools, GraphHasAcceptedPools}
use Rattle.sd_exchange.proofs.maps_lemmas.Keeping.{accepted-modes}

mutual
  kind-has : (kind : KindTree) (containers : Containers) (path : List ℕ) (around : List Parameter) (nodes : List ℕ) → AllByRecursion IsPoolAccepted (scopes_itself kind containers path around nodes) →
      AllByRecursion IsPoolAccepted (scopes_inside kind containers path around nodes) → HasAcceptedPools kind containers
  kind-has (task code ins outs) containers path around nodes itself within = tt
  kind-has (map_scope sequential params private body) containers path around nodes itself within = items-have body containers path (around ++ params) (nodes_behind nodes) within
  kind-has (consume_scope source element private body) containers path around nodes itself within = (
    accepted-modes (element ∷ private) body containers (nodes_behind nodes) (elements-free (element ∷ private) body containers path around nodes (itself.0 tt)),
    items-have body containers path around (nodes_behind nodes) within,
  )
  kind-has (nested_graph inner links) containers path around nodes itself within = graph-has inner (further path (own_node nodes)) within
  kind-has (reduction resolution axis identity from to) containers path around nodes itself within = tt
  kind-has (copy from to) containers path around nodes itself within = tt

  items-have : (items : ItemTrees) (containers : Containers) (path : List ℕ) (around : List Parameter) (nodes : List ℕ) → AllByRecursion IsPoolAccepted (item_scopes items containers path around nodes) → HaveAcceptedPools items containers
  items-have no_item containers path around nodes all = tt
  items-have (and_item line kind items) containers path around nodes all =
      let first = all-parts IsPoolAccepted (scopes_itself kind containers path around nodes) (scopes_inside kind containers path around nodes ++ item_scopes items containers path around (past kind nodes)) all in
      let rest = all-parts IsPoolAccepted (scopes_inside kind containers path around nodes) (item_scopes items containers path around (past kind nodes)) first.1 in
      (kind-has kind containers path around nodes first.0 rest.0, items-have items containers path around (past kind nodes) rest.1)

  states-have : (states : StateTrees) (containers : Containers) (path : List ℕ) (number : ℕ) → AllByRecursion IsPoolAccepted (state_scopes states containers path number) → StatesHaveAcceptedPools states containers
  states-have no_state containers path number all = tt
  states-have (and_state items exits states) containers path number all =
      let parts = all-parts IsPoolAccepted (item_scopes items containers (further path number) [] (item_nodes containers items)) (state_scopes states containers path (suc number)) all in
      (items-have items containers (further path number) [] (item_nodes containers items) parts.0, states-have states containers path (suc number) parts.1)

  graph-has : (tree : GraphTree) (path : List ℕ) → AllByRecursion IsPoolAccepted (scopes_of tree path) → GraphHasAcceptedPools tree
  graph-has (graph name containers arguments variables symbols states) path all = states-have states containers path 0 all

pub pools-accepted : (tree : GraphTree) → ArePoolsAccepted tree → GraphHasAcceptedPools tree
pools-accepted tree all = graph-has tree [] all
