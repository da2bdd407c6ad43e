-- Graphs whose scopes are all free of races, but sequential ones; told without the numbers of their nodes.
use Rattle.std.specs.Prelude.{List, [], ◌∷◌, ◌++◌, ⊤}
use Rattle.sd_subset.specs.boxes.Box.{Parameter}
use Rattle.sd_graph.specs.ContainerParts.{Containers}
use Rattle.sd_graph.specs.PlainTree.{KindTree, map_scope, consume_scope, nested_graph, ItemTrees, no_item, and_item, StateTrees, no_state, and_state, GraphTree, graph}
use Rattle.sd_prop.specs.propagation.Scopes.{points, elements, scope_of}
use Rattle.sd_race.specs.race.Pairs.{IsScopeAccepted}

abbrev mutual
  -- a scope is accepted, and so are those in it; the parameters of the maps around it are these
  pub HasAcceptedScopes : KindTree → Containers → (around : List Parameter) → Type 0
  HasAcceptedScopes (map_scope sequential params private body) containers around =
      IsScopeAccepted (scope_of (points sequential params) private body containers [] around []) × HaveAcceptedScopes body containers (around ++ params)
  HasAcceptedScopes (consume_scope stream element private body) containers around =
      IsScopeAccepted (scope_of elements (element ∷ private) body containers [] around []) × HaveAcceptedScopes body containers around
  HasAcceptedScopes (nested_graph inner links) containers around = IsRaceFree inner
  HasAcceptedScopes kind containers around = ⊤

  pub HaveAcceptedScopes : ItemTrees → Containers → (around : List Parameter) → Type 0
  HaveAcceptedScopes no_item containers around = ⊤
  HaveAcceptedScopes (and_item line kind items) containers around = HasAcceptedScopes kind containers around × HaveAcceptedScopes items containers around

  pub AreRaceFree : StateTrees → Containers → Type 0
  AreRaceFree no_state containers = ⊤
  AreRaceFree (and_state items exits states) containers = HaveAcceptedScopes items containers [] × AreRaceFree states containers

  -- each scope of the graph is accepted, and each of the graphs in it
  pub IsRaceFree : GraphTree → Type 0
  IsRaceFree (graph name containers arguments variables symbols states) = AreRaceFree states containers
