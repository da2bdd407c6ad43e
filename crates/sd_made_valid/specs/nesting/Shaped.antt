-- Graphs each link of which has the shape of the parameter for which it stands.
use Rattle.std.specs.Prelude.{◌≡◌, true, ⊤}
use Rattle.sd_graph.specs.PlainTree.{KindTree, task, map_scope, consume_scope, nested_graph, reduction, copy, GraphTree}
use Rattle.sd_graph.specs.TreeParts.{containers_of}
use Rattle.sd_validity.specs.rules.NestedLinks.{have_shapes}
use Rattle.sd_validity.specs.bound_places.Throughout.{Throughout}

-- the links of a nested graph, one after another
abbrev pub HaveShapes : KindTree → Type 0
HaveShapes (task code ins outs) = ⊤
HaveShapes (map_scope sequential params private body) = ⊤
HaveShapes (consume_scope stream element private body) = ⊤
HaveShapes (nested_graph inner links) = have_shapes (containers_of inner) 0 links ≡ true
HaveShapes (reduction resolution axis identity from to) = ⊤
HaveShapes (copy from to) = ⊤

-- so it is of each item of a graph, and in the graphs nested in it
abbrev pub IsShaped : GraphTree → Type 0
IsShaped tree = Throughout (λ tree. ⊤) (λ tree state exit. ⊤) (λ tree state scopes kind. HaveShapes kind) tree
