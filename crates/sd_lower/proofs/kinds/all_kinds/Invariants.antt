use Rattle.std.proofs.Common.{◌≡◌, ℕ, List, take}
use Rattle.std.specs.List.{flat_map}
use Rattle.sd_graph.specs.TreeFold.{graph_tree}
use Rattle.sd_prop.specs.propagation.Accesses.{Access}
use Rattle.sd_lower.specs.Kinds.{kinds_at}
use Rattle.sd_lower.proofs.kinds.all_kinds.Given as goal

-- those of the scopes so far
abbrev pub invariant-loop-top : goal.invariant-loop-top
invariant-loop-top l = l.kinds.items ≡ flat_map (λ (top : List ℕ × List Access). kinds_at (graph_tree l.bound.graph) top.0) (take l.top-index l.top-items)
