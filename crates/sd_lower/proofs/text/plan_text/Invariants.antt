use Rattle.std.proofs.Common.{◌≡◌, ℕ, List, take, string_bytes}
use Rattle.std.specs.List.{flat_map}
use Rattle.sd_graph.specs.TreeFold.{graph_tree}
use Rattle.sd_prop.specs.propagation.Accesses.{Access}
use Rattle.sd_lower.specs.PlanText.{lines_at}
use Rattle.sd_lower.proofs.text.plan_text.Given as goal

-- the lines of the scopes so far
abbrev pub invariant-loop-top : goal.invariant-loop-top
invariant-loop-top l = string_bytes l.text ≡ flat_map (λ (top : List ℕ × List Access). lines_at (graph_tree l.bound.graph) top.0) (take l.top-index l.top-items)
