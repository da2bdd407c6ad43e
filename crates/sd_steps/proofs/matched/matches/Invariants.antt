use Rattle.std.proofs.Common.{◌≡◌, take}
use Rattle.std.specs.List.{flat_map}
use Rattle.sd_graph.specs.TreeFold.{graph_tree}
use Rattle.sd_prop.specs.propagation.Scopes.{all_scopes}
use Rattle.sd_steps.specs.Matched.{matches_at, rewrites}
use Rattle.sd_steps.proofs.matched.matches.Given as goal

-- those of the rewrites so far
abbrev pub invariant-loop-rewrite : goal.invariant-loop-rewrite
invariant-loop-rewrite l = l.found.items ≡ flat_map (λ rewrite. matches_at (graph_tree l.bound.graph) rewrite (all_scopes (graph_tree l.bound.graph))) (take l.rewrite-index rewrites)
