use Rattle.std.proofs.Common.{◌≡◌, ◌++◌, drop}
use Rattle.sd_graph.specs.TreeFold.{graph_tree}
use Rattle.sd_steps.specs.Matched.{matches_at}
use Rattle.sd_steps.proofs.matched.push_matches.Given as goal

-- those that are left come behind those that were found
abbrev pub invariant-loop-scope : goal.invariant-loop-scope
invariant-loop-scope l = l.initial.found.items ++ matches_at (graph_tree l.bound.graph) l.rewrite l.scopes ≡ l.found.items ++ matches_at (graph_tree l.bound.graph) l.rewrite (drop l.scope-index l.scopes)
