use Rattle.std.proofs.Common.{◌≡◌, ◌-◌, drop}
use Rattle.sd_source.specs.nodes.NodeLimits as limits
use Rattle.sd_source.proofs.nodes.counting.pass.Given as goal

-- what is left, with the nodes that are left
abbrev pub invariant-loop-node : goal.invariant-loop-node
invariant-loop-node l = record {
  line : limits.line_over l.counts l.left (drop l.node-index l.nodes) ≡ limits.line_over l.counts l.initial.left l.nodes;
  left : l.left - limits.count_of l.counts (drop l.node-index l.nodes) ≡ l.initial.left - limits.count_of l.counts l.nodes;
}
