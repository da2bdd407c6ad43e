use Rattle.std.proofs.Common.{◌≡◌, ◌-◌}
use Rattle.sd_list.specs.tally.Nodes.{doubled}
use Rattle.sd_list.proofs.tally.nodes.width_for.Given as goal

abbrev pub invariant-loop-width : goal.invariant-loop-width
invariant-loop-width l = l.width ≡ doubled l.depth

abbrev pub decreases-loop-width : goal.decreases-loop-width
decreases-loop-width l = l.counts - l.width
