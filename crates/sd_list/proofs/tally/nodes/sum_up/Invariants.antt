use Rattle.std.proofs.Common.{◌≡◌, ℕ, ◌+◌, ◌<◌, ◌≤◌, length, drop}
use Rattle.sd_list.specs.tally.Nodes.{IsSum}
use Rattle.sd_list.proofs.tally.nodes.sum_up.Given as goal

abbrev pub invariant-loop-at : goal.invariant-loop-at
invariant-loop-at l = record {
  sized : length l.nodes ≡ l.width + l.width;
  within : l.at ≤ l.width;
  summed : (at : ℕ) → 0 < at → l.at ≤ at → at < l.width → IsSum l.nodes at;
  leaves : drop l.width l.nodes ≡ drop l.width l.initial.nodes;
}

abbrev pub decreases-loop-at : goal.decreases-loop-at
decreases-loop-at l = l.at
