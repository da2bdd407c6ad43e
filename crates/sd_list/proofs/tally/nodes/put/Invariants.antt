use Rattle.std.proofs.Common.{◌≡◌, ◌≢◌, ℕ, ◌+◌, ◌<◌, length, drop}
use Rattle.sd_list.specs.tally.Nodes.{node, IsSum}
use Rattle.sd_list.proofs.tally.nodes.put.Given as goal

abbrev pub invariant-loop-at : goal.invariant-loop-at
invariant-loop-at l = record {
  sized : length l.nodes ≡ l.width + l.width;
  within : l.at < l.width;
  summed : (at : ℕ) → 0 < at → at < l.width → at ≢ l.at → IsSum l.nodes at;
  below : 0 < l.at → node l.nodes (l.at + l.at) + node l.nodes (l.at + l.at + 1) + node l.fn.nodes (l.width + l.number) ≡ node l.fn.nodes l.at + l.count;
  above : (at : ℕ) → at < l.at + l.at → node l.nodes at ≡ node l.fn.nodes at;
  leaves : drop l.width l.nodes ≡ drop l.width l.initial.nodes;
}

abbrev pub decreases-loop-at : goal.decreases-loop-at
decreases-loop-at l = l.at
