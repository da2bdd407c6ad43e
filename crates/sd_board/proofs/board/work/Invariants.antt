use Rattle.std.proofs.Common.{◌≡◌}
use Rattle.sd_board.proofs.board.work.Given as goal

-- the share keeps its part
abbrev pub invariant-loop : goal.invariant-loop
invariant-loop g l = record {
  goes_on : (goal.iterator-loop g).can_next l.iterator' × (goal.iterator-loop g).is_finite l.iterator';
  part : l.share.parts ≡ 1;
}
