use Rattle.std.proofs.Common.{◌≡◌, ◌+◌, sum_by}
use Rattle.sd_board.proofs.board.merged.Given as goal

-- what was merged so far
abbrev pub invariant-loop-share : goal.invariant-loop-share
invariant-loop-share g l = record {
  parts : l.all.parts ≡ l.fn.left.parts + sum_by (λ s. s.parts) l.yielded;
  amount : l.all.amount ≡ l.fn.left.amount + sum_by (λ s. s.amount) l.yielded;
}
