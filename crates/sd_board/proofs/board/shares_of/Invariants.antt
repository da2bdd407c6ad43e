use Rattle.std.proofs.Common.{◌≡◌, ◌+◌, All, vec_len}
use Rattle.sd_board.proofs.board.shares_of.Given as goal

-- each share that was made has one part, and what is left is for the others
abbrev pub invariant-loop-i : goal.invariant-loop-i
invariant-loop-i g l = record {
  left : l.all.parts + l._i ≡ l.workers;
  nothing : l.all.amount ≡ 0;
  count : vec_len l.shares ≡ l._i;
  ones : All (λ s. s.parts ≡ 1) l.shares.items;
}
