use Rattle.std.proofs.Common.{ℕ, ◌<◌}
use Rattle.sd_board.specs.Progress.{MayBegin}
use Rattle.sd_board.proofs.progress.Progress.first_to_begin.Given as goal

-- none of those that were seen may begin
abbrev pub invariant-loop-number : goal.invariant-loop-number
invariant-loop-number g l = (number : ℕ) → number < l.number → MayBegin l.self.pieces number → ⊥
