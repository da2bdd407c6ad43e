use Rattle.std.proofs.Common.{◌≡◌, ℕ, ◌<◌, Some, slice_get}
use Rattle.sd_board.specs.declared.mark.Mark.TheVariants.{Finished}
use Rattle.sd_board.proofs.progress.are_finished.Given as goal

-- those that were seen are finished
abbrev pub invariant-loop-mark : goal.invariant-loop-mark
invariant-loop-mark l = (number : ℕ) → number < l.mark-index → slice_get l.marks number ≡ Some Finished
