use Rattle.std.proofs.Common.{◌≡◌, take}
use Rattle.sd_row.proofs.instance.runner.narrowed.Given as goal

-- the numbers so far
abbrev pub invariant-loop-number : goal.invariant-loop-number
invariant-loop-number l = l.narrow.items ≡ take l.number-index l.numbers
