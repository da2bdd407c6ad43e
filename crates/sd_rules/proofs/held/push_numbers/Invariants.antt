use Rattle.std.proofs.Common.{◌≡◌, ◌++◌, take}
use Rattle.sd_rules.proofs.held.push_numbers.Given as goal

-- those so far
abbrev pub invariant-loop-number : goal.invariant-loop-number
invariant-loop-number l = l.all.items ≡ l.initial.all.items ++ take l.number-index l.numbers
