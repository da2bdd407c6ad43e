use Rattle.std.proofs.Common.{◌≡◌, drop}
use Rattle.sd_validity.specs.rules.NamesInForce as names
use Rattle.sd_rules.proofs.single.are_apart.Given as goal

-- those left are apart where all are
abbrev pub invariant-loop-number : goal.invariant-loop-number
invariant-loop-number l = names.are_apart l.known (drop l.number-index l.numbers) ≡ names.are_apart l.known l.numbers
