use Rattle.std.proofs.Common.{◌≡◌, drop}
use Rattle.sd_validity.specs.rules.NamesInForce as names
use Rattle.sd_rules.proofs.single.are_new.Given as goal

-- those left are new behind those so far where all are
abbrev pub invariant-loop-number : goal.invariant-loop-number
invariant-loop-number l = names.are_new l.known.items (drop l.number-index l.numbers) ≡ names.are_new l.initial.known.items l.numbers
