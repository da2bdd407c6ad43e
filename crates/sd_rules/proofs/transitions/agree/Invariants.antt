use Rattle.std.proofs.Common.{◌≡◌, drop}
use Rattle.sd_validity.specs.rules.Transitions as transitions
use Rattle.sd_rules.proofs.transitions.agree.Given as goal

-- those left agree with those so far where all agree
abbrev pub invariant-loop-begin : goal.invariant-loop-begin
invariant-loop-begin l = transitions.agree l.known.items (drop l.begin-index l.begins) ≡ transitions.agree l.initial.known.items l.begins
