use Rattle.std.proofs.Common.{◌≡◌, drop}
use Rattle.std.specs.List.{list_all}
use Rattle.sd_validity.specs.rules.Transitions as transitions
use Rattle.sd_rules.proofs.transitions.is_agreed.Given as goal

-- those left agree where all do
abbrev pub invariant-loop-other : goal.invariant-loop-other
invariant-loop-other l = list_all (transitions.are_begins_agreed l.begin) (drop l.other-index l.known) ≡ list_all (transitions.are_begins_agreed l.begin) l.known
