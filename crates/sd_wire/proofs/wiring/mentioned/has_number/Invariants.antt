use Rattle.std.proofs.Common.{◌≡◌, drop, nat_eq}
use Rattle.std.specs.List.{list_any}
use Rattle.sd_wire.proofs.wiring.mentioned.has_number.Given as goal

-- it is among all where it is among those that are left
abbrev pub invariant-loop-other : goal.invariant-loop-other
invariant-loop-other l = list_any (nat_eq l.number) (drop l.other-index l.numbers) ≡ list_any (nat_eq l.number) l.numbers
