use Rattle.std.proofs.Common.{take}
use Rattle.sd_race.specs.checking.Clear.{AreWidest}
use Rattle.sd_race.proofs.checking.enclosing.widest_in.Given as goal

-- the widest so far
abbrev pub invariant-loop-one : goal.invariant-loop-one
invariant-loop-one l = AreWidest l.dimension l.widest (take l.one-index l.items)
