use Rattle.std.proofs.Common.{take}
use Rattle.sd_race.specs.checking.Clear.{AreClear}
use Rattle.sd_race.proofs.checking.clear.are_accepted.Given as goal

-- each so far is accepted with each of the others
abbrev pub invariant-loop-one : goal.invariant-loop-one
invariant-loop-one l = AreClear l.scope (take l.one-index l.some) l.others
