use Rattle.std.proofs.Common.{take}
use Rattle.std.specs.List.{All}
use Rattle.sd_race.specs.race.Pairs.{IsAccepted, pair_of}
use Rattle.sd_race.proofs.checking.clear.is_clear_of.Given as goal

-- the access is accepted with each so far
abbrev pub invariant-loop-other : goal.invariant-loop-other
invariant-loop-other l = All (λ other. IsAccepted (pair_of l.scope l.access other.access.now)) (take l.other-index l.others)
