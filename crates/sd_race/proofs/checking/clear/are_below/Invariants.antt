use Rattle.std.proofs.Common.{◌<◌, take}
use Rattle.std.specs.List.{All}
use Rattle.sd_race.proofs.checking.clear.are_below.Given as goal

-- each so far is below
abbrev pub invariant-loop-one : goal.invariant-loop-one
invariant-loop-one l = All (λ one. one.access.now.container < l.container) (take l.one-index l.items)
