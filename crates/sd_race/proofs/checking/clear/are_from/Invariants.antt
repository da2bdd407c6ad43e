use Rattle.std.proofs.Common.{◌≤◌, take}
use Rattle.std.specs.List.{All}
use Rattle.sd_race.proofs.checking.clear.are_from.Given as goal

-- none so far is below
abbrev pub invariant-loop-one : goal.invariant-loop-one
invariant-loop-one l = All (λ one. l.container ≤ one.access.now.container) (take l.one-index l.items)
