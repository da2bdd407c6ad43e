use Rattle.std.proofs.Common.{◌≡◌, false, take}
use Rattle.std.specs.List.{All}
use Rattle.sd_graph.specs.Mode.{do_conflict}
use Rattle.sd_wire.specs.wiring.Mentioned.{mode_of}
use Rattle.sd_race.proofs.checking.clear.agrees_with.Given as goal

-- the mode conflicts with none so far
abbrev pub invariant-loop-one : goal.invariant-loop-one
invariant-loop-one l = All (λ one. do_conflict (mode_of l.mode) one.access.now.mode ≡ false) (take l.one-index l.items)
