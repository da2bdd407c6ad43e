use Rattle.std.proofs.Common.{◌≡◌, drop}
use Rattle.sd_wire.specs.wiring.Mentioned.{mode_of}
use Rattle.sd_part.specs.Marks.{none_conflicts}
use Rattle.sd_part.proofs.marks.none_conflicts.Given as goal

-- what is left decides
abbrev pub invariant-loop-one : goal.invariant-loop-one
invariant-loop-one l = none_conflicts l.boxes l.container (mode_of l.mode) ≡ none_conflicts (drop l.one-index l.boxes) l.container (mode_of l.mode)
