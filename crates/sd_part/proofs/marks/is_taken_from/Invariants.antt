use Rattle.std.proofs.Common.{◌≡◌, drop}
use Rattle.sd_part.specs.Marks.{is_taken_from}
use Rattle.sd_part.proofs.marks.is_taken_from.Given as goal

-- what is left decides
abbrev pub invariant-loop-one : goal.invariant-loop-one
invariant-loop-one l = is_taken_from l.boxes l.container ≡ is_taken_from (drop l.one-index l.boxes) l.container
