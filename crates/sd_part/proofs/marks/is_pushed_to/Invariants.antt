use Rattle.std.proofs.Common.{◌≡◌, drop}
use Rattle.sd_part.specs.Marks.{is_pushed_to}
use Rattle.sd_part.proofs.marks.is_pushed_to.Given as goal

-- what is left decides
abbrev pub invariant-loop-one : goal.invariant-loop-one
invariant-loop-one l = is_pushed_to l.boxes l.container ≡ is_pushed_to (drop l.one-index l.boxes) l.container
