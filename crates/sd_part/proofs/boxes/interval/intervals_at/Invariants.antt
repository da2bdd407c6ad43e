use Rattle.std.proofs.Common.{◌≡◌, ◌++◌, drop}
use Rattle.sd_part.specs.Boxes.{intervals_at}
use Rattle.sd_part.proofs.boxes.interval.intervals_at.Given as goal

-- those so far, and those of the bounds that are left
abbrev pub invariant-loop-extent : goal.invariant-loop-extent
invariant-loop-extent l = l.all.items ++ intervals_at l.values (drop l.extent-index l.extents) l.left ≡ intervals_at l.values l.extents l.bounds
