use Rattle.std.proofs.Common.{take}
use Rattle.std.specs.List.{AllZip}
use Rattle.sd_row.specs.view.Places.{IsLast}
use Rattle.sd_row.proofs.view.finding.last_place.Given as goal

-- the numbers so far
abbrev pub invariant-loop-extent : goal.invariant-loop-extent
invariant-loop-extent l = AllZip IsLast (take l.extent-index l.extents) l.at.items
