use Rattle.std.proofs.Common.{take, map}
use Rattle.std.specs.List.{Contains}
use Rattle.sd_graph.specs.TreeFold.{named_container}
use Rattle.sd_part.specs.Boxes.{NumberBox}
use Rattle.sd_piece.specs.Held.{HasTouchedBy}
use Rattle.sd_piece.proofs.held.has_touched.Given as goal

-- what those so far touch is there
abbrev pub invariant-loop-one : goal.invariant-loop-one
invariant-loop-one l = (box : NumberBox) → Contains (take l.one-index l.boxes) box → HasTouchedBy (map named_container l.containers.entries) l.memory l.boxes box
