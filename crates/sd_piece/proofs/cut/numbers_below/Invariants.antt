use Rattle.std.proofs.Common.{take}
use Rattle.sd_part.specs.Hulls.{AreBelow}
use Rattle.sd_piece.proofs.cut.numbers_below.Given as goal

-- above those so far
abbrev pub invariant-loop-one : goal.invariant-loop-one
invariant-loop-one l = AreBelow l.above (take l.one-index l.boxes)
