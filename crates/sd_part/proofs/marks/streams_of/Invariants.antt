use Rattle.std.proofs.Common.{◌≡◌, take}
use Rattle.sd_part.specs.Marks.{streams_of}
use Rattle.sd_part.proofs.marks.streams_of.Given as goal

-- those so far
abbrev pub invariant-loop-one : goal.invariant-loop-one
invariant-loop-one l = l.streams.items ≡ streams_of (take l.one-index l.boxes)
