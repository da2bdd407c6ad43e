use Rattle.std.proofs.Common.{◌≡◌, ◌++◌, take}
use Rattle.sd_piece.specs.Held.{last_index}
use Rattle.sd_piece.proofs.array.push_last.Given as goal

-- those so far
abbrev pub invariant-loop-extent : goal.invariant-loop-extent
invariant-loop-extent l = l.index.items ≡ l.initial.index.items ++ last_index (take l.extent-index l.extents)
