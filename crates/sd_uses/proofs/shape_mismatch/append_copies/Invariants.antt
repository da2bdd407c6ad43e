use Rattle.std.proofs.Common.{◌≡◌, ◌++◌, drop}
use Rattle.sd_uses.proofs.shape_mismatch.append_copies.Given as goal

-- the copies so far, before the extents that are left
abbrev pub invariant-loop-extent : goal.invariant-loop-extent
invariant-loop-extent l = l.all.items ++ drop l.extent-index l.extents ≡ l.initial.all.items ++ l.extents
