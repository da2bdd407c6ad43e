use Rattle.std.proofs.Common.{◌≡◌, map, take, unsigned_abs}
use Rattle.sd_cut.proofs.window.extents.Given as goal

-- the extents so far
abbrev pub invariant-loop-extent : goal.invariant-loop-extent
invariant-loop-extent l = l.shape.items ≡ map (λ extent. unsigned_abs extent.constant) (take l.extent-index l.extent-items)
