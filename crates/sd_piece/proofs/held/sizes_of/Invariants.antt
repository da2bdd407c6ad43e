use Rattle.std.proofs.Common.{◌≡◌, take, map}
use Rattle.std.specs.Prelude.{unsigned_abs}
use Rattle.sd_piece.proofs.held.sizes_of.Given as goal

-- those so far
abbrev pub invariant-loop-extent : goal.invariant-loop-extent
invariant-loop-extent l = l.sizes.items ≡ map (λ extent. unsigned_abs extent.constant) (take l.extent-index l.extents)
