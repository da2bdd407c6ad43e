use Rattle.std.proofs.Common.{◌≡◌, length, map, drop}
use Rattle.sd_tcode.proofs.tcode.room.have_dims.Given as goal

-- all are the same where those that are left are
abbrev pub invariant-loop-k : goal.invariant-loop-k
invariant-loop-k l = map (λ array. length array.extents.items) (drop l.k l.arrays) ≡ drop l.k l.dims → map (λ array. length array.extents.items) l.arrays ≡ l.dims
