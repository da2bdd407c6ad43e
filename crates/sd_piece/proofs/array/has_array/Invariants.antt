use Rattle.std.proofs.Common.{◌≡◌, ◌<◌, ℕ, false}
use Rattle.sd_range.specs.Subset.{inside}
use Rattle.sd_mem.specs.mem.Shaped.{shape_at}
use Rattle.sd_piece.specs.Held.{beyond}
use Rattle.sd_piece.proofs.array.has_array.Given as goal

-- no dimension so far has an index behind the last one
abbrev pub invariant-loop-dimension : goal.invariant-loop-dimension
invariant-loop-dimension l = (d : ℕ) → d < l.dimension → inside (shape_at l.memory l.container) (beyond d l.extents) ≡ false
