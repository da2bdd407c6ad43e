use Rattle.std.proofs.Common.{◌≡◌, ℕ, List, map, length, drop}
use Rattle.sd_range.specs.Subset as subset
use Rattle.sd_tasklet.specs.tasklet.Given.{told_extent}
use Rattle.sd_tasklet.proofs.tasklet.place.is_inside.Given as goal

-- the index is inside where the numbers that are left are
abbrev pub invariant-loop-k : goal.invariant-loop-k
invariant-loop-k l = record {
  many : length l.extents ≡ length l.at;
  left : subset.inside l.extents l.at ≡ subset.inside (drop l.k l.extents) (drop l.k l.at);
  meant : (meant : List ℕ) → map told_extent meant ≡ map told_extent l.extents → subset.inside meant l.at ≡ subset.inside (drop l.k meant) (drop l.k l.at);
}
