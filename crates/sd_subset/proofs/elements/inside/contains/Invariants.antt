use Rattle.std.proofs.Common.{◌≡◌, length, drop}
use Rattle.sd_range.specs.Subset.{inside}
use Rattle.sd_subset.proofs.elements.inside.contains.Given as goal

-- the index is inside where what is left of it is inside what is left of the shape
abbrev pub invariant-loop-i : goal.invariant-loop-i
invariant-loop-i l = record {
  same : length l.index ≡ length l.shape;
  left : inside (drop l.i l.shape) (drop l.i l.index) ≡ inside l.shape l.index;
}
