use Rattle.std.proofs.Common.{◌≡◌, drop}
use Rattle.sd_range.specs.Subset.{inside}
use Rattle.sd_windows.specs.Windows.{moved}
use Rattle.sd_cut.proofs.placing.is_inside.Given as goal

-- the index is inside where what is left of it is
abbrev pub invariant-loop-i : goal.invariant-loop-i
invariant-loop-i l = inside (drop l.i l.extents) (drop l.i (moved l.shift l.index)) ≡ inside l.extents (moved l.shift l.index)
