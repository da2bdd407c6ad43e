use Rattle.std.proofs.Common.{◌≡◌, ◌++◌, drop}
use Rattle.sd_part.specs.Sides.{sides_of, BeginsWithin}
use Rattle.sd_part.proofs.numbers.sides_of.Given as goal

-- those so far, and those left
abbrev pub invariant-loop-i : goal.invariant-loop-i
invariant-loop-i l = record {
  sides : l.all.items ++ sides_of (drop l.i l.shift) (drop l.i l.extents) (drop l.i l.intervals) ≡ sides_of l.shift l.extents l.intervals;
  within : BeginsWithin (drop l.i l.shift) (drop l.i l.intervals) → BeginsWithin l.shift l.intervals;
}
