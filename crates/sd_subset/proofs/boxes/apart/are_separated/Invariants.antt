use Rattle.std.proofs.Common.{length}
use Rattle.sd_subset.specs.boxes.Apart as definition
use Rattle.sd_subset.proofs.boxes.apart.are_separated.Given as goal

-- the boxes are separated where they are so in a dimension that is left
abbrev pub invariant-loop-first : goal.invariant-loop-first
invariant-loop-first l = record {
  given : definition.AreSeparated l.own l.by l.left l.right → definition.AreSeparated l.own l.by l.one l.other;
  left_so : definition.AreSeparated l.own l.by l.one l.other → definition.AreSeparated l.own l.by l.left l.right;
}

-- the dimensions that are left
abbrev pub decreases-loop-first : goal.decreases-loop-first
decreases-loop-first l = length l.left
