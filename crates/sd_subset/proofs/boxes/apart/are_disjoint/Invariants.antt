use Rattle.std.proofs.Common.{length}
use Rattle.sd_subset.specs.boxes.Apart as definition
use Rattle.sd_subset.proofs.boxes.apart.are_disjoint.Given as goal

-- the boxes are disjoint where they are so in a dimension that is left
abbrev pub invariant-loop-first : goal.invariant-loop-first
invariant-loop-first l = record {
  given : definition.AreDisjoint l.around l.left l.right → definition.AreDisjoint l.around l.one l.other;
  left_so : definition.AreDisjoint l.around l.one l.other → definition.AreDisjoint l.around l.left l.right;
}

-- the dimensions that are left
abbrev pub decreases-loop-first : goal.decreases-loop-first
decreases-loop-first l = length l.left
