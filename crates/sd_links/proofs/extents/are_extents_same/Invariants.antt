use Rattle.std.proofs.Common.{◌≡◌, drop, map}
use Rattle.sd_validity.specs.rules.Shapes as shapes
use Rattle.sd_links.specs.ExtentOf.{extent_of}
use Rattle.sd_links.proofs.extents.are_extents_same.Given as goal

-- those left are the same where all are
abbrev pub invariant-loop-number : goal.invariant-loop-number
invariant-loop-number l =
    shapes.are_extents_same (map extent_of (drop l.number l.extents)) (map extent_of (drop l.number l.others)) ≡ shapes.are_extents_same (map extent_of l.extents) (map extent_of l.others)
