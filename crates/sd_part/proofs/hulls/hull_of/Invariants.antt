use Rattle.std.proofs.Common.{◌≡◌, drop}
use Rattle.std.specs.List.{fold, filter}
use Rattle.sd_part.specs.Hulls.{has_index_of, with_box, hull_of}
use Rattle.sd_part.proofs.hulls.hull_of.Given as goal

-- the hull so far, with the boxes that are left
abbrev pub invariant-loop-one : goal.invariant-loop-one
invariant-loop-one l = fold with_box l.hull (filter (has_index_of l.container) (drop l.one-index l.boxes)) ≡ hull_of l.container l.boxes
