use Rattle.std.proofs.Common.{◌≡◌, List, drop}
use Rattle.std.specs.List.{fold}
use Rattle.sd_part.specs.Boxes.{NumberBox}
use Rattle.sd_part.specs.Marking.{with_box, with_boxes}
use Rattle.sd_part.proofs.marking.mark_boxes.Given as goal

-- those so far, and then those that are left
abbrev pub invariant-loop-one : goal.invariant-loop-one
invariant-loop-one l = record {
  left : fold (with_box l.boxes) l.overlay (drop l.one-index l.boxes) ≡ with_boxes l.boxes l.initial.overlay;
  made : (some : List NumberBox) × (l.overlay ≡ fold (with_box l.boxes) l.initial.overlay some);
}
