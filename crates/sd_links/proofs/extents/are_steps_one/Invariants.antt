use Rattle.std.proofs.Common.{◌≡◌, drop, map}
use Rattle.sd_validity.specs.rules.Shapes as shapes
use Rattle.sd_links.proofs.extents.are_steps_one.Given as goal

-- those left have the step 1 where all have
abbrev pub invariant-loop-range : goal.invariant-loop-range
invariant-loop-range l = shapes.are_steps_one (map (λ range. range.now) (drop l.range-index l.ranges)) ≡ shapes.are_steps_one (map (λ range. range.now) l.ranges)
