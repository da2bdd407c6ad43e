use Rattle.std.proofs.Common.{◌≡◌, drop, map}
use Rattle.sd_validity.specs.rules.MovedShapes as moved
use Rattle.sd_links.proofs.moved.are_steps_same.Given as goal

-- those left have the same steps where all have
abbrev pub invariant-loop-number : goal.invariant-loop-number
invariant-loop-number l =
    moved.are_steps_same (map (λ range. range.now) (drop l.number l.ranges)) (map (λ range. range.now) (drop l.number l.others))
    ≡ moved.are_steps_same (map (λ range. range.now) l.ranges) (map (λ range. range.now) l.others)
