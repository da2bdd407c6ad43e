use Rattle.std.proofs.Common.{◌≡◌, pos, neg_ℤ, map, take}
use Rattle.sd_part.proofs.hulls.window_over.Given as goal

-- the window of those so far
abbrev pub invariant-loop-interval : goal.invariant-loop-interval
invariant-loop-interval l = record {
  shift : l.shift.items ≡ map (λ interval. neg_ℤ (pos interval.low)) (take l.interval-index l.intervals);
  extents : l.extents.items ≡ map (λ interval. interval.count) (take l.interval-index l.intervals);
}
