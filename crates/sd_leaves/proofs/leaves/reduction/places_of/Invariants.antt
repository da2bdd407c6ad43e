use Rattle.std.proofs.Common.{◌≡◌, pos, [], map, take}
use Rattle.std.specs.List.{AllByRecursion}
use Rattle.sd_range.specs.Range.{range_values, IsRange, IsEvaluableRange, counted_from}
use Rattle.sd_leaves.proofs.leaves.reduction.places_of.Given as goal

-- the ranges so far
abbrev pub invariant-loop-extent : goal.invariant-loop-extent
invariant-loop-extent l = record {
  values : map (range_values []) l.ranges.items ≡ map (counted_from (pos 0) (pos 1)) (take l.extent-index l.extents);
  ranges : AllByRecursion IsRange l.ranges.items;
  evaluable : AllByRecursion (IsEvaluableRange []) l.ranges.items;
}
