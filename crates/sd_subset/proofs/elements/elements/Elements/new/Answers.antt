use Rattle.std.proofs.Common.{◌≡◌, ap, ◌∙◌, sym, map, subst, List, ℤ}
use Rattle.std.specs.List.{All}
use Rattle.sd_range.specs.Range.{IsRange, IsEvaluableRange}
use Rattle.sd_range.specs.Points.{opening as opening_point, Walk}
use Rattle.sd_range.specs.declared.range.Range.{Range}
use Rattle.sd_range.specs.declared.subset.Subset.{Subset}
use Rattle.sd_subset.specs.elements.Way.{range_of, opening}
use Rattle.sd_subset.specs.elements.Walk.{way_of}
use Rattle.sd_subset.proofs.elements_lemmas.Ways.{same_way, are_ranges, are_evaluable, points_long}
use Rattle.sd_subset.proofs.elements.elements.Elements.new.Goals as goal

-- the points are those of the ranges of the dimensions
ranges_are : (c : goal.After-as_slice-2) → c.as_slice-2.result.now ≡ map range_of c.args.subset.now.dims
ranges_are c = c.as_slice-2.ensures.value ∙ c.in_ok-ranges.ensures ∙ ap (map range_of) c.as_slice.ensures

pub new-requires-clause-ranges : goal.new-requires-clause-ranges
new-requires-clause-ranges c = subst (All IsRange) (sym (ranges_are c)) (are_ranges c.args.subset.now.dims c.requires.dims)

pub new-requires-clause-evaluable : goal.new-requires-clause-evaluable
new-requires-clause-evaluable c =
    subst (All (IsEvaluableRange c.args.env.now.values)) (sym (ranges_are c)) (are_evaluable c.args.subset.now.dims c.args.env.now.values c.requires.evaluable)

points_are : (c : goal.In_ok-points) → c.in_ok-points.points ≡ opening_point (map range_of c.args.subset.now.dims) c.args.env.now.values
points_are c =
    c.in_ok-points.ensures
    ∙ ap (λ (ranges : List Range). opening_point ranges c.args.env.now.values) (c.as_slice-2.ensures.value ∙ c.in_ok-ranges.ensures ∙ ap (map range_of) c.as_slice.ensures)

pub invariant_of-result : goal.invariant_of-result
invariant_of-result c = rw (points_are c) (points_long (map range_of c.args.subset.now.dims) c.args.env.now.values)

-- before the points, as before the elements
as_elements : (walk : Walk) (subset : Subset) (values : List ℤ) → walk ≡ opening_point (map range_of subset.dims) values → way_of (record { points = walk }) ≡ opening subset values
as_elements walk subset values is = rw is (sym (same_way subset values))

pub returns : goal.returns
returns c =
    as_elements c.in_ok-points.points c.args.subset.now c.args.env.now.values
    (c.in_ok-points.ensures
    ∙ ap (λ (ranges : List Range). opening_point ranges c.args.env.now.values) (c.as_slice-2.ensures.value ∙ c.in_ok-ranges.ensures ∙ ap (map range_of) c.as_slice.ensures))
