use Rattle.std.proofs.Common.{◌≡◌, map, length, ap, ◌∙◌}
use Rattle.std.proofs.lemmas.List.{length-map}
use Rattle.std.proofs.lemmas.List.Elements.{recursion_from_All}
use Rattle.std.specs.List.{AllByRecursion}
use Rattle.sd_range.specs.Range.{IsRange}
use Rattle.sd_range.specs.Axis.{axis_of, first_of}
use Rattle.sd_range.specs.Stage.{IsOpening}
use Rattle.sd_range.proofs.Axes.{axes-rise, firsts_length, opening_is}
use Rattle.sd_range.proofs.points.opened.Goals as goal

axes_are : (c : goal.After-opening_stage-stage) → c.in_ok-axes.axes.items ≡ map (axis_of c.args.env.now.values) c.args.ranges.items
axes_are c = c.in_ok-axes.ensures ∙ ap (map (axis_of c.args.env.now.values)) c.as_slice.ensures.value

numbers_are : (c : goal.After-opening_stage-stage) → c.in_ok-at.at.items ≡ map first_of c.in_ok-axes.axes.items
numbers_are c = c.in_ok-at.ensures ∙ ap (map first_of) c.as_slice-2.ensures.value

opens : (c : goal.After-opening_stage-stage) → IsOpening c.opening_stage-stage.result c.in_ok-axes.axes.items
opens c = rw c.as_slice-3.ensures.value at c.opening_stage-stage.ensures

are_ranges : (c : goal.After-opening_stage-stage) → AllByRecursion IsRange c.args.ranges.items
are_ranges c = recursion_from_All IsRange c.args.ranges.items c.requires.ranges

pub invariant_of-result : goal.invariant_of-result
invariant_of-result c =
    let values = c.args.env.now.values in
    let ranges = c.args.ranges.items in
    record {
      same_axes = ap length (axes_are c) ∙ length-map ranges (axis_of values);
      same_length = firsts_length _ _ (numbers_are c);
      ranges = are_ranges c;
      rising = rw (axes_are c) (axes-rise values ranges (are_ranges c));
      ready = rw (numbers_are c) (opens c).ready;
    }

pub returns : goal.returns
returns c = opening_is c.args.ranges.items c.args.env.now.values c.opening_stage-stage.result _ _ (axes_are c) (numbers_are c) (opens c)
