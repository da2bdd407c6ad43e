use Rattle.std.proofs.Common.{◌≡◌, rules, map, length, ap, sym, ◌∙◌}
use Rattle.std.proofs.lemmas.List.{length-map, with_items_is}
use Rattle.std.specs.Vec.{with_items}
use Rattle.sd_range.specs.Axis.{axis_of, first_of}
use Rattle.sd_range.specs.Points.{opening, Walk}
use Rattle.sd_range.specs.Stage.{IsOpening}
use Rattle.sd_range.proofs.Axes.{axes-rise, firsts_length, opening_is}
use Rattle.sd_range.proofs.points.Points.restart.Goals as goal

axes_are : (c : goal.After-self-3-1) → (with_items c.self.inside.axes c.renew.new.axes).items ≡ map (axis_of c.args.env.now.values) c.self.inside.ranges.items
axes_are c =
    let as_many : length c.renew.new.axes ≡ c.self.inside.axes.len = search rules in
    with_items_is c.self.inside.axes c.renew.new.axes as_many ∙ c.renew.ensures.axes ∙ ap (map (axis_of c.args.env.now.values)) c.as_slice.ensures.value

numbers_are : (c : goal.After-self-3-1) → (with_items c.self.inside.at c.renew.new.at).items ≡ map first_of (with_items c.self.inside.axes c.renew.new.axes).items
numbers_are c =
    let as_many : length c.renew.new.at ≡ c.self.inside.at.len = search rules in
    with_items_is c.self.inside.at c.renew.new.at as_many ∙ c.renew.ensures.firsts
    ∙ ap (λ ranges. map first_of (map (axis_of c.args.env.now.values) ranges)) c.as_slice.ensures.value
    ∙ ap (map first_of) (sym (axes_are c))

opens : (c : goal.After-self-3-1) → IsOpening c.opening_stage-self-inside.result (with_items c.self.inside.axes c.renew.new.axes).items
opens c = rw c.as_slice-2.ensures.value at c.opening_stage-self-inside.ensures

pub invariant_of-self : goal.invariant_of-self
invariant_of-self c =
    let values = c.args.env.now.values in
    let ranges = c.self.inside.ranges.items in
    record {
      same_axes = ap length (axes_are c) ∙ length-map ranges (axis_of values);
      same_length = firsts_length _ _ (numbers_are c);
      ranges = c.self.invariant.ranges;
      rising = rw (axes_are c) (axes-rise values ranges c.self.invariant.ranges);
      ready = rw (numbers_are c) (opens c).ready;
    }

pub returns : goal.returns
returns c =
    opening_is c.self.inside.ranges.items c.args.env.now.values c.opening_stage-self-inside.result _ _ (axes_are c) (numbers_are c) (opens c)
    ∙ ap (λ (walk : Walk). opening walk.ranges c.args.env.now.values) c.self.view_is
