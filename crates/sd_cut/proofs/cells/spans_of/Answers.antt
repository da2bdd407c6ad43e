use Rattle.std.proofs.Common.{rules, ◌≡◌, ◌<◌, [], ◌∷◌, ◌++◌, length}
use Rattle.sd_range.specs.Subset.{IsDim}
use Rattle.sd_subset.specs.elements.Way.{IsEvaluableDim}
use Rattle.sd_cut.proofs.Spans.{spans_next, all_next}
use Rattle.sd_cut.proofs.cells.spans_of.Goals as goal

pub loop-i-preserved : goal.loop-i-preserved
loop-i-preserved c =
    let pushed : c.push.new.self.items ≡ c.loop-i.dims.items ++ c.in_ok-span_of.field-0 ∷ [] = search rules in
    let less : c.loop-i.i < length c.args.shift.now = search rules in
    record {
      spans = spans_next c.loop-i.dims.items c.push.new.self.items c.in_ok-span_of.field-0 c.loop-i.i c.args.shift.now c.args.extents.now _ _ less c.requires.same pushed c.in_ok-span_of.ensures.span (search rules) (search rules) c.loop-i.invariant.spans;
      are_dims = all_next IsDim c.loop-i.dims.items c.push.new.self.items c.in_ok-span_of.field-0 pushed c.loop-i.invariant.are_dims c.in_ok-span_of.ensures.is_dim;
      evaluable = all_next (IsEvaluableDim []) c.loop-i.dims.items c.push.new.self.items c.in_ok-span_of.field-0 pushed c.loop-i.invariant.evaluable c.in_ok-span_of.ensures.evaluable;
    }
