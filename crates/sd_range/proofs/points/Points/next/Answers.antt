use Rattle.std.proofs.Common.{ap, sym, ◌∙◌, map, None, refl}
use Rattle.sd_range.specs.Axis.{axis_values}
use Rattle.sd_range.specs.Points.{moved, tuples, Walk}
use Rattle.sd_range.proofs.After.{moved-first}
use Rattle.sd_range.proofs.points.Points.next.Goals as goal

pub returns-in-Before-clause-step : goal.returns-in-Before-clause-step
returns-in-Before-clause-step c =
    let p = c.self.inside in
    let parameters = map axis_values p.axes.items in
    let before : Walk = record { ranges = p.ranges.items; parameters = parameters; current = None; left = tuples parameters } in
    let view = rw c.in-Before.is at c.self.view_is in
    let ready = rw c.in-Before.is at c.self.invariant.ready in
    sym (moved-first before p.axes.items p.at.items c.self.invariant.rising ready.0 ready.1 refl) ∙ ap moved view
