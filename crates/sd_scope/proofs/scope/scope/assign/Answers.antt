use Rattle.std.proofs.Common.{rules, ◌≡◌, ◌<◌, get_or, length, pos}
use Rattle.std.proofs.lemmas.List.{take_all, drop_all}
use Rattle.sd_graph.specs.Unfold.{assigned}
use Rattle.sd_scope.proofs.scope_lemmas.Assigned.{within_assigned, no_more_assigned, assigned_at, variables_next, shown_next}
use Rattle.sd_scope.proofs.scope.scope.assign.Goals as goal

pub loop-i-preserved : goal.loop-i-preserved
loop-i-preserved c =
    let params = c.args.params.now in
    let point = c.args.point.now in
    let i = c.loop-i.i in
    let param = c.index-params-i.result in
    let below : i < length params = search rules in
    let within : i < length point = search rules in
    let there = within_assigned params point i below within in
    let here : get_or (assigned params point) i (param.0, pos 0) ≡ (param.0, get_or point i (pos 0)) = search (rules, assigned_at) in
    record {
      values = variables_next (assigned params point) i (param.0, get_or point i (pos 0)) (param.0, pos 0) c.loop-i.values.items _ _ there here (search rules) c.loop-i.invariant.values;
      shown = shown_next (assigned params point) i (param.0, get_or point i (pos 0)) (param.0, pos 0) c.args.shown.now.items c.loop-i.shown.items _ there here (search rules) c.loop-i.invariant.shown;
    }

pub returns-clause-values : goal.returns-clause-values
returns-clause-values c =
    let over = no_more_assigned c.args.params.now c.args.point.now c.loop-i.i (search rules) in
    rw (drop_all c.loop-i.i (assigned c.args.params.now c.args.point.now) over) at c.loop-i.invariant.values

pub returns-clause-shown : goal.returns-clause-shown
returns-clause-shown c =
    let over = no_more_assigned c.args.params.now c.args.point.now c.loop-i.i (search rules) in
    rw (take_all c.loop-i.i (assigned c.args.params.now c.args.point.now) over) at c.loop-i.invariant.shown
