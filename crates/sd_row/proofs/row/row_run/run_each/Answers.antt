use Rattle.std.proofs.Common.{◌-◌, Option, Some, None, refl, subst, arith, rules}
use Rattle.sd_mem.specs.declared.machine.end.End.TheVariants as ends
use Rattle.sd_graph.specs.Context.{place_at}
use Rattle.sd_work.specs.declared.fault.FaultKind.{FaultKind}
use Rattle.sd_leaves.specs.leaves.Done.{IsDone, instance_work}
use Rattle.sd_row.specs.row.Point.{below}
use Rattle.sd_row.specs.row.Setting.{row_coming}
use Rattle.sd_row.proofs.row_lemmas.Instances.{over_kept}
use Rattle.sd_row.proofs.row_lemmas.RowSteps.{row_ends, point_comes, point_without_turn, point_more, point_stop}
use Rattle.sd_row.proofs.row_lemmas.BlockRuns.{points_begin}
use Rattle.sd_row.proofs.row.row_run.run_each.Goals as goal

pub loop-k-init : goal.loop-k-init
loop-k-init c = record {
  left = λ setting is over. points_begin setting c.args.from c.args.until (below c.args.machine.now);
  over = λ setting is over. over;
  ready = c.requires.ready;
  scalars = c.requires.scalars;
}

pub loop-k-preserved : goal.loop-k-preserved
loop-k-preserved c = record {
  left = λ setting is over.
      let k = c.loop-k.k in
      let middle = c.loop-k.machine in
      let now = c.run_point.new.machine in
      let paid = c.pay.new.self in
      let work = instance_work (setting.context k) setting.tree setting.ins setting.outs in
      let done = subst (λ (fault : Option FaultKind). IsDone work paid fault now) c.in_default.is
      (c.run_point.ensures.done setting.tree setting.ins setting.outs (setting.context k) is.code is.connectors (is.at k c.loop-k-test.true)) in
      point_more setting (row_coming setting c.args.from (c.args.until - c.args.from) (below c.args.machine.now)) (below c.args.machine.now) (below middle) (below now) k c.args.until c.loop-k-test.true
      (c.loop-k.invariant.left setting is over)
      (point_comes setting k middle paid now None ends.Finished c.pay.ensures.memories (c.if-not-pay.ensures.paid (search rules)) done (λ now. refl) (c.loop-k.invariant.over setting is over));
  over = λ setting is over. c.run_point.ensures.own setting.own is.bare (over_kept setting.own c.loop-k.machine c.pay.new.self c.pay.ensures.memories (c.loop-k.invariant.over setting is over));
  ready = c.run_point.ensures.ready;
  scalars = c.run_point.ensures.scalars;
}

pub returns-then-not-pay-clause-end : goal.returns-then-not-pay-clause-end
returns-then-not-pay-clause-end c setting is over =
    let k = c.loop-k.k in
    let middle = c.loop-k.machine in
    let now = c.pay.new.self in
    let none = c.if-not-pay.ensures.none (search rules) in
    point_stop setting (row_coming setting c.args.from (c.args.until - c.args.from) (below c.args.machine.now)) (below c.args.machine.now) (below middle) (below now) k c.args.until c.loop-k-test.true
    (c.loop-k.invariant.left setting is over) ends.OutOfTurns
    (point_without_turn setting k middle now c.pay.ensures.memories none.1 none.2 (c.loop-k.invariant.over setting is over)) (λ same. cc)

pub returns-in-Some-clause-end : goal.returns-in-Some-clause-end
returns-in-Some-clause-end c setting is over =
    let k = c.loop-k.k in
    let middle = c.loop-k.machine in
    let now = c.run_point.new.machine in
    let paid = c.pay.new.self in
    let kind = c.in-Some.kind in
    let work = instance_work (setting.context k) setting.tree setting.ins setting.outs in
    let done = subst (λ (fault : Option FaultKind). IsDone work paid fault now) c.in-Some.is
    (c.run_point.ensures.done setting.tree setting.ins setting.outs (setting.context k) is.code is.connectors (is.at k c.loop-k-test.true)) in
    point_stop setting (row_coming setting c.args.from (c.args.until - c.args.from) (below c.args.machine.now)) (below c.args.machine.now) (below middle) (below now) k c.args.until c.loop-k-test.true
    (c.loop-k.invariant.left setting is over) (ends.Fault (place_at (setting.context k) setting.line) kind)
    (point_comes setting k middle paid now (Some kind) (ends.Fault (place_at (setting.context k) setting.line) kind) c.pay.ensures.memories (c.if-not-pay.ensures.paid (search rules)) done (λ now. refl) (c.loop-k.invariant.over setting is over))
    (λ same. cc)

pub returns-clause-end : goal.returns-clause-end
returns-clause-end c setting is over =
    row_ends setting (row_coming setting c.args.from (c.args.until - c.args.from) (below c.args.machine.now)) (below c.args.machine.now) (below c.loop-k.machine) c.loop-k.k c.args.until (omega arith) (c.loop-k.invariant.left setting is over)

pub returns-then-not-pay-clause-own : goal.returns-then-not-pay-clause-own
returns-then-not-pay-clause-own c setting is over = over_kept setting.own c.loop-k.machine c.pay.new.self c.pay.ensures.memories (c.loop-k.invariant.over setting is over)

pub returns-in-Some-clause-own : goal.returns-in-Some-clause-own
returns-in-Some-clause-own c setting is over =
    c.run_point.ensures.own setting.own is.bare (over_kept setting.own c.loop-k.machine c.pay.new.self c.pay.ensures.memories (c.loop-k.invariant.over setting is over))
