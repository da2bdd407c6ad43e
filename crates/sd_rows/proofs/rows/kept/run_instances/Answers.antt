use Rattle.std.proofs.Common.{◌≡◌, [], ◌∷◌, ◌++◌, Option, Some, None, refl, sym, ◌∙◌, subst, arith, rules}
use Rattle.std.specs.Option.{MatchOption}
use Rattle.std.specs.Bool.{⊤}
use Rattle.sd_work.specs.declared.fault.FaultKind.{FaultKind}
use Rattle.sd_graph.specs.Context.{place_at}
use Rattle.sd_tcode.specs.tcode.Compiled.{Compiled}
use Rattle.sd_mem.specs.declared.machine.end.End.TheVariants as ends
use Rattle.sd_leaves.specs.leaves.Done.{IsDone, instance_work}
use Rattle.sd_row.specs.row.Point.{below}
use Rattle.sd_row.specs.row.Setting.{row_coming}
use Rattle.sd_row.proofs.row_lemmas.Instances.{over_kept}
use Rattle.sd_row.proofs.row_lemmas.RowSteps.{row_begins, row_ends, point_comes, point_without_turn, point_more, point_stop}
use Rattle.sd_row.specs.instance.Scatter.{IsScatter}
use Rattle.sd_rows.specs.rows.Along.{step_to}
use Rattle.sd_rows.specs.rows.Map.{tree_of, standing, context_at, row_at}
use Rattle.sd_rows.proofs.rows_lemmas.KeptSteps.{all_outward, runner_again, set_again}
use Rattle.sd_rows.proofs.rows.kept.run_instances.Goals as goal

pub loop-k-init : goal.loop-k-init
loop-k-init c = record {
  left = row_begins (row_at c.args.task.now c.args.row.now c.args.steps.now) c.args.steps.now.count (below c.args.machine.now);
  over = c.requires.over;
  code = refl;
  ready = c.requires.runner.ready;
  room = c.requires.room;
  extents = refl;
}

pub run_directly-requires-clause-scatter : goal.run_directly-requires-clause-scatter
run_directly-requires-clause-scatter c =
    subst (λ (code : Compiled). MatchOption c.of-scatter.result ⊤ (IsScatter code c.args.accesses.now)) (sym c.loop-k.invariant.code) c.of-scatter.ensures

pub loop-k-preserved : goal.loop-k-preserved
loop-k-preserved c =
    let task = c.args.task.now in
    let steps = c.args.steps.now in
    let setting = row_at task c.args.row.now steps in
    let before = below c.args.machine.now in
    let k = c.loop-k.k in
    let middle = c.loop-k.machine in
    let paid = c.pay.new.self in
    let now = c.run_directly.new.machine in
    let set = set_again setting (standing task c.args.first.now) c.args.accesses.now steps.count k c.args.runner.now.code c.loop-k.runner.code c.args.runner.now.frame c.loop-k.runner.frame c.requires.row c.loop-k-test.true c.loop-k.invariant.code c.loop-k.invariant.extents in
    let known = c.requires.row.known k c.loop-k-test.true in
    let work = instance_work (setting.context k) setting.tree setting.ins setting.outs in
    let none : c.in_ok-fault.fault ≡ None = search rules in
    let done = subst (λ (fault : Option FaultKind). IsDone work paid fault now) none (c.in_ok-fault.ensures.done (setting.context k) setting.tree setting.ins c.requires.runner.scalars set known) in
    record {
      left = point_more setting (row_coming setting 0 steps.count before) before (below middle) (below now) k steps.count c.loop-k-test.true c.loop-k.invariant.left
          (point_comes setting k middle paid now None ends.Finished c.pay.ensures.memories (c.if-not-pay.ensures.paid (search rules)) done (λ now. refl) c.loop-k.invariant.over);
      over = c.in_ok-fault.ensures.own (setting.context k) setting.tree setting.ins setting.own c.requires.runner.scalars set known
          (all_outward (context_at task) task.params.now task.private.now (c.args.row.now ++ step_to steps k ∷ []) task.outs.now c.requires.none) none
          (over_kept setting.own middle paid c.pay.ensures.memories c.loop-k.invariant.over);
      code = c.loop-k.invariant.code;
      ready = c.in_ok-fault.ensures.ready;
      room = c.in_ok-fault.ensures.room;
      extents = c.in_ok-fault.ensures.extents ∙ c.loop-k.invariant.extents;
    }

pub returns-then-not-pay-clause-end : goal.returns-then-not-pay-clause-end
returns-then-not-pay-clause-end c =
    let task = c.args.task.now in
    let steps = c.args.steps.now in
    let setting = row_at task c.args.row.now steps in
    let before = below c.args.machine.now in
    let k = c.loop-k.k in
    let middle = c.loop-k.machine in
    let paid = c.pay.new.self in
    let none = c.if-not-pay.ensures.none (search rules) in
    point_stop setting (row_coming setting 0 steps.count before) before (below middle) (below paid) k steps.count c.loop-k-test.true c.loop-k.invariant.left ends.OutOfTurns
    (point_without_turn setting k middle paid c.pay.ensures.memories none.1 none.2 c.loop-k.invariant.over) (λ same. cc)

pub returns-in-Some-clause-end : goal.returns-in-Some-clause-end
returns-in-Some-clause-end c =
    let task = c.args.task.now in
    let steps = c.args.steps.now in
    let setting = row_at task c.args.row.now steps in
    let before = below c.args.machine.now in
    let k = c.loop-k.k in
    let middle = c.loop-k.machine in
    let paid = c.pay.new.self in
    let now = c.run_directly.new.machine in
    let set = set_again setting (standing task c.args.first.now) c.args.accesses.now steps.count k c.args.runner.now.code c.loop-k.runner.code c.args.runner.now.frame c.loop-k.runner.frame c.requires.row c.loop-k-test.true c.loop-k.invariant.code c.loop-k.invariant.extents in
    let known = c.requires.row.known k c.loop-k-test.true in
    let work = instance_work (setting.context k) setting.tree setting.ins setting.outs in
    let kind = c.in-Some.kind in
    let done = subst (λ (fault : Option FaultKind). IsDone work paid fault now) c.in-Some.is (c.in_ok-fault.ensures.done (setting.context k) setting.tree setting.ins c.requires.runner.scalars set known) in
    point_stop setting (row_coming setting 0 steps.count before) before (below middle) (below now) k steps.count c.loop-k-test.true c.loop-k.invariant.left (ends.Fault (place_at (setting.context k) setting.line) kind)
    (point_comes setting k middle paid now (Some kind) (ends.Fault (place_at (setting.context k) setting.line) kind) c.pay.ensures.memories (c.if-not-pay.ensures.paid (search rules)) done (λ now. refl) c.loop-k.invariant.over)
    (λ same. cc)

pub returns-clause-end : goal.returns-clause-end
returns-clause-end c =
    let steps = c.args.steps.now in
    let setting = row_at c.args.task.now c.args.row.now steps in
    row_ends setting (row_coming setting 0 steps.count (below c.args.machine.now)) (below c.args.machine.now) (below c.loop-k.machine) c.loop-k.k steps.count (omega arith) c.loop-k.invariant.left

pub returns-then-not-pay-clause-runner : goal.returns-then-not-pay-clause-runner
returns-then-not-pay-clause-runner c =
    let task = c.args.task.now in
    runner_again (tree_of task) task.ins.now task.outs.now c.args.accesses.now c.args.runner.now.code c.loop-k.runner.code c.args.runner.now.frame c.loop-k.runner.frame c.requires.runner c.requires.room
    c.loop-k.invariant.code c.loop-k.invariant.extents c.loop-k.invariant.ready c.loop-k.invariant.room

pub returns-clause-runner : goal.returns-clause-runner
returns-clause-runner c =
    let task = c.args.task.now in
    runner_again (tree_of task) task.ins.now task.outs.now c.args.accesses.now c.args.runner.now.code c.loop-k.runner.code c.args.runner.now.frame c.loop-k.runner.frame c.requires.runner c.requires.room
    c.loop-k.invariant.code c.loop-k.invariant.extents c.loop-k.invariant.ready c.loop-k.invariant.room

pub returns-in-Some-clause-runner : goal.returns-in-Some-clause-runner
returns-in-Some-clause-runner c =
    let task = c.args.task.now in
    runner_again (tree_of task) task.ins.now task.outs.now c.args.accesses.now c.args.runner.now.code c.loop-k.runner.code c.args.runner.now.frame c.run_directly.new.frame c.requires.runner c.requires.room
    c.loop-k.invariant.code (c.in_ok-fault.ensures.extents ∙ c.loop-k.invariant.extents) c.in_ok-fault.ensures.ready c.in_ok-fault.ensures.room
