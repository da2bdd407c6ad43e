use Rattle.std.proofs.Common.{[], ◌∷◌, ◌++◌, map, arith}
use Rattle.sd_graph.specs.TreeFold.{named_container}
use Rattle.sd_graph.specs.declared.graph.ItemKind.TheViews.{out-Sdfg}
use Rattle.sd_row.specs.row.Setting.{row_coming}
use Rattle.sd_row.proofs.row_lemmas.Comes.{as_finished}
use Rattle.sd_row.proofs.row_lemmas.RowSteps.{one_item, row_begins, row_ends, point_more, point_stop}
use Rattle.sd_row.proofs.instance_lemmas.Bodies.{containers_in}
use Rattle.sd_rows.specs.rows.Along.{step_to}
use Rattle.sd_rows.specs.rows.Map.{tree_of, standing, context_at, body_of, row_at}
use Rattle.sd_rows.proofs.rows_lemmas.Points.{point_ends}
use Rattle.sd_rows.proofs.rows.pointwise.run_points.Goals as goal

pub loop-k-init : goal.loop-k-init
loop-k-init c = record {
  left = row_begins (row_at c.args.task.now c.args.row.now c.args.steps.now) c.args.steps.now.count c.args.machine.now;
  inside = c.requires.inside;
}

pub loop-k-preserved : goal.loop-k-preserved
loop-k-preserved c =
    let task = c.args.task.now in
    let setting = row_at task c.args.row.now c.args.steps.now in
    let inside = standing task c.go_to.new.inner in
    record {
      left = point_more setting (row_coming setting 0 c.args.steps.now.count c.args.machine.now) c.args.machine.now c.loop-k.machine c.leave.new.self c.loop-k.k c.args.steps.now.count c.loop-k-test.true c.loop-k.invariant.left
          (as_finished _ _ _ c.in_ok-end.end c.in-Finished.is
          (point_ends (body_of task) task.params.now task.private.now (context_at task) (c.args.row.now ++ step_to c.args.steps.now c.loop-k.k ∷ [])
          (map named_container (out-Sdfg task.graph.now).containers.entries) inside c.in_ok-own.own.contents c.loop-k.machine c.enter.new.self c.run_task.new.machine c.leave.new.self c.in_ok-end.end
          (containers_in task.graph.now) c.in_ok-own.ensures.contents (c.in_ok-go_to.ensures.context c.loop-k.invariant.inside)
          c.in_ok-enter.ensures.memories c.in_ok-enter.ensures.turns
          (one_item task.line (tree_of task) task.ins.now task.outs.now inside c.enter.new.self c.run_task.new.machine c.in_ok-end.end c.in_ok-end.ensures) c.leave.ensures.memories c.leave.ensures.turns));
      inside = c.in_ok-go_to.ensures.inside c.loop-k.invariant.inside;
    }

pub returns-in_default-clause-end : goal.returns-in_default-clause-end
returns-in_default-clause-end c =
    let task = c.args.task.now in
    let setting = row_at task c.args.row.now c.args.steps.now in
    let inside = standing task c.go_to.new.inner in
    point_stop setting (row_coming setting 0 c.args.steps.now.count c.args.machine.now) c.args.machine.now c.loop-k.machine c.leave.new.self c.loop-k.k c.args.steps.now.count c.loop-k-test.true c.loop-k.invariant.left
    c.in_ok-end.end
    (point_ends (body_of task) task.params.now task.private.now (context_at task) (c.args.row.now ++ step_to c.args.steps.now c.loop-k.k ∷ [])
    (map named_container (out-Sdfg task.graph.now).containers.entries) inside c.in_ok-own.own.contents c.loop-k.machine c.enter.new.self c.run_task.new.machine c.leave.new.self c.in_ok-end.end
    (containers_in task.graph.now) c.in_ok-own.ensures.contents (c.in_ok-go_to.ensures.context c.loop-k.invariant.inside)
    c.in_ok-enter.ensures.memories c.in_ok-enter.ensures.turns
    (one_item task.line (tree_of task) task.ins.now task.outs.now inside c.enter.new.self c.run_task.new.machine c.in_ok-end.end c.in_ok-end.ensures) c.leave.ensures.memories c.leave.ensures.turns)
    c.in_default.not-Finished

pub returns-clause-end : goal.returns-clause-end
returns-clause-end c =
    let setting = row_at c.args.task.now c.args.row.now c.args.steps.now in
    row_ends setting (row_coming setting 0 c.args.steps.now.count c.args.machine.now) c.args.machine.now c.loop-k.machine c.loop-k.k c.args.steps.now.count (omega arith) c.loop-k.invariant.left

pub returns-in_default-clause-inside : goal.returns-in_default-clause-inside
returns-in_default-clause-inside c = c.in_ok-go_to.ensures.inside c.loop-k.invariant.inside
