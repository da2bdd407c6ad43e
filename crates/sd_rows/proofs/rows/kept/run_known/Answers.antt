use Rattle.std.proofs.Common.{map}
use Rattle.sd_graph.specs.TreeFold.{named_container}
use Rattle.sd_graph.specs.declared.graph.ItemKind.TheViews.{out-Sdfg}
use Rattle.sd_row.proofs.instance_lemmas.Bodies.{containers_in}
use Rattle.sd_rows.proofs.rows_lemmas.RowEnds.{over_own, inside_ends, row_told}
use Rattle.sd_rows.proofs.rows.kept.run_known.Goals as goal

pub run_instances-requires-clause-over : goal.run_instances-requires-clause-over
run_instances-requires-clause-over c =
    let task = c.args.task.now in
    over_own task c.args.row.now c.args.steps.now (map named_container (out-Sdfg task.graph.now).containers.entries) c.in_ok-own.own.contents c.args.machine.now c.enter.new.self
    (containers_in task.graph.now) c.in_ok-own.ensures.contents c.in_ok-enter.ensures.memories

pub returns-clause-end : goal.returns-clause-end
returns-clause-end c =
    let task = c.args.task.now in
    let row = c.args.row.now in
    let steps = c.args.steps.now in
    row_told task row steps c.end_at.result c.in_ok-end.end c.args.machine.now c.leave.new.self c.end_at.ensures.end
    (inside_ends task row steps (map named_container (out-Sdfg task.graph.now).containers.entries) c.in_ok-own.own.contents
    c.args.machine.now c.enter.new.self c.run_instances.new.machine c.leave.new.self c.in_ok-end.end
    (containers_in task.graph.now) c.in_ok-own.ensures.contents c.in_ok-enter.ensures.memories c.in_ok-enter.ensures.turns c.leave.ensures.memories c.leave.ensures.turns c.in_ok-end.ensures.end)
