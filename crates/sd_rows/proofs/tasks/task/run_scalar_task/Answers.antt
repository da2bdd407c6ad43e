use Rattle.std.proofs.Common.{length, ap, sym, ◌∙◌, rules}
use Rattle.sd_graph.specs.TreeFold.{graph_tree, tasklet_tree}
use Rattle.sd_tcode.specs.tcode.Held.{given}
use Rattle.sd_scope.specs.scope.Standing.{context_of}
use Rattle.sd_leaves.proofs.leaves_lemmas.Ends.{no_turn, turn_then}
use Rattle.sd_row.specs.instance.Fit.{IsRunner}
use Rattle.sd_row.specs.instance.Known.{AreKnown}
use Rattle.sd_row.proofs.instance_lemmas.Given.{room_known}
use Rattle.sd_row.proofs.instance_lemmas.Matched.{found_so, always_ok}
use Rattle.sd_rows.proofs.tasks.task.run_scalar_task.Goals as goal

pub returns-then-not-branch-clause-runner : goal.returns-then-not-branch-clause-runner
returns-then-not-branch-clause-runner c = always_ok _ c.run_task.result (c.in_ok-shape.ensures.runner (tasklet_tree c.args.code.now) c.requires.runner)

pub returns-in_default-clause-runner : goal.returns-in_default-clause-runner
returns-in_default-clause-runner c = always_ok _ c.run_task-in_default.result (c.in_ok-shape.ensures.runner (tasklet_tree c.args.code.now) c.requires.runner)

pub returns-then-not-pay-clause-end : goal.returns-then-not-pay-clause-end
returns-then-not-pay-clause-end c =
    let none = c.if-not-pay.ensures.none (search rules) in
    no_turn (tasklet_tree c.args.code.now) c.args.ins.now c.args.outs.now c.args.line (context_of (graph_tree c.args.graph.now) c.args.base.now c.args.scope.now) c.args.machine.now
    c.pay.new.self c.pay.ensures.memories none.1 none.2

pub returns-then-not-pay-clause-runner : goal.returns-then-not-pay-clause-runner
returns-then-not-pay-clause-runner c = c.in_ok-shape.ensures.runner (tasklet_tree c.args.code.now) c.requires.runner

pub run_instance-requires-clause-ready : goal.run_instance-requires-clause-ready
run_instance-requires-clause-ready c = (c.in_ok-shape.ensures.runner (tasklet_tree c.args.code.now) c.requires.runner).ready

pub run_instance-requires-clause-room : goal.run_instance-requires-clause-room
run_instance-requires-clause-room c =
    let tree = tasklet_tree c.args.code.now in
    let here = context_of (graph_tree c.args.graph.now) c.args.base.now c.args.scope.now in
    let known : AreKnown tree c.args.ins.now c.args.outs.now 0 here here c.in-Some.accesses = found_so _ c.in_ok-accesses.field-0 c.in-Some.accesses c.in-Some.is c.in_ok-accesses.ensures in
    room_known tree c.args.ins.now c.args.outs.now 0 here here c.in-Some.accesses (given c.shape.new.self.frame) known (c.in_ok-shape.ensures.runner tree c.requires.runner).room

pub returns-clause-end : goal.returns-clause-end
returns-clause-end c =
    let tree = tasklet_tree c.args.code.now in
    let program = graph_tree c.args.graph.now in
    let here = context_of program c.args.base.now c.args.scope.now in
    let known : AreKnown tree c.args.ins.now c.args.outs.now 0 here here c.in-Some.accesses = found_so _ c.in_ok-accesses.field-0 c.in-Some.accesses c.in-Some.is c.in_ok-accesses.ensures in
    let runner = c.in_ok-shape.ensures.runner tree c.requires.runner in
    turn_then tree c.args.ins.now c.args.outs.now c.args.line here c.args.machine.now
    c.pay.new.self c.run_instance.new.machine c.in_ok-fault.fault c.end_of.result c.pay.ensures.memories (c.if-not-pay.ensures.paid (search rules))
    (c.in_ok-fault.ensures.done here tree c.args.ins.now
    (record { code = runner.code; extents = c.in_ok-shape.ensures.extents tree c.requires.runner (search rules) program c.args.base.now }) known) c.end_of.ensures

pub returns-clause-runner : goal.returns-clause-runner
returns-clause-runner c =
    let tree = tasklet_tree c.args.code.now in
    let here = context_of (graph_tree c.args.graph.now) c.args.base.now c.args.scope.now in
    let known : AreKnown tree c.args.ins.now c.args.outs.now 0 here here c.in-Some.accesses = found_so _ c.in_ok-accesses.field-0 c.in-Some.accesses c.in-Some.is c.in_ok-accesses.ensures in
    let runner : IsRunner tree c.args.ins.now c.args.outs.now c.shape.new.self.code c.shape.new.self.frame = c.in_ok-shape.ensures.runner tree c.requires.runner in
    let room = room_known tree c.args.ins.now c.args.outs.now 0 here here c.in-Some.accesses (given c.shape.new.self.frame) known runner.room in
    let after = c.in_ok-fault.ensures.room in
    always_ok _ c.end_of.result (record {
      code = runner.code;
      ready = c.in_ok-fault.ensures.ready;
      room = record {
        singles = after.singles;
        reads = after.reads ∙ sym room.reads ∙ runner.room.reads;
        variables = after.variables ∙ sym room.variables ∙ runner.room.variables;
        few_reads = runner.room.few_reads;
        few_variables = runner.room.few_variables;
      };
      connectors = ap length c.in_ok-fault.ensures.extents ∙ runner.connectors;
      scalars = runner.scalars;
    })
