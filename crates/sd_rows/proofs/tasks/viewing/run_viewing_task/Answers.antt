use Rattle.std.proofs.Common.{rules}
use Rattle.sd_graph.specs.TreeFold.{graph_tree, tasklet_tree}
use Rattle.sd_tcode.specs.tcode.Held.{given}
use Rattle.sd_scope.specs.scope.Standing.{context_of}
use Rattle.sd_leaves.proofs.leaves_lemmas.Ends.{no_turn, turn_then}
use Rattle.sd_row.specs.view.View.{AreViews}
use Rattle.sd_row.proofs.instance_lemmas.Matched.{found_so, always_ok}
use Rattle.sd_row.proofs.view_lemmas.Viewed.{room_viewed, inputs_viewed, code_again}
use Rattle.sd_rows.proofs.tasks.viewing.run_viewing_task.Goals as goal

pub returns-then-not-pay-clause-end : goal.returns-then-not-pay-clause-end
returns-then-not-pay-clause-end c =
    let none = c.if-not-pay.ensures.none (search rules) in
    no_turn (tasklet_tree c.args.code.now) c.args.ins.now c.args.outs.now c.args.line (context_of (graph_tree c.args.graph.now) c.args.base.now c.args.scope.now) c.args.machine.now
    c.pay.new.self c.pay.ensures.memories none.1 none.2

pub run_on_views-requires-clause-ready : goal.run_on_views-requires-clause-ready
run_on_views-requires-clause-ready c = c.requires.runner.ready

pub run_on_views-requires-clause-room : goal.run_on_views-requires-clause-room
run_on_views-requires-clause-room c =
    let tree = tasklet_tree c.args.code.now in
    let here = context_of (graph_tree c.args.graph.now) c.args.base.now c.args.scope.now in
    let are : AreViews tree c.args.ins.now c.args.outs.now 0 here here c.in-Some.views = found_so _ c.in_ok-views.field-0 c.in-Some.views c.in-Some.is c.in_ok-views.ensures.views in
    room_viewed tree c.args.ins.now c.args.outs.now 0 here here c.in-Some.views are (given c.args.runner.now.frame) c.requires.runner.room

pub run_on_views-requires-clause-dims : goal.run_on_views-requires-clause-dims
run_on_views-requires-clause-dims c = c.fit.ensures (search rules) 0 c.pay.new.self.memories

pub run_on_views-requires-clause-inputs : goal.run_on_views-requires-clause-inputs
run_on_views-requires-clause-inputs c =
    let tree = tasklet_tree c.args.code.now in
    let here = context_of (graph_tree c.args.graph.now) c.args.base.now c.args.scope.now in
    let are : AreViews tree c.args.ins.now c.args.outs.now 0 here here c.in-Some.views = found_so _ c.in_ok-views.field-0 c.in-Some.views c.in-Some.is c.in_ok-views.ensures.views in
    inputs_viewed tree c.args.ins.now c.args.outs.now 0 here here c.in-Some.views are c.args.runner.now.code c.args.runner.now.frame c.requires.runner

pub run_on_views-requires-clause-words : goal.run_on_views-requires-clause-words
run_on_views-requires-clause-words c = found_so _ c.in_ok-views.field-0 c.in-Some.views c.in-Some.is c.in_ok-views.ensures.words

pub returns-clause-end : goal.returns-clause-end
returns-clause-end c =
    let tree = tasklet_tree c.args.code.now in
    let here = context_of (graph_tree c.args.graph.now) c.args.base.now c.args.scope.now in
    let are : AreViews tree c.args.ins.now c.args.outs.now 0 here here c.in-Some.views = found_so _ c.in_ok-views.field-0 c.in-Some.views c.in-Some.is c.in_ok-views.ensures.views in
    turn_then tree c.args.ins.now c.args.outs.now c.args.line here c.args.machine.now
    c.pay.new.self c.run_on_views.new.machine c.in_ok-fault.fault c.end_of.result c.pay.ensures.memories (c.if-not-pay.ensures.paid (search rules))
    (c.in_ok-fault.ensures.done here tree c.args.ins.now c.requires.runner.code are) c.end_of.ensures

pub returns-clause-runner : goal.returns-clause-runner
returns-clause-runner c =
    let tree = tasklet_tree c.args.code.now in
    let here = context_of (graph_tree c.args.graph.now) c.args.base.now c.args.scope.now in
    let are : AreViews tree c.args.ins.now c.args.outs.now 0 here here c.in-Some.views = found_so _ c.in_ok-views.field-0 c.in-Some.views c.in-Some.is c.in_ok-views.ensures.views in
    always_ok _ c.end_of.result
    (code_again tree c.args.ins.now c.args.outs.now 0 here here c.in-Some.views are c.args.runner.now.code c.args.runner.now.frame c.run_on_views.new.frame c.requires.runner
    c.in_ok-fault.ensures.ready c.in_ok-fault.ensures.room c.in_ok-fault.ensures.extents)
