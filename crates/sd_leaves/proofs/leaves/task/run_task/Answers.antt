use Rattle.std.proofs.Common.{rules}
use Rattle.sd_graph.specs.TreeFold.{graph_tree, tasklet_tree}
use Rattle.sd_scope.specs.scope.Standing.{context_of}
use Rattle.sd_leaves.proofs.leaves_lemmas.Ends.{no_turn, turn_then}
use Rattle.sd_leaves.proofs.leaves.task.run_task.Goals as goal

pub returns-then-not-pay : goal.returns-then-not-pay
returns-then-not-pay c =
    let none = c.if-not-pay.ensures.none (search rules) in
    no_turn (tasklet_tree c.args.code.now) c.args.ins.now c.args.outs.now c.args.line (context_of (graph_tree c.args.graph.now) c.args.base.now c.args.scope.now) c.args.machine.now
    c.pay.new.self c.pay.ensures.memories none.1 none.2

pub returns : goal.returns
returns c =
    turn_then (tasklet_tree c.args.code.now) c.args.ins.now c.args.outs.now c.args.line (context_of (graph_tree c.args.graph.now) c.args.base.now c.args.scope.now) c.args.machine.now
    c.pay.new.self c.do_instance.new.machine c.in_ok-fault.fault c.end_of.result c.pay.ensures.memories (c.if-not-pay.ensures.paid (search rules)) c.in_ok-fault.ensures c.end_of.ensures
