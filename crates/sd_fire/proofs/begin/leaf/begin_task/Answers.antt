use Rattle.sd_graph.specs.TreeFold.{graph_tree}
use Rattle.sd_scope.specs.scope.Standing.{context_of}
use Rattle.sd_fire.proofs.begin_lemmas.Rolled.{task-begins, instance_counted, instance_right}
use Rattle.sd_fire.proofs.begin.leaf.begin_task.Goals as goal

pub returns-clause-begun : goal.returns-clause-begun
returns-clause-begun c = λ code outs line.
    task-begins (context_of (graph_tree c.args.graph.now) c.args.base.now c.args.scope.now) line code c.args.ins.now outs c.in_ok-instance.instance (c.in_ok-instance.ensures code outs)

pub returns-clause-counted : goal.returns-clause-counted
returns-clause-counted c = λ memories. instance_counted memories c.in_ok-instance.instance

pub returns-clause-right : goal.returns-clause-right
returns-clause-right c = instance_right c.in_ok-instance.instance
