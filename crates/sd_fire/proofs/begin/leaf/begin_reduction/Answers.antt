use Rattle.sd_graph.specs.TreeFold.{graph_tree}
use Rattle.sd_scope.specs.scope.Standing.{context_of}
use Rattle.sd_graph.specs.PlainTree.{reduction}
use Rattle.sd_fire.proofs.begin_lemmas.Rolled.{doing-begins, doing_counted, doing_right}
use Rattle.sd_fire.proofs.begin.leaf.begin_reduction.Goals as goal

pub returns-clause-begun : goal.returns-clause-begun
returns-clause-begun c = λ line.
    doing-begins (context_of (graph_tree c.args.graph.now) c.args.base.now c.args.scope.now) line (reduction c.args.resolution c.args.axis c.args.identity c.args.from.now c.args.to.now) c.in_ok-doing.doing _ c.in_ok-doing.ensures

pub returns-clause-counted : goal.returns-clause-counted
returns-clause-counted c = λ memories. doing_counted memories c.in_ok-doing.doing

pub returns-clause-right : goal.returns-clause-right
returns-clause-right c = doing_right c.in_ok-doing.doing
