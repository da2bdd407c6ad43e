use Rattle.sd_graph.specs.TreeFold.{graph_tree}
use Rattle.sd_scope.specs.scope.Standing.{context_of}
use Rattle.sd_row.specs.instance.Known.{IsTarget}
use Rattle.sd_row.proofs.instance_lemmas.Resting.{zip_next, zip_whole}
use Rattle.sd_row.proofs.instance.at_rest.targets_at.Goals as goal

pub loop-link-preserved : goal.loop-link-preserved
loop-link-preserved c =
    zip_next (IsTarget 0 (context_of (graph_tree c.args.graph.now) c.args.base.now c.args.scope.now) (context_of (graph_tree c.args.graph.now) c.args.base.now c.args.scope.now)) c.args.links.now c.loop-link.targets.items c.push.new.self.items c.loop-link.link-index c.link-item.result _
    c.loop-link-test.true c.link-item.is c.loop-link.invariant c.in_ok-target_at.ensures c.in_ok-push.ensures.items

pub returns : goal.returns
returns c =
    zip_whole (IsTarget 0 (context_of (graph_tree c.args.graph.now) c.args.base.now c.args.scope.now) (context_of (graph_tree c.args.graph.now) c.args.base.now c.args.scope.now)) c.args.links.now c.loop-link.targets.items c.loop-link.link-index c.loop-link-test.false c.loop-link.invariant
