use Rattle.sd_graph.specs.TreeFold.{graph_tree}
use Rattle.sd_graph.specs.Context.{place_at}
use Rattle.sd_scope.specs.scope.Standing.{context_of}
use Rattle.sd_leaves.specs.leaves.Done.{performing, copied}
use Rattle.sd_leaves.proofs.leaves_lemmas.Ends.{ended_by}
use Rattle.sd_leaves.proofs.leaves.copy.run_copy.Goals as goal

pub returns : goal.returns
returns c =
    let context = context_of (graph_tree c.args.graph.now) c.args.base.now c.args.scope.now in
    ended_by (performing (copied context c.args.from.now c.args.to.now)) (place_at context c.args.line) c.args.machine.now c.transfer_all.new.machine c.in_ok-fault.fault c.end_of.result c.in_ok-fault.ensures c.end_of.ensures
