use Rattle.std.proofs.Common.{List, Some, map, ◌++◌, subst}
use Rattle.sd_work.specs.Leaf.{Pending, transfer, identities}
use Rattle.sd_graph.specs.TreeFold.{graph_tree}
use Rattle.sd_graph.specs.Context.{link_elements, place_at}
use Rattle.sd_graph.specs.Unfold.{reduction_pairs}
use Rattle.sd_scope.specs.scope.Standing.{context_of}
use Rattle.sd_leaves.specs.leaves.Done.{IsDone, performing}
use Rattle.sd_leaves.proofs.leaves_lemmas.CellLists.{reduction_is}
use Rattle.sd_leaves.proofs.leaves_lemmas.Ends.{ended_by}
use Rattle.sd_leaves.proofs.leaves.reduction.run_reduction.Goals as goal

pub returns : goal.returns
returns c =
    let context = context_of (graph_tree c.args.graph.now) c.args.base.now c.args.scope.now in
    let done = subst (λ (todo : List Pending). IsDone (performing todo) c.args.machine.now c.in_ok-fault.fault c.reduce.new.machine)
    (reduction_is context c.args.resolution c.args.axis c.args.identity c.args.from.now c.args.to.now) c.in_ok-fault.ensures in
    ended_by (performing (identities c.args.identity (link_elements context c.args.to.now) ++ map (λ pair. transfer pair.0 pair.1 (Some c.args.resolution)) (reduction_pairs context c.args.axis c.args.from.now c.args.to.now)))
    (place_at context c.args.line) c.args.machine.now c.reduce.new.machine c.in_ok-fault.fault c.end_of.result done c.end_of.ensures
