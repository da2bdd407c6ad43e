use Rattle.std.proofs.Common.{arith}
use Rattle.sd_graph.specs.TreeFold.{graph_tree}
use Rattle.sd_graph.specs.TreeParts.{containers_of}
use Rattle.sd_scope.specs.scope.Standing.{opening_reach}
use Rattle.sd_leaves.proofs.transition_lemmas.Ways.{exits_here, no_exits, nowhere}
use Rattle.sd_leaves.proofs.transition.onward.go_on.Goals as goal

pub returns-then-state-states : goal.returns-then-state-states
returns-then-state-states c =
    nowhere (graph_tree c.args.graph.now) (opening_reach (containers_of (graph_tree c.args.graph.now)) c.args.base.now) c.args.base.now.around c.args.state c.args.values.now c.args.machine.now.memories
    (no_exits c.args.graph.now c.as_slice-states.result.now c.as_slice-states.ensures.value c.args.state (omega (arith, c.if-state-states.true)))

pub go_on_from-requires : goal.go_on_from-requires
go_on_from-requires c = record {
  here = exits_here c.args.graph.now c.as_slice-states.result.now c.as_slice-states.ensures.value c.args.state c.index-states-state.result
      (omega (arith, c.if-state-states.false)) c.index-states-state.is;
}
