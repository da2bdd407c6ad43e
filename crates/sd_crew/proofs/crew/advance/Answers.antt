use Rattle.std.proofs.Common.{ℤ, List, subst}
use Rattle.std.proofs.lemmas.Result.{IfOk-weaker}
use Rattle.sd_graph.specs.TreeFold.{graph_tree}
use Rattle.sd_board.specs.Boards.{IsClosed}
use Rattle.sd_board.specs.States.{state_assignment}
use Rattle.sd_crew.specs.Places.{counts_of}
use Rattle.sd_crew.proofs.Placed.{in-pieces}
use Rattle.sd_crew.proofs.crew.advance.Goals as goal

pub returns : goal.returns
returns g c =
    let tree = graph_tree c.args.bound.now.graph in
    let stand = c.args.stand in
    IfOk-weaker c.leave.result _ _
    (λ onward leads opening whole stands.
    leads opening stand.memory whole (counts_of tree stand.state stand.values.items c.args.workers)
    (in-pieces tree stand.state stand.values.items c.args.workers c.requires.some c.requires.valid c.requires.normal c.requires.accepted) stands
    (subst (λ (v : List ℤ). IsClosed (state_assignment tree stand.state v (counts_of tree stand.state v c.args.workers) stand.memory stand.turns) c.in_ok-closed.closed) c.as_slice.ensures.value c.in_ok-closed.ensures))
    c.leave.ensures
