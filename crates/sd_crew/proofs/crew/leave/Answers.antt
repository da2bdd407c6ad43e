use Rattle.std.proofs.Common.{sym, ◌∙◌, arith}
use Rattle.sd_graph.specs.TreeFold.{graph_tree}
use Rattle.sd_crew.proofs.Going.{some-of, goes-stopped, goes-over, left-to, left-out, left-stopped}
use Rattle.sd_crew.proofs.crew.leave.Goals as goal

pub returns-then-is_some : goal.returns-then-is_some
returns-then-is_some c = λ opening memory whole counts s stands is end done.
    let kept = some-of c.args.closed.stopped c.if-is_some.ensures in
    goes-stopped (graph_tree c.args.bound.now.graph) opening whole c.args.state c.args.values.items memory c.args.turns counts c.args.closed s stands is kept.0 end kept.1 done

pub returns-in_default : goal.returns-in_default
returns-in_default c = λ opening memory whole counts s stands is end done.
    let over = c.in_default.ensures in
    goes-over (graph_tree c.args.bound.now.graph) opening whole c.args.state c.args.values.items memory c.args.turns counts c.args.closed s stands is end (grind (arith, over)) done

pub returns-in-To : goal.returns-in-To
returns-in-To c = λ opening memory whole counts s stands is.
    let left = c.in-Some.ensures in
    left-to (graph_tree c.args.bound.now.graph) opening whole c.args.state c.args.values.items memory c.args.turns counts c.args.closed s stands is c.in-Some.left c.if-not-is_whole.false (grind (arith, left)) c.in-To.state
    c.in-To.paid _ _ _ (sym c.in_ok-state.ensures.follow ∙ c.in-To.is) c.in_ok-state.ensures.values c.follow.ensures.memory c.saturating_sub.ensures

pub returns-in-End : goal.returns-in-End
returns-in-End c = λ opening memory whole counts s stands is.
    let left = c.in-Some.ensures in
    left-out (graph_tree c.args.bound.now.graph) opening whole c.args.state c.args.values.items memory c.args.turns counts c.args.closed s stands is c.in-Some.left c.if-not-is_whole.false (grind (arith, left)) _
    (sym c.in_ok-state.ensures.follow ∙ c.in-End.is) c.follow.ensures.memory

pub returns-in-Stopped : goal.returns-in-Stopped
returns-in-Stopped c = λ opening memory whole counts s stands is end done.
    let left = c.in-Some.ensures in
    left-stopped (graph_tree c.args.bound.now.graph) opening whole c.args.state c.args.values.items memory c.args.turns counts c.args.closed s stands is c.in-Some.left c.if-not-is_whole.false (grind (arith, left)) _ end
    (sym c.in_ok-state.ensures.follow ∙ c.in-Stopped.is) done
