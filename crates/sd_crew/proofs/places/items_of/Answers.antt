use Rattle.std.proofs.Common.{sym, ◌∙◌, ap, arith}
use Rattle.sd_graph.specs.TreeFold.{item_trees}
use Rattle.sd_graph.specs.declared.graph.State.{State}
use Rattle.sd_graph.specs.declared.graph.ItemKind.TheViews.{out-State}
use Rattle.sd_crew.proofs.Items.{none-there, items-there}
use Rattle.sd_crew.proofs.places.items_of.Goals as goal

pub returns-then-state-states : goal.returns-then-state-states
returns-then-state-states c = none-there c.args.graph.now c.as_slice-states.result.now c.args.state c.as_slice-states.ensures.value c.if-state-states.true

pub returns : goal.returns
returns c =
    ap item_trees (c.as_slice.ensures.value ∙ ap (λ (state : State). (out-State state).items.items) (sym c.index-states-state.is))
    ∙ items-there c.args.graph.now c.as_slice-states.result.now c.args.state c.index-states-state.result c.as_slice-states.ensures.value (omega (arith, c.if-state-states.false)) c.index-states-state.is
