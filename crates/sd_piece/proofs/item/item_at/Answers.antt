use Rattle.std.proofs.Common.{sym, ◌∙◌, ap, arith}
use Rattle.sd_graph.specs.declared.graph.State.{State}
use Rattle.sd_graph.specs.declared.graph.ItemKind.TheViews.{out-State}
use Rattle.sd_piece.proofs.Found.{no-state, no-item, item-there}
use Rattle.sd_piece.proofs.item.item_at.Goals as goal

pub returns-then-state-states : goal.returns-then-state-states
returns-then-state-states c = no-state c.args.graph.now c.as_slice-states.result.now c.args.state c.args.item c.as_slice-states.ensures.value c.if-state-states.true

pub returns-then-item-items : goal.returns-then-item-items
returns-then-item-items c =
    no-item c.args.graph.now c.as_slice-states.result.now c.args.state c.index-states-state.result c.as_slice-items.result.now c.args.item c.as_slice-states.ensures.value (omega (arith, c.if-state-states.false)) c.index-states-state.is
    (c.as_slice-items.ensures.value ∙ ap (λ (state : State). (out-State state).items.items) (sym c.index-states-state.is)) c.if-item-items.true

pub returns : goal.returns
returns c =
    item-there c.args.graph.now c.as_slice-states.result.now c.args.state c.index-states-state.result c.as_slice-items.result.now c.args.item c.index-items-item.result c.as_slice-states.ensures.value (omega (arith, c.if-state-states.false)) c.index-states-state.is
    (c.as_slice-items.ensures.value ∙ ap (λ (state : State). (out-State state).items.items) (sym c.index-states-state.is)) (omega (arith, c.if-item-items.false)) c.index-items-item.is
