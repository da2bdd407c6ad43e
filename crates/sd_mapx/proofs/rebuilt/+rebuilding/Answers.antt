use Rattle.std.proofs.Common.{◌≡◌, ◌+◌, List, Bool, rules, ap, sym, ◌∙◌}
use Rattle.std.proofs.lemmas.Result.{IfOk-weaker}
use Rattle.sd_graph.specs.PlainTree.{KindTree, and_item, and_state, no_item, no_state}
use Rattle.sd_graph.specs.TreeFold.{PlainItem, PlainState, items_listed, kind_tree, item_tree, item_trees, state_trees}
use Rattle.sd_graph.specs.declared.graph.Item.{Item}
use Rattle.sd_graph.specs.declared.graph.State.{State}
use Rattle.sd_wire.proofs.wiring_lemmas.ItemLists.{item_opened}
use Rattle.sd_alike.specs.alike.Places.{items_then, items_with}
use Rattle.sd_mapx.specs.Rebuilt.{item_with, item_at, items_from, states_from, states_then}
use Rattle.sd_mapx.proofs.RebuiltLemmas.{then_nothing, states_then_nothing, item_pushed, state_pushed, item_next, state_next, items_from_first, states_from_first, items_without, no_member, left_after, with_rest}
use Rattle.sd_mapx.proofs.rebuilt.+rebuilding.Goals as goal

pub items_with-returns-in_default : goal.items_with-returns-in_default
items_with-returns-in_default g t c =
    let replacing = g.R.Replace.replacing c.args.replace.now in
    let further = g.R.Replace.further c.args.replace.now in
    IfOk-weaker c.items.result _ _ (λ new is. ap items_listed is ∙ sym (ap (items_with replacing further c.args.variables (item_trees c.args.items.now)) (no_member c.args.place.now c.in_default.ensures.cases)
    ∙ items_without replacing further c.args.variables (item_trees c.args.items.now))) c.items.ensures

pub items_with-loop-item-preserved : goal.items_with-loop-item-preserved
items_with-loop-item-preserved g t c =
    let more : c.in_ok-at.at ≡ c.loop-item.at + 1 = search rules in
    item_next (g.R.Replace.replacing c.args.replace.now) (g.R.Replace.further c.args.replace.now) c.args.variables c.in-Some.number.now c.in-Some.rest.now c.loop-item.at c.in_ok-at.at c.loop-item.item-index c.args.items.now c.item-item.result
    _ _ _ c.loop-item-test.true c.item-item.is more c.in_ok-put_item.ensures c.loop-item.invariant

pub items_with-returns : goal.items_with-returns
items_with-returns g t c =
    let replacing = g.R.Replace.replacing c.args.replace.now in
    let further = g.R.Replace.further c.args.replace.now in
    let number = c.in-Some.number.now in
    let rest = c.in-Some.rest.now in
    sym (then_nothing (item_trees c.loop-item.new.items))
    ∙ ap (λ (left : List Item). items_then (item_trees c.loop-item.new.items) (items_from replacing further c.args.variables number rest c.loop-item.at (item_trees left))) (sym (left_after c.args.items.now c.loop-item.item-index c.loop-item-test.false))
    ∙ c.loop-item.invariant
    ∙ items_from_first replacing further c.args.variables number rest (item_trees c.args.items.now)
    ∙ ap (items_with replacing further c.args.variables (item_trees c.args.items.now)) (sym c.in-Some.ensures.cases.0)

pub put_item-returns-then-not-is_meant : goal.put_item-returns-then-not-is_meant
put_item-returns-then-not-is_meant g t c =
    let replacing = g.R.Replace.replacing c.args.replace.now in
    let further = g.R.Replace.further c.args.replace.now in
    let item = item_tree c.args.item.now in
    ap item_trees c.in_ok-push.ensures.items
    ∙ item_pushed c.args.new.now.items c.in_ok-copy_of.field-0
    ∙ ap (λ (at : PlainItem). items_then (item_trees c.args.new.now.items) (and_item at.0 at.1 no_item)) c.in_ok-copy_of.ensures
    ∙ ap (λ (meant : Bool). items_then (item_trees c.args.new.now.items) (item_at replacing further c.args.variables meant item.0 item.1 c.args.rest.now)) (sym c.if-not-is_meant.true)

pub put_item-returns-in_ok-push-in-Some : goal.put_item-returns-in_ok-push-in-Some
put_item-returns-in_ok-push-in-Some g t c =
    let replacing = g.R.Replace.replacing c.args.replace.now in
    let further = g.R.Replace.further c.args.replace.now in
    let item = c.args.item.now in
    ap item_trees c.in_ok-push-in-Some.ensures.items
    ∙ item_pushed c.args.new.now.items (record { line = item.line; kind = c.in_ok-kind-in-Some.kind })
    ∙ ap (λ (at : PlainItem). items_then (item_trees c.args.new.now.items) (and_item at.0 at.1 no_item)) (item_opened (record { line = item.line; kind = c.in_ok-kind-in-Some.kind }))
    ∙ ap (λ (kind : KindTree). items_then (item_trees c.args.new.now.items) (and_item item.line kind no_item)) c.in_ok-kind-in-Some.ensures
    ∙ ap (items_then (item_trees c.args.new.now.items)) (sym (with_rest replacing further c.args.variables item.line (kind_tree item.kind) c.args.rest.now _ _ c.in-Some.ensures.cases.0))
    ∙ ap (λ (at : PlainItem). items_then (item_trees c.args.new.now.items) (item_with replacing further c.args.variables at.0 at.1 c.args.rest.now)) (sym (item_opened item))
    ∙ ap (λ (meant : Bool). items_then (item_trees c.args.new.now.items) (item_at replacing further c.args.variables meant (item_tree item).0 (item_tree item).1 c.args.rest.now)) (sym c.if-not-is_meant.false)

pub states_with-loop-state-preserved : goal.states_with-loop-state-preserved
states_with-loop-state-preserved g t c =
    let replacing = g.R.Replace.replacing c.args.replace.now in
    let further = g.R.Replace.further c.args.replace.now in
    let more : c.in_ok-at.at ≡ c.loop-state.at + 1 = search rules in
    state_next replacing further c.args.variables c.args.place.now c.loop-state.at c.in_ok-at.at c.loop-state.state-index c.args.states.now c.state-item.result
    _ _ _ c.loop-state-test.true c.state-item.is more
    (ap state_trees c.in_ok-push.ensures.items ∙ state_pushed c.loop-state.new.items c.in_ok-state_at.field-0
    ∙ ap (λ (at : PlainState). states_then (state_trees c.loop-state.new.items) (and_state at.0 at.1 no_state)) c.in_ok-state_at.ensures)
    c.loop-state.invariant

pub states_with-returns : goal.states_with-returns
states_with-returns g t c =
    let replacing = g.R.Replace.replacing c.args.replace.now in
    let further = g.R.Replace.further c.args.replace.now in
    sym (states_then_nothing (state_trees c.loop-state.new.items))
    ∙ ap (λ (left : List State). states_then (state_trees c.loop-state.new.items) (states_from replacing further c.args.variables c.args.place.now c.loop-state.at (state_trees left))) (sym (left_after c.args.states.now c.loop-state.state-index c.loop-state-test.false))
    ∙ c.loop-state.invariant
    ∙ states_from_first replacing further c.args.variables c.args.place.now (state_trees c.args.states.now)
