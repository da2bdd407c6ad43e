use Rattle.std.proofs.Common.{ap, ◌∙◌, map}
use Rattle.std.proofs.lemmas.List.{take_all}
use Rattle.sd_graph.specs.TreeFold.{item_tree, items_listed, state_tree, states_listed}
use Rattle.sd_valid.proofs.BoundLists.{bound_item, bound_state, items_bound, states_bound}
use Rattle.sd_valid.proofs.tree.+graphs.Goals as goal

pub items-returns : goal.items-returns
items-returns t c =
    ap items_listed (c.loop-one.invariant ∙ ap (λ all. map (bound_item c.args.sizes.now) (map item_tree all)) (take_all c.loop-one.one-index c.args.all.now c.loop-one-test.false))
    ∙ items_bound c.args.sizes.now (map item_tree c.args.all.now)

pub states-returns : goal.states-returns
states-returns t c =
    ap states_listed (c.loop-one.invariant ∙ ap (λ all. map (bound_state c.args.sizes.now) (map state_tree all)) (take_all c.loop-one.one-index c.args.all.now c.loop-one-test.false))
    ∙ states_bound c.args.sizes.now (map state_tree c.args.all.now)
