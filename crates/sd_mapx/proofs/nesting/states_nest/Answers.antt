use Rattle.std.proofs.Common.{List, ap, sym, ◌∙◌}
use Rattle.sd_graph.specs.TreeFold.{PlainState, item_trees, state_trees}
use Rattle.sd_graph.specs.declared.graph.Item.{Item}
use Rattle.sd_graph.proofs.TreeLemmas.{state_opened}
use Rattle.sd_alike.specs.alike.Places.{items_nest, states_nest}
use Rattle.sd_mapx.proofs.Walked.{no_member, states_nest_none, state_nests, no_state_nests}
use Rattle.sd_mapx.proofs.nesting.states_nest.Goals as goal

pub returns-in_default : goal.returns-in_default
returns-in_default c =
    sym (ap (states_nest (state_trees c.args.states.now)) (no_member c.args.place.now c.in_default.ensures.cases) ∙ states_nest_none c.args.states.now)

pub returns-in_default-get : goal.returns-in_default-get
returns-in_default-get c =
    sym (ap (states_nest (state_trees c.args.states.now)) c.in-Some.ensures.cases.0
    ∙ no_state_nests c.args.states.now c.in-Some.number.now c.in-Some.rest.now c.in_default-get.ensures.lookup.3)

pub returns : goal.returns
returns c =
    let state = c.in-Some-get.state.now in
    let rest = c.in-Some.rest.now in
    c.items_nest.ensures
    ∙ ap (λ (items : List Item). items_nest (item_trees items) rest) c.deref.ensures.value
    ∙ ap (λ (state : PlainState). items_nest state.0 rest) (sym (state_opened state))
    ∙ sym (ap (states_nest (state_trees c.args.states.now)) c.in-Some.ensures.cases.0
    ∙ state_nests c.args.states.now c.in-Some.number.now state rest c.in-Some-get.ensures.lookup.3.0 (c.in-Some-get.ensures.lookup.3.1 state))
