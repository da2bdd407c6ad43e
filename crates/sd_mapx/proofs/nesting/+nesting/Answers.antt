use Rattle.std.proofs.Common.{ap, sym, ◌∙◌}
use Rattle.sd_graph.specs.TreeFold.{item_trees}
use Rattle.sd_alike.specs.alike.Places.{items_nest}
use Rattle.sd_mapx.proofs.Walked.{no_member, nests_from, nests_behind, items_nest_none, item_nests, no_item_nests}
use Rattle.sd_mapx.proofs.nesting.+nesting.Goals as goal

pub items_nest-returns-in_default : goal.items_nest-returns-in_default
items_nest-returns-in_default t c =
    sym (ap (items_nest (item_trees c.args.items.now)) (no_member c.args.place.now c.in_default.ensures.cases) ∙ items_nest_none c.args.items.now)

pub items_nest-returns-in_default-get : goal.items_nest-returns-in_default-get
items_nest-returns-in_default-get t c =
    sym (ap (items_nest (item_trees c.args.items.now)) c.in-Some.ensures.cases.0
    ∙ no_item_nests c.args.items.now c.in-Some.number.now c.in-Some.rest.now c.in_default-get.ensures.lookup.3)

pub items_nest-returns-in-None : goal.items_nest-returns-in-None
items_nest-returns-in-None t c =
    let item = c.in-Some-get.item.now in
    sym (ap (items_nest (item_trees c.args.items.now)) c.in-Some.ensures.cases.0
    ∙ item_nests c.args.items.now c.in-Some.number.now item c.in-Some.rest.now c.in-Some-get.ensures.lookup.3.0 (c.in-Some-get.ensures.lookup.3.1 item)
    ∙ ap (nests_from item) (no_member c.in-Some.rest.now c.in-None.ensures.cases))

pub items_nest-returns-in-Some-split_first : goal.items_nest-returns-in-Some-split_first
items_nest-returns-in-Some-split_first t c =
    let item = c.in-Some-get.item.now in
    c.kind_nests.ensures ∙ sym (ap (items_nest (item_trees c.args.items.now)) c.in-Some.ensures.cases.0
    ∙ item_nests c.args.items.now c.in-Some.number.now item c.in-Some.rest.now c.in-Some-get.ensures.lookup.3.0 (c.in-Some-get.ensures.lookup.3.1 item)
    ∙ nests_behind item c.in-Some.rest.now _ _ c.in-Some-split_first.ensures.cases.0)
