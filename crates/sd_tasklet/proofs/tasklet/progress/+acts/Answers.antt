use Rattle.std.proofs.Common.{rules, ◌≡◌, ◌<◌, ◌∙◌, ap, sym, subst, Ok, arith}
use Rattle.sd_graph.specs.PlainTree.{assign, branch}
use Rattle.sd_graph.specs.TreeFold.{act_tree, act_trees, value_tree, value_trees}
use Rattle.sd_graph.specs.TaskletMeaning as meaning
use Rattle.sd_tasklet.specs.tasklet.Given.{given}
use Rattle.sd_tasklet.specs.tasklet.Kept.{told, come_to, assignment_of}
use Rattle.sd_tasklet.proofs.tasklet_lemmas.KeptLemmas.{assigned}
use Rattle.sd_tasklet.proofs.tasklet_lemmas.Acts.{out_tree, when_tree}
use Rattle.sd_tasklet.proofs.tasklet_lemmas.Sizes.{act_size, acts_size, acts_some, act_among}
use Rattle.sd_tasklet.proofs.tasklet.progress.+acts.Goals as goal

pub do_act-do_acts-requires : goal.do_act-do_acts-requires
do_act-do_acts-requires t c =
    let tree : act_tree c.args.act.now ≡ branch (value_tree c.in-When.when) (act_trees c.in-When.body.items) (act_trees c.in-When.other.items) = ap act_tree c.in-When.is ∙ when_tree c.in-When.when c.in-When.body c.in-When.other in
    let size = ap act_size tree in
    let less : acts_size (act_trees c.deref-then-holds.result.now) < act_size (act_tree c.args.act.now) = rw c.deref-then-holds.ensures.value (omega (arith, size, acts_some (act_trees c.in-When.other.items))) in
    (search rules, c.requires)

pub do_act-do_acts-requires-else-holds : goal.do_act-do_acts-requires-else-holds
do_act-do_acts-requires-else-holds t c =
    let tree : act_tree c.args.act.now ≡ branch (value_tree c.in-When.when) (act_trees c.in-When.body.items) (act_trees c.in-When.other.items) = ap act_tree c.in-When.is ∙ when_tree c.in-When.when c.in-When.body c.in-When.other in
    let size = ap act_size tree in
    let less : acts_size (act_trees c.deref-else-holds.result.now) < act_size (act_tree c.args.act.now) = rw c.deref-else-holds.ensures.value (omega (arith, size, acts_some (act_trees c.in-When.body.items))) in
    (search rules, c.requires)

pub do_acts-do_act-requires : goal.do_acts-do_act-requires
do_acts-do_act-requires t c =
    let less = act_among c.args.acts.now c.loop-act.act-index c.act-item.result c.loop-act-test.true in
    let here : act_size (act_tree c.act-item.result) < acts_size (act_trees c.args.acts.now) = rw c.act-item.is less in
    (search rules, c.requires)

pub do_act-returns-in_ok-push-in-Out-clause-meaning : goal.do_act-returns-in_ok-push-in-Out-clause-meaning
do_act-returns-in_ok-push-in-Out-clause-meaning t c = λ meant same.
    let inputs = given c.args.inputs.now in
    let locals = c.args.locals.now in
    let effects = c.args.effects.now.items in
    let tree : act_tree c.args.act.now ≡ assign c.in-Out.connector (value_trees c.in-Out.at.items) (value_tree c.in-Out.value) = ap act_tree c.in-Out.is ∙ out_tree c.in-Out.connector c.in-Out.at c.in-Out.value in
    let told = subst (λ l. assignment_of meant locals c.in-Out.connector (value_trees l) (value_tree c.in-Out.value) ≡ Ok (told inputs c.in_ok-assign-in-Out.field-0)) c.deref.ensures.value (c.in_ok-assign-in-Out.ensures.meaning meant same) in
    ap (λ a. meaning.act_of meant a (come_to inputs locals effects)) tree
    ∙ (assigned inputs meant locals effects c.in-Out.connector (value_trees c.in-Out.at.items) (value_tree c.in-Out.value) c.in_ok-assign-in-Out.field-0 told
    ∙ ap (λ l. Ok (come_to inputs locals l)) (sym c.in_ok-push-in-Out.ensures.items))
