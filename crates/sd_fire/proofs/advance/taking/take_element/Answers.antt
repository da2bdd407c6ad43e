use Rattle.std.proofs.Common.{Option, option_map, sym, ap, ◌∙◌, subst, rules}
use Rattle.sd_work.specs.BigStep.{Reached}
use Rattle.sd_graph.specs.PlainTree.{consume_scope}
use Rattle.sd_graph.specs.TreeFold.{graph_tree, item_trees}
use Rattle.sd_scope.specs.scope.Standing.{context_of}
use Rattle.sd_scope.specs.declared.take.taken.Taken.{Taken}
use Rattle.sd_scope.specs.take.Taken.{IfTaken, IsElement}
use Rattle.sd_left.specs.left.Kept.{body_kept}
use Rattle.sd_fire.proofs.advance_lemmas.Takings.{element_begins, takes_nothing, takes_one}
use Rattle.sd_fire.proofs.advance.taking.take_element.Goals as goal

pub returns-in_default : goal.returns-in_default
returns-in_default c = λ from path right.
    takes_nothing c.args.stream c.args.active.now (consume_scope from c.args.element c.args.private.now (item_trees c.args.body.now)) (context_of (graph_tree c.args.graph.now) c.args.base.now c.args.scope.now)
    c.args.position path c.args.machine.now c.take_value.new.machine c.in_ok-taken.ensures.memories c.in_ok-taken.ensures.turns right
    (search rules)

pub returns : goal.returns
returns c = λ from path right.
    let tree = graph_tree c.args.graph.now in
    let context = context_of tree c.args.base.now c.args.scope.now in
    let taken = c.in-Some.taken in
    let element = subst (λ (option : Option Taken). IfTaken option (IsElement tree c.args.base.now c.args.scope.now c.args.element c.args.private.now)) c.in-Some.is (c.in_ok-taken.ensures.element c.args.base.now) in
    takes_one c.args.stream c.args.active.now (consume_scope from c.args.element c.args.private.now (item_trees c.args.body.now)) context c.args.position path c.args.machine.now c.begin_body.new.machine
    (ap (λ (now : Reached). now.memories) c.begin_body.ensures.stays ∙ c.in_ok-taken.ensures.memories)
    (ap (λ (now : Reached). now.turns) c.begin_body.ensures.stays ∙ c.in_ok-taken.ensures.turns)
    right taken.value (body_kept c.in_ok-begun.begun) c.push.new.self
    (sym c.in_ok-taken.ensures.value ∙ ap (option_map (λ (t : Taken). t.value)) c.in-Some.is)
    (element_begins from c.args.element c.args.private.now (item_trees c.args.body.now) context (context_of tree c.args.base.now taken.scope) taken.value c.in_ok-at.at.items taken.own.contents (body_kept c.in_ok-begun.begun)
    (search rules) element.own element.stands c.in_ok-begun.ensures.begun)
    c.in_ok-push.ensures.kept
    (c.in_ok-push.ensures.right right c.in_ok-begun.ensures.right)
