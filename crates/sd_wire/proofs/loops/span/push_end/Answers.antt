use Rattle.std.proofs.Common.{List, ◌&&◌, ◌||◌, ap, sym, ◌∙◌}
use Rattle.std.specs.List.{list_any}
use Rattle.sd_graph.specs.TreeFold.{state_trees}
use Rattle.sd_graph.specs.LoopScope.{leads_to}
use Rattle.sd_wire.specs.declared.loops.span.LoopEnd.{LoopEnd}
use Rattle.sd_wire.specs.loops.Spans.{leads_to_end}
use Rattle.sd_wire.proofs.loops_lemmas.Spans.{any_last, or_nothing}
use Rattle.sd_wire.proofs.loops.span.push_end.Goals as goal

pub returns-then-not-close_loop : goal.returns-then-not-close_loop
returns-then-not-close_loop c =
    let trees = state_trees c.args.states.now in
    let open' = sym c.close_loop.ensures ∙ c.if-not-close_loop.true in
    λ state. sym (or_nothing (list_any (leads_to_end state) c.args.ends.now.items))
    ∙ (λ i. list_any (leads_to_end state) c.args.ends.now.items || (sym open' i && leads_to trees c.args.begin state c.args.number))

pub returns : goal.returns
returns c =
    let trees = state_trees c.args.states.now in
    let closes = sym c.close_loop.ensures ∙ c.if-not-close_loop.false in
    λ state. ap (λ (ends : List LoopEnd). list_any (leads_to_end state) ends) c.in_ok-push.ensures.items
    ∙ any_last state c.args.ends.now.items _
    ∙ (λ i. list_any (leads_to_end state) c.args.ends.now.items || c.in_ok-leading.ensures state i)
    ∙ (λ i. list_any (leads_to_end state) c.args.ends.now.items || (sym closes i && leads_to trees c.args.begin state c.args.number))
