use Rattle.std.proofs.Common.{ℕ, List, ap, sym, ◌∙◌, refl}
use Rattle.sd_graph.specs.TreeFold.{state_trees}
use Rattle.sd_graph.specs.LoopScope.{is_in_force}
use Rattle.sd_graph.specs.Wiring.{has_number}
use Rattle.sd_wire.specs.loops.Spans.{variables_in}
use Rattle.sd_wire.proofs.loops_lemmas.Spans.{not_closing, span_pushed, span_passed}
use Rattle.sd_wire.proofs.loops.span.push_span.Goals as goal

pub returns-then-not-has_number : goal.returns-then-not-has_number
returns-then-not-has_number c =
    let trees = state_trees c.args.states.now in
    let none = ap (λ (numbers : List ℕ). has_number numbers c.args.variable) (sym c.requires) ∙ sym c.has_number.ensures ∙ c.if-not-has_number.true in
    λ state. span_passed (is_in_force trees state c.args.begin) c.args.variable (variables_in c.args.spans.now.items state) (not_closing trees state c.args.begin c.args.variable none)

pub returns : goal.returns
returns c =
    let trees = state_trees c.args.states.now in
    λ state. span_pushed (is_in_force trees state c.args.begin) c.args.spans.now.items _ _ state c.args.variable c.in_ok-push.ensures.items refl (c.in_ok-states.ensures state)
