use Rattle.std.proofs.Common.{◌≡◌, ℕ, ◌+◌, List, length, ap, sym, ◌∙◌, arith, rules}
use Rattle.sd_graph.specs.TreeFold.{state_trees}
use Rattle.sd_graph.specs.LoopScope.{is_in_force}
use Rattle.sd_graph.specs.Wiring.{has_number}
use Rattle.sd_wire.specs.loops.Spans.{variables_in}
use Rattle.sd_wire.proofs.loops_lemmas.Spans.{not_closing, kept_next, none_kept, no_number}
use Rattle.sd_wire.proofs.loops.span.push_spans.Goals as goal

pub returns-then-is_empty : goal.returns-then-is_empty
returns-then-is_empty c =
    let trees = state_trees c.args.states.now in
    let empty : length c.in_ok-closing.closing.items ≡ 0 = search (rules, arith) in
    λ state. none_kept (is_in_force trees state c.args.begin) c.args.variables (variables_in c.args.spans.now.items state)
    (λ variable. not_closing trees state c.args.begin variable (ap (λ (numbers : List ℕ). has_number numbers variable) (sym c.in_ok-closing.ensures) ∙ no_number c.in_ok-closing.closing.items variable empty))

pub loop-variable-preserved : goal.loop-variable-preserved
loop-variable-preserved c =
    let trees = state_trees c.args.states.now in
    λ state. kept_next (is_in_force trees state c.args.begin) c.loop-variable.variable (c.loop-variable.variable + 1) (variables_in c.args.spans.now.items state)
    (variables_in c.loop-variable.spans.items state) (variables_in c.push_span.new.spans.items state) (omega arith) (c.loop-variable.invariant state) (c.in_ok-push_span.ensures state)
