use Rattle.std.proofs.Common.{◌≡◌, ℕ, ◌+◌, List, ap, sym, ◌∙◌, arith}
use Rattle.std.specs.List.{filter, flat_map}
use Rattle.sd_graph.specs.TreeFold.{state_trees}
use Rattle.sd_graph.specs.TreeParts.{count_states}
use Rattle.sd_graph.specs.LoopScope.{numbers_below, is_in_force}
use Rattle.sd_graph.proofs.TreeLemmas.{states_counted}
use Rattle.sd_wire.specs.declared.loops.span.LoopSpan.{LoopSpan}
use Rattle.sd_wire.specs.loops.Spans.{variables_in}
use Rattle.sd_wire.proofs.loops_lemmas.Loops.{no_loops}
use Rattle.sd_wire.proofs.loops_lemmas.Spans.{begun_next}
use Rattle.sd_wire.proofs.loops.span.loop_spans.Goals as goal

pub returns-then-not-is_any_marked : goal.returns-then-not-is_any_marked
returns-then-not-is_any_marked c = λ state.
    ap (λ (spans : List LoopSpan). variables_in spans state) c.new-spans.ensures.items
    ∙ sym (no_loops (state_trees c.args.states.now) c.args.variables state (sym c.is_any_marked.ensures ∙ c.if-not-is_any_marked.true))

pub loop-begin-preserved : goal.loop-begin-preserved
loop-begin-preserved c =
    let trees = state_trees c.args.states.now in
    λ state. begun_next (λ begin. filter (is_in_force trees state begin) (numbers_below c.args.variables)) c.loop-begin.begin (c.loop-begin.begin + 1)
    (variables_in c.loop-begin.spans.items state) (variables_in c.push_spans.new.spans.items state) (omega arith) (c.loop-begin.invariant state) (c.in_ok-push_spans.ensures state)

pub returns : goal.returns
returns c =
    let trees = state_trees c.args.states.now in
    let all : c.loop-begin.begin ≡ count_states trees = omega (arith, c.loop-begin-test.false, c.loop-begin.auto.begin-end, states_counted c.args.states.now) in
    λ state. c.loop-begin.invariant state
    ∙ ap (λ (count : ℕ). flat_map (λ begin. filter (is_in_force trees state begin) (numbers_below c.args.variables)) (numbers_below count)) all
