use Rattle.std.proofs.Common.{◌≡◌, ℕ, ◌+◌, List, ◌&&◌, ◌||◌, map, ap, sym, ◌∙◌, arith}
use Rattle.std.specs.List.{list_any}
use Rattle.sd_graph.specs.PlainTree.{ExitTree}
use Rattle.sd_graph.specs.TreeFold.{state_trees, exit_tree}
use Rattle.sd_graph.specs.TreeParts.{count_states, exits_at}
use Rattle.sd_graph.specs.LoopScope.{numbers_below, closes_loop, leads_to}
use Rattle.sd_graph.specs.declared.exit.Exit.{Exit}
use Rattle.sd_graph.proofs.TreeLemmas.{states_counted}
use Rattle.sd_wire.specs.loops.Spans.{is_before_end}
use Rattle.sd_wire.proofs.loops_lemmas.States.{exits_opened}
use Rattle.sd_wire.proofs.loops_lemmas.Spans.{any_next}
use Rattle.sd_wire.proofs.loops.span.loop_ends.Goals as goal

pub loop-number-preserved : goal.loop-number-preserved
loop-number-preserved c =
    let trees = state_trees c.args.states.now in
    let exits = exits_opened c.args.states.now c.loop-number.number c.index-states-number.result c.loop-number-test.true c.index-states-number.is
    ∙ ap (λ (exits : List Exit). map exit_tree exits) (sym c.as_slice-exits.ensures.value) in
    let closes : (list_any (closes_loop c.args.begin c.args.variable) (map exit_tree c.as_slice-exits.result.now)) ≡ list_any (closes_loop c.args.begin c.args.variable) (exits_at trees c.loop-number.number) =
    ap (λ (exits : List ExitTree). list_any (closes_loop c.args.begin c.args.variable) exits) (sym exits) in
    λ state. c.in_ok-push_end.ensures state
    ∙ (λ i. c.loop-number.invariant state i || (closes i && leads_to trees c.args.begin state c.loop-number.number))
    ∙ sym (any_next (is_before_end trees c.args.begin c.args.variable state) c.loop-number.number (c.loop-number.number + 1) (omega arith))

pub returns : goal.returns
returns c =
    let trees = state_trees c.args.states.now in
    let all : c.loop-number.number ≡ count_states trees = omega (arith, c.loop-number-test.false, c.loop-number.auto.number-end, states_counted c.args.states.now) in
    λ state. c.loop-number.invariant state ∙ ap (λ (count : ℕ). list_any (is_before_end trees c.args.begin c.args.variable state) (numbers_below count)) all
