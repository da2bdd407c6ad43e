use Rattle.std.proofs.Common.{◌≡◌, ℕ, ◌+◌, List, Bool, ◌&&◌, map, ap, sym, ◌∙◌, arith}
use Rattle.std.specs.List.{list_any}
use Rattle.sd_graph.specs.PlainTree.{ExitTree}
use Rattle.sd_graph.specs.TreeFold.{state_trees, exit_tree}
use Rattle.sd_graph.specs.TreeParts.{count_states}
use Rattle.sd_graph.specs.LoopScope.{numbers_below, is_on_loop}
use Rattle.sd_graph.specs.declared.exit.Exit.{Exit}
use Rattle.sd_graph.proofs.TreeLemmas.{states_counted}
use Rattle.sd_wire.specs.loops.About.{does_loop_from}
use Rattle.sd_wire.specs.loops.Marks.{returns_to}
use Rattle.sd_wire.proofs.loops_lemmas.States.{exits_opened}
use Rattle.sd_wire.proofs.loops_lemmas.Loops.{any_below, any_more}
use Rattle.sd_wire.proofs.loops.about.is_in_loop.Goals as goal

pub loop-end-preserved-then-not-has_return : goal.loop-end-preserved-then-not-has_return
loop-end-preserved-then-not-has_return c =
    let trees = state_trees c.args.states.now in
    let exits = exits_opened c.args.states.now c.loop-end.end c.index-states-end.result c.loop-end-test.true c.index-states-end.is
    ∙ ap (λ (exits : List Exit). map exit_tree exits) (sym c.as_slice.ensures.value) in
    let returns = ap (λ (exits : List ExitTree). list_any (returns_to c.args.begin) exits) exits ∙ sym c.has_return.ensures ∙ c.if-not-has_return.true in
    any_more _ c.loop-end.end (c.loop-end.end + 1) (omega arith) c.loop-end.invariant
    (ap (λ (b : Bool). b && is_on_loop trees c.args.begin c.loop-end.end c.args.state) returns)

pub returns-then-branch : goal.returns-then-branch
returns-then-branch c =
    let trees = state_trees c.args.states.now in
    let exits = exits_opened c.args.states.now c.loop-end.end c.index-states-end.result c.loop-end-test.true c.index-states-end.is
    ∙ ap (λ (exits : List Exit). map exit_tree exits) (sym c.as_slice.ensures.value) in
    let returns = ap (λ (exits : List ExitTree). list_any (returns_to c.args.begin) exits) exits ∙ sym c.has_return.ensures ∙ c.if-not-has_return.false in
    let stands = sym c.in_ok-is_on_loop.ensures ∙ c.if-branch.true in
    sym (any_below (does_loop_from trees c.args.state c.args.begin) (count_states trees) c.loop-end.end
    (omega (arith, c.loop-end-test.true, states_counted c.args.states.now)) (λ i. returns i && stands i))

pub returns : goal.returns
returns c =
    let trees = state_trees c.args.states.now in
    let all : c.loop-end.end ≡ count_states trees = omega (arith, c.loop-end-test.false, c.loop-end.auto.end-end, states_counted c.args.states.now) in
    sym c.loop-end.invariant ∙ ap (λ (count : ℕ). list_any (does_loop_from trees c.args.state c.args.begin) (numbers_below count)) all
