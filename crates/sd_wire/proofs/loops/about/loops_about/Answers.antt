use Rattle.std.proofs.Common.{◌≡◌, ℕ, ap, sym, ◌∙◌, arith, length}
use Rattle.std.specs.List.{filter}
use Rattle.sd_graph.specs.TreeFold.{state_trees}
use Rattle.sd_graph.specs.TreeParts.{count_states}
use Rattle.sd_graph.specs.LoopScope.{numbers_below}
use Rattle.sd_graph.proofs.TreeLemmas.{states_counted}
use Rattle.sd_wire.specs.loops.About.{is_in_loop}
use Rattle.sd_wire.proofs.loops_lemmas.Loops.{none_about}
use Rattle.sd_wire.proofs.loops.about.loops_about.Goals as goal

pub returns-then-not-is_any_marked : goal.returns-then-not-is_any_marked
returns-then-not-is_any_marked c = sym (none_about (state_trees c.args.states.now) c.args.state (sym c.is_any_marked.ensures ∙ c.if-not-is_any_marked.true))

pub returns : goal.returns
returns c =
    let trees = state_trees c.args.states.now in
    let all : c.loop-begin.begin ≡ count_states trees = omega (arith, c.loop-begin-test.false, c.loop-begin.auto.begin-end, states_counted c.args.states.now) in
    c.loop-begin.invariant.counted ∙ ap (λ (count : ℕ). length (filter (is_in_loop trees c.args.state) (numbers_below count))) all
