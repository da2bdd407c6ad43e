use Rattle.std.proofs.Common.{◌≡◌, ℕ, List, Bool, suc, ap, sym, subst, ◌∙◌, arith, add-one, IsTrue, rules}
use Rattle.sd_graph.specs.TreeFold.{state_trees}
use Rattle.sd_graph.specs.TreeParts.{count_states}
use Rattle.sd_graph.specs.LoopScope.{leads_within}
use Rattle.sd_graph.proofs.TreeLemmas.{states_counted}
use Rattle.sd_wire.specs.loops.Table.{raised}
use Rattle.sd_wire.proofs.loops_lemmas.Tables.{IsTable, table_raised, table_settled}
use Rattle.sd_wire.proofs.loops.path.leading_to.Goals as goal

pub loop-round-preserved : goal.loop-round-preserved
loop-round-preserved c =
    let trees = state_trees c.args.states.now in
    let is = c.in_ok-next.ensures ∙ ap (λ (table : List Bool). raised table c.args.avoided c.args.to 0 trees) c.as_slice.ensures.value in
    rw add-one (subst (λ (table : List Bool). IsTable trees c.args.avoided (suc c.loop-round.round) c.args.to table) (sym is)
    (table_raised trees c.args.avoided c.loop-round.round c.args.to c.loop-round.table.items c.loop-round.invariant))

pub returns-then-are_same : goal.returns-then-are_same
returns-then-are_same c =
    let trees = state_trees c.args.states.now in
    let is = c.in_ok-next.ensures ∙ ap (λ (table : List Bool). raised table c.args.avoided c.args.to 0 trees) c.as_slice.ensures.value in
    let test : IsTrue c.are_same.result = search (rules, c.if-are_same.true) in
    let same = sym is ∙ sym c.as_slice-in-loop-round.ensures.value ∙ c.are_same.ensures test ∙ c.as_slice-in-loop-round-2.ensures.value in
    table_settled trees c.args.avoided c.loop-round.round (count_states trees) c.args.to c.loop-round.table.items same
    (omega (arith, c.loop-round-test.true, states_counted c.args.states.now)) c.loop-round.invariant

pub returns : goal.returns
returns c =
    let trees = state_trees c.args.states.now in
    let all : c.loop-round.round ≡ count_states trees = omega (arith, c.loop-round-test.false, c.loop-round.auto.round-end, states_counted c.args.states.now) in
    λ from. c.loop-round.invariant from ∙ ap (λ (most : ℕ). leads_within trees c.args.avoided most from c.args.to) all
