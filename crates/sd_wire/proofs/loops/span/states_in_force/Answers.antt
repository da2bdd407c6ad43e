use Rattle.std.proofs.Common.{◌≡◌, inl, inr, ℕ, ◌+◌, List, [], ◌∷◌, ◌++◌, Bool, false, ◌&&◌, length, length-append, slice_index_or, ap, sym, ◌∙◌, arith}
use Rattle.std.specs.List.{list_any}
use Rattle.sd_graph.specs.TreeFold.{state_trees}
use Rattle.sd_graph.specs.TreeParts.{count_states}
use Rattle.sd_graph.specs.LoopScope.{numbers_below, is_in_force}
use Rattle.sd_graph.proofs.TreeLemmas.{states_counted}
use Rattle.sd_wire.specs.declared.loops.span.LoopEnd.{LoopEnd}
use Rattle.sd_wire.specs.loops.Spans.{leads_to_end}
use Rattle.sd_wire.proofs.loops_lemmas.Spans.{apart, at_more, at_last, at_end, not_there, less_or_same, less_or_more}
use Rattle.sd_wire.proofs.loops.span.states_in_force.Goals as goal

pub loop-state-preserved : goal.loop-state-preserved
loop-state-preserved c =
    let trees = state_trees c.args.states.now in
    let before = c.loop-state.table.items in
    let here = c.loop-state.state in
    let is = slice_index_or c.as_slice-led.result.now here false && list_any (leads_to_end here) c.as_slice-ends.result.now in
    let grown : c.push_state.new.table.items ≡ before ++ is ∷ [] = c.in_ok-push_state.ensures in
    let room : length before ≡ here = c.loop-state.invariant.room in
    let led = ap (λ (table : List Bool). slice_index_or table here false) c.as_slice-led.ensures.value ∙ c.in_ok-reached.ensures here c.loop-state-test.true in
    let ends = ap (λ (ends : List LoopEnd). list_any (leads_to_end here) ends) c.as_slice-ends.ensures.value ∙ c.in_ok-found.ensures here in
    let tells = (λ i. led i && ends i) ∙ sym (apart trees here c.args.begin c.args.variable (numbers_below (count_states trees))) in
    record {
      room = ap length grown ∙ length-append before (is ∷ []) ∙ ap (λ (n : ℕ). n + 1) room;
      tells = λ state less. ap (λ (table : List Bool). slice_index_or table state false) grown ∙ elim (less_or_same state here (omega (arith, less))) [
        | inl earlier ↦ at_more before is state (omega (arith, earlier, room)) ∙ c.loop-state.invariant.tells state earlier
        | inr same ↦ at_last before is state (same ∙ sym room) ∙ tells ∙ ap (λ (n : ℕ). is_in_force trees n c.args.begin c.args.variable) (sym same)
      ];
    }

pub returns : goal.returns
returns c =
    let trees = state_trees c.args.states.now in
    let all : c.loop-state.state ≡ count_states trees = omega (arith, c.loop-state-test.false, c.loop-state.auto.state-end, states_counted c.args.states.now) in
    λ state. elim (less_or_more state c.loop-state.state) [
      | inl less ↦ c.loop-state.invariant.tells state less
      | inr more ↦ at_end c.loop-state.table.items state (omega (arith, more, c.loop-state.invariant.room)) ∙ sym (not_there trees state c.args.begin c.args.variable (omega (arith, more, all)))
    ]
