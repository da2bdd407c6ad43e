use Rattle.std.proofs.Common.{◌≡◌, ℕ, List, Bool, false, suc, length, ◌≤◌, slice_index_or, ap, sym, subst, ◌∙◌, arith, add-one, rules}
use Rattle.sd_graph.specs.TreeFold.{state_trees}
use Rattle.sd_graph.specs.TreeParts.{count_states}
use Rattle.sd_graph.proofs.TreeLemmas.{states_counted}
use Rattle.sd_wire.proofs.loops_lemmas.Spread.{IsSound, IsFull, spread_length, sound_begun, full_begun, sound_spread, full_spread, settled_whole, table_tells}
use Rattle.sd_wire.proofs.loops.reach.led_from.Goals as goal

pub loop-round-init : goal.loop-round-init
loop-round-init c =
    let trees = state_trees c.args.states.now in
    record {
      room = search rules;
      sound = subst (IsSound trees c.args.begin) (sym c.in_ok-table.ensures.begun) (sound_begun trees c.args.begin _);
      full = subst (IsFull trees c.args.begin 0) (sym c.in_ok-table.ensures.begun) (full_begun trees c.args.begin _);
    }

pub loop-round-preserved : goal.loop-round-preserved
loop-round-preserved c =
    let trees = state_trees c.args.states.now in
    let before = c.loop-round.table.items in
    let grown = c.in_ok-spread_on.ensures.grows in
    let room : count_states trees ≤ length before = omega (arith, c.loop-round.invariant.room, states_counted c.args.states.now) in
    record {
      room = ap length grown ∙ spread_length c.args.begin 0 trees before ∙ c.loop-round.invariant.room;
      sound = subst (IsSound trees c.args.begin) (sym grown) (sound_spread trees c.args.begin before c.loop-round.invariant.sound);
      full = rw add-one (subst (IsFull trees c.args.begin (suc c.loop-round.round)) (sym grown) (full_spread trees c.args.begin c.loop-round.round before room c.loop-round.invariant.full));
    }

pub returns-then-branch : goal.returns-then-branch
returns-then-branch c =
    let trees = state_trees c.args.states.now in
    let before = c.loop-round.table.items in
    let stays = c.in_ok-spread_on.ensures.stays (search (rules, c.if-branch.true)) in
    let room : count_states trees ≤ length before = omega (arith, c.loop-round.invariant.room, states_counted c.args.states.now) in
    let within : c.loop-round.round ≤ count_states trees = omega (arith, c.loop-round-test.true, states_counted c.args.states.now) in
    let whole = settled_whole trees c.args.begin c.loop-round.round (count_states trees) before room (sym c.in_ok-spread_on.ensures.grows ∙ stays) within c.loop-round.invariant.full in
    λ to less. ap (λ (table : List Bool). slice_index_or table to false) stays
    ∙ table_tells trees c.args.begin before c.loop-round.invariant.sound whole to (omega (arith, less, c.loop-round.invariant.room))

pub returns : goal.returns
returns c =
    let trees = state_trees c.args.states.now in
    let table = c.loop-round.table.items in
    let all : c.loop-round.round ≡ count_states trees = omega (arith, c.loop-round-test.false, c.loop-round.auto.round-end, states_counted c.args.states.now) in
    λ to less. table_tells trees c.args.begin table c.loop-round.invariant.sound (subst (λ (most : ℕ). IsFull trees c.args.begin most table) all c.loop-round.invariant.full) to
    (omega (arith, less, c.loop-round.invariant.room))
