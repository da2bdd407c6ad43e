-- Steps through the states of a run, over plain trees.
use Rattle.std.proofs.Common.{◌≡◌, ℕ, zero, suc, ◌+◌, ◌-◌, ◌*◌, ◌<◌, ◌≤◌, List, [], ◌∷◌, Some, None, Ok, Err, Bool, true, false, refl, sym, subst, ap, ◌∙◌, arith, length, map, slice_get, ◌⊎◌, inl, inr}
use Rattle.sd_work.specs.Memory.{Memories}
use Rattle.sd_work.specs.Step.{Outcome, Done, Spent}
use Rattle.sd_work.specs.Exit.{Values, first_exit}
use Rattle.sd_work.specs.Exit as work
use Rattle.sd_work.specs.Move.{fault_at}
use Rattle.sd_work.specs.BigStep.{Reached, Coming, and_then, after_exit, spending, big_step, big_parts, big_states}
use Rattle.sd_work.specs.declared.fault.FaultKind.{FaultKind}
use Rattle.sd_graph.specs.declared.place.Place.{Place}
use Rattle.sd_graph.specs.declared.place.Frame.{Frame}
use Rattle.sd_graph.specs.PlainTree.{StateTrees, no_state, and_state, GraphTree, graph, ExitTree}
use Rattle.sd_graph.specs.TreeParts.{states_of_graph, exits_at, items_at, count_states}
use Rattle.sd_graph.specs.Context.{Reach, Context}
use Rattle.sd_graph.specs.Unfold.{unfold_state, unfold_items, exit_of, at_state}
use Rattle.sd_graph.specs.Upwards.{ItemsLeadUpwards, StatesLeadUpwards, LeadsUpwards, ExitsLeadUpwards}
use Rattle.sd_mem.specs.machine.Stack.{IsPaid}
use Rattle.sd_mem.specs.machine.ComesTo.{ComesTo, outcome_of, IsEnd}
use Rattle.sd_mem.specs.machine.Coming.{items_coming, state_context, state_term, exits_of, from_state}
use Rattle.sd_mem.specs.declared.machine.end.End.{End}
use Rattle.sd_mem.specs.declared.machine.end.End.TheVariants.{Finished, Fault, OutOfTurns}
use Rattle.sd_row.proofs.row_lemmas.Comes.{IsLeft, comes-then, comes-stop, stops}

-- the work of a state is that of its items
state_is : (states : StateTrees) (state : ℕ) (context : Context) (most : ℕ) (memories : Memories) (turns : ℕ) →
    big_step (unfold_state states state context) most memories turns ≡ big_parts (unfold_items (items_at states state) context) most memories turns
state_is no_state state context most memories turns = refl
state_is (and_state items exits states) zero context most memories turns = refl
state_is (and_state items exits states) (suc state) context most memories turns = state_is states state context most memories turns

state_of_graph : (tree : GraphTree) (reach : ℕ → Reach) (around : List Frame) (state : ℕ) (values : Values) (most : ℕ) (memories : Memories) (turns : ℕ) →
    big_step (state_term tree reach around state values) most memories turns ≡ big_parts (unfold_items (items_at (states_of_graph tree) state) (state_context tree reach around state values)) most memories turns
state_of_graph (graph name containers arguments variables symbols states) reach around state values most memories turns =
    state_is states state (at_state containers variables states reach around state values) most memories turns

-- its exits are those of the tree
pub exits_of_graph : (tree : GraphTree) (reach : ℕ → Reach) (around : List Frame) (state : ℕ) (values : Values) →
    exits_of tree reach around state values ≡ map (exit_of (state_context tree reach around state values)) (exits_at (states_of_graph tree) state)
exits_of_graph (graph name containers arguments variables symbols states) reach around state values = refl

module _ (whole : ℕ → Coming Place) (tree : GraphTree) (reach : ℕ → Reach) (around : List Frame) (state : ℕ) (values : Values) (before middle now : Reached)
    (left : IsLeft whole before (from_state tree reach around state values middle) middle) where
  abbrev run : (most : ℕ) → ℕ → Values → Memories → ℕ → Coming Place
  run most state values = big_step (state_term tree reach around state values) most

  -- the items of the state come to this
  abbrev pub IsStateEnd : End → Type 0
  IsStateEnd end = IsEnd (items_coming (items_at (states_of_graph tree) state) (state_context tree reach around state values) middle) middle end now

  body : (end : End) → IsStateEnd end → (most : ℕ) → ComesTo (run most state values middle.memories middle.turns) (outcome_of end now)
  body end ends most = subst (λ (coming : Coming Place). ComesTo coming (outcome_of end now)) (sym (state_of_graph tree reach around state values most middle.memories middle.turns)) (ends.comes most)

  -- they stop the run
  pub state_stop : (end : End) → IsStateEnd end → ((end ≡ Finished) → ⊥) → IsEnd whole before end now
  state_stop end ends stop = record {
    comes = λ most. left.comes most (outcome_of end now) (λ transitions. comes-stop (run most state values middle.memories middle.turns)
        (big_states transitions (run most) (exits_of tree reach around) state values) (outcome_of end now) (stops end now stop) (body end ends most));
    depth = ends.depth ∙ left.depth;
    turns = omega (arith, ends.turns, left.turns);
  }

  -- what comes behind an exit
  abbrev behind_exit : (most transitions : ℕ) → work.Exit Place → ℕ → Coming Place
  behind_exit most transitions exit turns = and_then (run most exit.state exit.values now.memories turns) (big_states transitions (run most) (exits_of tree reach around) exit.state exit.values)

  -- they are done: what comes of the exits comes of the whole
  on : IsStateEnd Finished → (most : ℕ) (outcome : Outcome Place Reached) →
      ((transitions : ℕ) → ComesTo (after_exit (first_exit (exits_of tree reach around state values) now.memories) now.memories now.turns (behind_exit most transitions)) outcome) →
      ComesTo (whole most) outcome
  on ends most outcome after = left.comes most outcome (λ transitions. comes-then (run most state values middle.memories middle.turns) now
      (big_states transitions (run most) (exits_of tree reach around) state values) outcome (body Finished ends most) (rest transitions))
    where
      rest : (transitions : ℕ) → ComesTo (big_states transitions (run most) (exits_of tree reach around) state values now.memories now.turns) outcome
      rest zero = tt
      rest (suc transitions) = after transitions

  -- no exit is taken
  pub exit_nowhere : IsStateEnd Finished → first_exit (exits_of tree reach around state values) now.memories ≡ Ok None → IsEnd whole before Finished now
  exit_nowhere ends nowhere = record {
    comes = λ most. on ends most (Done now) (λ transitions. subst (λ first. ComesTo (after_exit first now.memories now.turns (behind_exit most transitions)) (Done now)) (sym nowhere) refl);
    depth = ends.depth ∙ left.depth;
    turns = omega (arith, ends.turns, left.turns);
  }

  -- a condition has a fault
  pub exit_fault : IsStateEnd Finished → (place : Place) (kind : FaultKind) → first_exit (exits_of tree reach around state values) now.memories ≡ Err (fault_at place kind) →
      IsEnd whole before (Fault place kind) now
  exit_fault ends place kind fault = record {
    comes = λ most. on ends most (outcome_of (Fault place kind) now) (λ transitions. subst (λ first. ComesTo (after_exit first now.memories now.turns (behind_exit most transitions)) (outcome_of (Fault place kind) now)) (sym fault) refl);
    depth = ends.depth ∙ left.depth;
    turns = omega (arith, ends.turns, left.turns);
  }

  -- an exit wants a turn, and none is left
  pub exit_spent : IsStateEnd Finished → (exit : work.Exit Place) → first_exit (exits_of tree reach around state values) now.memories ≡ Ok (Some exit) →
      exit.marked ≡ true → now.turns ≡ 0 → (then : Reached) → then.memories ≡ now.memories → then.turns ≤ now.turns → IsEnd whole before OutOfTurns then
  exit_spent ends exit first marked empty then same fewer = record {
    comes = λ most. on ends most Spent (λ transitions. subst (λ first. ComesTo (after_exit first now.memories now.turns (behind_exit most transitions)) Spent) (sym first)
        (subst (λ (turn : Bool). ComesTo (spending turn now.turns (behind_exit most transitions exit)) Spent) (sym marked)
        (subst (λ (turns : ℕ). ComesTo (spending true turns (behind_exit most transitions exit)) Spent) (sym empty) refl)));
    depth = ap length same ∙ ends.depth ∙ left.depth;
    turns = omega (arith, ends.turns, left.turns, fewer);
  }

  paid : (turn : Bool) (old new : ℕ) (rest : ℕ → Coming Place) (outcome : Outcome Place Reached) → IsPaid turn old new → ComesTo (rest new) outcome → ComesTo (spending turn old rest) outcome
  paid true old new rest outcome is comes = subst (λ (old : ℕ). ComesTo (spending true old rest) outcome) (sym is) comes
  paid false old new rest outcome is comes = subst (λ (old : ℕ). ComesTo (rest old) outcome) (sym is) comes

  fewer : (turn : Bool) (old new : ℕ) → IsPaid turn old new → new ≤ old
  fewer true old new is = omega (arith, is)
  fewer false old new is = omega (arith, is)

  -- an exit leads on
  pub exit_on : IsStateEnd Finished → (exit : work.Exit Place) → first_exit (exits_of tree reach around state values) now.memories ≡ Ok (Some exit) →
      (then : Reached) → then.memories ≡ now.memories → IsPaid exit.marked now.turns then.turns →
      IsLeft whole before (from_state tree reach around exit.state exit.values then) then
  exit_on ends exit first then same is = record {
    comes = λ most outcome after. on ends most outcome (λ transitions. subst (λ first. ComesTo (after_exit first now.memories now.turns (behind_exit most transitions)) outcome) (sym first)
        (paid exit.marked now.turns then.turns (behind_exit most transitions exit) outcome is
        (subst (λ (memories : Memories). ComesTo (and_then (run most exit.state exit.values memories then.turns) (big_states transitions (run most) (exits_of tree reach around) exit.state exit.values)) outcome) same (after transitions))));
    depth = ap length same ∙ ends.depth ∙ left.depth;
    turns = omega (arith, ends.turns, left.turns, fewer exit.marked now.turns then.turns is);
  }

-- ---- transitions lead upwards

all_lead : (tree : GraphTree) → LeadsUpwards tree → StatesLeadUpwards (states_of_graph tree)
all_lead (graph name containers arguments variables symbols states) leads = leads.1

each_leads : (states : StateTrees) (state : ℕ) → StatesLeadUpwards states → ItemsLeadUpwards (items_at states state)
each_leads no_state state leads = tt
each_leads (and_state items exits states) zero leads = leads.0
each_leads (and_state items exits states) (suc state) leads = each_leads states state leads.1

-- the items of each state
pub items_of_state_lead : (tree : GraphTree) (state : ℕ) → LeadsUpwards tree → ItemsLeadUpwards (items_at (states_of_graph tree) state)
items_of_state_lead tree state leads = each_leads (states_of_graph tree) state (all_lead tree leads)

exit_leads : (count state : ℕ) (exits : List ExitTree) (number : ℕ) (exit : ExitTree) → slice_get exits number ≡ Some exit → ExitsLeadUpwards count state exits →
    (exit.back ≡ true) ⊎ ((state < exit.to) × (exit.to < count))
exit_leads count state [] number exit is leads = cc
exit_leads count state (first ∷ exits) zero exit is leads = subst (λ (e : ExitTree). (e.back ≡ true) ⊎ ((state < e.to) × (e.to < count))) (some_is first exit is) leads.0
  where
    some_is : (a b : ExitTree) → Some a ≡ Some b → a ≡ b
    some_is a b is = cc
exit_leads count state (first ∷ exits) (suc number) exit is leads = exit_leads count state exits number exit is leads.1

exit_rises : (tree : GraphTree) (state number : ℕ) (exit : ExitTree) → LeadsUpwards tree → slice_get (exits_at (states_of_graph tree) state) number ≡ Some exit →
    (exit.back ≡ true) ⊎ ((state < exit.to) × (exit.to < count_states (states_of_graph tree)))
exit_rises (graph name containers arguments variables symbols states) state number exit leads is = exit_leads (count_states states) state (exits_at states state) number exit is (leads.0 state)

-- ---- the measure of a run: turns first, and then states

abbrev pub measure : GraphTree → (turns state : ℕ) → ℕ
measure tree turns state = turns * (count_states (states_of_graph tree) + 1) + (count_states (states_of_graph tree) - state)

falls_by_state : (new old count state to : ℕ) → new ≤ old → state < to → to < count → new * (count + 1) + (count - to) < old * (count + 1) + (count - state)
falls_by_state new old count state to fewer rises within = let more : new * (count + 1) ≤ old * (count + 1) = grind arith in omega (arith, more, rises, within)

falls_by_turn : (new old count state to : ℕ) → new < old → new * (count + 1) + (count - to) < old * (count + 1) + (count - state)
falls_by_turn new old count state to fewer = let more : (new + 1) * (count + 1) ≤ old * (count + 1) = grind arith in let apart : (new + 1) * (count + 1) ≡ new * (count + 1) + (count + 1) = grind arith in omega (arith, more, apart)

falls : (new middle old count state to : ℕ) (back : Bool) → (back ≡ true) ⊎ ((state < to) × (to < count)) → IsPaid back middle new → middle ≤ old →
    new * (count + 1) + (count - to) < old * (count + 1) + (count - state)
falls new middle old count state to true either is less = falls_by_turn new old count state to (omega (arith, is, less))
falls new middle old count state to false (inl marked) is less = cc
falls new middle old count state to false (inr rises) is less = falls_by_state new old count state to (omega (arith, is, less)) rises.0 rises.1

-- it falls with each transition
pub measure_falls : (tree : GraphTree) (state number : ℕ) (exit : ExitTree) → LeadsUpwards tree → slice_get (exits_at (states_of_graph tree) state) number ≡ Some exit →
    (new middle old : ℕ) → IsPaid exit.back middle new → middle ≤ old → measure tree new exit.to < measure tree old state
measure_falls tree state number exit leads is new middle old paid less =
    falls new middle old (count_states (states_of_graph tree)) state exit.to exit.back (exit_rises tree state number exit leads is) paid less
