-- The transition of a run of the code.
use Rattle.std.proofs.Common.{◌≡◌, ℕ, ℤ, List, ◌∷◌, drop, Bool, true, false, refl, sym, ap, ap₂, ◌∙◌, subst}
use Rattle.sd_work.specs.declared.fault.FaultKind.{FaultKind}
use Rattle.sd_work.specs.Memory.{Memory, Memories}
use Rattle.sd_work.specs.Change.{innermost}
use Rattle.sd_work.specs.Exit.{first_exit}
use Rattle.sd_work.specs.Residual.{finished}
use Rattle.sd_work.specs.Moves.{Path}
use Rattle.sd_work.specs.BigStep.{Reached}
use Rattle.sd_graph.specs.PlainTree.{GraphTree}
use Rattle.sd_graph.specs.TreeParts.{states_of_graph, items_at}
use Rattle.sd_graph.specs.Context.{Reach}
use Rattle.sd_graph.specs.declared.place.Frame.{Frame}
use Rattle.sd_graph.specs.declared.place.Place.{Place}
use Rattle.sd_mem.specs.machine.Coming.{state_context, state_term, exits_of}
use Rattle.sd_mem.specs.machine.Stack.{IsPaid}
use Rattle.sd_mem.specs.declared.machine.end.End.{End}
use Rattle.sd_mem.specs.declared.machine.end.End.TheVariants as ends
use Rattle.sd_left.specs.tree.Standing.{BodyLeft, RunLeft, body_left, state_left, run_left}
use Rattle.sd_left.proofs.tree_lemmas.Begins.{state-begins}
use Rattle.sd_leaves.specs.declared.transition.onward.Entry.{Entry}
use Rattle.sd_leaves.specs.declared.transition.onward.Onward.{Onward}
use Rattle.sd_leaves.specs.declared.transition.onward.Onward.TheVariants as variants
use Rattle.sd_leaves.specs.transition.Onward.{IsOnward}
use Rattle.sd_left.specs.fired.Fired.{IsFired, IsEntered, IsStateBegun}
use Rattle.sd_left.proofs.fired_lemmas.Transitions.{exit-taken, exit-unpaid, no-exit, exit-faults}
use Rattle.sd_fire.specs.begin.Begun.{IsBodyBegun}
use Rattle.sd_left.specs.declared.left.left.Run.{Run as RunNow}
use Rattle.sd_left.specs.left.Kept.{run_kept}
use Rattle.sd_left.specs.left.Tells.{run_tells}
use Rattle.sd_fire.specs.advance.Entered.{IsStateEntered}
use Rattle.sd_fire.specs.advance.Right.{IsRunFired}
use Rattle.sd_fire.proofs.advance_lemmas.Runs.{over_memory}

module _ (old new : RunLeft) (tree : GraphTree) (reach : ℕ → Reach) (around : List Frame) (before inner after : Reached)
    (going : old.ended ≡ false) (over : finished (state_left old tree reach around) ≡ true)
    (lent : inner.memories ≡ old.body.own ∷ before.memories) (lent_turns : inner.turns ≡ before.turns)
    (back : after.memories ≡ drop 1 inner.memories) (back_turns : after.turns ≡ inner.turns) where
  entered : IsEntered old.body.own before inner
  entered = record { memories = lent; turns = lent_turns }

  same_memories : after.memories ≡ before.memories
  same_memories = back ∙ ap (λ (memories : Memories). drop 1 memories) lent

  same_turns : after.turns ≡ before.turns
  same_turns = back_turns ∙ lent_turns

  module _ (onward : Onward) (is_onward : IsOnward (first_exit (exits_of tree reach around old.state old.body.at) inner.memories) onward) where
    told : (other : Onward) → onward ≡ other → IsOnward (first_exit (exits_of tree reach around old.state old.body.at) inner.memories) other
    told other is = subst (λ (o : Onward). IsOnward (first_exit (exits_of tree reach around old.state old.body.at) inner.memories) o) is is_onward

    pub ends_there : onward ≡ variants.Nowhere → new.ended ≡ true → new.body.own ≡ innermost inner.memories → (path : Path)
        → IsFired (run_left old tree reach around) path before ends.Finished after (run_left new tree reach around)
    ends_there is over_now kept path =
        no-exit old new tree reach around path before inner after going over entered (told variants.Nowhere is) same_memories same_turns
        (record { over = over_now; own = kept ∙ ap innermost lent })

    pub faults_there : (place : Place) (kind : FaultKind) → onward ≡ variants.Fault place kind → (path : Path)
        → IsFired (run_left old tree reach around) path before (ends.Fault place kind) after (run_left new tree reach around)
    faults_there place kind is path =
        exit-faults old new tree reach around path before inner after going over entered place kind (told (variants.Fault place kind) is) same_memories

    -- the state that begins, from behind the memory that was given back
    pub goes_on : (entry : Entry) → onward ≡ variants.State entry → (middle : RunLeft) → middle.body.own ≡ innermost inner.memories → (now : Reached) (end : End)
        → IsStateEntered tree reach around middle entry after end now new → (path : Path)
        → IsFired (run_left old tree reach around) path before end now (run_left new tree reach around)
    goes_on entry is middle kept now ends.Finished begins path =
        let taken = told (variants.State entry) is in
        exit-taken old new tree reach around path before inner now going over entered taken.0 taken.1 (begins.0 ∙ same_memories)
        (subst (λ (turns : ℕ). IsPaid taken.0.marked turns now.turns) same_turns (subst (λ (marked : Bool). IsPaid marked after.turns now.turns) taken.2.marked begins.1))
        (record {
          going = begins.2.going;
          state = begins.2.state ∙ taken.2.state;
          values = begins.2.values ∙ taken.2.values;
          own = begins.2.own ∙ kept ∙ ap innermost lent;
          begun = begins.2.begun ∙ ap₂ (state_term tree reach around) taken.2.state taken.2.values;
        })
    goes_on entry is middle kept now ends.OutOfTurns begins path =
        let taken = told (variants.State entry) is in
        exit-unpaid old new tree reach around path before inner now going over entered taken.0 taken.1 (begins.0 ∙ same_memories)
        (sym taken.2.marked ∙ begins.1) (sym same_turns ∙ begins.2)
    goes_on entry is middle kept now (ends.Fault place kind) begins path = absurd begins

-- ---- the state that begins

-- a run in this state, with this body
abbrev pub run_with : (state : ℕ) → BodyLeft → RunLeft
run_with state body = record { state = state; ended = false; body = body }

state_fits : (state : ℕ) (values : List ℤ) (tree : GraphTree) (reach : ℕ → Reach) (around : List Frame) (next : BodyLeft) (memory kept : Memory)
    → IsBodyBegun (items_at (states_of_graph tree) state) (state_context tree reach around state values) values memory next
    → state_left (run_with state (over_memory next kept)) tree reach around ≡ state_term tree reach around state values
state_fits state values tree reach around next memory kept begun =
    ap (λ (at : List ℤ). body_left next (items_at (states_of_graph tree) state) (state_context tree reach around state at)) begun.at
    ∙ begun.begun ∙ sym (state-begins tree reach around state values)

pub state_begins : (new : RunLeft) (state : ℕ) (values : List ℤ) (tree : GraphTree) (reach : ℕ → Reach) (around : List Frame) (next : BodyLeft) (memory kept : Memory)
    → new ≡ run_with state (over_memory next kept)
    → IsBodyBegun (items_at (states_of_graph tree) state) (state_context tree reach around state values) values memory next
    → IsStateBegun tree reach around kept state values new
state_begins new state values tree reach around next memory kept is begun =
    subst (λ (run : RunLeft). IsStateBegun tree reach around kept state values run) (sym is)
    (record { going = refl; state = refl; values = begun.at; own = refl; begun = state_fits state values tree reach around next memory kept begun })

-- ---- the run of the code

module _ (run : RunNow) (tree : GraphTree) (reach : ℕ → Reach) (around : List Frame) (before inner after : Reached)
    (lent : inner.memories ≡ (run_kept run).body.own ∷ before.memories) (lent_turns : inner.turns ≡ before.turns)
    (back : after.memories ≡ drop 1 inner.memories) (back_turns : after.turns ≡ inner.turns)
    (onward : Onward) (is_onward : IsOnward (first_exit (exits_of tree reach around (run_kept run).state (run_kept run).body.at) inner.memories) onward)
    (path : Path) (going : (run_kept run).ended ≡ false) (over_now : finished (state_left (run_kept run) tree reach around) ≡ true) (right : (run_tells run).is_right ≡ true) where
  pub run_ends : (new : RunNow) → onward ≡ variants.Nowhere → (run_kept new).ended ≡ true → (run_kept new).body.own ≡ innermost inner.memories → (run_tells new).is_right ≡ (run_tells run).is_right
      → IsRunFired run tree reach around path before ends.Finished after new
  run_ends new is ended_now kept same_right = record {
    fired = ends_there (run_kept run) (run_kept new) tree reach around before inner after going over_now lent lent_turns back back_turns onward is_onward is ended_now kept path;
    right = same_right ∙ right;
  }

  pub run_faults : (new : RunNow) (place : Place) (kind : FaultKind) → onward ≡ variants.Fault place kind → (run_tells new).is_right ≡ (run_tells run).is_right
      → IsRunFired run tree reach around path before (ends.Fault place kind) after new
  run_faults new place kind is same_right = record {
    fired = faults_there (run_kept run) (run_kept new) tree reach around before inner after going over_now lent lent_turns back back_turns onward is_onward place kind is path;
    right = same_right ∙ right;
  }

  pub run_enters : (new : RunNow) (entry : Entry) → onward ≡ variants.State entry → (middle : RunNow) → (run_kept middle).body.own ≡ innermost inner.memories → (now : Reached) (end : End)
      → (run_tells middle).is_right ≡ (run_tells run).is_right → ((run_tells middle).is_right ≡ true → (run_tells new).is_right ≡ true)
      → IsStateEntered tree reach around (run_kept middle) entry after end now (run_kept new)
      → IsRunFired run tree reach around path before end now new
  run_enters new entry is middle kept now end same_right keeps begins = record {
    fired = goes_on (run_kept run) (run_kept new) tree reach around before inner after going over_now lent lent_turns back back_turns onward is_onward entry is (run_kept middle) kept now end begins path;
    right = keeps (same_right ∙ right);
  }
