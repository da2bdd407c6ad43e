-- The transition of a run whose state is finished.
use Rattle.std.proofs.Common.{◌≡◌, ℕ, zero, ℤ, List, length, Bool, true, false, Option, Some, None, Result, Ok, Err, refl, sym, ap, ◌∙◌, subst}
use Rattle.sd_work.specs.declared.fault.FaultKind.{FaultKind}
use Rattle.sd_work.specs.Memory.{Memory}
use Rattle.sd_work.specs.Change.{nothing}
use Rattle.sd_work.specs.Move.{Fault, fault_at, Move}
use Rattle.sd_work.specs.Exit.{Exit, first_exit}
use Rattle.sd_work.specs.Residual.{Term, nested, ended, finished}
use Rattle.sd_work.specs.Moves.{Path}
use Rattle.sd_work.specs.Fire.{fire, transition}
use Rattle.sd_work.specs.BigStep.{Reached}
use Rattle.sd_graph.specs.PlainTree.{GraphTree}
use Rattle.sd_graph.specs.Context.{Reach}
use Rattle.sd_graph.specs.declared.place.Frame.{Frame}
use Rattle.sd_graph.specs.declared.place.Place.{Place}
use Rattle.sd_mem.specs.machine.Coming.{state_term, exits_of}
use Rattle.sd_mem.specs.machine.Stack.{IsPaid}
use Rattle.sd_mem.specs.declared.machine.end.End.{End}
use Rattle.sd_mem.specs.declared.machine.end.End.TheVariants as ends
use Rattle.sd_leaves.specs.moves.Moved.{IsMoved}
use Rattle.sd_leaves.proofs.moves_lemmas.Comings.{goes-moved, spent-moved}
use Rattle.sd_left.specs.tree.Standing.{RunLeft, state_left, run_going, run_left}
use Rattle.sd_left.proofs.tree_lemmas.Runs.{run-goes-on}
use Rattle.sd_left.specs.fired.Fired.{IsFired, IsEntered, IsStateBegun, IsEnded}

module _ (old new : RunLeft) (tree : GraphTree) (reach : ℕ → Reach) (around : List Frame) (path : Path) (before inner after : Reached)
    (going : old.ended ≡ false) (over : finished (state_left old tree reach around) ≡ true) (entered : IsEntered old.body.own before inner) where
  abbrev run_in : (state : ℕ) → (values : List ℤ) → Memory → Term Place → Term Place
  run_in state values own left = nested (state_term tree reach around) (exits_of tree reach around) own state values left

  -- the move that comes of the choice of an exit
  abbrev move_by : Result (Option (Exit Place)) (Fault Place) → Move Place (Term Place)
  move_by next = transition (state_term tree reach around) (exits_of tree reach around) old.body.own next

  the-move : (next : Result (Option (Exit Place)) (Fault Place)) → first_exit (exits_of tree reach around old.state old.body.at) inner.memories ≡ next
      → move_by next ≡ fire (run_left old tree reach around) path before.memories
  the-move next is =
      ap move_by (sym is ∙ ap (first_exit (exits_of tree reach around old.state old.body.at)) entered.memories)
      ∙ sym (run-goes-on old tree reach around path before.memories going over)

  by-move : (next : Result (Option (Exit Place)) (Fault Place)) (end : End) (left : Term Place) → first_exit (exits_of tree reach around old.state old.body.at) inner.memories ≡ next → left ≡ run_left new tree reach around
      → IsMoved (move_by next) (run_left old tree reach around) before end after left
      → IsFired (run_left old tree reach around) path before end after (run_left new tree reach around)
  by-move next end left is same moved =
      subst (λ (work : Term Place). IsFired (run_left old tree reach around) path before end after work) same
      (subst (λ (move : Move Place (Term Place)). IsMoved move (run_left old tree reach around) before end after left) (the-move next is) moved)

  begun-run : (own : Memory) (state : ℕ) (values : List ℤ) → IsStateBegun tree reach around own state values new
      → run_in state values own (state_term tree reach around state values) ≡ run_left new tree reach around
  begun-run own state values begun =
      let same : run_in state values own (state_term tree reach around state values) ≡ run_in new.state new.body.at new.body.own (state_left new tree reach around) =
      λ i. run_in (sym begun.state i) (sym begun.values i) (sym begun.own i) (sym begun.begun i) in
      same ∙ sym (ap (λ (b : Bool). run_going b new tree reach around) begun.going)

  pub exit-taken : (exit : Exit Place) → first_exit (exits_of tree reach around old.state old.body.at) inner.memories ≡ Ok (Some exit)
      → after.memories ≡ before.memories → IsPaid exit.marked before.turns after.turns
      → IsStateBegun tree reach around old.body.own exit.state exit.values new
      → IsFired (run_left old tree reach around) path before ends.Finished after (run_left new tree reach around)
  exit-taken exit is memories paid begun =
      by-move (Ok (Some exit)) ends.Finished (run_in exit.state exit.values old.body.own (state_term tree reach around exit.state exit.values)) is (begun-run old.body.own exit.state exit.values begun)
      (goes-moved exit.marked nothing (run_left old tree reach around) (run_in exit.state exit.values old.body.own (state_term tree reach around exit.state exit.values)) before after memories paid)

  pub exit-unpaid : (exit : Exit Place) → first_exit (exits_of tree reach around old.state old.body.at) inner.memories ≡ Ok (Some exit)
      → after.memories ≡ before.memories → exit.marked ≡ true → before.turns ≡ zero
      → IsFired (run_left old tree reach around) path before ends.OutOfTurns after (run_left new tree reach around)
  exit-unpaid exit is memories marked none =
      by-move (Ok (Some exit)) ends.OutOfTurns (run_left new tree reach around) is refl
      (spent-moved exit.marked (move_by (Ok (Some exit))) (run_left old tree reach around) (run_left new tree reach around) before after refl marked none memories)

  pub no-exit : first_exit (exits_of tree reach around old.state old.body.at) inner.memories ≡ Ok None
      → after.memories ≡ before.memories → after.turns ≡ before.turns → IsEnded old.body.own new
      → IsFired (run_left old tree reach around) path before ends.Finished after (run_left new tree reach around)
  no-exit is memories turns new_end =
      by-move (Ok None) ends.Finished (ended old.body.own) is (ap ended (sym new_end.own) ∙ sym (ap (λ (b : Bool). run_going b new tree reach around) new_end.over))
      (goes-moved false nothing (run_left old tree reach around) (ended old.body.own) before after memories (sym turns))

  pub exit-faults : (place : Place) (kind : FaultKind) → first_exit (exits_of tree reach around old.state old.body.at) inner.memories ≡ Err (fault_at place kind)
      → after.memories ≡ before.memories
      → IsFired (run_left old tree reach around) path before (ends.Fault place kind) after (run_left new tree reach around)
  exit-faults place kind is memories =
      by-move (Err (fault_at place kind)) (ends.Fault place kind) (run_left new tree reach around) is refl
      (record { comes = refl; depth = ap length memories })
