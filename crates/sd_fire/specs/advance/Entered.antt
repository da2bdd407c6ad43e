-- A state that begins.
use Rattle.std.specs.Prelude.{◌≡◌, ℕ, zero, List, true}
use Rattle.sd_work.specs.BigStep.{Reached}
use Rattle.sd_graph.specs.PlainTree.{GraphTree}
use Rattle.sd_graph.specs.Context.{Reach}
use Rattle.sd_graph.specs.declared.place.Frame.{Frame}
use Rattle.sd_mem.specs.machine.Stack.{IsPaid}
use Rattle.sd_mem.specs.declared.machine.end.End.{End}
use Rattle.sd_mem.specs.declared.machine.end.End.TheVariants.{Finished, Fault, OutOfTurns}
use Rattle.sd_left.specs.tree.Standing.{RunLeft}
use Rattle.sd_leaves.specs.declared.transition.onward.Entry.{Entry}
use Rattle.sd_left.specs.fired.Fired.{IsStateBegun}

-- a run goes on with a state, whose turn is spent; or none is left
abbrev pub IsStateEntered : GraphTree → (reach : ℕ → Reach) → (around : List Frame) → (old : RunLeft) → Entry → (before : Reached) → End → (after : Reached) → (new : RunLeft) → Type 0
IsStateEntered tree reach around old entry before Finished after new =
    (after.memories ≡ before.memories) × IsPaid entry.marked before.turns after.turns × IsStateBegun tree reach around old.body.own entry.state entry.values.items new
IsStateEntered tree reach around old entry before OutOfTurns after new = (after.memories ≡ before.memories) × (entry.marked ≡ true) × (before.turns ≡ zero)
IsStateEntered tree reach around old entry before (Fault place kind) after new = ⊥
