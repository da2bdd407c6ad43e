-- What a move comes to, as code tells it.
use Rattle.std.specs.Prelude.{◌≡◌, length, Bool, true, false}
use Rattle.sd_work.specs.declared.fault.FaultKind.TheVariants.{Subscript}
use Rattle.sd_work.specs.Move.{Move, fault_at}
use Rattle.sd_work.specs.Step.{Outcome, Done, Faulted, Spent}
use Rattle.sd_work.specs.BigStep.{Reached}
use Rattle.sd_moves.specs.numbered.Gone.{Gone, gone}
use Rattle.sd_graph.specs.declared.place.Place.{Place}
use Rattle.sd_mem.specs.declared.machine.end.End.{End}
use Rattle.sd_mem.specs.declared.machine.end.End.TheVariants.{Finished, Fault, OutOfTurns}

-- the outcome that the end of a move stands for, with what there is then
abbrev pub outcome_with : {A : Type 0} → End → Reached → (left : A) → Outcome Place (Gone A)
outcome_with Finished now left = Done (record { memories = now.memories; left = left; turns = now.turns })
outcome_with (Fault place kind) now left = Faulted (fault_at place kind)
outcome_with OutOfTurns now left = Spent

-- a move of old work comes to this from here, with as many memories as there were
pub record IsMoved {A : Type 0} (move : Move Place A) (old : A) (before : Reached) (end : End) (after : Reached) (left : A) : Type 0 where
  pub comes : gone move old before.memories before.turns ≡ outcome_with end after left
  pub depth : length after.memories ≡ length before.memories

-- a move ends well where its elements are inside
abbrev pub end_if : (inside : Bool) → Place → End
end_if true place = Finished
end_if false place = Fault place Subscript
