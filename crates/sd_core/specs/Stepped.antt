-- What a step by a pick comes to.
use Rattle.std.specs.Prelude.{◌≡◌, ◌<◌, ℕ, zero, ◌%◌, [], length, slice_index_or, Option, Some, None}
use Rattle.sd_work.specs.Move.{fault_at}
use Rattle.sd_work.specs.Moves.{Path}
use Rattle.sd_work.specs.Step.{Machine, Outcome, Done, Faulted, Spent, next_moves, step}
use Rattle.sd_work.specs.Run.{Left, memory_of}
use Rattle.sd_graph.specs.declared.place.Place.{Place}
use Rattle.sd_seq.specs.declared.run_end.RunEnd.{RunEnd}
use Rattle.sd_seq.specs.RunEnd.{outcome_of}
use Rattle.sd_core.specs.declared.stepped.Stepped.{Stepped}
use Rattle.sd_core.specs.declared.stepped.Stepped.TheVariants.{Moved, Done as Done_now, Fault, Spent as Spent_now}

-- the place of the next move that a pick chooses
abbrev pub place_by : {P : Type 0} → (pick : ℕ) → Machine P → Path
place_by pick machine = slice_index_or (next_moves machine) (pick % length (next_moves machine)) []

-- the outcome that the answer of a step stands for, with the machine that is left
abbrev pub outcome_with : Stepped → Machine Place → Outcome Place (Machine Place)
outcome_with Moved machine = Done machine
outcome_with Done_now machine = Done machine
outcome_with (Fault place kind) machine = Faulted (fault_at place kind)
outcome_with Spent_now machine = Spent

-- a machine that has moved has a next move, and any other has none
abbrev pub HasNext : Stepped → Machine Place → Type 0
HasNext Moved machine = zero < length (next_moves machine)
HasNext Done_now machine = length (next_moves machine) ≡ zero
HasNext (Fault place kind) machine = length (next_moves machine) ≡ zero
HasNext Spent_now machine = length (next_moves machine) ≡ zero

-- a step by a pick from an old machine
pub record IsStepped (old : Machine Place) (pick : ℕ) (stepped : Stepped) (new : Machine Place) : Type 0 where
  pub comes : step (place_by pick old) old ≡ outcome_with stepped new
  pub next : HasNext stepped new

-- what a machine leaves that has no next move
abbrev pub left_by : Machine Place → Left
left_by machine = record { memory = memory_of machine.term; turns = machine.turns }

-- a run whose last step has this outcome ends so
abbrev pub StopsAs : Outcome Place (Machine Place) → RunEnd → Type 0
StopsAs (Done machine) end = ⊥
StopsAs (Faulted fault) end = outcome_of end ≡ Faulted fault
StopsAs Spent end = outcome_of end ≡ Spent

-- a step leaves this machine, or the run ends by it
abbrev pub IsStepEnd : Outcome Place (Machine Place) → (left : Machine Place) → Option RunEnd → Type 0
IsStepEnd outcome left None = outcome ≡ Done left
IsStepEnd outcome left (Some end) = StopsAs outcome end
