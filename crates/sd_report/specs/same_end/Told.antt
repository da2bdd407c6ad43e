-- What is told of a run by picks.
use Rattle.std.specs.Prelude.{◌≡◌, ℕ, List}
use Rattle.sd_work.specs.Residual.{Term}
use Rattle.sd_work.specs.Step.{Outcome, Done, Faulted, Spent}
use Rattle.sd_work.specs.Run.{Left, Run, Sequential}
use Rattle.sd_confluence.specs.Alike.{LeaveAlike}

-- of a run that has this outcome: the same where it is done, and else the outcome of the sequential run
abbrev pub TellsEnd : {P : Type 0} → Term P → (turns : ℕ) → (picked told : Outcome P Left) → Type 0
TellsEnd term turns (Done left) told = told ≡ Done left
TellsEnd term turns (Faulted fault) told = Sequential term turns told
TellsEnd term turns Spent told = Sequential term turns told

-- this outcome is told of the run by these picks
pub record IsTold {P : Type 0} (term : Term P) (turns : ℕ) (picks : List ℕ) (told : Outcome P Left) : Type 0 where
  pub picked : Outcome P Left
  pub run : Run term turns picks picked
  pub tells : TellsEnd term turns picked told

-- two runs end the same: both are done and leave the same, but for the order of values in streams, or have the same fault, or are spent
abbrev pub EndAlike : {P : Type 0} → Outcome P Left → Outcome P Left → Type 0
EndAlike (Done left) (Done end) = LeaveAlike left end
EndAlike (Done left) (Faulted fault) = ⊥
EndAlike (Done left) Spent = ⊥
EndAlike (Faulted fault) end = end ≡ Faulted fault
EndAlike Spent end = end ≡ Spent
