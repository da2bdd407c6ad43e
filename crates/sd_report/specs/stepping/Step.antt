-- What is told of a run by picks.
use Rattle.std.specs.Prelude.{◌≡◌, ℕ, List, [], map, Bool, if◌then◌else◌}
use Rattle.sd_work.specs.Residual.{Term}
use Rattle.sd_work.specs.Step.{Outcome}
use Rattle.sd_work.specs.Run.{Left, Sequential}
use Rattle.sd_core.specs.Traced.{IsTraced}
use Rattle.sd_core.specs.declared.run.Chosen.{Chosen}
use Rattle.sd_core.specs.declared.run.TracedRun.{TracedRun}
use Rattle.sd_report.specs.same_end.Told.{EndAlike}

-- the steps that are kept of a run: for each the number of the chosen move and how many there were
abbrev pub steps_of : TracedRun → List (ℕ × ℕ)
steps_of ran = map (λ (chosen : Chosen). (chosen.number, chosen.moves)) ran.trace.items

-- a run by picks has this outcome, and these are its steps where they are asked for, and else none
pub record IsPicked {P : Type 0} (term : Term P) (turns : ℕ) (picks : List ℕ) (traces : Bool) (outcome : Outcome P Left) (steps : List (ℕ × ℕ)) : Type 0 where
  pub trace : List (ℕ × ℕ)
  pub traced : IsTraced term turns picks outcome trace
  pub kept : steps ≡ (if traces then trace else [])

-- an end is that of the sequential run, but for the order of values in streams
pub record IsToldEnd {P : Type 0} (term : Term P) (turns : ℕ) (end : Outcome P Left) : Type 0 where
  pub outcome : Outcome P Left
  pub ends : Sequential term turns outcome
  pub alike : EndAlike end outcome

-- this end and these steps are told of a run by picks, the steps where they are asked for
pub record IsStep {P : Type 0} (term : Term P) (turns : ℕ) (picks : List ℕ) (traces : Bool) (end : Outcome P Left) (steps : List (ℕ × ℕ)) : Type 0 where
  pub picked : Outcome P Left
  pub run : IsPicked term turns picks traces picked steps
  pub told : IsToldEnd term turns end

-- the same of a run by picks of one graph's work, of which the end is told as that of another's, which it was made of
pub record IsRewrittenStep {P : Type 0} (source rewritten : Term P) (turns : ℕ) (picks : List ℕ) (traces : Bool) (end : Outcome P Left) (steps : List (ℕ × ℕ)) : Type 0 where
  pub picked : Outcome P Left
  pub run : IsPicked rewritten turns picks traces picked steps
  pub told : IsToldEnd source turns end
