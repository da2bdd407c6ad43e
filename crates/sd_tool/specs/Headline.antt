-- What is printed of work that a call asks for.
use Rattle.std.specs.Prelude.{◌≡◌, ◌⊎◌, ℕ, List}
use Rattle.sd_work.specs.Run.{Left, Sequential}
use Rattle.sd_work.specs.Step.{Outcome}
use Rattle.sd_graph.specs.PlainTree.{GraphTree}
use Rattle.sd_graph.specs.Unfold.{run_of}
use Rattle.sd_graph.specs.declared.place.Place.{Place}
use Rattle.sd_print.specs.graphs.GraphText.{graph_text}
use Rattle.sd_race.specs.race.Race.{Race, IsRaceOf}
use Rattle.sd_race.specs.text.CheckText.{check_text}
use Rattle.sd_race.specs.text.RaceText.{race_text}
use Rattle.sd_lower.specs.PlanText.{plan_text}
use Rattle.sd_steps.specs.StepText.{matches_text}
use Rattle.sd_core.specs.Traced.{IsTraced}
use Rattle.sd_report.specs.write.RunText.{line, end_text, run_text}
use Rattle.sd_tool.specs.Work.{Work, run_of_work}
use Rattle.sd_tool.specs.Answer.{status_of_end}
use Rattle.sd_tool.specs.Ends.{SinkUse, Writes}

-- the sequential run of the work has an outcome; its text is written whole and the status is its own, or memory was wanting
pub record Prints (work : Work) (turns : ℕ) (sink : SinkUse) (status : ℕ) : Type 0 where
  pub outcome : Outcome Place Left
  pub ends : Sequential (run_of_work work) turns outcome
  pub printed : ((status ≡ status_of_end outcome) × Writes sink (end_text work.tree turns outcome)) ⊎ (status ≡ 1)

-- the outcome of the sequential run is printed; or the source (3) or the arrays file (4) is refused, for what stands against it; or memory was wanting
abbrev pub PrintsUnlessRefused : Work → (turns : ℕ) → SinkUse → (status : ℕ) → Type 0
PrintsUnlessRefused work turns sink status = Prints work turns sink status ⊎ (status ≡ 3) ⊎ (status ≡ 4) ⊎ (status ≡ 1)

-- the rewritten graph has a run by these picks over the work's memory, which has this trace; a line for each of its steps and then the text of the sequential run of the work is written whole, and the status is that of the sequential run, or memory was wanting
pub record PrintsTraced (work : Work) (other : GraphTree) (picks : List ℕ) (turns : ℕ) (sink : SinkUse) (status : ℕ) : Type 0 where
  pub picked : Outcome Place Left
  pub trace : List (ℕ × ℕ)
  pub traced : IsTraced (run_of other work.memory) turns picks picked trace
  pub outcome : Outcome Place Left
  pub ends : Sequential (run_of_work work) turns outcome
  pub printed : ((status ≡ status_of_end outcome) × Writes sink (run_text trace work.tree turns outcome)) ⊎ (status ≡ 1)

-- the text is written whole and the status is 0, or memory was wanting
abbrev pub WritesWhole : SinkUse → (status : ℕ) → (text : List ℕ) → Type 0
WritesWhole sink status text = ((status ≡ 0) × Writes sink text) ⊎ (status ≡ 1)

-- the text of a graph is written so
abbrev pub Lists : GraphTree → SinkUse → (status : ℕ) → Type 0
Lists tree sink status = WritesWhole sink status (graph_text tree)

-- what the race check tells of an accepted graph is
abbrev pub Accepts : GraphTree → SinkUse → (status : ℕ) → Type 0
Accepts tree sink status = WritesWhole sink status (check_text tree)

-- the plan of an accepted graph is
abbrev pub TellsPlan : GraphTree → SinkUse → (status : ℕ) → Type 0
TellsPlan tree sink status = WritesWhole sink status (plan_text tree)

-- the rewrites that may be done on a graph are
abbrev pub TellsMatches : GraphTree → SinkUse → (status : ℕ) → Type 0
TellsMatches tree sink status = WritesWhole sink status (matches_text tree)

-- the race of a graph is written whole, as a line, and the status is 6, or memory was wanting
abbrev pub TellsItsRace : GraphTree → SinkUse → (status : ℕ) → Type 0
TellsItsRace tree sink status = ((status ≡ 6) × (race : Race) × IsRaceOf tree race × Writes sink (line (race_text tree race))) ⊎ (status ≡ 1)
