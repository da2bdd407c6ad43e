-- What a call may answer, with its status and its text.
use Rattle.std.specs.Prelude.{ℕ, List, [], ◌++◌, codes}
use Rattle.sd_work.specs.Run.{Left}
use Rattle.sd_work.specs.Step.{Outcome, Done, Faulted, Spent}
use Rattle.sd_graph.specs.PlainTree.{GraphTree}
use Rattle.sd_graph.specs.declared.place.Place.{Place}
use Rattle.sd_context.specs.declared.blocks.refusal.Refusal.{Refusal}
use Rattle.sd_print.specs.graphs.GraphText.{graph_text}
use Rattle.sd_race.specs.race.Race.{Race}
use Rattle.sd_race.specs.text.CheckText.{check_text}
use Rattle.sd_race.specs.text.RaceText.{race_text}
use Rattle.sd_lower.specs.PlanText.{plan_text}
use Rattle.sd_steps.specs.StepText.{matches_text}
use Rattle.sd_report.specs.write.RunText.{line, run_text}
use Rattle.sd_tool.specs.declared.ending.ArraysRefusal.{ArraysRefusal}
use Rattle.sd_tool.specs.AnswerText.{source_text, arrays_text, chain_text, condition_text, picks_text}

-- how a run has ended, behind the steps that are told of it; the text of a graph; what the race check tells of it; its plan; the rewrites that may be done on it; or why there is none of these
pub data Answer : Type 0 where
  ran : (steps : List (ℕ × ℕ)) → (tree : GraphTree) → (turns : ℕ) → Outcome Place Left → Answer
  listed : (tree : GraphTree) → Answer
  checked : (tree : GraphTree) → Answer
  planned : (tree : GraphTree) → Answer
  matched : (tree : GraphTree) → Answer
  raced : (tree : GraphTree) → (race : Race) → Answer
  bad_words : Answer
  source_refused : Refusal → Answer
  arrays_refused : ArraysRefusal → Answer
  chain_refused : (line : ℕ) → Answer
  condition_fails : (line condition : ℕ) → Answer
  picks_refused : (word : ℕ) → Answer
  read_fault : (name : List ℕ) → Answer
  too_long : (name : List ℕ) → Answer

-- the status of a run that has ended so
abbrev pub status_of_end : Outcome Place Left → ℕ
status_of_end (Done left) = 0
status_of_end (Faulted fault) = 7
status_of_end Spent = 8

abbrev pub status_of : Answer → ℕ
status_of (ran steps tree turns outcome) = status_of_end outcome
status_of (listed tree) = 0
status_of (checked tree) = 0
status_of (planned tree) = 0
status_of (matched tree) = 0
status_of (raced tree race) = 6
status_of bad_words = 2
status_of (source_refused refusal) = 3
status_of (arrays_refused refusal) = 4
status_of (chain_refused line) = 5
status_of (condition_fails line condition) = 5
status_of (picks_refused word) = 5
status_of (read_fault name) = 9
status_of (too_long name) = 11

abbrev pub text_of : Answer → List ℕ
text_of (ran steps tree turns outcome) = run_text steps tree turns outcome
text_of (listed tree) = graph_text tree
text_of (checked tree) = check_text tree
text_of (planned tree) = plan_text tree
text_of (matched tree) = matches_text tree
text_of (raced tree race) = line (race_text tree race)
text_of bad_words = line (codes "bad words")
text_of (source_refused refusal) = source_text refusal
text_of (arrays_refused refusal) = arrays_text refusal
text_of (chain_refused number) = chain_text number
text_of (condition_fails number condition) = condition_text number condition
text_of (picks_refused word) = picks_text word
text_of (read_fault name) = line (codes "read fault " ++ name)
text_of (too_long name) = line (codes "too long " ++ name)

-- the answer that tells the outcome of a run of a graph that may spend so many turns, and none of its steps
abbrev pub answer_of_run : GraphTree → (turns : ℕ) → Outcome Place Left → Answer
answer_of_run tree turns outcome = ran [] tree turns outcome
