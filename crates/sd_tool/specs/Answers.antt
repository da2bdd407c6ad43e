-- Which answer of a call comes where.
use Rattle.std.specs.Prelude.{◌≡◌, ◌⊎◌, ℕ, ◌^◌, List, [], Ok, Err}
use Rattle.sd_work.specs.Run.{Left, Sequential}
use Rattle.sd_work.specs.Step.{Outcome}
use Rattle.sd_graph.specs.PlainTree.{GraphTree}
use Rattle.sd_graph.specs.Unfold.{run_of}
use Rattle.sd_graph.specs.declared.place.Place.{Place}
use Rattle.sd_context.specs.declared.blocks.refusal.Refusal.{Refusal}
use Rattle.sd_race.specs.race.Pairs.{IsGraphAccepted}
use Rattle.sd_race.specs.race.Race.{Race, IsRaceOf}
use Rattle.sd_report.specs.stepping.Step.{IsPicked}
use Rattle.sd_words.specs.Command.{Command, Step, to_run, to_step, to_print, to_check, to_plan, to_match, Call, IsCall}
use Rattle.sd_tool.specs.declared.ending.ArraysRefusal.{ArraysRefusal}
use Rattle.sd_tool.specs.Work.{Work, source_graph, prepared, run_of_work}
use Rattle.sd_tool.specs.Answer.{Answer, ran, listed, checked, planned, matched, raced, bad_words, source_refused, arrays_refused}
use Rattle.sd_tool.specs.Files.{ShelfUse, Reads, Unread}
use Rattle.sd_tool.specs.Steering.{Steers, Unsteered}

-- ---- what a command answers

-- the sequential run of the work has an outcome, and the answer tells it behind these steps
pub record TellsRun (work : Work) (turns : ℕ) (steps : List (ℕ × ℕ)) (answer : Answer) : Type 0 where
  pub outcome : Outcome Place Left
  pub ends : Sequential (run_of_work work) turns outcome
  pub is : answer ≡ ran steps work.tree turns outcome

-- the rewritten graph has a run by these picks over the work's memory, and the answer tells the outcome of the sequential run of the work, behind the steps of the other where they are asked for
pub record TellsStep (work : Work) (other : GraphTree) (picks : List ℕ) (step : Step) (answer : Answer) : Type 0 where
  pub steps : List (ℕ × ℕ)
  pub picked : Outcome Place Left
  pub run : IsPicked (run_of other work.memory) step.turns picks step.traces picked steps
  pub told : TellsRun work step.turns steps answer

-- the graph has a race, and the answer tells it
pub record TellsRace (tree : GraphTree) (answer : Answer) : Type 0 where
  pub race : Race
  pub is_race : IsRaceOf tree race
  pub is : answer ≡ raced tree race

-- the race check goes first: the graph is accepted and this is told, or its race is
abbrev pub UnlessRace : GraphTree → (told : Type 0) → Answer → Type 0
UnlessRace tree told answer = (IsGraphAccepted tree × told) ⊎ TellsRace tree answer

-- what a command answers of the work that its files come to, of the rewritten graph, and by its picks: a run tells of the work's own graph, and all else of the rewritten one
abbrev pub Tells : Work → (other : GraphTree) → (picks : List ℕ) → Command → Answer → Type 0
Tells work other picks (to_run run) answer = UnlessRace other (TellsRun work run.turns [] answer) answer
Tells work other picks (to_step step) answer = UnlessRace other (TellsStep work other picks step answer) answer
Tells work other picks to_print answer = answer ≡ listed other
Tells work other picks to_check answer = UnlessRace other (answer ≡ checked other) answer
Tells work other picks to_plan answer = UnlessRace other (answer ≡ planned other) answer
Tells work other picks to_match answer = answer ≡ matched other

-- ---- what is read

-- the words are this call, and the source is read and has this graph
pub record ReadsSource (words : List (List ℕ)) (shelf : ShelfUse) (call : Call) (tree : GraphTree) : Type 0 where
  pub asked : IsCall words call
  pub source : List ℕ
  pub reads : Reads shelf call.source (2 ^ 20) source
  pub is : source_graph source ≡ Ok tree

-- the arrays file is read too, and with it the graph comes to this work
pub record Comes (words : List (List ℕ)) (shelf : ShelfUse) (call : Call) (work : Work) : Type 0 where
  pub tree : GraphTree
  pub source : ReadsSource words shelf call tree
  pub arrays : List ℕ
  pub reads : Reads shelf call.arrays (2 ^ 26) arrays
  pub is : prepared tree arrays ≡ Ok work

-- so are the files that steer the call: all of them come to this work, to the graph that the chain makes of its graph, and to these picks
pub record Reaches (words : List (List ℕ)) (shelf : ShelfUse) (call : Call) (work : Work) (other : GraphTree) (picks : List ℕ) : Type 0 where
  pub comes : Comes words shelf call work
  pub steers : Steers shelf call work.tree other picks

-- the places in their order: words, source read, its form, arrays read, their form, sizes and shapes, chain read, picks read, their forms, the chain's conditions, what the command answers; the first that refuses decides
pub data Answers (words : List (List ℕ)) (shelf : ShelfUse) : Answer → Type 0 where
  no_command : ((call : Call) → IsCall words call → ⊥) → Answers words shelf bad_words
  no_source : {answer : Answer} (call : Call) → IsCall words call → Unread shelf call.source (2 ^ 20) answer → Answers words shelf answer
  no_program : (call : Call) (source : List ℕ) (refusal : Refusal) → IsCall words call → Reads shelf call.source (2 ^ 20) source → source_graph source ≡ Err refusal → Answers words shelf (source_refused refusal)
  no_arrays : {answer : Answer} (call : Call) (tree : GraphTree) → ReadsSource words shelf call tree → Unread shelf call.arrays (2 ^ 26) answer → Answers words shelf answer
  no_work : (call : Call) (tree : GraphTree) (arrays : List ℕ) (refusal : ArraysRefusal) → ReadsSource words shelf call tree → Reads shelf call.arrays (2 ^ 26) arrays → prepared tree arrays ≡ Err refusal → Answers words shelf (arrays_refused refusal)
  unsteered : {answer : Answer} (call : Call) (work : Work) → Comes words shelf call work → Unsteered shelf call work.tree answer → Answers words shelf answer
  answered : {answer : Answer} (call : Call) (work : Work) (other : GraphTree) (picks : List ℕ) → Reaches words shelf call work other picks → Tells work other picks call.command answer → Answers words shelf answer
