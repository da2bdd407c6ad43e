-- Each status of a call but that of want of memory, with its cause. All of it follows from which answer comes where.
use Rattle.std.specs.Prelude.{◌≡◌, ◌⊎◌, ℕ, ◌^◌, ◌<◌, ◌≤◌, List, [], length, Some, Err}
use Rattle.sd_io.specs.Count.{HasRisen}
use Rattle.sd_io.specs.Shelf.{IsToldLonger}
use Rattle.sd_work.specs.Move.{Fault}
use Rattle.sd_work.specs.Residual.{Term}
use Rattle.sd_work.specs.Run.{Left, Sequential}
use Rattle.sd_work.specs.Step.{Outcome, Done, Faulted, Spent}
use Rattle.sd_graph.specs.PlainTree.{GraphTree}
use Rattle.sd_graph.specs.Unfold.{run_of}
use Rattle.sd_graph.specs.declared.place.Place.{Place}
use Rattle.sd_race.specs.race.Pairs.{IsGraphAccepted}
use Rattle.sd_race.specs.race.Race.{Race, IsRaceOf}
use Rattle.sd_context.specs.declared.blocks.refusal.Refusal.{Refusal}
use Rattle.sd_report.specs.stepping.Step.{IsPicked}
use Rattle.sd_words.specs.Command.{Command, Run, Step, to_run, to_step, to_print, to_check, to_plan, to_match, RunsWith, MakesRaceCheck, Call, IsCall}
use Rattle.sd_tool.specs.declared.ending.ArraysRefusal.{ArraysRefusal}
use Rattle.sd_tool.specs.Work.{Work, source_graph, prepared, run_of_work}
use Rattle.sd_tool.specs.Answer.{Answer, ran, listed, checked, planned, matched, raced, bad_words, source_refused, arrays_refused, read_fault, too_long, answer_of_run, status_of, text_of}
use Rattle.sd_tool.specs.Files.{ShelfUse, Reads}
use Rattle.sd_tool.specs.Steering.{steered, ReadsBoth}
use Rattle.sd_tool.specs.Answers.{ReadsSource, Comes, Reaches, Answers}
use Rattle.sd_tool.specs.Ends.{SinkUse, Writes, WritesPrefix}
use Rattle.sd_tool.specs.Told.{TellsSource, TellsArrays, Asks, TellsFile, TellsNamed, TellsBoth, Chained, GivesPicks}

-- the words are no call
abbrev pub NamesNothing : List (List ℕ) → Type 0
NamesNothing words = (call : Call) → IsCall words call → ⊥

-- the source is read and has this error
pub record HasNoProgram (words : List (List ℕ)) (shelf : ShelfUse) (refusal : Refusal) : Type 0 where
  pub call : Call
  pub source : List ℕ
  pub asked : IsCall words call
  pub reads : Reads shelf call.source (2 ^ 20) source
  pub is : source_graph source ≡ Err refusal

-- the arrays file is read and is refused so
pub record HasNoWork (words : List (List ℕ)) (shelf : ShelfUse) (refusal : ArraysRefusal) : Type 0 where
  pub call : Call
  pub tree : GraphTree
  pub arrays : List ℕ
  pub source : ReadsSource words shelf call tree
  pub reads : Reads shelf call.arrays (2 ^ 26) arrays
  pub is : prepared tree arrays ≡ Err refusal

-- the chain file and the picks file are read, and this is refused of them
pub record IsRefused (words : List (List ℕ)) (shelf : ShelfUse) (answer : Answer) : Type 0 where
  pub call : Call
  pub work : Work
  pub chain : List ℕ
  pub picks : List ℕ
  pub comes : Comes words shelf call work
  pub reads : ReadsBoth shelf call chain picks
  pub is : steered work.tree chain picks ≡ Err answer

-- a command that goes by these picks tells these steps of a run of this: those of its run by picks where it asks for them, and else none
abbrev pub TellsSteps : Term Place → (picks : List ℕ) → Command → (steps : List (ℕ × ℕ)) → Type 0
TellsSteps term picks (to_step step) steps = (outcome : Outcome Place Left) × IsPicked term step.turns picks step.traces outcome steps
TellsSteps term picks command steps = steps ≡ []

-- the files come to this work; a run with so many turns is asked for, of which these steps are told; the rewritten graph is accepted; the outcome of the sequential run of the work is this
pub record Runs (words : List (List ℕ)) (shelf : ShelfUse) (work : Work) (turns : ℕ) (steps : List (ℕ × ℕ)) (outcome : Outcome Place Left) : Type 0 where
  pub call : Call
  pub other : GraphTree
  pub picks : List ℕ
  pub reaches : Reaches words shelf call work other picks
  pub asks : RunsWith call.command turns
  pub told : TellsSteps (run_of other work.memory) picks call.command steps
  pub accepted : IsGraphAccepted other
  pub ends : Sequential (run_of_work work) turns outcome

-- the files come to this rewritten graph, of which the command asks this
pub record AsksOf (words : List (List ℕ)) (shelf : ShelfUse) (other : GraphTree) (command : Command) : Type 0 where
  pub call : Call
  pub work : Work
  pub picks : List ℕ
  pub reaches : Reaches words shelf call work other picks
  pub asks : call.command ≡ command

-- the files come to this rewritten graph, which has this race, and the command makes the race check
pub record HasRace (words : List (List ℕ)) (shelf : ShelfUse) (other : GraphTree) (race : Race) : Type 0 where
  pub call : Call
  pub work : Work
  pub picks : List ℕ
  pub reaches : Reaches words shelf call work other picks
  pub checks : MakesRaceCheck call.command
  pub is_race : IsRaceOf other race

-- a call names a file, with its limit: its source, its arrays file, its chain file, or the picks file of a step
pub data NamesFile (call : Call) : List ℕ → ℕ → Type 0 where
  names_source : NamesFile call call.source (2 ^ 20)
  names_arrays : NamesFile call call.arrays (2 ^ 26)
  names_chain : (name : List ℕ) → call.chain ≡ Some name → NamesFile call name (2 ^ 16)
  names_picks : (step : Step) → call.command ≡ to_step step → NamesFile call step.picks (2 ^ 24)

-- the name is a file in the words, with its limit
abbrev pub IsFile : List (List ℕ) → List ℕ → ℕ → Type 0
IsFile words name limit = (call : Call) × IsCall words call × NamesFile call name limit

-- the call ends with this answer, its text whole; or the sink failed, or memory was wanting
abbrev pub EndsAs : Answer → SinkUse → ℕ → Type 0
EndsAs answer sink status =
    ((status ≡ status_of answer) × Writes sink (text_of answer))
    ⊎ ((status ≡ 10) × HasRisen sink.faults_before sink.faults_after)
    ⊎ (status ≡ 1)

-- so it ends with the race of a graph
abbrev pub EndsWithRace : GraphTree → SinkUse → ℕ → Type 0
EndsWithRace tree sink status =
    ((race : Race) × IsRaceOf tree race × (status ≡ 6) × Writes sink (text_of (raced tree race)))
    ⊎ ((status ≡ 10) × HasRisen sink.faults_before sink.faults_after)
    ⊎ (status ≡ 1)

-- the answers of the status 0: a sequential run that is done, the text of a graph, the accesses or the plan of an accepted graph, or the rewrites that may be done
pub data IsDone (words : List (List ℕ)) (shelf : ShelfUse) : Answer → Type 0 where
  runs : (work : Work) (turns : ℕ) (steps : List (ℕ × ℕ)) (left : Left) → Runs words shelf work turns steps (Done left) → IsDone words shelf (ran steps work.tree turns (Done left))
  lists : (other : GraphTree) → AsksOf words shelf other to_print → IsDone words shelf (listed other)
  accepts : (other : GraphTree) → AsksOf words shelf other to_check → IsGraphAccepted other → IsDone words shelf (checked other)
  plans : (other : GraphTree) → AsksOf words shelf other to_plan → IsGraphAccepted other → IsDone words shelf (planned other)
  matches : (other : GraphTree) → AsksOf words shelf other to_match → IsDone words shelf (matched other)

pub record Statuses (words : List (List ℕ)) (shelf : ShelfUse) (sink : SinkUse) (status : ℕ) : Type 0 where
  -- 0 only where the sequential run is done of a run that is asked for, where the text of the rewritten graph is asked for, its race check, which accepts it, its plan, where it is accepted, or its matches
  pub zero : status ≡ 0 → (answer : Answer) × IsDone words shelf answer × Writes sink (text_of answer)
  -- 7 and 8 only where the sequential run of one that is asked for has a fault, or wants a turn when none is left
  pub seven : status ≡ 7 → (work : Work) × (turns : ℕ) × (steps : List (ℕ × ℕ)) × (fault : Fault Place) × Runs words shelf work turns steps (Faulted fault) × Writes sink (text_of (ran steps work.tree turns (Faulted fault)))
  pub eight : status ≡ 8 → (work : Work) × (turns : ℕ) × (steps : List (ℕ × ℕ)) × Runs words shelf work turns steps Spent × Writes sink (text_of (ran steps work.tree turns Spent))
  -- and exactly there, for each chain and each number of workers, with the steps of the run by picks where they are asked for
  pub run_where : (call : Call) (run : Run) (work : Work) (other : GraphTree) (outcome : Outcome Place Left) → Asks words shelf call work → Chained shelf call.chain work.tree other → call.command ≡ to_run run → IsGraphAccepted other → Sequential (run_of_work work) run.turns outcome → EndsAs (answer_of_run work.tree run.turns outcome) sink status
  pub step_where : (call : Call) (step : Step) (work : Work) (other : GraphTree) (picks : List ℕ) (steps : List (ℕ × ℕ)) (picked outcome : Outcome Place Left) → Asks words shelf call work → Chained shelf call.chain work.tree other → call.command ≡ to_step step → GivesPicks shelf call.command picks → IsGraphAccepted other → IsPicked (run_of other work.memory) step.turns picks step.traces picked steps → Sequential (run_of_work work) step.turns outcome → EndsAs (ran steps work.tree step.turns outcome) sink status
  pub listed_where : (call : Call) (work : Work) (other : GraphTree) → Asks words shelf call work → Chained shelf call.chain work.tree other → call.command ≡ to_print → EndsAs (listed other) sink status
  pub checked_where : (call : Call) (work : Work) (other : GraphTree) → Asks words shelf call work → Chained shelf call.chain work.tree other → call.command ≡ to_check → IsGraphAccepted other → EndsAs (checked other) sink status
  pub planned_where : (call : Call) (work : Work) (other : GraphTree) → Asks words shelf call work → Chained shelf call.chain work.tree other → call.command ≡ to_plan → IsGraphAccepted other → EndsAs (planned other) sink status
  pub matched_where : (call : Call) (work : Work) (other : GraphTree) → Asks words shelf call work → Chained shelf call.chain work.tree other → call.command ≡ to_match → EndsAs (matched other) sink status
  -- 6 exactly where the rewritten graph is not accepted and the command makes the race check: with its race
  pub six : status ≡ 6 → (other : GraphTree) × (race : Race) × HasRace words shelf other race × Writes sink (text_of (raced other race))
  pub six_where : (call : Call) (work : Work) (other : GraphTree) (picks : List ℕ) → Asks words shelf call work → Chained shelf call.chain work.tree other → GivesPicks shelf call.command picks → MakesRaceCheck call.command → ¬ IsGraphAccepted other → EndsWithRace other sink status
  -- 2 exactly where the words are not those of the command
  pub two : status ≡ 2 → NamesNothing words × Writes sink (text_of bad_words)
  pub two_where : NamesNothing words → EndsAs bad_words sink status
  -- 3 exactly where the source, being read, has an error: with its number and its line
  pub three : status ≡ 3 → (refusal : Refusal) × HasNoProgram words shelf refusal × Writes sink (text_of (source_refused refusal))
  pub three_where : (call : Call) (source : List ℕ) (refusal : Refusal) → TellsSource words shelf call source → length source ≤ 2 ^ 20 → source_graph source ≡ Err refusal → EndsAs (source_refused refusal) sink status
  -- 4 exactly where the arrays file, being read, its sizes or its shapes are refused: with the number and the name
  pub four : status ≡ 4 → (refusal : ArraysRefusal) × HasNoWork words shelf refusal × Writes sink (text_of (arrays_refused refusal))
  pub four_where : (call : Call) (source : List ℕ) (tree : GraphTree) (arrays : List ℕ) (refusal : ArraysRefusal) → TellsArrays words shelf call source tree arrays → length arrays ≤ 2 ^ 26 → prepared tree arrays ≡ Err refusal → EndsAs (arrays_refused refusal) sink status
  -- 5 exactly where the chain file and the picks file, being read, are refused: for a line that is no form, a word that is no pick, or a condition that fails on the graph as it then is
  pub five : status ≡ 5 → (answer : Answer) × IsRefused words shelf answer × Writes sink (text_of answer)
  pub five_where : (call : Call) (work : Work) (chain picks : List ℕ) (answer : Answer) → Asks words shelf call work → TellsBoth shelf call chain picks → steered work.tree chain picks ≡ Err answer → EndsAs answer sink status
  -- 9 only where the printed name is a file in the words and its count rose
  pub nine : status ≡ 9 → (name : List ℕ) × (limit : ℕ) × IsFile words name limit × HasRisen (shelf.faults_before name) (shelf.faults_after name) × Writes sink (text_of (read_fault name))
  -- 10 only where the count of the sink rose; what was written is a prefix of an answer's text
  pub ten : status ≡ 10 → HasRisen sink.faults_before sink.faults_after × (answer : Answer) × Answers words shelf answer × WritesPrefix sink (text_of answer)
  -- 11 only where the printed name is a file in the words and its number of overruns rose; where it is told, exactly where it is above its limit
  pub eleven : status ≡ 11 → (name : List ℕ) × (limit : ℕ) × IsFile words name limit × IsToldLonger (shelf.told name) limit × HasRisen (shelf.overruns_before name) (shelf.overruns_after name) × Writes sink (text_of (too_long name))
  pub eleven_where : (call : Call) (source : List ℕ) → TellsSource words shelf call source → 2 ^ 20 < length source → EndsAs (too_long call.source) sink status
  pub eleven_later : (call : Call) (source : List ℕ) (tree : GraphTree) (arrays : List ℕ) → TellsArrays words shelf call source tree arrays → 2 ^ 26 < length arrays → EndsAs (too_long call.arrays) sink status
  pub eleven_chain : (call : Call) (work : Work) (name : List ℕ) (file : List ℕ) → Asks words shelf call work → call.chain ≡ Some name → TellsFile shelf name file → 2 ^ 16 < length file → EndsAs (too_long name) sink status
  pub eleven_last : (call : Call) (step : Step) (work : Work) (chain file : List ℕ) → Asks words shelf call work → TellsNamed shelf call.chain (2 ^ 16) chain → call.command ≡ to_step step → TellsFile shelf step.picks file → 2 ^ 24 < length file → EndsAs (too_long step.picks) sink status
  -- after want of memory what was written is nothing, or a prefix of an answer's text
  pub one : status ≡ 1 → Writes sink [] ⊎ ((answer : Answer) × Answers words shelf answer × WritesPrefix sink (text_of answer))
