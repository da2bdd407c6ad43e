-- What the files of a call say, and that a call prints it.
use Rattle.std.specs.Prelude.{◌≡◌, ◌⊎◌, ℕ, ◌^◌, List, [], ◌++◌, Bool, false, Some, Ok}
use Rattle.sd_io.specs.Count.{HasRisen}
use Rattle.sd_lex.specs.PlainTree.{ProgramTree}
use Rattle.sd_work.specs.Run.{Left}
use Rattle.sd_work.specs.Step.{Outcome, Done}
use Rattle.sd_graph.specs.PlainTree.{GraphTree}
use Rattle.sd_graph.specs.declared.place.Place.{Place}
use Rattle.sd_source.specs.source.SourceReading.{reads}
use Rattle.sd_parse.specs.grammar.Programs.{tree_of}
use Rattle.sd_json.specs.Given.{Contents}
use Rattle.sd_says.specs.Says.{Says}
use Rattle.sd_report.specs.write.RunText.{steps_text}
use Rattle.sd_words.specs.Command.{Command, Call, IsCall, to_run, to_step, to_print, to_check, to_plan, to_match, RunsWith}
use Rattle.sd_tool.specs.Files.{ShelfUse, Reads}
use Rattle.sd_race.specs.race.Pairs.{IsGraphAccepted}
use Rattle.sd_tool.specs.Answer.{listed, checked, planned, matched, text_of}
use Rattle.sd_tool.specs.Statuses.{AsksOf}
use Rattle.sd_tool.specs.Ends.{SinkUse, Writes}
use Rattle.sd_promise.specs.Source.{file_read, memory_given, text_said, status_said}

-- by the grammar the text is a source, the bytes are an arrays file of it, and with these arrays, sizes and turns the source says this outcome, whose text is this
pub record FilesSay (text arrays : List ℕ) (turns : ℕ) (outcome : Outcome Place Left) (printed : List ℕ) : Type 0 where
  pub source : ProgramTree
  pub contents : Contents
  pub reading : tree_of text ≡ Some source
  pub given : file_read source arrays ≡ Ok contents
  pub says : Says source contents.sizes (memory_given source contents) turns outcome
  pub is : printed ≡ text_said source contents.sizes turns outcome

-- the files say an outcome; the lines of these moves and then its text are written whole and the status is its own, or memory was wanting
pub record PrintsWhatIsSaid (text arrays : List ℕ) (turns : ℕ) (moves : List (ℕ × ℕ)) (sink : SinkUse) (status : ℕ) : Type 0 where
  pub outcome : Outcome Place Left
  pub printed : List ℕ
  pub said : FilesSay text arrays turns outcome printed
  pub ends : ((status ≡ status_said outcome) × Writes sink (steps_text moves ++ printed)) ⊎ (status ≡ 1)

-- the text of an outcome is written whole and the status is its own; or the sink failed, or memory was wanting
abbrev pub EndsAsSaid : Outcome Place Left → (printed : List ℕ) → SinkUse → (status : ℕ) → Type 0
EndsAsSaid outcome printed sink status =
    ((status ≡ status_said outcome) × Writes sink printed)
    ⊎ ((status ≡ 10) × HasRisen sink.faults_before sink.faults_after)
    ⊎ (status ≡ 1)

-- the command asks that the moves of its run are told: a run by picks with `--trace`
abbrev pub wants_moves : Command → Bool
wants_moves (to_run run) = false
wants_moves (to_step step) = step.traces
wants_moves to_print = false
wants_moves to_check = false
wants_moves to_plan = false
wants_moves to_match = false

-- the words ask for a run, by picks or without, of two files that were read, the source without an error, which say this outcome, and its text was written; lines of moves stand before it where they are asked for, and else none
pub record RunWasSaid (words : List (List ℕ)) (shelf : ShelfUse) (sink : SinkUse) (outcome : Outcome Place Left) : Type 0 where
  pub call : Call
  pub turns : ℕ
  pub moves : List (ℕ × ℕ)
  pub asked : IsCall words call
  pub asks : RunsWith call.command turns
  pub alone : wants_moves call.command ≡ false → moves ≡ []
  pub text : List ℕ
  pub arrays : List ℕ
  pub text_read : Reads shelf call.source (2 ^ 20) text
  pub arrays_read : Reads shelf call.arrays (2 ^ 26) arrays
  pub printed : List ℕ
  pub said : FilesSay text arrays turns outcome printed
  pub accepted : reads text ≡ Ok said.source
  pub writes : Writes sink (steps_text moves ++ printed)

-- what the status 0 tells: the source says that all is done; or something of the graph that the call's chain makes of the source's was asked for and written: its text, that it is accepted, its plan, or the rewrites that may be done on it
pub data DoneAsSaid (words : List (List ℕ)) (shelf : ShelfUse) (sink : SinkUse) : Type 0 where
  done_was_said : (left : Left) → RunWasSaid words shelf sink (Done left) → DoneAsSaid words shelf sink
  was_listed : (other : GraphTree) → AsksOf words shelf other to_print → Writes sink (text_of (listed other)) → DoneAsSaid words shelf sink
  was_accepted : (other : GraphTree) → AsksOf words shelf other to_check → IsGraphAccepted other → Writes sink (text_of (checked other)) → DoneAsSaid words shelf sink
  was_planned : (other : GraphTree) → AsksOf words shelf other to_plan → IsGraphAccepted other → Writes sink (text_of (planned other)) → DoneAsSaid words shelf sink
  was_matched : (other : GraphTree) → AsksOf words shelf other to_match → Writes sink (text_of (matched other)) → DoneAsSaid words shelf sink
