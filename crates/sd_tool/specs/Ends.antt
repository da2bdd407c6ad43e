-- How a call ends: what the sink took, and the status.
use Rattle.std.specs.Prelude.{◌≡◌, ℕ, List, [], Option}
use Rattle.sd_io.specs.Count.{HasRisen}
use Rattle.sd_io.specs.Sink.{Appends, AppendsPrefix}
use Rattle.sd_tool.specs.Answer.{Answer, status_of, text_of}
use Rattle.sd_tool.specs.Answers.{Answers}
use Rattle.sd_tool.specs.Files.{ShelfUse}

-- the bytes that a sink took, where it tells them, and its count, before and after it was used
pub record SinkUse : Type 0 where
  pub taken_before : Option (List ℕ)
  pub taken_after : Option (List ℕ)
  pub faults_before : ℕ
  pub faults_after : ℕ

abbrev pub sink_use : {Sink : Type 0} → (taken : Sink → Option (List ℕ)) → (faults : Sink → ℕ) → Sink → Sink → SinkUse
sink_use taken faults before now = record {
  taken_before = taken before;
  taken_after = taken now;
  faults_before = faults before;
  faults_after = faults now;
}

abbrev pub Writes : SinkUse → List ℕ → Type 0
Writes sink text = Appends sink.taken_before sink.taken_after text

abbrev pub WritesPrefix : SinkUse → List ℕ → Type 0
WritesPrefix sink text = AppendsPrefix sink.taken_before sink.taken_after text

-- an answer's text is written whole and the status is its own; or a prefix of it is, where the sink failed or memory was wanting; or memory was wanting before there was an answer
pub data Ends (words : List (List ℕ)) (shelf : ShelfUse) (sink : SinkUse) (status : ℕ) : Type 0 where
  written : (answer : Answer) → Answers words shelf answer → Writes sink (text_of answer) → status ≡ status_of answer → Ends words shelf sink status
  sink_failed : (answer : Answer) → Answers words shelf answer → WritesPrefix sink (text_of answer) → HasRisen sink.faults_before sink.faults_after → status ≡ 10 → Ends words shelf sink status
  cut_short : (answer : Answer) → Answers words shelf answer → WritesPrefix sink (text_of answer) → status ≡ 1 → Ends words shelf sink status
  no_memory : Writes sink [] → status ≡ 1 → Ends words shelf sink status
