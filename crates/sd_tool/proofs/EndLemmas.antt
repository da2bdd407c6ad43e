-- How a call ends, from what was written.
use Rattle.std.proofs.Common.{◌≡◌, ◌⊎◌, ℕ, List, [], Option, Some, None, Result, Ok, Err, OnOk, OnErr, IsErrOf, refl, ap, ◌∙◌, subst, inl, inr, IfSome}
use Rattle.std.specs.Option.{option_map_or}
use Rattle.std.specs.Prelude.{⊤}
use Rattle.sd_io.specs.Count.{HasRisen}
use Rattle.sd_io.specs.declared.sink.SinkError.{SinkError}
use Rattle.sd_io.specs.declared.sink.SinkError.TheVariants.{Failed, Memory}
use Rattle.sd_work.specs.Run.{Left, Sequential}
use Rattle.sd_work.specs.Step.{Outcome}
use Rattle.sd_graph.specs.PlainTree.{GraphTree}
use Rattle.sd_graph.specs.Unfold.{run_of}
use Rattle.sd_graph.specs.declared.place.Place.{Place}
use Rattle.sd_race.specs.race.Race.{Race, IsRaceOf}
use Rattle.sd_tool.specs.Written.{written_status}
use Rattle.sd_tool.specs.Work.{Work, run_of_work}
use Rattle.sd_core.specs.Traced.{IsTraced}
use Rattle.sd_tool.specs.Answer.{Answer, ran, answer_of_run, raced, status_of, text_of}
use Rattle.sd_tool.specs.Files.{ShelfUse}
use Rattle.sd_tool.specs.Answers.{Answers, TellsRace}
use Rattle.sd_tool.specs.Ending.{answer_of}
use Rattle.sd_tool.specs.declared.ending.Ending.{Ending}
use Rattle.sd_tool.specs.declared.ending.Ending.TheVariants as endings
use Rattle.sd_tool.specs.Ends.{SinkUse, Ends, written, sink_failed, cut_short, no_memory, Writes, WritesPrefix}
use Rattle.sd_tool.specs.Headline.{Prints, PrintsTraced}

-- a text was to be written for an answer
pub ends_written : (words : List (List ℕ)) (shelf : ShelfUse) (sink : SinkUse) (answer : Answer) (text : List ℕ) (wrote : Result ⊤ SinkError) → Answers words shelf answer → text ≡ text_of answer →
    OnOk wrote (Writes sink text) → OnErr wrote (WritesPrefix sink text) → (IsErrOf wrote Failed → HasRisen sink.faults_before sink.faults_after) →
    Ends words shelf sink (written_status wrote (status_of answer))
ends_written words shelf sink answer text (Ok _) answers is whole prefix rose = written answer answers (subst (Writes sink) is whole) refl
ends_written words shelf sink answer text (Err Failed) answers is whole prefix rose = sink_failed answer answers (subst (WritesPrefix sink) is prefix) (rose refl) refl
ends_written words shelf sink answer text (Err Memory) answers is whole prefix rose = cut_short answer answers (subst (WritesPrefix sink) is prefix) refl

-- the text of an ending was to be written
ends_as_told : (words : List (List ℕ)) (shelf : ShelfUse) (sink : SinkUse) (told : Option Answer) (text : List ℕ) (wrote : Result ⊤ SinkError) → (told ≡ None → ⊥) → IfSome told (Answers words shelf) → text ≡ option_map_or text_of told [] →
    OnOk wrote (Writes sink text) → OnErr wrote (WritesPrefix sink text) → (IsErrOf wrote Failed → HasRisen sink.faults_before sink.faults_after) →
    Ends words shelf sink (written_status wrote (option_map_or status_of told 1))
ends_as_told words shelf sink None text wrote some answers is whole prefix rose = absurd (some refl)
ends_as_told words shelf sink (Some answer) text wrote some answers is whole prefix rose = ends_written words shelf sink answer text wrote answers is whole prefix rose

-- every ending but want of memory has an answer
has_answer : (ending : Ending) → (ending ≡ endings.Memory → ⊥) → answer_of ending ≡ None → ⊥
has_answer endings.Memory other none = other refl
has_answer endings.BadWords other none = cc
has_answer (endings.Source refusal) other none = cc
has_answer (endings.Arrays refusal) other none = cc
has_answer (endings.Chain line) other none = cc
has_answer (endings.Condition line condition) other none = cc
has_answer (endings.Picks word) other none = cc
has_answer (endings.Race bound race) other none = cc
has_answer (endings.ReadFault name) other none = cc
has_answer (endings.TooLong name) other none = cc

pub ends_told : (words : List (List ℕ)) (shelf : ShelfUse) (sink : SinkUse) (ending : Ending) (text : List ℕ) (wrote : Result ⊤ SinkError) → (ending ≡ endings.Memory → ⊥) → IfSome (answer_of ending) (Answers words shelf) → text ≡ option_map_or text_of (answer_of ending) [] →
    OnOk wrote (Writes sink text) → OnErr wrote (WritesPrefix sink text) → (IsErrOf wrote Failed → HasRisen sink.faults_before sink.faults_after) →
    Ends words shelf sink (written_status wrote (option_map_or status_of (answer_of ending) 1))
ends_told words shelf sink ending text wrote other = ends_as_told words shelf sink (answer_of ending) text wrote (has_answer ending other)

-- where only one answer can come and the sink did not fail, its text is written whole and the status is its own, or memory was wanting
pub written_from_end : (words : List (List ℕ)) (shelf : ShelfUse) (sink : SinkUse) (status : ℕ) (only : Answer) → ((answer : Answer) → Answers words shelf answer → answer ≡ only) → ¬ HasRisen sink.faults_before sink.faults_after →
    Ends words shelf sink status → ((status ≡ status_of only) × Writes sink (text_of only)) ⊎ (status ≡ 1)
written_from_end words shelf sink status only one quiet (written answer answers whole is) = inl (is ∙ ap status_of (one answer answers), subst (λ a. Writes sink (text_of a)) (one answer answers) whole)
written_from_end words shelf sink status only one quiet (sink_failed answer answers prefix rose is) = absurd (quiet rose)
written_from_end words shelf sink status only one quiet (cut_short answer answers prefix is) = inr is
written_from_end words shelf sink status only one quiet (no_memory nothing is) = inr is

-- where this is the answer of the run, it is printed
pub prints_from_end : (words : List (List ℕ)) (shelf : ShelfUse) (sink : SinkUse) (status : ℕ) (work : Work) (turns : ℕ) (outcome : Outcome Place Left) → Sequential (run_of_work work) turns outcome →
    ((answer : Answer) → Answers words shelf answer → answer ≡ answer_of_run work.tree turns outcome) → ¬ HasRisen sink.faults_before sink.faults_after → Ends words shelf sink status →
    Prints work turns sink status
prints_from_end words shelf sink status work turns outcome ends one quiet end =
    record { outcome = outcome; ends = ends; printed = written_from_end words shelf sink status (answer_of_run work.tree turns outcome) one quiet end }

-- so behind a trace
pub traced_from_end : (words : List (List ℕ)) (shelf : ShelfUse) (sink : SinkUse) (status : ℕ) (work : Work) (other : GraphTree) (picks : List ℕ) (turns : ℕ) (picked : Outcome Place Left) (trace : List (ℕ × ℕ)) (outcome : Outcome Place Left) →
    IsTraced (run_of other work.memory) turns picks picked trace → Sequential (run_of_work work) turns outcome → ((answer : Answer) → Answers words shelf answer → answer ≡ ran trace work.tree turns outcome) →
    ¬ HasRisen sink.faults_before sink.faults_after → Ends words shelf sink status → PrintsTraced work other picks turns sink status
traced_from_end words shelf sink status work other picks turns picked trace outcome traced ends one quiet end = record {
  picked = picked;
  trace = trace;
  traced = traced;
  outcome = outcome;
  ends = ends;
  printed = written_from_end words shelf sink status (ran trace work.tree turns outcome) one quiet end;
}

-- where only the race of a graph can be told and the sink did not fail, it is, or memory was wanting
pub race_from_end : (words : List (List ℕ)) (shelf : ShelfUse) (sink : SinkUse) (status : ℕ) (tree : GraphTree) → ((answer : Answer) → Answers words shelf answer → TellsRace tree answer) → ¬ HasRisen sink.faults_before sink.faults_after →
    Ends words shelf sink status → ((status ≡ 6) × (race : Race) × IsRaceOf tree race × Writes sink (text_of (raced tree race))) ⊎ (status ≡ 1)
race_from_end words shelf sink status tree only quiet (written answer answers whole is) =
    let told = only answer answers in inl (is ∙ ap status_of told.is, told.race, told.is_race, subst (λ a. Writes sink (text_of a)) told.is whole)
race_from_end words shelf sink status tree only quiet (sink_failed answer answers prefix rose is) = absurd (quiet rose)
race_from_end words shelf sink status tree only quiet (cut_short answer answers prefix is) = inr is
race_from_end words shelf sink status tree only quiet (no_memory nothing is) = inr is
