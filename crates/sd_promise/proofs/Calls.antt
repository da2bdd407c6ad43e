-- What a call prints of its files.
use Rattle.std.proofs.Common.{◌≡◌, ◌⊎◌, ℕ, List, [], ◌++◌, if◌then◌else◌, false, ap, ◌∙◌, sym, subst}
use Rattle.sd_io.specs.Count.{HasRisen}
use Rattle.sd_work.specs.Move.{Fault}
use Rattle.sd_work.specs.Run.{Left}
use Rattle.sd_work.specs.Step.{Outcome, Done, Faulted, Spent}
use Rattle.sd_work.specs.Residual.{Term}
use Rattle.sd_graph.specs.PlainTree.{GraphTree}
use Rattle.sd_graph.specs.Unfold.{run_of}
use Rattle.sd_graph.specs.declared.place.Place.{Place}
use Rattle.sd_race.specs.race.Pairs.{IsGraphAccepted}
use Rattle.sd_report.specs.write.RunText.{steps_text, end_text}
use Rattle.sd_words.specs.Command.{Command, Call, Run, to_run, to_step, to_print, to_check, to_plan, to_match}
use Rattle.sd_tool.specs.Work.{Work}
use Rattle.sd_tool.specs.Answer.{Answer, ran, answer_of_run, text_of}
use Rattle.sd_tool.specs.Files.{ShelfUse}
use Rattle.sd_tool.specs.Ends.{SinkUse, Writes}
use Rattle.sd_tool.specs.Headline.{Prints, PrintsTraced}
use Rattle.sd_tool.specs.Statuses.{Statuses, TellsSteps, Runs, EndsAs, IsDone, runs, lists, accepts, plans, matches}
use Rattle.sd_tool.specs.Told.{Asks, Chained}
use Rattle.sd_promise.specs.Promise.{FilesSay, PrintsWhatIsSaid, EndsAsSaid, wants_moves, RunWasSaid, DoneAsSaid, done_was_said, was_listed, was_accepted, was_planned, was_matched}
use Rattle.sd_promise.proofs.Files.{read_by_grammar, run_is_said, said_is_run, status_told}

module _ (words : List (List ℕ)) (shelf : ShelfUse) (sink : SinkUse) (status : ℕ) where
  pub printed_is_said : (call : Call) (work : Work) (turns : ℕ) (asks : Asks words shelf call work) → Prints work turns sink status → PrintsWhatIsSaid asks.source asks.arrays turns [] sink status
  printed_is_said call work turns asks prints = record {
    outcome = prints.outcome;
    printed = end_text work.tree turns prints.outcome;
    said = run_is_said asks.source asks.arrays asks.tree work turns prints.outcome asks.tells.has_graph asks.comes prints.ends;
    ends = subst (λ own. ((status ≡ own) × Writes sink (end_text work.tree turns prints.outcome)) ⊎ (status ≡ 1)) (status_told prints.outcome) prints.printed;
  }

  pub moves_and_said : (call : Call) (work : Work) (other : GraphTree) (picks : List ℕ) (turns : ℕ) (asks : Asks words shelf call work) → (prints : PrintsTraced work other picks turns sink status) →
      PrintsWhatIsSaid asks.source asks.arrays turns prints.trace sink status
  moves_and_said call work other picks turns asks prints = record {
    outcome = prints.outcome;
    printed = end_text work.tree turns prints.outcome;
    said = run_is_said asks.source asks.arrays asks.tree work turns prints.outcome asks.tells.has_graph asks.comes prints.ends;
    ends = subst (λ own. ((status ≡ own) × Writes sink (steps_text prints.trace ++ end_text work.tree turns prints.outcome)) ⊎ (status ≡ 1)) (status_told prints.outcome) prints.printed;
  }

  pub said_is_printed : (call : Call) (run : Run) (work : Work) (other : GraphTree) (outcome : Outcome Place Left) (printed : List ℕ) → Statuses words shelf sink status → (asks : Asks words shelf call work) → Chained shelf call.chain work.tree other → call.command ≡ to_run run → IsGraphAccepted other →
      FilesSay asks.source asks.arrays run.turns outcome printed → EndsAsSaid outcome printed sink status
  said_is_printed call run work other outcome printed statuses asks chained command accepted said =
      let ran_as = said_is_run asks.source asks.arrays asks.tree work run.turns outcome printed asks.tells.has_graph asks.comes said in
      let ends : EndsAs (answer_of_run work.tree run.turns outcome) sink status = statuses.run_where call run work other outcome asks chained command accepted ran_as.0 in
      subst (λ text. EndsAsSaid outcome text sink status) (sym ran_as.1)
      (subst (λ own. ((status ≡ own) × Writes sink (end_text work.tree run.turns outcome)) ⊎ ((status ≡ 10) × HasRisen sink.faults_before sink.faults_after) ⊎ (status ≡ 1)) (status_told outcome) ends)

  -- a command that does not ask for its moves tells none
  none_told : (term : Term Place) (picks : List ℕ) (command : Command) (moves : List (ℕ × ℕ)) → TellsSteps term picks command moves → wants_moves command ≡ false → moves ≡ []
  none_told term picks (to_run run) moves told none = told
  none_told term picks (to_step step) moves told none = told.1.kept ∙ ap (λ traces. if traces then told.1.trace else []) none
  none_told term picks to_print moves told none = told
  none_told term picks to_check moves told none = told
  none_told term picks to_plan moves told none = told
  none_told term picks to_match moves told none = told

  run_was_said : (work : Work) (turns : ℕ) (moves : List (ℕ × ℕ)) (outcome : Outcome Place Left) → Runs words shelf work turns moves outcome → Writes sink (text_of (ran moves work.tree turns outcome)) → RunWasSaid words shelf sink outcome
  run_was_said work turns moves outcome done writes =
      let comes = done.reaches.comes in
      let text : List ℕ = comes.source.source in
      let printed : List ℕ = end_text work.tree turns outcome in
      let said : FilesSay text comes.arrays turns outcome printed =
      run_is_said text comes.arrays comes.tree work turns outcome comes.source.is comes.is done.ends in
      record {
        call = done.call;
        turns = turns;
        moves = moves;
        asked = comes.source.asked;
        asks = done.asks;
        alone = none_told (run_of done.other work.memory) done.picks done.call.command moves done.told;
        text = text;
        arrays = comes.arrays;
        text_read = comes.source.reads;
        arrays_read = comes.reads;
        printed = printed;
        said = said;
        accepted = read_by_grammar text comes.tree said.source comes.source.is said.reading;
        writes = writes;
      }

  done_as : (answer : Answer) → IsDone words shelf answer → Writes sink (text_of answer) → DoneAsSaid words shelf sink
  done_as answer (runs work turns steps left done) writes = done_was_said left (run_was_said work turns steps (Done left) done writes)
  done_as answer (lists other asks) writes = was_listed other asks writes
  done_as answer (accepts other asks accepted) writes = was_accepted other asks accepted writes
  done_as answer (plans other asks accepted) writes = was_planned other asks accepted writes
  done_as answer (matches other asks) writes = was_matched other asks writes

  pub done_is_said : Statuses words shelf sink status → status ≡ 0 → DoneAsSaid words shelf sink
  done_is_said statuses is = let done = statuses.zero is in done_as done.0 done.1 done.2

  pub fault_was_said : Statuses words shelf sink status → status ≡ 7 → (fault : Fault Place) × RunWasSaid words shelf sink (Faulted fault)
  fault_was_said statuses is = let run = statuses.seven is in (run.3, run_was_said run.0 run.1 run.2 (Faulted run.3) run.4 run.5)

  pub spent_was_said : Statuses words shelf sink status → status ≡ 8 → RunWasSaid words shelf sink Spent
  spent_was_said statuses is = let run = statuses.eight is in run_was_said run.0 run.1 run.2 Spent run.3 run.4
