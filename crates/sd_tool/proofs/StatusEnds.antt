-- Each status of a call, from how it ends.
use Rattle.std.proofs.Common.{◌≡◌, ◌⊎◌, ℕ, List, [], refl, ap, sym, ◌∙◌, subst, arith, inl, inr}
use Rattle.sd_io.specs.Count.{HasRisen}
use Rattle.sd_work.specs.Run.{Left, Sequential}
use Rattle.sd_work.specs.Step.{Outcome}
use Rattle.sd_graph.specs.PlainTree.{GraphTree}
use Rattle.sd_graph.specs.Unfold.{run_of}
use Rattle.sd_graph.specs.declared.place.Place.{Place}
use Rattle.sd_race.specs.race.Pairs.{IsGraphAccepted}
use Rattle.sd_report.specs.stepping.Step.{IsPicked}
use Rattle.sd_words.specs.Command.{Run, Step, to_run, to_step, to_print, to_check, to_plan, to_match, MakesRaceCheck, Call}
use Rattle.sd_tool.specs.Work.{Work, run_of_work}
use Rattle.sd_tool.specs.Answer.{Answer, ran, listed, checked, planned, matched, bad_words, source_refused, arrays_refused, too_long, answer_of_run, status_of, text_of}
use Rattle.sd_tool.specs.Files.{ShelfUse}
use Rattle.sd_tool.specs.Answers.{Answers, TellsRace, Tells}
use Rattle.sd_tool.specs.Ends.{SinkUse, Ends, written, sink_failed, cut_short, no_memory, Writes, WritesPrefix}
use Rattle.sd_tool.specs.Told.{Asks, Chained, GivesPicks}
use Rattle.sd_tool.specs.Statuses.{EndsAs, EndsWithRace, Statuses}
use Rattle.sd_tool.proofs.Unique.{Tells-unique, race_told}
use Rattle.sd_tool.proofs.Only.{bad_words_only, refused_source, long_at_source, refused_arrays, long_at_arrays}
use Rattle.sd_tool.proofs.OnlySteered.{later, told_later, refused_later, long_chain_later, long_picks_later}
use Rattle.sd_tool.proofs.StatusRows.{cause}
use Rattle.sd_tool.proofs.StatusAt.{Told, zero_at, seven_at, eight_at, six_at, two_at, three_at, four_at, five_at, nine_at, eleven_at, ten_at, one_at}

-- where only one answer can come, the call ends as it
pub ends_as : (words : List (List ℕ)) (shelf : ShelfUse) (sink : SinkUse) (status : ℕ) (only : Answer) → ((answer : Answer) → Answers words shelf answer → answer ≡ only) → Ends words shelf sink status → EndsAs only sink status
ends_as words shelf sink status only one (written answer answers whole is) =
    inl (subst (λ a. (status ≡ status_of a) × Writes sink (text_of a)) (one answer answers) (is, whole))
ends_as words shelf sink status only one (sink_failed answer answers prefix rose is) = inr (inl (is, rose))
ends_as words shelf sink status only one (cut_short answer answers prefix is) = inr (inr is)
ends_as words shelf sink status only one (no_memory nothing is) = inr (inr is)

-- where only the race of a graph can be told, the call ends with it
pub ends_with_race : (words : List (List ℕ)) (shelf : ShelfUse) (sink : SinkUse) (status : ℕ) (tree : GraphTree) → ((answer : Answer) → Answers words shelf answer → TellsRace tree answer) → Ends words shelf sink status → EndsWithRace tree sink status
ends_with_race words shelf sink status tree only (written answer answers whole is) =
    let told = only answer answers in inl (told.race, told.is_race, is ∙ ap status_of told.is, subst (λ a. Writes sink (text_of a)) told.is whole)
ends_with_race words shelf sink status tree only (sink_failed answer answers prefix rose is) = inr (inl (is, rose))
ends_with_race words shelf sink status tree only (cut_short answer answers prefix is) = inr (inr is)
ends_with_race words shelf sink status tree only (no_memory nothing is) = inr (inr is)

-- a written answer, with its cause
pub record Wrote (words : List (List ℕ)) (shelf : ShelfUse) (sink : SinkUse) (status : ℕ) : Type 0 where
  pub answer : Answer
  pub answers : Answers words shelf answer
  pub whole : Writes sink (text_of answer)
  pub is : status ≡ status_of answer

-- a status other than 1 and 10 is that of a written answer
wrote : (words : List (List ℕ)) (shelf : ShelfUse) (sink : SinkUse) (status : ℕ) → (status ≡ 10 → ⊥) → (status ≡ 1 → ⊥) → Ends words shelf sink status → Wrote words shelf sink status
wrote words shelf sink status ten one (written answer answers whole is) = record { answer = answer; answers = answers; whole = whole; is = is }
wrote words shelf sink status ten one (sink_failed answer answers prefix rose is) = absurd (ten is)
wrote words shelf sink status ten one (cut_short answer answers prefix is) = absurd (one is)
wrote words shelf sink status ten one (no_memory nothing is) = absurd (one is)

told : (words : List (List ℕ)) (shelf : ShelfUse) (sink : SinkUse) (status : ℕ) → (w : Wrote words shelf sink status) → Told words shelf sink status w.answer
told words shelf sink status w = (w.is, w.answers, cause words shelf w.answers, w.whole)

-- how the status 10 and the status 1 come
ten_end : (words : List (List ℕ)) (shelf : ShelfUse) (sink : SinkUse) (status : ℕ) → status ≡ 10 → Ends words shelf sink status → HasRisen sink.faults_before sink.faults_after × (answer : Answer) × Answers words shelf answer × WritesPrefix sink (text_of answer)
ten_end words shelf sink status e (written answer answers whole is) = absurd (ten_at answer (sym is ∙ e))
ten_end words shelf sink status e (sink_failed answer answers prefix rose is) = (rose, answer, answers, prefix)
ten_end words shelf sink status e (cut_short answer answers prefix is) = absurd (omega arith)
ten_end words shelf sink status e (no_memory nothing is) = absurd (omega arith)

one_end : (words : List (List ℕ)) (shelf : ShelfUse) (sink : SinkUse) (status : ℕ) → status ≡ 1 → Ends words shelf sink status → Writes sink [] ⊎ ((answer : Answer) × Answers words shelf answer × WritesPrefix sink (text_of answer))
one_end words shelf sink status e (written answer answers whole is) = absurd (one_at answer (sym is ∙ e))
one_end words shelf sink status e (sink_failed answer answers prefix rose is) = absurd (omega arith)
one_end words shelf sink status e (cut_short answer answers prefix is) = inr (answer, answers, prefix)
one_end words shelf sink status e (no_memory nothing is) = inl nothing

-- what is written at a status of its own
at_status : (words : List (List ℕ)) (shelf : ShelfUse) (sink : SinkUse) (status number : ℕ) {P : Type 0} → ((answer : Answer) → Told words shelf sink number answer → P) → (number ≡ 10 → ⊥) → (number ≡ 1 → ⊥) → Ends words shelf sink status → status ≡ number → P
at_status words shelf sink status number rows ten one ends is =
    let w = wrote words shelf sink number ten one (subst (Ends words shelf sink) is ends) in
    rows w.answer (told words shelf sink number w)

-- what a call asks for, of a graph that its chain makes
module _ (words : List (List ℕ)) (shelf : ShelfUse) (call : Call) (work : Work) (other : GraphTree) (asks : Asks words shelf call work) (makes : Chained shelf call.chain work.tree other) where
  -- only that is answered
  asked_alone : (picks : List ℕ) → GivesPicks shelf call.command picks → (answer : Answer) → Answers words shelf answer → Tells work other picks call.command answer
  asked_alone picks gives answer answers = told_later shelf call work other picks answer makes gives (later words shelf call work asks answer answers)

  -- and it has one answer
  one_answer : (picks : List ℕ) (only : Answer) → GivesPicks shelf call.command picks → Tells work other picks call.command only → (answer : Answer) → Answers words shelf answer → answer ≡ only
  one_answer picks only gives told = λ answer answers. Tells-unique work other picks call.command answer only (asked_alone picks gives answer answers) told

  -- or tells a race of a graph that is not accepted
  pub one_race : (picks : List ℕ) → GivesPicks shelf call.command picks → MakesRaceCheck call.command → ¬ IsGraphAccepted other → (answer : Answer) → Answers words shelf answer → TellsRace other answer
  one_race picks gives checks refused = λ answer answers. race_told work other picks call.command answer checks refused (asked_alone picks gives answer answers)

  -- a run of an accepted graph that is asked for tells the outcome of the work's own
  pub asked_run : (run : Run) (outcome : Outcome Place Left) → call.command ≡ to_run run → IsGraphAccepted other → Sequential (run_of_work work) run.turns outcome → (answer : Answer) → Answers words shelf answer → answer ≡ answer_of_run work.tree run.turns outcome
  asked_run run outcome is accepted ends =
      one_answer [] (answer_of_run work.tree run.turns outcome) (subst (λ c. GivesPicks shelf c []) (sym is) refl)
      (subst (λ c. Tells work other [] c (answer_of_run work.tree run.turns outcome)) (sym is) (inl (accepted, record { outcome = outcome; ends = ends; is = refl })))

  -- a run by picks tells the same, behind its steps
  pub asked_step : (step : Step) (picks : List ℕ) (steps : List (ℕ × ℕ)) (picked outcome : Outcome Place Left) → call.command ≡ to_step step → GivesPicks shelf call.command picks → IsGraphAccepted other →
      IsPicked (run_of other work.memory) step.turns picks step.traces picked steps → Sequential (run_of_work work) step.turns outcome → (answer : Answer) → Answers words shelf answer → answer ≡ ran steps work.tree step.turns outcome
  asked_step step picks steps picked outcome is gives accepted run ends =
      one_answer picks (ran steps work.tree step.turns outcome) gives
      (subst (λ c. Tells work other picks c (ran steps work.tree step.turns outcome)) (sym is)
      (inl (accepted, record { steps = steps; picked = picked; run = run; told = record { outcome = outcome; ends = ends; is = refl } })))

  -- a text that is asked for is that of the graph
  pub asked_text : call.command ≡ to_print → (answer : Answer) → Answers words shelf answer → answer ≡ listed other
  asked_text is = one_answer [] (listed other) (subst (λ c. GivesPicks shelf c []) (sym is) refl) (subst (λ c. Tells work other [] c (listed other)) (sym is) refl)

  -- the rewrites that are asked for are those of the graph
  pub asked_matches : call.command ≡ to_match → (answer : Answer) → Answers words shelf answer → answer ≡ matched other
  asked_matches is = one_answer [] (matched other) (subst (λ c. GivesPicks shelf c []) (sym is) refl) (subst (λ c. Tells work other [] c (matched other)) (sym is) refl)

  -- the race check of an accepted graph tells its accesses
  pub asked_check : call.command ≡ to_check → IsGraphAccepted other → (answer : Answer) → Answers words shelf answer → answer ≡ checked other
  asked_check is accepted = one_answer [] (checked other) (subst (λ c. GivesPicks shelf c []) (sym is) refl) (subst (λ c. Tells work other [] c (checked other)) (sym is) (inl (accepted, refl)))

  -- and its plan is told
  pub asked_plan : call.command ≡ to_plan → IsGraphAccepted other → (answer : Answer) → Answers words shelf answer → answer ≡ planned other
  asked_plan is accepted = one_answer [] (planned other) (subst (λ c. GivesPicks shelf c []) (sym is) refl) (subst (λ c. Tells work other [] c (planned other)) (sym is) (inl (accepted, refl)))

-- all of it
pub statuses : (words : List (List ℕ)) (shelf : ShelfUse) (sink : SinkUse) (status : ℕ) → Ends words shelf sink status → Statuses words shelf sink status
statuses words shelf sink status ends = record {
  zero = at_status words shelf sink status 0 (zero_at words shelf sink) (λ e. omega arith) (λ e. omega arith) ends;
  seven = at_status words shelf sink status 7 (seven_at words shelf sink) (λ e. omega arith) (λ e. omega arith) ends;
  eight = at_status words shelf sink status 8 (eight_at words shelf sink) (λ e. omega arith) (λ e. omega arith) ends;
  run_where = λ call run work other outcome asks makes is accepted ran_so.
      ends_as words shelf sink status (answer_of_run work.tree run.turns outcome) (asked_run words shelf call work other asks makes run outcome is accepted ran_so) ends;
  step_where = λ call step work other picks steps picked outcome asks makes is gives accepted run ran_so.
      ends_as words shelf sink status (ran steps work.tree step.turns outcome) (asked_step words shelf call work other asks makes step picks steps picked outcome is gives accepted run ran_so) ends;
  listed_where = λ call work other asks makes is. ends_as words shelf sink status (listed other) (asked_text words shelf call work other asks makes is) ends;
  checked_where = λ call work other asks makes is accepted. ends_as words shelf sink status (checked other) (asked_check words shelf call work other asks makes is accepted) ends;
  planned_where = λ call work other asks makes is accepted. ends_as words shelf sink status (planned other) (asked_plan words shelf call work other asks makes is accepted) ends;
  matched_where = λ call work other asks makes is. ends_as words shelf sink status (matched other) (asked_matches words shelf call work other asks makes is) ends;
  six = at_status words shelf sink status 6 (six_at words shelf sink) (λ e. omega arith) (λ e. omega arith) ends;
  six_where = λ call work other picks asks makes gives checks refused. ends_with_race words shelf sink status other (one_race words shelf call work other asks makes picks gives checks refused) ends;
  two = at_status words shelf sink status 2 (two_at words shelf sink) (λ e. omega arith) (λ e. omega arith) ends;
  two_where = λ nothing. ends_as words shelf sink status bad_words (bad_words_only words shelf nothing) ends;
  three = at_status words shelf sink status 3 (three_at words shelf sink) (λ e. omega arith) (λ e. omega arith) ends;
  three_where = λ call source refusal tells within is. ends_as words shelf sink status (source_refused refusal) (refused_source words shelf call source tells refusal within is) ends;
  four = at_status words shelf sink status 4 (four_at words shelf sink) (λ e. omega arith) (λ e. omega arith) ends;
  four_where = λ call source tree arrays refusal tells within is. ends_as words shelf sink status (arrays_refused refusal) (refused_arrays words shelf call source tree arrays tells refusal within is) ends;
  five = at_status words shelf sink status 5 (five_at words shelf sink) (λ e. omega arith) (λ e. omega arith) ends;
  five_where = λ call work chain picks only asks tells is.
      ends_as words shelf sink status only (λ answer answers. refused_later shelf call work chain picks tells only answer is (later words shelf call work asks answer answers)) ends;
  nine = at_status words shelf sink status 9 (nine_at words shelf sink) (λ e. omega arith) (λ e. omega arith) ends;
  ten = λ is. ten_end words shelf sink status is ends;
  eleven = at_status words shelf sink status 11 (eleven_at words shelf sink) (λ e. omega arith) (λ e. omega arith) ends;
  eleven_where = λ call source tells long. ends_as words shelf sink status (too_long call.source) (long_at_source words shelf call source tells long) ends;
  eleven_later = λ call source tree arrays tells long. ends_as words shelf sink status (too_long call.arrays) (long_at_arrays words shelf call source tree arrays tells long) ends;
  eleven_chain = λ call work name file asks is tells long.
      ends_as words shelf sink status (too_long name) (λ answer answers. long_chain_later shelf call work name file answer is tells long (later words shelf call work asks answer answers)) ends;
  eleven_last = λ call step work chain file asks before is tells long.
      ends_as words shelf sink status (too_long step.picks) (λ answer answers. long_picks_later shelf call work step chain file answer before is tells long (later words shelf call work asks answer answers)) ends;
  one = λ is. one_end words shelf sink status is ends;
}
