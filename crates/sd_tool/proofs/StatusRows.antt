-- Each answer with its cause.
use Rattle.std.proofs.Common.{◌≡◌, ℕ, ◌^◌, List, [], Option, Some, None, Result, Ok, Err, refl, sym, subst, inl, inr}
use Rattle.sd_io.specs.Count.{HasRisen}
use Rattle.sd_io.specs.Shelf.{IsToldLonger}
use Rattle.sd_graph.specs.PlainTree.{GraphTree}
use Rattle.sd_graph.specs.Unfold.{run_of}
use Rattle.sd_race.specs.race.Pairs.{IsGraphAccepted}
use Rattle.sd_chain.specs.Chain.{chain_reading}
use Rattle.sd_chain.specs.Picks.{picks_reading}
use Rattle.sd_chain.specs.declared.step.Step as chains
use Rattle.sd_steps.specs.Chained.{chained}
use Rattle.sd_words.specs.Command.{Command, to_run, to_step, to_print, to_check, to_plan, to_match, RunsWith, MakesRaceCheck, Call}
use Rattle.sd_tool.specs.Work.{Work}
use Rattle.sd_tool.specs.Answer.{Answer, ran, listed, checked, planned, matched, raced, bad_words, source_refused, arrays_refused, chain_refused, condition_fails, picks_refused, read_fault, too_long}
use Rattle.sd_tool.specs.Files.{ShelfUse, Unread, faulty, longer, picks_file, UnreadNamed}
use Rattle.sd_tool.specs.Steering.{steered, steered_by, rewritten_with, Unsteered, no_chain, no_picks, no_steering}
use Rattle.sd_tool.specs.Answers.{Comes, Reaches, Answers, no_command, no_source, no_program, no_arrays, no_work, unsteered, answered, TellsRace, Tells}
use Rattle.sd_tool.specs.Statuses.{NamesNothing, HasNoProgram, HasNoWork, IsRefused, TellsSteps, Runs, AsksOf, HasRace, NamesFile, names_source, names_arrays, names_chain, names_picks, IsFile}
use Rattle.sd_tool.proofs.Reading.{same_Err, Ok_or_Err}

-- the cause of each answer
abbrev pub Cause : List (List ℕ) → ShelfUse → Answer → Type 0
Cause words shelf (ran steps tree turns outcome) = (work : Work) × Runs words shelf work turns steps outcome × (tree ≡ work.tree)
Cause words shelf (listed tree) = AsksOf words shelf tree to_print
Cause words shelf (checked tree) = AsksOf words shelf tree to_check × IsGraphAccepted tree
Cause words shelf (planned tree) = AsksOf words shelf tree to_plan × IsGraphAccepted tree
Cause words shelf (matched tree) = AsksOf words shelf tree to_match
Cause words shelf (raced tree race) = HasRace words shelf tree race
Cause words shelf bad_words = NamesNothing words
Cause words shelf (source_refused refusal) = HasNoProgram words shelf refusal
Cause words shelf (arrays_refused refusal) = HasNoWork words shelf refusal
Cause words shelf (chain_refused line) = IsRefused words shelf (chain_refused line)
Cause words shelf (condition_fails line condition) = IsRefused words shelf (condition_fails line condition)
Cause words shelf (picks_refused word) = IsRefused words shelf (picks_refused word)
Cause words shelf (read_fault name) = (limit : ℕ) × IsFile words name limit × HasRisen (shelf.faults_before name) (shelf.faults_after name)
Cause words shelf (too_long name) = (limit : ℕ) × IsFile words name limit × IsToldLonger (shelf.told name) limit × HasRisen (shelf.overruns_before name) (shelf.overruns_after name)

-- ---- files

unread : (words : List (List ℕ)) (shelf : ShelfUse) (name : List ℕ) (limit : ℕ) {answer : Answer} → IsFile words name limit → Unread shelf name limit answer → Cause words shelf answer
unread words shelf name limit file (faulty rose) = (limit, file, rose)
unread words shelf name limit file (longer long rose) = (limit, file, long, rose)

-- the file of a command is that of a step
named_by : (command : Command) (name : List ℕ) → picks_file command ≡ Some name → (call : Call) → call.command ≡ command → NamesFile call name (2 ^ 24)
named_by (to_step step) name is call asks = subst (λ n. NamesFile call n (2 ^ 24)) (same_name step.picks name is) (names_picks step asks) where
  same_name : (a b : List ℕ) → Some a ≡ Some b → a ≡ b
  same_name a b is = cc
named_by (to_run run) name is call asks = cc
named_by to_print name is call asks = cc
named_by to_check name is call asks = cc
named_by to_plan name is call asks = cc
named_by to_match name is call asks = cc

unread_named : (words : List (List ℕ)) (shelf : ShelfUse) (found : Option (List ℕ)) (limit : ℕ) (answer : Answer) → ((name : List ℕ) → found ≡ Some name → IsFile words name limit) → UnreadNamed shelf found limit answer → Cause words shelf answer
unread_named words shelf None limit answer file why = absurd why
unread_named words shelf (Some name) limit answer file why = unread words shelf name limit (file name refl) why

-- ---- what is refused of a chain and picks

-- it is a line, a condition or a word
is_cause : (words : List (List ℕ)) (shelf : ShelfUse) (tree : GraphTree) (chain picks : List ℕ) (answer : Answer) → steered tree chain picks ≡ Err answer → IsRefused words shelf answer → Cause words shelf answer
is_cause words shelf tree chain picks answer is refused = by_readings (chain_reading chain) (picks_reading picks) is where
  made_by : (found : List ℕ) (made : Result GraphTree (ℕ × ℕ)) → rewritten_with made found ≡ Err answer → Cause words shelf answer
  made_by found (Ok new) is = absurd (Ok_or_Err (rewritten_with (Ok new) found) _ answer refl is)
  made_by found (Err failing) is =
      let same = same_Err (rewritten_with (Err failing) found) answer (condition_fails failing.0 failing.1) is refl in
      subst (Cause words shelf) (sym same) (subst (IsRefused words shelf) same refused)

  by_readings : (form : Result (List (ℕ × chains.Step)) ℕ) (also : Result (List ℕ) ℕ) → steered_by tree form also ≡ Err answer → Cause words shelf answer
  by_readings (Ok steps) (Ok found) is = made_by found (chained tree steps) is
  by_readings (Ok steps) (Err word) is =
      let same = same_Err (steered_by tree (Ok steps) (Err word)) answer (picks_refused word) is refl in
      subst (Cause words shelf) (sym same) (subst (IsRefused words shelf) same refused)
  by_readings (Err line) also is =
      let same = same_Err (steered_by tree (Err line) also) answer (chain_refused line) is refl in
      subst (Cause words shelf) (sym same) (subst (IsRefused words shelf) same refused)

not_steered : (words : List (List ℕ)) (shelf : ShelfUse) (call : Call) (work : Work) (answer : Answer) → Comes words shelf call work → Unsteered shelf call work.tree answer → Cause words shelf answer
not_steered words shelf call work answer comes (no_chain why) = unread_named words shelf call.chain (2 ^ 16) answer (λ name is. (call, comes.source.asked, names_chain name is)) why
not_steered words shelf call work answer comes (no_picks chain read why) =
    unread_named words shelf (picks_file call.command) (2 ^ 24) answer (λ name is. (call, comes.source.asked, named_by call.command name is call refl)) why
not_steered words shelf call work answer comes (no_steering chain picks reads is) =
    is_cause words shelf work.tree chain picks answer is (record { call = call; work = work; chain = chain; picks = picks; comes = comes; reads = reads; is = is })

-- ---- what a command answers

module _ (words : List (List ℕ)) (shelf : ShelfUse) (call : Call) (work : Work) (other : GraphTree) (picks : List ℕ) (answer : Answer) (reaches : Reaches words shelf call work other picks) where
  raced_so : MakesRaceCheck call.command → TellsRace other answer → Cause words shelf answer
  raced_so checks tells = subst (Cause words shelf) (sym tells.is) (record { call = call; work = work; picks = picks; reaches = reaches; checks = checks; is_race = tells.is_race })

  asks_of : (command : Command) → call.command ≡ command → AsksOf words shelf other command
  asks_of command asks = record { call = call; work = work; picks = picks; reaches = reaches; asks = asks }

  told : (command : Command) → call.command ≡ command → Tells work other picks command answer → Cause words shelf answer
  told (to_run run) asks (inl tells) =
      subst (Cause words shelf) (sym tells.1.is) (
        work,
        record {
          call = call;
          other = other;
          picks = picks;
          reaches = reaches;
          asks = subst (λ c. RunsWith c run.turns) (sym asks) refl;
          told = subst (λ c. TellsSteps (run_of other work.memory) picks c []) (sym asks) refl;
          accepted = tells.0;
          ends = tells.1.ends;
        },
        refl,
      )
  told (to_run run) asks (inr tells) = raced_so (subst MakesRaceCheck (sym asks) tt) tells
  told (to_step step) asks (inl tells) =
      subst (Cause words shelf) (sym tells.1.told.is) (
        work,
        record {
          call = call;
          other = other;
          picks = picks;
          reaches = reaches;
          asks = subst (λ c. RunsWith c step.turns) (sym asks) refl;
          told = subst (λ c. TellsSteps (run_of other work.memory) picks c tells.1.steps) (sym asks) (tells.1.picked, tells.1.run);
          accepted = tells.0;
          ends = tells.1.told.ends;
        },
        refl,
      )
  told (to_step step) asks (inr tells) = raced_so (subst MakesRaceCheck (sym asks) tt) tells
  told to_print asks tells = subst (Cause words shelf) (sym tells) (asks_of to_print asks)
  told to_check asks (inl tells) = subst (Cause words shelf) (sym tells.1) (asks_of to_check asks, tells.0)
  told to_check asks (inr tells) = raced_so (subst MakesRaceCheck (sym asks) tt) tells
  told to_plan asks (inl tells) = subst (Cause words shelf) (sym tells.1) (asks_of to_plan asks, tells.0)
  told to_plan asks (inr tells) = raced_so (subst MakesRaceCheck (sym asks) tt) tells
  told to_match asks tells = subst (Cause words shelf) (sym tells) (asks_of to_match asks)

pub cause : (words : List (List ℕ)) (shelf : ShelfUse) {answer : Answer} → Answers words shelf answer → Cause words shelf answer
cause words shelf (no_command none) = none
cause words shelf (no_source call asked why) = unread words shelf call.source (2 ^ 20) (call, asked, names_source) why
cause words shelf (no_program call source refusal asked reads is) = record { call = call; source = source; asked = asked; reads = reads; is = is }
cause words shelf (no_arrays call tree source why) = unread words shelf call.arrays (2 ^ 26) (call, source.asked, names_arrays) why
cause words shelf (no_work call tree arrays refusal source reads is) = record { call = call; tree = tree; arrays = arrays; source = source; reads = reads; is = is }
cause words shelf (unsteered {answer} call work comes why) = not_steered words shelf call work answer comes why
cause words shelf (answered {answer} call work other picks reaches tells) = told words shelf call work other picks answer reaches call.command refl tells
