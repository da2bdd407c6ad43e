-- What a status says of the answer that was written.
use Rattle.std.proofs.Common.{◌≡◌, ℕ, List, sym, subst, arith}
use Rattle.sd_io.specs.Count.{HasRisen}
use Rattle.sd_io.specs.Shelf.{IsToldLonger}
use Rattle.sd_work.specs.Move.{Fault}
use Rattle.sd_work.specs.Step.{Done, Faulted, Spent}
use Rattle.sd_graph.specs.PlainTree.{GraphTree}
use Rattle.sd_graph.specs.declared.place.Place.{Place}
use Rattle.sd_race.specs.race.Race.{Race}
use Rattle.sd_context.specs.declared.blocks.refusal.Refusal.{Refusal}
use Rattle.sd_tool.specs.declared.ending.ArraysRefusal.{ArraysRefusal}
use Rattle.sd_tool.specs.Work.{Work}
use Rattle.sd_tool.specs.Answer.{Answer, ran, listed, checked, planned, matched, raced, bad_words, source_refused, arrays_refused, chain_refused, condition_fails, picks_refused, read_fault, too_long, status_of, text_of}
use Rattle.sd_tool.specs.Files.{ShelfUse}
use Rattle.sd_tool.specs.Answers.{Answers}
use Rattle.sd_tool.specs.Ends.{SinkUse, Writes}
use Rattle.sd_tool.specs.Statuses.{NamesNothing, HasNoProgram, HasNoWork, IsRefused, Runs, HasRace, IsFile, IsDone, runs, lists, accepts, plans, matches}
use Rattle.sd_tool.proofs.StatusRows.{Cause}

-- what a status says of its answer
abbrev pub Told : List (List ℕ) → ShelfUse → SinkUse → ℕ → Answer → Type 0
Told words shelf sink status answer = (status ≡ status_of answer) × Answers words shelf answer × Cause words shelf answer × Writes sink (text_of answer)

module _ (words : List (List ℕ)) (shelf : ShelfUse) (sink : SinkUse) where
  pub zero_at : (answer : Answer) → Told words shelf sink 0 answer → (answer : Answer) × IsDone words shelf answer × Writes sink (text_of answer)
  zero_at (ran steps tree turns (Done left)) t = (ran steps tree turns (Done left), subst (λ g. IsDone words shelf (ran steps g turns (Done left))) (sym t.2.2) (runs t.2.0 turns steps left t.2.1), t.3)
  zero_at (ran steps tree turns (Faulted fault)) t = absurd (let e = t.0 in omega arith)
  zero_at (ran steps tree turns Spent) t = absurd (let e = t.0 in omega arith)
  zero_at (listed tree) t = (listed tree, lists tree t.2, t.3)
  zero_at (checked tree) t = (checked tree, accepts tree t.2.0 t.2.1, t.3)
  zero_at (planned tree) t = (planned tree, plans tree t.2.0 t.2.1, t.3)
  zero_at (matched tree) t = (matched tree, matches tree t.2, t.3)
  zero_at (raced tree race) t = absurd (let e = t.0 in omega arith)
  zero_at bad_words t = absurd (let e = t.0 in omega arith)
  zero_at (source_refused refusal) t = absurd (let e = t.0 in omega arith)
  zero_at (arrays_refused refusal) t = absurd (let e = t.0 in omega arith)
  zero_at (chain_refused line) t = absurd (let e = t.0 in omega arith)
  zero_at (condition_fails line condition) t = absurd (let e = t.0 in omega arith)
  zero_at (picks_refused word) t = absurd (let e = t.0 in omega arith)
  zero_at (read_fault name) t = absurd (let e = t.0 in omega arith)
  zero_at (too_long name) t = absurd (let e = t.0 in omega arith)

  pub seven_at : (answer : Answer) → Told words shelf sink 7 answer → (work : Work) × (turns : ℕ) × (steps : List (ℕ × ℕ)) × (fault : Fault Place) × Runs words shelf work turns steps (Faulted fault) × Writes sink (text_of (ran steps work.tree turns (Faulted fault)))
  seven_at (ran steps tree turns (Done left)) t = absurd (let e = t.0 in omega arith)
  seven_at (ran steps tree turns (Faulted fault)) t = (t.2.0, turns, steps, fault, t.2.1, subst (λ g. Writes sink (text_of (ran steps g turns (Faulted fault)))) t.2.2 t.3)
  seven_at (ran steps tree turns Spent) t = absurd (let e = t.0 in omega arith)
  seven_at (listed tree) t = absurd (let e = t.0 in omega arith)
  seven_at (checked tree) t = absurd (let e = t.0 in omega arith)
  seven_at (planned tree) t = absurd (let e = t.0 in omega arith)
  seven_at (matched tree) t = absurd (let e = t.0 in omega arith)
  seven_at (raced tree race) t = absurd (let e = t.0 in omega arith)
  seven_at bad_words t = absurd (let e = t.0 in omega arith)
  seven_at (source_refused refusal) t = absurd (let e = t.0 in omega arith)
  seven_at (arrays_refused refusal) t = absurd (let e = t.0 in omega arith)
  seven_at (chain_refused line) t = absurd (let e = t.0 in omega arith)
  seven_at (condition_fails line condition) t = absurd (let e = t.0 in omega arith)
  seven_at (picks_refused word) t = absurd (let e = t.0 in omega arith)
  seven_at (read_fault name) t = absurd (let e = t.0 in omega arith)
  seven_at (too_long name) t = absurd (let e = t.0 in omega arith)

  pub eight_at : (answer : Answer) → Told words shelf sink 8 answer → (work : Work) × (turns : ℕ) × (steps : List (ℕ × ℕ)) × Runs words shelf work turns steps Spent × Writes sink (text_of (ran steps work.tree turns Spent))
  eight_at (ran steps tree turns (Done left)) t = absurd (let e = t.0 in omega arith)
  eight_at (ran steps tree turns (Faulted fault)) t = absurd (let e = t.0 in omega arith)
  eight_at (ran steps tree turns Spent) t = (t.2.0, turns, steps, t.2.1, subst (λ g. Writes sink (text_of (ran steps g turns Spent))) t.2.2 t.3)
  eight_at (listed tree) t = absurd (let e = t.0 in omega arith)
  eight_at (checked tree) t = absurd (let e = t.0 in omega arith)
  eight_at (planned tree) t = absurd (let e = t.0 in omega arith)
  eight_at (matched tree) t = absurd (let e = t.0 in omega arith)
  eight_at (raced tree race) t = absurd (let e = t.0 in omega arith)
  eight_at bad_words t = absurd (let e = t.0 in omega arith)
  eight_at (source_refused refusal) t = absurd (let e = t.0 in omega arith)
  eight_at (arrays_refused refusal) t = absurd (let e = t.0 in omega arith)
  eight_at (chain_refused line) t = absurd (let e = t.0 in omega arith)
  eight_at (condition_fails line condition) t = absurd (let e = t.0 in omega arith)
  eight_at (picks_refused word) t = absurd (let e = t.0 in omega arith)
  eight_at (read_fault name) t = absurd (let e = t.0 in omega arith)
  eight_at (too_long name) t = absurd (let e = t.0 in omega arith)

  pub six_at : (answer : Answer) → Told words shelf sink 6 answer → (other : GraphTree) × (race : Race) × HasRace words shelf other race × Writes sink (text_of (raced other race))
  six_at (ran steps tree turns (Done left)) t = absurd (let e = t.0 in omega arith)
  six_at (ran steps tree turns (Faulted fault)) t = absurd (let e = t.0 in omega arith)
  six_at (ran steps tree turns Spent) t = absurd (let e = t.0 in omega arith)
  six_at (listed tree) t = absurd (let e = t.0 in omega arith)
  six_at (checked tree) t = absurd (let e = t.0 in omega arith)
  six_at (planned tree) t = absurd (let e = t.0 in omega arith)
  six_at (matched tree) t = absurd (let e = t.0 in omega arith)
  six_at (raced tree race) t = (tree, race, t.2, t.3)
  six_at bad_words t = absurd (let e = t.0 in omega arith)
  six_at (source_refused refusal) t = absurd (let e = t.0 in omega arith)
  six_at (arrays_refused refusal) t = absurd (let e = t.0 in omega arith)
  six_at (chain_refused line) t = absurd (let e = t.0 in omega arith)
  six_at (condition_fails line condition) t = absurd (let e = t.0 in omega arith)
  six_at (picks_refused word) t = absurd (let e = t.0 in omega arith)
  six_at (read_fault name) t = absurd (let e = t.0 in omega arith)
  six_at (too_long name) t = absurd (let e = t.0 in omega arith)

  pub two_at : (answer : Answer) → Told words shelf sink 2 answer → NamesNothing words × Writes sink (text_of bad_words)
  two_at (ran steps tree turns (Done left)) t = absurd (let e = t.0 in omega arith)
  two_at (ran steps tree turns (Faulted fault)) t = absurd (let e = t.0 in omega arith)
  two_at (ran steps tree turns Spent) t = absurd (let e = t.0 in omega arith)
  two_at (listed tree) t = absurd (let e = t.0 in omega arith)
  two_at (checked tree) t = absurd (let e = t.0 in omega arith)
  two_at (planned tree) t = absurd (let e = t.0 in omega arith)
  two_at (matched tree) t = absurd (let e = t.0 in omega arith)
  two_at (raced tree race) t = absurd (let e = t.0 in omega arith)
  two_at bad_words t = (t.2, t.3)
  two_at (source_refused refusal) t = absurd (let e = t.0 in omega arith)
  two_at (arrays_refused refusal) t = absurd (let e = t.0 in omega arith)
  two_at (chain_refused line) t = absurd (let e = t.0 in omega arith)
  two_at (condition_fails line condition) t = absurd (let e = t.0 in omega arith)
  two_at (picks_refused word) t = absurd (let e = t.0 in omega arith)
  two_at (read_fault name) t = absurd (let e = t.0 in omega arith)
  two_at (too_long name) t = absurd (let e = t.0 in omega arith)

  pub three_at : (answer : Answer) → Told words shelf sink 3 answer → (refusal : Refusal) × HasNoProgram words shelf refusal × Writes sink (text_of (source_refused refusal))
  three_at (ran steps tree turns (Done left)) t = absurd (let e = t.0 in omega arith)
  three_at (ran steps tree turns (Faulted fault)) t = absurd (let e = t.0 in omega arith)
  three_at (ran steps tree turns Spent) t = absurd (let e = t.0 in omega arith)
  three_at (listed tree) t = absurd (let e = t.0 in omega arith)
  three_at (checked tree) t = absurd (let e = t.0 in omega arith)
  three_at (planned tree) t = absurd (let e = t.0 in omega arith)
  three_at (matched tree) t = absurd (let e = t.0 in omega arith)
  three_at (raced tree race) t = absurd (let e = t.0 in omega arith)
  three_at bad_words t = absurd (let e = t.0 in omega arith)
  three_at (source_refused refusal) t = (refusal, t.2, t.3)
  three_at (arrays_refused refusal) t = absurd (let e = t.0 in omega arith)
  three_at (chain_refused line) t = absurd (let e = t.0 in omega arith)
  three_at (condition_fails line condition) t = absurd (let e = t.0 in omega arith)
  three_at (picks_refused word) t = absurd (let e = t.0 in omega arith)
  three_at (read_fault name) t = absurd (let e = t.0 in omega arith)
  three_at (too_long name) t = absurd (let e = t.0 in omega arith)

  pub four_at : (answer : Answer) → Told words shelf sink 4 answer → (refusal : ArraysRefusal) × HasNoWork words shelf refusal × Writes sink (text_of (arrays_refused refusal))
  four_at (ran steps tree turns (Done left)) t = absurd (let e = t.0 in omega arith)
  four_at (ran steps tree turns (Faulted fault)) t = absurd (let e = t.0 in omega arith)
  four_at (ran steps tree turns Spent) t = absurd (let e = t.0 in omega arith)
  four_at (listed tree) t = absurd (let e = t.0 in omega arith)
  four_at (checked tree) t = absurd (let e = t.0 in omega arith)
  four_at (planned tree) t = absurd (let e = t.0 in omega arith)
  four_at (matched tree) t = absurd (let e = t.0 in omega arith)
  four_at (raced tree race) t = absurd (let e = t.0 in omega arith)
  four_at bad_words t = absurd (let e = t.0 in omega arith)
  four_at (source_refused refusal) t = absurd (let e = t.0 in omega arith)
  four_at (arrays_refused refusal) t = (refusal, t.2, t.3)
  four_at (chain_refused line) t = absurd (let e = t.0 in omega arith)
  four_at (condition_fails line condition) t = absurd (let e = t.0 in omega arith)
  four_at (picks_refused word) t = absurd (let e = t.0 in omega arith)
  four_at (read_fault name) t = absurd (let e = t.0 in omega arith)
  four_at (too_long name) t = absurd (let e = t.0 in omega arith)

  pub five_at : (answer : Answer) → Told words shelf sink 5 answer → (answer : Answer) × IsRefused words shelf answer × Writes sink (text_of answer)
  five_at (ran steps tree turns (Done left)) t = absurd (let e = t.0 in omega arith)
  five_at (ran steps tree turns (Faulted fault)) t = absurd (let e = t.0 in omega arith)
  five_at (ran steps tree turns Spent) t = absurd (let e = t.0 in omega arith)
  five_at (listed tree) t = absurd (let e = t.0 in omega arith)
  five_at (checked tree) t = absurd (let e = t.0 in omega arith)
  five_at (planned tree) t = absurd (let e = t.0 in omega arith)
  five_at (matched tree) t = absurd (let e = t.0 in omega arith)
  five_at (raced tree race) t = absurd (let e = t.0 in omega arith)
  five_at bad_words t = absurd (let e = t.0 in omega arith)
  five_at (source_refused refusal) t = absurd (let e = t.0 in omega arith)
  five_at (arrays_refused refusal) t = absurd (let e = t.0 in omega arith)
  five_at (chain_refused line) t = (chain_refused line, t.2, t.3)
  five_at (condition_fails line condition) t = (condition_fails line condition, t.2, t.3)
  five_at (picks_refused word) t = (picks_refused word, t.2, t.3)
  five_at (read_fault name) t = absurd (let e = t.0 in omega arith)
  five_at (too_long name) t = absurd (let e = t.0 in omega arith)

  pub nine_at : (answer : Answer) → Told words shelf sink 9 answer → (name : List ℕ) × (limit : ℕ) × IsFile words name limit × HasRisen (shelf.faults_before name) (shelf.faults_after name) × Writes sink (text_of (read_fault name))
  nine_at (ran steps tree turns (Done left)) t = absurd (let e = t.0 in omega arith)
  nine_at (ran steps tree turns (Faulted fault)) t = absurd (let e = t.0 in omega arith)
  nine_at (ran steps tree turns Spent) t = absurd (let e = t.0 in omega arith)
  nine_at (listed tree) t = absurd (let e = t.0 in omega arith)
  nine_at (checked tree) t = absurd (let e = t.0 in omega arith)
  nine_at (planned tree) t = absurd (let e = t.0 in omega arith)
  nine_at (matched tree) t = absurd (let e = t.0 in omega arith)
  nine_at (raced tree race) t = absurd (let e = t.0 in omega arith)
  nine_at bad_words t = absurd (let e = t.0 in omega arith)
  nine_at (source_refused refusal) t = absurd (let e = t.0 in omega arith)
  nine_at (arrays_refused refusal) t = absurd (let e = t.0 in omega arith)
  nine_at (chain_refused line) t = absurd (let e = t.0 in omega arith)
  nine_at (condition_fails line condition) t = absurd (let e = t.0 in omega arith)
  nine_at (picks_refused word) t = absurd (let e = t.0 in omega arith)
  nine_at (read_fault name) t = (name, t.2.0, t.2.1, t.2.2, t.3)
  nine_at (too_long name) t = absurd (let e = t.0 in omega arith)

  pub eleven_at : (answer : Answer) → Told words shelf sink 11 answer → (name : List ℕ) × (limit : ℕ) × IsFile words name limit × IsToldLonger (shelf.told name) limit × HasRisen (shelf.overruns_before name) (shelf.overruns_after name) × Writes sink (text_of (too_long name))
  eleven_at (ran steps tree turns (Done left)) t = absurd (let e = t.0 in omega arith)
  eleven_at (ran steps tree turns (Faulted fault)) t = absurd (let e = t.0 in omega arith)
  eleven_at (ran steps tree turns Spent) t = absurd (let e = t.0 in omega arith)
  eleven_at (listed tree) t = absurd (let e = t.0 in omega arith)
  eleven_at (checked tree) t = absurd (let e = t.0 in omega arith)
  eleven_at (planned tree) t = absurd (let e = t.0 in omega arith)
  eleven_at (matched tree) t = absurd (let e = t.0 in omega arith)
  eleven_at (raced tree race) t = absurd (let e = t.0 in omega arith)
  eleven_at bad_words t = absurd (let e = t.0 in omega arith)
  eleven_at (source_refused refusal) t = absurd (let e = t.0 in omega arith)
  eleven_at (arrays_refused refusal) t = absurd (let e = t.0 in omega arith)
  eleven_at (chain_refused line) t = absurd (let e = t.0 in omega arith)
  eleven_at (condition_fails line condition) t = absurd (let e = t.0 in omega arith)
  eleven_at (picks_refused word) t = absurd (let e = t.0 in omega arith)
  eleven_at (read_fault name) t = absurd (let e = t.0 in omega arith)
  eleven_at (too_long name) t = (name, t.2.0, t.2.1, t.2.2, t.2.3, t.3)

-- no answer has the status 10
pub ten_at : (answer : Answer) → status_of answer ≡ 10 → ⊥
ten_at (ran steps tree turns (Done left)) e = omega arith
ten_at (ran steps tree turns (Faulted fault)) e = omega arith
ten_at (ran steps tree turns Spent) e = omega arith
ten_at (listed tree) e = omega arith
ten_at (checked tree) e = omega arith
ten_at (planned tree) e = omega arith
ten_at (matched tree) e = omega arith
ten_at (raced tree race) e = omega arith
ten_at bad_words e = omega arith
ten_at (source_refused refusal) e = omega arith
ten_at (arrays_refused refusal) e = omega arith
ten_at (chain_refused line) e = omega arith
ten_at (condition_fails line condition) e = omega arith
ten_at (picks_refused word) e = omega arith
ten_at (read_fault name) e = omega arith
ten_at (too_long name) e = omega arith

-- no answer has the status 1
pub one_at : (answer : Answer) → status_of answer ≡ 1 → ⊥
one_at (ran steps tree turns (Done left)) e = omega arith
one_at (ran steps tree turns (Faulted fault)) e = omega arith
one_at (ran steps tree turns Spent) e = omega arith
one_at (listed tree) e = omega arith
one_at (checked tree) e = omega arith
one_at (planned tree) e = omega arith
one_at (matched tree) e = omega arith
one_at (raced tree race) e = omega arith
one_at bad_words e = omega arith
one_at (source_refused refusal) e = omega arith
one_at (arrays_refused refusal) e = omega arith
one_at (chain_refused line) e = omega arith
one_at (condition_fails line condition) e = omega arith
one_at (picks_refused word) e = omega arith
one_at (read_fault name) e = omega arith
one_at (too_long name) e = omega arith
