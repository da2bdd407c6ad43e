-- How far a run by picks has come.
use Rattle.std.specs.Prelude.{zero, suc, ◌+◌, ◌%◌, ◌<◌, ◌++◌, length, drop, map, slice_index_or, Option, None, Some}
use Rattle.std.proofs.Common.{◌≡◌, ℕ, List, [], ◌∷◌, refl, sym, ap, ap₂, ◌∙◌, subst, arith, append_assoc, append-nil}
use Rattle.std.proofs.lemmas.Nat.{mod_below}
use Rattle.std.proofs.lemmas.List.{map-append}
use Rattle.sd_work.specs.Moves.{Path}
use Rattle.sd_work.specs.Step.{Machine, Outcome, Done, Faulted, Spent, next_moves, step}
use Rattle.sd_work.specs.Run.{Left, memory_of, next_pick, go_on, run_by, run, Choice, choices_on, choices_by, choices, traced}
use Rattle.sd_graph.specs.declared.place.Place.{Place}
use Rattle.sd_seq.specs.declared.run_end.RunEnd.{RunEnd}
use Rattle.sd_seq.specs.RunEnd.{outcome_of}
use Rattle.sd_core.specs.declared.run.Chosen.{Chosen}
use Rattle.sd_core.specs.Released.{IsReleased}
use Rattle.sd_core.specs.Stepped.{place_by, StopsAs, IsStepEnd}
use Rattle.sd_core.proofs.released_lemmas.Runs.{run-released, trace-released}

-- ---- lists

at-default : {A : Type 0} (all : List A) (number : ℕ) (one other : A) → number < length all → slice_index_or all number one ≡ slice_index_or all number other
at-default [] number one other there = absurd (omega (arith, there))
at-default (first ∷ all) zero one other there = refl
at-default (first ∷ all) (suc number) one other there = at-default all number one other (omega (arith, there))

drop-next : {A : Type 0} (all : List A) (count : ℕ) → drop 1 (drop count all) ≡ drop (suc count) all
drop-next [] zero = refl
drop-next [] (suc count) = refl
drop-next (first ∷ all) zero = refl
drop-next (first ∷ all) (suc count) = drop-next all count

pick-next : (picks : List ℕ) (count : ℕ) → next_pick (drop count picks) ≡ slice_index_or picks count 0
pick-next [] zero = refl
pick-next [] (suc count) = refl
pick-next (first ∷ picks) zero = refl
pick-next (first ∷ picks) (suc count) = pick-next picks count

-- ---- one step

abbrev told : Choice Place → ℕ × ℕ
told choice = (choice.number, length (next_moves choice.machine))

abbrev end_at : Machine Place → Outcome Place Left
end_at machine = Done (record { memory = memory_of machine.term; turns = machine.turns })

-- the place that a pick chooses among these moves
abbrev place_among : List Path → (pick : ℕ) → Path
place_among moves pick = slice_index_or moves (pick % length moves) []

run-made : (moves : List Path) (picks : List ℕ) (machine : Machine Place) (rest : Machine Place → Option (Outcome Place Left)) → 0 < length moves
    → run_by moves picks machine rest ≡ go_on (step (place_among moves (next_pick picks)) machine) rest
run-made [] picks machine rest some = absurd (omega (arith, some))
run-made (first ∷ others) picks machine rest some =
    ap (λ (place : Path). go_on (step place machine) rest)
    (at-default (first ∷ others) (next_pick picks % length (first ∷ others)) first [] (mod_below (next_pick picks) (length (first ∷ others)) some))

run-over : (moves : List Path) (picks : List ℕ) (machine : Machine Place) (rest : Machine Place → Option (Outcome Place Left)) → length moves ≡ 0
    → run_by moves picks machine rest ≡ Some (end_at machine)
run-over [] picks machine rest none = refl
run-over (first ∷ others) picks machine rest none = absurd (omega (arith, none))

trace-made : (moves : List Path) (picks : List ℕ) (machine : Machine Place) (rest : Machine Place → List (Choice Place)) → 0 < length moves
    → map told (choices_by moves picks machine rest)
    ≡ (next_pick picks % length moves, length (next_moves machine)) ∷ map told (choices_on (step (place_among moves (next_pick picks)) machine) rest)
trace-made [] picks machine rest some = absurd (omega (arith, some))
trace-made (first ∷ others) picks machine rest some =
    ap (λ (place : Path). (next_pick picks % length (first ∷ others), length (next_moves machine)) ∷ map told (choices_on (step place machine) rest))
    (at-default (first ∷ others) (next_pick picks % length (first ∷ others)) first [] (mod_below (next_pick picks) (length (first ∷ others)) some))

trace-over : (moves : List Path) (picks : List ℕ) (machine : Machine Place) (rest : Machine Place → List (Choice Place)) → length moves ≡ 0
    → map told (choices_by moves picks machine rest) ≡ []
trace-over [] picks machine rest none = refl
trace-over (first ∷ others) picks machine rest none = absurd (omega (arith, none))

run-stops : (outcome : Outcome Place (Machine Place)) (end : RunEnd) (rest : Machine Place → Option (Outcome Place Left)) → StopsAs outcome end → go_on outcome rest ≡ Some (outcome_of end)
run-stops (Done machine) end rest stops = absurd stops
run-stops (Faulted fault) end rest stops = ap some (sym stops)
  where
    some : Outcome Place Left → Option (Outcome Place Left)
    some outcome = Some outcome
run-stops Spent end rest stops = ap some (sym stops)
  where
    some : Outcome Place Left → Option (Outcome Place Left)
    some outcome = Some outcome

trace-stops : (outcome : Outcome Place (Machine Place)) (end : RunEnd) (rest : Machine Place → List (Choice Place)) → StopsAs outcome end → map told (choices_on outcome rest) ≡ []
trace-stops (Done machine) end rest stops = absurd stops
trace-stops (Faulted fault) end rest stops = refl
trace-stops Spent end rest stops = refl

pub goes-on : (outcome : Outcome Place (Machine Place)) (left : Machine Place) (found : Option RunEnd) → ((end : RunEnd) → found ≡ Some end → ⊥) → IsStepEnd outcome left found → outcome ≡ Done left
goes-on outcome left None not_over is = is
goes-on outcome left (Some end) not_over is = absurd (not_over end refl)

abbrev pub pair_of : Chosen → ℕ × ℕ
pair_of chosen = (chosen.number, chosen.moves)

-- a step that is written behind others
pub written : (trace new : List Chosen) (pick moves wanted : ℕ) → new ≡ trace ++ record { number = pick % moves; moves = moves } ∷ [] → moves ≡ wanted
    → map pair_of new ≡ map pair_of trace ++ (pick % wanted, wanted) ∷ []
written trace new pick moves wanted is right =
    ap (map pair_of) is ∙ map-append pair_of trace (record { number = pick % moves; moves = moves } ∷ []) ∙ ap with_steps right
  where
    with_steps : ℕ → List (ℕ × ℕ)
    with_steps n = map pair_of trace ++ (pick % n, n) ∷ []

-- ---- a run that has come to a machine

-- behind so many steps
pub record IsReached (picks : List ℕ) (count : ℕ) (from now : Machine Place) : Type 0 where
  pub runs : (looks : ℕ) → run (count + looks) picks from ≡ run looks (drop count picks) now

-- with this trace
pub record IsTold (picks : List ℕ) (count : ℕ) (from now : Machine Place) (trace : List (ℕ × ℕ)) : Type 0 where
  pub traces : (looks : ℕ) → traced (count + looks) picks from ≡ trace ++ traced looks (drop count picks) now

no-steps : (looks : ℕ) → 0 + looks ≡ looks
no-steps looks = omega arith

pub reached-begin : (picks : List ℕ) (from : Machine Place) → IsReached picks 0 from from
reached-begin picks from = record { runs = λ looks. ap (λ (n : ℕ). run n picks from) (no-steps looks) }

pub told-begin : (picks : List ℕ) (from : Machine Place) → IsTold picks 0 from from []
told-begin picks from = record { traces = λ looks. ap (λ (n : ℕ). traced n picks from) (no-steps looks) }

-- on from a machine in which something was let go
module _ (picks : List ℕ) (count : ℕ) (from now next : Machine Place) (released : IsReleased now.term next.term) (turns : next.turns ≡ now.turns) where
  pub reached-released : IsReached picks count from now → IsReached picks count from next
  reached-released reached = record { runs = λ looks. reached.runs looks ∙ sym (run-released looks (drop count picks) now next released turns) }

  pub told-released : (trace : List (ℕ × ℕ)) → IsTold picks count from now trace → IsTold picks count from next trace
  told-released trace is_told = record { traces = λ looks. is_told.traces looks ∙ ap (λ (rest : List (ℕ × ℕ)). trace ++ rest) (sym (trace-released looks (drop count picks) now next released turns)) }

module _ (picks : List ℕ) (count : ℕ) (from now : Machine Place) where
  pub reached-over : length (next_moves now) ≡ 0 → IsReached picks count from now → run (count + 1) picks from ≡ Some (end_at now)
  reached-over none reached = reached.runs 1 ∙ run-over (next_moves now) (drop count picks) now (run 0 (drop 1 (drop count picks))) none

  pub told-over : (trace : List (ℕ × ℕ)) → length (next_moves now) ≡ 0 → IsTold picks count from now trace → traced (count + 1) picks from ≡ trace
  told-over trace none is_told =
      is_told.traces 1 ∙ ap (λ (rest : List (ℕ × ℕ)). trace ++ rest) (trace-over (next_moves now) (drop count picks) now (choices 0 (drop 1 (drop count picks))) none) ∙ append-nil trace

module _ (picks : List ℕ) (count : ℕ) (from now : Machine Place) (pick : ℕ) (is : pick ≡ slice_index_or picks count 0) (some : 0 < length (next_moves now)) where
  abbrev chosen : ℕ × ℕ
  chosen = (pick % length (next_moves now), length (next_moves now))

  abbrev outcome : Outcome Place (Machine Place)
  outcome = step (place_by pick now) now

  next-is : next_pick (drop count picks) ≡ pick
  next-is = pick-next picks count ∙ sym is

  run-by-number : (looks : ℕ) → run (suc looks) (drop count picks) now ≡ go_on outcome (run looks (drop (suc count) picks))
  run-by-number looks =
      run-made (next_moves now) (drop count picks) now (run looks (drop 1 (drop count picks))) some
      ∙ ap₂ (λ (p : ℕ) (rest : List ℕ). go_on (step (place_among (next_moves now) p) now) (run looks rest)) next-is (drop-next picks count)

  trace-by-number : (looks : ℕ) → traced (suc looks) (drop count picks) now ≡ chosen ∷ map told (choices_on outcome (choices looks (drop (suc count) picks)))
  trace-by-number looks =
      trace-made (next_moves now) (drop count picks) now (choices looks (drop 1 (drop count picks))) some
      ∙ ap₂ (λ (p : ℕ) (rest : List ℕ). (p % length (next_moves now), length (next_moves now)) ∷ map told (choices_on (step (place_among (next_moves now) p) now) (choices looks rest))) next-is (drop-next picks count)

  later : (looks : ℕ) → suc count + looks ≡ count + suc looks
  later looks = omega arith

  one-more : suc count ≡ count + 1
  one-more = omega arith

  -- a step that is made
  module _ (next : Machine Place) (made : outcome ≡ Done next) where
    pub reached-more : IsReached picks count from now → IsReached picks (count + 1) from next
    reached-more reached = subst (λ (n : ℕ). IsReached picks n from next) one-more (record {
      runs = λ looks.
          ap (λ (n : ℕ). run n picks from) (later looks) ∙ reached.runs (suc looks) ∙ run-by-number looks
          ∙ ap (λ (o : Outcome Place (Machine Place)). go_on o (run looks (drop (suc count) picks))) made;
    })

    pub told-more : (trace : List (ℕ × ℕ)) → IsTold picks count from now trace → IsTold picks (count + 1) from next (trace ++ chosen ∷ [])
    told-more trace is_told = subst (λ (n : ℕ). IsTold picks n from next (trace ++ chosen ∷ [])) one-more (record {
      traces = λ looks.
          ap (λ (n : ℕ). traced n picks from) (later looks) ∙ is_told.traces (suc looks)
          ∙ ap (λ (rest : List (ℕ × ℕ)). trace ++ rest) (trace-by-number looks ∙ ap (λ (o : Outcome Place (Machine Place)). chosen ∷ map told (choices_on o (choices looks (drop (suc count) picks)))) made)
          ∙ sym (append_assoc trace (chosen ∷ []) (traced looks (drop (suc count) picks) next));
    })

  -- a step by which the run ends
  module _ (end : RunEnd) (stops : StopsAs outcome end) where
    pub reached-stop : IsReached picks count from now → run (count + 1) picks from ≡ Some (outcome_of end)
    reached-stop reached = reached.runs 1 ∙ run-by-number 0 ∙ run-stops outcome end (run 0 (drop (suc count) picks)) stops

    pub told-stop : (trace : List (ℕ × ℕ)) → IsTold picks count from now trace → traced (count + 1) picks from ≡ trace ++ chosen ∷ []
    told-stop trace is_told =
        is_told.traces 1
        ∙ ap (λ (rest : List (ℕ × ℕ)). trace ++ rest) (trace-by-number 0 ∙ ap (λ (rest : List (ℕ × ℕ)). chosen ∷ rest) (trace-stops outcome end (choices 0 (drop (suc count) picks)) stops))
