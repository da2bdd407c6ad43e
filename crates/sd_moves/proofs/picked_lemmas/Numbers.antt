-- Picked moves, by their numbers.
use Rattle.std.proofs.Common.{◌≡◌, ℕ, suc, ◌%◌, ◌<◌, List, [], ◌∷◌, length, drop, map, Option, refl, sym, ap, ap₂, ◌∙◌, arith, slice_index_or}
use Rattle.std.proofs.lemmas.Nat.{mod_below}
use Rattle.sd_work.specs.Moves.{Path, moves}
use Rattle.sd_work.specs.Step.{Machine, Outcome, Done, Faulted, Spent, next_moves, step}
use Rattle.sd_work.specs.Run.{Left, next_pick, chosen, go_on, run_by, run, Choice, choices_on, choices_by, choices, traced}
use Rattle.sd_moves.specs.numbered.Counts.{count}
use Rattle.sd_moves.specs.numbered.Places.{place_of}
use Rattle.sd_moves.proofs.numbered_lemmas.Counted.{counted}
use Rattle.sd_moves.proofs.numbered_lemmas.Placed.{placed}
use Rattle.sd_moves.specs.picked.Numbered.{picked_place, run_on, trace_behind, trace_on}

-- the place of each number among these moves
abbrev ArePlaced : {P : Type 0} → List Path → Machine P → Type 0
ArePlaced moves machine = (k : ℕ) (d : Path) → k < length moves → slice_index_or moves k d ≡ place_of machine.term [] k

chosen-place : {P : Type 0} (first : Path) (others : List Path) (picks : List ℕ) (machine : Machine P) → ArePlaced (first ∷ others) machine
    → chosen picks first others ≡ picked_place (length (first ∷ others)) picks machine
chosen-place first others picks machine are =
    are (next_pick picks % length (first ∷ others)) first (mod_below (next_pick picks) (length (first ∷ others)) (omega arith))

run-listed : {P : Type 0} (moves : List Path) (picks : List ℕ) (machine : Machine P) (rest : Machine P → Option (Outcome P Left)) → ArePlaced moves machine
    → run_by moves picks machine rest ≡ run_on (length moves) picks machine rest
run-listed [] picks machine rest are = refl
run-listed (first ∷ others) picks machine rest are =
    ap (λ (place : Path). go_on (step place machine) rest) (chosen-place first others picks machine are)

are-placed : {P : Type 0} (machine : Machine P) → ArePlaced (next_moves machine) machine
are-placed machine k d below = placed machine.term [] k d (omega (arith, below, counted machine.term []))

pub run-numbered : {P : Type 0} (looks : ℕ) (picks : List ℕ) (machine : Machine P)
    → run (suc looks) picks machine ≡ run_on (count machine.term []) picks machine (run looks (drop 1 picks))
run-numbered looks picks machine =
    run-listed (next_moves machine) picks machine (run looks (drop 1 picks)) (are-placed machine)
    ∙ ap (λ (n : ℕ). run_on n picks machine (run looks (drop 1 picks))) (counted machine.term [])

abbrev told : {P : Type 0} → Choice P → ℕ × ℕ
told choice = (choice.number, length (next_moves choice.machine))

behind-step : {P : Type 0} (outcome : Outcome P (Machine P)) (rest : Machine P → List (Choice P)) → map told (choices_on outcome rest) ≡ trace_behind outcome (λ machine. map told (rest machine))
behind-step (Done machine) rest = refl
behind-step (Faulted fault) rest = refl
behind-step Spent rest = refl

trace-listed : {P : Type 0} (moves : List Path) (picks : List ℕ) (machine : Machine P) (rest : Machine P → List (Choice P)) → moves ≡ next_moves machine → ArePlaced moves machine
    → map told (choices_by moves picks machine rest) ≡ trace_on (length moves) picks machine (λ machine. map told (rest machine))
trace-listed [] picks machine rest is are = refl
trace-listed (first ∷ others) picks machine rest is are =
    ap₂ (λ (n : ℕ) (trace : List (ℕ × ℕ)). (next_pick picks % length (first ∷ others), n) ∷ trace)
    (ap length (sym is))
    (behind-step (step (chosen picks first others) machine) rest
    ∙ ap (λ (place : Path). trace_behind (step place machine) (λ machine. map told (rest machine))) (chosen-place first others picks machine are))

pub trace-numbered : {P : Type 0} (steps : ℕ) (picks : List ℕ) (machine : Machine P)
    → traced (suc steps) picks machine ≡ trace_on (count machine.term []) picks machine (traced steps (drop 1 picks))
trace-numbered steps picks machine =
    trace-listed (next_moves machine) picks machine (choices steps (drop 1 picks)) refl (are-placed machine)
    ∙ ap (λ (n : ℕ). trace_on n picks machine (traced steps (drop 1 picks))) (counted machine.term [])
