-- Runs by the numbers of their moves.
use Rattle.std.specs.Prelude.{ℕ, zero, suc, ◌%◌, List, [], ◌∷◌, Option, Some}
use Rattle.sd_work.specs.Moves.{Path}
use Rattle.sd_work.specs.Step.{Machine, Outcome, Done, Faulted, Spent, step}
use Rattle.sd_work.specs.Run.{Left, memory_of, next_pick, go_on}
use Rattle.sd_moves.specs.numbered.Places.{place_of}

-- the place of the picked one of so many moves
abbrev pub picked_place : {P : Type 0} → (moves : ℕ) → (picks : List ℕ) → Machine P → Path
picked_place moves picks machine = place_of machine.term [] (next_pick picks % moves)

-- on from a machine with so many next moves: the run is done where there is none, and else the picked one is made
abbrev pub run_on : {P : Type 0} → (moves : ℕ) → (picks : List ℕ) → Machine P → (Machine P → Option (Outcome P Left)) → Option (Outcome P Left)
run_on zero picks machine rest = Some (Done (record { memory = memory_of machine.term; turns = machine.turns }))
run_on (suc moves) picks machine rest = go_on (step (picked_place (suc moves) picks machine) machine) rest

-- the trace behind a step
abbrev pub trace_behind : {P : Type 0} → Outcome P (Machine P) → (Machine P → List (ℕ × ℕ)) → List (ℕ × ℕ)
trace_behind (Done machine) rest = rest machine
trace_behind (Faulted fault) rest = []
trace_behind Spent rest = []

-- the picked number and the number of moves, and then the trace behind the step
abbrev pub trace_on : {P : Type 0} → (moves : ℕ) → (picks : List ℕ) → Machine P → (Machine P → List (ℕ × ℕ)) → List (ℕ × ℕ)
trace_on zero picks machine rest = []
trace_on (suc moves) picks machine rest =
    (next_pick picks % suc moves, suc moves) ∷ trace_behind (step (picked_place (suc moves) picks machine) machine) rest
