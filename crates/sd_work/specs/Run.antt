-- Runs by picks, their traces, and the sequential run.
use Rattle.std.specs.Prelude.{◌≡◌, ℕ, zero, suc, ◌%◌, List, [], ◌∷◌, length, drop, map, Option, Some, None, slice_index_or}
use Rattle.sd_work.specs.Memory.{Memory}
use Rattle.sd_work.specs.Residual.{Term, leaf, list, owning, nested, ended, pool}
use Rattle.sd_work.specs.Moves.{Path}
use Rattle.sd_work.specs.Step.{Machine, Outcome, Done, Faulted, Spent, opening, next_moves, step}

-- what a run that is done leaves
pub record Left : Type 0 where
  pub memory : Memory
  pub turns : ℕ

-- the memory of a run of a graph; any other term has none
abbrev pub memory_of : {P : Type 0} → Term P → Memory
memory_of (nested body exits own state values part) = own
memory_of (ended own) = own
memory_of (leaf place work) = []
memory_of (list kind before parts) = []
memory_of (owning own part) = []
memory_of (pool level container body active closed) = []

-- the next pick, or 0 once they are used up
abbrev pub next_pick : List ℕ → ℕ
next_pick picks = slice_index_or picks 0 0

-- the number of the move that a pick chooses among so many
abbrev pub chosen_number : (picks : List ℕ) → (moves : List Path) → ℕ
chosen_number picks moves = next_pick picks % length moves

-- the place of the move that a pick chooses among these
abbrev pub chosen : (picks : List ℕ) → (first : Path) → (others : List Path) → Path
chosen picks first others = slice_index_or (first ∷ others) (chosen_number picks (first ∷ others)) first

-- on from the end of a step
abbrev pub go_on : {P : Type 0} → Outcome P (Machine P) → (Machine P → Option (Outcome P Left)) → Option (Outcome P Left)
go_on (Done machine) run = run machine
go_on (Faulted fault) run = Some (Faulted fault)
go_on Spent run = Some Spent

-- on from a machine with these next moves: the run is done where there is none, and else the picked one is made
abbrev pub run_by : {P : Type 0} → (moves : List Path) → (picks : List ℕ) → Machine P → (Machine P → Option (Outcome P Left)) → Option (Outcome P Left)
run_by [] picks machine run = Some (Done (record { memory = memory_of machine.term; turns = machine.turns }))
run_by (first ∷ others) picks machine run = go_on (step (chosen picks first others) machine) run

-- the outcome of a run by picks, where it comes within so many looks at the next moves
abbrev pub run : {P : Type 0} → ℕ → (picks : List ℕ) → Machine P → Option (Outcome P Left)
run zero picks machine = None
run (suc looks) picks machine = run_by (next_moves machine) picks machine (run looks (drop 1 picks))

-- a term with so many turns has this outcome by these picks
abbrev pub Run : {P : Type 0} → Term P → (turns : ℕ) → (picks : List ℕ) → Outcome P Left → Type 0
Run term turns picks outcome = (looks : ℕ) × (run looks picks (opening term turns) ≡ Some outcome)

-- without picks: always the leftmost move, so one item and one element at a time
abbrev pub Sequential : {P : Type 0} → Term P → (turns : ℕ) → Outcome P Left → Type 0
Sequential term turns outcome = Run term turns [] outcome

-- a choice that a run makes: at this machine, the move of this number, which is at this place
pub record Choice (P : Type 0) : Type 0 where
  pub machine : Machine P
  pub number : ℕ
  pub place : Path

-- the choices after a step
abbrev pub choices_on : {P : Type 0} → Outcome P (Machine P) → (Machine P → List (Choice P)) → List (Choice P)
choices_on (Done machine) rest = rest machine
choices_on (Faulted fault) rest = []
choices_on Spent rest = []

-- the choice of the picked move, and the choices after it
abbrev pub choices_by : {P : Type 0} → (moves : List Path) → (picks : List ℕ) → Machine P → (Machine P → List (Choice P)) → List (Choice P)
choices_by [] picks machine rest = []
choices_by (first ∷ others) picks machine rest =
    record { machine = machine; number = chosen_number picks (first ∷ others); place = chosen picks first others }
    ∷ choices_on (step (chosen picks first others) machine) rest

-- the first so many choices of a run by picks; one whose step ends in a fault or without turns included
abbrev pub choices : {P : Type 0} → ℕ → (picks : List ℕ) → Machine P → List (Choice P)
choices zero picks machine = []
choices (suc steps) picks machine = choices_by (next_moves machine) picks machine (choices steps (drop 1 picks))

-- for each of the first so many steps the chosen move's number and the number of moves
abbrev pub traced : {P : Type 0} → ℕ → (picks : List ℕ) → Machine P → List (ℕ × ℕ)
traced steps picks machine = map (λ choice. (choice.number, length (next_moves choice.machine))) (choices steps picks machine)
