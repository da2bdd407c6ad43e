-- A run has at most one outcome.
use Rattle.std.proofs.Common.{◌≡◌, ℕ, zero, suc, List, [], ◌∷◌, drop, Option, Some}
use Rattle.sd_work.specs.Residual.{Term}
use Rattle.sd_work.specs.Moves.{Path}
use Rattle.sd_work.specs.Step.{Machine, Outcome, Done, Faulted, Spent, opening, next_moves}
use Rattle.sd_work.specs.Run.{Left, go_on, run_by, run, Run}

-- two ways on from one machine never differ in the outcome
abbrev Agree : {P : Type 0} → (f g : Machine P → Option (Outcome P Left)) → Type 0
Agree {P} f g = (machine : Machine P) (a b : Outcome P Left) → f machine ≡ Some a → g machine ≡ Some b → a ≡ b

after_a_step : {P : Type 0} (end : Outcome P (Machine P)) (f g : Machine P → Option (Outcome P Left)) → Agree f g → (a b : Outcome P Left) → go_on end f ≡ Some a → go_on end g ≡ Some b → a ≡ b
after_a_step (Done machine) f g agree a b p q = agree machine a b p q
after_a_step (Faulted fault) f g agree a b p q = cc
after_a_step Spent f g agree a b p q = cc

by_moves : {P : Type 0} (moves : List Path) (picks : List ℕ) (f g : Machine P → Option (Outcome P Left)) → Agree f g → (machine : Machine P) (a b : Outcome P Left) →
    run_by moves picks machine f ≡ Some a → run_by moves picks machine g ≡ Some b → a ≡ b
by_moves [] picks f g agree machine a b p q = cc
by_moves (first ∷ others) picks f g agree machine a b p q = after_a_step _ f g agree a b p q

one_outcome : {P : Type 0} (n k : ℕ) (picks : List ℕ) (machine : Machine P) (a b : Outcome P Left) → run n picks machine ≡ Some a → run k picks machine ≡ Some b → a ≡ b
one_outcome zero k picks machine a b p q = cc
one_outcome (suc n) zero picks machine a b p q = cc
one_outcome (suc n) (suc k) picks machine a b p q =
    by_moves (next_moves machine) picks (run n (drop 1 picks)) (run k (drop 1 picks)) (one_outcome n k (drop 1 picks)) machine a b p q

pub Run-unique : {P : Type 0} (term : Term P) (turns : ℕ) (picks : List ℕ) (a b : Outcome P Left) → Run term turns picks a → Run term turns picks b → a ≡ b
Run-unique term turns picks a b p q = one_outcome p.0 q.0 picks (opening term turns) a b p.1 q.1
