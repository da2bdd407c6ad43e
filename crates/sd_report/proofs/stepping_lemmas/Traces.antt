-- A run by picks has one trace.
use Rattle.std.proofs.Common.{◌≡◌, ℕ, zero, suc, List, [], ◌∷◌, drop, length, map, Bool, Option, Some, refl, ap, sym, ◌∙◌, if◌then◌else◌}
use Rattle.sd_work.specs.Residual.{Term}
use Rattle.sd_work.specs.Moves.{Path}
use Rattle.sd_work.specs.Step.{Machine, Outcome, Done, Faulted, Spent, opening, next_moves, step}
use Rattle.sd_work.specs.Run.{Left, go_on, run_by, run, chosen, chosen_number, Choice, choices_on, choices_by, choices}
use Rattle.sd_core.specs.Traced.{IsTraced}
use Rattle.sd_report.specs.stepping.Step.{IsPicked}

-- two ways on from one machine that come to an end make the same choices
abbrev Agree : {P : Type 0} → (f g : Machine P → Option (Outcome P Left)) → (made others : Machine P → List (Choice P)) → Type 0
Agree {P} f g made others = (machine : Machine P) (a b : Outcome P Left) → f machine ≡ Some a → g machine ≡ Some b → made machine ≡ others machine

after_a_step : {P : Type 0} (end : Outcome P (Machine P)) (f g : Machine P → Option (Outcome P Left)) (made others : Machine P → List (Choice P)) → Agree f g made others → (a b : Outcome P Left) →
    go_on end f ≡ Some a → go_on end g ≡ Some b → choices_on end made ≡ choices_on end others
after_a_step (Done machine) f g made others agree a b p q = agree machine a b p q
after_a_step (Faulted fault) f g made others agree a b p q = refl
after_a_step Spent f g made others agree a b p q = refl

by_moves : {P : Type 0} (moves : List Path) (picks : List ℕ) (f g : Machine P → Option (Outcome P Left)) (made others : Machine P → List (Choice P)) → Agree f g made others → (machine : Machine P) (a b : Outcome P Left) →
    run_by moves picks machine f ≡ Some a → run_by moves picks machine g ≡ Some b → choices_by moves picks machine made ≡ choices_by moves picks machine others
by_moves [] picks f g made others agree machine a b p q = refl
by_moves (first ∷ more) picks f g made others agree machine a b p q =
    ap (λ rest. record { machine = machine; number = chosen_number picks (first ∷ more); place = chosen picks first more } ∷ rest)
    (after_a_step (step (chosen picks first more) machine) f g made others agree a b p q)

same_choices : {P : Type 0} (n k : ℕ) (picks : List ℕ) (machine : Machine P) (a b : Outcome P Left) → run n picks machine ≡ Some a → run k picks machine ≡ Some b → choices n picks machine ≡ choices k picks machine
same_choices zero k picks machine a b p q = cc
same_choices (suc n) zero picks machine a b p q = cc
same_choices (suc n) (suc k) picks machine a b p q =
    by_moves (next_moves machine) picks (run n (drop 1 picks)) (run k (drop 1 picks)) (choices n (drop 1 picks)) (choices k (drop 1 picks)) (same_choices n k (drop 1 picks)) machine a b p q

IsTraced-unique : {P : Type 0} (term : Term P) (turns : ℕ) (picks : List ℕ) (outcome other : Outcome P Left) (a b : List (ℕ × ℕ)) → IsTraced term turns picks outcome a → IsTraced term turns picks other b → a ≡ b
IsTraced-unique term turns picks outcome other a b x y =
    sym x.traces
    ∙ ap (map (λ choice. (choice.number, length (next_moves choice.machine)))) (same_choices x.looks y.looks picks (opening term turns) outcome other x.runs y.runs)
    ∙ y.traces

-- the same steps are told of it
pub IsPicked-unique : {P : Type 0} (term : Term P) (turns : ℕ) (picks : List ℕ) (traces : Bool) (outcome other : Outcome P Left) (a b : List (ℕ × ℕ)) → IsPicked term turns picks traces outcome a → IsPicked term turns picks traces other b → a ≡ b
IsPicked-unique term turns picks traces outcome other a b x y =
    x.kept ∙ ap (λ trace. if traces then trace else []) (IsTraced-unique term turns picks outcome other x.trace y.trace x.traced y.traced) ∙ sym y.kept
