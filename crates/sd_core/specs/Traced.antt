-- A run by picks that tells its steps.
use Rattle.std.specs.Prelude.{◌≡◌, ℕ, List, Some}
use Rattle.sd_work.specs.Residual.{Term}
use Rattle.sd_work.specs.Step.{Outcome, opening}
use Rattle.sd_work.specs.Run.{Left, run, traced}

-- a run by picks has this outcome, and its trace is this: the number of the chosen move and how many there were, for each of its steps
pub record IsTraced {P : Type 0} (term : Term P) (turns : ℕ) (picks : List ℕ) (outcome : Outcome P Left) (trace : List (ℕ × ℕ)) : Type 0 where
  pub looks : ℕ
  pub runs : run looks picks (opening term turns) ≡ Some outcome
  pub traces : traced looks picks (opening term turns) ≡ trace
