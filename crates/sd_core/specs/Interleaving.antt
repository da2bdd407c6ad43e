-- What a run of an accepted graph comes to, whatever its picks are.
use Rattle.std.specs.Prelude.{◌≡◌, ℕ}
use Rattle.sd_work.specs.Residual.{Term}
use Rattle.sd_work.specs.Step.{Outcome, Done}
use Rattle.sd_work.specs.Run.{Left, Sequential}
use Rattle.sd_confluence.specs.Alike.{LeaveAlike}

-- a run of this term is done exactly where the sequential run is, and both leave the same but for the order of values in streams
pub record EndsAsSequential {P : Type 0} (term : Term P) (turns : ℕ) (outcome : Outcome P Left) : Type 0 where
  pub sequential : (left : Left) → outcome ≡ Done left → (end : Left) × Sequential term turns (Done end) × LeaveAlike left end
  pub picked : (end : Left) → Sequential term turns (Done end) → (left : Left) × (outcome ≡ Done left) × LeaveAlike end left
