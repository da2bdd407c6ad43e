-- What the end of work says of what it comes to.
use Rattle.std.specs.Prelude.{◌≡◌, ⊤, ℕ, ◌≤◌, length, Some, None}
use Rattle.sd_work.specs.Move.{fault_at}
use Rattle.sd_work.specs.Step.{Outcome, Done, Faulted, Spent}
use Rattle.sd_work.specs.BigStep.{Reached, Coming}
use Rattle.sd_graph.specs.declared.place.Place.{Place}
use Rattle.sd_mem.specs.declared.machine.end.End.{End}
use Rattle.sd_mem.specs.declared.machine.end.End.TheVariants.{Finished, Fault, OutOfTurns}

-- the outcome that an end stands for
abbrev pub outcome_of : End → Reached → Outcome Place Reached
outcome_of Finished now = Done now
outcome_of (Fault place kind) now = Faulted (fault_at place kind)
outcome_of OutOfTurns now = Spent

-- where work comes to an end within a bound, it is this one
abbrev pub ComesTo : Coming Place → Outcome Place Reached → Type 0
ComesTo None outcome = ⊤
ComesTo (Some came) outcome = came ≡ outcome

-- work that comes to this from here, whatever the bound, with the memories that it had and no more turns
pub record IsEnd (coming : (most : ℕ) → Coming Place) (before : Reached) (end : End) (after : Reached) : Type 0 where
  pub comes : (most : ℕ) → ComesTo (coming most) (outcome_of end after)
  pub depth : length after.memories ≡ length before.memories
  pub turns : after.turns ≤ before.turns
