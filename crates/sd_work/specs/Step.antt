-- A machine and its steps.
use Rattle.std.specs.Prelude.{ℕ, zero, suc, List, [], Bool, true, false}
use Rattle.sd_work.specs.Move.{Fault, Move, fails, goes, no_move}
use Rattle.sd_work.specs.Residual.{Term}
use Rattle.sd_work.specs.Moves.{Path, moves}
use Rattle.sd_work.specs.Fire.{fire}
use Rattle.sd_work.specs.Settle.{settled}

-- a settled term and the turns that are left
pub record Machine (P : Type 0) : Type 0 where
  pub term : Term P
  pub turns : ℕ

-- the end of a step or a run: done with this, a fault, or a turn that is wanted and not there
pub data Outcome (P A : Type 0) : Type 0 where
  Done : A → Outcome P A
  Faulted : Fault P → Outcome P A
  Spent : Outcome P A

-- a machine, settled before its first move
abbrev pub opening : {P : Type 0} → Term P → (turns : ℕ) → Machine P
opening term turns = record { term = settled term; turns = turns }

-- the next moves of a machine
abbrev pub next_moves : {P : Type 0} → Machine P → List Path
next_moves machine = moves machine.term []

-- a turn spent, where one is wanted and left
abbrev pub spend : {A : Type 0} → (spent : A) → (turn : Bool) → (turns : ℕ) → (ℕ → A) → A
spend spent true zero go_on = spent
spend spent true (suc turns) go_on = go_on turns
spend spent false turns go_on = go_on turns

-- the machine after a move: the turn goes first, so a want of turns goes before the move's fault; what is left is settled. No move changes nothing
abbrev pub moved : {P : Type 0} → Machine P → Move P (Term P) → Outcome P (Machine P)
moved machine (fails turn fault) = spend Spent turn machine.turns (λ turns. Faulted fault)
moved machine (goes turn change left) = spend Spent turn machine.turns (λ turns. Done (record { term = settled left; turns = turns }))
moved machine no_move = Done machine

-- the step by the move at this place
abbrev pub step : {P : Type 0} → Path → Machine P → Outcome P (Machine P)
step path machine = moved machine (fire machine.term path [])
