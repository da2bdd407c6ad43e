-- Well-formed machines: what they begin as, what a step keeps, and where they have no move.
use Rattle.std.proofs.Common.{◌≡◌, ℕ, zero, suc, [], Bool, true, false, ◌∙◌, ap, subst}
use Rattle.std.specs.Bool.{⊤}
use Rattle.sd_work.specs.Residual.{Term, finished}
use Rattle.sd_work.specs.Move.{Move, fails, goes, no_move}
use Rattle.sd_work.specs.Moves.{Path, moves}
use Rattle.sd_work.specs.Fire.{fire}
use Rattle.sd_work.specs.Settle.{settled}
use Rattle.sd_work.specs.Step.{Machine, Outcome, Done, Faulted, Spent, spend, opening, next_moves, moved, step}
use Rattle.sd_work.specs.WellFormed.{IsOrdered, HasPoolMemories, IsWellFormed}
use Rattle.sd_work.proofs.Leaving.{Leaves}
use Rattle.sd_work.proofs.Settling.{settled-settled}
use Rattle.sd_work.proofs.going.OrdersKept.{ordered-kept, ordered-settled}
use Rattle.sd_work.proofs.going.MemoriesKept.{memories-kept, memories-settled}
use Rattle.sd_work.proofs.going.NoMove.{no_move-finished}

-- a machine without a move is finished
pub machine-finished : {P : Type 0} (machine : Machine P) → IsWellFormed machine → next_moves machine ≡ [] → finished machine.term ≡ true
machine-finished machine w e = subst (λ t. finished t ≡ true) w.settles (no_move-finished machine.term [] w.ordered w.memories (ap (λ t. moves t []) w.settles ∙ e))

-- what is settled is well-formed
pub well_formed-settled : {P : Type 0} (term : Term P) (turns : ℕ) → IsOrdered term → HasPoolMemories 0 term → IsWellFormed (opening term turns)
well_formed-settled term turns o h = record {
  settles = settled-settled term;
  ordered = ordered-settled true [] [] term o;
  memories = memories-settled 0 true [] [] term h;
}

-- the machine after a step is well-formed, where there is one
abbrev LeavesWellFormed : {P : Type 0} → Outcome P (Machine P) → Type 0
LeavesWellFormed (Done machine) = IsWellFormed machine
LeavesWellFormed (Faulted fault) = ⊤
LeavesWellFormed Spent = ⊤

leaves-spend : {P : Type 0} (turn : Bool) (turns : ℕ) (rest : ℕ → Outcome P (Machine P)) → ((n : ℕ) → LeavesWellFormed (rest n)) → LeavesWellFormed (spend Spent turn turns rest)
leaves-spend true zero rest h = tt
leaves-spend true (suc turns) rest h = h turns
leaves-spend false turns rest h = h turns

leaves-moved : {P : Type 0} (machine : Machine P) (m : Move P (Term P)) → IsWellFormed machine → Leaves IsOrdered m → Leaves (HasPoolMemories 0) m → LeavesWellFormed (moved machine m)
leaves-moved machine (fails turn fault) w o h = leaves-spend turn machine.turns (λ turns. Faulted fault) (λ turns. tt)
leaves-moved machine (goes turn change left) w o h =
    leaves-spend turn machine.turns (λ turns. Done (record { term = settled left; turns = turns })) (λ turns. well_formed-settled left turns o h)
leaves-moved machine no_move w o h = w

-- a step leaves a well-formed machine
pub well_formed-step : {P : Type 0} (machine next : Machine P) (path : Path) → IsWellFormed machine → step path machine ≡ Done next → IsWellFormed next
well_formed-step machine next path w e =
    subst LeavesWellFormed e (leaves-moved machine (fire machine.term path []) w (ordered-kept machine.term path [] w.ordered) (memories-kept 0 machine.term path [] w.memories))
