-- The move at a place of a term.
use Rattle.std.specs.Prelude.{ℕ, zero, suc, ℤ, List, [], ◌∷◌, Option, Some, None, Result, Ok, Err, Bool, cond, false, slice_get}
use Rattle.sd_work.specs.Memory.{Memory, Memories, waiting}
use Rattle.sd_work.specs.Change.{nothing, take, outer, own_after}
use Rattle.sd_work.specs.Move.{Fault, Move, fails, goes, no_move, map_move}
use Rattle.sd_work.specs.LeafMove.{leaf_move}
use Rattle.sd_work.specs.Exit.{Values, Exit, first_exit}
use Rattle.sd_work.specs.Residual.{Term, leaf, list, owning, nested, ended, pool, Terms, none, also, Actives, idle, busy, finished}
use Rattle.sd_work.specs.Moves.{Path}

-- a move inside an owner: what it changes in the owner's memory stays inside
abbrev pub owned : {P : Type 0} → (Memory → Term P → Term P) → Memory → Move P (Term P) → Move P (Term P)
owned whole own (fails turn fault) = fails turn fault
owned whole own (goes turn change left) = goes turn (outer change) (whole (own_after change own) left)
owned whole own no_move = no_move

-- the transition: the exit's state begins, or the run ends where no exit may be taken. A marked exit wants a turn, after the conditions
abbrev pub transition : {P : Type 0} → (ℕ → Values → Term P) → (ℕ → Values → List (Exit P)) → Memory → Result (Option (Exit P)) (Fault P) → Move P (Term P)
transition body exits own (Err fault) = fails false fault
transition body exits own (Ok None) = goes false nothing (ended own)
transition body exits own (Ok (Some exit)) = goes exit.marked nothing (nested body exits own exit.state exit.values (body exit.state exit.values))

-- the active terms and one more, the last
abbrev pub and_last : {P : Type 0} → Actives P → ℤ → Term P → Actives P
and_last idle value part = busy value part idle
and_last (busy first other active) value part = busy first other (and_last active value part)

-- a value is taken, and an active term for it begins
abbrev pub take_move : {P : Type 0} → (level container : ℕ) → (ℤ → Term P) → Actives P → (closed : Bool) → (position : ℕ) → Option ℤ → Move P (Term P)
take_move level container body active closed position None = no_move
take_move level container body active closed position (Some value) =
    goes false (take level container position) (pool level container body (and_last active value (body value)) closed)

-- a leaf and a transition have one move, which any place within them stands for; runs use the places of next moves alone
abbrev mutual
  pub fire : {P : Type 0} → Term P → Path → Memories → Move P (Term P)
  fire (leaf place work) path memories = map_move (leaf place) (leaf_move place work memories)
  fire (list kind before parts) [] memories = no_move
  fire (list kind before parts) (number ∷ path) memories = map_move (list kind before) (fire_part parts number path memories)
  fire (owning own part) path memories = owned owning own (fire part path (own ∷ memories))
  fire (nested body exits own state values part) path memories =
      cond (finished part)
      (transition body exits own (first_exit (exits state values) (own ∷ memories)))
      (owned (λ memory left. nested body exits memory state values left) own (fire part path (own ∷ memories)))
  fire (ended own) path memories = no_move
  fire (pool level container body active closed) [] memories = no_move
  fire (pool level container body active closed) (zero ∷ []) memories = no_move
  fire (pool level container body active closed) (zero ∷ position ∷ path) memories =
      take_move level container body active closed position (slice_get (waiting level container memories) position)
  fire (pool level container body active closed) (suc n ∷ []) memories = no_move
  fire (pool level container body active closed) (suc n ∷ number ∷ path) memories =
      map_move (λ left. pool level container body left closed) (fire_active active number path memories)

  pub fire_part : {P : Type 0} → Terms P → ℕ → Path → Memories → Move P (Terms P)
  fire_part none number path memories = no_move
  fire_part (also part parts) zero path memories = map_move (λ left. also left parts) (fire part path memories)
  fire_part (also part parts) (suc number) path memories = map_move (also part) (fire_part parts number path memories)

  pub fire_active : {P : Type 0} → Actives P → ℕ → Path → Memories → Move P (Actives P)
  fire_active idle number path memories = no_move
  fire_active (busy value part active) zero path memories = map_move (λ left. busy value left active) (fire part path memories)
  fire_active (busy value part active) (suc number) path memories = map_move (busy value part) (fire_active active number path memories)
