-- What a move comes to: the memories, what is left, and the turns.
use Rattle.std.specs.Prelude.{ℕ, drop}
use Rattle.sd_work.specs.Memory.{Memory, Memories}
use Rattle.sd_work.specs.Change.{apply, innermost}
use Rattle.sd_work.specs.Move.{Move, fails, goes, no_move}
use Rattle.sd_work.specs.Residual.{Term}
use Rattle.sd_work.specs.Step.{Machine, Outcome, Done, Faulted, Spent, spend}
use Rattle.sd_work.specs.Settle.{settled}

pub record Gone (A : Type 0) : Type 0 where
  pub memories : Memories
  pub left : A
  pub turns : ℕ

-- what a move of old work comes to from these memories, with so many turns; without a move all stays as it is
abbrev pub gone : {P A : Type 0} → Move P A → (old : A) → Memories → (turns : ℕ) → Outcome P (Gone A)
gone (fails turn fault) old memories turns = spend Spent turn turns (λ turns. Faulted fault)
gone (goes turn change left) old memories turns = spend Spent turn turns (λ turns. Done (record { memories = apply change memories; left = left; turns = turns }))
gone no_move old memories turns = Done (record { memories = memories; left = old; turns = turns })

-- an end of a step, with something else in the place of what it is done with
abbrev pub map_outcome : {P A B : Type 0} → (A → B) → Outcome P A → Outcome P B
map_outcome told (Done now) = Done (told now)
map_outcome told (Faulted fault) = Faulted fault
map_outcome told Spent = Spent

-- a part that was left, as the whole that is made of it
abbrev pub within : {A B : Type 0} → (A → B) → Gone A → Gone B
within whole now = record { memories = now.memories; left = whole now.left; turns = now.turns }

-- a part that was left inside an owner: its memory is the innermost
abbrev pub inside : {P : Type 0} → (Memory → Term P → Term P) → Gone (Term P) → Gone (Term P)
inside whole now = record { memories = drop 1 now.memories; left = whole (innermost now.memories) now.left; turns = now.turns }

-- what is left is settled
abbrev pub settled_machine : {P : Type 0} → Gone (Term P) → Machine P
settled_machine now = record { term = settled now.left; turns = now.turns }
