-- What is done with memories and turns.
use Rattle.std.specs.Prelude.{ℕ, zero, suc, ◌∷◌, drop, Some, Ok, Err}
use Rattle.sd_work.specs.Memory.{Memory, Memories}
use Rattle.sd_work.specs.Step.{Faulted, Spent}
use Rattle.sd_work.specs.BigStep.{Coming, reached, and_then}
use Rattle.sd_graph.specs.TaskletMeaning.{Meaning}
use Rattle.sd_graph.specs.declared.place.Place.{Place}

-- what comes of memories, the innermost first, and of the turns that are left
abbrev pub Doing : Type 0
Doing = Memories → (turns : ℕ) → Coming Place

-- one, and then the rest
abbrev pub followed_by : (first rest : Doing) → Doing
followed_by first rest memories turns = and_then (first memories turns) rest

-- inside a memory of its own, which is dropped behind it
abbrev pub within : (own : Memory) → Doing → Doing
within own work memories turns = and_then (work (own ∷ memories) turns) (λ memories. reached (drop 1 memories))

-- what comes of a value at a place, or the fault there
abbrev pub at_place : {A : Type 0} → Place → Meaning A → (A → Coming Place) → Coming Place
at_place place (Ok value) rest = rest value
at_place place (Err kind) rest = Some (Faulted (record { place = place; kind = kind }))

-- a turn is spent, where one is left
abbrev pub spending_one : (turns : ℕ) → (ℕ → Coming Place) → Coming Place
spending_one zero rest = Some Spent
spending_one (suc turns) rest = rest turns
