-- What a run does to the streams of its memory.
use Rattle.std.specs.Prelude.{◌≡◌, ℕ, zero, ℤ, List, [], ◌∷◌, flat_map, Option, Some, None, cond, eqb, slice_get}
use Rattle.sd_num.specs.Width.{wrapped_to}
use Rattle.sd_work.specs.Memory.{Contents, array, stream, Memory, waiting}
use Rattle.sd_work.specs.Change.{Change, push, take}
use Rattle.sd_work.specs.Move.{Move, fails, goes, no_move}
use Rattle.sd_work.specs.Residual.{Term, leaf, list, owning, nested, ended, pool, finished}
use Rattle.sd_work.specs.Moves.{Path}
use Rattle.sd_work.specs.Fire.{fire}
use Rattle.sd_work.specs.Step.{Machine, Done, opening}
use Rattle.sd_work.specs.Run.{Left, choices, run}
use Rattle.sd_confluence.specs.Alike.{HoldAlike}

-- a value is pushed into a stream, or taken from it
pub data Event : Type 0 where
  pushed : (container : ℕ) → (value : ℤ) → Event
  taken : (container : ℕ) → (value : ℤ) → Event

-- a push into what is no stream is none
abbrev pub pushed_if : (container : ℕ) → (value : ℤ) → Option Contents → List Event
pushed_if container value None = []
pushed_if container value (Some (array width elements)) = []
pushed_if container value (Some (stream width values)) = pushed container (wrapped_to width value) ∷ []

-- a take of a position where no value stands is none
abbrev pub taken_if : (container : ℕ) → Option ℤ → List Event
taken_if container None = []
taken_if container (Some value) = taken container value ∷ []

-- the event of a change in this memory, which is the innermost one, if there is any
abbrev pub event_of : Memory → Change → List Event
event_of memory (push zero container value) = pushed_if container value (slice_get memory container)
event_of memory (take zero container position) = taken_if container (slice_get (waiting 0 container (memory ∷ [])) position)
event_of memory change = []

abbrev pub event_of_move : {P : Type 0} → Memory → Move P (Term P) → List Event
event_of_move memory (goes turn change left) = event_of memory change
event_of_move memory (fails turn fault) = []
event_of_move memory no_move = []

-- the event of the move at a place in the memory of a run of a graph
abbrev pub event_at : {P : Type 0} → Term P → Path → List Event
event_at (nested body exits own state values part) path = cond (finished part) [] (event_of_move own (fire part path (own ∷ [])))
event_at (leaf place work) path = []
event_at (list kind before parts) path = []
event_at (owning own part) path = []
event_at (ended own) path = []
event_at (pool level container body active closed) path = []

-- the events of the first so many steps of a run by picks
abbrev pub events : {P : Type 0} → ℕ → (picks : List ℕ) → Machine P → List Event
events steps picks machine = flat_map (λ choice. event_at choice.machine.term choice.place) (choices steps picks machine)

-- the values pushed into a stream, in order
abbrev pub values_pushed : (container : ℕ) → List Event → List ℤ
values_pushed container [] = []
values_pushed container (pushed other value ∷ events) = cond (eqb other container) (value ∷ values_pushed container events) (values_pushed container events)
values_pushed container (taken other value ∷ events) = values_pushed container events

-- the values taken from a stream, in order
abbrev pub values_taken : (container : ℕ) → List Event → List ℤ
values_taken container [] = []
values_taken container (pushed other value ∷ events) = values_taken container events
values_taken container (taken other value ∷ events) = cond (eqb other container) (value ∷ values_taken container events) (values_taken container events)

-- a run by picks that is done leaves this, and these were its events
abbrev pub DoneWith : {P : Type 0} → Term P → (turns : ℕ) → (picks : List ℕ) → Left → List Event → Type 0
DoneWith term turns picks left happened =
    (looks : ℕ) × (run looks picks (opening term turns) ≡ Some (Done left)) × (events looks picks (opening term turns) ≡ happened)

-- each stream was taken from and pushed into with each value equally often
abbrev pub AreEventsAlike : List Event → List Event → Type 0
AreEventsAlike happened other =
    (container : ℕ) → HoldAlike (values_taken container happened) (values_taken container other) × HoldAlike (values_pushed container happened) (values_pushed container other)
