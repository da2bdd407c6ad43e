-- What is read of the memories, and when two of them agree on it.
use Rattle.std.specs.Prelude.{◌≡◌, ℕ, zero, suc, ℤ, List, [], ◌∷◌, Option, Some, None, option_and_then, slice_get, ⊤}
use Rattle.sd_num.specs.declared.width.Width.{Width}
use Rattle.sd_work.specs.Memory.{Contents, array, stream, Memories, Reference, elements_of, width_of, contents_of}
use Rattle.sd_work.specs.Change.{Change, apply}

-- an element that is read, or a stream that is asked for its oldest value
pub data Reading : Type 0 where
  reads_element : (from : Reference) → Reading
  reads_stream : (level container : ℕ) → Reading

-- what a container holds, where there is one
abbrev pub contents_found : (level container : ℕ) → Memories → Option Contents
contents_found level container memories = option_and_then (λ memory. slice_get memory container) (slice_get memories level)

-- the values of a stream; an array is none
abbrev pub values_if : Contents → Option (List ℤ)
values_if (array width elements) = None
values_if (stream width values) = Some values

-- the value of an element, where there is one
abbrev pub element_found : Reference → Memories → Option ℤ
element_found from memories = option_and_then (λ contents. slice_get (elements_of contents) from.element) (contents_found from.level from.container memories)

-- the values that wait in a stream, where there is one
abbrev pub stream_found : (level container : ℕ) → Memories → Option (List ℤ)
stream_found level container memories = option_and_then values_if (contents_found level container memories)

-- the width of a container; 64 bits where there is none
abbrev pub container_width : (level container : ℕ) → Memories → Width
container_width level container memories = width_of (contents_of level container memories)

-- a container has one width in two stacks of memories
abbrev pub HaveOneWidth : (level container : ℕ) → (memories others : Memories) → Type 0
HaveOneWidth level container memories others = container_width level container memories ≡ container_width level container others

-- two stacks of memories have the same there, in containers of one width
abbrev pub AgreeAt : Reading → (memories others : Memories) → Type 0
AgreeAt (reads_element from) memories others = (element_found from memories ≡ element_found from others) × HaveOneWidth from.level from.container memories others
AgreeAt (reads_stream level container) memories others = (stream_found level container memories ≡ stream_found level container others) × HaveOneWidth level container memories others

-- and at all of these
abbrev pub AgreeOn : List Reading → (memories others : Memories) → Type 0
AgreeOn [] memories others = ⊤
AgreeOn (reading ∷ readings) memories others = AgreeAt reading memories others × AgreeOn readings memories others

-- the memories after changes, the first one first
abbrev pub apply_all : List Change → Memories → Memories
apply_all [] memories = memories
apply_all (change ∷ changes) memories = apply_all changes (apply change memories)

-- a reading of an element, seen from outside the innermost memory, before others: one inside it is none
abbrev pub outer_element : (level container element : ℕ) → List Reading → List Reading
outer_element zero container element readings = readings
outer_element (suc level) container element readings = reads_element (record { level = level; container = container; element = element }) ∷ readings

-- the same of a stream
abbrev pub outer_stream : (level container : ℕ) → List Reading → List Reading
outer_stream zero container readings = readings
outer_stream (suc level) container readings = reads_stream level container ∷ readings

-- readings seen from outside the innermost memory, without those inside it
abbrev pub outer_readings : List Reading → List Reading
outer_readings [] = []
outer_readings (reads_element from ∷ readings) = outer_element from.level from.container from.element (outer_readings readings)
outer_readings (reads_stream level container ∷ readings) = outer_stream level container (outer_readings readings)
