-- What work on a cut of a memory comes to, merged into another memory.
use Rattle.std.specs.Prelude.{◌≡◌, ◌⊎◌, ℕ, ℤ, List, [], ◌++◌, drop, Some, None, option_map}
use Rattle.sd_num.specs.Width.{IsElement}
use Rattle.sd_num.specs.Resolution.{stored, identity_of}
use Rattle.sd_num.specs.declared.resolution.Resolution.{Resolution}
use Rattle.sd_work.specs.Memory.{Memories, Reference}
use Rattle.sd_work.specs.Step.{Done, Faulted, Spent}
use Rattle.sd_work.specs.BigStep.{Coming, reached}
use Rattle.sd_work.specs.Touch.{Touch, reads, writes, pushes, takes}
use Rattle.sd_pieces.specs.course.Reading.{reads_element, reads_stream, element_found, stream_found, container_width, HaveOneWidth, AgreeAt}
use Rattle.sd_pieces.specs.course.Shape.{stack_shape}
use Rattle.sd_pieces.specs.cut.Naming.{Naming}

-- an element of the outermost memory: nothing touches it; it is read or replaced, so it has to be as it was; or values are resolved with it by one resolution
pub data Mark : Type 0 where
  untouched : Mark
  kept : Mark
  gathered : (by : Resolution) → Mark

-- a stream of it: nothing touches it; it is taken from, so it has to be as it was; or values are appended to it
pub data StreamMark : Type 0 where
  unused : StreamMark
  drained : StreamMark
  appended : StreamMark

-- the mark of each element and of each stream of the outermost memory
pub record Marking : Type 0 where
  pub element : (container element : ℕ) → Mark
  pub stream : (container : ℕ) → StreamMark

-- an element of the outermost memory
abbrev pub outermost : (container element : ℕ) → Reference
outermost container element = record { level = 0; container = container; element = element }

-- what is touched is so marked
abbrev pub IsMarked : Marking → Touch → Type 0
IsMarked marking (reads from) = (from.level ≡ 0) × (marking.element from.container from.element ≡ kept)
IsMarked marking (writes to by) =
    (to.level ≡ 0) × ((marking.element to.container to.element ≡ kept) ⊎ ((resolution : Resolution) × (by ≡ Some resolution) × (marking.element to.container to.element ≡ gathered resolution)))
IsMarked marking (pushes level container) = (level ≡ 0) × ((marking.stream container ≡ drained) ⊎ (marking.stream container ≡ appended))
IsMarked marking (takes level container) = (level ≡ 0) × (marking.stream container ≡ drained)

-- A memory that is prepared for another one: what is touched has the width that it has there, and what is kept or drained is as it is there.
-- Gathered elements begin at the identity of their resolution, and streams that are appended to are empty
pub record IsPrepared (marking : Marking) (memories others : Memories) : Type 0 where
  pub kept_so : (container element : ℕ) → marking.element container element ≡ kept → AgreeAt (reads_element (outermost container element)) memories others
  pub drained_so : (container : ℕ) → marking.stream container ≡ drained → AgreeAt (reads_stream 0 container) memories others
  pub gathered_so : (container element : ℕ) (by : Resolution) → marking.element container element ≡ gathered by
      → HaveOneWidth 0 container memories others
      × ((identity : ℤ) × (identity_of by (container_width 0 container memories) ≡ Some identity) × (element_found (outermost container element) memories ≡ Some identity))
  pub appended_so : (container : ℕ) → marking.stream container ≡ appended → HaveOneWidth 0 container memories others × (stream_found 0 container memories ≡ Some [])

-- what was there, with what the work on the cut left there. The stack keeps its shape, and each memory deeper in it stays. In the outermost memory all that is untouched, unused or without a number stays.
-- What is kept or drained is as it was left. What was left is stored in what is gathered, by its resolution, and follows on what is appended
pub record IsMerged (naming : Naming) (marking : Marking) (left before after : Memories) : Type 0 where
  pub shape_so : stack_shape after ≡ stack_shape before
  pub deeper_so : drop 1 after ≡ drop 1 before
  pub untouched_so : (container element : ℕ) → marking.element container element ≡ untouched → element_found (outermost container element) after ≡ element_found (outermost container element) before
  pub unused_so : (container : ℕ) → marking.stream container ≡ unused → stream_found 0 container after ≡ stream_found 0 container before
  pub unnumbered_so : (container element : ℕ) → naming container element ≡ None → element_found (outermost container element) after ≡ element_found (outermost container element) before
  pub kept_so : (container element number : ℕ) → marking.element container element ≡ kept → naming container element ≡ Some number
      → element_found (outermost container element) after ≡ element_found (outermost container number) left
  pub drained_so : (container : ℕ) → marking.stream container ≡ drained → stream_found 0 container after ≡ stream_found 0 container left
  pub gathered_so : (container element number : ℕ) (by : Resolution) (old : ℤ) → marking.element container element ≡ gathered by → naming container element ≡ Some number
      → IsElement (container_width 0 container before) old → element_found (outermost container element) before ≡ Some old
      → element_found (outermost container element) after ≡ option_map (stored (container_width 0 container before) (Some by) old) (element_found (outermost container number) left)
  pub appended_so : (container : ℕ) (values : List ℤ) → marking.stream container ≡ appended → stream_found 0 container before ≡ Some values
      → stream_found 0 container after ≡ option_map (λ others. values ++ others) (stream_found 0 container left)

-- each element of the outermost memory is one of its container's width
abbrev pub AreElementsOfWidth : Memories → Type 0
AreElementsOfWidth memories = (container element : ℕ) (value : ℤ) → element_found (outermost container element) memories ≡ Some value → IsElement (container_width 0 container memories) value

-- how work ends from a memory, by how it ends on the cut: with the same turns and the merged memory, the same fault or want of turns
abbrev pub MergesTo : {P : Type 0} → Naming → Marking → (before : Memories) → (on_cut : Coming P) → Coming P → Type 0
MergesTo naming marking before (Some (Done left)) coming = (after : Memories) × (coming ≡ reached after left.turns) × IsMerged naming marking left.memories before after
MergesTo naming marking before (Some (Faulted fault)) coming = coming ≡ Some (Faulted fault)
MergesTo naming marking before (Some Spent) coming = coming ≡ Some Spent
MergesTo naming marking before None coming = coming ≡ None
