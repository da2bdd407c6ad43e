-- When what was cut fits a memory, and when work may run on what is left.
use Rattle.std.specs.Prelude.{◌≡◌, ℕ, ℤ, List, [], map, length, Some, None, slice_index_or}
use Rattle.sd_num.specs.Width.{wrapped_to}
use Rattle.sd_num.specs.Resolution.{identity_of}
use Rattle.sd_num.specs.declared.resolution.Resolution.{Resolution}
use Rattle.sd_work.specs.Memory.{Memories, look}
use Rattle.sd_pieces.specs.course.Reading.{container_width, stream_found}
use Rattle.sd_pieces.specs.cut.Naming.{Naming, IsOneToOne}
use Rattle.sd_pieces.specs.cut.Merged.{Marking}
use Rattle.sd_mem.specs.mem.Shaped.{Shaped, alone, contents_at, element, width_at, IsArray}
use Rattle.sd_windows.specs.Windows.{Window}
use Rattle.sd_cut.specs.Windowed.{window_at}
use Rattle.sd_cut.specs.declared.elements.CutElement.{CutElement}
use Rattle.sd_cut.specs.declared.elements.ElementMark.TheVariants.{Gathered}
use Rattle.sd_cut.specs.declared.streams.CutStream.{CutStream}
use Rattle.sd_cut.specs.declared.streams.StreamUse.TheVariants.{Drained, Appended}
use Rattle.sd_cut.specs.Elements.{cut_at, marking_of, AreNumbered, AreFound}
use Rattle.sd_cut.specs.Streams.{stream_mark_if}
use Rattle.sd_cut.specs.Using.{stream_at, pushed_to}
use Rattle.sd_cut.specs.Overlaid.{Overlaid}

-- the mark of each element by its number, and of each stream
abbrev pub marking_in : Naming → Overlaid → Marking
marking_in naming cut = record { element = (marking_of naming cut.arrays).element; stream = λ container. stream_mark_if (stream_at cut container) }

-- each stream that was cut is a stream in a memory, and in what is left, of one width
abbrev pub AreStreamsFound : Overlaid → Shaped → Type 0
AreStreamsFound cut memory =
    (container : ℕ) (stream : CutStream) → stream_at cut container ≡ Some stream
    → ((values : List ℤ) × (stream_found 0 container (alone memory) ≡ Some values)) × ((values : List ℤ) × (stream_found 0 container (alone cut.left) ≡ Some values)) × (width_at cut.left container ≡ width_at memory container)

-- the elements that were cut are numbered one to one, and they and the streams are found in a memory and in what is left
pub record Fits (naming : Naming) (cut : Overlaid) (memory : Shaped) : Type 0 where
  pub numbered : AreNumbered naming cut.arrays
  pub one : IsOneToOne naming
  pub elements : AreFound cut.arrays cut.left memory
  pub streams : AreStreamsFound cut memory

-- work may run on what is left: what is gathered is at its identity, of a drained stream all is left, and nothing was pushed to one that is appended to
pub record IsReady (cut : Overlaid) : Type 0 where
  pub gathered : (container number : ℕ) (one : CutElement) (by : Resolution) → cut_at cut.arrays container number ≡ Some one → one.mark ≡ Gathered by
      → identity_of by (width_at cut.left container) ≡ Some (look (element container number) (alone cut.left))
  pub drained : (container : ℕ) (stream : CutStream) → stream_at cut container ≡ Some stream → stream.usage ≡ Drained → stream.taken ≡ length stream.opening
  pub appended : (container : ℕ) (stream : CutStream) → stream_at cut container ≡ Some stream → stream.usage ≡ Appended → pushed_to cut container ≡ []

-- the values of each stream of the outermost memory are elements of its width
abbrev pub AreValuesOfWidth : Memories → Type 0
AreValuesOfWidth memories = (container : ℕ) (values : List ℤ) → stream_found 0 container memories ≡ Some values → map (wrapped_to (container_width 0 container memories)) values ≡ values

-- the same cut, of which something else is left
abbrev pub with_left : Shaped → Overlaid → Overlaid
with_left left cut = record cut { left = left }

-- Containers with windows are arrays, in a memory and in what is left, of one width, and each number of a window has its element. Without one a container has no elements that were cut, and
-- its numbers stay; so has a stream that was cut
pub record IsWhole (naming : Naming) (cut : Overlaid) (memory : Shaped) : Type 0 where
  pub arrays : (container : ℕ) (window : Window) → window_at cut.windows container ≡ Some window
      → IsArray (contents_at memory container) × IsArray (contents_at cut.left container) × (width_at cut.left container ≡ width_at memory container)
  pub all : (container element number : ℕ) (window : Window) → window_at cut.windows container ≡ Some window → naming container element ≡ Some number
      → (one : CutElement) × (cut_at cut.arrays container number ≡ Some one)
  pub none : (container : ℕ) → window_at cut.windows container ≡ None → slice_index_or cut.arrays container [] ≡ []
  pub stays : (container element number : ℕ) → window_at cut.windows container ≡ None → naming container element ≡ Some number → element ≡ number
  pub streams : (container : ℕ) (stream : CutStream) → stream_at cut container ≡ Some stream → window_at cut.windows container ≡ None
