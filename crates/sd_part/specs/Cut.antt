-- What was cut of a memory as a store: what it was cut of, what it stands for, and when boxes may be lent of it.
use Rattle.std.specs.Prelude.{◌≡◌, ◌<◌, ℕ, List, [], map, length, Some, None, false, slice_index_or}
use Rattle.std.specs.List.{All, Contains}
use Rattle.sd_num.specs.Width.{wrapped_to}
use Rattle.sd_pieces.specs.course.Shape.{stack_shape}
use Rattle.sd_pieces.specs.cut.Merged.{AreElementsOfWidth}
use Rattle.sd_graph.specs.ContainerParts.{Containers, container_at, extents_of}
use Rattle.sd_mem.specs.mem.Shaped.{Shaped, alone, shape_at, width_at, HasStream, IsHere}
use Rattle.sd_windows.specs.Windows as windows
use Rattle.sd_cut.specs.declared.streams.CutStream.{CutStream}
use Rattle.sd_cut.specs.declared.streams.StreamUse.TheVariants.{Unused}
use Rattle.sd_cut.specs.Windowed.{numbers_in, window_at}
use Rattle.sd_cut.specs.Elements.{AreOfWindows, IsUntouched}
use Rattle.sd_cut.specs.Cutting.{all_begun, is_wanted, IsCutOf}
use Rattle.sd_cut.specs.Using.{stream_at, pushed_to, committed, Agrees}
use Rattle.sd_cut.specs.Fits.{Fits, IsWhole, IsReady, AreValuesOfWidth}
use Rattle.sd_cut.specs.Overlaid.{Overlaid}
use Rattle.sd_part.specs.Boxes.{NumberBox}
use Rattle.sd_part.specs.Hulls.{is_of_elements, has_elements, AreEven, AreWindowsFor}
use Rattle.sd_part.specs.Marks.{streams_of}
use Rattle.sd_part.specs.Marking.{AreStreamsCut, IsFresh}

-- a cut was made of a memory such as this one, which has these containers: what was cut is there, and all is of its width
pub record IsMadeFor (cut : Overlaid) (containers : Containers) (over : Shaped) : Type 0 where
  pub fits : Fits (numbers_in containers cut.windows) cut over
  pub whole : IsWhole (numbers_in containers cut.windows) cut over
  pub elements : AreElementsOfWidth (alone over)
  pub values : AreValuesOfWidth (alone over)

-- so it was, and work may run on what is left of it
pub record MayBeLent (cut : Overlaid) (containers : Containers) (over : Shaped) : Type 0 where
  pub made : IsMadeFor cut containers over
  pub ready : IsReady cut
  pub elements : AreElementsOfWidth (alone cut.left)

-- over a memory that has all that has to be as it was, a cut stands for the memory in which it is committed
pub record StandsFor (cut : Overlaid) (over now : Shaped) : Type 0 where
  pub agrees : Agrees cut over
  pub done : now ≡ committed cut over

-- nothing was taken from a stream or pushed to it, and its values are of its width
pub record IsUnused (cut : Overlaid) (container : ℕ) (stream : CutStream) : Type 0 where
  pub usage : stream.usage ≡ Unused
  pub taken : stream.taken ≡ 0
  pub pushed : pushed_to cut container ≡ []
  pub values : map (wrapped_to (width_at cut.left container)) stream.opening ≡ stream.opening

-- a cut has the windows and the streams of boxes, nothing has touched it yet, and all that is left is of its width
pub record IsCutFor (boxes : List NumberBox) (cut : Overlaid) : Type 0 where
  pub even : AreEven boxes
  pub windows : AreWindowsFor boxes cut.windows
  pub fresh : IsFresh cut.windows cut
  pub streams : AreStreamsCut boxes cut
  pub unused : (container : ℕ) (stream : CutStream) → stream_at cut container ≡ Some stream → IsUnused cut container stream
  pub elements : AreElementsOfWidth (alone cut.left)
  pub values : AreValuesOfWidth (alone cut.left)

-- ---- what is just cut

-- a cut was just made of a memory for boxes, as `Overlay::cut` tells it of their windows and streams
pub record IsJustCut (boxes : List NumberBox) (memory : Shaped) (cut : Overlaid) : Type 0 where
  pub windows : AreWindowsFor boxes cut.windows
  pub untouched : (container : ℕ) → All IsUntouched (slice_index_or cut.arrays container [])
  pub arrays : AreOfWindows memory (window_at cut.windows) cut.arrays
  pub count : length cut.streams ≡ length cut.windows
  pub streams : (container : ℕ) → container < length cut.windows
      → IsCutOf memory container (is_wanted (slice_index_or cut.windows container None) (streams_of boxes) container) (slice_index_or cut.streams container None)
  pub left : cut.left ≡ all_begun memory 0 cut.windows cut.arrays cut.streams (record { shapes = []; contents = [] })

-- the boxes that are of streams are of streams of a memory, and no box touches elements of these
abbrev pub AreOfStreams : List NumberBox → Shaped → Overlaid → Type 0
AreOfStreams boxes memory cut =
    (box : NumberBox) → Contains boxes box → is_of_elements box.mode ≡ false
    → (box.container < length cut.windows) × HasStream memory box.container × (has_elements boxes box.container ≡ false)

-- a memory has the shape of another one: the same extents and widths, and as many elements in each array
abbrev pub HasShapeOf : Shaped → Shaped → Type 0
HasShapeOf memory other = (memory.shapes ≡ other.shapes) × (stack_shape (alone memory) ≡ stack_shape (alone other))

-- the containers with windows are arrays of a memory, with the extents that they have in the graph
abbrev pub AreArraysOf : Containers → Shaped → Overlaid → Type 0
AreArraysOf containers memory cut =
    (container : ℕ) (window : windows.Window) → window_at cut.windows container ≡ Some window → (shape_at memory container ≡ extents_of (container_at containers container)) × IsHere memory container
