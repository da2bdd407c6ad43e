-- A cut of a memory, marked by the boxes of a part.
use Rattle.std.specs.Prelude.{◌≡◌, ◌<◌, ℕ, List, Option, Some, None, false, if◌then◌else◌}
use Rattle.std.specs.List.{fold, Contains}
use Rattle.sd_num.specs.declared.resolution.Resolution.{Resolution}
use Rattle.sd_range.specs.Points.{product}
use Rattle.sd_windows.specs.Windows as windows
use Rattle.sd_cut.specs.declared.window.Window.{Window}
use Rattle.sd_cut.specs.declared.elements.CutElement.{CutElement}
use Rattle.sd_cut.specs.declared.elements.ElementMark.TheVariants.{Untouched}
use Rattle.sd_cut.specs.Elements.{cut_at}
use Rattle.sd_cut.specs.Windowed.{window_at}
use Rattle.sd_cut.specs.Overlaid.{Overlaid}
use Rattle.sd_cut.specs.Using.{kept_at, gathered_at, drained_at, appended_at, stream_at}
use Rattle.sd_cut.specs.declared.streams.CutStream.{CutStream}
use Rattle.sd_part.specs.Boxes.{NumberBox}
use Rattle.sd_part.specs.Hulls.{is_of_elements}
use Rattle.sd_part.specs.Marks.{resolution_among, numbers_among, is_taken_from}

-- an element gathered by a resolution, or else kept
abbrev pub with_mark : Option Resolution → (container number : ℕ) → Overlaid → Overlaid
with_mark None container number cut = kept_at container number cut
with_mark (Some by) container number cut = gathered_at container number by cut

-- so it is with those of these numbers
abbrev pub with_marks : Option Resolution → (container : ℕ) → List ℕ → Overlaid → Overlaid
with_marks by container numbers cut = fold (λ cut number. with_mark by container number cut) cut numbers

-- a stream that values are taken from is drained, another one appended to
abbrev pub with_stream : List NumberBox → (container : ℕ) → Overlaid → Overlaid
with_stream boxes container cut = if is_taken_from boxes container then drained_at container cut else appended_at container cut

-- what a box among others marks
abbrev pub with_box : List NumberBox → Overlaid → NumberBox → Overlaid
with_box boxes cut box =
    if is_of_elements box.mode then with_marks (resolution_among boxes box.container box.mode) box.container (numbers_among boxes box) cut
    else with_stream boxes box.container cut

-- what all mark
abbrev pub with_boxes : List NumberBox → Overlaid → Overlaid
with_boxes boxes cut = fold (with_box boxes) cut boxes

-- the streams of boxes were cut
abbrev pub AreStreamsCut : List NumberBox → Overlaid → Type 0
AreStreamsCut boxes cut = (box : NumberBox) → Contains boxes box → is_of_elements box.mode ≡ false → (stream : CutStream) × (stream_at cut box.container ≡ Some stream)

-- nothing was touched, and each window has its elements
pub record IsFresh (list : List (Option Window)) (cut : Overlaid) : Type 0 where
  pub untouched : (c n : ℕ) (one : CutElement) → cut_at cut.arrays c n ≡ Some one → one.mark ≡ Untouched
  pub there : (c n : ℕ) (w : windows.Window) → window_at list c ≡ Some w → n < product w.extents → (one : CutElement) × (cut_at cut.arrays c n ≡ Some one)
