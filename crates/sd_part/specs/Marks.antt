-- What the boxes of a part mark: each element of a box by its number in the window, and each stream.
use Rattle.std.specs.Prelude.{ℕ, nat_eq, ℤ, pos, List, [], ◌∷◌, map, Option, Some, None, Bool, true, false, not, ◌&&◌, if◌then◌else◌}
use Rattle.std.specs.List.{filter, flat_map, list_all, list_any}
use Rattle.sd_num.specs.declared.resolution.Resolution.{Resolution}
use Rattle.sd_num.specs.declared.resolution.Resolution.TheVariants.{Sum, Product, Min, Max, And, Or, Xor, Last}
use Rattle.sd_range.specs.Range.{counted_from}
use Rattle.sd_range.specs.Points.{tuples}
use Rattle.sd_pieces.specs.cut.Naming.{Naming}
use Rattle.sd_pieces.specs.cut.Merged.{Mark, untouched, kept, gathered, StreamMark, unused, drained, appended, Marking}
use Rattle.sd_graph.specs.RowOrder.{row_number}
use Rattle.sd_graph.specs.Mode.{Mode, Read, Write, Resolve, Push, Take, do_conflict}
use Rattle.sd_windows.specs.Windows.{moved}
use Rattle.sd_cut.specs.declared.window.Window.{Window}
use Rattle.sd_part.specs.declared.boxes.interval.Interval.{Interval}
use Rattle.sd_part.specs.Boxes.{NumberBox}
use Rattle.sd_part.specs.Hulls.{is_of_elements, window_for}

-- ---- elements

-- the indices of a box, in row order
abbrev pub indices_of : List Interval → List (List ℤ)
indices_of intervals = tuples (map (λ interval. counted_from (pos interval.low) (pos 1) interval.count) intervals)

-- the numbers in a window of the elements of a box
abbrev pub numbers_within : Window → List Interval → List ℕ
numbers_within window intervals = map (λ index. row_number window.extents (moved window.shift index)) (indices_of intervals)

-- they are none without a window
abbrev pub numbers_if : Option Window → List Interval → List ℕ
numbers_if None intervals = []
numbers_if (Some window) intervals = numbers_within window intervals

-- a resolution that has an identity
abbrev pub has_identity : Resolution → Bool
has_identity Sum = true
has_identity Product = true
has_identity Min = true
has_identity Max = true
has_identity And = true
has_identity Or = true
has_identity Xor = true
has_identity Last = false

-- no box of a container is of a mode that conflicts with this one
abbrev pub none_conflicts : List NumberBox → (container : ℕ) → Mode → Bool
none_conflicts boxes container mode = list_all (λ box. not (nat_eq box.container container && do_conflict box.mode mode)) boxes

-- the resolution by which the elements of a box are gathered: its own, where it has an identity and no box of the container does anything else
abbrev pub resolution_among : List NumberBox → (container : ℕ) → Mode → Option Resolution
resolution_among boxes container Read = None
resolution_among boxes container Write = None
resolution_among boxes container (Resolve by) = if has_identity by && none_conflicts boxes container (Resolve by) then Some by else None
resolution_among boxes container Push = None
resolution_among boxes container Take = None

-- what is not gathered is kept
abbrev pub mark_by : Option Resolution → Mark
mark_by None = kept
mark_by (Some by) = gathered by

-- an element of a container, by its number in the window, with its mark
pub record NumberMark : Type 0 where
  pub container : ℕ
  pub number : ℕ
  pub mark : Mark

-- the numbers of the elements that a box touches among others; it touches none where it is of a stream
abbrev pub numbers_among : List NumberBox → NumberBox → List ℕ
numbers_among boxes box = if is_of_elements box.mode then numbers_if (window_for boxes box.container) box.intervals else []

-- the marks of a box among others
abbrev pub marks_of_box : List NumberBox → NumberBox → List NumberMark
marks_of_box boxes box =
    map (λ number. record { container = box.container; number = number; mark = mark_by (resolution_among boxes box.container box.mode) }) (numbers_among boxes box)

-- those of each box
abbrev pub marks_of : List NumberBox → List NumberMark
marks_of boxes = flat_map (marks_of_box boxes) boxes

-- ---- streams

abbrev pub is_push : Mode → Bool
is_push Read = false
is_push Write = false
is_push (Resolve by) = false
is_push Push = true
is_push Take = false

abbrev pub is_take : Mode → Bool
is_take Read = false
is_take Write = false
is_take (Resolve by) = false
is_take Push = false
is_take Take = true

-- values are pushed to a stream
abbrev pub is_pushed_to : List NumberBox → (container : ℕ) → Bool
is_pushed_to boxes container = list_any (λ box. nat_eq box.container container && is_push box.mode) boxes

-- values are taken from a stream
abbrev pub is_taken_from : List NumberBox → (container : ℕ) → Bool
is_taken_from boxes container = list_any (λ box. nat_eq box.container container && is_take box.mode) boxes

-- the streams of boxes
abbrev pub streams_of : List NumberBox → List ℕ
streams_of boxes = map (λ (box : NumberBox). box.container) (filter (λ box. not (is_of_elements box.mode)) boxes)

-- how a stream is marked: drained where values are taken from it, appended where they are only pushed
abbrev pub stream_among : List NumberBox → (container : ℕ) → StreamMark
stream_among boxes container = if is_taken_from boxes container then drained else if is_pushed_to boxes container then appended else unused

-- ---- all

-- the mark of the element of a number: that of the first in the list
abbrev pub mark_at : List NumberMark → (container number : ℕ) → Mark
mark_at [] container number = untouched
mark_at (one ∷ marks) container number = if nat_eq one.container container && nat_eq one.number number then one.mark else mark_at marks container number

-- that of an element that may have a number
abbrev pub mark_if : List NumberMark → (container : ℕ) → Option ℕ → Mark
mark_if marks container None = untouched
mark_if marks container (Some number) = mark_at marks container number

-- how elements and streams are marked by boxes
abbrev pub marking_by : Naming → List NumberBox → Marking
marking_by naming boxes = record {
  element = λ container element. mark_if (marks_of boxes) container (naming container element);
  stream = stream_among boxes;
}
