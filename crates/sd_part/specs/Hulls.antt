-- The windows of a part: for each container the hull of its boxes.
use Rattle.std.specs.Prelude.{◌≡◌, ℕ, nat_eq, nat_lt, ◌+◌, ◌-◌, ◌<◌, min, max, pos, neg_ℤ, List, [], ◌∷◌, map, length, Option, Some, None, option_map, Bool, true, false, ◌&&◌, if◌then◌else◌, slice_index_or}
use Rattle.std.specs.List.{filter, fold, list_all, list_any, AllByRecursion, Contains}
use Rattle.sd_graph.specs.Mode.{Mode, Read, Write, Resolve, Push, Take}
use Rattle.sd_cut.specs.declared.window.Window.{Window}
use Rattle.sd_part.specs.declared.boxes.interval.Interval.{Interval}
use Rattle.sd_part.specs.Boxes.{NumberBox}

-- each dimension has an index
abbrev pub has_index : List Interval → Bool
has_index intervals = list_all (λ interval. nat_lt 0 interval.count) intervals

-- elements are touched so, and not a stream
abbrev pub is_of_elements : Mode → Bool
is_of_elements Read = true
is_of_elements Write = true
is_of_elements (Resolve by) = true
is_of_elements Push = false
is_of_elements Take = false

-- a box is of a container, and has an index
abbrev pub has_index_of : (container : ℕ) → NumberBox → Bool
has_index_of container box = nat_eq box.container container && has_index box.intervals

-- the indices from the least to the greatest of two dimensions that have some
abbrev pub joined : Interval → Interval → Interval
joined one other = record { low = min one.low other.low; count = max (one.low + one.count) (other.low + other.count) - min one.low other.low }

-- so in each dimension of both
abbrev pub joined_each : List Interval → List Interval → List Interval
joined_each [] others = []
joined_each (one ∷ ones) [] = []
joined_each (one ∷ ones) (other ∷ others) = joined one other ∷ joined_each ones others

-- a hull, if there is one, with one box more
abbrev pub with_box : Option (List Interval) → NumberBox → Option (List Interval)
with_box None box = Some box.intervals
with_box (Some hull) box = Some (joined_each hull box.intervals)

-- the hull of the boxes of a container that have an index, if one has
abbrev pub hull_of : (container : ℕ) → List NumberBox → Option (List Interval)
hull_of container boxes = fold with_box None (filter (has_index_of container) boxes)

-- the window of these indices
abbrev pub window_over : List Interval → Window
window_over intervals = record { shift = map (λ interval. neg_ℤ (pos interval.low)) intervals; extents = map (λ interval. interval.count) intervals }

-- elements of a container are touched
abbrev pub has_elements : List NumberBox → (container : ℕ) → Bool
has_elements boxes container = list_any (λ box. nat_eq box.container container && is_of_elements box.mode) boxes

-- the window of a container of which elements are touched: the hull of its boxes that have an index
abbrev pub window_for : List NumberBox → (container : ℕ) → Option Window
window_for boxes container = if has_elements boxes container then option_map window_over (hull_of container boxes) else None

-- the containers of boxes have numbers below this one
abbrev pub AreBelow : ℕ → List NumberBox → Type 0
AreBelow number boxes = AllByRecursion (λ (box : NumberBox). box.container < number) boxes

-- a list of windows has that of each container; behind the end of the list there is none
abbrev pub AreWindowsFor : List NumberBox → List (Option Window) → Type 0
AreWindowsFor boxes windows = (container : ℕ) → slice_index_or windows container None ≡ window_for boxes container

-- each box of a container has so many dimensions
abbrev pub AreOfLength : (count container : ℕ) → List NumberBox → Type 0
AreOfLength count container boxes = (box : NumberBox) → Contains boxes box → box.container ≡ container → length box.intervals ≡ count

-- all boxes of a container have as many dimensions
abbrev pub AreEven : List NumberBox → Type 0
AreEven boxes = (box : NumberBox) → Contains boxes box → AreOfLength (length box.intervals) box.container boxes
