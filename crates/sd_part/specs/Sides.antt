-- The dimensions of a box in a window, and the numbers of its elements there.
use Rattle.std.specs.Prelude.{ℕ, zero, suc, ◌+◌, ◌*◌, ℤ, pos, ◌+ℤ◌, ◌≤ℤ◌, unsigned_abs, List, [], ◌∷◌}
use Rattle.std.specs.List.{flat_map, AllZip}
use Rattle.sd_part.specs.declared.boxes.interval.Interval.{Interval}
use Rattle.sd_part.specs.declared.numbers.Side.{Side}

-- the places in a dimension of a window of the indices that a box has
abbrev pub side_of : (shift : ℤ) → (extent : ℕ) → Interval → Side
side_of shift extent interval = record { first = unsigned_abs (shift +ℤ pos interval.low); count = interval.count; extent = extent }

-- so in each dimension
abbrev pub sides_of : (shift : List ℤ) → (extents : List ℕ) → List Interval → List Side
sides_of [] extents intervals = []
sides_of (first ∷ shift) [] intervals = []
sides_of (first ∷ shift) (extent ∷ extents) [] = []
sides_of (first ∷ shift) (extent ∷ extents) (interval ∷ intervals) = side_of first extent interval ∷ sides_of shift extents intervals

-- a box does not begin below a window
abbrev pub BeginsWithin : (shift : List ℤ) → List Interval → Type 0
BeginsWithin shift intervals = AllZip (λ first interval. pos 0 ≤ℤ (first +ℤ pos interval.low)) shift intervals

-- so many numbers from one on
abbrev pub numbers_on : (from count : ℕ) → List ℕ
numbers_on from zero = []
numbers_on from (suc count) = from ∷ numbers_on (suc from) count

-- the numbers in row order of the elements at these places, in a row that has this number
abbrev pub numbers_along : List Side → (row : ℕ) → List ℕ
numbers_along [] row = row ∷ []
numbers_along (side ∷ sides) row = flat_map (λ place. numbers_along sides ((row * side.extent + side.first) + place)) (numbers_on 0 side.count)
