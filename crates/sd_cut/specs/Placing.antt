-- The numbers of elements in windows, by their indices.
use Rattle.std.specs.Prelude.{ℕ, ◌==◌, ℤ, pos, ◌+ℤ◌, int_le, int_lt, ◌&&◌, unsigned_abs, List, length, Option, Some, None, if◌then◌else◌}
use Rattle.sd_windows.specs.Windows.{Window, place_within}

-- a number of an index as it is in a window, if it is below the extent
abbrev pub number_below : (shift number : ℤ) → (extent : ℕ) → Option ℕ
number_below shift number extent =
    if int_le (pos 0) (shift +ℤ number) && int_lt (shift +ℤ number) (pos extent) then Some (unsigned_abs (shift +ℤ number)) else None

-- a number, or 0 where there is none
abbrev pub number_or_zero : Option ℕ → ℕ
number_or_zero None = 0
number_or_zero (Some number) = number

-- the number in a window of the element at an index of as many numbers as it has
abbrev pub number_in : Option Window → (index : List ℤ) → Option ℕ
number_in None index = None
number_in (Some window) index = if length index == length window.shift then place_within window index else None
