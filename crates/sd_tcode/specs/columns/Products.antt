-- Products of elements, added up.
use Rattle.std.specs.Prelude.{ℕ, zero, suc, ℤ, pos, ◌+ℤ◌, ◌*ℤ◌, unsigned_abs, List, slice_index_or}
use Rattle.sd_num.specs.Wrapped.{wrapped}
use Rattle.sd_tcode.specs.declared.columns.spacing.Spaced.{Spaced}
use Rattle.sd_tcode.specs.columns.Columns.{value_on}

-- the element of a run; 0 for one that is not there
abbrev pub element_on : (cells : List ℤ) → Spaced → (k : ℕ) → ℤ
element_on cells elements k = slice_index_or cells (unsigned_abs (value_on elements k)) (pos 0)

-- the product of two elements
abbrev pub product_on : (left : List ℤ) (lefts : Spaced) (right : List ℤ) (rights : Spaced) → (k : ℕ) → ℤ
product_on left lefts right rights k = wrapped (element_on left lefts k *ℤ element_on right rights k)

-- a number to which the values of so many runs are added, one after another
abbrev pub added : (value : (run : ℕ) → ℤ) → (number : ℤ) → (count : ℕ) → ℤ
added value number zero = number
added value number (suc count) = wrapped (added value number count +ℤ value count)
