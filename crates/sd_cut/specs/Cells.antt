-- The elements of a window, and what a memory has there.
use Rattle.std.specs.Prelude.{ℕ, ℤ, pos, ◌-ℤ◌, neg_ℤ, List, [], ◌∷◌, Option, Some, None}
use Rattle.sd_range.specs.declared.subset.Dim.{Dim}
use Rattle.sd_range.specs.declared.subset.Dim.TheVariants.{Span}
use Rattle.sd_range.specs.declared.subset.Subset.{Subset}
use Rattle.sd_work.specs.Memory.{seen}
use Rattle.sd_mem.specs.mem.Shaped.{Shaped, alone, element_at}
use Rattle.sd_windows.specs.MapPieces.{number}

-- the indices of one dimension that are inside a window: from what its shift takes to 0 on
abbrev pub span_within : (shift : ℤ) → (extent : ℕ) → Dim
span_within shift extent = Span (record { begin = number (neg_ℤ shift); ends = number ((pos extent -ℤ pos 1) -ℤ shift) ∷ []; step = pos 1 })

-- and those of each dimension
abbrev pub spans_within : (shift : List ℤ) → (extents : List ℕ) → List Dim
spans_within [] extents = []
spans_within (first ∷ shift) [] = []
spans_within (first ∷ shift) (extent ∷ extents) = span_within first extent ∷ spans_within shift extents

-- the elements of a window
abbrev pub subset_within : (shift : List ℤ) → (extents : List ℕ) → Subset
subset_within shift extents = record { dims = spans_within shift extents }

-- a value, or 0 where there is none
abbrev pub value_or_zero : Option ℤ → ℤ
value_or_zero None = pos 0
value_or_zero (Some value) = value

-- the value of a container's element at an index; 0 where that is outside
abbrev pub value_at : Shaped → (container : ℕ) → (index : List ℤ) → ℤ
value_at memory container index = value_or_zero (seen (element_at memory container index) (alone memory))
