-- Strides of an array that is kept in row order.
use Rattle.std.specs.Prelude.{ℕ, ℤ, pos, ◌+ℤ◌, ◌*ℤ◌, List, [], ◌∷◌}
use Rattle.sd_range.specs.Points.{product}

-- how far elements lie apart whose indices differ by one in a dimension: the product of the extents behind it
abbrev pub strides : (shape : List ℕ) → List ℕ
strides [] = []
strides (extent ∷ shape) = product shape ∷ strides shape

-- the sum of each stride times the number of its dimension
abbrev pub strided : (strides : List ℕ) → (index : List ℤ) → ℤ
strided [] index = pos 0
strided (stride ∷ strides) [] = pos 0
strided (stride ∷ strides) (number ∷ index) = (pos stride *ℤ number) +ℤ strided strides index
