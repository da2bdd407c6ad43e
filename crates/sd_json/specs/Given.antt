-- What an arrays file gives.
use Rattle.std.specs.Prelude.{◌≡◌, ℕ, ℤ, List, length}
use Rattle.sd_range.specs.Points.{product}
use Rattle.sd_json.specs.declared.array.Array.{Array}

-- a number for each element of the shape
abbrev pub IsFull : Array → Type 0
IsFull a = length a.elements ≡ product a.shape

-- a value for each size symbol that the file names, in source order, and an array for each argument, in the order of the signature
pub record Contents : Type 0 where
  pub sizes : List (List ℕ × ℤ)
  pub arrays : List Array
