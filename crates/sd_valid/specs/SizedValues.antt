-- The values of the variables where the size symbols, which are the first ones, have their sizes.
use Rattle.std.specs.Prelude.{◌≡◌, ℕ, ℤ, List, ◌++◌, length, drop}
use Rattle.sd_num.specs.Wrapped.{wrapped}
use Rattle.sd_range.specs.Affine.{variable_value}

-- the sizes, and then the values of the other variables
abbrev pub sized : (sizes : List ℤ) → (values : List ℤ) → List ℤ
sized sizes values = sizes ++ drop (length sizes) values

-- each size is an element as it stands
abbrev pub AreElements : (sizes : List ℤ) → Type 0
AreElements sizes = (symbol : ℕ) → wrapped (variable_value sizes symbol) ≡ variable_value sizes symbol
