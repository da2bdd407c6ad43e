-- A way through the indices of a link's elements.
use Rattle.std.specs.Prelude.{ℤ, List}

-- the index at which it stands, and those that are left
pub record IndexWay : Type 0 where
  pub at : List ℤ
  pub left : List (List ℤ)
