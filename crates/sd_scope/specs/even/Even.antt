-- Accesses at equal distances, while one variable takes numbers at equal distances.
use Rattle.std.specs.Prelude.{◌≡◌, ℕ, ◌≤◌, ℤ, pos, ◌+ℤ◌, ◌*ℤ◌, List, Option, Some, Bool, true, false, [], ◌∷◌}
use Rattle.sd_range.specs.declared.subset.Dim.{Dim}
use Rattle.sd_range.specs.declared.subset.Dim.TheVariants.{Index, Span}
use Rattle.sd_range.specs.Variables.{with_variable}
use Rattle.sd_graph.specs.Context.{index_at}

-- the number at a position of numbers at equal distances
abbrev pub spaced : (first step : ℤ) → (k : ℕ) → ℤ
spaced first step k = first +ℤ (step *ℤ pos k)

-- while a variable goes at equal distances from a value at which an element is found to another one, elements are found at equal distances
pub record IsEven (find : List ℤ → Option ℕ) : Type 0 where
  pub between : (dims : List Dim) (values : List ℤ) (variable : ℕ) (begin step : ℤ) (at : List ℤ) (n a b : ℕ) →
      find (index_at dims (with_variable variable begin values) at) ≡ Some a →
      find (index_at dims (with_variable variable (spaced begin step n) values) at) ≡ Some b →
      (distance : ℤ) × (pos b ≡ spaced (pos a) distance n)
      × ((k : ℕ) → k ≤ n → (e : ℕ) × (find (index_at dims (with_variable variable (spaced begin step k) values) at) ≡ Some e) × (pos e ≡ spaced (pos a) distance k))

-- a subset of one element: it has an index in each dimension
abbrev pub is_scalar : List Dim → Bool
is_scalar [] = true
is_scalar (Index at ∷ dims) = is_scalar dims
is_scalar (Span range ∷ dims) = false
