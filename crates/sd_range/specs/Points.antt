-- The points of a list of ranges, pieces of them, and a way through them.
use Rattle.std.specs.Prelude.{◌≡◌, ◌⊎◌, ℕ, ◌+◌, ◌*◌, ℤ, ◌<ℤ◌, List, [], ◌∷◌, take, drop, map, Option, None, slice_get}
use Rattle.std.specs.List.{flat_map, fold}
use Rattle.sd_range.specs.Range.{range_values}
use Rattle.sd_range.specs.declared.range.Range.{Range}

-- each member of the first list, in order, before each tuple of the others: lexicographic order
abbrev pub tuples : List (List ℤ) → List (List ℤ)
tuples [] = [] ∷ []
tuples (firsts ∷ others) = flat_map (λ first. map (λ rest. first ∷ rest) (tuples others)) firsts

-- how many tuples there are of lists of these lengths
abbrev pub product : List ℕ → ℕ
product counts = fold (λ all count. all * count) 1 counts

-- lexicographic order: the first number that differs is less
abbrev pub Precedes : List ℤ → List ℤ → Type 0
Precedes [] later = ⊥
Precedes (number ∷ point) [] = ⊥
Precedes (number ∷ point) (other ∷ later) = (number <ℤ other) ⊎ ((number ≡ other) × Precedes point later)

-- the ranges of parameters, each of which has the variable that takes its values
abbrev pub ranges_of : List (ℕ × Range) → List Range
ranges_of parameters = map (λ parameter. parameter.1) parameters

-- the values of each range, where the variables have these values
abbrev pub values_of_ranges : List Range → List ℤ → List (List ℤ)
values_of_ranges ranges values = map (range_values values) ranges

-- the points of the ranges, where the variables have these values
abbrev pub points : List Range → List ℤ → List (List ℤ)
points ranges values = tuples (values_of_ranges ranges values)

-- the values of the first parameter
abbrev pub first_values : List (List ℤ) → List ℤ
first_values [] = []
first_values (firsts ∷ others) = firsts

-- the values of each parameter, but of the first one only so many, from the one of this number on
abbrev pub piece_of : ℕ → ℕ → List (List ℤ) → List (List ℤ)
piece_of first count [] = []
piece_of first count (firsts ∷ others) = take count (drop first firsts) ∷ others

-- the points of pieces that follow each other, of so many values of the first parameter each, from the one of this number on
abbrev pub points_of_pieces : ℕ → List ℕ → List (List ℤ) → List (List (List ℤ))
points_of_pieces first [] parameters = []
points_of_pieces first (count ∷ counts) parameters = tuples (piece_of first count parameters) ∷ points_of_pieces (first + count) counts parameters

-- a way through points: its ranges, the values that each parameter takes on it, the point at which it stands, if at one, and the points that are left
pub record Walk : Type 0 where
  pub ranges : List Range
  pub parameters : List (List ℤ)
  pub current : Option (List ℤ)
  pub left : List (List ℤ)

-- before the first of all points of the ranges
abbrev pub opening : List Range → List ℤ → Walk
opening ranges values = record { ranges = ranges; parameters = values_of_ranges ranges values; current = None; left = points ranges values }

-- one step on: to the first of the points that are left, or to none where none is left
abbrev pub moved : Walk → Walk
moved walk = record walk { current = slice_get walk.left 0; left = drop 1 walk.left }

-- before the first point of a piece
abbrev pub narrowed : ℕ → ℕ → Walk → Walk
narrowed first count walk = record walk { parameters = piece_of first count walk.parameters; left = tuples (piece_of first count walk.parameters) }
