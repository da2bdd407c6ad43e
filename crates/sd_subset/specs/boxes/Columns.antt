-- The bounds of one dimension of several boxes.
use Rattle.std.specs.Prelude.{◌≡◌, ℕ, List, [], ◌∷◌, drop, Option, Some, None, true, ⊤, if◌then◌else◌}
use Rattle.std.specs.List.{flat_map, fold, list_all}
use Rattle.sd_subset.specs.declared.boxes.bounds.Bounds.{Bounds}
use Rattle.sd_subset.specs.declared.boxes.joining.Widest.{Widest}
use Rattle.sd_subset.specs.boxes.Box.{Box}
use Rattle.sd_subset.specs.boxes.Hull.{first_of, is_level, wider}

-- those of the boxes that have the dimension
abbrev pub column : (dimension : ℕ) → List Box → List Bounds
column dimension boxes = flat_map (λ box. first_of (drop dimension box)) boxes

abbrev pub bounds_in : Widest → Bounds
bounds_in widest = record { low = widest.low.now; high = widest.high.now }

-- the widest of them, where they can be compared
abbrev pub widest_of : List Bounds → Option Bounds
widest_of [] = None
widest_of (first ∷ others) = if list_all (is_level first) others then Some (fold wider first others) else None

-- these are the widest of bounds that can all be compared, and have the terms of all; without bounds there are none
abbrev pub IsWidest : Option Widest → List Bounds → Type 0
IsWidest None [] = ⊤
IsWidest None (first ∷ others) = ⊥
IsWidest (Some widest) [] = ⊥
IsWidest (Some widest) (first ∷ others) =
    ((list_all (is_level first) others ≡ true) × (fold wider first others ≡ bounds_in widest)) × (widest.low.now.terms ≡ first.low.terms) × (widest.high.now.terms ≡ first.high.terms)
