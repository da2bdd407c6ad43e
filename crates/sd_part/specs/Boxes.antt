-- Boxes in numbers: for each dimension the indices from a low one on.
use Rattle.std.specs.Prelude.{ℕ, ◌+◌, ℤ, pos, ◌-ℤ◌, ◌≤ℤ◌, ◌<ℤ◌, unsigned_abs, int_lt, List, [], ◌∷◌, if◌then◌else◌}
use Rattle.std.specs.Int.{int_max, int_min}
use Rattle.std.specs.List.{AllZip}
use Rattle.sd_range.specs.Affine.{affine_value}
use Rattle.sd_subset.specs.boxes.Box.{Box}
use Rattle.sd_graph.specs.ContainerParts.{Containers, container_at, extents_of}
use Rattle.sd_graph.specs.Mode.{Mode}
use Rattle.sd_prop.specs.propagation.Accesses.{Access}
use Rattle.sd_part.specs.declared.boxes.interval.Interval.{Interval}

-- what an access may touch, in numbers: its container, its mode, and the indices of each dimension
pub record NumberBox : Type 0 where
  pub container : ℕ
  pub mode : Mode
  pub intervals : List Interval

-- no index
abbrev pub no_indices : Interval
no_indices = record { low = 0; count = 0 }

-- the indices from one to another, both included
abbrev pub indices_between : (first last : ℤ) → Interval
indices_between first last = if int_lt last first then no_indices else record { low = unsigned_abs first; count = unsigned_abs (last -ℤ first) + 1 }

-- the indices of a dimension of this extent that are neither below a low number nor above a high one
abbrev pub cut_between : (extent : ℕ) → (low high : ℤ) → Interval
cut_between extent low high = indices_between (int_max low (pos 0)) (int_min high (pos extent -ℤ pos 1))

-- those of each dimension of a container that are between the bounds of a box, where the variables have these values; a box that has fewer dimensions has no index
abbrev pub intervals_at : List ℤ → (extents : List ℕ) → Box → List Interval
intervals_at values [] box = []
intervals_at values (extent ∷ extents) [] = no_indices ∷ intervals_at values extents []
intervals_at values (extent ∷ extents) (bounds ∷ box) =
    cut_between extent (affine_value values bounds.low) (affine_value values bounds.high) ∷ intervals_at values extents box

-- the box of an access in numbers, cut at 0 and the extents of its container
abbrev pub number_box : Containers → List ℤ → Access → NumberBox
number_box containers values access = record {
  container = access.container;
  mode = access.mode;
  intervals = intervals_at values (extents_of (container_at containers access.container)) access.box;
}

-- an index of one dimension is among these
pub record IsIn (interval : Interval) (number : ℤ) : Type 0 where
  pub low : pos interval.low ≤ℤ number
  pub high : number <ℤ pos (interval.low + interval.count)

-- an index is in a box in numbers
abbrev pub IsInIntervals : List Interval → List ℤ → Type 0
IsInIntervals intervals index = AllZip IsIn intervals index
