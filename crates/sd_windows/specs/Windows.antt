-- Windows of containers: boxes of their elements, by numbers of their own.
use Rattle.std.specs.Prelude.{option_and_then, ◌≡◌, ℕ, ◌==◌, ℤ, ◌+ℤ◌, List, [], ◌∷◌, length, Option, Some, None, slice_get, if◌then◌else◌, ⊤}
use Rattle.sd_range.specs.Subset.{inside, whole}
use Rattle.sd_pieces.specs.cut.Naming.{Naming}
use Rattle.sd_graph.specs.RowOrder.{row_number}
use Rattle.sd_graph.specs.ContainerParts.{Containers, container_at, extents_of}
use Rattle.sd_graph.specs.Context.{Reach, own_reach}

-- a box of elements: what is added to an index to find its place in the box, and the box's extents
pub record Window : Type 0 where
  pub shift : List ℤ
  pub extents : List ℕ

-- an index as it is in a box
abbrev pub moved : (shift : List ℤ) → (index : List ℤ) → List ℤ
moved [] index = []
moved (first ∷ shift) [] = first ∷ moved shift []
moved (first ∷ shift) (number ∷ index) = (first +ℤ number) ∷ moved shift index

-- the number of an element in a window, in row order
abbrev pub place_within : Window → (index : List ℤ) → Option ℕ
place_within window index = if inside window.extents (moved window.shift index) then Some (row_number window.extents (moved window.shift index)) else None

-- the number in a window of the element that has this index, where this is its number in row order
abbrev pub place_if : (extents : List ℕ) → Window → (element : ℕ) → (index : List ℤ) → Option ℕ
place_if extents window element index =
    if inside extents index then (if row_number extents index == element then place_within window index else None) else None

-- the numbers of a container's elements in its window; without a window they stay
abbrev pub numbers_in_window : (extents : List ℕ) → Option Window → (element : ℕ) → Option ℕ
numbers_in_window extents None element = Some element
numbers_in_window extents (Some window) element = option_and_then (place_if extents window element) (slice_get (whole extents) element)

-- the numbers of the elements of a graph's containers in their windows
abbrev pub numbers_of : Containers → (windows : ℕ → Option Window) → Naming
numbers_of containers windows container = numbers_in_window (extents_of (container_at containers container)) (windows container)

-- a window has the dimensions of its container
abbrev pub HasDimensions : (extents : List ℕ) → Option Window → Type 0
HasDimensions extents None = ⊤
HasDimensions extents (Some window) = length window.shift ≡ length extents

-- how a container is reached through its window
abbrev pub reach_in_window : Containers → (container : ℕ) → Option Window → Reach
reach_in_window containers container None = own_reach containers container
reach_in_window containers container (Some window) = record {
  level = 0;
  container = container;
  find = λ index. if inside (extents_of (container_at containers container)) index then place_within window index else None;
}
