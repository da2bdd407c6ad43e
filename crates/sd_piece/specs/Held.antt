-- When a memory has what the accesses of a piece may touch.
use Rattle.std.specs.Prelude.{◌≡◌, ℕ, zero, suc, ◌<◌, ℤ, pos, ◌-ℤ◌, List, [], ◌∷◌, map, Bool, true, false}
use Rattle.std.specs.List.{AllByRecursion, Contains}
use Rattle.sd_graph.specs.ContainerParts.{Containers, container_at, extents_of}
use Rattle.sd_mem.specs.mem.Shaped.{Shaped, shape_at, HasStream, IsHere}
use Rattle.sd_part.specs.Boxes.{NumberBox}
use Rattle.sd_part.specs.Hulls.{is_of_elements, has_index, has_elements}

-- the last index of an array of these extents
abbrev pub last_index : (extents : List ℕ) → List ℤ
last_index extents = map (λ extent. pos extent -ℤ pos 1) extents

-- the same with the number behind the last one in a dimension
abbrev pub beyond : (dimension : ℕ) → (extents : List ℕ) → List ℤ
beyond dimension [] = []
beyond zero (extent ∷ extents) = pos extent ∷ last_index extents
beyond (suc dimension) (extent ∷ extents) = (pos extent -ℤ pos 1) ∷ beyond dimension extents

-- a container is an array of these extents, none of which is 0, with all its elements
pub record HasArray (extents : List ℕ) (memory : Shaped) (container : ℕ) : Type 0 where
  pub some : AllByRecursion (λ extent. 0 < extent) extents
  pub shape : shape_at memory container ≡ extents
  pub here : IsHere memory container

-- what a box touches: an array as the graph has it where it has elements of one, or a stream, of which no elements are touched
abbrev pub HasTouchedSo : (of_elements : Bool) → Containers → Shaped → List NumberBox → NumberBox → Type 0
HasTouchedSo true containers memory boxes box = has_index box.intervals ≡ true → HasArray (extents_of (container_at containers box.container)) memory box.container
HasTouchedSo false containers memory boxes box = HasStream memory box.container × (has_elements boxes box.container ≡ false)

abbrev pub HasTouchedBy : Containers → Shaped → List NumberBox → NumberBox → Type 0
HasTouchedBy containers memory boxes box = HasTouchedSo (is_of_elements box.mode) containers memory boxes box

-- a memory has what each of these boxes touches
abbrev pub HasTouched : Containers → Shaped → List NumberBox → Type 0
HasTouched containers memory boxes = (box : NumberBox) → Contains boxes box → HasTouchedBy containers memory boxes box
