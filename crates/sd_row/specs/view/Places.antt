-- Places of a subset, and the elements to which they lead.
use Rattle.std.specs.Prelude.{◌≡◌, ℕ, ◌+◌, ◌<◌, ◌^◌, ℤ, pos, ◌+ℤ◌, ◌≤ℤ◌, List, length, replicate, Some, slice_index_or, slice_set}
use Rattle.std.specs.List.{AllZip}
use Rattle.sd_work.specs.Memory.{Reference}
use Rattle.sd_graph.specs.Context.{Context, link_element}
use Rattle.sd_graph.specs.declared.link.Link.{Link}

-- the last number of a dimension that has so many
abbrev pub IsLast : (extent : ℕ) → (number : ℤ) → Type 0
IsLast extent number = (number +ℤ pos 1 ≡ pos extent) × (pos 0 ≤ℤ number)

-- the place that is one further than the first one in one dimension
abbrev pub unit_place : (count dim : ℕ) → List ℤ
unit_place count dim = slice_set (replicate count (pos 0)) dim (pos 1)

-- the element of this number in the container of a link
abbrev pub element_there : Context → Link → (element : ℕ) → Reference
element_there here link element = record { level = (here.reach link.memlet.container).level; container = (here.reach link.memlet.container).container; element = element }

-- a place leads to the element of this number
abbrev pub LeadsTo : Context → Link → (at : List ℤ) → (element : ℕ) → Type 0
LeadsTo here link at element = link_element here link at ≡ Some (element_there here link element)

-- the last place leads to an element
pub record HasLast (here : Context) (link : Link) (extents : List ℕ) : Type 0 where
  pub last : List ℤ
  pub is_last : AllZip IsLast extents last
  pub element : ℕ
  pub few : element < 2 ^ 64
  pub leads : LeadsTo here link last element

-- in each of these dimensions that has more than one place, the next one to the first place leads to an element that is a stride further
abbrev pub AreStrides : Context → Link → (extents strides : List ℕ) → (first : ℕ) → Type 0
AreStrides here link extents strides first =
    (dim : ℕ) → dim < length strides → 1 < slice_index_or extents dim 0 → LeadsTo here link (unit_place (length extents) dim) (first + slice_index_or strides dim 0)
