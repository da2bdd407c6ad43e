-- What accesses have to find as it was.
use Rattle.std.specs.Prelude.{◌≡◌, ◌≢◌, ◌⊎◌, ℕ, ℤ, List, Option, Some}
use Rattle.std.specs.List.{Contains}
use Rattle.sd_num.specs.declared.resolution.Resolution.{Resolution}
use Rattle.sd_work.specs.Memory.{Memories}
use Rattle.sd_work.specs.Touch.{Touch, writes, pushes, takes}
use Rattle.sd_pieces.specs.course.Reading.{reads_element, reads_stream, HaveOneWidth, AgreeAt}
use Rattle.sd_pieces.specs.cut.Merged.{kept, drained, Marking, outermost}
use Rattle.sd_subset.specs.boxes.Box.{IsInBox}
use Rattle.sd_graph.specs.ContainerParts.{Containers, container_at}
use Rattle.sd_graph.specs.Context.{found}
use Rattle.sd_graph.specs.Mode.{Take}
use Rattle.sd_prop.specs.propagation.Accesses.{Access}
use Rattle.sd_race.specs.cover.Touched.{AllowsRead}

-- an element of a container is at an index in the box of an access
pub record IsInAccess (containers : Containers) (values : List ℤ) (access : Access) (container element : ℕ) : Type 0 where
  pub same : access.container ≡ container
  pub index : List ℤ
  pub inside : IsInBox values access.box index
  pub is : found (container_at containers container) index ≡ Some element

-- an element is kept: it is in the box of an access that may read or replace it, or in those of two in different modes, as of two resolutions
pub record KeepsElement (containers : Containers) (values : List ℤ) (accesses : List Access) (container element : ℕ) : Type 0 where
  pub first : Access
  pub second : Access
  pub is_first : Contains accesses first
  pub is_second : Contains accesses second
  pub first_has : IsInAccess containers values first container element
  pub second_has : IsInAccess containers values second container element
  pub keeps : AllowsRead first.mode ⊎ (first.mode ≢ second.mode)

-- a stream is drained: an access takes from it
abbrev pub DrainsStream : List Access → (container : ℕ) → Type 0
DrainsStream accesses container = (access : Access) × Contains accesses access × (access.container ≡ container) × (access.mode ≡ Take)

-- touches leave alone what accesses keep or drain: no kept element is written, no drained stream is pushed into or taken from
pub record LeavesAlone (containers : Containers) (values : List ℤ) (accesses : List Access) (Touched : Touch → Type 0) : Type 0 where
  pub elements : (container element : ℕ) (by : Option Resolution) → KeepsElement containers values accesses container element → Touched (writes (outermost container element) by) → ⊥
  pub pushed : (container : ℕ) → DrainsStream accesses container → Touched (pushes 0 container) → ⊥
  pub taken : (container : ℕ) → DrainsStream accesses container → Touched (takes 0 container) → ⊥

-- two stacks of memories have the same in the outermost memory where accesses keep an element or drain a stream, and its containers have the same widths
pub record HaveKept (containers : Containers) (values : List ℤ) (accesses : List Access) (memories others : Memories) : Type 0 where
  pub elements : (container element : ℕ) → KeepsElement containers values accesses container element → AgreeAt (reads_element (outermost container element)) memories others
  pub streams : (container : ℕ) → DrainsStream accesses container → AgreeAt (reads_stream 0 container) memories others
  pub widths : (container : ℕ) → HaveOneWidth 0 container memories others

-- a marking asks for no more than accesses do: what it keeps they keep, what it drains they drain
pub record AsksNoMore (containers : Containers) (values : List ℤ) (accesses : List Access) (marking : Marking) : Type 0 where
  pub elements : (container element : ℕ) → marking.element container element ≡ kept → KeepsElement containers values accesses container element
  pub streams : (container : ℕ) → marking.stream container ≡ drained → DrainsStream accesses container
