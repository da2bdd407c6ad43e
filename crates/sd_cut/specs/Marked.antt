-- What the accesses of a part mark, and that its windows have what they may touch.
use Rattle.std.specs.Prelude.{◌≡◌, ◌⊎◌, ℕ, ℤ, List, Some, ⊤}
use Rattle.std.specs.List.{Contains}
use Rattle.sd_subset.specs.boxes.Box.{IsInBox}
use Rattle.sd_pieces.specs.cut.Naming.{Naming}
use Rattle.sd_pieces.specs.cut.Merged.{kept, gathered, StreamMark, drained, appended, Mark, Marking}
use Rattle.sd_graph.specs.ContainerParts.{Containers, container_at}
use Rattle.sd_graph.specs.Context.{found}
use Rattle.sd_graph.specs.Mode.{Mode, Read, Write, Resolve, Push, Take}
use Rattle.sd_prop.specs.propagation.Accesses.{Access}

-- an element that may be touched in a mode is marked so
abbrev pub MarksElement : Mode → Mark → Type 0
MarksElement Read mark = mark ≡ kept
MarksElement Write mark = mark ≡ kept
MarksElement (Resolve by) mark = (mark ≡ kept) ⊎ (mark ≡ gathered by)
MarksElement Push mark = ⊤
MarksElement Take mark = ⊤

-- a stream that may be touched in a mode is marked so
abbrev pub MarksStream : Mode → StreamMark → Type 0
MarksStream Read mark = ⊤
MarksStream Write mark = ⊤
MarksStream (Resolve by) mark = ⊤
MarksStream Push mark = (mark ≡ drained) ⊎ (mark ≡ appended)
MarksStream Take mark = mark ≡ drained

-- each element in the box of an access has a number in its window and is marked by the mode, and so is its stream
pub record IsAccessMarked (containers : Containers) (values : List ℤ) (naming : Naming) (marking : Marking) (access : Access) : Type 0 where
  pub element : (index : List ℤ) (element : ℕ) → IsInBox values access.box index → found (container_at containers access.container) index ≡ Some element
      → MarksElement access.mode (marking.element access.container element)
  pub stream : MarksStream access.mode (marking.stream access.container)
  pub number : (index : List ℤ) (element : ℕ) → IsInBox values access.box index → found (container_at containers access.container) index ≡ Some element
      → (number : ℕ) × (naming access.container element ≡ Some number)

-- so it is for each access
abbrev pub AreAccessesMarked : Containers → List ℤ → Naming → Marking → List Access → Type 0
AreAccessesMarked containers values naming marking accesses = (access : Access) → Contains accesses access → IsAccessMarked containers values naming marking access
