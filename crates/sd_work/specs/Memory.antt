-- Containers in memories, the innermost memory first.
use Rattle.std.specs.Prelude.{ℕ, ℤ, pos, List, [], Option, Some, None, slice_index_or}
use Rattle.sd_num.specs.declared.width.Width.{Width}
use Rattle.sd_num.specs.declared.width.Width.TheVariants.{W64}

-- what a container of a width holds: an array its elements in row order, a stream its values, the oldest first
pub data Contents : Type 0 where
  array : (width : Width) → (elements : List ℤ) → Contents
  stream : (width : Width) → (values : List ℤ) → Contents

-- what stands for a container that has no place in a memory: an array without elements
abbrev pub absent : Contents
absent = array W64 []

-- the contents of each container, by number
abbrev pub Memory : Type 0
Memory = List Contents

-- a stack of memories, the innermost first
abbrev pub Memories : Type 0
Memories = List Memory

-- an element of an array: its memory, counted from the innermost, the container's number in it, and the element's number in row order
pub record Reference : Type 0 where
  pub level : ℕ
  pub container : ℕ
  pub element : ℕ

-- the width of the elements or values
abbrev pub width_of : Contents → Width
width_of (array width elements) = width
width_of (stream width values) = width

-- the elements of an array; a stream has none
abbrev pub elements_of : Contents → List ℤ
elements_of (array width elements) = elements
elements_of (stream width values) = []

-- the values of a stream; an array has none
abbrev pub values_of : Contents → List ℤ
values_of (array width elements) = []
values_of (stream width values) = values

-- what a container of a memory of the stack holds; nothing where there is no such container
abbrev pub contents_of : (level container : ℕ) → Memories → Contents
contents_of level container memories = slice_index_or (slice_index_or memories level []) container (stream W64 [])

-- the value of an element; 0 where there is no such element
abbrev pub look : Reference → Memories → ℤ
look reference memories = slice_index_or (elements_of (contents_of reference.level reference.container memories)) reference.element (pos 0)

-- the value of an element, where an access is inside
abbrev pub seen : Option Reference → Memories → Option ℤ
seen None memories = None
seen (Some reference) memories = Some (look reference memories)

-- the values that wait in a stream, the oldest first
abbrev pub waiting : (level container : ℕ) → Memories → List ℤ
waiting level container memories = values_of (contents_of level container memories)
