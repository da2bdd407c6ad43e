-- A memory with the extents of its arrays.
use Rattle.std.specs.Prelude.{◌≡◌, ℕ, ◌<◌, ℤ, List, [], ◌∷◌, ◌++◌, map, length, Option, Some, None, option_map, if◌then◌else◌, slice_index_or, slice_set, ⊤}
use Rattle.sd_range.specs.Points.{product}
use Rattle.sd_range.specs.Subset.{inside}
use Rattle.sd_num.specs.Width.{wrapped_to}
use Rattle.sd_num.specs.declared.width.Width.{Width}
use Rattle.sd_work.specs.Memory.{Contents, array, stream, Memory, Memories, Reference, contents_of, width_of}
use Rattle.sd_num.specs.declared.resolution.Resolution.{Resolution}
use Rattle.sd_work.specs.Change.{Change, write, changed_at, own_after, with_values}
use Rattle.sd_graph.specs.RowOrder.{row_number}

-- the extents of each container, of which a stream has none, and what it holds
pub record Shaped : Type 0 where
  pub shapes : List (List ℕ)
  pub contents : Memory

-- the extents of a container
abbrev pub shape_at : Shaped → (container : ℕ) → List ℕ
shape_at memory container = slice_index_or memory.shapes container []

-- what a container holds
abbrev pub contents_at : Shaped → (container : ℕ) → Contents
contents_at memory container = contents_of 0 container (memory.contents ∷ [])

-- the width of a container
abbrev pub width_at : Shaped → (container : ℕ) → Width
width_at memory container = width_of (contents_at memory container)

-- the memory as the one memory of a stack
abbrev pub alone : Shaped → Memories
alone memory = memory.contents ∷ []

-- contents are an array
abbrev pub IsArray : Contents → Type 0
IsArray (array width elements) = ⊤
IsArray (stream width values) = ⊥

-- contents are a stream
abbrev pub IsStream : Contents → Type 0
IsStream (array width elements) = ⊥
IsStream (stream width values) = ⊤

-- contents are an array with an element for each index
abbrev pub IsWhole : (shape : List ℕ) → Contents → Type 0
IsWhole shape (array width elements) = length elements ≡ product shape
IsWhole shape (stream width values) = ⊥

-- a container is an array that is here: it holds an element for each index
abbrev pub IsHere : Shaped → (container : ℕ) → Type 0
IsHere memory container = IsWhole (shape_at memory container) (contents_at memory container)

-- a container is there, and it is a stream
abbrev pub HasStream : Shaped → (container : ℕ) → Type 0
HasStream memory container = (container < length memory.contents) × IsStream (contents_at memory container)

-- the number of an element in row order, where the index is inside
abbrev pub place_in : (shape : List ℕ) → (index : List ℤ) → Option ℕ
place_in shape index = if inside shape index then Some (row_number shape index) else None

-- an element of the memory by its number in row order
abbrev pub element : (container place : ℕ) → Reference
element container place = record { level = 0; container = container; element = place }

-- the element at an index, where that is inside
abbrev pub element_at : Shaped → (container : ℕ) → (index : List ℤ) → Option Reference
element_at memory container index = option_map (element container) (place_in (shape_at memory container) index)

-- the memory after a change
abbrev pub changed : Change → Shaped → Shaped
changed change memory = record memory { contents = own_after change memory.contents }

-- the memory after a value is written to an element; without one it stays as it is
abbrev pub written_at : Option Reference → (by : Option Resolution) → (value : ℤ) → Shaped → Shaped
written_at None by value memory = memory
written_at (Some to) by value memory = changed (write to by value) memory

-- a container is an array whose elements were taken out
abbrev pub IsAway : Shaped → (container : ℕ) → Type 0
IsAway memory container = contents_at memory container ≡ array (width_at memory container) []

-- the memory with other contents in the place of a container's
abbrev pub with_contents_at : (container : ℕ) → Contents → Shaped → Shaped
with_contents_at container contents memory = record memory { contents = slice_set memory.contents container contents }

-- the memory with other values in the place of a stream's, each wrapped to its width; an array stays as it is
abbrev pub with_values_at : (container : ℕ) → (values : List ℤ) → Shaped → Shaped
with_values_at container values memory = record memory { contents = changed_at container (with_values (λ width old. map (wrapped_to width) values)) memory.contents }

-- the memory with one container more, behind the others
abbrev pub with_one_more : (shape : List ℕ) → Contents → Shaped → Shaped
with_one_more shape contents memory = record { shapes = memory.shapes ++ shape ∷ []; contents = memory.contents ++ contents ∷ [] }

-- ---- memories that are lent

-- contents may have these extents: a stream has none
abbrev pub MayHave : (shape : List ℕ) → Contents → Type 0
MayHave shape (array width elements) = ⊤
MayHave shape (stream width values) = shape ≡ []

-- and so may each container
abbrev pub MayAllHave : (shapes : List (List ℕ)) → Memory → Type 0
MayAllHave [] [] = ⊤
MayAllHave [] (contents ∷ memory) = ⊥
MayAllHave (shape ∷ shapes) [] = ⊥
MayAllHave (shape ∷ shapes) (contents ∷ memory) = MayHave shape contents × MayAllHave shapes memory

-- a memory that holds something else
abbrev pub with_contents : Memory → Shaped → Shaped
with_contents contents memory = record memory { contents = contents }
