-- What a name of a container stands for: what it holds, and how it is reached from where a statement stands.
use Rattle.std.specs.Prelude.{ℕ, ℤ, pos, List, [], replicate, Option, Some, None, Bool, true, if◌then◌else◌}
use Rattle.sd_num.specs.declared.resolution.Resolution.{Resolution}
use Rattle.sd_num.specs.declared.width.Width.{Width}
use Rattle.sd_range.specs.Points.{product}
use Rattle.sd_range.specs.Subset.{inside}
use Rattle.sd_work.specs.Memory.{Contents, array, stream, Reference}
use Rattle.sd_work.specs.Leaf.{Pending, write_value, push_to}
use Rattle.sd_graph.specs.RowOrder.{row_number}
use Rattle.sd_graph.specs.Context.{Reach, raised, reference_at}

-- an array of these extents, or a stream
pub data Shape : Type 0 where
  array_of : (extents : List ℕ) → Shape
  a_stream : Shape

-- a container: its shape, whether its extents are written as 1 each, and how it is reached
pub record Held : Type 0 where
  pub shape : Shape
  pub unit : Bool
  pub reach : Reach

-- a stream has no extents
abbrev pub extents_of_shape : Shape → List ℕ
extents_of_shape (array_of extents) = extents
extents_of_shape a_stream = []

abbrev pub extents_of : Held → List ℕ
extents_of held = extents_of_shape held.shape

-- zeros, or nothing, at a width
abbrev pub opening_contents : Width → Shape → Contents
opening_contents width (array_of extents) = array width (replicate (product extents) (pos 0))
opening_contents width a_stream = stream width []

-- the number of an element in row order, where the index is inside
abbrev pub element_number : List ℕ → (index : List ℤ) → Option ℕ
element_number extents index = if inside extents index then Some (row_number extents index) else None

-- the container of this number of the innermost memory
abbrev pub own_reach : Shape → (number : ℕ) → Reach
own_reach shape number = record { level = 0; container = number; find = element_number (extents_of_shape shape) }

-- what a name that is not in force stands for: an array without elements
abbrev pub nothing_held : Held
nothing_held = record { shape = array_of []; unit = true; reach = record { level = 0; container = 0; find = λ index. None } }

-- the same container from inside one more memory
abbrev pub raised_held : Held → Held
raised_held held = record held { reach = raised held.reach }

-- the element of a container at an index, where that is inside
abbrev pub element_in : Held → (index : List ℤ) → Option Reference
element_in held index = reference_at held.reach index

-- a value for a container: it is written to the element at an index, or pushed into the stream
abbrev pub pending_in : Shape → Reach → (index : List ℤ) → Option Resolution → (value : ℤ) → Pending
pending_in (array_of extents) reach index by value = write_value value (reference_at reach index) by
pending_in a_stream reach index by value = push_to reach.level reach.container value
