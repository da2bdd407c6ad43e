-- The shape of a stack of memories, which no work changes.
use Rattle.std.specs.Prelude.{ℕ, List, map, length, Option, Some, None}
use Rattle.sd_num.specs.declared.width.Width.{Width}
use Rattle.sd_work.specs.Memory.{Contents, array, stream, Memories, width_of}

-- how many elements an array has; a stream has no such number
abbrev pub array_length : Contents → Option ℕ
array_length (array width elements) = Some (length elements)
array_length (stream width values) = None

-- the width of a container, and the length of an array or that it is a stream
abbrev pub contents_shape : Contents → Width × Option ℕ
contents_shape contents = (width_of contents, array_length contents)

-- the shape of each container of each memory, innermost first. So it tells how many memories there are, and how many containers each has
abbrev pub stack_shape : Memories → List (List (Width × Option ℕ))
stack_shape memories = map (map contents_shape) memories
