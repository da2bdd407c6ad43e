-- How a nested graph reaches the parts that are passed to it.
use Rattle.std.specs.Prelude.{ℕ, List, Option, Some, None, if◌then◌else◌, slice_get}
use Rattle.sd_graph.specs.ContainerParts.{Containers, container_at, is_argument, extents_of}
use Rattle.sd_graph.specs.Context.{Reach, own_reach, raised}
use Rattle.sd_says.specs.Parts.{Part, view_of}

-- an argument is a view of the part that is passed for it
abbrev pub through : Containers → (number : ℕ) → Option Part → Reach
through inner number None = own_reach inner number
through inner number (Some part) = raised (view_of part (extents_of (container_at inner number)))

-- the arguments through the parts in their order, the others as its own
abbrev pub passed_reach : Containers → (parts : List Part) → (number : ℕ) → Reach
passed_reach inner parts number = if is_argument (container_at inner number).kind then through inner number (slice_get parts number) else own_reach inner number
