-- The memories that a graph begins with.
use Rattle.std.specs.Prelude.{ℕ, suc, ℤ, List, [], ◌∷◌, map, Bool, if◌then◌else◌}
use Rattle.sd_work.specs.Memory.{Contents, absent}
use Rattle.sd_graph.specs.PlainTree.{GraphTree}
use Rattle.sd_graph.specs.TreeParts.{containers_of}
use Rattle.sd_graph.specs.ContainerParts.{Containers, extents_of, is_stream, opening_contents}
use Rattle.sd_graph.specs.InForce.{is_private}
use Rattle.sd_graph.specs.Unfold.{opening_memory}
use Rattle.sd_graph.specs.declared.container.Container.{Container}
use Rattle.sd_graph.specs.declared.container.ContainerKind.{ContainerKind}
use Rattle.sd_mem.specs.mem.Shaped.{Shaped}

-- the extents of a container; a stream has none
abbrev pub shape_of : Container → List ℕ
shape_of container = if is_stream container.kind then [] else extents_of container

-- those of each container
abbrev pub shapes_of : Containers → List (List ℕ)
shapes_of containers = map (λ entry. shape_of entry.1) containers

-- the extents of the containers that a memory has, from this number on; the others have none
abbrev pub shapes_from : (has : ℕ → ContainerKind → Bool) → (number : ℕ) → Containers → List (List ℕ)
shapes_from has number [] = []
shapes_from has number (entry ∷ entries) = (if has number entry.1.kind then shape_of entry.1 else []) ∷ shapes_from has (suc number) entries

-- a container with zeros, a stream with nothing; private ones are those of points and elements, and hold nothing here
abbrev pub zero_contents : Container → Contents
zero_contents container = if is_private container.kind then absent else opening_contents container

-- all arrays of a graph with zeros, its arguments too
abbrev pub zeros_of : GraphTree → Shaped
zeros_of tree = record { shapes = shapes_of (containers_of tree); contents = map (λ entry. zero_contents entry.1) (containers_of tree) }

-- the memory that a run of a graph opens with, where the arguments have these elements
abbrev pub opened_with : GraphTree → (given : List (List ℤ)) → Shaped
opened_with tree given = record { shapes = shapes_of (containers_of tree); contents = opening_memory tree given }
