-- Memories of a graph: contents of the sort and size of each container.
use Rattle.std.specs.Prelude.{◌≡◌, ◌⊎◌, ℕ, ℤ, List, [], ◌∷◌, length, true, false, slice_index_or, ⊤}
use Rattle.sd_range.specs.Points.{product}
use Rattle.sd_work.specs.Memory.{Contents, array, stream, Memory}
use Rattle.sd_graph.specs.PlainTree.{GraphTree}
use Rattle.sd_graph.specs.TreeParts.{containers_of}
use Rattle.sd_graph.specs.ContainerParts.{Containers, container_at, extents_of, is_stream, is_argument}
use Rattle.sd_graph.specs.InForce.{is_private}
use Rattle.sd_graph.specs.declared.container.Container.{Container}

-- contents as a container has them, at its width: an array with an element for each index, or a stream
abbrev pub IsContentsOf : Container → Contents → Type 0
IsContentsOf container (array width elements) = (is_stream container.kind ≡ false) × (length elements ≡ product (extents_of container)) × (width ≡ container.width)
IsContentsOf container (stream width values) = (is_stream container.kind ≡ true) × (width ≡ container.width)

-- contents for each container; those of a private one, which scopes hold, are free
abbrev pub AreContentsOf : Containers → Memory → Type 0
AreContentsOf [] [] = ⊤
AreContentsOf [] (contents ∷ memory) = ⊥
AreContentsOf (entry ∷ entries) [] = ⊥
AreContentsOf (entry ∷ entries) (contents ∷ memory) = ((is_private entry.1.kind ≡ true) ⊎ IsContentsOf entry.1 contents) × AreContentsOf entries memory

-- a memory over which a graph may be run
abbrev pub IsMemoryOf : GraphTree → Memory → Type 0
IsMemoryOf tree memory = AreContentsOf (containers_of tree) memory

-- each argument is given as many elements as it has
abbrev pub AreArgumentsGiven : GraphTree → (given : List (List ℤ)) → Type 0
AreArgumentsGiven tree given =
    (number : ℕ) → is_argument (container_at (containers_of tree) number).kind ≡ true
    → length (slice_index_or given number []) ≡ product (extents_of (container_at (containers_of tree) number))
