-- What joined accesses ask of the containers.
use Rattle.std.specs.Prelude.{◌≡◌, ℕ, ℤ, List, [], Some, IsTrue}
use Rattle.std.specs.List.{AllByRecursion}
use Rattle.sd_range.specs.Subset.{inside}
use Rattle.sd_graph.specs.ContainerParts.{Containers, container_at, extents_of}
use Rattle.sd_graph.specs.Mode.{Take}
use Rattle.sd_graph.specs.Context.{Reach}
use Rattle.sd_prop.specs.propagation.Accesses.{Access}

-- what is found of a container is inside its extents
abbrev pub FindInside : Containers → (ℕ → Reach) → Type 0
FindInside containers reach =
    (container : ℕ) (index : List ℤ) (element : ℕ) → (reach container).find index ≡ Some element → IsTrue (inside (extents_of (container_at containers container)) index)

-- what is taken from has no extents, as a stream
abbrev pub AreTakesOfStreams : Containers → List Access → Type 0
AreTakesOfStreams containers accesses = AllByRecursion (λ (access : Access). access.mode ≡ Take → extents_of (container_at containers access.container) ≡ []) accesses
