-- The arguments of a graph in its memories.
use Rattle.std.proofs.Common.{◌≡◌, ◌⊎◌, inl, inr, ℕ, zero, suc, ◌<◌, [], ◌∷◌, true, arith}
use Rattle.sd_work.specs.Memory.{Memory, Contents, array, stream, contents_of}
use Rattle.sd_graph.specs.ContainerParts.{Containers, is_argument, is_stream}
use Rattle.sd_graph.specs.InForce.{is_private}
use Rattle.sd_graph.specs.InPlace.{ArgumentsComeFirst}
use Rattle.sd_graph.specs.GraphMemory.{AreContentsOf, IsContentsOf}
use Rattle.sd_graph.specs.declared.container.Container.{Container}
use Rattle.sd_graph.specs.declared.container.ContainerKind.{ContainerKind}
use Rattle.sd_graph.specs.declared.container.ContainerKind.TheVariants.{Argument, Transient, Private, Stream, PrivateStream}
use Rattle.sd_mem.specs.mem.Shaped.{IsArray}

no_stream : (kind : ContainerKind) → is_argument kind ≡ true → is_stream kind ≡ true → ⊥
no_stream Argument is other = cc
no_stream Transient is other = cc
no_stream Private is other = cc
no_stream Stream is other = cc
no_stream PrivateStream is other = cc

not_private : (kind : ContainerKind) → is_argument kind ≡ true → is_private kind ≡ true → ⊥
not_private Argument is other = cc
not_private Transient is other = cc
not_private Private is other = cc
not_private Stream is other = cc
not_private PrivateStream is other = cc

argument_is_array : (container : Container) (contents : Contents) → is_argument container.kind ≡ true → (is_private container.kind ≡ true) ⊎ IsContentsOf container contents → IsArray contents
argument_is_array container contents is (inl private) = absurd (not_private container.kind is private)
argument_is_array container (array width elements) is (inr of) = tt
argument_is_array container (stream width values) is (inr of) = no_stream container.kind is of.0

pub arguments_are_arrays : (arguments : ℕ) (containers : Containers) (memory : Memory) → ArgumentsComeFirst arguments containers → AreContentsOf containers memory →
    (argument : ℕ) → argument < arguments → IsArray (contents_of 0 argument (memory ∷ []))
arguments_are_arrays zero containers memory first are argument less = absurd (omega arith)
arguments_are_arrays (suc arguments) [] memory first are argument less = absurd first
arguments_are_arrays (suc arguments) (container ∷ containers) [] first are argument less = absurd are
arguments_are_arrays (suc arguments) (container ∷ containers) (contents ∷ memory) first are zero less = argument_is_array container.1 contents first.0 are.0
arguments_are_arrays (suc arguments) (container ∷ containers) (contents ∷ memory) first are (suc argument) less = arguments_are_arrays arguments containers memory first.1 are.1 argument (omega arith)
