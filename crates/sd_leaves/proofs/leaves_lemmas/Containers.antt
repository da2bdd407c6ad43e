-- Containers of graphs by their numbers.
use Rattle.std.proofs.Common.{◌≡◌, ℕ, zero, suc, List, [], ◌∷◌, map, get_or, slice_get, Some, None, refl, ap, sym, ◌∙◌, String, string_bytes, false}
use Rattle.std.specs.declared.alloc.Global.{Global}
use Rattle.std.proofs.lemmas.Option.{same_Some}
use Rattle.sd_graph.specs.TreeFold.{graph_tree, named_container}
use Rattle.sd_graph.specs.TreeParts.{containers_of}
use Rattle.sd_graph.specs.ContainerParts.{container_at, is_stream, no_container}
use Rattle.sd_graph.specs.declared.container.Container.{Container}
use Rattle.sd_graph.specs.declared.graph.Sdfg.{Sdfg}
use Rattle.sd_graph.specs.declared.graph.ItemKind.TheViews.{out-Sdfg}
use Rattle.sd_graph.proofs.TreeLemmas.{graph_opened}

named_or : (entries : List (String Global × Container)) (at : ℕ) (name : String Global) (container : Container) → Some (name, container) ≡ slice_get entries at →
    get_or (map named_container entries) at no_container ≡ (string_bytes name, container)
named_or [] at name container is = cc
named_or (entry ∷ entries) zero name container is = sym (ap named_container (same_Some (name, container) entry is))
named_or (entry ∷ entries) (suc at) name container is = named_or entries at name container is

named_past : (entries : List (String Global × Container)) (at : ℕ) → None ≡ slice_get entries at → get_or (map named_container entries) at no_container ≡ no_container
named_past [] at is = refl
named_past (entry ∷ entries) zero is = cc
named_past (entry ∷ entries) (suc at) is = named_past entries at is

-- a container that is there
pub stream_at : (graph : Sdfg) (at : ℕ) (name : String Global) (container : Container) → Some (name, container) ≡ slice_get (out-Sdfg graph).containers.entries at →
    is_stream container.kind ≡ is_stream (container_at (containers_of (graph_tree graph)) at).kind
stream_at graph at name container is =
    sym (ap (λ tree. is_stream (container_at (containers_of tree) at).kind) (graph_opened graph)
    ∙ ap (λ entry. is_stream entry.1.kind) (named_or (out-Sdfg graph).containers.entries at name container is))

-- one that is not there is no stream
pub no_stream_at : (graph : Sdfg) (at : ℕ) → None ≡ slice_get (out-Sdfg graph).containers.entries at → false ≡ is_stream (container_at (containers_of (graph_tree graph)) at).kind
no_stream_at graph at is =
    sym (ap (λ tree. is_stream (container_at (containers_of tree) at).kind) (graph_opened graph)
    ∙ ap (λ entry. is_stream entry.1.kind) (named_past (out-Sdfg graph).containers.entries at is))
