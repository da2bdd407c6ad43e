-- Memories of a graph have their arrays whole.
use Rattle.std.proofs.Common.{◌≡◌, ◌⊎◌, inl, inr, ℕ, zero, suc, ◌<◌, List, [], ◌∷◌, length, map, true, false, slice_index_or, refl, sym, ◌∙◌, subst, arith}
use Rattle.std.proofs.lemmas.List.{length-replicate}
use Rattle.sd_num.specs.declared.width.Width.{Width}
use Rattle.sd_range.specs.declared.affine.Affine.{Affine}
use Rattle.sd_num.specs.declared.width.Width.TheVariants.{W64}
use Rattle.sd_work.specs.Memory.{Memory, Contents, array, stream}
use Rattle.sd_graph.specs.ContainerParts.{Containers, container_at, is_stream}
use Rattle.sd_graph.specs.InForce.{is_private}
use Rattle.sd_graph.specs.GraphMemory.{IsContentsOf, AreContentsOf}
use Rattle.sd_graph.specs.declared.container.Container.{Container}
use Rattle.sd_graph.specs.declared.container.ContainerKind.{ContainerKind}
use Rattle.sd_graph.specs.declared.container.ContainerKind.TheVariants.{Argument, Transient, Private, Stream, PrivateStream}
use Rattle.sd_mem.specs.mem.Shaped.{Shaped, IsWhole, IsHere}
use Rattle.sd_mem.specs.mem.GraphContents.{shape_of, shapes_of, zero_contents}

-- a container of this kind and width
abbrev pub of_kind : List Affine → ContainerKind → Width → Container
of_kind extents kind width = record { extents = extents; kind = kind; width = width }

-- zeros are contents of a container that is not private
zero_is : (extents : List Affine) (kind : ContainerKind) (width : Width) → (is_private kind ≡ true) ⊎ IsContentsOf (of_kind extents kind width) (zero_contents (of_kind extents kind width))
zero_is extents Argument width = inr (refl, length-replicate _ _, refl)
zero_is extents Transient width = inr (refl, length-replicate _ _, refl)
zero_is extents Private width = inl refl
zero_is extents Stream width = inr (refl, refl)
zero_is extents PrivateStream width = inl refl

pub zeros_are : (entries : Containers) → AreContentsOf entries (map (λ entry. zero_contents entry.1) entries)
zeros_are [] = tt
zeros_are (entry ∷ entries) = (zero_is entry.1.extents entry.1.kind entry.1.width, zeros_are entries)

-- contents of an array are whole
whole_contents : (container : Container) (contents : Contents) → is_stream container.kind ≡ false → IsContentsOf container contents → IsWhole (shape_of container) contents
whole_contents container (array width elements) is_array is = rw is_array is.1
whole_contents container (stream width values) is_array is = cc

-- so are those of each array that is not private
whole_at : (entries : Containers) (memory : Memory) (container : ℕ) → AreContentsOf entries memory → container < length entries →
    is_stream (container_at entries container).kind ≡ false → is_private (container_at entries container).kind ≡ false →
    IsWhole (slice_index_or (shapes_of entries) container []) (slice_index_or memory container (stream W64 []))
whole_at [] memory container are below is_array shared = absurd (omega arith)
whole_at (entry ∷ entries) [] container are below is_array shared = absurd are
whole_at (entry ∷ entries) (contents ∷ memory) zero are below is_array shared = elim are.0 [
  | inl private ↦ absurd (differ (sym private ∙ shared))
  | inr is ↦ whole_contents entry.1 contents is_array is
]
  where
    differ : true ≡ false → ⊥
    differ same = cc
whole_at (entry ∷ entries) (contents ∷ memory) (suc container) are below is_array shared = whole_at entries memory container are.1 (omega arith) is_array shared

pub whole_here : (entries : Containers) (memory : Shaped) (container : ℕ) → memory.shapes ≡ shapes_of entries → AreContentsOf entries memory.contents → container < length entries →
    is_stream (container_at entries container).kind ≡ false → is_private (container_at entries container).kind ≡ false → IsHere memory container
whole_here entries memory container shapes are below is_array shared =
    subst (λ (all : List (List ℕ)). IsWhole (slice_index_or all container []) (slice_index_or memory.contents container (stream W64 []))) (sym shapes)
    (whole_at entries memory.contents container are below is_array shared)
