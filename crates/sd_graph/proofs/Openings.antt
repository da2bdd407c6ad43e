-- The memory that a run opens with is one of its graph.
use Rattle.std.proofs.Common.{◌≡◌, ◌⊎◌, inl, inr, ℕ, suc, ◌+◌, ℤ, List, [], ◌∷◌, length, Bool, true, false, if◌then◌else◌, slice_index_or, refl, subst, arith, map, ◌∙◌}
use Rattle.std.proofs.lemmas.List.{length-map}
use Rattle.sd_range.specs.Points.{product}
use Rattle.sd_num.specs.Width.{wrapped_to}
use Rattle.sd_work.specs.Memory.{array, absent}
use Rattle.sd_graph.specs.PlainTree.{GraphTree}
use Rattle.sd_graph.specs.TreeParts.{containers_of}
use Rattle.sd_graph.specs.ContainerParts.{Containers, container_at, extents_of, is_stream, is_argument, is_of_run, opening_contents}
use Rattle.sd_graph.specs.Unfold.{opening_from, opening_memory}
use Rattle.sd_graph.specs.InForce.{is_private}
use Rattle.sd_graph.specs.GraphMemory.{IsContentsOf, AreContentsOf, IsMemoryOf, AreArgumentsGiven}
use Rattle.sd_graph.specs.declared.container.Container.{Container}
use Rattle.sd_graph.specs.declared.container.ContainerKind.{ContainerKind}
use Rattle.sd_graph.specs.declared.container.ContainerKind.TheVariants.{Argument, Transient, Private, Stream, PrivateStream}
use Rattle.sd_graph.proofs.Reached.{opening_fits}

arguments_are_arrays : (kind : ContainerKind) → is_argument kind ≡ true → is_stream kind ≡ false
arguments_are_arrays Argument e = refl
arguments_are_arrays Transient e = cc
arguments_are_arrays Private e = cc
arguments_are_arrays Stream e = cc
arguments_are_arrays PrivateStream e = cc

others_are_private : (kind : ContainerKind) → is_argument kind ≡ false → is_of_run kind ≡ false → is_private kind ≡ true
others_are_private Argument e h = cc
others_are_private Transient e h = cc
others_are_private Private e h = refl
others_are_private Stream e h = cc
others_are_private PrivateStream e h = refl

opens_by : (argument own : Bool) (container : Container) (given : List ℤ) → is_argument container.kind ≡ argument → is_of_run container.kind ≡ own →
    (is_argument container.kind ≡ true → length given ≡ product (extents_of container)) →
    (is_private container.kind ≡ true) ⊎ IsContentsOf container (if argument then array container.width (map (wrapped_to container.width) given) else if own then opening_contents container else absent)
opens_by true own container given e h fits = inr (arguments_are_arrays container.kind e, length-map given (wrapped_to container.width) ∙ fits e, refl)
opens_by false true container given e h fits = inr (opening_fits container)
opens_by false false container given e h fits = inl (others_are_private container.kind e h)

opens_from : (given : List (List ℤ)) (first : ℕ) (containers : Containers) →
    ((number : ℕ) → is_argument (container_at containers number).kind ≡ true → length (slice_index_or given (first + number) []) ≡ product (extents_of (container_at containers number))) →
    AreContentsOf containers (opening_from given first containers)
opens_from given first [] fits = tt
opens_from given first (entry ∷ entries) fits = (
  opens_by (is_argument entry.1.kind) (is_of_run entry.1.kind) entry.1 (slice_index_or given first []) refl refl
      (λ argument. let same : first + 0 ≡ first = omega arith in subst (λ n. length (slice_index_or given n []) ≡ product (extents_of entry.1)) same (fits 0 argument)),
  opens_from given (suc first) entries
      (λ number argument. let same : first + suc number ≡ suc first + number = omega arith in
      subst (λ n. length (slice_index_or given n []) ≡ product (extents_of (container_at entries number))) same (fits (suc number) argument)),
)

pub opens : (tree : GraphTree) (given : List (List ℤ)) → AreArgumentsGiven tree given → IsMemoryOf tree (opening_memory tree given)
opens tree given fits = opens_from given 0 (containers_of tree)
    (λ number argument. let same : number ≡ 0 + number = omega arith in
    subst (λ n. length (slice_index_or given n []) ≡ product (extents_of (container_at (containers_of tree) number))) same (fits number argument))
