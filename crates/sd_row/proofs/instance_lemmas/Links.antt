-- Links of one element each.
use Rattle.std.proofs.Common.{◌≡◌, ℕ, ℤ, List, [], ◌∷◌, map, Option, Some, true, refl, ap, ◌∙◌}
use Rattle.std.specs.List.{AllByRecursion}
use Rattle.sd_range.specs.declared.subset.Dim.{Dim}
use Rattle.sd_range.specs.declared.subset.Dim.TheVariants.{Index, Span}
use Rattle.sd_range.specs.Affine.{affine_value}
use Rattle.sd_work.specs.Memory.{Reference}
use Rattle.sd_graph.specs.Context.{Context, reference_at, link_element, link_elements, link_extents, index_at}
use Rattle.sd_graph.specs.declared.link.Link.{Link}
use Rattle.sd_scope.specs.even.Even.{is_scalar}
use Rattle.sd_scope.proofs.even_lemmas.Scalar.{one_element, no_extents}
use Rattle.sd_row.specs.declared.row.track.Track.{Track}
use Rattle.sd_row.specs.row.Row.{reference_on}

-- links of one element each, and their tracks
pub each_on_track : (context : Context) (k : ℕ) (links : List Link) (tracks : List Track) → AllByRecursion (λ link. is_scalar link.memlet.subset.dims ≡ true) links →
    map (λ link. link_element context link []) links ≡ map (λ track. Some (reference_on track k)) tracks →
    map (link_elements context) links ≡ map (λ track. Some (reference_on track k) ∷ []) tracks
each_on_track context k [] [] scalars same = refl
each_on_track context k [] (track ∷ tracks) scalars same = cc
each_on_track context k (link ∷ links) [] scalars same = cc
each_on_track context k (link ∷ links) (track ∷ tracks) scalars same =
    let here : link_element context link [] ≡ Some (reference_on track k) = cc in
    let others : map (λ link. link_element context link []) links ≡ map (λ track. Some (reference_on track k)) tracks = cc in
    ap (λ elements. elements ∷ map (link_elements context) links) (one_element context link scalars.0 ∙ ap (λ (one : Option Reference). one ∷ []) here)
    ∙ ap (λ rest. (Some (reference_on track k) ∷ []) ∷ rest) (each_on_track context k links tracks scalars.1 others)

pub no_extents_of_all : (context : Context) (links : List Link) → AllByRecursion (λ link. is_scalar link.memlet.subset.dims ≡ true) links →
    map (link_extents context) links ≡ map (λ link. []) links
no_extents_of_all context [] scalars = refl
no_extents_of_all context (link ∷ links) scalars =
    ap (λ extents. extents ∷ map (link_extents context) links) (no_extents context link scalars.0)
    ∙ ap (λ (rest : List (List ℕ)). [] ∷ rest) (no_extents_of_all context links scalars.1)

-- the index of one element has no number of a place
scalar_index : (dims : List Dim) (values at : List ℤ) → is_scalar dims ≡ true → index_at dims values at ≡ index_at dims values []
scalar_index [] values at scalar = refl
scalar_index (Index number ∷ dims) values at scalar = ap (λ (rest : List ℤ). affine_value values number ∷ rest) (scalar_index dims values at scalar)
scalar_index (Span range ∷ dims) values at scalar = cc

pub scalar_element : (context : Context) (link : Link) (at : List ℤ) → is_scalar link.memlet.subset.dims ≡ true → link_element context link at ≡ link_element context link []
scalar_element context link at scalar = ap (reference_at (context.reach link.memlet.container)) (scalar_index link.memlet.subset.dims context.values at scalar)
