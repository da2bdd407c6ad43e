-- A subset with an index in each dimension has one element.
use Rattle.std.proofs.Common.{◌≡◌, ℤ, List, [], ◌∷◌, map, true, refl, ap, ◌∙◌}
use Rattle.sd_range.specs.declared.subset.Dim.{Dim}
use Rattle.sd_range.specs.declared.subset.Dim.TheVariants.{Index, Span}
use Rattle.sd_range.specs.Subset.{whole}
use Rattle.sd_graph.specs.declared.link.Link.{Link}
use Rattle.sd_graph.specs.Context.{Context, index_at, span_counts, reference_at, link_elements, link_element, link_extents}
use Rattle.sd_graph.proofs.ElementPlaces.{elements_are_at_places}
use Rattle.sd_scope.specs.even.Even.{is_scalar}

-- it has no ranges
pub no_spans : (dims : List Dim) (values : List ℤ) → is_scalar dims ≡ true → span_counts dims values ≡ []
no_spans [] values scalar = refl
no_spans (Index at ∷ dims) values scalar = no_spans dims values scalar
no_spans (Span range ∷ dims) values scalar = cc

-- the connector of a link to it has no extents
pub no_extents : (context : Context) (link : Link) → is_scalar link.memlet.subset.dims ≡ true → link_extents context link ≡ []
no_extents context link scalar = no_spans link.memlet.subset.dims context.values scalar

-- and the link has one element
pub one_element : (context : Context) (link : Link) → is_scalar link.memlet.subset.dims ≡ true → link_elements context link ≡ link_element context link [] ∷ []
one_element context link scalar =
    let reach = context.reach link.memlet.container in
    let subset = link.memlet.subset in
    ap (map (reference_at reach)) (elements_are_at_places subset context.values)
    ∙ ap (λ extents. map (reference_at reach) (map (index_at subset.dims context.values) (whole extents))) (no_extents context link scalar)
