-- The subsets of sound links fit their containers, and so they do with sizes.
use Rattle.std.proofs.Common.{◌≡◌, ◌∙◌, ℕ, zero, suc, ℤ, List, [], ◌∷◌, map, length, true, refl, sym}
use Rattle.std.proofs.lemmas.List.{length-map}
use Rattle.std.specs.List.{list_all}
use Rattle.sd_range.specs.declared.subset.Dim.{Dim}
use Rattle.sd_range.specs.declared.subset.Dim.TheVariants.{Index, Span}
use Rattle.sd_range.specs.declared.range.Range.{Range}
use Rattle.sd_graph.specs.PlainTree as plain
use Rattle.sd_graph.specs.PlainTree.{KindTree, GraphTree, graph}
use Rattle.sd_graph.specs.TreeParts.{containers_of}
use Rattle.sd_graph.specs.ContainerParts.{Containers, container_at}
use Rattle.sd_graph.specs.declared.link.Link.{Link}
use Rattle.sd_graph.proofs.Among.{nat_eq_same}
use Rattle.sd_valid.specs.BoundExpression.{bound_affine, bound_dim, bound_link, bound_param}
use Rattle.sd_valid.specs.BoundTree.{bound_entry, bound_kind, bound_graph}
use Rattle.sd_validity.specs.rules.Places.{Scopes}
use Rattle.sd_validity.specs.rules.Parts.{is_dim_passed, is_link_passed, are_links_passed, is_range_passed, are_params_passed, is_kind_passed}
use Rattle.sd_validity.specs.rules.Dimensions.{has_one_end}
use Rattle.sd_made.proofs.places_lemmas.LinksMade.{IsSound}
use Rattle.sd_made.proofs.places_lemmas.ItemLinks.{SoundLinks, ArrayLinks, HasSoundLinks}
use Rattle.sd_made_valid.specs.dimensions.Subsets.{subset_tests}

-- ---- with sizes

ends_bound : (sizes : List ℤ) (dims : List Dim) → list_all has_one_end (map (bound_dim sizes) dims) ≡ list_all has_one_end dims
ends_bound sizes [] = refl
ends_bound sizes (Index at ∷ dims) = ends_bound sizes dims
ends_bound sizes (Span range ∷ dims) = rw (length-map range.ends (bound_affine sizes), ends_bound sizes dims) refl

extents_bound : (sizes : List ℤ) (containers : Containers) (number : ℕ) →
    length (container_at (map (bound_entry sizes) containers) number).extents ≡ length (container_at containers number).extents
extents_bound sizes [] number = refl
extents_bound sizes (entry ∷ containers) zero = length-map entry.1.extents (bound_affine sizes)
extents_bound sizes (entry ∷ containers) (suc number) = extents_bound sizes containers number

of_graph : (sizes : List ℤ) (tree : GraphTree) (number : ℕ) →
    length (container_at (containers_of (bound_graph sizes tree)) number).extents ≡ length (container_at (containers_of tree) number).extents
of_graph sizes (graph name containers arguments variables symbols states) number = extents_bound sizes containers number

-- ---- nothing is asked of expressions

module _ (containers : Containers) where
  nothing_asked : {A : Type 0} (members : List A) → list_all (λ (member : A). true) members ≡ true
  nothing_asked [] = refl
  nothing_asked (member ∷ members) = nothing_asked members

  range_passed : (range : Range) → is_range_passed (subset_tests containers) range ≡ true
  range_passed range = nothing_asked range.ends

  dims_passed : (dims : List Dim) → list_all (is_dim_passed (subset_tests containers)) dims ≡ true
  dims_passed [] = refl
  dims_passed (Index at ∷ dims) = dims_passed dims
  dims_passed (Span range ∷ dims) = rw (range_passed range) (dims_passed dims)

  params_passed : (params : List (ℕ × Range)) → are_params_passed (subset_tests containers) params ≡ true
  params_passed [] = refl
  params_passed (param ∷ params) = rw (range_passed param.1) (params_passed params)

-- ---- links

module _ (sizes : List ℤ) (tree : GraphTree) (scopes : Scopes) (loops : List ℕ) (Sized : Type 0) (sized : Sized) where
  abbrev there : Containers
  there = containers_of (bound_graph sizes tree)

  link_passed : (link : Link) → IsSound tree scopes loops Sized link → is_link_passed (subset_tests there) (bound_link sizes link) ≡ true
  link_passed link is =
      let dims : List Dim = link.memlet.subset.dims in
      let counted : length (map (bound_dim sizes) dims) ≡ length (container_at there link.memlet.container).extents =
      length-map dims (bound_dim sizes) ∙ is.dims sized ∙ sym (of_graph sizes tree link.memlet.container) in
      rw (nat_eq_same (length (map (bound_dim sizes) dims)) (length (container_at there link.memlet.container).extents) counted, ends_bound sizes dims ∙ is.ends) (dims_passed there (map (bound_dim sizes) dims))

  pub array_links : (links : List Link) → ArrayLinks tree scopes loops Sized links → are_links_passed (subset_tests there) (map (bound_link sizes) links) ≡ true
  array_links [] all = refl
  array_links (link ∷ links) all = rw (link_passed link all.0.0) (array_links links all.1)

  sound_links : (links : List Link) → SoundLinks tree scopes loops Sized links → are_links_passed (subset_tests there) (map (bound_link sizes) links) ≡ true
  sound_links [] all = refl
  sound_links (link ∷ links) all = rw (link_passed link all.0) (sound_links links all.1)

  pub kind_fits : (kind : KindTree) → HasSoundLinks tree scopes loops Sized kind → is_kind_passed (subset_tests there) (bound_kind sizes kind) ≡ true
  kind_fits (plain.task code ins outs) links = rw (array_links ins links.0) (sound_links outs links.1)
  kind_fits (plain.map_scope sequential params private body) links = params_passed there (map (bound_param sizes) params)
  kind_fits (plain.consume_scope stream element private body) links = refl
  kind_fits (plain.nested_graph inner of) links = array_links of links
  kind_fits (plain.reduction resolution axis identity from to) links = rw (link_passed from links.0.0) (link_passed to links.1.0)
  kind_fits (plain.copy from to) links = rw (link_passed from links.0.0) (link_passed to links.1.0)
