-- Links of nested graphs whose shapes are right have those of their parameters.
use Rattle.std.specs.List.{AllByRecursion}
use Rattle.std.proofs.Common.{◌≡◌, ℕ, zero, suc, nat_eq, ℤ, pos, negsuc, neg_ℤ, ◌+ℤ◌, ◌*ℤ◌, unsigned_abs, int_lt, List, [], ◌∷◌, map, length, true, false, refl, ap, sym, ◌∙◌, subst, arith}
use Rattle.std.proofs.lemmas.Int.{ints}
use Rattle.sd_range.specs.Terms.{IsNormal}
use Rattle.sd_range.specs.Arithmetic.{affine_zero, affine_difference}
use Rattle.sd_range.specs.declared.affine.Affine.{Affine}
use Rattle.sd_range.specs.declared.range.Range.{Range}
use Rattle.sd_range.specs.declared.subset.Dim.{Dim}
use Rattle.sd_range.specs.declared.subset.Dim.TheVariants.{Index, Span}
use Rattle.sd_subset.specs.boxes.Box.{last_of, last_end}
use Rattle.sd_graph.specs.declared.link.Link.{Link}
use Rattle.sd_graph.specs.declared.container.Container.{Container}
use Rattle.sd_graph.specs.ContainerParts.{Containers, container_at}
use Rattle.sd_validity.specs.rules.Parts.{spans_of, link_spans}
use Rattle.sd_validity.specs.rules.Shapes.{is_extent_same, are_extents_same, end_of, range_extent, dim_extent, one_value, shape_of, are_steps_one}
use Rattle.sd_validity.specs.rules.NestedLinks.{has_shape, have_shapes}
use Rattle.sd_race.specs.cover.Fit.{HasLength, HasShape, HaveShapes}
use Rattle.sd_safe.proofs.fit_lemmas.Members.{both, same_number}
use Rattle.sd_safe.proofs.fit_lemmas.Extents.{IsNormalExtent, same_difference}
use Rattle.sd_safe.proofs.fit_lemmas.Counts.{IsPlainSpan, ArePlainSpans, normal-extent}

-- a constant extent that is not negative
pub record IsPlainExtent (extent : Affine) : Type 0 where
  pub constant : extent.terms ≡ []
  pub natural : int_lt extent.constant (pos 0) ≡ false

abbrev size_of : Affine → ℕ
size_of extent = unsigned_abs extent.constant

last-one : (ends : List Affine) → nat_eq (length ends) 1 ≡ true → last_of affine_zero ends ≡ end_of ends
last-one [] is = cc
last-one (end ∷ []) is = refl
last-one (end ∷ (other ∷ ends)) is = let same = same_number (length (end ∷ (other ∷ ends))) 1 is in absurd (omega (arith, same))

size-of_natural : (n : ℤ) → int_lt n (pos 0) ≡ false → n ≡ pos (unsigned_abs n)
size-of_natural (pos n) is = refl
size-of_natural (negsuc n) is = cc

normal-dim : (extent : Affine) → extent.terms ≡ [] → IsNormalExtent (dim_extent extent)
normal-dim extent none = record { last = subst (λ terms. IsNormal terms) (sym none) tt; begin = tt }

-- a range with the extent of a dimension has its length
has_length : (extent : Affine) (r : Range) → IsPlainExtent extent → IsPlainSpan r → is_extent_same (dim_extent extent) (range_extent r) ≡ true → HasLength (size_of extent) r
has_length extent r plain span is =
    let one : Affine = record { constant = pos 1; terms = [] } in
    let same : affine_difference (last_end r) r.begin ≡ affine_difference extent one =
    ap (λ (end : Affine). affine_difference end r.begin) (last-one r.ends span.single)
    ∙ sym (same_difference (dim_extent extent) (range_extent r) (normal-dim extent plain.constant) (normal-extent r span.normal) is) in
    let constant : (affine_difference (last_end r) r.begin).constant ≡ extent.constant +ℤ (neg_ℤ (pos 1) *ℤ pos 1) = ap (λ (a : Affine). a.constant) same in
    record {
      step = span.step;
      constant = ap (λ (a : Affine). a.terms) same ∙ plain.constant;
      long = omega (arith, ints, constant, size-of_natural extent.constant plain.natural);
    }

-- ranges with the extents of dimensions
shape-of_spans : (extents : List Affine) (dims : List Dim) → AllByRecursion IsPlainExtent extents → ArePlainSpans (spans_of dims) →
    are_extents_same (map dim_extent extents) (map range_extent (spans_of dims)) ≡ true → HasShape (map size_of extents) dims
shape-of_spans [] [] plain spans is = tt
shape-of_spans (extent ∷ extents) [] plain spans is = cc
shape-of_spans [] (Index at ∷ dims) plain spans is = shape-of_spans [] dims plain spans is
shape-of_spans (extent ∷ extents) (Index at ∷ dims) plain spans is = shape-of_spans (extent ∷ extents) dims plain spans is
shape-of_spans [] (Span r ∷ dims) plain spans is = cc
shape-of_spans (extent ∷ extents) (Span r ∷ dims) plain spans is =
    let split = both (is_extent_same (dim_extent extent) (range_extent r)) (are_extents_same (map dim_extent extents) (map range_extent (spans_of dims))) is in
    (has_length extent r plain.0 spans.0 split.0, shape-of_spans extents dims plain.1 spans.1 split.1)

-- a subset without a range has the shape of one element
shape-of_one : (size : ℕ) (dims : List Dim) → size ≡ 1 → spans_of dims ≡ [] → HasShape (size ∷ []) dims
shape-of_one size [] is none = (is, tt)
shape-of_one size (Index at ∷ dims) is none = shape-of_one size dims is none
shape-of_one size (Span r ∷ dims) is none = cc

one-size : (extent : Affine) → IsPlainExtent extent → is_extent_same (dim_extent extent) one_value ≡ true → size_of extent ≡ 1
one-size extent plain is =
    let same = same_difference (dim_extent extent) one_value (normal-dim extent plain.constant) (record { last = tt; begin = tt }) is in
    let constant : extent.constant +ℤ (neg_ℤ (pos 1) *ℤ pos 1) ≡ pos 0 = ap (λ (a : Affine). a.constant) same in
    let one : extent.constant ≡ pos 1 = omega (arith, ints, constant) in
    ap unsigned_abs one

shape-of_none : (extents : List Affine) (dims : List Dim) → AllByRecursion IsPlainExtent extents → spans_of dims ≡ [] → are_extents_same (map dim_extent extents) (one_value ∷ []) ≡ true → HasShape (map size_of extents) dims
shape-of_none [] dims plain none is = cc
shape-of_none (extent ∷ []) dims plain none is =
    shape-of_one (size_of extent) dims (one-size extent plain.0 (both (is_extent_same (dim_extent extent) one_value) true is).0) none
shape-of_none (extent ∷ (other ∷ extents)) dims plain none is =
    let split = both (is_extent_same (dim_extent extent) one_value) false is in
    let never : false ≡ true = split.1 in cc

-- with these ranges
shape-with : (extents : List Affine) (dims : List Dim) (spans : List Range) → spans_of dims ≡ spans → AllByRecursion IsPlainExtent extents → ArePlainSpans (spans_of dims) →
    are_extents_same (map dim_extent extents) (shape_of spans) ≡ true → HasShape (map size_of extents) dims
shape-with extents dims [] same plain all is = shape-of_none extents dims plain same is
shape-with extents dims (r ∷ spans) same plain all is =
    shape-of_spans extents dims plain all (subst (λ ranges. are_extents_same (map dim_extent extents) (map range_extent ranges) ≡ true) (sym same) is)

-- the extents of each container are such
abbrev pub ArePlainContainers : Containers → Type 0
ArePlainContainers containers = AllByRecursion (λ (entry : List ℕ × Container). AllByRecursion IsPlainExtent entry.1.extents) containers

plain-at : (containers : Containers) (number : ℕ) → ArePlainContainers containers → AllByRecursion IsPlainExtent (container_at containers number).extents
plain-at [] number each = tt
plain-at (entry ∷ entries) zero each = each.0
plain-at (entry ∷ entries) (suc number) each = plain-at entries number each.1

-- the subsets of links have such ranges
abbrev pub HavePlainSpans : List Link → Type 0
HavePlainSpans links = AllByRecursion (λ link. ArePlainSpans (link_spans link)) links

pub shapes-right : (containers : Containers) (number : ℕ) (links : List Link) → ArePlainContainers containers → HavePlainSpans links → have_shapes containers number links ≡ true → HaveShapes containers number links
shapes-right containers number [] plain spans is = tt
shapes-right containers number (link ∷ links) plain spans is =
    let extents = (container_at containers number).extents in
    let split = both (has_shape containers number link) (have_shapes containers (suc number) links) is in
    let own = both (are_steps_one (link_spans link)) (are_extents_same (map dim_extent extents) (shape_of (link_spans link))) split.0 in
    (shape-with extents link.memlet.subset.dims (link_spans link) refl (plain-at containers number plain) spans.0 own.1, shapes-right containers (suc number) links plain spans.1 split.1)
