-- The elements of a subset are those at the places of its connector, in row order.
use Rattle.std.proofs.Common.{◌≡◌, ℕ, zero, suc, ℤ, pos, ◌+ℤ◌, ◌*ℤ◌, List, [], ◌∷◌, ◌++◌, map, refl, ap, sym, ◌∙◌, arith}
use Rattle.std.specs.List.{flat_map}
use Rattle.std.proofs.lemmas.Int.{ints}
use Rattle.std.proofs.lemmas.List.{append-nil, map-append}
use Rattle.std.proofs.lemmas.Simd.{map-map}
use Rattle.std.proofs.Math.IntN.{+ℤ_assoc}
use Rattle.sd_num.proofs.Products.{*ℤ_distrib_left}
use Rattle.sd_range.specs.declared.range.Range.{Range}
use Rattle.sd_range.specs.declared.subset.Dim.{Dim}
use Rattle.sd_range.specs.declared.subset.Dim.TheVariants.{Index, Span}
use Rattle.sd_range.specs.declared.subset.Subset.{Subset}
use Rattle.sd_range.specs.Affine.{affine_value}
use Rattle.sd_range.specs.Range.{count_between, counted_from, least_value, range_values}
use Rattle.sd_range.specs.Points.{tuples}
use Rattle.sd_range.specs.Subset.{dim_values, elements, whole}
use Rattle.sd_range.proofs.SubsetLaws.{counted-length}
use Rattle.sd_work.specs.Exit.{Values}
use Rattle.sd_graph.specs.Context.{index_at, span_counts}

once : (step : ℤ) → step *ℤ pos 1 ≡ step
once step = grind (arith, ints)

never : (begin step : ℤ) → begin ≡ begin +ℤ (step *ℤ pos 0)
never begin step = grind (arith, ints)

one_step_on : (begin step number at : ℤ) → at ≡ begin +ℤ (step *ℤ number) → at +ℤ step ≡ begin +ℤ (step *ℤ (number +ℤ pos 1))
one_step_on begin step number at e =
    ap (λ at. at +ℤ step) e
    ∙ +ℤ_assoc begin (step *ℤ number) step
    ∙ ap (λ steps. begin +ℤ steps) (sym (*ℤ_distrib_left step number (pos 1) ∙ ap (λ last. (step *ℤ number) +ℤ last) (once step)))

-- the values of a range are those of its numbers
range_places : (range : Range) (dims : List Dim) (values : Values) (inner : List (List ℤ)) (count : ℕ) (at number : ℤ) → at ≡ affine_value values range.begin +ℤ (range.step *ℤ number) →
    flat_map (λ first. map (λ rest. first ∷ rest) (map (index_at dims values) inner)) (counted_from at range.step count)
    ≡ map (index_at (Span range ∷ dims) values) (flat_map (λ first. map (λ rest. first ∷ rest) inner) (counted_from number (pos 1) count))
range_places range dims values inner zero at number e = refl
range_places range dims values inner (suc count) at number e =
    let place : List ℤ → List ℤ = index_at (Span range ∷ dims) values in
    let begun : List (List ℤ) = map (λ rest. number ∷ rest) inner in
    let others : List (List ℤ) = flat_map (λ first. map (λ rest. first ∷ rest) inner) (counted_from (number +ℤ pos 1) (pos 1) count) in
    let other_elements : List (List ℤ) = flat_map (λ first. map (λ rest. first ∷ rest) (map (index_at dims values) inner)) (counted_from (at +ℤ range.step) range.step count) in
    let here : map (λ rest. at ∷ rest) (map (index_at dims values) inner) ≡ map place begun =
    map-map (λ rest. at ∷ rest) (index_at dims values) inner
    ∙ ap (λ first. map (λ rest. first ∷ index_at dims values rest) inner) e
    ∙ sym (map-map place (λ rest. number ∷ rest) inner) in
    let there : other_elements ≡ map place others =
    range_places range dims values inner count (at +ℤ range.step) (number +ℤ pos 1) (one_step_on (affine_value values range.begin) range.step number at e) in
    ap (λ elements. elements ++ other_elements) here ∙ ap (λ elements. map place begun ++ elements) there ∙ sym (map-append place begun others)

dims_places : (dims : List Dim) (values : Values) → tuples (map (dim_values values) dims) ≡ map (index_at dims values) (whole (span_counts dims values))
dims_places [] values = refl
dims_places (Index number ∷ dims) values =
    let at : ℤ = affine_value values number in
    append-nil (map (λ rest. at ∷ rest) (tuples (map (dim_values values) dims)))
    ∙ ap (map (λ rest. at ∷ rest)) (dims_places dims values)
    ∙ map-map (λ rest. at ∷ rest) (index_at dims values) (whole (span_counts dims values))
dims_places (Span range ∷ dims) values =
    let begin : ℤ = affine_value values range.begin in
    let count : ℕ = count_between begin (least_value values range.ends) range.step in
    let inner : List (List ℤ) = whole (span_counts dims values) in
    ap (λ others. flat_map (λ first. map (λ rest. first ∷ rest) others) (range_values values range)) (dims_places dims values)
    ∙ range_places range dims values inner count begin (pos 0) (never begin range.step)
    ∙ ap (λ count. map (index_at (Span range ∷ dims) values) (flat_map (λ first. map (λ rest. first ∷ rest) inner) (counted_from (pos 0) (pos 1) count))) (sym (counted-length count begin range.step))

pub elements_are_at_places : (subset : Subset) (values : Values) → elements subset values ≡ map (index_at subset.dims values) (whole (span_counts subset.dims values))
elements_are_at_places subset values = dims_places subset.dims values
