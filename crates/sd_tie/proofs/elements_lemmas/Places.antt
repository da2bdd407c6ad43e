-- Subsets of the graph are the parts that statements name.
use Rattle.std.proofs.Common.{◌≡◌, ℕ, ℤ, pos, ◌-ℤ◌, ◌+ℤ◌, ◌*ℤ◌, List, [], ◌∷◌, map, length, None, Bool, true, false, refl, ap}
use Rattle.sd_lex.specs.PlainTree.{Dimension, index, span}
use Rattle.sd_range.specs.Affine.{affine_value, variable_value}
use Rattle.sd_range.specs.Arithmetic.{affine_zero, affine_difference}
use Rattle.sd_range.specs.Range.{range_values, least_value}
use Rattle.sd_range.specs.Subset.{dim_values}
use Rattle.sd_range.specs.declared.affine.Affine.{Affine}
use Rattle.sd_range.specs.declared.subset.Dim.{Dim}
use Rattle.sd_range.specs.declared.subset.Dim.TheVariants.{Index, Span}
use Rattle.sd_graph.specs.Context as graph
use Rattle.sd_program.specs.Names.{Named}
use Rattle.sd_program.specs.Affines.{affine_number}
use Rattle.sd_program.specs.IsAffine.{IsAffine}
use Rattle.sd_program.specs.Bounds.{EachEnd, EachDimension}
use Rattle.sd_task.specs.in_force.Subsets.{whole, first_element, dim_of, dims_of, subset_of, are_units, first_or_whole, connector_subset}
use Rattle.sd_says.specs.Exact.{step_or_one}
use Rattle.sd_says.specs.Setting.{with_each}
use Rattle.sd_says.specs.Parts.{Axis, one_index, a_range, axis_in, axes_with, whole_axes, axes_in, first_axes, connector_axes, axis_values, axes_extents, index_at}
use Rattle.sd_tie.proofs.elements_lemmas.Affines.{zero_value, affine_exact, affine_or_exact, last_exact}

-- a dimension by its values
abbrev pub axis_of : List ℤ → Dim → Axis
axis_of values (Index at) = one_index (affine_value values at)
axis_of values (Span range) = a_range (affine_value values range.begin) (least_value values range.ends) range.step

abbrev pub axes_of : List ℤ → List Dim → List Axis
axes_of values dims = map (axis_of values) dims

values_of_dim : (values : List ℤ) (dim : Dim) → dim_values values dim ≡ axis_values (axis_of values dim)
values_of_dim values (Index at) = refl
values_of_dim values (Span range) = refl

pub values_of_dims : (values : List ℤ) (dims : List Dim) → map (dim_values values) dims ≡ map axis_values (axes_of values dims)
values_of_dims values [] = refl
values_of_dims values (dim ∷ dims) = λ i. values_of_dim values dim i ∷ values_of_dims values dims i

pub extents_of_dims : (values : List ℤ) (dims : List Dim) → graph.span_counts dims values ≡ axes_extents (axes_of values dims)
extents_of_dims values [] = refl
extents_of_dims values (Index at ∷ dims) = extents_of_dims values dims
extents_of_dims values (Span range ∷ dims) = ap (λ rest. length (range_values values range) ∷ rest) (extents_of_dims values dims)

pub index_of_dims : (values : List ℤ) (dims : List Dim) (place : List ℤ) → graph.index_at dims values place ≡ index_at (axes_of values dims) place
index_of_dims values [] place = refl
index_of_dims values (Index at ∷ dims) place = ap (λ rest. affine_value values at ∷ rest) (index_of_dims values dims place)
index_of_dims values (Span range ∷ dims) [] = ap (λ rest. affine_value values range.begin ∷ rest) (index_of_dims values dims [])
index_of_dims values (Span range ∷ dims) (steps ∷ place) = ap (λ rest. (affine_value values range.begin +ℤ (range.step *ℤ steps)) ∷ rest) (index_of_dims values dims place)

module _ (values : List ℤ) (variables : Named ℕ) where
  abbrev named : Named ℤ
  named = with_each (variable_value values) variables

  -- the extents of a container have these values
  abbrev pub HaveValues : List Affine → List ℕ → Type 0
  HaveValues extents numbers = map (affine_value values) extents ≡ map pos numbers

  last_value : (extent : Affine) (number : ℕ) → affine_value values extent ≡ pos number → affine_value values (affine_difference extent (affine_number (pos 1))) ≡ pos number -ℤ pos 1
  last_value extent number e = last_exact values variables extent (pos number) e None tt

  pub whole_axes_of : (extents : List Affine) (numbers : List ℕ) → HaveValues extents numbers → axes_of values (whole extents) ≡ whole_axes numbers
  whole_axes_of [] [] e = refl
  whole_axes_of [] (number ∷ numbers) e = cc
  whole_axes_of (extent ∷ extents) [] e = cc
  whole_axes_of (extent ∷ extents) (number ∷ numbers) e =
      let first : affine_value values extent ≡ pos number = cc in
      let rest : HaveValues extents numbers = cc in
      (λ i. a_range (zero_value values i) (last_value extent number first i) (pos 1) ∷ whole_axes_of extents numbers rest i)

  axis_tied : (dimension : Dimension) (extent : Affine) (number : ℕ) → affine_value values extent ≡ pos number → EachEnd IsAffine dimension →
      axis_of values (dim_of variables dimension extent) ≡ axis_in named (pos number) dimension
  axis_tied (index at) extent number e h = ap one_index (affine_exact values variables at h)
  axis_tied (span begin end step) extent number e h =
      λ i. a_range (affine_or_exact values variables affine_zero (pos 0) (zero_value values) begin h.0 i) (last_exact values variables extent (pos number) e end h.1 i) (step_or_one step)

  dims_tied : (dimensions : List Dimension) (extents : List Affine) (numbers : List ℕ) → HaveValues extents numbers → EachDimension IsAffine dimensions →
      axes_of values (dims_of variables dimensions extents) ≡ axes_with named dimensions numbers
  dims_tied [] extents numbers e h = refl
  dims_tied (dimension ∷ dimensions) [] [] e h = refl
  dims_tied (dimension ∷ dimensions) [] (number ∷ numbers) e h = cc
  dims_tied (dimension ∷ dimensions) (extent ∷ extents) [] e h = cc
  dims_tied (dimension ∷ dimensions) (extent ∷ extents) (number ∷ numbers) e h =
      let first : affine_value values extent ≡ pos number = cc in
      let rest : HaveValues extents numbers = cc in
      (λ i. axis_tied dimension extent number first h.0 i ∷ dims_tied dimensions extents numbers rest h.1 i)

  -- a subset
  pub subset_tied : (dimensions : List Dimension) (extents : List Affine) (numbers : List ℕ) → HaveValues extents numbers → EachDimension IsAffine dimensions →
      axes_of values (subset_of variables dimensions extents) ≡ axes_in named dimensions numbers
  subset_tied [] extents numbers e h = whole_axes_of extents numbers e
  subset_tied (dimension ∷ dimensions) extents numbers e h = dims_tied (dimension ∷ dimensions) extents numbers e h

  first_tied : (extents : List Affine) (numbers : List ℕ) → HaveValues extents numbers → axes_of values (first_element extents) ≡ first_axes numbers
  first_tied [] [] e = refl
  first_tied [] (number ∷ numbers) e = cc
  first_tied (extent ∷ extents) [] e = cc
  first_tied (extent ∷ extents) (number ∷ numbers) e =
      let rest : HaveValues extents numbers = cc in
      (λ i. one_index (zero_value values i) ∷ first_tied extents numbers rest i)

  -- the subset of a connector
  pub connector_tied : (dimensions : List Dimension) (extents : List Affine) (numbers : List ℕ) → HaveValues extents numbers → EachDimension IsAffine dimensions →
      axes_of values (connector_subset variables dimensions extents) ≡ connector_axes named (are_units extents) dimensions numbers
  connector_tied [] extents numbers e h = go (are_units extents)
    where
      go : (unit : Bool) → axes_of values (first_or_whole unit extents) ≡ connector_axes named unit [] numbers
      go true = first_tied extents numbers e
      go false = whole_axes_of extents numbers e
  connector_tied (dimension ∷ dimensions) extents numbers e h = go (are_units extents)
    where
      go : (unit : Bool) → axes_of values (subset_of variables (dimension ∷ dimensions) extents) ≡ connector_axes named unit (dimension ∷ dimensions) numbers
      go true = subset_tied (dimension ∷ dimensions) extents numbers e h
      go false = subset_tied (dimension ∷ dimensions) extents numbers e h
