-- The ranges and subsets that are written in a program have small expressions.
use Rattle.std.proofs.Common.{◌≡◌, ℕ, zero, suc, ◌+◌, ℤ, pos, List, [], ◌∷◌, map, length, Option, Some, None, unwrap_or, Bool, true, false, refl, arith}
use Rattle.std.specs.List.{AllByRecursion}
use Rattle.sd_lex.specs.PlainTree.{Expression, Expressions, no_expression, and_expression, Dimension, index, span}
use Rattle.sd_range.specs.Arithmetic.{affine_zero}
use Rattle.sd_range.specs.declared.affine.Affine.{Affine}
use Rattle.sd_range.specs.declared.range.Range.{Range}
use Rattle.sd_range.specs.declared.subset.Dim.{Dim}
use Rattle.sd_range.specs.declared.subset.Dim.TheVariants.{Index, Span}
use Rattle.sd_program.specs.Names.{Named}
use Rattle.sd_program.specs.Affines.{affine_of, affines_of}
use Rattle.sd_program.specs.Bounds.{EachExpression, IfWritten, EachEnd, EachDimension}
use Rattle.sd_program.specs.Limits.{IsStep, HasStep}
use Rattle.sd_program.specs.Small.{IsWithinLimits, IsSmall}
use Rattle.sd_task.specs.in_force.Ranges.{affine_or, range_between, range_of, parameters_of}
use Rattle.sd_task.specs.in_force.Subsets.{whole, first_element, dim_of, dims_of, subset_of, are_units, first_or_whole, connector_subset}
use Rattle.sd_task.specs.in_force.SmallExtents.{HaveSmallExtents}
use Rattle.sd_task.proofs.in_force_lemmas.SmallLemmas.{within_from_small, zero_within}
use Rattle.sd_graph.specs.ContainerParts.{Containers}
use Rattle.sd_task.specs.task.Table.{extents_at}
use Rattle.sd_made.proofs.limits_lemmas.Near.{IsNear, near_within, one_less_near}

-- one end, a step within the limits, and small expressions
pub record IsFewRange (range : Range) : Type 0 where
  pub begin : IsNear range.begin
  pub ends : AllByRecursion IsNear range.ends
  pub one : length range.ends ≡ 1
  pub step : IsStep (Some range.step)

abbrev pub IsFewDim : Dim → Type 0
IsFewDim (Index at) = IsNear at
IsFewDim (Span range) = IsFewRange range

abbrev pub AreFewDims : List Dim → Type 0
AreFewDims dims = AllByRecursion IsFewDim dims

abbrev AreWithin : List Affine → Type 0
AreWithin extents = AllByRecursion IsWithinLimits extents

one_step : (step : Option ℤ) → IsStep step → IsStep (Some (unwrap_or step (pos 1)))
one_step None is = (1, (refl, (omega arith, omega arith)))
one_step (Some step) is = is

between : (begin end : Affine) (step : Option ℤ) → IsWithinLimits begin → IsWithinLimits end → IsStep step → IsFewRange (range_between begin end step)
between begin end step first second is = record { begin = near_within begin first; ends = (one_less_near end second, tt); one = refl; step = one_step step is }

whole_few : (extents : List Affine) → AreWithin extents → AreFewDims (whole extents)
whole_few [] all = tt
whole_few (extent ∷ extents) all = (between affine_zero extent None zero_within all.0 tt, whole_few extents all.1)

first_few : (extents : List Affine) → AreFewDims (first_element extents)
first_few [] = tt
first_few (extent ∷ extents) = (near_within affine_zero zero_within, first_few extents)

either_few : (units : Bool) (extents : List Affine) → AreWithin extents → AreFewDims (first_or_whole units extents)
either_few true extents all = first_few extents
either_few false extents all = whole_few extents all

-- the extents of a container by its number
pub extents_within : (containers : Containers) (container : ℕ) → HaveSmallExtents containers → AreWithin (extents_at containers container)
extents_within [] container all = tt
extents_within (entry ∷ containers) zero all = all.0
extents_within (entry ∷ containers) (suc container) all = extents_within containers container all.1

module _ (variables : Named ℕ) where
  pub or_within : (other : Affine) (expression : Option Expression) → IsWithinLimits other → IfWritten IsSmall expression → IsWithinLimits (affine_or other variables expression)
  or_within other None within small = within
  or_within other (Some expression) within small = within_from_small variables expression small

  range_few : (dimension : Dimension) → EachEnd IsSmall dimension → HasStep dimension → IsFewRange (range_of variables dimension)
  range_few (index at) small step =
      let near : IsNear (affine_of variables at) = near_within (affine_of variables at) (within_from_small variables at small) in
      record { begin = near; ends = (near, tt); one = refl; step = one_step None tt }
  range_few (span begin end step) small is =
      between (affine_or affine_zero variables begin) (affine_or affine_zero variables end) step (or_within affine_zero begin zero_within small.0) (or_within affine_zero end zero_within small.1) is

  -- the parameters of a map
  pub params_few : (ranges : List Dimension) (variable : ℕ) → EachDimension IsSmall ranges → AllByRecursion HasStep ranges → AllByRecursion (λ param. IsFewRange param.1) (parameters_of variables ranges variable)
  params_few [] variable small steps = tt
  params_few (range ∷ ranges) variable small steps = (range_few range small.0 steps.0, params_few ranges (variable + 1) small.1 steps.1)

  dim_few : (dimension : Dimension) (extent : Affine) → IsWithinLimits extent → EachEnd IsSmall dimension → HasStep dimension → IsFewDim (dim_of variables dimension extent)
  dim_few (index at) extent within small is = near_within (affine_of variables at) (within_from_small variables at small)
  dim_few (span begin end step) extent within small is =
      between (affine_or affine_zero variables begin) (affine_or extent variables end) step (or_within affine_zero begin zero_within small.0) (or_within extent end within small.1) is

  dims_few : (dimensions : List Dimension) (extents : List Affine) → AreWithin extents → EachDimension IsSmall dimensions → AllByRecursion HasStep dimensions → AreFewDims (dims_of variables dimensions extents)
  dims_few [] extents all small steps = tt
  dims_few (dimension ∷ dimensions) [] all small steps = tt
  dims_few (dimension ∷ dimensions) (extent ∷ extents) all small steps = (dim_few dimension extent all.0 small.0 steps.0, dims_few dimensions extents all.1 small.1 steps.1)

  pub subset_few : (dimensions : List Dimension) (extents : List Affine) → AreWithin extents → EachDimension IsSmall dimensions → AllByRecursion HasStep dimensions → AreFewDims (subset_of variables dimensions extents)
  subset_few [] extents all small steps = whole_few extents all
  subset_few (dimension ∷ dimensions) extents all small steps = dims_few (dimension ∷ dimensions) extents all small steps

  pub connector_few : (dimensions : List Dimension) (extents : List Affine) → AreWithin extents → EachDimension IsSmall dimensions → AllByRecursion HasStep dimensions → AreFewDims (connector_subset variables dimensions extents)
  connector_few [] extents all small steps = either_few (are_units extents) extents all
  connector_few (dimension ∷ dimensions) extents all small steps = dims_few (dimension ∷ dimensions) extents all small steps

  pub indices_few : (at : Expressions) → EachExpression IsSmall at → AreFewDims (map Index (affines_of variables at))
  indices_few no_expression small = tt
  indices_few (and_expression first rest) small = (near_within (affine_of variables first) (within_from_small variables first small.0), indices_few rest small.1)
