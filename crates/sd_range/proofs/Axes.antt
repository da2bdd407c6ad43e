-- The axes of ranges, and the way that begins on them.
use Rattle.std.proofs.Common.{◌≡◌, ◌∷◌, [], ℤ, List, map, ap, refl, ◌∙◌, length}
use Rattle.std.specs.List.{AllByRecursion}
use Rattle.std.proofs.lemmas.List.{length-map}
use Rattle.sd_range.specs.Range.{IsRange, range_values}
use Rattle.sd_range.specs.Points.{tuples, values_of_ranges, opening, Walk}
use Rattle.sd_range.specs.Axis.{axis_of, axis_values, first_of, Rises}
use Rattle.sd_range.specs.Stage.{current_at, left_at, IsOpening}
use Rattle.sd_range.specs.declared.axis.Axis.{Axis}
use Rattle.sd_range.specs.declared.range.Range.{Range}
use Rattle.sd_range.specs.declared.stage.Stage.{Stage}

-- the axes of ranges rise
pub axes-rise : (values : List ℤ) (ranges : List Range) → AllByRecursion IsRange ranges → AllByRecursion Rises (map (axis_of values) ranges)
axes-rise values [] each = tt
axes-rise values (r ∷ ranges) each = (each.0.rises, axes-rise values ranges each.1)

-- their numbers are the values of the ranges
axes-values : (values : List ℤ) (ranges : List Range) → map axis_values (map (axis_of values) ranges) ≡ values_of_ranges ranges values
axes-values values [] = refl
axes-values values (r ∷ ranges) = ap (λ others. range_values values r ∷ others) (axes-values values ranges)

-- there are as many first numbers as axes
pub firsts_length : (axes : List Axis) (at : List ℤ) → at ≡ map first_of axes → length at ≡ length axes
firsts_length axes at firsts = ap length firsts ∙ length-map axes first_of

-- with their first numbers a way stands before all points
pub opening_is : (ranges : List Range) (values : List ℤ) (stage : Stage) (axes : List Axis) (at : List ℤ) → axes ≡ map (axis_of values) ranges → at ≡ map first_of axes → IsOpening stage axes →
    (let walk : Walk = record { ranges = ranges; parameters = map axis_values axes; current = current_at stage at; left = left_at stage axes at } in walk) ≡ opening ranges values
opening_is ranges values stage axes at made firsts opens =
    let parameters : map axis_values axes ≡ values_of_ranges ranges values = ap (map axis_values) made ∙ axes-values values ranges in
    ap (λ a. let walk : Walk = record { ranges = ranges; parameters = map axis_values axes; current = current_at stage a; left = left_at stage axes a } in walk) firsts
    ∙ ap (λ current. let walk : Walk = record { ranges = ranges; parameters = map axis_values axes; current = current; left = left_at stage axes (map first_of axes) } in walk) opens.current
    ∙ ap (λ left. let walk : Walk = record { ranges = ranges; parameters = map axis_values axes; current = (opening ranges values).current; left = left } in walk) opens.left
    ∙ ap (λ lists. let walk : Walk = record { ranges = ranges; parameters = lists; current = (opening ranges values).current; left = tuples lists } in walk) parameters
