-- Error 10: the two sides of a copy, the target of a reduction or the arguments of a call do not fit.
use Rattle.std.specs.Prelude.{ℕ, ◌+◌, nat_eq, nat_lt, ℤ, pos, negsuc, List, [], ◌∷◌, ◌++◌, length, map, take, drop, Bool, true, false, not, ◌&&◌, ◌||◌, Option, Some, None, bytes_eq, if◌then◌else◌}
use Rattle.std.specs.Ordering.{int_eq}
use Rattle.std.specs.List.{list_any, zip}
use Rattle.std.specs.Cmp.Lexicographic.{pointwise}
use Rattle.sd_range.specs.declared.affine.Affine.{Affine}
use Rattle.sd_range.specs.Arithmetic.{affine_zero, affine_difference}
use Rattle.sd_lex.specs.PlainTree.{Expression, Dimension, index, span, StatementTree, copy, call}
use Rattle.sd_line.specs.line.Head.{HeadTree, statement_head, reduce_head}
use Rattle.sd_uses.specs.declared.stretch.Stretch.{Stretch}
use Rattle.sd_names.specs.declared.meaning.Meaning.{Meaning}
use Rattle.sd_names.specs.declared.meaning.Signature.{Signature}
use Rattle.sd_names.specs.declared.meaning.Parameter.{Parameter}
use Rattle.sd_names.specs.Names.{Name, Names, meaning_of, signature_by, extents_of, is_repeated}
use Rattle.sd_names.specs.Expressions.{value_of}
use Rattle.sd_names.specs.Extents.{is_same, are_same, or_one}

abbrev pub number_or : ℤ → Option ℤ → ℤ
number_or other None = other
number_or other (Some n) = n

abbrev pub bound_or : Affine → List (Name × Meaning) → Option Expression → Affine
bound_or other names None = other
bound_or other names (Some e) = value_of names e

-- the stretch of a dimension of this extent; an index has none
abbrev pub stretch_of : List (Name × Meaning) → (extent : Affine) → Dimension → List Stretch
stretch_of names extent (index at) = []
stretch_of names extent (span begin end step) =
    record { length = affine_difference (bound_or extent names end) (bound_or affine_zero names begin); step = number_or (pos 1) step } ∷ []

-- the extent of the first dimension that is left
abbrev pub first_extent : List Affine → Affine
first_extent [] = affine_zero
first_extent (extent ∷ extents) = extent

abbrev pub stretches_of : List (Name × Meaning) → (extents : List Affine) → List Dimension → List Stretch
stretches_of names extents [] = []
stretches_of names extents (dimension ∷ dimensions) = stretch_of names (first_extent extents) dimension ++ stretches_of names (drop 1 extents) dimensions

abbrev pub whole_stretch : Affine → Stretch
whole_stretch extent = record { length = extent; step = pos 1 }

-- the stretches of a container's subset; where none is written it is the whole
abbrev pub subset_of : Names → Name → List Dimension → List Stretch
subset_of names name [] = map whole_stretch (extents_of names name)
subset_of names name dimensions = stretches_of names.meanings (extents_of names name) dimensions

abbrev pub is_same_stretch : Stretch → Stretch → Bool
is_same_stretch a b = int_eq a.step b.step && is_same a.length b.length

-- the extents without that of the axis; None where the axis is no dimension
abbrev pub without_axis : (axis : ℕ) → List Affine → Option (List Affine)
without_axis axis extents = if nat_lt axis (length extents) then Some (take axis extents ++ drop (axis + 1) extents) else None

abbrev pub left_over : (axis : Option ℤ) → List Affine → Option (List Affine)
left_over None extents = Some []
left_over (Some (pos axis)) extents = without_axis axis extents
left_over (Some (negsuc below)) extents = None

-- the target has these extents
abbrev pub is_left_over : Option (List Affine) → List Affine → Bool
is_left_over None target = false
is_left_over (Some extents) target = are_same (or_one extents) target

abbrev pub any_other_step : List Stretch → Bool
any_other_step subset = list_any (λ stretch. not (int_eq stretch.step (pos 1))) subset

-- an argument that is no parameter of these extents
abbrev pub is_no_argument : Names → (Name × List Dimension) × Parameter → Bool
is_no_argument names pair =
    let subset = subset_of names pair.0.0 pair.0.1 in
    any_other_step subset || not (are_same (or_one (map (λ stretch. stretch.length) subset)) pair.1.extents)

abbrev pub containers_of : List (Name × List Dimension) → List Name
containers_of arguments = map (λ argument. argument.0) arguments

-- an argument that the program writes, and that is another argument too
abbrev pub is_shared : List (Name × List Dimension) → (Name × List Dimension) × Parameter → Bool
is_shared arguments pair = pair.1.is_written && is_repeated (containers_of arguments) pair.0.0

abbrev pub is_no_call_of : Names → List (Name × List Dimension) → Signature → Bool
is_no_call_of names arguments signature =
    not (nat_eq (length arguments) (length signature.parameters))
    || list_any (is_no_argument names) (zip arguments signature.parameters)
    || list_any (is_shared arguments) (zip arguments signature.parameters)

abbrev pub is_no_call : Names → List (Name × List Dimension) → Option Signature → Bool
is_no_call names arguments None = true
is_no_call names arguments (Some signature) = is_no_call_of names arguments signature

abbrev pub is_no_copy : Names → (to : Name) → List Dimension → (from : Name) → List Dimension → Bool
is_no_copy names to to_dimensions from from_dimensions =
    bytes_eq to from || not (pointwise is_same_stretch (subset_of names to to_dimensions) (subset_of names from from_dimensions))

abbrev pub statement_mismatches : Names → StatementTree → Bool
statement_mismatches names (copy line to to_dimensions from from_dimensions) = is_no_copy names to to_dimensions from from_dimensions
statement_mismatches names (call line name arguments) = is_no_call names arguments (signature_by (meaning_of names name))
statement_mismatches names other = false

abbrev pub is_no_reduction : Names → (from to : Name) → (axis : Option ℤ) → Bool
is_no_reduction names from to axis = bytes_eq from to || not (is_left_over (left_over axis (extents_of names from)) (extents_of names to))

abbrev pub has_mismatch : Names → HeadTree → Bool
has_mismatch names (statement_head s) = statement_mismatches names s
has_mismatch names (reduce_head lambda from to axis identity) = is_no_reduction names from to axis
has_mismatch names other = false
