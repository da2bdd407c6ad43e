-- Extents as they are told: above 2^63 no number of an index tells them apart.
use Rattle.std.proofs.Common.{◌≡◌, ℕ, zero, suc, ◌+◌, ◌*◌, ◌<◌, ◌≤◌, ◌^◌, ℤ, pos, negsuc, List, [], ◌∷◌, map, length, get_or, slice_index_or, drop, Bool, true, false, ◌&&◌, int_le, int_lt, Ok, Err, if◌then◌else◌, refl, sym, ap, ◌∙◌, arith}
use Rattle.std.proofs.lemmas.List.{length-map}
use Rattle.std.proofs.Math.ListN.{drop_of_length-le}
use Rattle.std.proofs.Math.Nat.{mul-le-mul}
use Rattle.sd_range.specs.Points.{product}
use Rattle.sd_range.specs.Subset.{inside}
use Rattle.sd_range.proofs.TupleLaws.{product-cons}
use Rattle.sd_graph.specs.RowOrder.{row_number}
use Rattle.sd_graph.specs.TaskletMeaning as meaning
use Rattle.sd_graph.proofs.RowNumbers.{row_number_below}
use Rattle.sd_work.specs.declared.fault.FaultKind.TheVariants.{Subscript}
use Rattle.sd_tasklet.specs.tasklet.Given.{told_extent, told_inputs}
use Rattle.sd_tasklet.proofs.tasklet_lemmas.Places.{both, outside_count, inside_at}

-- ---- one extent

-- an extent that is told as one below 2^63 is that one
one_extent : (meant extent : ℕ) → told_extent meant ≡ told_extent extent → extent < 2 ^ 63 → meant ≡ extent
one_extent meant extent same few = omega (arith, same, few)

-- ---- the extents of a connector

-- there are as many
pub as_many : (meant extents : List ℕ) → map told_extent meant ≡ map told_extent extents → length meant ≡ length extents
as_many meant extents same = sym (length-map meant told_extent) ∙ ap length same ∙ length-map extents told_extent

-- the same of each of them
pub each_told : (meant extents : List ℕ) (k : ℕ) → map told_extent meant ≡ map told_extent extents → told_extent (get_or meant k 0) ≡ told_extent (get_or extents k 0)
each_told [] [] k same = refl
each_told [] (extent ∷ extents) k same = cc
each_told (first ∷ meant) [] k same = cc
each_told (first ∷ meant) (extent ∷ extents) zero same = cc
each_told (first ∷ meant) (extent ∷ extents) (suc k) same =
    let others : map told_extent meant ≡ map told_extent extents = cc in
    each_told meant extents k others

-- ---- an index, number by number

module _ (meant extents : List ℕ) (at : List ℤ) (same : map told_extent meant ≡ map told_extent extents) where
  pub too_many : (length extents ≡ length at → ⊥) → false ≡ inside meant at
  too_many other = outside_count meant at (λ many. other (sym (as_many meant extents same) ∙ many))

  module _ (many : length extents ≡ length at) (k : ℕ) (so_far : inside meant at ≡ inside (drop k meant) (drop k at)) where
    meant_many : length meant ≡ length at
    meant_many = as_many meant extents same ∙ many

    module _ (within : k < length extents) (here : Bool) (here_is : here ≡ (int_le (pos 0) (get_or at k (pos 0)) && int_lt (get_or at k (pos 0)) (pos (get_or meant k 0)))) where
      at_number : inside meant at ≡ (here && inside (drop (k + 1) meant) (drop (k + 1) at))
      at_number =
          so_far ∙ inside_at meant at k (omega (arith, within, as_many meant extents same)) meant_many
          ∙ ap (λ (here : Bool). here && inside (drop (k + 1) meant) (drop (k + 1) at)) (sym here_is)

      pub number_on : here ≡ true → inside meant at ≡ inside (drop (k + 1) meant) (drop (k + 1) at)
      number_on on = at_number ∙ ap (λ (here : Bool). here && inside (drop (k + 1) meant) (drop (k + 1) at)) on

      pub number_off : here ≡ false → false ≡ inside meant at
      number_off off = sym (at_number ∙ ap (λ (here : Bool). here && inside (drop (k + 1) meant) (drop (k + 1) at)) off)

    pub numbers_over : length extents ≤ k → true ≡ inside meant at
    numbers_over over =
        let none : drop k meant ≡ [] = drop_of_length-le meant (omega (arith, over, as_many meant extents same)) in
        let end : drop k at ≡ [] = drop_of_length-le at (omega (arith, over, many)) in
        sym (so_far ∙ (λ i. inside (none i) (end i)))

-- ---- elements

above : (number : ℤ) (extent : ℕ) → (int_le (pos 0) number && int_lt number (pos extent)) ≡ true → 0 < extent
above (pos number) extent within = grind (arith, (both (int_le (pos 0) (pos number)) (int_lt (pos number) (pos extent)) within).1)
above (negsuc number) extent within = cc

-- where an index is inside and there are fewer elements than 2^63, the extents are told as they are
pub as_told : (meant extents : List ℕ) (at : List ℤ) → map told_extent meant ≡ map told_extent extents → inside extents at ≡ true → product extents < 2 ^ 63 → meant ≡ extents
as_told [] [] at same within few = refl
as_told [] (extent ∷ extents) at same within few = cc
as_told (first ∷ meant) [] at same within few = cc
as_told (first ∷ meant) (extent ∷ extents) [] same within few = cc
as_told (first ∷ meant) (extent ∷ extents) (number ∷ at) same within few =
    let parts = both (int_le (pos 0) number && int_lt number (pos extent)) (inside extents at) within in
    let some : 0 < product extents = omega (arith, row_number_below extents at parts.1) in
    let here : 0 < extent = above number extent parts.0 in
    let one : extent * 1 ≤ extent * product extents = mul-le-mul (omega arith) (omega arith) in
    let row : 1 * product extents ≤ extent * product extents = mul-le-mul (omega arith) (omega arith) in
    let head : told_extent first ≡ told_extent extent = cc in
    let others : map told_extent meant ≡ map told_extent extents = cc in
    let all = product-cons extent extents in
    let first_is : first ≡ extent = one_extent first extent head (omega (arith, one, all, few)) in
    let others_are : meant ≡ extents = as_told meant extents at others parts.1 (omega (arith, row, all, few)) in
    (λ i. first_is i ∷ others_are i)

-- ---- the extents of all connectors

each_connector : (meant all : List (List ℕ)) (connector : ℕ) → map (map told_extent) meant ≡ map (map told_extent) all →
    map told_extent (slice_index_or meant connector []) ≡ map told_extent (slice_index_or all connector [])
each_connector [] [] connector same = refl
each_connector [] (extents ∷ all) connector same = cc
each_connector (first ∷ meant) [] connector same = cc
each_connector (first ∷ meant) (extents ∷ all) zero same = cc
each_connector (first ∷ meant) (extents ∷ all) (suc connector) same =
    let others : map (map told_extent) meant ≡ map (map told_extent) all = cc in
    each_connector meant all connector others

module _ (inputs meant : meaning.Inputs) (same : told_inputs inputs ≡ told_inputs meant) where
  pub values_meant : inputs.values ≡ meant.values
  values_meant = ap (λ (inputs : meaning.Inputs). inputs.values) same

  pub variables_meant : inputs.variables ≡ meant.variables
  variables_meant = ap (λ (inputs : meaning.Inputs). inputs.variables) same

  pub connector_meant : (connector : ℕ) → map told_extent (meaning.extents_of_connector meant connector) ≡ map told_extent (meaning.extents_of_connector inputs connector)
  connector_meant connector = each_connector meant.extents inputs.extents connector (sym (ap (λ (inputs : meaning.Inputs). inputs.extents) same))

  pub connector_told : (connector : ℕ) (extents : List ℕ) → extents ≡ meaning.extents_of_connector inputs connector → map told_extent (meaning.extents_of_connector meant connector) ≡ map told_extent extents
  connector_told connector extents is = connector_meant connector ∙ ap (map told_extent) (sym is)

  -- an element at an index that is inside
  pub element_meant : (connector : ℕ) (at : List ℤ) → inside (meaning.extents_of_connector inputs connector) at ≡ true → product (meaning.extents_of_connector inputs connector) < 2 ^ 63 →
      meaning.element_of inputs connector at ≡ meaning.element_of meant connector at
  element_meant connector at within few =
      let extents = sym (as_told (meaning.extents_of_connector meant connector) (meaning.extents_of_connector inputs connector) at (connector_meant connector) within few) in
      (λ i. slice_index_or (slice_index_or (values_meant i) connector []) (row_number (extents i) at) (pos 0))

  pub same_element : (connector : ℕ) (at : List ℤ) → inside (meaning.extents_of_connector inputs connector) at ≡ true → product (meaning.extents_of_connector inputs connector) < 2 ^ 63 →
      (value : ℤ) → value ≡ meaning.element_of inputs connector at → value ≡ meaning.element_of meant connector at
  same_element connector at within few value is = is ∙ element_meant connector at within few

  -- that of a connector without elements is 0
  pub nothing_meant : (connector : ℕ) (at : List ℤ) → slice_index_or inputs.values connector [] ≡ [] → pos 0 ≡ meaning.element_of meant connector at
  nothing_meant connector at none =
      sym (ap (λ values. slice_index_or (slice_index_or values connector []) (row_number (meaning.extents_of_connector meant connector) at) (pos 0)) (sym values_meant)
      ∙ ap (λ elements. slice_index_or elements (row_number (meaning.extents_of_connector meant connector) at) (pos 0)) none)

-- a place whose subscripts are these
module _ (meant : meaning.Inputs) (connector : ℕ) (found : meaning.Meaning (List ℤ)) (subscripts : List ℤ) (here : Bool) (found_is : found ≡ Ok subscripts)
    (here_is : here ≡ inside (meaning.extents_of_connector meant connector) subscripts) where
  at_place : meaning.place_of meant connector found ≡ (if here then Ok subscripts else Err Subscript)
  at_place =
      ap (λ found. meaning.and_then found (meaning.checked (meaning.extents_of_connector meant connector))) found_is
      ∙ ap (λ (within : Bool). if within then Ok subscripts else Err Subscript) (sym here_is)

  pub place_inside : here ≡ true → meaning.place_of meant connector found ≡ Ok subscripts
  place_inside on = at_place ∙ ap (λ (within : Bool). if within then Ok subscripts else Err Subscript) on

  pub place_outside : here ≡ false → meaning.place_of meant connector found ≡ Err Subscript
  place_outside off = at_place ∙ ap (λ (within : Bool). if within then Ok subscripts else Err Subscript) off

-- ---- told once more

told_twice : (extents : List ℕ) → map told_extent (map told_extent extents) ≡ map told_extent extents
told_twice [] = refl
told_twice (extent ∷ extents) =
    let first : told_extent (told_extent extent) ≡ told_extent extent = omega arith in
    let others = told_twice extents in
    (λ i. first i ∷ others i)

all_twice : (all : List (List ℕ)) → map (map told_extent) (map (map told_extent) all) ≡ map (map told_extent) all
all_twice [] = refl
all_twice (extents ∷ all) = λ i. told_twice extents i ∷ all_twice all i

-- what is given is told as what it stands for
pub told_again : (meant : meaning.Inputs) → told_inputs (told_inputs meant) ≡ told_inputs meant
told_again meant = λ i. record meant { extents = all_twice meant.extents i }
