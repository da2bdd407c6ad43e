-- What is accepted of a subset, by any numbers of the variables.
use Rattle.std.proofs.Common.{◌≡◌, ℕ, nat_eq, ℤ, pos, neg_ℤ, ◌+ℤ◌, ◌*ℤ◌, List, [], ◌∷◌, map, drop, true, Option, Some, None, unwrap_or, refl, ap, sym, ◌∙◌}
use Rattle.std.specs.Ordering.{int_eq}
use Rattle.std.specs.Cmp.Lexicographic.{pointwise}
use Rattle.std.proofs.lemmas.Bool.{eqb-true}
use Rattle.std.proofs.lemmas.Bool.Decides.{Decides-int_eq}
use Rattle.sd_range.specs.declared.affine.Affine.{Affine}
use Rattle.sd_range.specs.Arithmetic.{affine_zero, affine_difference}
use Rattle.sd_lex.specs.PlainTree.{Expression, number, named, element_at, one, two, choice, Dimension, index, span}
use Rattle.sd_names.specs.declared.meaning.Meaning.{Meaning}
use Rattle.sd_names.specs.Names.{Name, place_of, is_among}
use Rattle.sd_names.specs.Expressions.{value_of}
use Rattle.sd_names.specs.Extents.{is_same_term, is_same, are_same, or_one}
use Rattle.sd_uses.specs.declared.stretch.Stretch.{Stretch}
use Rattle.sd_uses.specs.ShapeMismatch.{number_or, bound_or, first_extent, whole_stretch, is_same_stretch}
use Rattle.sd_uses.specs.ShapeMismatch as accepted
use Rattle.sd_program.specs.Names.{Named}
use Rattle.sd_program.specs.Affines.{affine_variable, affine_one, affine_two, affine_of}
use Rattle.sd_program.specs.Bounds.{IfWritten, EachDimension}
use Rattle.sd_program.proofs.OtherNumbers.{EachName}
use Rattle.sd_program.proofs.Renumbering.{renumbered-combined}
use Rattle.sd_task.specs.in_force.Ranges.{affine_or}
use Rattle.sd_read.proofs.readable_lemmas.kept.Affine.{both}
use Rattle.sd_read.proofs.readable_lemmas.kept.Passing.{false_is_not_true}
use Rattle.sd_made_valid.specs.read_shapes.Fits.{IsOver, AreExtents, values, stretches_of, subset_of}
use Rattle.sd_made_valid.proofs.read_shapes_lemmas.Values.{IsListed, by_place, number_at, turned, by_numbers}

-- ---- what is the same

same_terms : (first second : List (ℕ × ℤ)) → pointwise is_same_term first second ≡ true → first ≡ second
same_terms [] [] is = refl
same_terms [] (other ∷ second) is = false_is_not_true is
same_terms (term ∷ first) [] is = false_is_not_true is
same_terms (term ∷ first) (other ∷ second) is =
    let halves = both (is_same_term term other) (pointwise is_same_term first second) is in
    let parts = both (nat_eq term.0 other.0) (int_eq term.1 other.1) halves.0 in
    λ i. (eqb-true term.0 other.0 parts.0 i, (Decides-int_eq term.1 other.1).0 parts.1 i) ∷ same_terms first second halves.1 i

pub same_affine : (a b : Affine) → is_same a b ≡ true → a ≡ b
same_affine a b is =
    let halves = both (int_eq a.constant b.constant) (pointwise is_same_term a.terms b.terms) is in
    λ i. record { constant = (Decides-int_eq a.constant b.constant).0 halves.0 i; terms = same_terms a.terms b.terms halves.1 i }

pub same_extents : (first second : List Affine) → are_same first second ≡ true → first ≡ second
same_extents [] [] is = refl
same_extents [] (other ∷ second) is = false_is_not_true is
same_extents (extent ∷ first) [] is = false_is_not_true is
same_extents (extent ∷ first) (other ∷ second) is =
    let halves = both (is_same extent other) (are_same first second) is in
    λ i. same_affine extent other halves.0 i ∷ same_extents first second halves.1 i

pub same_stretches : (first second : List Stretch) → pointwise is_same_stretch first second ≡ true → first ≡ second
same_stretches [] [] is = refl
same_stretches [] (other ∷ second) is = false_is_not_true is
same_stretches (stretch ∷ first) [] is = false_is_not_true is
same_stretches (stretch ∷ first) (other ∷ second) is =
    let halves = both (is_same_stretch stretch other) (pointwise is_same_stretch first second) is in
    let parts = both (int_eq stretch.step other.step) (is_same stretch.length other.length) halves.0 in
    λ i. record { length = same_affine stretch.length other.length parts.1 i; step = (Decides-int_eq stretch.step other.step).0 parts.0 i } ∷ same_stretches first second halves.1 i

-- ---- by other numbers

-- the stretches of a subset of an array
abbrev pub stretches_in : List (Name × Meaning) → List Affine → List Dimension → List Stretch
stretches_in entries extents [] = map whole_stretch extents
stretches_in entries extents (dimension ∷ dimensions) = accepted.stretches_of entries extents (dimension ∷ dimensions)

-- each bound of a dimension has its value by any numbers
abbrev pub IsSound : List (Name × Meaning) → Expression → Type 0
IsSound entries e = (variables : Named ℕ) → turned entries variables (value_of entries e) ≡ affine_of variables e

module _ (entries : List (Name × Meaning)) (variables : Named ℕ) where
  abbrev pub turn : Affine → Affine
  turn = turned entries variables

  abbrev pub turn_stretch : Stretch → Affine × ℤ
  turn_stretch stretch = (turn stretch.length, stretch.step)

  turned_difference : (a b : Affine) → turn (affine_difference a b) ≡ affine_difference (turn a) (turn b)
  turned_difference a b = λ i. record { constant = a.constant +ℤ (neg_ℤ (pos 1) *ℤ b.constant); terms = renumbered-combined (number_at entries variables) a.terms (neg_ℤ (pos 1)) b.terms i }

  turned_bound : (other : Affine) (e : Option Expression) → IfWritten (IsSound entries) e → turn (bound_or other entries e) ≡ affine_or (turn other) variables e
  turned_bound other None sound = refl
  turned_bound other (Some e) sound = sound variables

  same_step : (step : Option ℤ) → number_or (pos 1) step ≡ unwrap_or step (pos 1)
  same_step None = refl
  same_step (Some step) = refl

  first_turned : (extents : List Affine) → turn (first_extent extents) ≡ first_extent (map turn extents)
  first_turned [] = refl
  first_turned (extent ∷ extents) = refl

  dropped : (extents : List Affine) → drop 1 (map turn extents) ≡ map turn (drop 1 extents)
  dropped [] = refl
  dropped (extent ∷ extents) = refl

  stretches_turned : (extents : List Affine) (dimensions : List Dimension) → EachDimension (IsSound entries) dimensions →
      map turn_stretch (accepted.stretches_of entries extents dimensions) ≡ stretches_of variables (map turn extents) dimensions
  stretches_turned extents [] sound = refl
  stretches_turned extents (index at ∷ dimensions) sound =
      stretches_turned (drop 1 extents) dimensions sound.1 ∙ ap (λ extents. stretches_of variables extents dimensions) (sym (dropped extents))
  stretches_turned extents (span begin end step ∷ dimensions) sound =
      let length' : turn (affine_difference (bound_or (first_extent extents) entries end) (bound_or affine_zero entries begin)) ≡ affine_difference (affine_or (first_extent (map turn extents)) variables end) (affine_or affine_zero variables begin) =
      turned_difference (bound_or (first_extent extents) entries end) (bound_or affine_zero entries begin)
      ∙ ap (λ a. affine_difference a (turn (bound_or affine_zero entries begin))) (turned_bound (first_extent extents) end sound.0.1 ∙ ap (λ other. affine_or other variables end) (first_turned extents))
      ∙ ap (affine_difference (affine_or (first_extent (map turn extents)) variables end)) (turned_bound affine_zero begin sound.0.0) in
      let rest = stretches_turned (drop 1 extents) dimensions sound.1 ∙ ap (λ extents. stretches_of variables extents dimensions) (sym (dropped extents)) in
      λ i. (length' i, same_step step i) ∷ rest i

  whole_turned : (extents : List Affine) → map turn_stretch (map whole_stretch extents) ≡ map (λ extent. (extent, pos 1)) (map turn extents)
  whole_turned [] = refl
  whole_turned (extent ∷ extents) = ap (λ rest. (turn extent, pos 1) ∷ rest) (whole_turned extents)

  -- the stretches of a subset of an array with these extents
  pub subset_turned : (extents : List Affine) (dimensions : List Dimension) (all : List Stretch) → EachDimension (IsSound entries) dimensions →
      all ≡ stretches_in entries extents dimensions → map turn_stretch all ≡ subset_of variables (map turn extents) dimensions
  subset_turned extents [] all sound is = ap (map turn_stretch) is ∙ whole_turned extents
  subset_turned extents (dimension ∷ dimensions) all sound is = ap (map turn_stretch) is ∙ stretches_turned extents (dimension ∷ dimensions) sound

  pub lengths_turned : (all : List Stretch) → map (λ (stretch : Affine × ℤ). stretch.0) (map turn_stretch all) ≡ map turn (map (λ (stretch : Stretch). stretch.length) all)
  lengths_turned [] = refl
  lengths_turned (stretch ∷ all) = ap (λ rest. turn stretch.length ∷ rest) (lengths_turned all)

  pub one_turned : (extents : List Affine) → or_one (map turn extents) ≡ map turn (or_one extents)
  one_turned [] = refl
  one_turned (extent ∷ extents) = refl

  -- ---- extents by the places of size symbols

  pub same_place : (place : Name → ℕ) (symbols : List Name) → ((name : Name) → is_among symbols name ≡ true → IsListed entries name × (place_of entries name ≡ place name)) → (e : Expression) → IsOver symbols e →
      EachName (IsListed entries) e × (by_place place e ≡ by_place (place_of entries) e)
  same_place place symbols kept (number value) over = (tt, refl)
  same_place place symbols kept (named name) over = ((kept name over).0, ap (λ n. affine_variable n) (sym (kept name over).1))
  same_place place symbols kept (element_at name at) over = (tt, refl)
  same_place place symbols kept (one sign of) over = let inside = same_place place symbols kept of over in (inside.0, ap (affine_one sign) inside.1)
  same_place place symbols kept (two sign left right) over =
      let first = same_place place symbols kept left over.0 in
      let second = same_place place symbols kept right over.1 in
      ((first.0, second.0), λ i. affine_two sign (first.1 i) (second.1 i))
  same_place place symbols kept (choice value when other) over = (tt, refl)

  pub extents_turned : (place : Name → ℕ) (symbols : List Name) → ((name : Name) → is_among symbols name ≡ true → IsListed entries name × (place_of entries name ≡ place name)) → (extents : List Expression) → AreExtents symbols extents →
      map turn (map (by_place place) extents) ≡ values variables extents
  extents_turned place symbols kept [] are = refl
  extents_turned place symbols kept (e ∷ extents) are =
      let same = same_place place symbols kept e are.0.1 in
      λ i. (ap turn same.1 ∙ by_numbers entries variables e are.0.0 same.0) i ∷ extents_turned place symbols kept extents are.1 i
