-- The code of an affine expression, with sizes, is the affine expression with sizes, and so each part of it is small.
use Rattle.std.proofs.Common.{◌≡◌, ◌∙◌, ◌⊎◌, inl, inr, ℕ, zero, suc, ◌+◌, ◌<◌, nat_eq, nat_lt, ℤ, pos, neg_ℤ, ◌+ℤ◌, List, [], ◌∷◌, length, Option, Some, None, unwrap_or, position, slice_index_or, Bool, true, false, if◌then◌else◌, refl, ap, ap₂, sym, arith}
use Rattle.std.proofs.lemmas.Int.{ints}
use Rattle.std.proofs.lemmas.Bool.{lt-ltb}
use Rattle.sd_lex.specs.PlainTree.{Expression, number, named, element_at, one, two, choice}
use Rattle.sd_lex.specs.declared.syntax.operator.OneSign.{OneSign}
use Rattle.sd_lex.specs.declared.syntax.operator.OneSign.TheVariants as one_signs
use Rattle.sd_lex.specs.declared.syntax.operator.TwoSign as program_two
use Rattle.sd_lex.specs.declared.syntax.operator.TwoSign.TheVariants as two_signs
use Rattle.sd_range.specs.Affine.{variable_value, affine_value}
use Rattle.sd_range.specs.Arithmetic.{affine_zero, affine_sum, affine_difference}
use Rattle.sd_range.specs.declared.affine.Affine.{Affine}
use Rattle.sd_graph.specs.PlainTree as plain
use Rattle.sd_graph.specs.PlainTree.{ValueTree}
use Rattle.sd_program.specs.Affines as program
use Rattle.sd_program.specs.Affines.{affine_one, affine_two}
use Rattle.sd_program.specs.IsAffine.{HasNoName, IsMinus, MayJoin, IsAffine}
use Rattle.sd_program.specs.Names.{Named, in_force}
use Rattle.sd_program.specs.Small.{IsAlwaysWithin, IsSmall}
use Rattle.sd_task.specs.task.ElementCode.{elements_in, code_of}
use Rattle.sd_task.specs.task.UsedVariables as task
use Rattle.sd_made.proofs.names_lemmas.UsedPlaces.{IsUsed, AllUsed, place_found}
use Rattle.sd_valid.specs.BoundCode.{names_symbol, bound_value}
use Rattle.sd_valid.specs.BoundExpression.{bound_affine}
use Rattle.sd_validity.specs.rules.Transitions.{has_numbers_only}
use Rattle.sd_validity.specs.rules.WithinLimits.{is_small, affine_of, is_value_small}
use Rattle.sd_made.proofs.limits_lemmas.Near.{AreSizes, near_within, near_bound}
use Rattle.sd_made.proofs.loops_shown_lemmas.Closing.{and_true}
use Rattle.sd_made_valid.proofs.ends_lemmas.Linear.{bound_combination}
use Rattle.sd_made_valid.proofs.ends_lemmas.Products.{product_left, product_right}

-- ---- a variable

-- a variable without a size counts as 0
past : (values : List ℤ) (variable : ℕ) → nat_lt variable (length values) ≡ false → variable_value values variable ≡ pos 0
past [] zero e = refl
past [] (suc variable) e = refl
past (value ∷ values) zero e = absurd (grind (arith, e))
past (value ∷ values) (suc variable) e = (let more : nat_lt variable (length values) ≡ false = grind (arith, e) in past values variable more)

module _ (sizes : List ℤ) (used : List ℕ) where
  -- code with sizes as an affine expression
  abbrev Valued : ValueTree → Affine
  Valued value = affine_of used (bound_value sizes used value)

  abbrev IsOf : ValueTree → Affine → Type 0
  IsOf value a = Valued value ≡ bound_affine sizes a

  named_of : (test : Bool) (place variable : ℕ) → nat_lt variable (length sizes) ≡ test → place < length used → slice_index_or used place 0 ≡ variable →
      IsOf (plain.variable place) (program.affine_variable variable)
  named_of true place variable below there is =
      let first : nat_lt place (length used) ≡ true = lt-ltb place (length used) there in
      let constant : variable_value sizes variable ≡ affine_value sizes (program.affine_variable variable) = omega (arith, ints) in
      rw (first, is, below) (ap (λ constant. record { constant = constant; terms = [] }) constant)
  named_of false place variable below there is =
      let first : nat_lt place (length used) ≡ true = lt-ltb place (length used) there in
      let none : variable_value sizes variable ≡ pos 0 = past sizes variable below in
      let constant : pos 0 ≡ affine_value sizes (program.affine_variable variable) = omega (arith, ints, none) in
      rw (first, is, below) (rw is (ap (λ constant. record { constant = constant; terms = (variable, pos 1) ∷ [] }) constant))

  found_of : (found : Option ℕ) → IsUsed used found → IsOf (task.variable_value used found) (program.affine_name found)
  found_of None is = refl
  found_of (Some variable) is =
      let place = place_found variable used is in
      named_of (nat_lt variable (length sizes)) (unwrap_or (position (nat_eq variable) used) 0) variable refl place.0 place.1

-- ---- expressions without names

module _ (known : Named ℕ) where
  one_none : (sign : OneSign) (a : Affine) → a.terms ≡ [] → (affine_one sign a).terms ≡ []
  one_none one_signs.Neg a none = rw none refl
  one_none sign a none = refl

  two_none : (sign : program_two.TwoSign) (a b : Affine) → a.terms ≡ [] → b.terms ≡ [] → (affine_two sign a b).terms ≡ []
  two_none two_signs.Add a b none other = rw (none, other) refl
  two_none two_signs.Sub a b none other = rw (none, other) refl
  two_none two_signs.Mul a b none other = rw none (rw other refl)
  two_none sign a b none other = refl

  nameless : (expression : Expression) → HasNoName expression → (program.affine_of known expression).terms ≡ []
  nameless (number value) none = refl
  nameless (named name) none = absurd none
  nameless (element_at name at) none = absurd none
  nameless (one sign of) none = one_none sign (program.affine_of known of) (nameless of none)
  nameless (two sign left right) none = two_none sign (program.affine_of known left) (program.affine_of known right) (nameless left none.0) (nameless right none.1)
  nameless (choice value when other) none = refl

-- ---- expressions

module _ (sizes : List ℤ) (known : Named ℕ) (used : List ℕ) where
  abbrev Code : (connector : ℕ) → Expression → ValueTree
  Code connector expression = bound_value sizes used (code_of known used connector expression)

  only_numbers : (connector : ℕ) (expression : Expression) → HasNoName expression → IsAffine expression → has_numbers_only (Code connector expression) ≡ true
  only_numbers connector (number value) none affine = refl
  only_numbers connector (named name) none affine = absurd none
  only_numbers connector (element_at name at) none affine = absurd none
  only_numbers connector (one sign of) none affine = only_numbers connector of none affine.1
  only_numbers connector (two sign left right) none affine =
      and_true (has_numbers_only (Code connector left)) (has_numbers_only (Code (connector + elements_in left) right)) (only_numbers connector left none.0 affine.1.0)
      (only_numbers (connector + elements_in left) right none.1 affine.1.1)
  only_numbers connector (choice value when other) none affine = absurd affine

  abbrev IsValued : (connector : ℕ) → Expression → Type 0
  IsValued connector expression = affine_of used (Code connector expression) ≡ bound_affine sizes (program.affine_of known expression)

  negated : (sign : OneSign) (connector : ℕ) (of : Expression) → IsMinus sign → IsValued connector of → IsValued connector (one sign of)
  negated one_signs.Neg connector of minus is =
      ap (affine_difference affine_zero) is ∙ sym (bound_combination sizes affine_zero (neg_ℤ (pos 1)) (program.affine_of known of))
  negated one_signs.Not connector of minus is = absurd minus
  negated one_signs.Inv connector of minus is = absurd minus

  either_product : (connector : ℕ) (left right : Expression) → HasNoName left ⊎ HasNoName right → IsAffine left → IsAffine right → IsValued connector left → IsValued (connector + elements_in left) right →
      IsValued connector (two two_signs.Mul left right)
  either_product connector left right (inl none) affine other_affine is other =
      product_left sizes used (Code connector left) (Code (connector + elements_in left) right) (program.affine_of known left) (program.affine_of known right) (only_numbers connector left none affine)
      (nameless known left none) is other
  either_product connector left right (inr none) affine other_affine is other =
      product_right sizes used (has_numbers_only (Code connector left)) (Code connector left) (Code (connector + elements_in left) right) (program.affine_of known left) (program.affine_of known right) refl
      (nameless known right none) is other

  joined : (sign : program_two.TwoSign) (connector : ℕ) (left right : Expression) → MayJoin sign left right → IsAffine left → IsAffine right → IsValued connector left → IsValued (connector + elements_in left) right →
      IsValued connector (two sign left right)
  joined two_signs.Add connector left right may affine other_affine is other =
      ap₂ affine_sum is other ∙ sym (bound_combination sizes (program.affine_of known left) (pos 1) (program.affine_of known right))
  joined two_signs.Sub connector left right may affine other_affine is other =
      ap₂ affine_difference is other ∙ sym (bound_combination sizes (program.affine_of known left) (neg_ℤ (pos 1)) (program.affine_of known right))
  joined two_signs.Mul connector left right may affine other_affine is other = either_product connector left right may affine other_affine is other
  joined sign connector left right may affine other_affine is other = absurd may

  valued : (connector : ℕ) (expression : Expression) → IsAffine expression → AllUsed known used expression → IsValued connector expression
  valued connector (number value) affine there = (let constant : value ≡ value +ℤ pos 0 = omega (arith, ints) in ap (λ constant. record { constant = constant; terms = [] }) constant)
  valued connector (named name) affine there = found_of sizes used (in_force known name) there
  valued connector (element_at name at) affine there = absurd affine
  valued connector (one sign of) affine there = negated sign connector of affine.0 (valued connector of affine.1 there)
  valued connector (two sign left right) affine there =
      joined sign connector left right affine.0 affine.1.0 affine.1.1 (valued connector left affine.1.0 there.0) (valued (connector + elements_in left) right affine.1.1 there.1)
  valued connector (choice value when other) affine there = absurd affine

  -- ---- each part is small

  module _ (are : AreSizes sizes) where
    small : (connector : ℕ) (expression : Expression) → IsAffine expression → AllUsed known used expression → IsAlwaysWithin expression → is_small (affine_of used (Code connector expression)) ≡ true
    small connector expression affine there within =
        ap is_small (valued connector expression affine there) ∙ near_bound sizes are (program.affine_of known expression) (near_within (program.affine_of known expression) (within known))

    variable_small : (test : Bool) (size : ℤ) (place : ℕ) → is_small (affine_of used (if test then plain.literal size else plain.variable place)) ≡ true →
        is_value_small used (if test then plain.literal size else plain.variable place) ≡ true
    variable_small true size place is = is
    variable_small false size place is = refl

    found_small : (found : Option ℕ) → is_small (affine_of used (bound_value sizes used (task.variable_value used found))) ≡ true → is_value_small used (bound_value sizes used (task.variable_value used found)) ≡ true
    found_small None is = is
    found_small (Some variable) is =
        let place : ℕ = unwrap_or (position (nat_eq variable) used) 0 in
        variable_small (names_symbol (length sizes) used place) (variable_value sizes (slice_index_or used place 0)) place is

    pub each_small : (connector : ℕ) (expression : Expression) → IsAffine expression → AllUsed known used expression → IsSmall expression → is_value_small used (Code connector expression) ≡ true
    each_small connector (number value) affine there is = small connector (number value) affine there is.0
    each_small connector (named name) affine there is = found_small (in_force known name) (small connector (named name) affine there is.0)
    each_small connector (element_at name at) affine there is = absurd affine
    each_small connector (one sign of) affine there is = each_small connector of affine.1 there is.1
    each_small connector (two sign left right) affine there is =
        rw (small connector (two sign left right) affine there is.0, each_small connector left affine.1.0 there.0 is.1.0) (each_small (connector + elements_in left) right affine.1.1 there.1 is.1.1)
    each_small connector (choice value when other) affine there is = absurd affine
