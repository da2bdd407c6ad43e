-- A product of affine code with numbers alone, with sizes, is the product with sizes.
use Rattle.std.proofs.Common.{◌≡◌, ◌∙◌, ℕ, ℤ, pos, ◌+ℤ◌, ◌*ℤ◌, List, [], ◌∷◌, length, Bool, true, false, refl, ap, ap₂, sym, arith}
use Rattle.std.proofs.Math.IntN.{*ℤ_comm}
use Rattle.std.proofs.lemmas.Int.{ints}
use Rattle.sd_range.specs.Affine.{terms_value, affine_value}
use Rattle.sd_range.specs.Arithmetic.{combined, affine_zero, affine_product}
use Rattle.sd_range.specs.declared.affine.Affine.{Affine}
use Rattle.sd_graph.specs.PlainTree as plain
use Rattle.sd_graph.specs.PlainTree.{ValueTree}
use Rattle.sd_graph.specs.declared.operator.TwoSign.{TwoSign}
use Rattle.sd_graph.specs.declared.operator.TwoSign.TheVariants.{Add, Sub, Mul}
use Rattle.sd_program.specs.Affines.{product_of}
use Rattle.sd_valid.specs.BoundExpression.{terms_left, bound_affine}
use Rattle.sd_validity.specs.rules.Transitions.{has_numbers_only}
use Rattle.sd_validity.specs.rules.WithinLimits.{affine_joined, affine_of}
use Rattle.sd_made.proofs.loops_shown_lemmas.Closing.{both_true}
use Rattle.sd_made_valid.proofs.ends_lemmas.Linear.{bound_combination}

module _ (sizes : List ℤ) (used : List ℕ) where
  joined_have_none : (sign : TwoSign) (constant : Bool) (left right : Affine) → left.terms ≡ [] → right.terms ≡ [] → (affine_joined sign constant left right).terms ≡ []
  joined_have_none Add constant left right none other = rw (none, other) refl
  joined_have_none Sub constant left right none other = rw (none, other) refl
  joined_have_none Mul true left right none other = rw other refl
  joined_have_none Mul false left right none other = rw none refl
  joined_have_none sign constant left right none other = refl

  numbers_have_none : (value : ValueTree) → has_numbers_only value ≡ true → (affine_of used value).terms ≡ []
  numbers_have_none (plain.literal value) only = refl
  numbers_have_none (plain.variable place) only = cc
  numbers_have_none (plain.local own) only = refl
  numbers_have_none (plain.input connector at) only = refl
  numbers_have_none (plain.one sign of) only = rw (numbers_have_none of only) refl
  numbers_have_none (plain.two sign left right) only =
      let both = both_true (has_numbers_only left) (has_numbers_only right) only in
      joined_have_none sign (has_numbers_only left) (affine_of used left) (affine_of used right) (numbers_have_none left both.0) (numbers_have_none right both.1)
  numbers_have_none (plain.choice value when other) only = refl

  abbrev Number : ℤ → Affine
  Number constant = record { constant = constant; terms = [] }

  bound_number : (a : Affine) → a.terms ≡ [] → bound_affine sizes a ≡ Number a.constant
  bound_number a none =
      let constant : affine_value sizes a ≡ a.constant = ap (λ terms. a.constant +ℤ terms_value sizes terms) none ∙ omega (arith, ints) in
      let terms : terms_left (length sizes) a.terms ≡ [] = ap (terms_left (length sizes)) none in
      ap₂ (λ constant terms. record { constant = constant; terms = terms }) constant terms

  pub product_left : (left right : ValueTree) (a b : Affine) → has_numbers_only left ≡ true → a.terms ≡ [] → affine_of used left ≡ bound_affine sizes a → affine_of used right ≡ bound_affine sizes b →
      affine_joined Mul (has_numbers_only left) (affine_of used left) (affine_of used right) ≡ bound_affine sizes (product_of a.terms a b)
  product_left left right a b only none is other =
      ap (λ constant. affine_joined Mul constant (affine_of used left) (affine_of used right)) only
      ∙ ap₂ affine_product (ap (λ first. first.constant) (is ∙ bound_number a none)) other
      ∙ sym (bound_combination sizes affine_zero a.constant b)
      ∙ sym (ap (λ terms. bound_affine sizes (product_of terms a b)) none)

  swapped : (a b : Affine) → a.terms ≡ [] → b.terms ≡ [] → affine_product a.constant b ≡ affine_product b.constant a
  swapped a b none other =
      ap (λ terms. record { constant = pos 0 +ℤ (a.constant *ℤ b.constant); terms = combined [] a.constant terms }) other
      ∙ ap (λ constant. record { constant = pos 0 +ℤ constant; terms = [] }) (*ℤ_comm a.constant b.constant)
      ∙ sym (ap (λ terms. record { constant = pos 0 +ℤ (b.constant *ℤ a.constant); terms = combined [] b.constant terms }) none)

  turned : (terms : List (ℕ × ℤ)) (a b : Affine) → a.terms ≡ terms → b.terms ≡ [] → product_of terms a b ≡ affine_product b.constant a
  turned [] a b is other = swapped a b is other
  turned (term ∷ terms) a b is other = refl

  pub product_right : (only : Bool) (left right : ValueTree) (a b : Affine) → has_numbers_only left ≡ only → b.terms ≡ [] → affine_of used left ≡ bound_affine sizes a →
      affine_of used right ≡ bound_affine sizes b → affine_joined Mul (has_numbers_only left) (affine_of used left) (affine_of used right) ≡ bound_affine sizes (product_of a.terms a b)
  product_right false left right a b e none is other =
      ap (λ constant. affine_joined Mul constant (affine_of used left) (affine_of used right)) e
      ∙ ap₂ affine_product (ap (λ second. second.constant) (other ∙ bound_number b none)) is
      ∙ sym (bound_combination sizes affine_zero b.constant a)
      ∙ sym (ap (bound_affine sizes) (turned a.terms a b refl none))
  product_right true left right a b e none is other =
      let number : affine_of used right ≡ Number b.constant = other ∙ bound_number b none in
      ap (λ constant. affine_joined Mul constant (affine_of used left) (affine_of used right)) e
      ∙ swapped (affine_of used left) (affine_of used right) (numbers_have_none left e) (ap (λ second. second.terms) number)
      ∙ ap₂ affine_product (ap (λ second. second.constant) number) is
      ∙ sym (bound_combination sizes affine_zero b.constant a)
      ∙ sym (ap (bound_affine sizes) (turned a.terms a b refl none))
