-- An affine expression by other numbers of its variables: where each name that stands in it has a number of its own it is largest.
use Rattle.std.proofs.Common.{◌≡◌, inl, inr, ℕ, ℤ, pos, neg_ℤ, ◌+ℤ◌, ◌*ℤ◌, List, [], ◌∷◌, Option, Some, None, refl, ap, sym, ◌∙◌}
use Rattle.std.specs.Bool.{⊤}
use Rattle.std.proofs.Math.IntN.{*ℤ_comm}
use Rattle.sd_lex.specs.PlainTree.{Expression, number, named, element_at, one, two, choice}
use Rattle.sd_range.specs.Arithmetic.{combined, combination, affine_zero, affine_product}
use Rattle.sd_range.specs.declared.affine.Affine.{Affine}
use Rattle.sd_program.specs.Names.{Name, Named, in_force}
use Rattle.sd_program.specs.Affines.{affine_number, affine_name, product_of, affine_one, affine_two, affine_of}
use Rattle.sd_program.specs.IsAffine.{HasNoName, IsAffine}
use Rattle.sd_program.proofs.Signs.{by_minus, by_join}
use Rattle.sd_program.proofs.Renumbering.{terms_of, renumbered, renumbered-combined}

-- of each name that stands alone in an expression
abbrev pub EachName : (Name → Type 0) → Expression → Type 0
EachName Holds (number value) = ⊤
EachName Holds (named name) = Holds name
EachName Holds (element_at name at) = ⊤
EachName Holds (one sign of) = EachName Holds of
EachName Holds (two sign left right) = EachName Holds left × EachName Holds right
EachName Holds (choice value when other) = ⊤

-- the normal form by any numbers
abbrev pub affine_by : (Name → Option ℕ) → Expression → Affine
affine_by numbers (number value) = affine_number value
affine_by numbers (named name) = affine_name (numbers name)
affine_by numbers (element_at name at) = affine_zero
affine_by numbers (one sign of) = affine_one sign (affine_by numbers of)
affine_by numbers (two sign left right) = affine_two sign (affine_by numbers left) (affine_by numbers right)
affine_by numbers (choice value when other) = affine_zero

pub affine_of-by : (variables : Named ℕ) (e : Expression) → affine_of variables e ≡ affine_by (in_force variables) e
affine_of-by variables (number value) = refl
affine_of-by variables (named name) = refl
affine_of-by variables (element_at name at) = refl
affine_of-by variables (one sign of) = ap (affine_one sign) (affine_of-by variables of)
affine_of-by variables (two sign left right) = rw (affine_of-by variables left, affine_of-by variables right) refl
affine_of-by variables (choice value when other) = refl

-- an expression without a name has no terms
pub no_terms : (numbers : Name → Option ℕ) (e : Expression) → IsAffine e → HasNoName e → (affine_by numbers e).terms ≡ []
no_terms numbers (number value) affine none = refl
no_terms numbers (named name) affine none = absurd none
no_terms numbers (element_at name at) affine none = absurd none
no_terms numbers (one sign of) affine none =
    by_minus (λ sign. (affine_one sign (affine_by numbers of)).terms ≡ []) sign affine.0
    (ap (λ terms. combined [] (neg_ℤ (pos 1)) terms) (no_terms numbers of affine.1 none))
no_terms numbers (two sign left right) affine none =
    let on_left : (affine_by numbers left).terms ≡ [] = no_terms numbers left affine.1.0 none.0 in
    let on_right : (affine_by numbers right).terms ≡ [] = no_terms numbers right affine.1.1 none.1 in
    by_join (λ sign. (affine_two sign (affine_by numbers left) (affine_by numbers right)).terms ≡ []) sign left right affine.0
    (ap (λ terms. combined terms (pos 1) (affine_by numbers right).terms) on_left ∙ ap (λ terms. combined [] (pos 1) terms) on_right)
    (ap (λ terms. combined terms (neg_ℤ (pos 1)) (affine_by numbers right).terms) on_left ∙ ap (λ terms. combined [] (neg_ℤ (pos 1)) terms) on_right)
    (λ either. product-none (affine_by numbers left) (affine_by numbers right) on_left on_right) where
      product-none : (a b : Affine) → a.terms ≡ [] → b.terms ≡ [] → (product_of a.terms a b).terms ≡ []
      product-none a b is of = rw is (ap (λ terms. combined [] a.constant terms) of)
no_terms numbers (choice value when other) affine none = refl

-- where the right side has no terms the product is with its constant
pub product-right : (a b : Affine) → b.terms ≡ [] → product_of a.terms a b ≡ affine_product b.constant a
product-right a b none = by_terms a.terms refl where
  by_terms : (terms : List (ℕ × ℤ)) → a.terms ≡ terms → product_of terms a b ≡ affine_product b.constant a
  by_terms [] is =
      λ i. record {
        constant = pos 0 +ℤ *ℤ_comm a.constant b.constant i;
        terms = (ap (λ terms. combined [] a.constant terms) none ∙ sym (ap (λ terms. combined [] b.constant terms) is)) i;
      }
  by_terms (term ∷ terms) is = refl

-- where the left side has none, with its constant
pub product-left : (a b : Affine) → a.terms ≡ [] → product_of a.terms a b ≡ affine_product a.constant b
product-left a b none = rw none refl

module _ (number' : ℕ → Option ℕ) where
  -- the expression with these numbers for its variables
  abbrev pub with_numbers : Affine → Affine
  with_numbers a = record { constant = a.constant; terms = renumbered number' a.terms }

  with_numbers-combination : (a : Affine) (factor : ℤ) (b : Affine) → combination (with_numbers a) factor (with_numbers b) ≡ with_numbers (combination a factor b)
  with_numbers-combination a factor b = λ i. record { constant = a.constant +ℤ (factor *ℤ b.constant); terms = sym (renumbered-combined number' a.terms factor b.terms) i }

  module _ (first : Name → ℕ) (second : Name → Option ℕ) where
    -- each name that stands in the expression has the second number that its first number tells
    abbrev pub IsTold : Expression → Type 0
    IsTold e = EachName (λ name. second name ≡ number' (first name)) e

    abbrev own : Name → Option ℕ
    own name = Some (first name)

    -- by the second numbers it is what it is by the first ones, renumbered
    pub told : (e : Expression) → IsAffine e → IsTold e → affine_by second e ≡ with_numbers (affine_by own e)
    told (number value) affine is = refl
    told (named name) affine is = ap affine_name is ∙ by_number (number' (first name)) where
      by_number : (place : Option ℕ) → affine_name place ≡ record { constant = pos 0; terms = combined [] (pos 1) (terms_of place) }
      by_number None = refl
      by_number (Some variable) = refl
    told (element_at name at) affine is = refl
    told (one sign of) affine is =
        by_minus (λ sign. affine_one sign (affine_by second of) ≡ with_numbers (affine_one sign (affine_by own of))) sign affine.0
        (ap (affine_product (neg_ℤ (pos 1))) (told of affine.1 is) ∙ with_numbers-combination affine_zero (neg_ℤ (pos 1)) (affine_by own of))
    told (two sign left right) affine is =
        let a = affine_by own left in
        let b = affine_by own right in
        let on_left = told left affine.1.0 is.0 in
        let on_right = told right affine.1.1 is.1 in
        by_join (λ sign. affine_two sign (affine_by second left) (affine_by second right) ≡ with_numbers (affine_two sign a b)) sign left right affine.0
        (rw (on_left, on_right) (with_numbers-combination a (pos 1) b))
        (rw (on_left, on_right) (with_numbers-combination a (neg_ℤ (pos 1)) b))
        (λ either. elim either [
          | inl none ↦
              let terms_none = no_terms own left affine.1.0 none in
              product-left (affine_by second left) (affine_by second right) (no_terms second left affine.1.0 none)
              ∙ rw (on_left, on_right) (with_numbers-combination affine_zero a.constant b)
              ∙ ap with_numbers (sym (product-left a b terms_none))
          | inr none ↦
              let terms_none = no_terms own right affine.1.1 none in
              product-right (affine_by second left) (affine_by second right) (no_terms second right affine.1.1 none)
              ∙ rw (on_left, on_right) (with_numbers-combination affine_zero b.constant a)
              ∙ ap with_numbers (sym (product-right a b terms_none))
        ])
    told (choice value when other) affine is = refl
