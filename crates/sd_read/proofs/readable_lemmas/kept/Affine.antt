-- Affine places that are accepted are affine and within the limits.
use Rattle.std.proofs.Common.{◌≡◌, ◌⊎◌, inl, inr, ℕ, ◌<◌, ◌≤◌, pos, neg_ℤ, nat_lt, nat_le, unsigned_abs, List, [], Bool, true, false, not, ◌&&◌, ◌||◌, if◌then◌else◌, Option, Some, None, refl, ap, sym, ◌∙◌, subst, arith}
use Rattle.std.specs.Bool.{⊤}
use Rattle.std.proofs.lemmas.Bool.{ltb-true, leb-true}
use Rattle.sd_lex.specs.PlainTree.{Expression, number, named, element_at, one, two, choice}
use Rattle.sd_lex.specs.declared.syntax.operator.OneSign.{OneSign}
use Rattle.sd_lex.specs.declared.syntax.operator.OneSign.TheVariants.{Not, Neg, Inv}
use Rattle.sd_lex.specs.declared.syntax.operator.TwoSign.{TwoSign}
use Rattle.sd_lex.specs.declared.syntax.operator.TwoSign.TheVariants.{Or, And, Less, LessEqual, Greater, GreaterEqual, Equal, Differ, BitOr, BitXor, BitAnd, Add, Sub, Mul, FloorDiv, Mod, Min, Max}
use Rattle.sd_range.specs.Arithmetic.{affine_product}
use Rattle.sd_range.specs.Weight.{weight_of}
use Rattle.sd_range.specs.declared.affine.Affine.{Affine}
use Rattle.sd_names.specs.declared.meaning.Meaning.{Meaning}
use Rattle.sd_names.specs.Limits.{is_within, if_within}
use Rattle.sd_names.specs.Names.{Name, place_of}
use Rattle.sd_names.specs.Expressions.{has_name, by_sign, by_signs, is_affine, is_rough, product_of, joined, after_value, affine_of}
use Rattle.sd_program.specs.Affines.{affine_two}
use Rattle.sd_program.specs.Affines as program
use Rattle.sd_program.specs.IsAffine.{HasNoName, IsMinus, MayJoin, IsAffine}
use Rattle.sd_program.specs.Small.{IsWithinLimits}
use Rattle.sd_program.proofs.Signs.{by_minus}
use Rattle.sd_program.proofs.OtherNumbers.{affine_by, no_terms, product-left, product-right}
use Rattle.sd_program.proofs.Within.{HasPartsWithin, IsWithinBy}
use Rattle.sd_read.proofs.readable_lemmas.kept.Passing.{neither, true_is_not_false, false_is_not_true}

pub both : (a b : Bool) → a && b ≡ true → (a ≡ true) × (b ≡ true)
both true b is = (refl, is)
both false b is = false_is_not_true is

pub negated : (a : Bool) → not a ≡ false → a ≡ true
negated true is = refl
negated false is = true_is_not_false is

pub nameless : (e : Expression) → has_name e ≡ false → HasNoName e
nameless (number value) none = tt
nameless (named name) none = true_is_not_false none
nameless (element_at name at) none = true_is_not_false none
nameless (one sign of) none = nameless of none
nameless (two sign left right) none = let halves = neither (has_name left) (has_name right) none in (nameless left halves.0, nameless right halves.1)
nameless (choice value when other) none =
    let all = neither (has_name value || has_name when) (has_name other) none in
    let first = neither (has_name value) (has_name when) all.0 in
    (nameless value first.0, (nameless when first.1, nameless other all.1))

minus : (sign : OneSign) (inside : Bool) → by_sign sign inside false ≡ true → IsMinus sign × (inside ≡ true)
minus Not inside is = false_is_not_true is
minus Neg inside is = (tt, is)
minus Inv inside is = false_is_not_true is

either_is_nameless : (left right : Expression) → not (has_name left && has_name right) ≡ true → HasNoName left ⊎ HasNoName right
either_is_nameless left right is = by_left (has_name left) refl is where
  by_left : (test : Bool) → has_name left ≡ test → not (test && has_name right) ≡ true → HasNoName left ⊎ HasNoName right
  by_left false none is = inl (nameless left none)
  by_left true some is = inr (nameless right (by_right (has_name right) is)) where
    by_right : (test : Bool) → not test ≡ true → test ≡ false
    by_right true is = sym is
    by_right false is = refl

join : (sign : TwoSign) (left right : Expression) (inside : Bool) → by_signs sign inside inside (inside && not (has_name left && has_name right)) false ≡ true → MayJoin sign left right × (inside ≡ true)
join Or left right inside is = false_is_not_true is
join And left right inside is = false_is_not_true is
join Less left right inside is = false_is_not_true is
join LessEqual left right inside is = false_is_not_true is
join Greater left right inside is = false_is_not_true is
join GreaterEqual left right inside is = false_is_not_true is
join Equal left right inside is = false_is_not_true is
join Differ left right inside is = false_is_not_true is
join BitOr left right inside is = false_is_not_true is
join BitXor left right inside is = false_is_not_true is
join BitAnd left right inside is = false_is_not_true is
join Add left right inside is = (tt, is)
join Sub left right inside is = (tt, is)
join Mul left right inside is = let halves = both inside (not (has_name left && has_name right)) is in (either_is_nameless left right halves.1, halves.0)
join FloorDiv left right inside is = false_is_not_true is
join Mod left right inside is = false_is_not_true is
join Min left right inside is = false_is_not_true is
join Max left right inside is = false_is_not_true is

affine : (e : Expression) → is_affine e ≡ true → IsAffine e
affine (number value) is = tt
affine (named name) is = tt
affine (element_at name at) is = false_is_not_true is
affine (one sign of) is = let halves = minus sign (is_affine of) is in (halves.0, affine of halves.1)
affine (two sign left right) is =
    let halves = join sign left right (is_affine left && is_affine right) is in
    let sides = both (is_affine left) (is_affine right) halves.1 in
    (halves.0, (affine left sides.0, affine right sides.1))
affine (choice value when other) is = false_is_not_true is

-- an expression that is not rough is affine
pub not_rough : (e : Expression) → is_rough e ≡ false → IsAffine e
not_rough e is = affine e (negated (is_affine e) is)

-- ---- the limits

abbrev pub some_or : {A : Type 0} → A → Option A → A
some_or other None = other
some_or other (Some value) = value

abbrev IsNone : {A : Type 0} → Option A → Type 0
IsNone None = ⊤
IsNone (Some value) = ⊥

pub none_is_not_some : {A P : Type 0} (value : A) → None ≡ Some value → P
none_is_not_some value is = absurd (subst IsNone is tt)

within : (a : Affine) → is_within a ≡ true → IsWithinLimits a
within a is =
    let halves = both (nat_lt (unsigned_abs a.constant) 1099511627776) (nat_le (weight_of a.terms) 1024) is in
    let constant : unsigned_abs a.constant < 1099511627776 = ltb-true (unsigned_abs a.constant) 1099511627776 halves.0 in
    let weight : weight_of a.terms ≤ 1024 = leb-true (weight_of a.terms) 1024 halves.1 in
    record { constant = omega (arith, constant); coefficients = omega (arith, weight) }

kept_within : {P : Type 0} (a b : Affine) → if_within a ≡ Some b → (IsWithinLimits a → a ≡ b → P) → P
kept_within {P = P} a b is go = by_test (is_within a) refl is where
  by_test : (test : Bool) → is_within a ≡ test → (if test then Some a else None) ≡ Some b → P
  by_test true inside is = go (within a inside) (ap (some_or b) is)
  by_test false outside is = none_is_not_some b is

from_value : {P : Type 0} (first : Option Affine) (next : Affine → Option Affine) (b : Affine) → after_value first next ≡ Some b → ((a : Affine) → first ≡ Some a → next a ≡ Some b → P) → P
from_value None next b is go = none_is_not_some b is
from_value (Some a) next b is go = go a refl is

named_not : (e : Expression) → HasNoName e → has_name e ≡ false
named_not (number value) none = refl
named_not (named name) none = absurd none
named_not (element_at name at) none = absurd none
named_not (one sign of) none = named_not of none
named_not (two sign left right) none = rw (named_not left none.0, named_not right none.1) refl
named_not (choice value when other) none = rw (named_not value none.0, named_not when none.1.0, named_not other none.1.1) refl

module _ (names : List (Name × Meaning)) where
  abbrev first : Name → ℕ
  first name = place_of names name

  abbrev own : Name → Option ℕ
  own name = Some (first name)

  -- what the reading joins is what the plain definition joins
  joins : (sign : TwoSign) (left right : Expression) → MayJoin sign left right → IsAffine left → IsAffine right →
      joined sign (not (has_name left)) (affine_by own left) (affine_by own right) ≡ affine_two sign (affine_by own left) (affine_by own right)
  joins Or left right may a b = refl
  joins And left right may a b = refl
  joins Less left right may a b = refl
  joins LessEqual left right may a b = refl
  joins Greater left right may a b = refl
  joins GreaterEqual left right may a b = refl
  joins Equal left right may a b = refl
  joins Differ left right may a b = refl
  joins BitOr left right may a b = refl
  joins BitXor left right may a b = refl
  joins BitAnd left right may a b = refl
  joins Add left right may a b = refl
  joins Sub left right may a b = refl
  joins Mul left right may a b = by_left (has_name left) refl where
    product-of-right : HasNoName right → product_of false (affine_by own left) (affine_by own right) ≡ affine_two Mul (affine_by own left) (affine_by own right)
    product-of-right none = sym (product-right (affine_by own left) (affine_by own right) (no_terms own right b none))

    by_left : (test : Bool) → has_name left ≡ test → product_of (not test) (affine_by own left) (affine_by own right) ≡ affine_two Mul (affine_by own left) (affine_by own right)
    by_left false none = sym (product-left (affine_by own left) (affine_by own right) (no_terms own left a (nameless left none)))
    by_left true some = elim may [
      | inl none ↦ true_is_not_false (sym some ∙ named_not left none)
      | inr none ↦ product-of-right none
    ]
  joins FloorDiv left right may a b = refl
  joins Mod left right may a b = refl
  joins Min left right may a b = refl
  joins Max left right may a b = refl

  -- an expression with a normal form has parts within the limits, and the form is that by the places of its names
  pub formed : (e : Expression) (a : Affine) → IsAffine e → affine_of names e ≡ Some a → IsWithinBy first e × (affine_by own e ≡ a)
  formed (number value) a is form = kept_within (record { constant = value; terms = [] }) a form (λ inside same. ((inside, tt), same))
  formed (named name) a is form = ((record { constant = omega arith; coefficients = omega arith }, tt), ap (some_or a) form)
  formed (element_at name at) a is form = absurd is
  formed (one sign of) a is form =
      from_value (affine_of names of) (λ b. if_within (affine_product (neg_ℤ (pos 1)) b)) a form
      (λ b inner outer.
      let inside = formed of b is.1 inner in
      kept_within (affine_product (neg_ℤ (pos 1)) b) a outer
      (λ limits same.
      let all = ap (affine_product (neg_ℤ (pos 1))) inside.1 in
      by_minus (λ sign. (IsWithinLimits (program.affine_one sign (affine_by own of)) × (IsWithinLimits (affine_by own of) × HasPartsWithin first of)) × (program.affine_one sign (affine_by own of) ≡ a)) sign is.0
      ((subst IsWithinLimits (sym all) limits, inside.0), all ∙ same)))
  formed (two sign left right) a is form =
      from_value (affine_of names left) (λ x. after_value (affine_of names right) (λ y. if_within (joined sign (not (has_name left)) x y))) a form
      (λ x on_left rest.
      from_value (affine_of names right) (λ y. if_within (joined sign (not (has_name left)) x y)) a rest
      (λ y on_right outer.
      let first_side = formed left x is.1.0 on_left in
      let second_side = formed right y is.1.1 on_right in
      kept_within (joined sign (not (has_name left)) x y) a outer
      (λ limits same.
      let all : affine_two sign (affine_by own left) (affine_by own right) ≡ joined sign (not (has_name left)) x y =
      sym (joins sign left right is.0 is.1.0 is.1.1) ∙ rw (first_side.1, second_side.1) refl in
      ((subst IsWithinLimits (sym all) limits, (first_side.0, second_side.0)), all ∙ same))))
  formed (choice value when other) a is form = absurd is
