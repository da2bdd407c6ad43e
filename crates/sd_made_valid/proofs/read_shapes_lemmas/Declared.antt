-- The extents of the arrays that a program declares, and names that are new.
use Rattle.std.proofs.Common.{◌≡◌, ℕ, List, [], ◌∷◌, map, Bool, true, false, not, ◌||◌, cond, if◌then◌else◌, Option, Some, is_some, bytes_eq, refl, ap, sym, ◌∙◌, subst}
use Rattle.std.specs.List.{AllByRecursion, list_any}
use Rattle.std.proofs.lemmas.Slice.Eq.{bytes_eq-Decides}
use Rattle.sd_range.specs.declared.affine.Affine.{Affine}
use Rattle.sd_lex.specs.PlainTree.{Expression, number, named, element_at, one, two, choice, Expressions, no_expression, and_expression}
use Rattle.sd_names.specs.declared.meaning.Meaning.{Meaning}
use Rattle.sd_names.specs.declared.meaning.Meaning.TheVariants.{Symbol, Variable}
use Rattle.sd_names.specs.declared.meaning.Container.{Container}
use Rattle.sd_names.specs.declared.meaning.Container.TheVariants.{Array, Stream}
use Rattle.sd_names.specs.Names.{Name, Names, listed, put, place_of, is_among, noted, meaning_of, container_of, is_free, reserved, is_number_kind, is_variable_kind}
use Rattle.sd_names.specs.Expressions.{expression_list, value_of, affine_list}
use Rattle.sd_names.specs.Extents.{or_one}
use Rattle.sd_refusal.specs.NotAffine.{varies}
use Rattle.sd_uses.specs.Twice.{are_not_new}
use Rattle.sd_uses.specs.UnknownName.{has_unknown}
use Rattle.sd_program.specs.Bounds.{EachExpression}
use Rattle.sd_program.specs.IsAffine.{IsAffine}
use Rattle.sd_program.specs.Names.{Named, in_force}
use Rattle.sd_read.proofs.readable_lemmas.kept.Affine.{negated}
use Rattle.sd_read.proofs.readable_lemmas.kept.InForce.{listed-put}
use Rattle.sd_read.proofs.readable_lemmas.kept.Passing.{neither, true_is_not_false, false_is_not_true}
use Rattle.sd_made_valid.specs.read_shapes.Fits.{extents_written, IsOver, AreExtents}
use Rattle.sd_made_valid.proofs.read_shapes_lemmas.Values.{IsListed, by_place}
use Rattle.sd_made_valid.proofs.read_shapes_lemmas.Stretches.{same_place}
use Rattle.sd_made_valid.proofs.read_shapes_lemmas.Sound.{IsAccepted}

-- ---- names that are new

pub free_unlisted : (names : Names) (name : Name) → is_free names name ≡ true → (is_some (meaning_of names name) ≡ false) × (is_among names.declared name ≡ false)
free_unlisted names name free =
    let none = by_not (is_among reserved name || is_some (meaning_of names name) || is_some (container_of names name) || is_among names.declared name) free in
    let first = neither (is_among reserved name || is_some (meaning_of names name) || is_some (container_of names name)) (is_among names.declared name) none in
    let second = neither (is_among reserved name || is_some (meaning_of names name)) (is_some (container_of names name)) first.0 in
    ((neither (is_among reserved name) (is_some (meaning_of names name)) second.0).1, first.1) where
      by_not : (test : Bool) → not test ≡ true → test ≡ false
      by_not true is = sym is
      by_not false is = refl

pub all_free : (names : Names) (earlier wanted : List Name) → are_not_new names earlier wanted ≡ false → AllByRecursion (λ name. is_free names name ≡ true) wanted
all_free names earlier [] none = tt
all_free names earlier (name ∷ wanted) none =
    let halves = neither (not (is_free names name) || is_among earlier name) (are_not_new names (noted earlier name) wanted) none in
    (negated (is_free names name) (neither (not (is_free names name)) (is_among earlier name) halves.0).0, all_free names (noted earlier name) wanted halves.1)

-- ---- extents

module _ (names : Names) (symbols : List Name) (place : Name → ℕ) (kept : (name : Name) → is_among symbols name ≡ true → IsListed names.meanings name × (place_of names.meanings name ≡ place name))
    (are : (name : Name) → listed names.meanings name ≡ Some Symbol → is_among symbols name ≡ true) where
  symbol_meant : (meaning : Option Meaning) → is_number_kind meaning ≡ true → is_variable_kind meaning ≡ false → meaning ≡ Some Symbol
  symbol_meant (Some Symbol) number' variable = refl
  symbol_meant (Some Variable) number' variable = true_is_not_false variable
  symbol_meant meaning number' variable = false_is_not_true number'

  over_symbols : (e : Expression) → IsAffine e → has_unknown names e ≡ false → varies names e ≡ false → IsOver symbols e
  over_symbols (number value) affine known fixed = tt
  over_symbols (named name) affine known fixed = are name (symbol_meant (meaning_of names name) (negated (is_number_kind (meaning_of names name)) known) fixed)
  over_symbols (element_at name at) affine known fixed = absurd affine
  over_symbols (one sign of) affine known fixed = over_symbols of affine.1 known fixed
  over_symbols (two sign left right) affine known fixed =
      let knowns = neither (has_unknown names left) (has_unknown names right) known in
      let fixeds = neither (varies names left) (varies names right) fixed in
      (over_symbols left affine.1.0 knowns.0 fixeds.0, over_symbols right affine.1.1 knowns.1 fixeds.1)
  over_symbols (choice value when other) affine known fixed = absurd affine

  listed_extents : (extents : Expressions) → EachExpression (IsAccepted names) extents → list_any (varies names) (expression_list extents) ≡ false →
      AreExtents symbols (expression_list extents) × (affine_list names extents ≡ map (by_place place) (expression_list extents))
  listed_extents no_expression accepted fixed = (tt, refl)
  listed_extents (and_expression first rest) accepted fixed =
      let fixeds = neither (varies names first) (list_any (varies names) (expression_list rest)) fixed in
      let over : IsOver symbols first = over_symbols first accepted.0.0 accepted.0.1.0 fixeds.0 in
      let others = listed_extents rest accepted.1 fixeds.1 in
      let same : value_of names.meanings first ≡ by_place place first = accepted.0.1.1.0 ∙ sym (same_place names.meanings [] place symbols kept first over).1 in
      (((accepted.0.0, over), others.0), λ i. same i ∷ others.1 i)

  -- the extents of an argument, and of an array that has one
  pub argument_extents : (extents : Expressions) → EachExpression (IsAccepted names) extents → list_any (varies names) (expression_list extents) ≡ false →
      AreExtents symbols (extents_written extents) × (or_one (affine_list names extents) ≡ map (by_place place) (extents_written extents))
  argument_extents no_expression accepted fixed = (((tt, tt), tt), refl)
  argument_extents (and_expression first rest) accepted fixed = listed_extents (and_expression first rest) accepted fixed

-- ---- arrays that are held

abbrev pub AreHeld : List Name → (Name → ℕ) → Named (List Expression) → List (Name × Container) → Type 0
AreHeld symbols place arrays containers = (name : Name) (extents : List Affine) → listed containers name ≡ Some (Array extents) →
    (written : List Expression) × ((in_force arrays name ≡ Some written) × (AreExtents symbols written × (extents ≡ map (by_place place) written)))

abbrev extents_in : Option Container → List Affine
extents_in (Some (Array extents)) = extents
extents_in other = []

-- what was known stays so behind a new name
pub more_arrays : (arrays : Named (List Expression)) (name : Name) (own : List Expression) → ((written : List Expression) → in_force arrays name ≡ Some written → ⊥) →
    (wanted : Name) (written : List Expression) → in_force arrays wanted ≡ Some written → in_force ((name, own) ∷ arrays) wanted ≡ Some written
more_arrays arrays name own new wanted written is = by_test (bytes_eq wanted name) refl where
  by_test : (test : Bool) → bytes_eq wanted name ≡ test → cond test (Some own) (in_force arrays wanted) ≡ Some written
  by_test true same = absurd (new written (subst (λ name. in_force arrays name ≡ Some written) ((bytes_eq-Decides wanted name).0 same) is))
  by_test false same = is

pub array_held : (symbols : List Name) (place : Name → ℕ) (arrays : Named (List Expression)) (containers : List (Name × Container)) (name : Name) (extents : List Affine) (written : List Expression) →
    ((written : List Expression) → in_force arrays name ≡ Some written → ⊥) → AreExtents symbols written → extents ≡ map (by_place place) written → AreHeld symbols place arrays containers →
    AreHeld symbols place ((name, written) ∷ arrays) (put containers name (Array extents))
array_held symbols place arrays containers name extents written new are same held wanted found is =
    by_test (bytes_eq wanted name) refl (sym (listed-put containers name (Array extents) wanted) ∙ is) where
      by_test : (test : Bool) → bytes_eq wanted name ≡ test → (if test then Some (Array extents) else listed containers wanted) ≡ Some (Array found) →
          (written' : List Expression) × ((in_force ((name, written) ∷ arrays) wanted ≡ Some written') × (AreExtents symbols written' × (found ≡ map (by_place place) written')))
      by_test true here is =
          (written, (ap (λ test. cond test (Some written) (in_force arrays wanted)) here, (are, ap extents_in (sym is) ∙ same)))
      by_test false other is = let before = held wanted found is in (before.0, (more_arrays arrays name written new wanted before.0 before.1.0, before.1.1))

pub stream_held : (symbols : List Name) (place : Name → ℕ) (arrays : Named (List Expression)) (containers : List (Name × Container)) (name : Name) → AreHeld symbols place arrays containers → AreHeld symbols place arrays (put containers name Stream)
stream_held symbols place arrays containers name held wanted found is = by_test (bytes_eq wanted name) (sym (listed-put containers name Stream wanted) ∙ is) where
  by_test : (test : Bool) → (if test then Some Stream else listed containers wanted) ≡ Some (Array found) →
      (written : List Expression) × ((in_force arrays wanted ≡ Some written) × (AreExtents symbols written × (found ≡ map (by_place place) written)))
  by_test true is = cc
  by_test false is = held wanted found is
