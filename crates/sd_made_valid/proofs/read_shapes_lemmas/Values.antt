-- The value of an affine expression that was accepted, by any numbers of its variables.
use Rattle.std.proofs.Common.{◌≡◌, ℕ, zero, suc, ◌+◌, List, [], ◌∷◌, Bool, true, false, not, cond, if◌then◌else◌, Option, Some, None, is_some, is_none, bytes_eq, refl, ap, sym, ◌∙◌, arith}
use Rattle.std.proofs.lemmas.Slice.Eq.{bytes_eq-Decides}
use Rattle.sd_range.specs.declared.affine.Affine.{Affine}
use Rattle.sd_lex.specs.PlainTree.{Expression, number, named, element_at, one, two, choice}
use Rattle.sd_names.specs.declared.meaning.Meaning.{Meaning}
use Rattle.sd_names.specs.Names.{Name, Names, listed, place_of, meaning_of, is_number_kind}
use Rattle.sd_names.specs.Expressions.{is_wide, affine_of as affine_in, value_of, value_or_zero}
use Rattle.sd_uses.specs.UnknownName.{has_unknown}
use Rattle.sd_program.specs.Names.{Named, in_force}
use Rattle.sd_program.specs.Affines.{affine_of}
use Rattle.sd_program.specs.IsAffine.{IsAffine}
use Rattle.sd_program.proofs.OtherNumbers.{EachName, affine_by, affine_of-by, with_numbers, told}
use Rattle.sd_read.proofs.readable_lemmas.kept.Affine.{negated, formed}
use Rattle.sd_read.proofs.readable_lemmas.kept.Passing.{neither, true_is_not_false, false_is_not_true}

abbrev pub IsListed : List (Name × Meaning) → Name → Type 0
IsListed entries name = is_some (listed entries name) ≡ true

-- the name that stands at a place
abbrev pub name_at : List (Name × Meaning) → ℕ → Name
name_at [] place = []
name_at (entry ∷ entries) zero = entry.0
name_at (entry ∷ entries) (suc place) = name_at entries place

-- a name that is listed stands at its own place
at_place : (entries : List (Name × Meaning)) (name : Name) → IsListed entries name → name_at entries (place_of entries name) ≡ name
at_place [] name is = false_is_not_true is
at_place (entry ∷ entries) name is = by_test (bytes_eq name entry.0) refl (at_place entries name) is where
  by_test : (test : Bool) → bytes_eq name entry.0 ≡ test → (IsListed entries name → name_at entries (place_of entries name) ≡ name) →
      is_some (if test then Some entry.1 else listed entries name) ≡ true → name_at (entry ∷ entries) (cond (not test) (1 + place_of entries name) 0) ≡ name
  by_test true same later is = sym ((bytes_eq-Decides name entry.0).0 same)
  by_test false other later is =
      let grown : 1 + place_of entries name ≡ suc (place_of entries name) = omega arith in
      ap (name_at (entry ∷ entries)) grown ∙ later is

module _ (place : Name → ℕ) where
  -- by the places of its names
  abbrev pub by_place : Expression → Affine
  by_place e = affine_by (λ name. Some (place name)) e

-- what is accepted of an expression has its value by the places of its names
module _ (names : Names) where
  known_listed : (meaning : Option Meaning) → is_number_kind meaning ≡ true → is_some meaning ≡ true
  known_listed None is = is
  known_listed (Some meaning) is = refl

  pub names_listed : (e : Expression) → IsAffine e → has_unknown names e ≡ false → EachName (IsListed names.meanings) e
  names_listed (number value) affine known = tt
  names_listed (named name) affine known = known_listed (meaning_of names name) (negated (is_number_kind (meaning_of names name)) known)
  names_listed (element_at name at) affine known = absurd affine
  names_listed (one sign of) affine known = names_listed of affine.1 known
  names_listed (two sign left right) affine known =
      let halves = neither (has_unknown names left) (has_unknown names right) known in
      (names_listed left affine.1.0 halves.0, names_listed right affine.1.1 halves.1)
  names_listed (choice value when other) affine known = absurd affine

  pub valued : (e : Expression) → IsAffine e → is_wide names.meanings e ≡ false → value_of names.meanings e ≡ by_place (place_of names.meanings) e
  valued e affine narrow = by_form (affine_in names.meanings e) refl narrow where
    by_form : (form : Option Affine) → affine_in names.meanings e ≡ form → is_none form ≡ false → value_or_zero form ≡ by_place (place_of names.meanings) e
    by_form None form narrow = true_is_not_false narrow
    by_form (Some a) form narrow = sym (formed names.meanings e a affine form).1

-- by any numbers of the variables
module _ (entries : List (Name × Meaning)) (variables : Named ℕ) where
  abbrev pub number_at : ℕ → Option ℕ
  number_at place = in_force variables (name_at entries place)

  -- an expression with these numbers for its places
  abbrev pub turned : Affine → Affine
  turned = with_numbers number_at

  numbers_told : (e : Expression) → EachName (IsListed entries) e → EachName (λ name. in_force variables name ≡ number_at (place_of entries name)) e
  numbers_told (number value) all = tt
  numbers_told (named name) all = ap (in_force variables) (sym (at_place entries name all))
  numbers_told (element_at name at) all = tt
  numbers_told (one sign of) all = numbers_told of all
  numbers_told (two sign left right) all = (numbers_told left all.0, numbers_told right all.1)
  numbers_told (choice value when other) all = tt

  pub by_numbers : (e : Expression) → IsAffine e → EachName (IsListed entries) e → turned (by_place (place_of entries) e) ≡ affine_of variables e
  by_numbers e affine all = sym (affine_of-by variables e ∙ told number_at (place_of entries) (in_force variables) e affine (numbers_told e all))
