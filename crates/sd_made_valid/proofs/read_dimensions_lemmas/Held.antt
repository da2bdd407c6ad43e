-- Containers that are declared are counted.
use Rattle.std.proofs.Common.{◌≡◌, ◌∙◌, ℕ, List, [], ◌∷◌, take, Bool, true, false, cond, if◌then◌else◌, Some, bytes_eq, refl, ap, sym, subst}
use Rattle.std.proofs.lemmas.Slice.Eq.{bytes_eq-Decides}
use Rattle.sd_names.specs.declared.meaning.Container.{Container}
use Rattle.sd_names.specs.Names.{Name, Names, listed, put, is_among, noted, is_free}
use Rattle.sd_program.specs.Names.{Named, in_force}
use Rattle.sd_read.proofs.readable_lemmas.kept.Affine.{none_is_not_some}
use Rattle.sd_read.proofs.readable_lemmas.kept.InForce.{listed-put}
use Rattle.sd_read.proofs.readable_lemmas.kept.Passing.{true_is_not_false}
use Rattle.sd_made_valid.proofs.read_shapes_lemmas.Declared.{free_unlisted}
use Rattle.sd_made_valid.proofs.read_shapes_lemmas.Grown.{taken_listed}
use Rattle.sd_made_valid.proofs.read_shapes_lemmas.Noted.{noted_more, noted_has}
use Rattle.sd_made_valid.proofs.read_dimensions_lemmas.Connectors.{HasMore}
use Rattle.sd_made_valid.proofs.read_dimensions_lemmas.Wholes.{whole_dimensions}
use Rattle.sd_made_valid.proofs.read_dimensions_lemmas.Stack.{AreWholes}

pub none_held : AreWholes [] [] []
none_held = record { known = λ name found is. none_is_not_some _ is; fresh = λ name count is. none_is_not_some _ is }

pub first_found : (wholes : Named ℕ) (name : Name) (count : ℕ) → in_force ((name, count) ∷ wholes) name ≡ Some count
first_found wholes name count = ap (λ test. cond test (Some count) (in_force wholes name)) ((bytes_eq-Decides name name).1 refl)

module _ (wholes : Named ℕ) (names : Names) (held : AreWholes wholes names.containers names.declared) where
  -- a name that is free has none
  unknown : (name : Name) (count : ℕ) → is_free names name ≡ true → in_force wholes name ≡ Some count → ⊥
  unknown name count free is = true_is_not_false (sym (held.fresh name count is) ∙ (free_unlisted names name free).1)

  pub one_more : (name : Name) (own : ℕ) → is_free names name ≡ true → HasMore wholes ((name, own) ∷ wholes)
  one_more name own free wanted count is = by_test (bytes_eq wanted name) refl where
    by_test : (test : Bool) → bytes_eq wanted name ≡ test → cond test (Some own) (in_force wholes wanted) ≡ Some count
    by_test true same = absurd (unknown name count free (subst (λ name. in_force wholes name ≡ Some count) ((bytes_eq-Decides wanted name).0 same) is))
    by_test false same = is

  pub held_more : (name : Name) (found : Container) → is_free names name ≡ true → AreWholes ((name, whole_dimensions found) ∷ wholes) (put names.containers name found) (noted names.declared name)
  held_more name found free = record { known = known_now; fresh = λ wanted count is. fresh_now wanted count (bytes_eq wanted name) refl is } where
    known_now : (wanted : Name) (own : Container) → listed (put names.containers name found) wanted ≡ Some own → in_force ((name, whole_dimensions found) ∷ wholes) wanted ≡ Some (whole_dimensions own)
    known_now wanted own is = by_test (bytes_eq wanted name) (sym (listed-put names.containers name found wanted) ∙ is) where
      inside : (one other : Container) → Some one ≡ Some other → one ≡ other
      inside one other e = cc

      by_test : (test : Bool) → (if test then Some found else listed names.containers wanted) ≡ Some own → cond test (Some (whole_dimensions found)) (in_force wholes wanted) ≡ Some (whole_dimensions own)
      by_test true is = ap (λ found. Some (whole_dimensions found)) (inside found own is)
      by_test false is = held.known wanted own is

    fresh_now : (wanted : Name) (count : ℕ) (test : Bool) → bytes_eq wanted name ≡ test → cond test (Some (whole_dimensions found)) (in_force wholes wanted) ≡ Some count → is_among (noted names.declared name) wanted ≡ true
    fresh_now wanted count true here is = subst (λ wanted. is_among (noted names.declared name) wanted ≡ true) (sym ((bytes_eq-Decides wanted name).0 here)) (noted_has names.declared name)
    fresh_now wanted count false other is = noted_more names.declared name wanted (held.fresh wanted count is)

-- behind a block fewer containers may be in force
pub held_outside : (wholes : Named ℕ) (containers : List (Name × Container)) (declared : List Name) (keeps : Bool) (before : ℕ) → AreWholes wholes containers declared → AreWholes wholes (if keeps then containers else take before containers) declared
held_outside wholes containers declared true before held = held
held_outside wholes containers declared false before held = record { known = λ name found is. held.known name found (taken_listed containers before name found is); fresh = held.fresh }
