-- The size symbols by their numbers stand for the sizes.
use Rattle.std.proofs.Common.{◌≡◌, ◌∙◌, ℕ, suc, ◌+◌, ◌<◌, ◌≤◌, ℤ, pos, List, [], ◌∷◌, length, map, unsigned_abs, refl, ap, sym, subst, arith}
use Rattle.std.specs.Prelude.{⊤}
use Rattle.std.proofs.lemmas.List.{length-map}
use Rattle.sd_lex.specs.PlainTree.{Expressions, no_expression, and_expression}
use Rattle.sd_range.specs.Affine.{affine_value, variable_value}
use Rattle.sd_range.specs.declared.affine.Affine.{Affine}
use Rattle.sd_valid.specs.BoundExpression.{bound_affine}
use Rattle.sd_valid.specs.SizedValues.{sized}
use Rattle.sd_valid.proofs.SizedLaws.{size_value}
use Rattle.sd_program.specs.Names.{Named}
use Rattle.sd_program.specs.Affines.{affines_of}
use Rattle.sd_program.specs.Bounds.{EachExpression}
use Rattle.sd_program.specs.IsAffine.{IsAffine}
use Rattle.sd_task.specs.in_force.Names.{with_numbered}
use Rattle.sd_task.specs.in_force.Ranges.{extents_of}
use Rattle.sd_says.specs.Exact.{exact_all, extents_in}
use Rattle.sd_says.specs.Setting.{taken_in, with_each}
use Rattle.sd_tie.proofs.elements_lemmas.Affines.{number_value, affines_exact}
use Rattle.sd_tie.specs.programs.Programs.{symbols_of, values_of}

-- the values stand at their numbers, from this one on
abbrev Hold : (ℕ → ℤ) → Named ℤ → ℕ → Type 0
Hold make [] next = ⊤
Hold make (size ∷ named) next = (make next ≡ size.1) × Hold make named (next + 1)

hold_later : (make : ℕ → ℤ) (named : Named ℤ) (next : ℕ) → Hold (λ number. make (suc number)) named next → Hold make named (suc next)
hold_later make [] next hold = tt
hold_later make (size ∷ named) next hold = (hold.0, subst (Hold make named) (omega arith) (hold_later make named (next + 1) hold.1))

hold_all : (named : Named ℤ) → Hold (variable_value (values_of named)) named 0
hold_all [] = tt
hold_all (size ∷ named) = (refl, subst (Hold (variable_value (values_of (size ∷ named))) named) (omega arith) (hold_later (variable_value (values_of (size ∷ named))) named 0 (hold_all named)))

hold_same : (make other : ℕ → ℤ) (named : Named ℤ) (next bound : ℕ) → ((number : ℕ) → number < bound → other number ≡ make number) → next + length named ≤ bound → Hold make named next → Hold other named next
hold_same make other [] next bound same most hold = tt
hold_same make other (size ∷ named) next bound same most hold = (same next (omega (arith, most)) ∙ hold.0, hold_same make other named (next + 1) bound same (omega (arith, most)) hold.1)

named_tied : (make : ℕ → ℤ) (named : Named ℤ) (next : ℕ) (numbers : Named ℕ) (said : Named ℤ) → with_each make numbers ≡ said → Hold make named next →
    with_each make (with_numbered (symbols_of named) next numbers) ≡ taken_in named said
named_tied make [] next numbers said e hold = e
named_tied make (size ∷ named) next numbers said e hold =
    named_tied make named (next + 1) ((size.0, next) ∷ numbers) (size ∷ said) (λ i. (size.0, hold.0 i) ∷ e i) hold.1

-- the size symbols of a program
abbrev pub numbered : Named ℤ → Named ℕ
numbered named = with_numbered (symbols_of named) 0 []

module _ (named : Named ℤ) where
  pub sizes_tied : with_each (variable_value (values_of named)) (numbered named) ≡ taken_in named []
  sizes_tied = named_tied (variable_value (values_of named)) named 0 [] [] refl (hold_all named)

  -- whatever the values of other variables are
  pub sized_tied : (values : List ℤ) → with_each (variable_value (sized (values_of named) values)) (numbered named) ≡ taken_in named []
  sized_tied values = named_tied (variable_value (sized (values_of named) values)) named 0 [] [] refl
      (hold_same (variable_value (values_of named)) (variable_value (sized (values_of named) values)) named 0 (length named)
      (λ number below. size_value (values_of named) values number (subst (λ count. number < count) (sym (length-map named (λ size. size.1))) below)) (omega arith) (hold_all named))

  -- ---- extents

  absolute : (extents : List Affine) → map (λ extent. unsigned_abs extent.constant) (map (bound_affine (values_of named)) extents) ≡ map unsigned_abs (map (affine_value (values_of named)) extents)
  absolute [] = refl
  absolute (extent ∷ extents) = ap (λ rest. unsigned_abs (affine_value (values_of named) extent) ∷ rest) (absolute extents)

  -- those of a container with the sizes are those that are said
  pub extents_said : (extents : Expressions) → EachExpression IsAffine extents →
      map (λ extent. unsigned_abs extent.constant) (map (bound_affine (values_of named)) (extents_of (numbered named) extents)) ≡ extents_in (taken_in named []) extents
  extents_said no_expression affine = ap (λ one. unsigned_abs one ∷ []) (number_value (values_of named) (pos 1))
  extents_said (and_expression first rest) affine =
      absolute (affines_of (numbered named) (and_expression first rest))
      ∙ ap (map unsigned_abs) (affines_exact (values_of named) (numbered named) (and_expression first rest) affine ∙ ap (λ variables. exact_all variables (and_expression first rest)) sizes_tied)

  -- and they are so whatever the values of other variables are
  pub extents_stay : (extents : Expressions) → EachExpression IsAffine extents → (values : List ℤ) →
      map (affine_value (sized (values_of named) values)) (extents_of (numbered named) extents) ≡ map (affine_value (values_of named)) (extents_of (numbered named) extents)
  extents_stay no_expression affine values = (λ i. (number_value (sized (values_of named) values) (pos 1) ∙ sym (number_value (values_of named) (pos 1))) i ∷ [])
  extents_stay (and_expression first rest) affine values =
      affines_exact (sized (values_of named) values) (numbered named) (and_expression first rest) affine
      ∙ ap (λ variables. exact_all variables (and_expression first rest)) (sized_tied values ∙ sym sizes_tied)
      ∙ sym (affines_exact (values_of named) (numbered named) (and_expression first rest) affine)
