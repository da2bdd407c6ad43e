-- Expressions of size symbols come to the same wherever no other variable has such a name.
use Rattle.std.proofs.Common.{◌≡◌, ◌∙◌, ℕ, ◌+◌, List, [], ◌∷◌, Bool, true, false, cond, Some, bytes_eq, refl, ap, sym, subst}
use Rattle.std.specs.List.{AllByRecursion}
use Rattle.std.proofs.lemmas.Slice.Eq.{bytes_eq-Decides}
use Rattle.sd_lex.specs.PlainTree.{Expression, number, named, element_at, one, two, choice, Expressions, no_expression, and_expression}
use Rattle.sd_names.specs.Names.{is_among}
use Rattle.sd_names.specs.Expressions.{expression_list}
use Rattle.sd_program.specs.Names.{Name, Named, in_force}
use Rattle.sd_program.specs.Affines.{affine_name, affine_one, affine_two, affine_of, affines_of}
use Rattle.sd_task.specs.in_force.Names.{with_numbered}
use Rattle.sd_task.specs.in_force.Ranges.{extents_of}
use Rattle.sd_made_valid.specs.read_shapes.Fits.{extents_written, IsOver, AreExtents, values}

-- ---- variables in force

-- each of the size symbols has its own number
abbrev pub Agrees : List Name → (known variables : Named ℕ) → Type 0
Agrees symbols known variables = (name : Name) → is_among symbols name ≡ true → in_force variables name ≡ in_force known name

module _ (symbols : List Name) (known : Named ℕ) where
  one_agrees : (other : Name) (next : ℕ) (variables : Named ℕ) → is_among symbols other ≡ false → Agrees symbols known variables → Agrees symbols known ((other, next) ∷ variables)
  one_agrees other next variables none agrees name among = by_test (bytes_eq name other) refl
    where
      by_test : (test : Bool) → bytes_eq name other ≡ test → cond test (Some next) (in_force variables name) ≡ in_force known name
      by_test true same = absurd (differ (sym (subst (λ name. is_among symbols name ≡ true) ((bytes_eq-Decides name other).0 same) among) ∙ none))
        where
          differ : true ≡ false → ⊥
          differ e = cc
      by_test false same = agrees name among

  -- behind variables of other names
  pub others_agree : (names : List Name) (next : ℕ) (variables : Named ℕ) → AllByRecursion (λ name. is_among symbols name ≡ false) names → Agrees symbols known variables → Agrees symbols known (with_numbered names next variables)
  others_agree [] next variables none agrees = agrees
  others_agree (name ∷ names) next variables none agrees = others_agree names (next + 1) ((name, next) ∷ variables) none.1 (one_agrees name next variables none.0 agrees)

  -- ---- expressions

  module _ (variables : Named ℕ) (agrees : Agrees symbols known variables) where
    affine_agrees : (e : Expression) → IsOver symbols e → affine_of variables e ≡ affine_of known e
    affine_agrees (number value) over = refl
    affine_agrees (named name) over = ap affine_name (agrees name over)
    affine_agrees (element_at name at) over = refl
    affine_agrees (one sign of) over = ap (affine_one sign) (affine_agrees of over)
    affine_agrees (two sign left right) over = λ i. affine_two sign (affine_agrees left over.0 i) (affine_agrees right over.1 i)
    affine_agrees (choice value when other) over = refl

    pub values_agree : (extents : List Expression) → AreExtents symbols extents → values variables extents ≡ values known extents
    values_agree [] are = refl
    values_agree (e ∷ extents) are = λ i. affine_agrees e are.0.1 i ∷ values_agree extents are.1 i

-- ---- extents as they are written

module _ (known : Named ℕ) where
  affines_listed : (extents : Expressions) → affines_of known extents ≡ values known (expression_list extents)
  affines_listed no_expression = refl
  affines_listed (and_expression first rest) = ap (λ others. affine_of known first ∷ others) (affines_listed rest)

  pub extents_listed : (extents : Expressions) → extents_of known extents ≡ values known (extents_written extents)
  extents_listed no_expression = refl
  extents_listed (and_expression first rest) = affines_listed (and_expression first rest)
