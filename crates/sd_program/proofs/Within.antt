-- An expression whose parts are within the limits where each name has a number of its own is so whatever numbers they have.
use Rattle.std.proofs.Common.{◌≡◌, ℕ, Option, Some, ap, sym, ◌∙◌, subst, arith}
use Rattle.std.specs.Bool.{⊤}
use Rattle.sd_lex.specs.PlainTree.{Expression, number, named, element_at, one, two, choice}
use Rattle.sd_range.specs.declared.affine.Affine.{Affine}
use Rattle.sd_program.specs.Names.{Name, Named, in_force}
use Rattle.sd_program.specs.IsAffine.{IsAffine}
use Rattle.sd_program.specs.Small.{IsWithinLimits, IsAlwaysWithin, HasSmallParts, IsSmall}
use Rattle.sd_program.proofs.Renumbering.{renumbered-weight}
use Rattle.sd_program.proofs.OtherNumbers.{EachName, affine_by, affine_of-by, with_numbers, told}

within-numbers : (number' : ℕ → Option ℕ) (a : Affine) → IsWithinLimits a → IsWithinLimits (with_numbers number' a)
within-numbers number' a within = record {
  constant = within.constant;
  coefficients = omega (arith, within.coefficients, renumbered-weight number' a.terms);
}

module _ (first : Name → ℕ) where
  -- the parts of an expression are within the limits by the first numbers
  abbrev pub HasPartsWithin : Expression → Type 0
  HasPartsWithin (number value) = ⊤
  HasPartsWithin (named name) = ⊤
  HasPartsWithin (element_at name at) = ⊤
  HasPartsWithin (one sign of) = IsWithinLimits (affine_by (λ name. Some (first name)) of) × HasPartsWithin of
  HasPartsWithin (two sign left right) =
      (IsWithinLimits (affine_by (λ name. Some (first name)) left) × HasPartsWithin left)
      × (IsWithinLimits (affine_by (λ name. Some (first name)) right) × HasPartsWithin right)
  HasPartsWithin (choice value when other) = ⊤

  abbrev pub IsWithinBy : Expression → Type 0
  IsWithinBy e = IsWithinLimits (affine_by (λ name. Some (first name)) e) × HasPartsWithin e

  -- each first number tells its name
  module _ (name_at : ℕ → Name) where
    abbrev pub HasOwnNumbers : Expression → Type 0
    HasOwnNumbers e = EachName (λ name. name_at (first name) ≡ name) e

    tells : (variables : Named ℕ) (e : Expression) → HasOwnNumbers e → EachName (λ name. in_force variables name ≡ in_force variables (name_at (first name))) e
    tells variables (number value) own = tt
    tells variables (named name) own = ap (in_force variables) (sym own)
    tells variables (element_at name at) own = tt
    tells variables (one sign of) own = tells variables of own
    tells variables (two sign left right) own = (tells variables left own.0, tells variables right own.1)
    tells variables (choice value when other) own = tt

    always : (e : Expression) → IsAffine e → HasOwnNumbers e → IsWithinLimits (affine_by (λ name. Some (first name)) e) → IsAlwaysWithin e
    always e affine own within variables =
        subst IsWithinLimits
        (sym (affine_of-by variables e ∙ told (λ number'. in_force variables (name_at number')) first (in_force variables) e affine (tells variables e own)))
        (within-numbers (λ number'. in_force variables (name_at number')) (affine_by (λ name. Some (first name)) e) within)

    parts : (e : Expression) → IsAffine e → HasOwnNumbers e → HasPartsWithin e → HasSmallParts e
    parts (number value) affine own within = tt
    parts (named name) affine own within = tt
    parts (element_at name at) affine own within = tt
    parts (one sign of) affine own within = (always of affine.1 own within.0, parts of affine.1 own within.1)
    parts (two sign left right) affine own within = (
      (always left affine.1.0 own.0 within.0.0, parts left affine.1.0 own.0 within.0.1),
      (always right affine.1.1 own.1 within.1.0, parts right affine.1.1 own.1 within.1.1),
    )
    parts (choice value when other) affine own within = tt

    pub small_by : (e : Expression) → IsAffine e → HasOwnNumbers e → IsWithinBy e → IsSmall e
    small_by e affine own within = (always e affine own within.0, parts e affine own within.1)
