-- How large the numbers of an affine expression may be.
use Rattle.std.specs.Prelude.{ℕ, ◌<◌, ◌≤◌, ◌^◌, unsigned_abs, ⊤}
use Rattle.sd_lex.specs.PlainTree.{Expression, number, named, element_at, one, two, choice}
use Rattle.sd_range.specs.Weight.{weight_of}
use Rattle.sd_range.specs.declared.affine.Affine.{Affine}
use Rattle.sd_program.specs.Names.{Named}
use Rattle.sd_program.specs.Affines.{affine_of}

-- a constant of a size below 2^40, and coefficients whose sizes add up to at most 2^10
pub record IsWithinLimits (a : Affine) : Type 0 where
  pub constant : unsigned_abs a.constant < 2 ^ 40
  pub coefficients : weight_of a.terms ≤ 2 ^ 10

-- the expression is within the limits, whatever numbers its variables have
abbrev pub IsAlwaysWithin : Expression → Type 0
IsAlwaysWithin expression = (variables : Named ℕ) → IsWithinLimits (affine_of variables expression)

-- so is each part of it
abbrev pub HasSmallParts : Expression → Type 0
HasSmallParts (number value) = ⊤
HasSmallParts (named name) = ⊤
HasSmallParts (element_at name at) = ⊤
HasSmallParts (one sign of) = IsAlwaysWithin of × HasSmallParts of
HasSmallParts (two sign left right) = (IsAlwaysWithin left × HasSmallParts left) × (IsAlwaysWithin right × HasSmallParts right)
HasSmallParts (choice value when other) = ⊤

-- each partial result of an affine expression is within the limits
abbrev pub IsSmall : Expression → Type 0
IsSmall expression = IsAlwaysWithin expression × HasSmallParts expression
