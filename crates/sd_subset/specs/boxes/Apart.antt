-- When two boxes of a map's body share no element at two points of it.
use Rattle.std.specs.Prelude.{◌≡◌, ◌≢◌, ◌⊎◌, ℕ, ℤ, pos, ◌-ℤ◌, ◌*ℤ◌, ◌<ℤ◌, unsigned_abs, List, [], ◌∷◌}
use Rattle.std.specs.List.{AllByRecursion, Contains}
use Rattle.sd_range.specs.Terms.{coefficient_of}
use Rattle.sd_range.specs.Arithmetic.{affine_difference}
use Rattle.sd_range.specs.declared.affine.Affine.{Affine}
use Rattle.sd_subset.specs.declared.boxes.bounds.Bounds.{Bounds}
use Rattle.sd_subset.specs.boxes.Box.{Parameter, Box, least, greatest, replaced}

-- a constant above 0
pub record IsPositive (a : Affine) : Type 0 where
  pub constant : a.terms ≡ []
  pub above : pos 0 <ℤ a.constant

-- in one dimension the one begins above the other's end, whatever values the parameters around have
abbrev pub BeginsAbove : (around : List Parameter) → (one other : Bounds) → Type 0
BeginsAbove around one other = IsPositive (least around (affine_difference one.low other.high))

-- in some dimension
abbrev pub InSome : (Bounds → Bounds → Type 0) → Box → Box → Type 0
InSome Holds [] other = ⊥
InSome Holds (one ∷ box) [] = ⊥
InSome Holds (one ∷ box) (two ∷ other) = Holds one two ⊎ InSome Holds box other

-- in some dimension one of the two begins above the other's end
abbrev pub AreDisjoint : (around : List Parameter) → Box → Box → Type 0
AreDisjoint around box other = InSome (λ one two. BeginsAbove around one two ⊎ BeginsAbove around two one) box other

-- apart: so with the map's own parameters replaced
abbrev pub AreApart : (around own : List Parameter) → Box → Box → Type 0
AreApart around own box other = AreDisjoint around (replaced own box) (replaced own other)

-- all four bounds have one sum of terms
pub record AreParallel (one other : Bounds) : Type 0 where
  pub high : one.high.terms ≡ one.low.terms
  pub other_low : other.low.terms ≡ one.low.terms
  pub other_high : other.high.terms ≡ one.low.terms

-- a step of a parameter moves bounds by more than they are wide, from the begin of each to the end of the other
pub record IsWide (by : Parameter) (one other : Bounds) : Type 0 where
  pub wide : (one.high.constant -ℤ other.low.constant) <ℤ (pos (unsigned_abs (coefficient_of one.low.terms by.0)) *ℤ by.1.step)
  pub other_wide : (other.high.constant -ℤ one.low.constant) <ℤ (pos (unsigned_abs (coefficient_of one.low.terms by.0)) *ℤ by.1.step)

-- none of a map's parameters but this one is in the terms
abbrev pub IsAlone : (own : List Parameter) → (by : ℕ) → Affine → Type 0
IsAlone own by a = AllByRecursion (λ parameter. parameter.0 ≢ by → coefficient_of a.terms parameter.0 ≡ pos 0) own

-- all four bounds have this parameter with one coefficient, none of the map's other parameters, and else the same terms; a step of it is more than the boxes are wide
pub record SeparatesIn (own : List Parameter) (by : Parameter) (one other : Bounds) : Type 0 where
  pub moves : coefficient_of one.low.terms by.0 ≢ pos 0
  pub alone : IsAlone own by.0 one.low
  pub parallel : AreParallel one other
  pub wide : IsWide by one other

-- separated on a parameter: so in some dimension
abbrev pub AreSeparated : (own : List Parameter) → Parameter → Box → Box → Type 0
AreSeparated own by box other = InSome (SeparatesIn own by) box other

-- a constant below another number
pub record IsBelow (a : Affine) (number : ℤ) : Type 0 where
  pub constant : a.terms ≡ []
  pub below : a.constant <ℤ number

-- a parameter is single where for some end the greatest distance to it is below a step
abbrev pub IsSingle : (around : List Parameter) → Parameter → Type 0
IsSingle around parameter =
    (end : Affine) × Contains parameter.1.ends end × IsBelow (greatest around (affine_difference end parameter.1.begin)) parameter.1.step

-- separated on each parameter that is not single
abbrev pub AreAllSeparated : (around own : List Parameter) → Box → Box → Type 0
AreAllSeparated around own box other = AllByRecursion (λ parameter. IsSingle around parameter ⊎ AreSeparated own parameter box other) own

-- two boxes share no element at different points: they are apart, or separated so
abbrev pub AreHarmless : (around own : List Parameter) → Box → Box → Type 0
AreHarmless around own box other = AreApart around own box other ⊎ AreAllSeparated around own box other
