-- What an old and a new element become where both are written.
use Rattle.std.specs.Prelude.{◌≢◌, ℤ, pos, ◌+ℤ◌, ◌*ℤ◌, neg_ℤ, Option, Some, None, List, fold}
use Rattle.std.specs.Int.{int_min, int_max, int_bit_and, int_bit_or, int_bit_xor, w64}
use Rattle.sd_num.specs.Wrapped.{wrapped}
use Rattle.sd_num.specs.Width.{wrapped_to, greatest_of, least_of}
use Rattle.sd_num.specs.declared.width.Width.{Width}
use Rattle.sd_num.specs.declared.resolution.Resolution.{Resolution}
use Rattle.sd_num.specs.declared.resolution.Resolution.TheVariants.{Sum, Product, Min, Max, And, Or, Xor, Last}

abbrev pub resolved : Resolution → (old : ℤ) → (new : ℤ) → ℤ
resolved Sum old new = wrapped (old +ℤ new)
resolved Product old new = wrapped (old *ℤ new)
resolved Min old new = int_min old new
resolved Max old new = int_max old new
resolved And old new = int_bit_and w64 old new
resolved Or old new = int_bit_or w64 old new
resolved Xor old new = int_bit_xor w64 old new
resolved Last old new = new

-- two values may be resolved in either order
abbrev pub IsCommuting : Resolution → Type 0
IsCommuting resolution = resolution ≢ Last

-- the element of a width that changes no element of it
abbrev pub identity_of : Resolution → Width → Option ℤ
identity_of Sum width = Some (pos 0)
identity_of Product width = Some (pos 1)
identity_of Min width = Some (greatest_of width)
identity_of Max width = Some (least_of width)
identity_of And width = Some (neg_ℤ (pos 1))
identity_of Or width = Some (pos 0)
identity_of Xor width = Some (pos 0)
identity_of Last width = None

-- the element after each of the values is written in turn
abbrev pub resolved_all : Resolution → (old : ℤ) → (values : List ℤ) → ℤ
resolved_all resolution old values = fold (resolved resolution) old values

-- what an element of a width becomes where a value is stored in it: old and new are wrapped, then
-- resolved, and the result is wrapped; with no resolution the new one replaces it
abbrev pub stored : Width → Option Resolution → (old : ℤ) → (new : ℤ) → ℤ
stored width None old new = wrapped_to width new
stored width (Some r) old new = wrapped_to width (resolved r (wrapped_to width old) (wrapped_to width new))

-- the element after each of the values is stored in turn
abbrev pub stored_all : Width → Option Resolution → (old : ℤ) → (values : List ℤ) → ℤ
stored_all width by old values = fold (stored width by) old values
