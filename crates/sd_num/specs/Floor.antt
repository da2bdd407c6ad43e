-- Division that rounds towards minus infinity.
use Rattle.std.specs.Prelude.{◌≡◌, ◌⊎◌, suc, ℤ, pos, negsuc, neg_ℤ, ◌+ℤ◌, ◌-ℤ◌, ◌*ℤ◌, ◌<ℤ◌, ◌≤ℤ◌}
use Rattle.std.specs.Int.{int_div_euclid}

-- a is the quotient times b and the remainder, which lies between 0 and b
pub record IsFloorDivision (a b quotient remainder : ℤ) : Type 0 where
  pub whole : quotient *ℤ b +ℤ remainder ≡ a
  pub between : ((pos 0 ≤ℤ remainder) × (remainder <ℤ b)) ⊎ ((b <ℤ remainder) × (remainder ≤ℤ pos 0))

-- the quotient rounded down; a negative divisor changes both signs. By 0 it means nothing
abbrev pub floor_quotient : ℤ → ℤ → ℤ
floor_quotient a (pos b) = int_div_euclid a (pos b)
floor_quotient a (negsuc b) = int_div_euclid (neg_ℤ a) (pos (suc b))

-- what the quotient leaves of the number: 0, or of the divisor's sign
abbrev pub floor_remainder : ℤ → ℤ → ℤ
floor_remainder a b = a -ℤ floor_quotient a b *ℤ b
