-- Elements of 64 and of 32 bits.
use Rattle.std.specs.Prelude.{ℤ, pos, neg_ℤ, ◌-◌, ◌^◌, FitsSigned}
use Rattle.std.specs.Int.{int_wrap, w32, w64}
use Rattle.sd_num.specs.Wrapped.{wrapped}
use Rattle.sd_num.specs.declared.width.Width.{Width}
use Rattle.sd_num.specs.declared.width.Width.TheVariants.{W32, W64}

-- the element of a width that a whole number stands for: the number modulo 2^32 or 2^64, as a
-- signed one
abbrev pub wrapped_to : Width → ℤ → ℤ
wrapped_to W32 z = int_wrap w32 z
wrapped_to W64 z = wrapped z

-- the numbers that are elements of a width
abbrev pub IsElement : Width → ℤ → Type 0
IsElement W32 z = FitsSigned w32 z
IsElement W64 z = FitsSigned w64 z

-- the greatest and the least of them
abbrev pub greatest_of : Width → ℤ
greatest_of W32 = pos (2 ^ 31 - 1)
greatest_of W64 = pos (2 ^ 63 - 1)

abbrev pub least_of : Width → ℤ
least_of W32 = neg_ℤ (pos (2 ^ 31))
least_of W64 = neg_ℤ (pos (2 ^ 63))
