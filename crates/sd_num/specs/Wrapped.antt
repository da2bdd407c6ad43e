-- Numbers modulo 2^64: the elements of 64 bits.
use Rattle.std.specs.Prelude.{ℤ}
use Rattle.std.specs.Int.{int_wrap, w64}

-- the element that a whole number stands for: the number modulo 2^64, as a signed one
abbrev pub wrapped : ℤ → ℤ
wrapped z = int_wrap w64 z
