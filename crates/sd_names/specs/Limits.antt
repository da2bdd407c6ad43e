-- The limits of affine expressions.
use Rattle.std.specs.Prelude.{nat_lt, nat_le, unsigned_abs, Bool, ◌&&◌, Option, Some, None, if◌then◌else◌}
use Rattle.sd_range.specs.declared.affine.Affine.{Affine}
use Rattle.sd_range.specs.Weight.{weight_of}

-- a constant of a size below 2^40, and coefficients whose sizes add up to at most 2^10
abbrev pub is_within : Affine → Bool
is_within a = nat_lt (unsigned_abs a.constant) 1099511627776 && nat_le (weight_of a.terms) 1024

abbrev pub if_within : Affine → Option Affine
if_within a = if is_within a then Some a else None
