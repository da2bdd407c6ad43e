-- What the signs of expressions and the lambdas of memlets give, on elements.
use Rattle.std.specs.Prelude.{ℤ, ◌+ℤ◌, ◌-ℤ◌, ◌*ℤ◌, neg_ℤ, int_lt, int_le, Ok, Bool, false, not, if◌then◌else◌}
use Rattle.std.specs.Int.{int_min, int_max, int_bit_and, int_bit_or, int_bit_xor, int_bit_not, w64}
use Rattle.std.specs.Ordering.{int_eq}
use Rattle.sd_lex.specs.declared.syntax.memlet.Lambda.{Lambda}
use Rattle.sd_lex.specs.declared.syntax.memlet.Lambda.TheVariants as lambda
use Rattle.sd_lex.specs.declared.syntax.operator.OneSign.{OneSign}
use Rattle.sd_lex.specs.declared.syntax.operator.OneSign.TheVariants.{Not, Neg, Inv}
use Rattle.sd_lex.specs.declared.syntax.operator.TwoSign.{TwoSign}
use Rattle.sd_lex.specs.declared.syntax.operator.TwoSign.TheVariants.{Or, And, Less, LessEqual, Greater, GreaterEqual, Equal, Differ, BitOr, BitXor, BitAnd, Add, Sub, Mul, FloorDiv, Mod, Min, Max}
use Rattle.sd_num.specs.Floor.{floor_quotient, floor_remainder}
use Rattle.sd_num.specs.Wrapped.{wrapped}
use Rattle.sd_num.specs.declared.resolution.Resolution.{Resolution}
use Rattle.sd_num.specs.declared.resolution.Resolution.TheVariants as resolution
use Rattle.sd_graph.specs.TaskletMeaning.{Meaning, truth, holds, divided, and_then}

-- a sign before a value
abbrev pub one_value : OneSign → ℤ → ℤ
one_value Not value = truth (not (holds value))
one_value Neg value = wrapped (neg_ℤ value)
one_value Inv value = int_bit_not w64 value

-- a sign between two values
abbrev pub two_values : TwoSign → (left right : ℤ) → Meaning ℤ
two_values Or left right = Ok (if holds left then left else right)
two_values And left right = Ok (if holds left then right else left)
two_values Less left right = Ok (truth (int_lt left right))
two_values LessEqual left right = Ok (truth (int_le left right))
two_values Greater left right = Ok (truth (int_lt right left))
two_values GreaterEqual left right = Ok (truth (int_le right left))
two_values Equal left right = Ok (truth (int_eq left right))
two_values Differ left right = Ok (truth (not (int_eq left right)))
two_values BitOr left right = Ok (int_bit_or w64 left right)
two_values BitXor left right = Ok (int_bit_xor w64 left right)
two_values BitAnd left right = Ok (int_bit_and w64 left right)
two_values Add left right = Ok (wrapped (left +ℤ right))
two_values Sub left right = Ok (wrapped (left -ℤ right))
two_values Mul left right = Ok (wrapped (left *ℤ right))
two_values FloorDiv left right = divided right (wrapped (floor_quotient left right))
two_values Mod left right = divided right (floor_remainder left right)
two_values Min left right = Ok (int_min left right)
two_values Max left right = Ok (int_max left right)

-- the first value decides alone: 0 of `and`, another one of `or`
abbrev pub decides : TwoSign → (left : ℤ) → Bool
decides Or left = holds left
decides And left = not (holds left)
decides sign left = false

-- a sign between a value and what stands behind it, which is not asked where the value decides alone
abbrev pub two_sides : TwoSign → (left : ℤ) → (right : Meaning ℤ) → Meaning ℤ
two_sides sign left right = if decides sign left then Ok left else and_then right (two_values sign left)

-- how values that come to one element become one
abbrev pub resolution_of : Lambda → Resolution
resolution_of lambda.Sum = resolution.Sum
resolution_of lambda.Product = resolution.Product
resolution_of lambda.Min = resolution.Min
resolution_of lambda.Max = resolution.Max
resolution_of lambda.And = resolution.And
resolution_of lambda.Or = resolution.Or
resolution_of lambda.Xor = resolution.Xor
resolution_of lambda.Last = resolution.Last
