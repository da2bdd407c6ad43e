-- The signs of affine expressions.
use Rattle.std.proofs.Common.{◌⊎◌}
use Rattle.sd_lex.specs.PlainTree.{Expression}
use Rattle.sd_lex.specs.declared.syntax.operator.OneSign.{OneSign}
use Rattle.sd_lex.specs.declared.syntax.operator.OneSign.TheVariants.{Not, Neg, Inv}
use Rattle.sd_lex.specs.declared.syntax.operator.TwoSign.{TwoSign}
use Rattle.sd_lex.specs.declared.syntax.operator.TwoSign.TheVariants.{Or, And, Less, LessEqual, Greater, GreaterEqual, Equal, Differ, BitOr, BitXor, BitAnd, Add, Sub, Mul, FloorDiv, Mod, Min, Max}
use Rattle.sd_program.specs.IsAffine.{HasNoName, IsMinus, MayJoin}

pub by_minus : (P : OneSign → Type 0) (sign : OneSign) → IsMinus sign → P Neg → P sign
by_minus P Not is minus = absurd is
by_minus P Neg is minus = minus
by_minus P Inv is minus = absurd is

pub by_join : (P : TwoSign → Type 0) (sign : TwoSign) (left right : Expression) → MayJoin sign left right → P Add → P Sub → (HasNoName left ⊎ HasNoName right → P Mul) → P sign
by_join P Add left right may sum difference product = sum
by_join P Sub left right may sum difference product = difference
by_join P Mul left right may sum difference product = product may
by_join P Or left right may sum difference product = absurd may
by_join P And left right may sum difference product = absurd may
by_join P Less left right may sum difference product = absurd may
by_join P LessEqual left right may sum difference product = absurd may
by_join P Greater left right may sum difference product = absurd may
by_join P GreaterEqual left right may sum difference product = absurd may
by_join P Equal left right may sum difference product = absurd may
by_join P Differ left right may sum difference product = absurd may
by_join P BitOr left right may sum difference product = absurd may
by_join P BitXor left right may sum difference product = absurd may
by_join P BitAnd left right may sum difference product = absurd may
by_join P FloorDiv left right may sum difference product = absurd may
by_join P Mod left right may sum difference product = absurd may
by_join P Min left right may sum difference product = absurd may
by_join P Max left right may sum difference product = absurd may
