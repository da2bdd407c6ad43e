-- Which expressions are affine: numbers and names with `+`, `-`, and `*` where one side has no name.
use Rattle.std.specs.Prelude.{◌⊎◌, ⊤}
use Rattle.sd_lex.specs.PlainTree.{Expression, number, named, element_at, one, two, choice}
use Rattle.sd_lex.specs.declared.syntax.operator.OneSign.{OneSign}
use Rattle.sd_lex.specs.declared.syntax.operator.OneSign.TheVariants.{Neg}
use Rattle.sd_lex.specs.declared.syntax.operator.TwoSign.{TwoSign}
use Rattle.sd_lex.specs.declared.syntax.operator.TwoSign.TheVariants.{Add, Sub, Mul}

-- no name stands in the expression
abbrev pub HasNoName : Expression → Type 0
HasNoName (number value) = ⊤
HasNoName (named name) = ⊥
HasNoName (element_at name at) = ⊥
HasNoName (one sign of) = HasNoName of
HasNoName (two sign left right) = HasNoName left × HasNoName right
HasNoName (choice value when other) = HasNoName value × (HasNoName when × HasNoName other)

-- the sign of a negative number
abbrev pub IsMinus : OneSign → Type 0
IsMinus Neg = ⊤
IsMinus sign = ⊥

-- what may stand on the two sides of a sign: of a product's sides one has no name
abbrev pub MayJoin : TwoSign → (left right : Expression) → Type 0
MayJoin Add left right = ⊤
MayJoin Sub left right = ⊤
MayJoin Mul left right = HasNoName left ⊎ HasNoName right
MayJoin sign left right = ⊥

abbrev pub IsAffine : Expression → Type 0
IsAffine (number value) = ⊤
IsAffine (named name) = ⊤
IsAffine (element_at name at) = ⊥
IsAffine (one sign of) = IsMinus sign × IsAffine of
IsAffine (two sign left right) = MayJoin sign left right × (IsAffine left × IsAffine right)
IsAffine (choice value when other) = ⊥
