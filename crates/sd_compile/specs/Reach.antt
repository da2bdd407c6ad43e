-- How many registers instructions need.
use Rattle.std.specs.Prelude.{ℕ, ◌+◌, List, [], ◌∷◌, max}
use Rattle.sd_tcode.specs.declared.op.op.Op.{Op}
use Rattle.sd_tcode.specs.declared.op.op.Op.TheVariants.{Number, Copy, Not, Neg, Inv, Or, And, Less, LessEqual, Greater, GreaterEqual, Equal, Differ, BitOr, BitXor, BitAnd, Add, Sub, Mul, FloorDiv, Mod, Min, Max, Element, Inside, Keep, Skip, SkipIfZero, SkipUnlessZero, SkipUnlessLess, SkipUnlessLessEqual, SkipUnlessEqual, SkipUnlessDiffer}

-- how many registers there have to be for those that an instruction names
abbrev pub reach : Op → ℕ
reach (Number to value) = to + 1
reach (Copy to from) = max (to + 1) (from + 1)
reach (Not to of) = max (to + 1) (of + 1)
reach (Neg to of) = max (to + 1) (of + 1)
reach (Inv to of) = max (to + 1) (of + 1)
reach (Or to left right) = max (to + 1) (max (left + 1) (right + 1))
reach (And to left right) = max (to + 1) (max (left + 1) (right + 1))
reach (Less to left right) = max (to + 1) (max (left + 1) (right + 1))
reach (LessEqual to left right) = max (to + 1) (max (left + 1) (right + 1))
reach (Greater to left right) = max (to + 1) (max (left + 1) (right + 1))
reach (GreaterEqual to left right) = max (to + 1) (max (left + 1) (right + 1))
reach (Equal to left right) = max (to + 1) (max (left + 1) (right + 1))
reach (Differ to left right) = max (to + 1) (max (left + 1) (right + 1))
reach (BitOr to left right) = max (to + 1) (max (left + 1) (right + 1))
reach (BitXor to left right) = max (to + 1) (max (left + 1) (right + 1))
reach (BitAnd to left right) = max (to + 1) (max (left + 1) (right + 1))
reach (Add to left right) = max (to + 1) (max (left + 1) (right + 1))
reach (Sub to left right) = max (to + 1) (max (left + 1) (right + 1))
reach (Mul to left right) = max (to + 1) (max (left + 1) (right + 1))
reach (FloorDiv to left right) = max (to + 1) (max (left + 1) (right + 1))
reach (Mod to left right) = max (to + 1) (max (left + 1) (right + 1))
reach (Min to left right) = max (to + 1) (max (left + 1) (right + 1))
reach (Max to left right) = max (to + 1) (max (left + 1) (right + 1))
reach (Element dims to connector first) = max (to + 1) (first + dims)
reach (Inside dims connector first) = first + dims
reach (Keep dims connector first value) = max (first + dims) (value + 1)
reach (Skip count) = 0
reach (SkipIfZero value count) = value + 1
reach (SkipUnlessZero value count) = value + 1
reach (SkipUnlessLess left right count) = max (left + 1) (right + 1)
reach (SkipUnlessLessEqual left right count) = max (left + 1) (right + 1)
reach (SkipUnlessEqual left right count) = max (left + 1) (right + 1)
reach (SkipUnlessDiffer left right count) = max (left + 1) (right + 1)

-- the same for all of them
abbrev pub reach_all : List Op → ℕ
reach_all [] = 0
reach_all (op ∷ ops) = max (reach op) (reach_all ops)
