-- Instructions that need no test: each register and connector that they name is there.
use Rattle.std.specs.Prelude.{ℕ, ◌+◌, ◌<◌, ◌≤◌, List, [], ◌∷◌, ⊤}
use Rattle.sd_tcode.specs.declared.op.op.Op.{Op}
use Rattle.sd_tcode.specs.declared.op.op.Op.TheVariants.{Number, Copy, Not, Neg, Inv, Or, And, Less, LessEqual, Greater, GreaterEqual, Equal, Differ, BitOr, BitXor, BitAnd, Add, Sub, Mul, FloorDiv, Mod, Min, Max, Element, Inside, Keep, Skip, SkipIfZero, SkipUnlessZero, SkipUnlessLess, SkipUnlessLessEqual, SkipUnlessEqual, SkipUnlessDiffer}

-- what code has: the first so many registers hold what it was given and are never written, there are so many registers, and so many input connectors and connectors
pub record Room : Type 0 where
  pub given : ℕ
  pub registers : ℕ
  pub inputs : ℕ
  pub connectors : ℕ

-- a register that may be written
abbrev pub IsFree : Room → (to : ℕ) → Type 0
IsFree room to = (room.given ≤ to) × (to < room.registers)

abbrev pub IsTwo : Room → (to left right : ℕ) → Type 0
IsTwo room to left right = IsFree room to × (left < room.registers) × (right < room.registers)

-- registers in a row for an index
abbrev pub IsIndex : Room → (first dims : ℕ) → Type 0
IsIndex room first dims = (first + dims ≤ room.registers) × (dims ≤ 4)

-- each register and connector that an instruction names is there
abbrev pub IsWithin : Room → Op → Type 0
IsWithin room (Number to value) = IsFree room to
IsWithin room (Copy to from) = IsFree room to × (from < room.registers)
IsWithin room (Not to of) = IsFree room to × (of < room.registers)
IsWithin room (Neg to of) = IsFree room to × (of < room.registers)
IsWithin room (Inv to of) = IsFree room to × (of < room.registers)
IsWithin room (Or to left right) = IsTwo room to left right
IsWithin room (And to left right) = IsTwo room to left right
IsWithin room (Less to left right) = IsTwo room to left right
IsWithin room (LessEqual to left right) = IsTwo room to left right
IsWithin room (Greater to left right) = IsTwo room to left right
IsWithin room (GreaterEqual to left right) = IsTwo room to left right
IsWithin room (Equal to left right) = IsTwo room to left right
IsWithin room (Differ to left right) = IsTwo room to left right
IsWithin room (BitOr to left right) = IsTwo room to left right
IsWithin room (BitXor to left right) = IsTwo room to left right
IsWithin room (BitAnd to left right) = IsTwo room to left right
IsWithin room (Add to left right) = IsTwo room to left right
IsWithin room (Sub to left right) = IsTwo room to left right
IsWithin room (Mul to left right) = IsTwo room to left right
IsWithin room (FloorDiv to left right) = IsTwo room to left right
IsWithin room (Mod to left right) = IsTwo room to left right
IsWithin room (Min to left right) = IsTwo room to left right
IsWithin room (Max to left right) = IsTwo room to left right
IsWithin room (Element dims to connector first) = IsFree room to × (connector < room.inputs) × IsIndex room first dims × (1 ≤ dims)
IsWithin room (Inside dims connector first) = (connector < room.connectors) × IsIndex room first dims
IsWithin room (Keep dims connector first value) = IsIndex room first dims × (value < room.registers)
IsWithin room (Skip count) = ⊤
IsWithin room (SkipIfZero value count) = value < room.registers
IsWithin room (SkipUnlessZero value count) = value < room.registers
IsWithin room (SkipUnlessLess left right count) = (left < room.registers) × (right < room.registers)
IsWithin room (SkipUnlessLessEqual left right count) = (left < room.registers) × (right < room.registers)
IsWithin room (SkipUnlessEqual left right count) = (left < room.registers) × (right < room.registers)
IsWithin room (SkipUnlessDiffer left right count) = (left < room.registers) × (right < room.registers)

-- how many effects instructions keep at most
abbrev pub kept_by : Op → ℕ
kept_by (Keep dims connector first value) = 1
kept_by op = 0

abbrev pub most_kept : List Op → ℕ
most_kept [] = 0
most_kept (op ∷ ops) = kept_by op + most_kept ops
