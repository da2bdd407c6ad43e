-- What instructions do.
use Rattle.std.specs.Prelude.{ℕ, zero, suc, ◌+◌, ℤ, pos, List, [], ◌∷◌, ◌++◌, Result, Ok, Err, not, int_lt, int_le, if◌then◌else◌, slice_index_or, slice_set, slice_range}
use Rattle.std.specs.Ordering.{int_eq}
use Rattle.sd_work.specs.declared.fault.FaultKind.{FaultKind}
use Rattle.sd_graph.specs.RowOrder.{row_number}
use Rattle.sd_graph.specs.TaskletMeaning.{Meaning, and_then, checked, holds, one_value, two_values}
use Rattle.sd_graph.specs.declared.operator.OneSign.TheVariants as before
use Rattle.sd_graph.specs.declared.operator.TwoSign.{TwoSign}
use Rattle.sd_graph.specs.declared.operator.TwoSign.TheVariants as between
use Rattle.sd_tasklet.specs.tasklet.Kept.{filled}
use Rattle.sd_tasklet.specs.declared.tasklet.effect.Effect.{Effect}
use Rattle.sd_tcode.specs.declared.op.op.Op.{Op}
use Rattle.sd_tcode.specs.declared.op.op.Op.TheVariants.{Number, Copy, Not, Neg, Inv, Or, And, Less, LessEqual, Greater, GreaterEqual, Equal, Differ, BitOr, BitXor, BitAnd, Add, Sub, Mul, FloorDiv, Mod, Min, Max, Element, Inside, Keep, Skip, SkipIfZero, SkipUnlessZero, SkipUnlessLess, SkipUnlessLessEqual, SkipUnlessEqual, SkipUnlessDiffer}
use Rattle.sd_tcode.specs.declared.op.array.Array.{Array}

-- the extents of a connector, and the elements of an input connector that has dimensions, in row order
pub record Held : Type 0 where
  pub extents : List ℕ
  pub cells : List ℤ

-- what an array holds
abbrev pub held : Array → Held
held array = record { extents = array.extents.items; cells = array.cells.items }

-- what instructions change: registers, and the effects that were kept so far
pub record State : Type 0 where
  pub registers : List ℤ
  pub effects : List Effect

-- a register; one that is not there counts as 0
abbrev pub register : State → ℕ → ℤ
register state number = slice_index_or state.registers number (pos 0)

-- an index that stands in registers
abbrev pub index_in : State → (first dims : ℕ) → List ℤ
index_in state first dims = slice_range state.registers first (first + dims)

-- a register gets a value
abbrev pub with_register : State → (to : ℕ) → (value : ℤ) → State
with_register state to value = record state { registers = slice_set state.registers to value }

abbrev pub with_result : State → (to : ℕ) → Meaning ℤ → Meaning State
with_result state to value = and_then value (λ value. Ok (with_register state to value))

-- one more effect
abbrev pub with_kept : State → Effect → State
with_kept state effect = record state { effects = state.effects ++ effect ∷ [] }

-- a sign between two registers
abbrev pub combined : State → TwoSign → (to left right : ℕ) → Meaning State
combined state sign to left right = with_result state to (two_values sign (register state left) (register state right))

-- the extents and the elements of a connector; one that is not there has none
abbrev pub extents_at : List Held → (connector : ℕ) → List ℕ
extents_at [] connector = []
extents_at (array ∷ arrays) zero = array.extents
extents_at (array ∷ arrays) (suc connector) = extents_at arrays connector

abbrev pub cells_at : List Held → (connector : ℕ) → List ℤ
cells_at [] connector = []
cells_at (array ∷ arrays) zero = array.cells
cells_at (array ∷ arrays) (suc connector) = cells_at arrays connector

-- the element of a connector at an index
abbrev pub cell_of : List Held → (connector : ℕ) → (at : List ℤ) → ℤ
cell_of arrays connector at = slice_index_or (cells_at arrays connector) (row_number (extents_at arrays connector) at) (pos 0)

-- the state after an instruction, or its fault
abbrev pub after_one : List Held → Op → State → Meaning State
after_one arrays (Number to value) state = with_result state to (Ok value)
after_one arrays (Copy to from) state = with_result state to (Ok (register state from))
after_one arrays (Not to of) state = with_result state to (Ok (one_value before.Not (register state of)))
after_one arrays (Neg to of) state = with_result state to (Ok (one_value before.Neg (register state of)))
after_one arrays (Inv to of) state = with_result state to (Ok (one_value before.Inv (register state of)))
after_one arrays (Or to left right) state = combined state between.Or to left right
after_one arrays (And to left right) state = combined state between.And to left right
after_one arrays (Less to left right) state = combined state between.Less to left right
after_one arrays (LessEqual to left right) state = combined state between.LessEqual to left right
after_one arrays (Greater to left right) state = combined state between.Greater to left right
after_one arrays (GreaterEqual to left right) state = combined state between.GreaterEqual to left right
after_one arrays (Equal to left right) state = combined state between.Equal to left right
after_one arrays (Differ to left right) state = combined state between.Differ to left right
after_one arrays (BitOr to left right) state = combined state between.BitOr to left right
after_one arrays (BitXor to left right) state = combined state between.BitXor to left right
after_one arrays (BitAnd to left right) state = combined state between.BitAnd to left right
after_one arrays (Add to left right) state = combined state between.Add to left right
after_one arrays (Sub to left right) state = combined state between.Sub to left right
after_one arrays (Mul to left right) state = combined state between.Mul to left right
after_one arrays (FloorDiv to left right) state = combined state between.FloorDiv to left right
after_one arrays (Mod to left right) state = combined state between.Mod to left right
after_one arrays (Min to left right) state = combined state between.Min to left right
after_one arrays (Max to left right) state = combined state between.Max to left right
after_one arrays (Element dims to connector first) state =
    with_result state to (and_then (checked (extents_at arrays connector) (index_in state first dims)) (λ at. Ok (cell_of arrays connector at)))
after_one arrays (Inside dims connector first) state =
    and_then (checked (extents_at arrays connector) (index_in state first dims)) (λ at. Ok state)
after_one arrays (Keep dims connector first value) state =
    Ok (with_kept state (record { connector = connector; at = filled (index_in state first dims); value = register state value }))
after_one arrays (Skip count) state = Ok state
after_one arrays (SkipIfZero value count) state = Ok state
after_one arrays (SkipUnlessZero value count) state = Ok state
after_one arrays (SkipUnlessLess left right count) state = Ok state
after_one arrays (SkipUnlessLessEqual left right count) state = Ok state
after_one arrays (SkipUnlessEqual left right count) state = Ok state
after_one arrays (SkipUnlessDiffer left right count) state = Ok state

-- how many instructions are passed after an instruction
abbrev pub passed : Op → State → ℕ
passed (Skip count) state = count
passed (SkipIfZero value count) state = if holds (register state value) then 0 else count
passed (SkipUnlessZero value count) state = if holds (register state value) then count else 0
passed (SkipUnlessLess left right count) state = if int_lt (register state left) (register state right) then 0 else count
passed (SkipUnlessLessEqual left right count) state = if int_le (register state left) (register state right) then 0 else count
passed (SkipUnlessEqual left right count) state = if int_eq (register state left) (register state right) then 0 else count
passed (SkipUnlessDiffer left right count) state = if not (int_eq (register state left) (register state right)) then 0 else count
passed op state = 0

-- Instructions one after another, where so many are passed first. With the state comes how many are still to be passed.
abbrev pub after_all : List Held → (pass : ℕ) → List Op → State → Meaning (State × ℕ)
after_all arrays pass [] state = Ok (state, pass)
after_all arrays (suc pass) (op ∷ ops) state = after_all arrays pass ops state
after_all arrays zero (op ∷ ops) state = and_then (after_one arrays op state) (λ next. after_all arrays (passed op state) ops next)

-- what a call that may fault comes to
abbrev pub answered : {A B : Type 0} → Result A FaultKind → (after : B) → Meaning B
answered (Ok done) after = Ok after
answered (Err kind) after = Err kind

-- the state alone
abbrev pub state_only : Meaning (State × ℕ) → Meaning State
state_only end = and_then end (λ here. Ok here.0)
