-- The instructions of a tasklet.
use Rattle.std.specs.Prelude.{◌≡◌, Option, Some, None, ℕ, zero, suc, ◌+◌, pos, List, [], ◌∷◌, ◌++◌, length, Bool, true, false, not, ◌&&◌, if◌then◌else◌}
use Rattle.sd_graph.specs.PlainTree.{ValueTree, literal, variable, local, input, one, two, choice, ValueTrees, no_value, and_value, ActTree, set_local, assign, branch, ActTrees, no_act, and_act, TaskletTree}
use Rattle.sd_graph.specs.declared.operator.OneSign.{OneSign}
use Rattle.sd_graph.specs.declared.operator.OneSign.TheVariants as before
use Rattle.sd_graph.specs.declared.operator.TwoSign.{TwoSign}
use Rattle.sd_graph.specs.declared.operator.TwoSign.TheVariants as between
use Rattle.sd_tcode.specs.tcode.Named.{count_of}
use Rattle.sd_tcode.specs.declared.tcode.layout.Layout.{Layout}
use Rattle.sd_tcode.specs.declared.op.op.Op.{Op}
use Rattle.sd_tcode.specs.declared.op.op.Op.TheVariants.{Number, Copy, Not, Neg, Inv, Or, And, Less, LessEqual, Greater, GreaterEqual, Equal, Differ, BitOr, BitXor, BitAnd, Add, Sub, Mul, FloorDiv, Mod, Min, Max, Element, Inside, Keep, Skip, SkipIfZero, SkipUnlessZero, SkipUnlessLess, SkipUnlessLessEqual, SkipUnlessEqual, SkipUnlessDiffer}

-- The registers in their order: the input connectors, the variables, the output connectors, the locals, and then what is computed on the way.
-- An input connector has the register of its own number.
abbrev pub variable_register : Layout → (place : ℕ) → ℕ
variable_register layout place = layout.inputs + place

abbrev pub output_register : Layout → (connector : ℕ) → ℕ
output_register layout connector = layout.variables + connector

abbrev pub local_register : Layout → (number : ℕ) → ℕ
local_register layout number = layout.variables + layout.connectors + number

abbrev pub free_register : Layout → ℕ
free_register layout = layout.variables + layout.connectors + layout.locals

-- a sign before a register
abbrev pub one_op : OneSign → (to of : ℕ) → Op
one_op before.Not = Not
one_op before.Neg = Neg
one_op before.Inv = Inv

-- a sign between two registers
abbrev pub two_op : TwoSign → (to left right : ℕ) → Op
two_op between.Or = Or
two_op between.And = And
two_op between.Less = Less
two_op between.LessEqual = LessEqual
two_op between.Greater = Greater
two_op between.GreaterEqual = GreaterEqual
two_op between.Equal = Equal
two_op between.Differ = Differ
two_op between.BitOr = BitOr
two_op between.BitXor = BitXor
two_op between.BitAnd = BitAnd
two_op between.Add = Add
two_op between.Sub = Sub
two_op between.Mul = Mul
two_op between.FloorDiv = FloorDiv
two_op between.Mod = Mod
two_op between.Min = Min
two_op between.Max = Max

-- the first value may decide alone
abbrev pub is_lazy : TwoSign → Bool
is_lazy between.Or = true
is_lazy between.And = true
is_lazy sign = false

-- an index without numbers is that of a scalar
abbrev pub is_scalar : ValueTrees → Bool
is_scalar no_value = true
is_scalar (and_value first rest) = false

-- the value stands in a register of its own already
abbrev pub is_ready : ValueTree → Bool
is_ready (variable place) = true
is_ready (local number) = true
is_ready (input connector at) = is_scalar at
is_ready value = false

-- the register in which a value stands, its own or the free one
abbrev pub operand_register : Layout → (free : ℕ) → ValueTree → ℕ
operand_register layout free (variable place) = variable_register layout place
operand_register layout free (local number) = local_register layout number
operand_register layout free (input connector at) = if is_scalar at then connector else free
operand_register layout free value = free

-- the register in which a value stands already, if it does
abbrev pub IsReadyAt : Layout → ValueTree → Option ℕ → Type 0
IsReadyAt layout value None = is_ready value ≡ false
IsReadyAt layout value (Some register) = (is_ready value ≡ true) × ((free : ℕ) → register ≡ operand_register layout free value)

-- what is computed only where the value is not ready
abbrev pub unless_ready : ValueTree → List Op → List Op
unless_ready value ops = if is_ready value then [] else ops

-- a jump by a register, where the register holds or where it does not
abbrev pub test_op : (skips : Bool) → (value count : ℕ) → Op
test_op true = SkipUnlessZero
test_op false = SkipIfZero

-- the first instructions, or the second where a test jumps, which is told how many it passes
abbrev pub either_code : (test : ℕ → Op) → (first second : List Op) → List Op
either_code test first second = test (length first + 1) ∷ (first ++ Skip (length second) ∷ second)

-- the test of a sign that is lazy jumps where the first value decides: `or` where it holds, `and` where it does not
abbrev pub jumps_where : TwoSign → Bool
jumps_where between.Or = true
jumps_where sign = false

-- a sign between a register and a second value: its code is jumped over where the first value decides alone, unless it is ready
abbrev pub second_code : TwoSign → (left to right : ℕ) → ValueTree → (jumped straight : List Op) → List Op
second_code sign left to right value jumped straight =
    if is_lazy sign && not (is_ready value)
    then either_code (test_op (jumps_where sign) left) jumped (Copy to left ∷ [])
    else unless_ready value straight ++ two_op sign to left right ∷ []

-- the sign compares two values
abbrev pub is_comparison : TwoSign → Bool
is_comparison between.Less = true
is_comparison between.LessEqual = true
is_comparison between.Greater = true
is_comparison between.GreaterEqual = true
is_comparison between.Equal = true
is_comparison between.Differ = true
is_comparison sign = false

-- the jump unless a sign between two registers holds: a comparison is made by the jump, and what another sign makes stands in a register
abbrev pub unless_op : TwoSign → (left right value count : ℕ) → Op
unless_op between.Less left right value = SkipUnlessLess left right
unless_op between.LessEqual left right value = SkipUnlessLessEqual left right
unless_op between.Greater left right value = SkipUnlessLess right left
unless_op between.GreaterEqual left right value = SkipUnlessLessEqual right left
unless_op between.Equal left right value = SkipUnlessEqual left right
unless_op between.Differ left right value = SkipUnlessDiffer left right
unless_op sign left right value = SkipIfZero value

-- the jump unless a condition holds
abbrev pub condition_op : Layout → (free : ℕ) → ValueTree → (count : ℕ) → Op
condition_op layout free (two sign left right) = unless_op sign (operand_register layout free left) (operand_register layout (free + 1) right) free
condition_op layout free when = SkipIfZero (operand_register layout free when)

-- an element by its index, and a scalar by its register
abbrev pub input_code : (to connector first : ℕ) → ValueTrees → List Op → List Op
input_code to connector first at subscripts =
    if is_scalar at then Copy to connector ∷ [] else subscripts ++ Element (count_of at) to connector first ∷ []

abbrev mutual
  -- a value in the register `to`; those from `free` on may be used on the way
  pub value_code : Layout → (to free : ℕ) → ValueTree → List Op
  value_code layout to free (literal value) = Number to value ∷ []
  value_code layout to free (variable place) = Copy to (variable_register layout place) ∷ []
  value_code layout to free (local number) = Copy to (local_register layout number) ∷ []
  value_code layout to free (input connector at) = input_code to connector free at (values_code layout free at)
  value_code layout to free (one sign of) =
      unless_ready of (value_code layout free (free + 1) of) ++ one_op sign to (operand_register layout free of) ∷ []
  value_code layout to free (two sign left right) =
      unless_ready left (value_code layout free (free + 1) left)
      ++ second_code sign (operand_register layout free left) to (operand_register layout (free + 1) right) right
      (value_code layout to (free + 1) right) (value_code layout (free + 1) (free + 1 + 1) right)
  value_code layout to free (choice value when other) =
      condition_code layout free when (value_code layout free (free + 1) when)
      ++ either_code (condition_op layout free when) (value_code layout to free value) (value_code layout to free other)

  -- what is computed before the jump of a condition: both sides of a comparison, or else its value
  pub condition_code : Layout → (free : ℕ) → ValueTree → (straight : List Op) → List Op
  condition_code layout free (two sign left right) straight =
      if is_comparison sign
      then unless_ready left (value_code layout free (free + 1) left) ++ unless_ready right (value_code layout (free + 1) (free + 1 + 1) right)
      else straight
  condition_code layout free when straight = unless_ready when straight

  -- values in the free registers, one after another
  pub values_code : Layout → (free : ℕ) → ValueTrees → List Op
  values_code layout free no_value = []
  values_code layout free (and_value first rest) = value_code layout free (free + 1) first ++ values_code layout (free + 1) rest

-- an index is checked; a scalar has none
abbrev pub inside_code : (connector first : ℕ) → ValueTrees → List Op
inside_code connector first at = if is_scalar at then [] else Inside (count_of at) connector first ∷ []

-- an effect is kept, unless the code is plain
abbrev pub keep_code : (plain : Bool) → Layout → (connector first : ℕ) → ValueTrees → List Op
keep_code true layout connector first at = []
keep_code false layout connector first at = Keep (count_of at) connector first (output_register layout connector) ∷ []

abbrev mutual
  -- a statement
  pub act_code : (plain : Bool) → Layout → ActTree → List Op
  act_code plain layout (set_local number value) = value_code layout (local_register layout number) (free_register layout) value
  act_code plain layout (assign connector at value) =
      values_code layout (free_register layout) at
      ++ (inside_code connector (free_register layout) at
      ++ (value_code layout (output_register layout connector) (free_register layout + count_of at) value
      ++ keep_code plain layout connector (free_register layout) at))
  act_code plain layout (branch when body other) =
      condition_code layout (free_register layout) when (value_code layout (free_register layout) (free_register layout + 1) when)
      ++ either_code (condition_op layout (free_register layout) when) (acts_code plain layout body) (acts_code plain layout other)

  pub acts_code : (plain : Bool) → Layout → ActTrees → List Op
  acts_code plain layout no_act = []
  acts_code plain layout (and_act first rest) = act_code plain layout first ++ acts_code plain layout rest

-- the locals begin at 0
abbrev pub locals_code : (first count : ℕ) → List Op
locals_code first zero = []
locals_code first (suc count) = Number first (pos 0) ∷ locals_code (first + 1) count

-- where the registers of the code of a tasklet begin
abbrev pub layout_of : TaskletTree → Layout
layout_of code = record { inputs = length code.ins; variables = length code.variables; connectors = length code.ins + length code.outs; locals = code.locals }

-- the instructions of a tasklet
abbrev pub tasklet_code : (plain : Bool) → TaskletTree → List Op
tasklet_code plain code = locals_code (local_register (layout_of code) 0) code.locals ++ acts_code plain (layout_of code) code.body
