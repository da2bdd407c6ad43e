-- Code that is an affine expression over variables, and the condition that a variable is below one.
use Rattle.std.specs.Prelude.{◌≡◌, ◌⊎◌, ℕ, [], slice_get, Option, Some, None, ⊤}
use Rattle.sd_graph.specs.PlainTree.{ValueTree, literal, variable, local, input, one, two, choice, no_value, assign, no_act, and_act, GuardTree}
use Rattle.sd_graph.specs.declared.operator.OneSign.{OneSign}
use Rattle.sd_graph.specs.declared.operator.OneSign.TheVariants.{Neg}
use Rattle.sd_graph.specs.declared.operator.TwoSign.{TwoSign}
use Rattle.sd_graph.specs.declared.operator.TwoSign.TheVariants.{Add, Sub, Mul, Less}

-- only numbers stand in the value
abbrev pub HasNumbersOnly : ValueTree → Type 0
HasNumbersOnly (literal number) = ⊤
HasNumbersOnly (variable place) = ⊥
HasNumbersOnly (local number) = ⊥
HasNumbersOnly (input connector at) = ⊥
HasNumbersOnly (one sign of) = HasNumbersOnly of
HasNumbersOnly (two sign left right) = HasNumbersOnly left × HasNumbersOnly right
HasNumbersOnly (choice value when other) = ⊥

abbrev pub IsNegation : OneSign → Type 0
IsNegation Neg = ⊤
IsNegation sign = ⊥

-- sums, differences, and products one side of which has no variable
abbrev pub IsAffineJoin : TwoSign → (left right : ValueTree) → Type 0
IsAffineJoin Add left right = ⊤
IsAffineJoin Sub left right = ⊤
IsAffineJoin Mul left right = HasNumbersOnly left ⊎ HasNumbersOnly right
IsAffineJoin sign left right = ⊥

abbrev pub IsAffineValue : ValueTree → Type 0
IsAffineValue (literal number) = ⊤
IsAffineValue (variable place) = ⊤
IsAffineValue (local number) = ⊥
IsAffineValue (input connector at) = ⊥
IsAffineValue (one sign of) = IsNegation sign × IsAffineValue of
IsAffineValue (two sign left right) = IsAffineJoin sign left right × (IsAffineValue left × IsAffineValue right)
IsAffineValue (choice value when other) = ⊥

-- The condition reads nothing, and says that the variable is below an affine expression.
pub record IsBelow (number : ℕ) (guard : GuardTree) : Type 0 where
  pub bound : ValueTree
  pub place : ℕ
  pub affine : IsAffineValue bound
  pub reads : guard.reads ≡ []
  pub code : guard.code.body ≡ and_act (assign 0 no_value (two Less (variable place) bound)) no_act
  pub variable : slice_get guard.code.variables place ≡ Some number

-- there is a condition, and it is this one
abbrev pub IsConditionBelow : (number : ℕ) → Option GuardTree → Type 0
IsConditionBelow number None = ⊥
IsConditionBelow number (Some guard) = IsBelow number guard
