-- Levels of variables: what the range of a variable, or its begin and its end, name is of a lower level.
use Rattle.std.specs.Prelude.{⊤, ◌⊎◌, ℕ, ◌<◌, List, length, Option, Some, None}
use Rattle.std.specs.List.{AllByRecursion}
use Rattle.sd_graph.specs.PlainTree.{ValueTree, literal, variable, local, input, one, two, choice, GuardTree, StateTrees, no_state, and_state}
use Rattle.sd_validity.specs.rules.Compared.{Comparison, compared}
use Rattle.sd_validity.specs.rules.Ranks.{Naming}

-- each variable that a naming names has a lower level than the naming's own
abbrev pub IsLower : (level : ℕ → ℕ) → Naming → Type 0
IsLower level naming = AllByRecursion (λ other. level other < level naming.variable) naming.named

-- or it is one of the size symbols, which are the first variables
abbrev pub IsSizeOrLower : (symbols : ℕ) → (level : ℕ → ℕ) → (own other : ℕ) → Type 0
IsSizeOrLower symbols level own other = (other < symbols) ⊎ (level other < level own)

abbrev pub IsLowerBesideSizes : (symbols : ℕ) → (level : ℕ → ℕ) → Naming → Type 0
IsLowerBesideSizes symbols level naming = AllByRecursion (IsSizeOrLower symbols level naming.variable) naming.named

-- an affine value has its variables among those of the code
abbrev pub IsPlaced : (variables : List ℕ) → ValueTree → Type 0
IsPlaced variables (literal number) = ⊤
IsPlaced variables (variable place) = place < length variables
IsPlaced variables (local number) = ⊤
IsPlaced variables (input connector at) = ⊤
IsPlaced variables (one sign of) = IsPlaced variables of
IsPlaced variables (two sign left right) = IsPlaced variables left × IsPlaced variables right
IsPlaced variables (choice value when other) = ⊤

-- and so has what a condition compares a variable with
abbrev pub IsEndPlaced : (variables : List ℕ) → Option Comparison → Type 0
IsEndPlaced variables None = ⊤
IsEndPlaced variables (Some comparison) = IsPlaced variables comparison.bound

abbrev pub IsConditionPlaced : Option GuardTree → Type 0
IsConditionPlaced None = ⊤
IsConditionPlaced (Some guard) = IsEndPlaced guard.code.variables (compared guard.code.body)

abbrev pub AreEndsPlaced : StateTrees → Type 0
AreEndsPlaced no_state = ⊤
AreEndsPlaced (and_state items exits states) = AllByRecursion (λ exit. IsConditionPlaced exit.when) exits × AreEndsPlaced states
