-- Numbered conditions of a rewrite, and the lowest one that fails.
use Rattle.std.specs.Prelude.{◌≡◌, ℕ, List, [], ◌∷◌, Option, Some, None, Bool, true, false, ◌&&◌, if◌then◌else◌, ⊤}
use Rattle.sd_graph.specs.PlainTree.{KindTree, GraphTree}
use Rattle.sd_validity.specs.rules.Failing.{Rule, first_failing}
use Rattle.sd_validity.specs.rules.Transitions.{rule_3}
use Rattle.sd_validity.specs.rules.WithinLimits.{rule_7}
use Rattle.sd_mapx.specs.Paths.{place_of}
use Rattle.sd_mapx.specs.Found.{Found, found_at}
use Rattle.sd_mapx.specs.declared.refused.Refused.{Refused}
use Rattle.sd_mapx.specs.declared.refused.Refused.TheVariants.{Condition, Memory}

-- the lowest condition that fails; they stand in order, each with its number
abbrev pub lowest_failing : List (ℕ × Bool) → Option ℕ
lowest_failing [] = None
lowest_failing (condition ∷ conditions) = if condition.1 then lowest_failing conditions else Some condition.0

-- the item to which a path leads
abbrev pub found_by : GraphTree → Option (List ℕ) → Option Found
found_by tree None = None
found_by tree (Some place) = found_at tree place

abbrev pub item_of : GraphTree → (path : List ℕ) → Option Found
item_of tree path = found_by tree (place_of tree path)

-- there is one, of which this holds
abbrev pub is_found : (KindTree → Bool) → Option Found → Bool
is_found test None = false
is_found test (Some found) = test found.kind

-- no place is told
abbrev pub is_no_place : Option (List ℕ) → Bool
is_no_place None = true
is_no_place (Some path) = false

-- a rule of valid graphs holds
abbrev pub is_kept : Rule → GraphTree → Bool
is_kept rule tree = is_no_place (first_failing rule tree)

-- the last condition of each rewrite: its result meets the rules of transitions and of limits
abbrev pub meets_limits : GraphTree → Bool
meets_limits tree = is_kept rule_3 tree && is_kept rule_7 tree

-- what is told of a rewrite that is refused; want of memory may be told of any
abbrev pub Tells : (failing : Option ℕ) → Refused → Type 0
Tells failing (Condition number) = failing ≡ Some number
Tells failing Memory = ⊤
