-- What is asked of two states that become one.
use Rattle.std.specs.Prelude.{ℕ, suc, nat_eq, List, [], ◌∷◌, Option, Some, None, Bool, true, false, not, ◌&&◌, ◌||◌}
use Rattle.std.specs.List.{filter, list_all}
use Rattle.sd_graph.specs.PlainTree.{ExitTree, StateTrees, no_state, and_state}
use Rattle.sd_graph.specs.TreeParts.{exits_at}
use Rattle.sd_validity.specs.rules.Parts.{is_empty}
use Rattle.sd_validity.specs.rules.Transitions.{is_unconditional}
use Rattle.sd_statex.specs.StatePaths.{TwoStates}

-- a transition without a mark, a condition or an assignment
abbrev pub is_plain : ExitTree → Bool
is_plain exit = not exit.back && (is_unconditional exit.when && is_empty exit.set)

abbrev pub is_one_plain : List ExitTree → Bool
is_one_plain [] = false
is_one_plain (exit ∷ []) = is_plain exit
is_one_plain (exit ∷ next ∷ exits) = false

abbrev pub is_one : List ExitTree → Bool
is_one [] = false
is_one (exit ∷ []) = true
is_one (exit ∷ next ∷ exits) = false

-- one transition leads from the first to the second, a plain one
abbrev pub has_plain_step : StateTrees → (first second : ℕ) → Bool
has_plain_step states first second = is_one_plain (filter (λ exit. nat_eq exit.to second) (exits_at states first))

-- no transition leads to a state
abbrev pub lead_elsewhere : (state : ℕ) → List ExitTree → Bool
lead_elsewhere state exits = list_all (λ exit. not (nat_eq exit.to state)) exits

-- of the states from this number on, none but the first leads to the second
abbrev pub is_entered_from : (first second : ℕ) → (number : ℕ) → StateTrees → Bool
is_entered_from first second number no_state = true
is_entered_from first second number (and_state items exits states) =
    (nat_eq number first || lead_elsewhere second exits) && is_entered_from first second (suc number) states

-- one transition leads out of the first, and no other state leads to the second
abbrev pub is_only_way : StateTrees → (first second : ℕ) → Bool
is_only_way states first second = is_one (exits_at states first) && is_entered_from first second 0 states

abbrev pub are_told : Option TwoStates → Bool
are_told None = false
are_told (Some two) = true

-- there are two states, of which this holds
abbrev pub are_told_with : (StateTrees → (first second : ℕ) → Bool) → Option TwoStates → Bool
are_told_with test None = false
are_told_with test (Some two) = test two.states two.first two.second
