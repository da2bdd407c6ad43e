-- Whether a graph has a loop at all, and where loops begin.
use Rattle.std.specs.Prelude.{ℕ, nat_eq, List, [], ◌++◌, map, Bool, false, ◌&&◌, ◌||◌, if◌then◌else◌}
use Rattle.std.specs.List.{list_any, flat_map}
use Rattle.sd_graph.specs.PlainTree.{ExitTree, StateTrees, no_state, and_state}

-- a transition of one of the states is marked
abbrev pub is_any_marked : StateTrees → Bool
is_any_marked no_state = false
is_any_marked (and_state items exits states) = list_any (λ exit. exit.back) exits || is_any_marked states

-- the transition is marked and leads to this state
abbrev pub returns_to : (begin : ℕ) → ExitTree → Bool
returns_to begin exit = exit.back && nat_eq exit.to begin

-- a marked transition of one of the states leads to this state
abbrev pub is_begin : (begin : ℕ) → StateTrees → Bool
is_begin begin no_state = false
is_begin begin (and_state items exits states) = list_any (returns_to begin) exits || is_begin begin states

-- the variables that a transition sets, where it is marked and leads to this state
abbrev pub variables_set : (begin : ℕ) → ExitTree → List ℕ
variables_set begin exit = if returns_to begin exit then map (λ assignment. assignment.0) exit.set else []

-- those of all transitions
abbrev pub closing_variables : (begin : ℕ) → StateTrees → List ℕ
closing_variables begin no_state = []
closing_variables begin (and_state items exits states) = flat_map (variables_set begin) exits ++ closing_variables begin states
