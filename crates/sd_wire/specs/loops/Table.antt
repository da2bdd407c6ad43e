-- Which states lead to one by so many transitions, as a table that is raised.
use Rattle.std.specs.Prelude.{ℕ, suc, nat_eq, List, [], ◌∷◌, Bool, not, ◌&&◌, ◌||◌, slice_index_or}
use Rattle.std.specs.List.{list_any}
use Rattle.sd_graph.specs.PlainTree.{ExitTree, StateTrees, no_state, and_state}

-- a state leads to one, by a table; a state beyond it to itself alone
abbrev pub looked : (table : List Bool) → (to from : ℕ) → Bool
looked table to from = slice_index_or table from (nat_eq from to)

-- a state is the one, or one of its transitions leads to it, by a table
abbrev pub leads_on : (table : List Bool) → (avoided to from : ℕ) → List ExitTree → Bool
leads_on table avoided to from exits = nat_eq from to || list_any (λ exit. not (nat_eq exit.to avoided) && looked table to exit.to) exits

-- the table for one transition more, from this state on
abbrev pub raised : (table : List Bool) → (avoided to from : ℕ) → StateTrees → List Bool
raised table avoided to from no_state = []
raised table avoided to from (and_state items exits states) = leads_on table avoided to from exits ∷ raised table avoided to (suc from) states
