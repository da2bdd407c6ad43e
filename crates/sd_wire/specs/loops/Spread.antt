-- Which states one leads to, as a table that grows.
use Rattle.std.specs.Prelude.{ℕ, suc, nat_eq, List, [], ◌∷◌, Bool, true, false, if◌then◌else◌, slice_index_or, slice_set}
use Rattle.sd_graph.specs.PlainTree.{ExitTree, StateTrees, no_state, and_state}

-- a table with the states to which transitions lead, the one that is avoided aside
abbrev pub with_next : (avoided : ℕ) → List ExitTree → (table : List Bool) → List Bool
with_next avoided [] table = table
with_next avoided (exit ∷ exits) table = with_next avoided exits (if nat_eq exit.to avoided then table else slice_set table exit.to true)

-- with those to which its states lead, from this state on
abbrev pub spread : (avoided from : ℕ) → StateTrees → (table : List Bool) → List Bool
spread avoided from no_state table = table
spread avoided from (and_state items exits states) table =
    spread avoided (suc from) states (if slice_index_or table from false then with_next avoided exits table else table)
