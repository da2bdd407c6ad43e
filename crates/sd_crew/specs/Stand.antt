-- A run of a graph from the begin of a state on.
use Rattle.std.specs.Prelude.{ℕ, List, []}
use Rattle.sd_work.specs.Memory.{Memory}
use Rattle.sd_work.specs.Exit.{Values, Exit}
use Rattle.sd_work.specs.Residual.{Term, nested}
use Rattle.sd_graph.specs.PlainTree.{GraphTree}
use Rattle.sd_graph.specs.TreeParts.{containers_of}
use Rattle.sd_graph.specs.Context.{own_reach}
use Rattle.sd_graph.specs.declared.place.Place.{Place}
use Rattle.sd_mem.specs.machine.Coming.{state_term, exits_of}

-- a run that stands at the begin of a state, over this memory
abbrev pub run_at : {P : Type 0} → (ℕ → Values → Term P) → (ℕ → Values → List (Exit P)) → (state : ℕ) → Values → Memory → Term P
run_at body exits state values own = nested body exits own state values (body state values)

-- so it is of a whole graph
abbrev pub run_from : GraphTree → (state : ℕ) → Values → Memory → Term Place
run_from tree state values own =
    run_at (state_term tree (own_reach (containers_of tree)) []) (exits_of tree (own_reach (containers_of tree)) []) state values own
