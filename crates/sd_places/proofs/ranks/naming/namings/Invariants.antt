use Rattle.std.proofs.Common.{◌≡◌, ◌++◌, drop}
use Rattle.sd_graph.specs.TreeFold.{state_trees}
use Rattle.sd_validity.specs.rules.Ranks as ranks
use Rattle.sd_places.proofs.ranks.naming.namings.Given as goal

-- those so far, with those of the states that are left, are all
abbrev pub invariant-loop-state : goal.invariant-loop-state
invariant-loop-state l = record {
  all : l.all.items ++ ranks.namings_from (state_trees l.states) l.number (state_trees (drop l.number l.states)) ≡ ranks.namings (state_trees l.states);
  number : l.number ≡ l.state-index;
}
