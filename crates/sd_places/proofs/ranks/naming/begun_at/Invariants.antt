use Rattle.std.proofs.Common.{◌≡◌, ◌++◌, drop}
use Rattle.sd_graph.specs.TreeFold.{state_trees}
use Rattle.sd_validity.specs.rules.Ranks as ranks
use Rattle.sd_places.proofs.ranks.naming.begun_at.Given as goal

-- those so far, with those of the states that are left, are all
abbrev pub invariant-loop-from : goal.invariant-loop-from
invariant-loop-from l = l.begun.items ++ ranks.begun_at (state_trees (drop l.from-index l.states)) l.state ≡ ranks.begun_at (state_trees l.states) l.state
