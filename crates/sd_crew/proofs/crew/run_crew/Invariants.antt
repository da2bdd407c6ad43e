use Rattle.sd_graph.specs.TreeFold.{graph_tree}
use Rattle.sd_crew.specs.Going.{Stands}
use Rattle.sd_crew.proofs.crew.run_crew.Given as goal

-- the run stands at a state
abbrev pub invariant-loop : goal.invariant-loop
invariant-loop g l = record {
  goes_on : (goal.iterator-loop g).can_next l.iterator' × (goal.iterator-loop g).is_finite l.iterator';
  stands : Stands (graph_tree l.bound.graph) l.memory l.turns l.stand.state l.stand.values.items l.stand.memory l.stand.turns;
}
