use Rattle.std.proofs.Common.{◌≡◌, drop}
use Rattle.std.specs.List.{list_all}
use Rattle.sd_graph.specs.TreeFold.{graph_tree}
use Rattle.sd_validity.specs.rules.NamesInForce as names
use Rattle.sd_rules.proofs.names.are_there.Given as goal

-- those left are there where all are
abbrev pub invariant-loop-variable : goal.invariant-loop-variable
invariant-loop-variable l = list_all (names.is_there (graph_tree l.graph)) (drop l.variable-index l.variables) ≡ list_all (names.is_there (graph_tree l.graph)) l.variables
