use Rattle.sd_graph.specs.TreeFold.{graph_tree}
use Rattle.sd_report.proofs.stepping_lemmas.Widths.{given_widths}
use Rattle.sd_tool.proofs.workspace.prepared.Goals as goal

pub returns-clause-widths : goal.returns-clause-widths
returns-clause-widths c = given_widths (graph_tree c.in_ok-bound.bound.graph) c.in_ok-given.given.arrays c.in_ok-memory.memory c.in_ok-memory.ensures.ok
