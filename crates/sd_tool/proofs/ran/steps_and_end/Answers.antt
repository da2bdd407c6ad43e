use Rattle.sd_graph.specs.TreeFold.{graph_tree}
use Rattle.sd_validity.proofs.rules_lemmas.UpwardsLemmas.{leads_upwards}
use Rattle.sd_tool.proofs.ran.steps_and_end.Goals as goal

pub step_rewritten-requires-clause-upwards : goal.step_rewritten-requires-clause-upwards
step_rewritten-requires-clause-upwards c = leads_upwards (graph_tree c.args.source.now.graph) c.requires.runs.source_valid.transitions
