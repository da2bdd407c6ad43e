use Rattle.std.proofs.Common.{rules}
use Rattle.std.proofs.lemmas.Result.{IfOk-weaker}
use Rattle.sd_graph.specs.TreeFold.{graph_tree}
use Rattle.sd_graph.specs.Unfold.{run_of}
use Rattle.sd_validity.specs.rules.Valid.{IsValid}
use Rattle.sd_validity.proofs.rules_lemmas.UpwardsLemmas.{leads_upwards}
use Rattle.sd_seq.specs.RunEnd.{outcome_of}
use Rattle.sd_report.proofs.stepping_lemmas.Ends.{sequential_end}
use Rattle.sd_tool.proofs.ran.end_of.Goals as goal

pub run_seq-requires : goal.run_seq-requires
run_seq-requires g c = record { upwards = leads_upwards (graph_tree c.args.source.now.graph) c.requires.runs.source_valid.transitions }

pub run_by_workers-requires-clause-upwards : goal.run_by_workers-requires-clause-upwards
run_by_workers-requires-clause-upwards g c κs within = leads_upwards (graph_tree c.args.source.now.graph) c.requires.runs.source_valid.transitions

pub run_rewritten-requires-clause-upwards : goal.run_rewritten-requires-clause-upwards
run_rewritten-requires-clause-upwards g c = leads_upwards (graph_tree c.args.source.now.graph) c.requires.runs.source_valid.transitions

pub run_rewritten-requires-clause-rewritten_upwards : goal.run_rewritten-requires-clause-rewritten_upwards
run_rewritten-requires-clause-rewritten_upwards g c =
    let valid : IsValid (graph_tree c.in-Some.rewritten.graph) = search rules in
    leads_upwards (graph_tree c.in-Some.rewritten.graph) valid.transitions

pub run_by_workers-requires-in-Some-2-clause-upwards : goal.run_by_workers-requires-in-Some-2-clause-upwards
run_by_workers-requires-in-Some-2-clause-upwards g c κs within = leads_upwards (graph_tree c.args.source.now.graph) c.requires.runs.source_valid.transitions

pub returns-in-None : goal.returns-in-None
returns-in-None g c =
    IfOk-weaker c.run_seq.result _ _ (λ end ends. sequential_end (run_of (graph_tree c.args.source.now.graph) c.args.memory.contents) c.args.asked.turns (outcome_of end) ends) c.run_seq.ensures
