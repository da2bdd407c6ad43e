use Rattle.std.proofs.Common.{IfOk, subst}
use Rattle.std.proofs.lemmas.Result.{IfOk-weaker}
use Rattle.sd_graph.specs.TreeFold.{graph_tree}
use Rattle.sd_graph.specs.Unfold.{run_of}
use Rattle.sd_seq.specs.RunEnd.{outcome_of}
use Rattle.sd_crew.specs.Ends.{IsCrewEnd}
use Rattle.sd_report.proofs.stepping_lemmas.Ends.{sequential_end}
use Rattle.sd_report.proofs.stepping_lemmas.Rewritten.{source_crew}
use Rattle.sd_report.proofs.stepping.workers.run_by_workers.Goals as goal

pub returns-in-Ok-Done : goal.returns-in-Ok-Done
returns-in-Ok-Done g c =
    let tree = graph_tree c.args.source.now.graph in
    let other = graph_tree c.args.rewritten.now.graph in
    let turns = c.args.limits.turns in
    let ended = IsCrewEnd other c.args.memory turns in
    source_crew tree other c.args.memory c.in-Ok-Done.memory turns c.in-Ok-Done.turns c.requires.alike
    (subst ended c.in-Ok-Done.field-0-is (subst (λ result. IfOk result ended) c.in-Ok-Done.is c.run_crew.ensures))

pub returns-in-Ok-Stopped : goal.returns-in-Ok-Stopped
returns-in-Ok-Stopped g c =
    IfOk-weaker c.run_seq.result _ _ (λ end ends. sequential_end (run_of (graph_tree c.args.source.now.graph) c.args.memory.contents) c.args.limits.turns (outcome_of end) ends) c.run_seq.ensures
