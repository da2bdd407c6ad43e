use Rattle.std.proofs.Common.{sym, subst}
use Rattle.std.proofs.lemmas.Result.{IfOk-weaker}
use Rattle.sd_work.specs.Run.{Run}
use Rattle.sd_graph.specs.TreeFold.{graph_tree}
use Rattle.sd_graph.specs.Unfold.{run_of}
use Rattle.sd_seq.specs.RunEnd.{outcome_of}
use Rattle.sd_report.specs.stepping.Step.{IsToldEnd}
use Rattle.sd_report.proofs.stepping_lemmas.Ends.{sequential_end}
use Rattle.sd_report.proofs.stepping_lemmas.Rewritten as lemmas
use Rattle.sd_report.proofs.stepping.rewritten.source_end.Goals as goal

pub returns-then-is_done : goal.returns-then-is_done
returns-then-is_done c = λ picks run.
    let tree = graph_tree c.args.source.now.graph in
    let other = graph_tree c.args.rewritten.now.graph in
    let memory = c.args.opening.contents in
    let done = c.is_done.ensures c.if-is_done.true in
    subst (IsToldEnd (run_of tree memory) c.args.turns) (sym done.1)
    (lemmas.source_end tree other memory c.args.turns picks done.0 c.requires.alike c.requires.valid c.show_normal_forms.ensures c.requires.accepted (subst (Run (run_of other memory) c.args.turns picks) done.1 run))

pub returns : goal.returns
returns c = λ picks run. IfOk-weaker c.run_seq.result _ _ (λ end ends. sequential_end (run_of (graph_tree c.args.source.now.graph) c.args.opening.contents) c.args.turns (outcome_of end) ends) c.run_seq.ensures
