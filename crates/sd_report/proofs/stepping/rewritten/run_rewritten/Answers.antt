use Rattle.std.proofs.Common.{IfOk, sym, subst}
use Rattle.std.proofs.lemmas.Result.{IfOk-weaker}
use Rattle.sd_mem.specs.mem.Shaped.{Shaped}
use Rattle.sd_work.specs.Step.{Done}
use Rattle.sd_work.specs.Run.{Sequential}
use Rattle.sd_graph.specs.TreeFold.{graph_tree}
use Rattle.sd_graph.specs.Unfold.{run_of}
use Rattle.sd_seq.specs.RunEnd.{outcome_of}
use Rattle.sd_report.specs.stepping.Step.{IsToldEnd}
use Rattle.sd_report.proofs.stepping_lemmas.Ends.{sequential_end}
use Rattle.sd_report.proofs.stepping_lemmas.Rewritten.{source_done}
use Rattle.sd_report.proofs.stepping.rewritten.run_rewritten.Goals as goal

pub returns-then-is_done : goal.returns-then-is_done
returns-then-is_done c =
    let tree = graph_tree c.args.source.now.graph in
    let other = graph_tree c.args.rewritten.now.graph in
    let memory = c.args.memory.contents in
    let done = c.is_done.ensures c.if-is_done.true in
    let ends : Sequential (run_of other memory) c.args.turns (Done done.0) = subst (Sequential (run_of other memory) c.args.turns) done.1 c.in_ok-end.ensures in
    record {
      told = subst (IsToldEnd (run_of tree memory) c.args.turns) (sym done.1) (source_done tree other memory c.args.turns done.0 c.requires.alike ends);
      same = λ runs. subst (Sequential (run_of tree memory) c.args.turns) (sym done.1) ((runs memory c.args.turns done.0).1 ends);
    }

pub returns : goal.returns
returns c =
    let tree = graph_tree c.args.source.now.graph in
    let opening = c.in_ok-opening.opening.contents in
    record {
      told = subst (λ (m : Shaped). IfOk c.run_seq-2.result (λ end. IsToldEnd (run_of tree m.contents) c.args.turns (outcome_of end))) c.in_ok-opening.ensures
          (IfOk-weaker c.run_seq-2.result _ _ (λ end ends. sequential_end (run_of tree opening) c.args.turns (outcome_of end) ends) c.run_seq-2.ensures);
      same = λ runs. subst (λ (m : Shaped). IfOk c.run_seq-2.result (λ end. Sequential (run_of tree m.contents) c.args.turns (outcome_of end))) c.in_ok-opening.ensures c.run_seq-2.ensures;
    }
