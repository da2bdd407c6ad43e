use Rattle.std.proofs.Common.{ap}
use Rattle.sd_mem.specs.mem.Shaped.{Shaped}
use Rattle.sd_graph.specs.TreeFold.{graph_tree}
use Rattle.sd_graph.specs.Unfold.{run_of}
use Rattle.sd_seq.specs.RunEnd.{outcome_of}
use Rattle.sd_report.specs.stepping.Step.{steps_of}
use Rattle.sd_report.proofs.stepping_lemmas.Rewritten.{rewritten_step}
use Rattle.sd_report.proofs.stepping.rewritten.step_rewritten.Goals as goal

pub returns : goal.returns
returns c =
    let source = graph_tree c.args.source.now.graph in
    let rewritten = graph_tree c.args.rewritten.now.graph in
    let ran = c.in_ok-end.field-0 in
    rewritten_step (run_of source c.args.memory.contents) (run_of source c.in_ok-opening.opening.contents)
    (run_of rewritten c.args.memory.contents) (run_of rewritten c.in_ok-opening.opening.contents)
    c.args.turns c.args.picks.now c.args.traces (outcome_of ran.end) (outcome_of c.in_ok-end-2.end) (steps_of ran)
    (ap (λ (m : Shaped). run_of source m.contents) c.in_ok-opening.ensures) (ap (λ (m : Shaped). run_of rewritten m.contents) c.in_ok-opening.ensures)
    c.in_ok-end.ensures c.in_ok-end-2.ensures
