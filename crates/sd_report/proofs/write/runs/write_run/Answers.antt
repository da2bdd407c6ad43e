use Rattle.std.proofs.Common.{[], ◌++◌, refl, ap, sym, append-nil}
use Rattle.std.proofs.lemmas.Result.{err_from_is_err_and, IfErr-weaker}
use Rattle.sd_io.specs.Sink.{AppendsPrefix}
use Rattle.sd_graph.specs.TreeFold.{graph_tree}
use Rattle.sd_seq.specs.RunEnd.{outcome_of}
use Rattle.sd_report.specs.write.RunText.{steps_told, steps_text, end_text}
use Rattle.sd_report.proofs.write_lemmas.SinkLemmas.{Appends-nothing, AppendsPrefix-later}
use Rattle.sd_report.proofs.write.runs.write_run.Goals as goal

pub returns-in_err-write_steps-clause-err : goal.returns-in_err-write_steps-clause-err
returns-in_err-write_steps-clause-err g c =
    let p = err_from_is_err_and c.from_residual.result c.from_residual.ensures.1 in
    let old = g.K.Sink.taken c.args.out.now in
    let steps = steps_text (steps_told c.args.steps.now) in
    let end = end_text (graph_tree c.args.bound.now.graph) c.args.turns (outcome_of c.args.end.now) in
    rw p.1 (AppendsPrefix-later old old _ (steps ++ end) [] steps end refl (Appends-nothing old) c.in_err-write_steps.ensures.err)

pub returns-clause-err : goal.returns-clause-err
returns-clause-err g c =
    let old = g.K.Sink.taken c.args.out.now in
    let between = g.K.Sink.taken c.write_steps.new.out in
    let new = g.K.Sink.taken c.write_end.new.out in
    let steps = steps_text (steps_told c.args.steps.now) in
    let end = end_text (graph_tree c.args.bound.now.graph) c.args.turns (outcome_of c.args.end.now) in
    IfErr-weaker c.write_end.result (λ _. AppendsPrefix between new end) (λ _. AppendsPrefix old new (steps ++ end))
    (λ _ prefix. AppendsPrefix-later old between new (steps ++ end) steps end [] (ap (λ text. steps ++ text) (sym (append-nil end))) c.in_ok-write_steps.ensures.ok prefix)
    c.write_end.ensures.err
