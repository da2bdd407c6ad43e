use Rattle.std.proofs.Common.{ℕ, ◌<◌, List, ap, sym, subst, arith}
use Rattle.std.specs.List.{flat_map, range_with_len}
use Rattle.std.proofs.lemmas.Result.{err_from_is_err_and}
use Rattle.sd_io.specs.Sink.{Appends}
use Rattle.sd_graph.specs.TreeFold.{graph_tree}
use Rattle.sd_graph.specs.InPlace.{arguments_of}
use Rattle.sd_graph.proofs.TreeLemmas.{graph_opened}
use Rattle.sd_json.specs.AnswerText.{container_line}
use Rattle.sd_report.proofs.write_lemmas.LineSplit.{more_lines, lines_cut}
use Rattle.sd_report.proofs.write_lemmas.SinkLemmas.{Appends-trans, AppendsPrefix-later}
use Rattle.sd_report.proofs.write.arrays.write_arrays.Goals as goal

pub returns-in_err-write_array-clause-err : goal.returns-in_err-write_array-clause-err
returns-in_err-write_array-clause-err g c =
    let p = err_from_is_err_and c.from_residual.result c.from_residual.ensures.1 in
    let line : ℕ → List ℕ = container_line (graph_tree c.args.bound.now.graph) c.args.memory.now in
    let front = flat_map line (range_with_len 0 c.loop-argument.argument) in
    let parts = lines_cut line (arguments_of (graph_tree c.args.bound.now.graph)) c.loop-argument.argument
    (subst (λ (count : ℕ). c.loop-argument.argument < count) (sym (ap arguments_of (graph_opened c.args.bound.now.graph))) c.loop-argument-test.true) in
    rw p.1
    (AppendsPrefix-later _ _ _ _ front (line c.loop-argument.argument) parts.0 parts.1
    c.loop-argument.invariant.written
    c.in_err-write_array.ensures.err)

pub loop-argument-preserved : goal.loop-argument-preserved
loop-argument-preserved g c =
    let line : ℕ → List ℕ = container_line (graph_tree c.args.bound.now.graph) c.args.memory.now in
    record {
      written =
          subst (Appends _ _) (more_lines line c.loop-argument.argument)
          (Appends-trans _ _ _ _ _ c.loop-argument.invariant.written c.in_ok-write_array.ensures.ok);
      faults = omega (arith, c.loop-argument.invariant.faults, c.in_ok-write_array.ensures.faults_never_fall);
    }
