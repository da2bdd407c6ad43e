use Rattle.std.proofs.Common.{◌++◌, ap, ◌∙◌, sym, append_assoc, arith, ◌<◌, length, rules}
use Rattle.std.proofs.lemmas.Result.{err_from_is_err_and}
use Rattle.sd_report.proofs.write_lemmas.SinkLemmas.{Appends-trans, AppendsPrefix-error, AppendsPrefix-later}
use Rattle.sd_report.proofs.write.output.write_bytes.Goals as goal

pub loop-rest-smaller : goal.loop-rest-smaller
loop-rest-smaller g c =
    let some : 0 < length c.loop-rest.rest.now = search rules in
    omega (arith, c.min.ensures, c.split_at.ensures.front_len, c.split_at.ensures.back_len)

pub returns-in_err-write-clause-err : goal.returns-in_err-write-clause-err
returns-in_err-write-clause-err g c =
    let p = err_from_is_err_and c.from_residual.result c.from_residual.ensures.1 in
    let front = c.loop-rest.invariant.written.0 in
    rw p.1
    (AppendsPrefix-later _ _ _ _ front c.split_at.result.0.now c.split_at.result.1.now
    (c.loop-rest.invariant.written.1 ∙ ap (λ rest. front ++ rest) c.split_at.ensures.by_index.0)
    c.loop-rest.invariant.written.2
    (AppendsPrefix-error c.in_err-write.field-0.0 _ _ _ c.in_err-write.ensures.prefix c.in_err-write.ensures.memory))

pub loop-rest-preserved : goal.loop-rest-preserved
loop-rest-preserved g c =
    let front = c.loop-rest.invariant.written.0 in
    record {
      written = (
        front ++ c.split_at.result.0.now,
        c.loop-rest.invariant.written.1
            ∙ ap (λ rest. front ++ rest) c.split_at.ensures.by_index.0
            ∙ sym (append_assoc front c.split_at.result.0.now c.split_at.result.1.now),
        Appends-trans _ _ _ _ _ c.loop-rest.invariant.written.2 c.in_ok-write.ensures.ok,
      );
      faults = omega (arith, c.loop-rest.invariant.faults, c.in_ok-write.ensures.faults_never_fall);
    }
