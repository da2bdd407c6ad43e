use Rattle.std.proofs.Common.{◌≡◌, [], ◌++◌, sym, ◌∙◌, subst}
use Rattle.std.proofs.lemmas.List.{take-append-drop}
use Rattle.std.proofs.lemmas.Result.{err_from_is_err_and}
use Rattle.sd_io.specs.Sink.{Appends, AppendsPrefix}
use Rattle.sd_report.proofs.write_lemmas.SinkLemmas.{Appends-nothing, AppendsPrefix-later, AppendsPrefix-none}
use Rattle.sd_report.proofs.write.output.write_pieces.Goals as goal

pub returns-in_default-clause-err : goal.returns-in_default-clause-err
returns-in_default-clause-err g c = AppendsPrefix-none _ _ _ (Appends-nothing _)

pub returns-in_err-write_bytes-clause-err : goal.returns-in_err-write_bytes-clause-err
returns-in_err-write_bytes-clause-err g c =
    let p = err_from_is_err_and c.from_residual.result c.from_residual.ensures.1 in
    let old = g.K.Sink.taken c.args.out.now in
    let line = c.args.line.items in
    let parts : line ≡ c.split_off.new.self.items ++ c.in-Ok.rest.items = sym (take-append-drop _ line) ∙ (λ i. sym c.in-Ok.ensures.items i ++ sym c.in-Ok.ensures.tail i) in
    rw p.1
    (AppendsPrefix-later old old _ line [] c.split_off.new.self.items c.in-Ok.rest.items parts (Appends-nothing old)
    (subst (AppendsPrefix _ _) c.as_slice.ensures.value c.in_err-write_bytes.ensures.err))

pub returns-clause-ok : goal.returns-clause-ok
returns-clause-ok g c =
    let line = c.args.line.items in (
      c.split_off.new.self.items,
      sym (take-append-drop _ line) ∙ (λ i. sym c.in-Ok.ensures.items i ++ sym c.in-Ok.ensures.tail i),
      subst (Appends _ _) c.as_slice.ensures.value c.in_ok-write_bytes.ensures.ok,
    )
