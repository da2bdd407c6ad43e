use Rattle.std.proofs.Common.{◌≡◌, ◌++◌, sym, ◌∙◌, subst, rules}
use Rattle.std.proofs.lemmas.Result.{IfOk-weaker, IfErr-weaker}
use Rattle.sd_io.specs.Sink.{AppendsPrefix}
use Rattle.sd_json.specs.AnswerText.{cells_text}
use Rattle.sd_report.specs.write.Pieces.{AppendsAllBut}
use Rattle.sd_report.proofs.write_lemmas.SinkLemmas.{Appends-nothing, AppendsPrefix-none}
use Rattle.sd_report.proofs.write.arrays.write_part.Goals as goal

pub returns-in_default-clause-err : goal.returns-in_default-clause-err
returns-in_default-clause-err g c = AppendsPrefix-none _ _ _ (Appends-nothing _)

pub returns-then-is_err-clause-err : goal.returns-then-is_err-clause-err
returns-then-is_err-clause-err g c = AppendsPrefix-none _ _ _ (Appends-nothing _)

pub returns-clause-ok : goal.returns-clause-ok
returns-clause-ok g c =
    let old = g.K.Sink.taken c.args.out.now in
    let new = g.K.Sink.taken c.write_pieces.new.out in
    let line = c.extend_from_slice.new.self.items in
    let whole = c.args.line.items ++ cells_text g.T.Cell.element c.args.part.now in
    let same : line ≡ whole = search rules in
    IfOk-weaker c.write_pieces.result (λ rest. AppendsAllBut old new line rest.items) (λ rest. AppendsAllBut old new whole rest.items)
    (λ rest but. (but.0, sym same ∙ but.1, but.2)) c.write_pieces.ensures.ok

pub returns-clause-err : goal.returns-clause-err
returns-clause-err g c =
    let old = g.K.Sink.taken c.args.out.now in
    let new = g.K.Sink.taken c.write_pieces.new.out in
    let line = c.extend_from_slice.new.self.items in
    let whole = c.args.line.items ++ cells_text g.T.Cell.element c.args.part.now in
    let same : line ≡ whole = search rules in
    IfErr-weaker c.write_pieces.result (λ _. AppendsPrefix old new line) (λ _. AppendsPrefix old new whole)
    (λ _ prefix. subst (AppendsPrefix old new) same prefix) c.write_pieces.ensures.err
