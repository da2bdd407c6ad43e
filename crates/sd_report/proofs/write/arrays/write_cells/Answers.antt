use Rattle.std.proofs.Common.{◌≡◌, List, [], ◌∷◌, ◌++◌, length, refl, ap, sym, ◌∙◌, subst, append_assoc, append-nil, arith, rules}
use Rattle.std.proofs.lemmas.Result.{err_from_is_err_and}
use Rattle.sd_json.specs.AnswerText.{cells_text}
use Rattle.sd_report.specs.write.Pieces.{AppendsAllBut}
use Rattle.sd_report.proofs.write_lemmas.SinkLemmas.{AppendsPrefix-later}
use Rattle.sd_report.proofs.write_lemmas.Parts.{part_of_line, part_written}
use Rattle.sd_report.proofs.write.arrays.write_cells.Goals as goal

nothing : {A : Type 0} (cells : List A) → length cells ≡ 0 → cells ≡ []
nothing [] none = refl
nothing (first ∷ others) none = absurd (omega (arith, none))

pub returns-in_err-line-clause-err : goal.returns-in_err-line-clause-err
returns-in_err-line-clause-err g c =
    let p = err_from_is_err_and c.from_residual.result c.from_residual.ensures.1 in
    let written = c.loop-rest.invariant.written in
    let part = c.split_at.result.0.now in
    let others = c.split_at.result.1.now in
    rw p.1
    (AppendsPrefix-later _ _ _ _ written.2.0 (c.loop-rest.line.items ++ cells_text g.T.Cell.element part) (cells_text g.T.Cell.element others)
    (part_of_line g.T.Cell.element c.args.line.items written.2.0 c.loop-rest.line.items c.args.cells.now written.0 c.loop-rest.rest.now part others written.1 c.split_at.ensures.by_index.0 written.2.1)
    written.2.2
    c.in_err-line.ensures.err)

pub loop-rest-preserved : goal.loop-rest-preserved
loop-rest-preserved g c =
    let written = c.loop-rest.invariant.written in
    let part = c.split_at.result.0.now in
    let others = c.split_at.result.1.now in
    record {
      written = (
        written.0 ++ part,
        written.1 ∙ ap (λ rest. written.0 ++ rest) c.split_at.ensures.by_index.0 ∙ sym (append_assoc written.0 part others),
        part_written g.T.Cell.element (g.K.Sink.taken c.args.out.now) (g.K.Sink.taken c.loop-rest.out) (g.K.Sink.taken c.write_part.new.out) c.args.line.items c.loop-rest.line.items _ written.0 part written.2 c.in_ok-line.ensures.ok,
      );
      faults = omega (arith, c.loop-rest.invariant.faults, c.in_ok-line.ensures.faults_never_fall);
    }

pub returns-clause-ok : goal.returns-clause-ok
returns-clause-ok g c =
    let written = c.loop-rest.invariant.written in
    let empty : length c.loop-rest.rest.now ≡ 0 = search rules in
    let all : written.0 ≡ c.args.cells.now = sym (written.1 ∙ ap (λ rest. written.0 ++ rest) (nothing c.loop-rest.rest.now empty) ∙ append-nil written.0) in
    subst (λ (cells : List g.row.T.Denot). AppendsAllBut (g.K.Sink.taken c.args.out.now) (g.K.Sink.taken c.loop-rest.out) (c.args.line.items ++ cells_text g.T.Cell.element cells) c.loop-rest.line.items) all written.2
