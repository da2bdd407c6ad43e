use Rattle.std.proofs.Common.{sym, ◌∙◌}
use Rattle.sd_report.proofs.write_lemmas.Pieces.{piece_to, piece_all}
use Rattle.sd_report.proofs.write.output.piece_length.Goals as goal

pub returns-in-Some : goal.returns-in-Some
returns-in-Some c = piece_to c.args.text.now c.min.result c.in-Some.place c.min.ensures (sym c.in-Some.is ∙ c.newline.ensures)

pub returns-in-None : goal.returns-in-None
returns-in-None c = piece_all c.args.text.now c.min.result c.min.ensures (sym c.in-None.is ∙ c.newline.ensures)
