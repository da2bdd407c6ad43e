use Rattle.std.proofs.Common.{Some, ap, sym, ◌∙◌, refl}
use Rattle.sd_rows.proofs.rows_lemmas.Tracks.{on_track}
use Rattle.sd_rows.proofs.rows.moving.track_at.Goals as goal

pub returns : goal.returns
returns c steps values context link along first last k within =
    on_track steps c.args.gaps (context 0) (context c.args.gaps) values context (record { along = along; first = refl; last = refl }) link
    c.cell-begin.result c.cell-end.result (ap Some c.cell-begin.ensures ∙ sym first) (ap Some c.cell-end.ensures ∙ sym last)
    c.in_ok-elements.elements c.in_ok-elements.ensures k within
