use Rattle.std.proofs.Common.{◌≡◌, ◌+◌, ◌<◌, length, arith, rules, sym, ◌∙◌}
use Rattle.sd_rows.proofs.rows_lemmas.Bands.{row_in_band}
use Rattle.sd_rows.proofs.rows.band.Band.go_on.Goals as goal

pub returns-clause-tracks : goal.returns-clause-tracks
returns-clause-tracks c done code band =
    let before = c.args.self.now in
    let steps = c.args.steps.now in
    let gaps = c.in-Some.gaps in
    let known = c.in_ok-is_next.ensures.known c.if-not-branch.false in
    let some : 0 < before.rows = omega (arith, known) in
    let count : steps.count ≡ gaps + 1 = search rules in
    let many : length c.args.row.now ≡ length c.args.outer.now = search rules in
    row_in_band c.args.task.now c.args.outer.now steps c.requires.steps c.args.row.now before.others.items before.across gaps before.next before.rows code before.near before.far c.move_row.new.row
    c.requires.scalars many (c.in_ok-is_next.ensures.row c.if-not-branch.false) known count (band.near some) (band.far some gaps count)
    (c.move_row.ensures.order done) (c.move_row.ensures.reads done) (c.move_row.ensures.variables done)
    (λ values context tree ins outs named. c.move_row.ensures.at done values context tree ins outs (named ∙ sym c.as_slice-variables.ensures.value))
