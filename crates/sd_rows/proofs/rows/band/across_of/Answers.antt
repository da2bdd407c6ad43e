use Rattle.std.proofs.Common.{◌≡◌, rules}
use Rattle.sd_range.specs.Range.{range_values, counted_from}
use Rattle.sd_rows.proofs.rows_lemmas.Bands.{across_is}
use Rattle.sd_rows.proofs.rows.band.across_of.Goals as goal

pub returns : goal.returns
returns c =
    let across = c.in-Some-2.across in
    let last = c.in-Some.last.now in
    let values = c.args.env.now.values in
    let same : across.variable ≡ last.0 = search rules in
    let taken : range_values values last.1 ≡ counted_from across.first across.step across.count = search rules in
    across_is c.args.outer.now _ last values across c.args.steps.now c.in-Some.ensures.cases.0 same taken c.if-across-steps.false
