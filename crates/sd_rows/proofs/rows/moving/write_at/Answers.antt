use Rattle.sd_row.specs.row.Row.{reference_on}
use Rattle.sd_rows.proofs.rows_lemmas.RowBetween.{pending_between}
use Rattle.sd_rows.proofs.rows.moving.write_at.Goals as goal

pub returns-clause-at : goal.returns-clause-at
returns-clause-at c steps values context ins outs connector value along begins ends k within =
    let near = c.args.near.now in
    let far = c.args.far.now in
    pending_between (context 0) (context c.args.gaps) (context k) connector (value connector) (value near.connector) (value far.connector) near.by far.by
    (reference_on near.to c.args.row) (reference_on far.to c.args.row) (reference_on c.in_ok-to.to k) (along.containers c.args.gaps) (along.containers k)
    (λ link low high. c.in_ok-to.ensures steps values context link along low high k within) ins outs begins ends
