use Rattle.std.proofs.Common.{◌≡◌, true, arith, rules}
use Rattle.sd_row.proofs.row_lemmas.Filled.{all_behind, all_none}
use Rattle.sd_rows.specs.rows.Still.{is_still}
use Rattle.sd_rows.proofs.rows.still.are_still.Goals as goal

pub loop-link-preserved : goal.loop-link-preserved
loop-link-preserved c = all_behind (λ link. is_still c.args.variable link.memlet.subset.dims ≡ true) c.args.links.now c.loop-link.link-index c.link-item.result c.loop-link-test.true c.link-item.is (search rules) c.loop-link.invariant

pub returns : goal.returns
returns c done = all_none (λ link. is_still c.args.variable link.memlet.subset.dims ≡ true) c.args.links.now c.loop-link.link-index (omega arith) c.loop-link.invariant
