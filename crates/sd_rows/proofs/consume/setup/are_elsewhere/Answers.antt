use Rattle.std.proofs.Common.{◌≡◌, arith}
use Rattle.sd_row.proofs.row_lemmas.Filled.{all_behind, all_none}
use Rattle.sd_rows.proofs.consume.setup.are_elsewhere.Goals as goal

pub loop-link-preserved : goal.loop-link-preserved
loop-link-preserved c =
    all_behind (λ link. (link.memlet.container ≡ c.args.element) → ⊥) c.args.outs.now c.loop-link.link-index c.link-item.result c.loop-link-test.true c.link-item.is c.if-link-element.false c.loop-link.invariant

pub returns : goal.returns
returns c done = all_none (λ link. (link.memlet.container ≡ c.args.element) → ⊥) c.args.outs.now c.loop-link.link-index (omega arith) c.loop-link.invariant
