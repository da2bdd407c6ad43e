use Rattle.std.proofs.Common.{◌≡◌, get_or, sym, ◌∙◌, arith}
use Rattle.std.proofs.lemmas.List.{get_or_default}
use Rattle.sd_row.proofs.row_lemmas.Filled.{all_behind, all_none}
use Rattle.sd_row.proofs.row_lemmas.Blocks.{elsewhere}
use Rattle.sd_row.proofs.row_lemmas.Registers.{no_write}
use Rattle.sd_row.proofs.row.block.is_apart.Goals as goal

pub loop-write-preserved : goal.loop-write-preserved
loop-write-preserved c =
    all_behind (λ write. (c.args.read.now.station ≡ write.to.station) → ⊥) c.args.writes.now c.loop-write.write-index (get_or c.args.writes.now c.loop-write.write-index no_write) c.loop-write-test.true
    (get_or_default c.args.writes.now c.loop-write.write-index no_write _ c.loop-write-test.true)
    (elsewhere c.args.read.now.station (get_or c.args.writes.now c.loop-write.write-index no_write).to.station (sym c.eq.ensures ∙ c.if-eq.false)) c.loop-write.invariant

pub returns : goal.returns
returns c done = all_none (λ write. (c.args.read.now.station ≡ write.to.station) → ⊥) c.args.writes.now c.loop-write.write-index (omega arith) c.loop-write.invariant
