use Rattle.std.proofs.Common.{get_or, arith}
use Rattle.std.proofs.lemmas.List.{get_or_default}
use Rattle.sd_row.specs.row.Block.{IsApart}
use Rattle.sd_row.proofs.row_lemmas.Filled.{all_behind, all_none}
use Rattle.sd_row.proofs.row_lemmas.Registers.{no_track}
use Rattle.sd_row.proofs.row.block.are_apart.Goals as goal

pub loop-read-preserved : goal.loop-read-preserved
loop-read-preserved c =
    all_behind (IsApart c.args.writes.now) c.args.reads.now c.loop-read.read-index (get_or c.args.reads.now c.loop-read.read-index no_track) c.loop-read-test.true
    (get_or_default c.args.reads.now c.loop-read.read-index no_track _ c.loop-read-test.true) (c.is_apart.ensures c.if-not-is_apart.false) c.loop-read.invariant

pub returns : goal.returns
returns c done = all_none (IsApart c.args.writes.now) c.args.reads.now c.loop-read.read-index (omega arith) c.loop-read.invariant
