use Rattle.std.proofs.Common.{◌∙◌}
use Rattle.sd_row.specs.row.Block.{column_value}
use Rattle.sd_row.proofs.row_lemmas.Blocks.{points_on}
use Rattle.sd_row.proofs.row.writing.write_each.Goals as goal

pub loop-run-preserved : goal.loop-run-preserved
loop-run-preserved c = record {
  memories = points_on (column_value c.args.first c.args.columns.now) c.args.writes.now c.args.from c.loop-run.run c.args.machine.now.memories c.loop-run.machine.memories c.write_run.new.machine.memories
      c.loop-run.invariant.memories c.write_run.ensures.memories;
  turns = c.write_run.ensures.turns ∙ c.loop-run.invariant.turns;
}
