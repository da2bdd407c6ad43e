use Rattle.std.proofs.Common.{◌∙◌, arith}
use Rattle.sd_cut.proofs.Undoing.{all_back_next}
use Rattle.sd_cut.proofs.committing.take_all_back.Goals as goal

pub loop-before-preserved : goal.loop-before-preserved
loop-before-preserved c = record {
  within = omega (arith, c.loop-before.invariant.within);
  same =
      all_back_next c.loop-before.before c.count_pushed-pushed.result c.args.left.now c.loop-before.memory c.take_back.new.memory c.args.streams.now c.index-streams-before.result c.loop-before-test.true
      (omega (arith, c.loop-before.invariant.within, c.requires.within)) c.index-streams-before.is c.count_pushed-pushed.ensures.count c.take_back.ensures
      ∙ c.loop-before.invariant.same;
}
