use Rattle.std.proofs.Common.{ap, ◌∙◌, replicate}
use Rattle.sd_work.specs.Change.{take}
use Rattle.sd_cut.specs.Elements.{all_changed}
use Rattle.sd_cut.proofs.Undoing.{takes_next}
use Rattle.sd_cut.proofs.committing.take_all.Goals as goal

pub loop-number-preserved : goal.loop-number-preserved
loop-number-preserved c =
    takes_next c.loop-number.memory c.take_oldest.new.memory c.args.streams.now c.index-streams-number.result c.loop-number.number c.loop-number-test.true c.index-streams-number.is
    (c.take_oldest.ensures ∙ ap (λ n. all_changed (replicate n (take 0 c.loop-number.number 0)) c.loop-number.memory) c.count_taken.ensures)
    ∙ c.loop-number.invariant
