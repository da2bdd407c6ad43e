use Rattle.std.proofs.Common.{◌-◌, ◌∙◌, ap}
use Rattle.sd_work.specs.Change.{take}
use Rattle.sd_mem.specs.mem.Shaped.{changed}
use Rattle.sd_cut.proofs.Undoing.{back_next}
use Rattle.sd_cut.proofs.committing.take_back.Goals as goal

pub loop-preserved : goal.loop-preserved
loop-preserved c =
    back_next c.args.container c.args.count c.loop.counter c.loop.memory c.take_at.new.self c.loop-test.true
    (c.take_at.ensures.taken ∙ ap (λ n. changed (take 0 c.args.container n) c.loop.memory) (c.saturating_sub.ensures ∙ ap (λ n. n - 1) c.waiting-waiting.ensures)) ∙ c.loop.invariant
