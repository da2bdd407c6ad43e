use Rattle.sd_row.proofs.instance_lemmas.Matched.{found_so}
use Rattle.sd_row.proofs.instance_lemmas.Resting.{zip_next, zip_whole}
use Rattle.sd_rows.specs.tasks.Runners.{IsRunnerOf}
use Rattle.sd_rows.proofs.tasks.runners.runners_of.Goals as goal

pub loop-item-preserved : goal.loop-item-preserved
loop-item-preserved c =
    zip_next IsRunnerOf c.args.items.now c.loop-item.runners.items c.push.new.self.items c.loop-item.item-index c.item-item.result _
    c.loop-item-test.true c.item-item.is c.loop-item.invariant (found_so _ c.in_ok-runner.field-0 c.in-Some.runner c.in-Some.is c.in_ok-runner.ensures) c.in_ok-push.ensures.items

pub returns : goal.returns
returns c = zip_whole IsRunnerOf c.args.items.now c.loop-item.runners.items c.loop-item.item-index c.loop-item-test.false c.loop-item.invariant
