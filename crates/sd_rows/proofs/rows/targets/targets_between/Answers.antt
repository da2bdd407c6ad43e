use Rattle.std.proofs.Common.{◌≡◌, true}
use Rattle.sd_row.specs.instance.Known.{IsTarget}
use Rattle.sd_row.proofs.instance_lemmas.Matched.{found_so}
use Rattle.sd_row.proofs.instance_lemmas.Resting.{zip_next, zip_whole}
use Rattle.sd_rows.specs.rows.Map.{standing}
use Rattle.sd_rows.specs.rows.Still.{is_still}
use Rattle.sd_rows.proofs.rows_lemmas.KeptSteps.{all_member}
use Rattle.sd_rows.proofs.rows.targets.targets_between.Goals as goal

pub loop-link-preserved : goal.loop-link-preserved
loop-link-preserved c steps values context still way k within =
    let outs = c.args.outs.now in
    let number = c.loop-link.link-index in
    let link = c.link-item.result in
    let is = all_member (λ link. is_still steps.variable link.memlet.subset.dims ≡ true) outs number link still c.loop-link-test.true c.link-item.is in
    zip_next (IsTarget k (context k) (standing c.args.task.now c.args.first.now)) outs c.loop-link.targets.items c.push.new.self.items number link c.in-Some.target
    c.loop-link-test.true c.link-item.is (c.loop-link.invariant steps values context still way k within)
    (found_so _ c.in_ok-target.field-0 c.in-Some.target c.in-Some.is c.in_ok-target.ensures steps values context is way k within) c.in_ok-push.ensures.items

pub returns : goal.returns
returns c steps values context still way k within =
    zip_whole (IsTarget k (context k) (standing c.args.task.now c.args.first.now)) c.args.outs.now c.loop-link.targets.items c.loop-link.link-index c.loop-link-test.false
    (c.loop-link.invariant steps values context still way k within)
