use Rattle.std.proofs.Common.{[], pos, get_or}
use Rattle.std.proofs.lemmas.List.{get_or_default}
use Rattle.sd_tasklet.specs.declared.tasklet.effect.Effect.{Effect}
use Rattle.sd_leaves.specs.leaves.Given.{pending_told}
use Rattle.sd_leaves.proofs.leaves_lemmas.Doing.{member_done, member_fails, members_done}
use Rattle.sd_row.proofs.instance.performing.perform_all.Goals as goal

pub loop-effect-preserved : goal.loop-effect-preserved
loop-effect-preserved c here ins given are =
    let thing = pending_told here given ins c.args.outs.now in
    let none : Effect = record { connector = 0; at = []; value = pos 0 } in
    let number = c.loop-effect.effect-index in
    member_done thing c.args.effects.now c.args.machine.now c.loop-effect.machine c.perform.new.machine number (get_or c.args.effects.now number none) c.loop-effect-test.true
    (get_or_default c.args.effects.now number none (get_or c.args.effects.now number none) c.loop-effect-test.true)
    (c.loop-effect.invariant here ins given are) c.in_ok-perform.field-0 (c.in_ok-perform.ensures here ins given are) c.in-None.is

pub returns-in-Some : goal.returns-in-Some
returns-in-Some c here ins given are =
    let thing = pending_told here given ins c.args.outs.now in
    let none : Effect = record { connector = 0; at = []; value = pos 0 } in
    let number = c.loop-effect.effect-index in
    member_fails thing c.args.effects.now c.args.machine.now c.loop-effect.machine c.perform.new.machine number (get_or c.args.effects.now number none) c.loop-effect-test.true
    (get_or_default c.args.effects.now number none (get_or c.args.effects.now number none) c.loop-effect-test.true)
    (c.loop-effect.invariant here ins given are) c.in_ok-perform.field-0 (c.in_ok-perform.ensures here ins given are) c.in-Some.kind c.in-Some.is

pub returns : goal.returns
returns c here ins given are =
    members_done (pending_told here given ins c.args.outs.now) c.args.effects.now c.args.machine.now c.loop-effect.machine
    c.loop-effect.effect-index c.loop-effect-test.false (c.loop-effect.invariant here ins given are)
