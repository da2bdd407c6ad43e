use Rattle.std.proofs.Common.{[], pos, get_or}
use Rattle.std.proofs.lemmas.List.{get_or_default}
use Rattle.sd_graph.specs.TreeFold.{graph_tree}
use Rattle.sd_tasklet.specs.tasklet.Given.{given}
use Rattle.sd_tasklet.specs.declared.tasklet.effect.Effect.{Effect}
use Rattle.sd_scope.specs.scope.Standing.{context_of}
use Rattle.sd_leaves.specs.leaves.Given.{pending_told}
use Rattle.sd_leaves.proofs.leaves_lemmas.Doing.{member_done, member_fails}
use Rattle.sd_leaves.proofs.leaves.effects.perform_all.Goals as goal

pub loop-effect-preserved : goal.loop-effect-preserved
loop-effect-preserved c =
    let thing = pending_told (context_of (graph_tree c.args.graph.now) c.args.base.now c.args.scope.now) (given c.args.inputs.now) c.args.ins.now c.args.outs.now in
    let none : Effect = record { connector = 0; at = []; value = pos 0 } in
    let number = c.loop-effect.effect-index in
    member_done thing c.args.effects.now c.args.machine.now c.loop-effect.machine c.perform.new.machine number (get_or c.args.effects.now number none) c.loop-effect-test.true
    (get_or_default c.args.effects.now number none (get_or c.args.effects.now number none) c.loop-effect-test.true)
    c.loop-effect.invariant c.in_ok-perform.field-0 c.in_ok-perform.ensures c.in-None.is

pub returns-in-Some : goal.returns-in-Some
returns-in-Some c =
    let thing = pending_told (context_of (graph_tree c.args.graph.now) c.args.base.now c.args.scope.now) (given c.args.inputs.now) c.args.ins.now c.args.outs.now in
    let none : Effect = record { connector = 0; at = []; value = pos 0 } in
    let number = c.loop-effect.effect-index in
    member_fails thing c.args.effects.now c.args.machine.now c.loop-effect.machine c.perform.new.machine number (get_or c.args.effects.now number none) c.loop-effect-test.true
    (get_or_default c.args.effects.now number none (get_or c.args.effects.now number none) c.loop-effect-test.true)
    c.loop-effect.invariant c.in_ok-perform.field-0 c.in_ok-perform.ensures c.in-Some.kind c.in-Some.is
