use Rattle.std.proofs.Common.{◌≡◌, ◌-◌, ◌∷◌, [], slice_get, length, Option, Some, subst}
use Rattle.sd_work.specs.declared.fault.FaultKind.{FaultKind}
use Rattle.sd_work.specs.Leaf.{Pending}
use Rattle.sd_graph.specs.TreeFold.{graph_tree}
use Rattle.sd_graph.specs.TaskletMeaning.{Inputs, extents_of_connector}
use Rattle.sd_graph.specs.Unfold.{pending_through}
use Rattle.sd_tasklet.specs.tasklet.Given.{given}
use Rattle.sd_tasklet.specs.tasklet.Kept.{told}
use Rattle.sd_scope.specs.scope.Standing.{context_of}
use Rattle.sd_leaves.specs.leaves.Done.{IsDone, performing}
use Rattle.sd_leaves.specs.leaves.Given.{pending_told}
use Rattle.sd_leaves.proofs.leaves_lemmas.EffectSteps.{through_link}
use Rattle.sd_leaves.proofs.leaves_lemmas.Lists.{member_there, on_ok}
use Rattle.sd_leaves.proofs.leaves.effects.perform.Goals as goal

pub returns : goal.returns
returns c =
    let context = context_of (graph_tree c.args.graph.now) c.args.base.now c.args.scope.now in
    let inputs = given c.args.inputs.now in
    let effect = c.args.effect in
    let link = c.in-Some.link.now in
    let number = effect.connector - length c.args.ins.now in
    let there : slice_get c.args.outs.now number ≡ Some link = member_there c.args.outs.now number link c.in-Some.ensures.lookup.3.0 (c.in-Some.ensures.lookup.3.1 link) in
    let same = through_link context inputs c.args.ins.now c.args.outs.now effect link c.if-connector-ins.false there in
    let ends : Pending → Option FaultKind → Type 0 = λ todo fault. IsDone (performing (todo ∷ [])) c.args.machine.now fault c.perform_effect.new.machine in
    on_ok (λ fault. (inputs : Inputs) → c.dimensions_of-dimensions.result ≡ length (extents_of_connector inputs effect.connector) → ends (pending_through context link (told inputs effect)) fault) (ends (pending_told context inputs c.args.ins.now c.args.outs.now effect)) c.perform_effect.result
    (λ fault done. subst (λ (todo : Pending). ends todo fault) same (done inputs c.dimensions_of-dimensions.ensures)) c.perform_effect.ensures
