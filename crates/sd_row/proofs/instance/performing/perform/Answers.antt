use Rattle.std.proofs.Common.{◌≡◌, ◌-◌, ◌≤◌, ◌∷◌, [], List, length, slice_get, Option, Some, ap, sym, ◌∙◌, subst, rules, arith}
use Rattle.sd_work.specs.declared.fault.FaultKind.{FaultKind}
use Rattle.sd_work.specs.Leaf.{Pending}
use Rattle.sd_graph.specs.TreeFold.{graph_tree}
use Rattle.sd_graph.specs.TaskletMeaning.{Inputs, extents_of_connector}
use Rattle.sd_graph.specs.Context.{Context, link_extents}
use Rattle.sd_graph.specs.Unfold.{pending_through}
use Rattle.sd_graph.specs.declared.link.Link.{Link}
use Rattle.sd_tasklet.specs.tasklet.Kept.{told}
use Rattle.sd_scope.specs.scope.Standing.{context_of}
use Rattle.sd_leaves.specs.leaves.Done.{IsDone, performing}
use Rattle.sd_leaves.specs.leaves.Given.{pending_told}
use Rattle.sd_leaves.proofs.leaves_lemmas.EffectSteps.{through_link}
use Rattle.sd_leaves.proofs.leaves_lemmas.Lists.{member_there, on_ok}
use Rattle.sd_row.specs.instance.Known.{IsTarget, AreTargets}
use Rattle.sd_row.proofs.instance_lemmas.Targets.{extents_there, target_there}
use Rattle.sd_row.proofs.instance.performing.perform.Goals as goal

pub returns : goal.returns
returns c =
    let standing = context_of (graph_tree c.args.graph.now) c.args.base.now c.args.scope.now in
    let effect = c.args.effect.now in
    let outs = c.args.outs.now in
    let link = c.in-Some-get.link.now in
    let found = c.in-Some.number in
    let lower : c.args.inputs ≤ effect.connector = search rules in
    let found_is : found ≡ effect.connector - c.args.inputs = search rules in
    let there : slice_get outs found ≡ Some link = member_there outs found link c.in-Some-get.ensures.lookup.3.0 (c.in-Some-get.ensures.lookup.3.1 link) in
    let ends : Pending → Option FaultKind → Type 0 = λ todo fault. IsDone (performing (todo ∷ [])) c.args.machine.now fault c.perform_to.new.machine in
    on_ok (λ fault. (here : Context) (inputs : Inputs) → IsTarget c.args.k here standing link c.target_of-target.result → extents_of_connector inputs effect.connector ≡ link_extents here link → ends (pending_through here link (told inputs effect)) fault)
    (λ fault. (here : Context) (ins : List Link) (given : Inputs) → AreTargets c.args.inputs ins outs given c.args.targets.now c.args.k here standing → ends (pending_told here given ins outs effect) fault) c.perform_to.result
    (λ fault done context ins given are.
    let output : length ins ≤ effect.connector = omega (arith, are.inputs, lower) in
    let same : found ≡ effect.connector - length ins = found_is ∙ ap (λ count. effect.connector - count) (sym are.inputs) in
    let here : slice_get outs (effect.connector - length ins) ≡ Some link = ap (slice_get outs) (sym same) ∙ there in
    subst (λ (todo : Pending). ends todo fault) (through_link context given ins outs effect link output here)
    (done context given (target_there c.args.inputs ins outs given c.args.targets.now c.args.k context standing are found link c.target_of-target.result there c.target_of-target.ensures)
    (extents_there c.args.inputs ins outs given c.args.targets.now c.args.k context standing are effect.connector link output here))) c.perform_to.ensures
