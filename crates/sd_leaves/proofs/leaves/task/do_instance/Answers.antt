use Rattle.std.proofs.Common.{◌≡◌, List, map, sym, ap, ◌∙◌, subst}
use Rattle.std.proofs.lemmas.Simd.{map-map}
use Rattle.sd_work.specs.Leaf.{Pending}
use Rattle.sd_graph.specs.TreeFold.{graph_tree, tasklet_tree}
use Rattle.sd_graph.specs.Unfold.{pending_of}
use Rattle.sd_tasklet.specs.tasklet.Given.{given, told_inputs}
use Rattle.sd_tasklet.specs.tasklet.Kept.{told, told_effects}
use Rattle.sd_tasklet.proofs.tasklet_lemmas.Told.{told_again}
use Rattle.sd_scope.specs.scope.Standing.{context_of}
use Rattle.sd_leaves.specs.leaves.Done.{IsDone, performing, instance_work}
use Rattle.sd_leaves.specs.leaves.Given.{given_at, told_by, pending_told}
use Rattle.sd_leaves.proofs.leaves_lemmas.Instances.{reading_fails, evaluation_fails, evaluation_goes}
use Rattle.sd_leaves.proofs.leaves_lemmas.Lists.{on_ok}
use Rattle.sd_leaves.proofs.leaves.task.do_instance.Goals as goal

pub returns-in_default : goal.returns-in_default
returns-in_default c =
    reading_fails (context_of (graph_tree c.args.graph.now) c.args.base.now c.args.scope.now) (tasklet_tree c.args.code.now) c.args.ins.now c.args.outs.now c.args.machine.now
    (sym c.in_ok-read.ensures ∙ c.in_default.is)

pub returns-in-Ok : goal.returns-in-Ok
returns-in-Ok c =
    let tree = graph_tree c.args.graph.now in
    let context = context_of tree c.args.base.now c.args.scope.now in
    let now = c.args.machine.now in
    let after = c.perform_all.new.machine in
    let code = tasklet_tree c.args.code.now in
    let ins = c.args.ins.now in
    let outs = c.args.outs.now in
    let inputs = given c.in_ok-inputs.inputs in
    let meant = given_at context code ins outs c.in-Some.read in
    let same_told : told_inputs inputs ≡ told_inputs meant = ap told_inputs (c.in_ok-inputs.ensures tree c.args.base.now) ∙ told_again meant in
    let means = c.in_ok-effects.ensures meant same_told ∙ ap (told_by (told_effects inputs)) c.in-Ok.is in
    let same = ap (map (pending_told context inputs ins outs)) c.as_slice.ensures ∙ sym (map-map (pending_of context ins outs) (told inputs) c.in-Ok.effects.list) in
    on_ok (λ fault. IsDone (performing (map (pending_told context inputs ins outs) c.as_slice.result.now)) now fault after) (λ fault. IsDone (instance_work context code ins outs) now fault after)
    c.perform_all.result
    (λ fault done. evaluation_goes context code ins outs now c.in-Some.read (sym c.in_ok-read.ensures ∙ c.in-Some.is) (told_effects inputs c.in-Ok.effects) fault after means
    (subst (λ (todo : List Pending). IsDone (performing todo) now fault after) same done))
    c.perform_all.ensures

pub returns : goal.returns
returns c =
    let tree = graph_tree c.args.graph.now in
    let context = context_of tree c.args.base.now c.args.scope.now in
    let code = tasklet_tree c.args.code.now in
    let inputs = given c.in_ok-inputs.inputs in
    let meant = given_at context code c.args.ins.now c.args.outs.now c.in-Some.read in
    let same_told : told_inputs inputs ≡ told_inputs meant = ap told_inputs (c.in_ok-inputs.ensures tree c.args.base.now) ∙ told_again meant in
    let means = c.in_ok-effects.ensures meant same_told ∙ ap (told_by (told_effects inputs)) c.in-Err.is in
    evaluation_fails context code c.args.ins.now c.args.outs.now c.args.machine.now c.in-Some.read (sym c.in_ok-read.ensures ∙ c.in-Some.is) c.in-Err.kind means
