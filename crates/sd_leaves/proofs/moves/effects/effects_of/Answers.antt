use Rattle.std.proofs.Common.{◌≡◌, map, ap, ◌∙◌}
use Rattle.sd_graph.specs.TreeFold.{graph_tree, tasklet_tree}
use Rattle.sd_tasklet.specs.tasklet.Given.{given, told_inputs}
use Rattle.sd_tasklet.specs.tasklet.Kept.{told_effects}
use Rattle.sd_tasklet.proofs.tasklet_lemmas.Told.{told_again}
use Rattle.sd_scope.specs.scope.Standing.{context_of}
use Rattle.sd_leaves.specs.leaves.Given.{given_at, pending_told, told_by}
use Rattle.sd_leaves.proofs.moves_lemmas.Evaluations.{effects-told, fault-told}
use Rattle.sd_leaves.proofs.moves.effects.effects_of.Goals as goal

pub returns-in-Ok : goal.returns-in-Ok
returns-in-Ok c =
    let tree = graph_tree c.args.graph.now in
    let context = context_of tree c.args.base.now c.args.scope.now in
    let code = tasklet_tree c.args.code.now in
    let inputs = given c.in_ok-inputs.inputs in
    let meant = given_at context code c.args.ins.now c.args.outs.now c.in_ok-read.read in
    let same_told : told_inputs inputs ≡ told_inputs meant = ap told_inputs (c.in_ok-inputs.ensures tree c.args.base.now) ∙ told_again meant in
    let means = c.in_ok-effects.ensures meant same_told ∙ ap (told_by (told_effects inputs)) c.in-Ok.is in
    let same = c.in_ok-todos-in-Ok.ensures ∙ ap (map (pending_told context inputs c.args.ins.now c.args.outs.now)) c.as_slice-list.ensures in
    effects-told context code c.args.ins.now c.args.outs.now c.args.values.now c.in_ok-read.read inputs (c.in_ok-read.ensures tree c.args.base.now)
    c.in-Ok.effects.list c.in_ok-todos-in-Ok.todos.items means same

pub returns : goal.returns
returns c =
    let tree = graph_tree c.args.graph.now in
    let context = context_of tree c.args.base.now c.args.scope.now in
    let code = tasklet_tree c.args.code.now in
    let inputs = given c.in_ok-inputs.inputs in
    let meant = given_at context code c.args.ins.now c.args.outs.now c.in_ok-read.read in
    let same_told : told_inputs inputs ≡ told_inputs meant = ap told_inputs (c.in_ok-inputs.ensures tree c.args.base.now) ∙ told_again meant in
    let means = c.in_ok-effects.ensures meant same_told ∙ ap (told_by (told_effects inputs)) c.in-Err.is in
    fault-told context code c.args.ins.now c.args.outs.now c.args.values.now c.in_ok-read.read inputs (c.in_ok-read.ensures tree c.args.base.now)
    c.in-Err.kind means
