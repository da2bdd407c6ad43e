use Rattle.std.proofs.Common.{◌≡◌, [], map, Ok, Err, sym, ap, ◌∙◌}
use Rattle.sd_graph.specs.TaskletMeaning.{meaning_of}
use Rattle.sd_graph.specs.TreeFold.{graph_tree, guard_tree, tasklet_tree}
use Rattle.sd_graph.specs.Unfold.{does_hold}
use Rattle.sd_tasklet.specs.tasklet.Given.{given, told_inputs}
use Rattle.sd_tasklet.specs.tasklet.Kept.{told, told_effects}
use Rattle.sd_tasklet.proofs.tasklet_lemmas.Told.{told_again}
use Rattle.sd_scope.specs.scope.Standing.{context_of}
use Rattle.sd_leaves.specs.leaves.Given.{given_at, told_by}
use Rattle.sd_leaves.specs.leaves.Read.{links_seen}
use Rattle.sd_leaves.proofs.leaves_lemmas.Conditions.{condition_outside, condition_answers}
use Rattle.sd_leaves.proofs.leaves.exit.decided.Goals as goal

pub returns-in_default : goal.returns-in_default
returns-in_default c =
    let context = context_of (graph_tree c.args.graph.now) c.args.base.now c.args.scope.now in
    let memories = c.args.machine.now.memories in
    sym (condition_outside context (guard_tree c.args.guard.now) memories
    (ap (λ links. links_seen context links memories) (sym c.as_slice-reads.ensures) ∙ sym c.in_ok-read.ensures ∙ c.in_default.is))

pub returns-in-Ok : goal.returns-in-Ok
returns-in-Ok c =
    let tree = graph_tree c.args.graph.now in
    let context = context_of tree c.args.base.now c.args.scope.now in
    let memories = c.args.machine.now.memories in
    let code = tasklet_tree c.args.guard.now.code in
    let inputs = given c.in_ok-inputs.inputs in
    let read = c.in-Some.read in
    let seen = ap (λ links. links_seen context links memories) (sym c.as_slice-reads.ensures) ∙ sym c.in_ok-read.ensures ∙ c.in-Some.is in
    let meant = given_at context code c.as_slice-reads.result.now [] read in
    let same_told : told_inputs inputs ≡ told_inputs meant = ap told_inputs (c.in_ok-inputs.ensures tree c.args.base.now) ∙ told_again meant in
    let means = ap (λ links. meaning_of code (given_at context code links [] read)) (sym c.as_slice-reads.ensures) ∙ c.in_ok-effects.ensures meant same_told
    ∙ ap (told_by (told_effects inputs)) c.in-Ok.is in
    ap Ok (c.last_holds.ensures inputs ∙ ap (λ effects. does_hold (map (told inputs) effects)) c.as_slice.ensures)
    ∙ sym (condition_answers context (guard_tree c.args.guard.now) memories read (Ok (told_effects inputs c.in-Ok.effects)) seen means)

pub returns : goal.returns
returns c =
    let tree = graph_tree c.args.graph.now in
    let context = context_of tree c.args.base.now c.args.scope.now in
    let memories = c.args.machine.now.memories in
    let code = tasklet_tree c.args.guard.now.code in
    let inputs = given c.in_ok-inputs.inputs in
    let read = c.in-Some.read in
    let seen = ap (λ links. links_seen context links memories) (sym c.as_slice-reads.ensures) ∙ sym c.in_ok-read.ensures ∙ c.in-Some.is in
    let meant = given_at context code c.as_slice-reads.result.now [] read in
    let same_told : told_inputs inputs ≡ told_inputs meant = ap told_inputs (c.in_ok-inputs.ensures tree c.args.base.now) ∙ told_again meant in
    let means = ap (λ links. meaning_of code (given_at context code links [] read)) (sym c.as_slice-reads.ensures) ∙ c.in_ok-effects.ensures meant same_told
    ∙ ap (told_by (told_effects inputs)) c.in-Err.is in
    sym (condition_answers context (guard_tree c.args.guard.now) memories read (Err c.in-Err.kind) seen means)
