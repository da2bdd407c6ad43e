use Rattle.std.proofs.Common.{◌≡◌, ◌∷◌, [], ℤ, ℕ, take, length, min, Option, ap, ◌∙◌, subst, rules, FitsSigned, w64}
use Rattle.std.proofs.lemmas.Int.{to_z-of_z}
use Rattle.sd_work.specs.declared.fault.FaultKind.{FaultKind}
use Rattle.sd_work.specs.Leaf.{Pending}
use Rattle.sd_graph.specs.TreeFold.{graph_tree}
use Rattle.sd_graph.specs.TaskletMeaning.{Inputs, extents_of_connector}
use Rattle.sd_graph.specs.Unfold.{pending_through}
use Rattle.sd_tasklet.specs.tasklet.Kept.{told}
use Rattle.sd_scope.specs.scope.Standing.{context_of}
use Rattle.sd_leaves.specs.leaves.Done.{IsDone, performing}
use Rattle.sd_leaves.proofs.leaves_lemmas.EffectSteps.{at_place}
use Rattle.sd_leaves.proofs.leaves_lemmas.Lists.{on_ok}
use Rattle.sd_leaves.proofs.leaves.effects.perform_effect.Goals as goal

pub returns : goal.returns
returns c =
    let context = context_of (graph_tree c.args.graph.now) c.args.base.now c.args.scope.now in
    let effect = c.args.effect in
    let link = c.args.link.now in
    let index = c.widened-index.result in
    let many = c.min-count.result in
    let fits : FitsSigned w64 effect.value = search rules in
    let room : length index ≡ 4 = search rules in
    let through : ℤ → Pending = λ value. pending_through context link (record { connector = effect.connector; at = take many index; value = value }) in
    let ends : Pending → Option FaultKind → Type 0 = λ todo fault. IsDone (performing (todo ∷ [])) c.args.machine.now fault c.perform_through.new.machine in
    on_ok (λ fault. (connector : ℕ) → ends (pending_through context link (record { connector = connector; at = take many index; value = _ })) fault)
    (λ fault. (inputs : Inputs) → c.args.dimensions ≡ length (extents_of_connector inputs effect.connector) → ends (pending_through context link (told inputs effect)) fault) c.perform_through.result
    (λ fault done inputs dimensions. subst (λ (todo : Pending). ends todo fault)
    (ap through (to_z-of_z w64 effect.value fits)
    ∙ at_place context inputs effect link index 4 many c.widened-index.ensures room (c.min-count.ensures ∙ ap (λ count. min count 4) dimensions))
    (done effect.connector)) c.perform_through.ensures
