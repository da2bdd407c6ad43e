use Rattle.std.proofs.Common.{◌≡◌, ◌-◌, ℤ, ℕ, take, min, length, slice_get, Some, ap, ◌∙◌, rules, FitsSigned, w64}
use Rattle.std.proofs.lemmas.Int.{to_z-of_z}
use Rattle.sd_work.specs.Leaf.{Pending}
use Rattle.sd_graph.specs.TreeFold.{graph_tree}
use Rattle.sd_graph.specs.Unfold.{pending_through}
use Rattle.sd_tasklet.specs.tasklet.Given.{given}
use Rattle.sd_scope.specs.scope.Standing.{context_of}
use Rattle.sd_leaves.specs.leaves.Given.{pending_told}
use Rattle.sd_leaves.proofs.leaves_lemmas.EffectSteps.{at_place, through_link}
use Rattle.sd_leaves.proofs.leaves_lemmas.Lists.{member_there, on_ok}
use Rattle.sd_leaves.specs.moves.Left.{told}
use Rattle.sd_leaves.proofs.moves.effects.todo_of.Goals as goal

pub returns : goal.returns
returns c =
    let context = context_of (graph_tree c.args.graph.now) c.args.base.now c.args.scope.now in
    let inputs = given c.args.inputs.now in
    let effect = c.args.effect in
    let link = c.in-Some.link.now in
    let index = c.widened-index.result in
    let many = c.min-dimensions.result in
    let number = effect.connector - length c.args.ins.now in
    let fits : FitsSigned w64 effect.value = search rules in
    let room : length index ≡ 4 = search rules in
    let there : slice_get c.args.outs.now number ≡ Some link = member_there c.args.outs.now number link c.in-Some.ensures.lookup.3.0 (c.in-Some.ensures.lookup.3.1 link) in
    let same = at_place context inputs effect link index 4 many c.widened-index.ensures room (c.min-dimensions.ensures ∙ ap (λ dimensions. min dimensions 4) c.dimensions_of.ensures)
    ∙ through_link context inputs c.args.ins.now c.args.outs.now effect link c.if-connector-ins.false there in
    let through : ℤ → Pending = λ value. pending_through context link (record { connector = effect.connector; at = take many index; value = value }) in
    on_ok (λ todo. (connector : ℕ) → told todo ≡ pending_through context link (record { connector = connector; at = take many index; value = _ })) (λ todo. told todo ≡ pending_told context inputs c.args.ins.now c.args.outs.now effect) c.todo_through.result
    (λ todo is. is effect.connector ∙ ap through (to_z-of_z w64 effect.value fits) ∙ same) c.todo_through.ensures
