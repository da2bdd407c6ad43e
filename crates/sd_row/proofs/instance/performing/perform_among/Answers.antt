use Rattle.std.proofs.Common.{◌≡◌, ◌∷◌, [], length, Some, None, sym, ap, ◌∙◌, subst, rules, w64, FitsSigned, to_z, of_z}
use Rattle.std.proofs.lemmas.Int.{to_z-of_z}
use Rattle.sd_work.specs.Memory.{Reference}
use Rattle.sd_work.specs.Change.{write, apply}
use Rattle.sd_work.specs.Leaf.{Pending}
use Rattle.sd_graph.specs.TreeFold.{graph_tree}
use Rattle.sd_graph.specs.TaskletMeaning.{Inputs, extents_of_connector}
use Rattle.sd_graph.specs.Context.{Context, link_extents}
use Rattle.sd_graph.specs.Unfold.{pending_through}
use Rattle.sd_tasklet.specs.tasklet.Kept.{told}
use Rattle.sd_scope.specs.scope.Standing.{context_of}
use Rattle.sd_leaves.specs.leaves.Done.{IsDone, performing}
use Rattle.sd_leaves.proofs.leaves_lemmas.Doing.{write_goes}
use Rattle.sd_leaves.proofs.leaves_lemmas.Lists.{on_ok}
use Rattle.sd_row.specs.row.Row.{reference_on}
use Rattle.sd_row.specs.instance.Known.{place_below, pending_among}
use Rattle.sd_row.proofs.instance.performing.perform_among.Goals as goal

pub returns-in-Some : goal.returns-in-Some
returns-in-Some c here inputs extents =
    let standing = context_of (graph_tree c.args.graph.now) c.args.base.now c.args.scope.now in
    let effect = c.args.effect.now in
    let link = c.args.link.now in
    let by = c.args.by in
    let to : Reference = reference_on c.args.to c.in-Some.place in
    let now = c.args.machine.now in
    let after = c.write.new.self in
    let fits : FitsSigned w64 effect.value = search rules in
    let same : after.memories ≡ apply (write to by effect.value) now.memories =
    c.write.ensures.memories ∙ ap (λ (r : Reference). apply (write r by (to_z w64 (of_z w64 effect.value))) now.memories) c.cell.ensures
    ∙ ap (λ value. apply (write to by value) now.memories) (to_z-of_z w64 effect.value fits) in
    let dimensions : c.range_count-dimensions.result ≡ length (extents_of_connector inputs effect.connector) = c.range_count-dimensions.ensures here link (sym c.as_slice.ensures) ∙ ap length (sym extents) in
    let place : place_below c.args.count (told inputs effect).at ≡ Some c.in-Some.place = sym (c.place_below.ensures inputs dimensions) ∙ c.in-Some.is in
    subst (λ (todo : Pending). IsDone (performing (todo ∷ [])) now None after)
    (sym (ap (pending_among by c.args.to standing link (told inputs effect)) place))
    (write_goes by now effect.value to after same c.write.ensures.turns)

pub returns-in-None : goal.returns-in-None
returns-in-None c =
    let standing = context_of (graph_tree c.args.graph.now) c.args.base.now c.args.scope.now in
    let effect = c.args.effect.now in
    let link = c.args.link.now in
    let by = c.args.by in
    let after = c.perform_effect.new.machine in
    on_ok (λ fault. (inputs : Inputs) → c.range_count-dimensions.result ≡ length (extents_of_connector inputs effect.connector) → IsDone (performing (pending_through standing link (told inputs effect) ∷ [])) c.args.machine.now fault after)
    (λ fault. (here : Context) (inputs : Inputs) → extents_of_connector inputs effect.connector ≡ link_extents here link →
    IsDone (performing (pending_among by c.args.to standing link (told inputs effect) (place_below c.args.count (told inputs effect).at) ∷ [])) c.args.machine.now fault after) c.perform_effect.result
    (λ fault done here inputs extents.
    let dimensions : c.range_count-dimensions.result ≡ length (extents_of_connector inputs effect.connector) = c.range_count-dimensions.ensures here link (sym c.as_slice.ensures) ∙ ap length (sym extents) in
    let none : place_below c.args.count (told inputs effect).at ≡ None = sym (c.place_below.ensures inputs dimensions) ∙ c.in-None.is in
    subst (λ (todo : Pending). IsDone (performing (todo ∷ [])) c.args.machine.now fault after)
    (sym (ap (pending_among by c.args.to standing link (told inputs effect)) none))
    (done inputs dimensions)) c.perform_effect.ensures
