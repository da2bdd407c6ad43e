use Rattle.std.proofs.Common.{◌≡◌, ◌∷◌, [], length, Option, None, sym, ap, ◌∙◌, subst, rules, w64, FitsSigned, to_z, of_z}
use Rattle.std.proofs.lemmas.Int.{to_z-of_z}
use Rattle.sd_work.specs.declared.fault.FaultKind.{FaultKind}
use Rattle.sd_work.specs.Memory.{Reference}
use Rattle.sd_work.specs.Change.{write, push, apply}
use Rattle.sd_work.specs.Leaf.{Pending}
use Rattle.sd_graph.specs.TreeFold.{graph_tree}
use Rattle.sd_graph.specs.TaskletMeaning.{Inputs, extents_of_connector}
use Rattle.sd_graph.specs.Context.{Context, link_extents}
use Rattle.sd_graph.specs.Unfold.{pending_through}
use Rattle.sd_tasklet.specs.tasklet.Kept.{told}
use Rattle.sd_scope.specs.scope.Standing.{context_of}
use Rattle.sd_leaves.specs.leaves.Done.{IsDone, performing}
use Rattle.sd_leaves.proofs.leaves_lemmas.Doing.{write_goes, push_goes}
use Rattle.sd_leaves.proofs.leaves_lemmas.Lists.{on_ok}
use Rattle.sd_row.specs.row.Row.{reference_on}
use Rattle.sd_row.specs.declared.instance.target.Target.{Target}
use Rattle.sd_row.specs.instance.Known.{place_below, pending_among, pending_to, IsTarget}
use Rattle.sd_row.proofs.instance.performing.perform_to.Goals as goal

pub returns-in_ok-push-in-Stream : goal.returns-in_ok-push-in-Stream
returns-in_ok-push-in-Stream c here inputs target extents =
    let standing = context_of (graph_tree c.args.graph.now) c.args.base.now c.args.scope.now in
    let effect = c.args.effect.now in
    let station = c.in-Stream.station in
    let now = c.args.machine.now in
    let after = c.push.new.self in
    let fits : FitsSigned w64 effect.value = search rules in
    let same : after.memories ≡ apply (push station.level station.container effect.value) now.memories =
    c.in_ok-push-in-Stream.ensures.memories ∙ ap (λ value. apply (push station.level station.container value) now.memories) (to_z-of_z w64 effect.value fits) in
    subst (λ (todo : Pending). IsDone (performing (todo ∷ [])) now None after)
    (sym (target.effects (told inputs effect) ∙ ap (λ (t : Target). pending_to t c.args.k standing c.args.link.now (told inputs effect)) c.in-Stream.is))
    (push_goes station.level station.container effect.value now after same c.in_ok-push-in-Stream.ensures.turns)

pub returns-in-Element : goal.returns-in-Element
returns-in-Element c here inputs target extents =
    let standing = context_of (graph_tree c.args.graph.now) c.args.base.now c.args.scope.now in
    let effect = c.args.effect.now in
    let by = c.in-Element.by in
    let to : Reference = reference_on c.in-Element.to c.args.k in
    let now = c.args.machine.now in
    let after = c.write.new.self in
    let fits : FitsSigned w64 effect.value = search rules in
    let same : after.memories ≡ apply (write to by effect.value) now.memories =
    c.write.ensures.memories ∙ ap (λ (r : Reference). apply (write r by (to_z w64 (of_z w64 effect.value))) now.memories) c.cell.ensures
    ∙ ap (λ value. apply (write to by value) now.memories) (to_z-of_z w64 effect.value fits) in
    subst (λ (todo : Pending). IsDone (performing (todo ∷ [])) now None after)
    (sym (target.effects (told inputs effect) ∙ ap (λ (t : Target). pending_to t c.args.k standing c.args.link.now (told inputs effect)) c.in-Element.is))
    (write_goes by now effect.value to after same c.write.ensures.turns)

pub returns-in-Among : goal.returns-in-Among
returns-in-Among c =
    let standing = context_of (graph_tree c.args.graph.now) c.args.base.now c.args.scope.now in
    let effect = c.args.effect.now in
    let link = c.args.link.now in
    let by = c.in-Among.by in
    let to = c.in-Among.to in
    let count = c.in-Among.count in
    let after = c.perform_among.new.machine in
    on_ok (λ fault. (here : Context) (inputs : Inputs) → extents_of_connector inputs effect.connector ≡ link_extents here link →
    IsDone (performing (pending_among by to standing link (told inputs effect) (place_below count (told inputs effect).at) ∷ [])) c.args.machine.now fault after)
    (λ fault. (here : Context) (inputs : Inputs) → IsTarget c.args.k here standing link c.args.target → extents_of_connector inputs effect.connector ≡ link_extents here link →
    IsDone (performing (pending_through here link (told inputs effect) ∷ [])) c.args.machine.now fault after) c.perform_among.result
    (λ fault done here inputs target extents.
    subst (λ (todo : Pending). IsDone (performing (todo ∷ [])) c.args.machine.now fault after)
    (sym (target.effects (told inputs effect) ∙ ap (λ (t : Target). pending_to t c.args.k standing link (told inputs effect)) c.in-Among.is))
    (done here inputs extents)) c.perform_among.ensures

pub returns-in-Computed : goal.returns-in-Computed
returns-in-Computed c =
    let standing = context_of (graph_tree c.args.graph.now) c.args.base.now c.args.scope.now in
    let effect = c.args.effect.now in
    let link = c.args.link.now in
    let ends : Context → Inputs → Option FaultKind → Type 0 = λ here inputs fault. IsDone (performing (pending_through here link (told inputs effect) ∷ [])) c.args.machine.now fault c.perform_effect.new.machine in
    on_ok (λ fault. (inputs : Inputs) → c.range_count-dimensions.result ≡ length (extents_of_connector inputs effect.connector) → ends standing inputs fault)
    (λ fault. (here : Context) (inputs : Inputs) → IsTarget c.args.k here standing link c.args.target → extents_of_connector inputs effect.connector ≡ link_extents here link → ends here inputs fault) c.perform_effect.result
    (λ fault done here inputs target extents.
    subst (λ (todo : Pending). IsDone (performing (todo ∷ [])) c.args.machine.now fault c.perform_effect.new.machine)
    (sym (target.effects (told inputs effect) ∙ ap (λ (t : Target). pending_to t c.args.k standing link (told inputs effect)) c.in-Computed.is))
    (done inputs (c.range_count-dimensions.ensures here link (sym c.as_slice.ensures) ∙ ap length (sym extents)))) c.perform_effect.ensures
