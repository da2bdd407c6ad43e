use Rattle.std.proofs.Common.{◌≡◌, sym, ap, ◌∙◌, rules, FitsSigned, to_z, of_z, w64}
use Rattle.std.proofs.lemmas.Int.{to_z-of_z}
use Rattle.sd_work.specs.Change.{apply, push}
use Rattle.sd_graph.specs.TreeFold.{graph_tree}
use Rattle.sd_scope.specs.scope.Standing.{context_of}
use Rattle.sd_leaves.proofs.leaves_lemmas.EffectSteps.{pushed}
use Rattle.sd_leaves.proofs.leaves.effects.perform_through.Goals as goal

pub returns-then-is_stream : goal.returns-then-is_stream
returns-then-is_stream c = λ connector.
    let tree = graph_tree c.args.graph.now in
    let now = c.args.machine.now in
    let station = c.in_ok-station.field-0 in
    let fits : FitsSigned w64 c.args.value = search rules in
    let same : c.push.new.self.memories ≡ apply (push station.level station.container (to_z w64 (of_z w64 c.args.value))) now.memories = c.in_ok-push.ensures.memories in
    pushed (context_of tree c.args.base.now c.args.scope.now) c.args.link.now (record { connector = connector; at = c.args.at.now; value = c.args.value }) station.level station.container now c.push.new.self
    (sym c.is_stream.ensures ∙ c.if-is_stream.true) (c.in_ok-station.ensures.level tree) (c.in_ok-station.ensures.container tree)
    (same ∙ ap (λ value. apply (push station.level station.container value) now.memories) (to_z-of_z w64 c.args.value fits)) c.in_ok-push.ensures.turns
