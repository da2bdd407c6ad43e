use Rattle.std.proofs.Common.{◌≡◌, true, false, sym, ap, ◌∙◌, rules}
use Rattle.sd_graph.specs.TreeFold.{graph_tree}
use Rattle.sd_graph.specs.ContainerParts.{container_at, is_stream}
use Rattle.sd_scope.specs.scope.Standing.{context_of}
use Rattle.sd_scope.specs.even.Even.{is_scalar}
use Rattle.sd_row.proofs.instance_lemmas.Matched.{found_so}
use Rattle.sd_row.proofs.instance_lemmas.Resting.{element_target}
use Rattle.sd_row.proofs.instance.at_rest.target_at.Goals as goal

pub returns-in-Some : goal.returns-in-Some
returns-in-Some c =
    let context = context_of (graph_tree c.args.graph.now) c.args.base.now c.args.scope.now in
    let link = c.args.link.now in
    let arrays : is_stream (container_at context.containers link.memlet.container).kind ≡ false = sym c.is_stream.ensures ∙ c.if-is_stream.false in
    let one : c.has_one_element.result ≡ true = search rules in
    let scalar : is_scalar link.memlet.subset.dims ≡ true = ap is_scalar (sym c.as_slice.ensures) ∙ sym c.has_one_element.ensures ∙ one in
    element_target 0 context context link c.in-Some.track arrays scalar (found_so _ c.in_ok-track.field-0 c.in-Some.track c.in-Some.is c.in_ok-track.ensures)
