use Rattle.std.proofs.Common.{◌≡◌, ◌++◌, ◌∷◌, [], Some, map, ap, sym, ◌∙◌}
use Rattle.sd_graph.specs.TreeFold.{graph_tree}
use Rattle.sd_graph.specs.Context.{link_element}
use Rattle.sd_scope.specs.scope.Standing.{context_of}
use Rattle.sd_row.specs.row.Row.{reference_on}
use Rattle.sd_row.proofs.row_lemmas.Filled.{made_more, made_whole}
use Rattle.sd_row.proofs.instance_lemmas.Matched.{found_so}
use Rattle.sd_row.proofs.instance.at_rest.tracks_at.Goals as goal

pub loop-link-preserved : goal.loop-link-preserved
loop-link-preserved c =
    let context = context_of (graph_tree c.args.graph.now) c.args.base.now c.args.scope.now in
    let tracks = c.loop-link.tracks.items in
    let track = c.in-Some.track in
    let items : c.push.new.self.items ≡ tracks ++ track ∷ [] = c.in_ok-push.ensures.items in
    made_more (λ link. link_element context link []) (λ track. Some (reference_on track 0)) c.args.links.now tracks c.loop-link.link-index c.link-item.result track c.loop-link-test.true c.link-item.is
    c.loop-link.invariant (found_so _ c.in_ok-track.field-0 track c.in-Some.is c.in_ok-track.ensures)
    ∙ ap (map (λ track. Some (reference_on track 0))) (sym items)

pub returns : goal.returns
returns c =
    let context = context_of (graph_tree c.args.graph.now) c.args.base.now c.args.scope.now in
    made_whole (λ link. link_element context link []) (λ track. Some (reference_on track 0)) c.args.links.now c.loop-link.tracks.items c.loop-link.link-index c.loop-link-test.false c.loop-link.invariant
