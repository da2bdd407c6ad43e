use Rattle.std.proofs.Common.{◌≡◌, ◌++◌, ◌∷◌, [], Some, map, ap, sym, ◌∙◌}
use Rattle.sd_graph.specs.Context.{link_element}
use Rattle.sd_row.specs.row.Row.{reference_on}
use Rattle.sd_row.proofs.row_lemmas.Filled.{made_more, made_whole, one_longer}
use Rattle.sd_row.proofs.instance_lemmas.Matched.{found_so}
use Rattle.sd_rows.proofs.rows.between.tracks_of.Goals as goal

pub loop-link-preserved : goal.loop-link-preserved
loop-link-preserved c =
    let links = c.args.links.now in
    let tracks = c.loop-link.tracks.items in
    let track = c.in-Some.track in
    let items : c.push.new.self.items ≡ tracks ++ track ∷ [] = c.in_ok-push.ensures.items in
    record {
      at = λ steps values context way k within.
          made_more (λ link. link_element (context k) link []) (λ track. Some (reference_on track k)) links tracks c.loop-link.link-index c.link-item.result track c.loop-link-test.true c.link-item.is
          (c.loop-link.invariant.at steps values context way k within) (found_so _ c.in_ok-track.field-0 track c.in-Some.is c.in_ok-track.ensures steps values context way k within)
          ∙ ap (map (λ track. Some (reference_on track k))) (sym items);
      many = one_longer tracks c.push.new.self.items track c.loop-link.link-index items c.loop-link.invariant.many;
    }

pub returns-clause-tracks : goal.returns-clause-tracks
returns-clause-tracks c steps values context way k within =
    made_whole (λ link. link_element (context k) link []) (λ track. Some (reference_on track k)) c.args.links.now c.loop-link.tracks.items c.loop-link.link-index c.loop-link-test.false
    (c.loop-link.invariant.at steps values context way k within)
