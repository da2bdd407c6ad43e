use Rattle.std.proofs.Common.{rules, ◌≡◌, ◌||◌, refl, ap}
use Rattle.sd_graph.specs.TreeFold.{items_listed, kind_tree}
use Rattle.sd_mapx.specs.Parts.{pair_tree}
use Rattle.sd_mapx.proofs.MapLemmas.{put_collapsed}
use Rattle.sd_mapx.proofs.maps.CollapsingReplace.put.Goals as goal

pub returns : goal.returns
returns c =
    let mark : c.if-pair.sequential ≡ (c.in-Some.pair.outer_sequential || c.in-Some.pair.inner_sequential) = search rules in
    put_collapsed c.args._variables c.args.line (pair_tree c.in-Some.pair) c.if-pair.sequential c.in_ok-params.params.items c.in-Some.pair.private.now
    c.in_ok-body.body.items c.push.new.self.items c.args.items.now.items c.in_ok-kind.kind (kind_tree c.args.kind.now)
    c.in-Some.ensures mark c.in_ok-params.ensures refl (ap items_listed c.in_ok-body.ensures)
    c.in_ok-kind.ensures
    c.in_ok-push.ensures.items
