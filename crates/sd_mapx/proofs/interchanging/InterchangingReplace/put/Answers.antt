use Rattle.std.proofs.Common.{ap, refl}
use Rattle.sd_graph.specs.TreeFold.{items_listed, kind_tree}
use Rattle.sd_mapx.specs.Parts.{pair_tree}
use Rattle.sd_mapx.proofs.OrderLemmas.{put_interchanged}
use Rattle.sd_mapx.proofs.interchanging.InterchangingReplace.put.Goals as goal

pub returns : goal.returns
returns c =
    put_interchanged c.args._variables c.args.line (pair_tree c.in-Some.pair) c.in_ok-outer.outer.items c.in_ok-inner.inner.items c.in-Some.pair.private.now
    c.in_ok-body.body.items c.in_ok-alone.alone.items c.push.new.self.items c.args.items.now.items c.in_ok-within.within c.in_ok-kind.kind (kind_tree c.args.kind.now)
    c.in-Some.ensures c.in_ok-outer.ensures c.in_ok-inner.ensures refl (ap items_listed c.in_ok-body.ensures)
    c.in_ok-within.ensures
    c.in_ok-alone.ensures
    c.in_ok-kind.ensures
    c.in_ok-push.ensures.items
