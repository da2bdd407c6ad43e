use Rattle.std.proofs.Common.{List, ◌∙◌, ℕ, map, ap}
use Rattle.sd_range.specs.declared.range.Range.{Range}
use Rattle.sd_graph.specs.TreeFold.{kind_tree, item_tree}
use Rattle.sd_exchange.specs.tiles.Tiled.{tile_params, params_in_tile}
use Rattle.sd_mapx.proofs.MapLemmas.{map_kind}
use Rattle.sd_mapx.proofs.OrderLemmas.{put_tiled}
use Rattle.sd_mapx.proofs.tiles.TilingReplace.put.Goals as goal

pub returns : goal.returns
returns c =
    put_tiled c.args.variables c.args.line c.args.self.now.sizes.now c.in-Map.sequential c.in-Map.params.items c.in_ok-tiles.tiles.items c.in_ok-within.within.items
    c.in-Map.private.items c.deref-4.result.now c.in-Map.body.items c.in_ok-body.body.items c.in_ok-alone.alone.items c.push.new.self.items c.args.items.now.items c.in_ok-inner.inner c.in_ok-kind.kind (kind_tree c.args.kind.now)
    (ap kind_tree c.in-Map.is ∙ map_kind c.in-Map.sequential c.in-Map.params c.in-Map.private c.in-Map.body)
    (c.in_ok-tiles.ensures ∙ ap (λ (params : List (ℕ × Range)). tile_params c.args.self.now.sizes.now c.args.variables params) c.deref.ensures.value)
    (c.in_ok-within.ensures ∙ ap (λ (params : List (ℕ × Range)). params_in_tile c.args.self.now.sizes.now c.args.variables params) c.deref-2.ensures.value)
    c.deref-4.ensures.value
    (c.in_ok-body.ensures ∙ ap (map item_tree) c.deref-3.ensures.value)
    c.in_ok-inner.ensures
    c.in_ok-alone.ensures
    c.in_ok-kind.ensures
    c.in_ok-push.ensures.items
