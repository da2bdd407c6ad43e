use Rattle.std.proofs.Common.{List, ◌++◌, ◌∷◌, [], map, ap, sym, ◌∙◌}
use Rattle.sd_range.specs.declared.range.Range.{Range}
use Rattle.sd_graph.specs.TreeFold.{kind_tree, item_tree}
use Rattle.sd_graph.specs.declared.graph.Item.{Item}
use Rattle.sd_mapx.proofs.MapLemmas.{map_kind, put_expanded}
use Rattle.sd_mapx.proofs.maps.ExpandingReplace.put.Goals as goal

pub returns : goal.returns
returns c =
    put_expanded c.args._variables c.args.line c.in-Map.sequential c.in-Map.params.items c.in-Some.others.now c.in_ok-vec.field-0.items c.in_ok-others.others.items c.in-Some.field-0-0.now
    c.in-Map.private.items c.deref-3.result.now c.in-Map.body.items c.in_ok-body.body.items c.push.new.self.items c.push-2.new.self.items c.args.items.now.items c.in_ok-inner.inner c.in_ok-kind.kind c.args.kind.now
    (ap kind_tree c.in-Map.is ∙ map_kind c.in-Map.sequential c.in-Map.params c.in-Map.private c.in-Map.body)
    (sym c.deref.ensures.value ∙ c.in-Some.ensures.cases.0)
    (sym c.is_empty.ensures ∙ c.if-is_empty.false)
    (c.in_ok-vec.ensures.items ∙ ap (λ (range : Range). (c.in-Some.field-0-0.now.0, range) ∷ []) c.in_ok-copy_of.ensures)
    c.in_ok-others.ensures
    c.deref-3.ensures.value
    (c.in_ok-body.ensures ∙ ap (map item_tree) c.deref-2.ensures.value)
    c.in_ok-inner.ensures
    (c.in_ok-push.ensures.items ∙ ap (λ (items : List Item). items ++ record { line = c.args.line; kind = c.in_ok-inner.inner } ∷ []) c.new-within.ensures.items)
    c.in_ok-kind.ensures
    c.in_ok-push-2.ensures.items
