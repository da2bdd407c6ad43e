use Rattle.std.proofs.Common.{◌==◌, ℕ, List, length, Some, ap, sym, ◌∙◌}
use Rattle.sd_graph.specs.TreeFold.{kind_tree, item_trees}
use Rattle.sd_mapx.proofs.MapLemmas.{map_kind, pair_made, none_with_more}
use Rattle.sd_mapx.proofs.pairs.pair_in.Goals as goal

pub returns-then-not-is_empty-2 : goal.returns-then-not-is_empty-2
returns-then-not-is_empty-2 c =
    none_with_more c.in-Map.outer_sequential c.in-Map.outer.items c.in-Map.own.items c.in-Map.alone.items c.in-Some.others.now c.in-Some.item.now (kind_tree c.args.kind.now)
    (ap kind_tree c.in-Map.is ∙ map_kind c.in-Map.outer_sequential c.in-Map.outer c.in-Map.own c.in-Map.alone)
    (sym c.deref.ensures.value ∙ c.in-Some.ensures.cases.0) (sym c.is_empty-2.ensures ∙ c.if-not-is_empty-2.true)

pub returns : goal.returns
returns c =
    (λ i. Some (record {
      outer_sequential = c.in-Map.outer_sequential;
      outer = c.deref-2.ensures.value i;
      line = c.in-Some.item.now.line;
      inner_sequential = c.in-Map-kind.inner_sequential;
      inner = c.deref-3.ensures.value i;
      private = c.deref-4.ensures.value i;
      body = item_trees (c.deref-5.ensures.value i);
    }))
    ∙ pair_made c.in-Map.outer_sequential c.in-Map-kind.inner_sequential c.in-Map.outer.items c.in-Map-kind.inner.items c.in-Map.own.items c.in-Map-kind.private.items c.in-Map.alone.items c.in-Some.others.now c.in-Map-kind.body.items
    c.in-Some.item.now (kind_tree c.args.kind.now)
    (ap kind_tree c.in-Map.is ∙ map_kind c.in-Map.outer_sequential c.in-Map.outer c.in-Map.own c.in-Map.alone)
    (ap (λ (own : List ℕ). length own == 0) (sym c.as_slice.ensures.value) ∙ sym c.is_empty.ensures ∙ c.if-not-is_empty.false)
    (sym c.deref.ensures.value ∙ c.in-Some.ensures.cases.0)
    (sym c.is_empty-2.ensures ∙ c.if-not-is_empty-2.false)
    (ap kind_tree c.in-Map-kind.is ∙ map_kind c.in-Map-kind.inner_sequential c.in-Map-kind.inner c.in-Map-kind.private c.in-Map-kind.body)
