use Rattle.std.proofs.Common.{◌≡◌, ℕ, Vec, map, sym, ap, ◌∙◌}
use Rattle.std.specs.declared.alloc.Global.{Global}
use Rattle.sd_graph.specs.Context.{link_extents}
use Rattle.sd_scope.specs.scope.Standing.{context_of}
use Rattle.sd_row.proofs.row_lemmas.Filled.{made_more, made_whole}
use Rattle.sd_row.proofs.instance_lemmas.Matched.{found_so}
use Rattle.sd_row.proofs.view.views_at.extents_at.Goals as goal

pub loop-link-preserved : goal.loop-link-preserved
loop-link-preserved c program base =
    let narrow : c.in-Some.extents.items ≡ c.as_slice.result.now = found_so _ c.in_ok-extents-2.field-0 c.in-Some.extents c.in-Some.is c.in_ok-extents-2.ensures in
    made_more (link_extents (context_of program base c.args.scope.now)) (λ (extents : Vec ℕ Global). extents.items) c.args.links.now c.loop-link.all.items c.loop-link.link-index c.link-item.result c.in-Some.extents
    c.loop-link-test.true c.link-item.is (c.loop-link.invariant program base) (sym (narrow ∙ c.as_slice.ensures.value ∙ c.in_ok-extents.ensures program base))
    ∙ ap (map (λ (extents : Vec ℕ Global). extents.items)) (sym c.in_ok-push.ensures.items)

pub returns : goal.returns
returns c program base =
    made_whole (link_extents (context_of program base c.args.scope.now)) (λ (extents : Vec ℕ Global). extents.items) c.args.links.now c.loop-link.all.items c.loop-link.link-index c.loop-link-test.false (c.loop-link.invariant program base)
