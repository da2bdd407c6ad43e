use Rattle.std.proofs.Common.{◌≡◌, true, false, refl, sym, ◌∙◌, subst, map, length}
use Rattle.sd_graph.specs.TreeFold.{graph_tree, item_tree, named_container}
use Rattle.sd_graph.specs.declared.graph.ItemKind.TheViews.{out-Sdfg}
use Rattle.sd_windows.specs.MapPieces.{kind_piece}
use Rattle.sd_cut.specs.declared.refusal.CutError.TheVariants.{Outside}
use Rattle.sd_part.specs.Cut.{IsJustCut}
use Rattle.sd_part.specs.Hulls.{AreBelow}
use Rattle.sd_piece.specs.Held.{HasTouched}
use Rattle.sd_piece.specs.Run.{IsUncut}
use Rattle.sd_piece.proofs.Cutting.{boxes-outlined, containers_in, piece-is-cut-in, is-foreign, never-outside}
use Rattle.sd_piece.proofs.cut.cut_item.Goals as goal

no : true ≡ false → ⊥
no e = cc

pub returns-then-not-branch-clause-err : goal.returns-then-not-branch-clause-err
returns-then-not-branch-clause-err c =
    let containers = map named_container (out-Sdfg c.args.graph.now).containers.entries in
    let boxes = boxes-outlined (graph_tree c.args.graph.now) containers (item_tree c.args.item.now).1 c.args.outline.now c.args.values.now c.args.at.first c.args.at.count c.in_ok-boxes.boxes.items (containers_in c.args.graph.now)
    c.requires.outline c.in_ok-boxes.ensures.boxes in
    is-foreign (graph_tree c.args.graph.now) containers c.args.memory.now c.args.values.now c.args.at (item_tree c.args.item.now) boxes.0 c.in_ok-boxes.boxes.items (containers_in c.args.graph.now)
    c.requires.item c.requires.piece boxes.1
    (λ touched. no (sym (c.in_ok-has_touched.ensures.1 (subst (HasTouched containers c.args.memory.now) (sym c.as_slice.ensures.value) touched)) ∙ c.if-not-branch.true))

pub returns-in-Err-Outside-clause-err : goal.returns-in-Err-Outside-clause-err
returns-in-Err-Outside-clause-err c =
    let containers = map named_container (out-Sdfg c.args.graph.now).containers.entries in
    let boxes = boxes-outlined (graph_tree c.args.graph.now) containers (item_tree c.args.item.now).1 c.args.outline.now c.args.values.now c.args.at.first c.args.at.count c.in_ok-boxes.boxes.items (containers_in c.args.graph.now)
    c.requires.outline c.in_ok-boxes.ensures.boxes in
    absurd (never-outside containers c.args.memory.now c.args.values.now (kind_piece c.args.values.now c.args.at.first c.args.at.count (item_tree c.args.item.now).1) boxes.0 c.in_ok-boxes.boxes.items c.in-Err-Outside.field-0-0
    boxes.1 (subst (HasTouched containers c.args.memory.now) c.as_slice.ensures.value (c.in_ok-has_touched.ensures.0 c.if-not-branch.false))
    (subst (λ boxes. IsUncut boxes c.args.memory.now (Outside c.in-Err-Outside.field-0-0)) c.as_slice-2.ensures.value
    (subst (IsUncut c.as_slice-2.result.now c.args.memory.now) c.in-Err-Outside.field-0-is c.in-Err-Outside.ensures.refused)))

pub returns-clause-ok : goal.returns-clause-ok
returns-clause-ok c =
    let containers = map named_container (out-Sdfg c.args.graph.now).containers.entries in
    let boxes = boxes-outlined (graph_tree c.args.graph.now) containers (item_tree c.args.item.now).1 c.args.outline.now c.args.values.now c.args.at.first c.args.at.count c.in_ok-boxes.boxes.items (containers_in c.args.graph.now)
    c.requires.outline c.in_ok-boxes.ensures.boxes in
    piece-is-cut-in (graph_tree c.args.graph.now) containers c.args.memory.now c.args.values.now c.args.at (item_tree c.args.item.now) boxes.0 _ (containers_in c.args.graph.now) c.requires.valid
    c.show_normal_forms.ensures c.requires.values c.requires.item c.requires.piece refl c.in_ok-values.ensures c.in_ok-piece.ensures boxes.1 c.in_ok-boxes.ensures.even
    (subst (HasTouched containers c.args.memory.now) c.as_slice.ensures.value (c.in_ok-has_touched.ensures.0 c.if-not-branch.false))
    (subst (λ boxes. IsJustCut boxes c.args.memory.now c.in-Ok.cut) c.as_slice-2.ensures.value c.in-Ok.ensures.just)
    (subst (AreBelow (length c.in-Ok.cut.windows)) c.as_slice-2.ensures.value c.in-Ok.ensures.below)
