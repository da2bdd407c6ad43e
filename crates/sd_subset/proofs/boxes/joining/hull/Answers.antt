use Rattle.std.proofs.Common.{◌+◌, ◌++◌, ◌∷◌, [], drop, map, sym, ap, ◌∙◌, append_assoc}
use Rattle.sd_subset.specs.boxes.Hull as definition
use Rattle.sd_subset.proofs.boxes_lemmas.Columns.{drops-none, hull-next}
use Rattle.sd_subset.proofs.boxes.joining.hull.Goals as goal

pub loop-dimension-init : goal.loop-dimension-init
loop-dimension-init c =
    ap (λ all. all ++ definition.hull c.args.extents.now (map (drop 0) c.args.boxes.now)) c.in_ok-all.ensures.items ∙ ap (definition.hull c.args.extents.now) (drops-none c.args.boxes.now)

pub loop-dimension-preserved : goal.loop-dimension-preserved
loop-dimension-preserved c =
    let extents = c.args.extents.now in
    let boxes = c.args.boxes.now in
    let dimension = c.loop-dimension.dimension in
    let all = c.loop-dimension.all.items in
    let rest = definition.hull (drop (dimension + 1) extents) (map (drop (dimension + 1)) boxes) in
    ap (λ items. items ++ rest) c.in_ok-push.ensures.items
    ∙ append_assoc all (c.in_ok-hull_bounds.field-0 ∷ []) rest
    ∙ ap (λ bounds. all ++ bounds ∷ rest) c.in_ok-hull_bounds.ensures
    ∙ ap (λ left. all ++ left) (sym (hull-next dimension extents boxes c.loop-dimension-test.true))
    ∙ c.loop-dimension.invariant
