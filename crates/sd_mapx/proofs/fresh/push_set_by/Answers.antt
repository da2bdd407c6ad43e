use Rattle.std.proofs.Common.{◌∙◌, ◌++◌, ℕ, List, map, ap}
use Rattle.sd_range.specs.declared.affine.Affine.{Affine}
use Rattle.sd_mapx.proofs.FreshLemmas.{gathered, set_next}
use Rattle.sd_mapx.proofs.fresh.push_set_by.Goals as goal

pub loop-exit-preserved : goal.loop-exit-preserved
loop-exit-preserved c =
    let so_far : List ℕ = c.loop-exit.variables.items in
    let exit = c.exit-item.result in
    gathered so_far (map (λ assignment. assignment.0) exit.set) c.push_set.new.variables.items _ _ _
    (c.in_ok-push_set.ensures ∙ ap (λ (set : List (ℕ × Affine)). so_far ++ map (λ assignment. assignment.0) set) c.as_slice.ensures)
    (set_next c.args.exits.now c.loop-exit.exit-index exit c.loop-exit-test.true c.exit-item.is)
    c.loop-exit.invariant
