use Rattle.std.proofs.Common.{ℕ, List, map, ap, ◌∙◌, ◌++◌}
use Rattle.sd_range.specs.declared.affine.Affine.{Affine}
use Rattle.std.specs.List.{flat_map}
use Rattle.sd_graph.specs.PlainTree.{ExitTree}
use Rattle.sd_graph.specs.TreeFold.{exit_tree}
use Rattle.sd_rules.proofs.Pushed.{exits_more, pushed}
use Rattle.sd_rules.proofs.single.push_set.Goals as goal

pub loop-exit-preserved : goal.loop-exit-preserved
loop-exit-preserved c =
    pushed _ _ _ _ _ c.args.all.now.items (flat_map (λ (exit : ExitTree). map (λ assignment. assignment.0) exit.set) (map exit_tree c.args.exits.now))
    (c.in_ok-push_assigned.ensures ∙ ap (λ (set : List (ℕ × Affine)). c.loop-exit.all.items ++ map (λ assignment. assignment.0) set) c.as_slice.ensures)
    (exits_more (λ (exit : ExitTree). map (λ assignment. assignment.0) exit.set) c.args.exits.now c.loop-exit.exit-index c.exit-item.result c.loop-exit-test.true c.exit-item.is)
    c.loop-exit.invariant
