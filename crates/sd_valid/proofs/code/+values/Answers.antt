use Rattle.std.proofs.Common.{ap, ◌∙◌, map}
use Rattle.std.proofs.lemmas.List.{take_all}
use Rattle.sd_graph.specs.TreeFold.{value_tree, values_listed}
use Rattle.sd_valid.specs.BoundCode.{bound_value}
use Rattle.sd_valid.proofs.BoundLists.{values_bound}
use Rattle.sd_valid.proofs.code.+values.Goals as goal

pub values-returns : goal.values-returns
values-returns t c =
    ap values_listed (c.loop-one.invariant ∙ ap (λ all. map (bound_value c.args.sizes.now c.args.variables.now) (map value_tree all)) (take_all c.loop-one.one-index c.args.all.now c.loop-one-test.false))
    ∙ values_bound c.args.sizes.now c.args.variables.now (map value_tree c.args.all.now)
