use Rattle.std.proofs.Common.{ap, ◌∙◌, map}
use Rattle.std.proofs.lemmas.List.{take_all}
use Rattle.sd_graph.specs.TreeFold.{value_tree, values_listed}
use Rattle.sd_tasklet.specs.literals.Literals.{lifted_value}
use Rattle.sd_tasklet.proofs.literals_lemmas.LiftedLists.{values_lifted}
use Rattle.sd_tasklet.proofs.literals.lifting.+values.Goals as goal

pub values-returns : goal.values-returns
values-returns t c =
    ap values_listed (c.loop-one.invariant ∙ ap (λ all. map (lifted_value c.args.numbers.now c.args.own) (map value_tree all)) (take_all c.loop-one.one-index c.args.all.now c.loop-one-test.false))
    ∙ values_lifted c.args.numbers.now c.args.own (map value_tree c.args.all.now)
