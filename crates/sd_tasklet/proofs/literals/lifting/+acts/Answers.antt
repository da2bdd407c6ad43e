use Rattle.std.proofs.Common.{ap, ◌∙◌, map}
use Rattle.std.proofs.lemmas.List.{take_all}
use Rattle.sd_graph.specs.TreeFold.{act_tree, acts_listed}
use Rattle.sd_tasklet.specs.literals.Literals.{lifted_act}
use Rattle.sd_tasklet.proofs.literals_lemmas.LiftedLists.{acts_lifted}
use Rattle.sd_tasklet.proofs.literals.lifting.+acts.Goals as goal

pub acts-returns : goal.acts-returns
acts-returns t c =
    ap acts_listed (c.loop-one.invariant ∙ ap (λ all. map (lifted_act c.args.numbers.now c.args.own) (map act_tree all)) (take_all c.loop-one.one-index c.args.all.now c.loop-one-test.false))
    ∙ acts_lifted c.args.numbers.now c.args.own (map act_tree c.args.all.now)
