use Rattle.std.proofs.Common.{ap, ◌∙◌, map}
use Rattle.std.proofs.lemmas.List.{take_all}
use Rattle.sd_graph.specs.TreeFold.{act_tree, acts_listed}
use Rattle.sd_valid.specs.BoundCode.{bound_act}
use Rattle.sd_valid.proofs.BoundLists.{acts_bound}
use Rattle.sd_valid.proofs.code.+acts.Goals as goal

pub acts-returns : goal.acts-returns
acts-returns t c =
    ap acts_listed (c.loop-one.invariant ∙ ap (λ all. map (bound_act c.args.sizes.now c.args.variables.now) (map act_tree all)) (take_all c.loop-one.one-index c.args.all.now c.loop-one-test.false))
    ∙ acts_bound c.args.sizes.now c.args.variables.now (map act_tree c.args.all.now)
