use Rattle.std.proofs.Common.{◌≡◌, drop}
use Rattle.std.specs.List.{AllByRecursion}
use Rattle.sd_graph.specs.TaskletMeaning as meaning
use Rattle.sd_graph.specs.TreeFold.{act_tree, act_trees}
use Rattle.sd_tasklet.proofs.tasklet_lemmas.Sizes.{act_size, acts_size}
use Rattle.sd_tasklet.specs.tasklet.Given.{given, told_inputs}
use Rattle.sd_tasklet.specs.tasklet.Kept.{IsFilled, come_to}
use Rattle.sd_tasklet.proofs.tasklet.progress.+acts.Given as goal

-- what is left does to what there is what all does to what there was
abbrev pub invariant-do_acts-loop-act : goal.invariant-do_acts-loop-act
invariant-do_acts-loop-act l = record {
  left : (meant : meaning.Inputs) → told_inputs (given l.inputs) ≡ told_inputs meant →
      meaning.acts_of meant (act_trees l.acts) (come_to (given l.inputs) l.fn.locals l.fn.effects.items)
      ≡ meaning.acts_of meant (act_trees (drop l.act-index l.acts)) (come_to (given l.inputs) l.locals l.effects.items);
  filled : AllByRecursion (IsFilled (given l.inputs)) l.fn.effects.items → AllByRecursion (IsFilled (given l.inputs)) l.effects.items;
}

abbrev pub decreases-do_act : goal.decreases-do_act
decreases-do_act l = act_size (act_tree l.act.now)

abbrev pub decreases-do_acts : goal.decreases-do_acts
decreases-do_acts l = acts_size (act_trees l.acts.now)
