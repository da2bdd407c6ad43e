-- The plain trees of statements, by their forms.
use Rattle.std.proofs.Common.{◌≡◌, ℕ}
use Rattle.std.specs.declared.alloc.Global.{Global}
use Rattle.std.specs.declared.vec.Vec.{Vec}
use Rattle.sd_graph.specs.PlainTree.{ActTree, assign, branch}
use Rattle.sd_graph.specs.TreeFold.{act_step, act_tree, act_trees, value_tree, value_trees}
use Rattle.sd_graph.specs.declared.tasklet.Value.{Value}
use Rattle.sd_graph.specs.declared.tasklet.Act as act
use Rattle.sd_graph.specs.declared.tasklet.Act.{Act}
use Rattle.sd_graph.specs.declared.tasklet.Act.TheOpen.{Out, When}
use Rattle.sd_graph.specs.declared.tasklet.Act.TheFolds.{fold-roll-Act}

pub out_tree : (connector : ℕ) (at : Vec Value Global) (value : Value) → act_tree (act.Out connector at value) ≡ assign connector (value_trees at.items) (value_tree value)
unfolding act.roll-Act denote.Hole.Carrier.roll
out_tree connector at value = fold-roll-Act ActTree act_step (Out connector at value)

pub when_tree : (when : Value) (body other : Vec Act Global) → act_tree (act.When when body other) ≡ branch (value_tree when) (act_trees body.items) (act_trees other.items)
unfolding act.roll-Act denote.Hole.Carrier.roll
when_tree when body other = fold-roll-Act ActTree act_step (When when body other)
