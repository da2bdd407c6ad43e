-- How large statements are: a block is smaller than its branch, and a statement is smaller than its block.
use Rattle.std.proofs.Common.{ℕ, zero, suc, ◌+◌, ◌<◌, List, [], ◌∷◌, length, get_or, arith}
use Rattle.sd_graph.specs.PlainTree.{ActTree, set_local, assign, branch, ActTrees, no_act, and_act}
use Rattle.sd_graph.specs.TreeFold.{act_tree, act_trees}
use Rattle.sd_graph.specs.declared.tasklet.Act.{Act}

abbrev mutual
  pub act_size : ActTree → ℕ
  act_size (set_local number value) = 1
  act_size (assign connector at value) = 1
  act_size (branch when body other) = acts_size body + acts_size other

  pub acts_size : ActTrees → ℕ
  acts_size no_act = 1
  acts_size (and_act first rest) = act_size first + acts_size rest + 1

mutual
  pub act_some : (act : ActTree) → 0 < act_size act
  act_some (set_local number value) = omega arith
  act_some (assign connector at value) = omega arith
  act_some (branch when body other) = omega (arith, acts_some body)

  pub acts_some : (acts : ActTrees) → 0 < acts_size acts
  acts_some no_act = omega arith
  acts_some (and_act first rest) = omega arith

pub act_among : (acts : List Act) (i : ℕ) (d : Act) → i < length acts → act_size (act_tree (get_or acts i d)) < acts_size (act_trees acts)
act_among [] i d h = absurd (omega arith)
act_among (act ∷ acts) zero d h = omega arith
act_among (act ∷ acts) (suc i) d h = let less : act_size (act_tree (get_or acts i d)) < acts_size (act_trees acts) = act_among acts i d (omega arith) in omega arith
