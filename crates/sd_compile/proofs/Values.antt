-- The plain trees of expressions, by their forms.
use Rattle.std.proofs.Common.{◌≡◌, ◌==◌, List, [], ◌∷◌, length, Box, refl, arith}
use Rattle.std.proofs.lemmas.Bool.Decides.{nat_tests}
use Rattle.std.specs.declared.alloc.Global.{Global}
use Rattle.sd_graph.specs.PlainTree.{ValueTree, choice}
use Rattle.sd_graph.specs.TreeFold.{value_step, value_tree, value_trees}
use Rattle.sd_tcode.specs.tcode.Named.{count_of}
use Rattle.sd_tcode.specs.tcode.Emitted.{is_scalar}
use Rattle.sd_graph.specs.declared.tasklet.Value.{Value}
use Rattle.sd_graph.specs.declared.tasklet.Value as shape
use Rattle.sd_graph.specs.declared.tasklet.Value.TheOpen.{Choice}
use Rattle.sd_graph.specs.declared.tasklet.Value.TheFolds.{fold-roll-Value}

pub choice_tree : (value when other : Box Value Global) → value_tree (shape.Choice value when other) ≡ choice (value_tree value.value) (value_tree when.value) (value_tree other.value)
unfolding shape.roll-Value denote.Hole.Carrier.roll
choice_tree value when other = fold-roll-Value ValueTree value_step (Choice value when other)

-- an index is as long as its list
pub scalar_by_length : (at : List Value) → (length at == 0) ≡ is_scalar (value_trees at)
scalar_by_length [] = refl
scalar_by_length (first ∷ rest) = grind (arith, nat_tests)

pub count_by_length : (at : List Value) → count_of (value_trees at) ≡ length at
count_by_length [] = refl
count_by_length (first ∷ rest) = omega (arith, count_by_length rest)
