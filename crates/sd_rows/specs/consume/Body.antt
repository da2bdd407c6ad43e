-- Code that is run for the elements of a consume scope.
use Rattle.std.specs.Prelude.{◌≡◌, ℕ, ◌<◌, ◌^◌, ℤ, List, ◌++◌, map, length}
use Rattle.std.specs.List.{AllByRecursion}
use Rattle.sd_graph.specs.PlainTree.{TaskletTree}
use Rattle.sd_graph.specs.TaskletMeaning.{Inputs, meaning_of}
use Rattle.sd_graph.specs.Context.{Context, link_extents}
use Rattle.sd_graph.specs.declared.link.Link.{Link}
use Rattle.sd_tcode.specs.tcode.Compiled.{Compiled, IsCodeOf}
use Rattle.sd_leaves.specs.leaves.Given.{given_at}

-- code that means, with what it is given and whatever is read, what a tasklet with these links means here
pub record IsBody (tree : TaskletTree) (ins outs : List Link) (compiled : Compiled) (given : Inputs) (here : Context) : Type 0 where
  pub compiled_tree : TaskletTree
  pub code : IsCodeOf compiled_tree compiled
  pub extents : given.extents ≡ map (link_extents here) (ins ++ outs)
  pub means : (values : List (List ℤ)) → meaning_of compiled_tree (record given { values = values }) ≡ meaning_of tree (given_at here tree ins outs values)

-- what is given has one element for each of so many inputs
pub record HasSingles (many : ℕ) (given : Inputs) : Type 0 where
  pub singles : AllByRecursion (λ values. length values ≡ 1) given.values
  pub reads : length given.values ≡ many
  pub few : many < 2 ^ 32
