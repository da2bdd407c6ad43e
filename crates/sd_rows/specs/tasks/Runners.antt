-- The flat code of a list of tasklets.
use Rattle.std.specs.Prelude.{List}
use Rattle.std.specs.List.{AllZip}
use Rattle.sd_graph.specs.PlainTree.{KindTree, task}
use Rattle.sd_graph.specs.TreeFold.{item_tree}
use Rattle.sd_graph.specs.declared.graph.Item.{Item}
use Rattle.sd_row.specs.instance.Fit.{IsCodeFor}
use Rattle.sd_row.specs.declared.instance.runner.Runner.{Runner}

-- flat code, with room for its runs, for what an item does: a tasklet
abbrev pub IsRunnerFor : KindTree → Runner → Type 0
IsRunnerFor (task tree ins outs) runner = IsCodeFor tree ins outs runner.code runner.frame
IsRunnerFor kind runner = ⊥

-- that of an item
abbrev pub IsRunnerOf : Item → Runner → Type 0
IsRunnerOf item runner = IsRunnerFor (item_tree item).1 runner

-- that of each item of a list
abbrev pub AreRunnersOf : List Item → List Runner → Type 0
AreRunnersOf items runners = AllZip IsRunnerOf items runners
