-- Items behind others.
use Rattle.sd_graph.specs.PlainTree.{ItemTrees, no_item, and_item}

abbrev pub appended : ItemTrees → ItemTrees → ItemTrees
appended no_item behind = behind
appended (and_item line kind rest) behind = and_item line kind (appended rest behind)
