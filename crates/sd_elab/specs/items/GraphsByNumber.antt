-- What the code keeps of earlier graphs: their names with numbers, and the graphs of these numbers.
use Rattle.std.specs.Prelude.{ℕ, ◌<◌, List, map, option_map, unwrap_or, slice_get}
use Rattle.std.specs.List.{AllByRecursion}
use Rattle.sd_graph.specs.PlainTree.{GraphTree}
use Rattle.sd_graph.specs.TreeFold.{graph_tree}
use Rattle.sd_graph.specs.declared.graph.Sdfg.{Sdfg}
use Rattle.sd_program.specs.Names.{Named}
use Rattle.sd_elab.specs.items.Graphs.{no_graph}

-- the graph of a number
abbrev pub graph_at : List Sdfg → ℕ → GraphTree
graph_at graphs number = unwrap_or (option_map graph_tree (slice_get graphs number)) no_graph

-- names with the graphs of their numbers
abbrev pub with_graphs : List Sdfg → Named ℕ → Named GraphTree
with_graphs graphs numbers = map (λ entry. (entry.0, graph_at graphs entry.1)) numbers

-- what the code keeps, as names with graphs: the latest first
abbrev pub graphs_of : Named ℕ × List Sdfg → Named GraphTree
graphs_of known = with_graphs known.1 known.0

-- each number is below the count
abbrev pub AreBelow : ℕ → Named ℕ → Type 0
AreBelow count numbers = AllByRecursion (λ entry. entry.1 < count) numbers
