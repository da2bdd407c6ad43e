-- Graphs of earlier programs.
use Rattle.std.specs.Prelude.{[], unwrap_or}
use Rattle.sd_graph.specs.PlainTree.{no_state, GraphTree, graph}
use Rattle.sd_program.specs.Names.{Name, Named, in_force}

abbrev pub no_graph : GraphTree
no_graph = graph [] [] 0 [] 0 no_state

-- the latest of these graphs with a name
abbrev pub graph_named : Named GraphTree → Name → GraphTree
graph_named graphs name = unwrap_or (in_force graphs name) no_graph
