-- Parts of a graph: its variables, and how many of them are size symbols.
use Rattle.std.specs.Prelude.{ℕ, List}
use Rattle.sd_graph.specs.PlainTree.{GraphTree, graph}

-- the names of a graph's variables
abbrev pub variables_of : GraphTree → List (List ℕ)
variables_of (graph name containers arguments variables symbols states) = variables

abbrev pub symbols_in : GraphTree → ℕ
symbols_in (graph name containers arguments variables symbols states) = symbols
