-- The graph of a program.
use Rattle.std.specs.Prelude.{ℕ, ◌+◌, List, [], ◌∷◌, length}
use Rattle.sd_lex.specs.PlainTree.{argument_array, Block, no_statement, and_statement, FunctionTree, ProgramTree}
use Rattle.sd_graph.specs.PlainTree.{no_item, GraphTree, graph}
use Rattle.sd_graph.specs.TreeFold.{PlainState, states_listed}
use Rattle.sd_program.specs.Names.{Name, Named}
use Rattle.sd_elab.specs.items.Graphs.{no_graph, graph_named}
use Rattle.sd_task.specs.in_force.Names.{with_numbered}
use Rattle.sd_task.specs.task.Table.{Table}
use Rattle.sd_program.specs.Declared.{containers_in_all}
use Rattle.sd_task.specs.containers.Declarations.{variable_names_all, containers_of_function}
use Rattle.sd_elab.specs.states.Standing.{Standing}
use Rattle.sd_elab.specs.states.States.{chained_all}

-- the arguments are in force, the first with this number
abbrev pub arguments_in_force : Block → (next : ℕ) → Named ℕ → Named ℕ
arguments_in_force no_statement next known = known
arguments_in_force (and_statement (argument_array line name bits extents) rest) next known = arguments_in_force rest (next + 1) ((name, next) ∷ known)
arguments_in_force (and_statement statement rest) next known = arguments_in_force rest next known

-- what is in force where the block of a program begins: its arguments as the first containers, and the size symbols as the first variables
abbrev pub table_of_function : (symbols : List Name) → FunctionTree → Table
table_of_function symbols function = record {
  containers = arguments_in_force function.arguments 0 [];
  variables = with_numbered symbols 0 [];
  all = containers_of_function symbols function;
}

-- where the block of a program begins: behind state 0, which is empty
abbrev pub start_of : (symbols : List Name) → FunctionTree → Standing
start_of symbols function = record {
  state = 1;
  container = containers_in_all function.arguments;
  variable = length symbols;
  table = table_of_function symbols function;
}

-- the states of a program, where calls are of these graphs; the last one has no exit
abbrev pub states_of_function : (symbols : List Name) → (Name → GraphTree) → FunctionTree → List PlainState
states_of_function symbols graphs function = chained_all graphs function.body (start_of symbols function) no_item []

-- the graph of one program
abbrev pub function_graph : (symbols : List Name) → (Name → GraphTree) → FunctionTree → GraphTree
function_graph symbols graphs function =
    graph function.name (containers_of_function symbols function) (containers_in_all function.arguments) (variable_names_all function.body symbols) (length symbols)
    (states_listed (states_of_function symbols graphs function))

-- the graphs of programs, each of which calls those before it; the latest first
abbrev pub graphs_with : (symbols : List Name) → Named GraphTree → List FunctionTree → Named GraphTree
graphs_with symbols before [] = before
graphs_with symbols before (function ∷ functions) = graphs_with symbols ((function.name, function_graph symbols (graph_named before) function) ∷ before) functions

abbrev pub latest : Named GraphTree → GraphTree
latest [] = no_graph
latest (entry ∷ entries) = entry.1

-- the graph of a source: that of its last program
abbrev pub graph_of : ProgramTree → GraphTree
graph_of program = latest (graphs_with program.symbols [] program.functions)
