-- At which line a source has more nodes than it may.
use Rattle.std.specs.Prelude.{ℕ, suc, ◌+◌, ◌-◌, nat_lt, List, [], ◌∷◌, Option, Some, None, min, if◌then◌else◌}
use Rattle.sd_lex.specs.PlainTree.{FunctionTree, ProgramTree}
use Rattle.sd_source.specs.nodes.Items.{Name}
use Rattle.sd_source.specs.declared.nodes.functions.Functions.{Functions}
use Rattle.sd_source.specs.declared.nodes.limits.Limits.{Limits}
use Rattle.sd_source.specs.declared.nodes.node.Node.{Node}
use Rattle.sd_source.specs.nodes.Names.{Named, found, put}
use Rattle.sd_source.specs.nodes.SourceNodes.{parameters_of, states_of}

-- the limits of the language
abbrev pub node_limits : Limits
node_limits = record { state = 1024; all = 65536 }

abbrev pub or_none : Option ℕ → ℕ
or_none None = 0
or_none (Some count) = count

-- the nodes of the graph that a node holds
abbrev pub nested : Named ℕ → Option Name → ℕ
nested counts None = 0
nested counts (Some name) = or_none (found counts name)

-- a node counts as one, with the nodes of the graph that it holds
abbrev pub weight : Named ℕ → Node → ℕ
weight counts node = suc (nested counts node.called)

-- nodes in all, those of nested graphs counted at each call
abbrev pub count_of : Named ℕ → List Node → ℕ
count_of counts [] = 0
count_of counts (node ∷ nodes) = weight counts node + count_of counts nodes

-- the line of the node with which they are more than this
abbrev pub line_over : Named ℕ → (limit : ℕ) → List Node → Option ℕ
line_over counts limit [] = None
line_over counts limit (node ∷ nodes) = if nat_lt limit (weight counts node) then Some node.line else line_over counts (limit - weight counts node) nodes

-- the first of two lines, where there are two
abbrev pub first_of : Option ℕ → Option ℕ → Option ℕ
first_of None other = other
first_of (Some line) other = Some line

-- the line of the node with which the nodes of states, one after another, are more than this
abbrev pub states_over : Named ℕ → (limit : ℕ) → (states : List (List Node)) → Option ℕ
states_over counts limit [] = None
states_over counts limit (nodes ∷ states) = first_of (line_over counts limit nodes) (states_over counts (limit - count_of counts nodes) states)

-- the nodes of a graph in all
abbrev pub count_in_all : Named ℕ → (states : List (List Node)) → ℕ
count_in_all counts [] = 0
count_in_all counts (nodes ∷ states) = count_of counts nodes + count_in_all counts states

-- the lesser of two lines, where there are two
abbrev pub lesser : Option ℕ → Option ℕ → Option ℕ
lesser None other = other
lesser (Some line) None = Some line
lesser (Some line) (Some other) = Some (min line other)

-- the least line at which a state has too many nodes, nested graphs aside
abbrev pub any_state_over : (limit : ℕ) → List (List Node) → Option ℕ
any_state_over limit [] = None
any_state_over limit (nodes ∷ states) = lesser (line_over [] limit nodes) (any_state_over limit states)

-- the least line at which a function's graph passes a limit
abbrev pub graph_over : Limits → Named ℕ → (states : List (List Node)) → Option ℕ
graph_over limits counts states = lesser (any_state_over limits.state states) (states_over counts limits.all states)

-- with one more function
abbrev pub with_function : Functions → FunctionTree → Functions
with_function functions function = record {
  parameters = put functions.parameters function.name (parameters_of functions.parameters function);
  counts = put functions.counts function.name (count_in_all functions.counts (states_of functions.parameters function));
}

-- the least line at which one of the functions behind these passes a limit
abbrev pub functions_over : Limits → Functions → List FunctionTree → Option ℕ
functions_over most before [] = None
functions_over most before (function ∷ functions) =
    lesser (graph_over most before.counts (states_of before.parameters function)) (functions_over most (with_function before function) functions)

-- the least line at which a source passes a limit on nodes
abbrev pub nodes_over : Limits → ProgramTree → Option ℕ
nodes_over most program = functions_over most (record { parameters = []; counts = [] }) program.functions
