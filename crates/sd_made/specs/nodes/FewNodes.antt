-- What the rule on limits asks of the nodes of a state, and how many nodes a source is counted to have.
use Rattle.std.specs.Prelude.{ℕ, ◌+◌, nat_le, List, [], ◌∷◌, Bool, ◌&&◌}
use Rattle.sd_lex.specs.PlainTree.{FunctionTree, ProgramTree}
use Rattle.sd_source.specs.nodes.NodeLimits.{count_in_all, with_function}
use Rattle.sd_source.specs.nodes.SourceNodes.{states_of}
use Rattle.sd_source.specs.declared.nodes.functions.Functions.{Functions}
use Rattle.sd_validity.specs.rules.Places.{Place}
use Rattle.sd_validity.specs.rules.WithinLimits.{nodes_at, nodes_among}

-- at most 1,024, and 65,536 with those before
abbrev pub are_nodes_few : (nodes before : ℕ) → Bool
are_nodes_few nodes before = nat_le nodes 1024 && nat_le (before + nodes) 65536

-- those of each state, behind those of the states before, in nested graphs too
abbrev pub nodes_rule : (before : List Place) → Place → Bool
nodes_rule before place = are_nodes_few (nodes_at place.graph place.thing) (nodes_among before)

-- the nodes in all of the last one of functions, behind others of which the last one has so many
abbrev pub last_counted : (last : ℕ) → (before : Functions) → List FunctionTree → ℕ
last_counted last before [] = last
last_counted last before (function ∷ functions) = last_counted (count_in_all before.counts (states_of before.parameters function)) (with_function before function) functions

-- of a source: those of its last function
abbrev pub nodes_counted : ProgramTree → ℕ
nodes_counted program = last_counted 0 (record { parameters = []; counts = [] }) program.functions
