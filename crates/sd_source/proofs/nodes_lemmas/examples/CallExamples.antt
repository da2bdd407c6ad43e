-- Nodes in all, and what calls do with their arguments.
use Rattle.std.proofs.Common.{◌≡◌, ℕ, [], ◌∷◌, Some, None, refl, codes}
use Rattle.sd_lex.specs.PlainTree.{FunctionTree}
use Rattle.sd_source.specs.nodes.Names.{found}
use Rattle.sd_source.specs.nodes.SourceNodes.{parameters_of}
use Rattle.sd_source.specs.nodes.NodeLimits.{with_function, nodes_over}
use Rattle.sd_source.specs.declared.nodes.functions.Functions.{Functions}
use Rattle.sd_source.specs.declared.nodes.access.Access.TheVariants.{Read, Write}
use Rattle.sd_source.specs.declared.nodes.limits.Limits.{Limits}
use Rattle.sd_source.proofs.nodes_lemmas.examples.ExampleParts.{moved, set_to_one, call_with, function_with, source_of}

-- so many nodes in all, and as many as one likes of one state
abbrev in_all : ℕ → Limits
in_all limit = record { state = 1000000; all = limit }

-- a tasklet and an access node: two nodes
abbrev set : FunctionTree
set = function_with (codes "set") (codes "X" ∷ []) (set_to_one 4 (codes "X") ∷ [])

-- three calls of it, each with an access node
abbrev thrice : FunctionTree
thrice = function_with (codes "thrice") (codes "A" ∷ []) (call_with 8 (codes "set") (codes "A") ∷ call_with 9 (codes "set") (codes "A") ∷ call_with 10 (codes "set") (codes "A") ∷ [])

-- a call of that, which has twelve nodes
abbrev outer : FunctionTree
outer = function_with (codes "outer") (codes "A" ∷ []) (call_with 14 (codes "thrice") (codes "A") ∷ [])

abbrev before : Functions
before = with_function (record { parameters = []; counts = [] }) set

a_nested_graph_counts_at_each_call : found (with_function before thrice).counts (codes "thrice") ≡ Some 12
a_nested_graph_counts_at_each_call = refl

calls_below_calls_count_too : found (with_function (with_function before thrice) outer).counts (codes "outer") ≡ Some 14
calls_below_calls_count_too = refl

as_many_as_the_limit_pass : nodes_over (in_all 14) (source_of (set ∷ thrice ∷ outer ∷ [])) ≡ None
as_many_as_the_limit_pass = refl

-- the last access node
one_more_is_of_its_item : nodes_over (in_all 13) (source_of (set ∷ thrice ∷ outer ∷ [])) ≡ Some 14
one_more_is_of_its_item = refl

-- the third call's graph
each_program_of_the_file_is_asked : nodes_over (in_all 10) (source_of (set ∷ thrice ∷ set ∷ [])) ≡ Some 10
each_program_of_the_file_is_asked = refl

the_first_program_that_passes_has_the_least_line : nodes_over (in_all 6) (source_of (set ∷ thrice ∷ outer ∷ [])) ≡ Some 9
the_first_program_that_passes_has_the_least_line = refl

a_nested_graph_is_one_node_of_its_state : nodes_over (record { state = 2; all = 1000000 }) (source_of (set ∷ thrice ∷ outer ∷ [])) ≡ None
a_nested_graph_is_one_node_of_its_state = refl

-- the first parameter is written, the second one only read, the third one not used
abbrev copied : FunctionTree
copied = function_with (codes "copied") (codes "X" ∷ codes "Y" ∷ codes "Z" ∷ []) (moved 4 (codes "X") (codes "Y") ∷ moved 5 (codes "X") (codes "X") ∷ [])

what_is_written_counts_as_written_alone : parameters_of [] copied ≡ Some Write ∷ Some Read ∷ None ∷ []
what_is_written_counts_as_written_alone = refl
