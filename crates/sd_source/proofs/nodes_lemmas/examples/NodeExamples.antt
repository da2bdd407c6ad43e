-- Nodes of one state, and the line of the first one too many.
use Rattle.std.proofs.Common.{◌≡◌, ℕ, List, [], ◌∷◌, Some, None, map, refl, codes}
use Rattle.sd_lex.specs.PlainTree.{StatementTree, ProgramTree}
use Rattle.sd_source.specs.nodes.SourceNodes.{states_of}
use Rattle.sd_source.specs.nodes.NodeLimits.{nodes_over, node_limits}
use Rattle.sd_source.specs.declared.nodes.limits.Limits.{Limits}
use Rattle.sd_source.specs.declared.nodes.node.Node.{Node}
use Rattle.sd_source.proofs.nodes_lemmas.examples.ExampleParts.{moved, set_to_one, local_of_one, mapped, function_with, source_of, ones}

-- a function of two arrays
abbrev with_arrays : List StatementTree → ProgramTree
with_arrays body = source_of (function_with (codes "f") (codes "A" ∷ codes "B" ∷ []) body ∷ [])

-- the lines of the nodes of its states
abbrev lines_of : List StatementTree → List (List ℕ)
lines_of body = map (λ nodes. map (λ (node : Node). node.line) nodes) (states_of [] (function_with (codes "f") (codes "A" ∷ codes "B" ∷ []) body))

-- so many nodes of one state, and as many as one likes in all
abbrev of_state : ℕ → Limits
of_state limit = record { state = limit; all = 1000000 }

-- a map at line 4 with an array of its own: T is written at line 6 and read at line 7
abbrev written_first : List StatementTree
written_first = mapped 4 (local_of_one 5 (codes "T") ∷ moved 6 (codes "T") (codes "A") ∷ moved 7 (codes "B") (codes "T") ∷ []) ∷ []

-- T is read at line 6 and written at line 7
abbrev read_first : List StatementTree
read_first = mapped 4 (local_of_one 5 (codes "T") ∷ moved 6 (codes "B") (codes "T") ∷ moved 7 (codes "T") (codes "A") ∷ []) ∷ []

-- A, the entry, a tasklet, T, a tasklet that reads this T, the exit and B
an_array_that_was_written_has_an_access_node : lines_of written_first ≡ (4 ∷ 4 ∷ 6 ∷ 6 ∷ 7 ∷ 4 ∷ 4 ∷ []) ∷ []
an_array_that_was_written_has_an_access_node = refl

-- A, the entry, T, a tasklet that reads it, a tasklet, T again, the exit and B
an_array_that_is_read_first_has_two_access_nodes : lines_of read_first ≡ (4 ∷ 4 ∷ 6 ∷ 6 ∷ 7 ∷ 7 ∷ 4 ∷ 4 ∷ []) ∷ []
an_array_that_is_read_first_has_two_access_nodes = refl

as_many_as_the_limit_pass : nodes_over (of_state 7) (with_arrays written_first) ≡ None
as_many_as_the_limit_pass = refl

-- the last node is that of B, which is of the map
one_more_is_of_its_item : nodes_over (of_state 6) (with_arrays written_first) ≡ Some 4
one_more_is_of_its_item = refl

the_line_is_that_of_the_node_that_passes : nodes_over (of_state 4) (with_arrays written_first) ≡ Some 7
the_line_is_that_of_the_node_that_passes = refl

-- without the last line there are four nodes; with it, which reads A, the sixth one is the exit
abbrev read_later : List StatementTree
read_later = mapped 4 (set_to_one 5 (codes "B") ∷ moved 6 (codes "B") (codes "A") ∷ []) ∷ []

a_later_read_makes_a_node_before_its_item : lines_of read_later ≡ (4 ∷ 4 ∷ 5 ∷ 6 ∷ 4 ∷ 4 ∷ []) ∷ []
a_later_read_makes_a_node_before_its_item = refl

the_line_of_a_node_may_move_up : nodes_over (of_state 4) (with_arrays read_later) ≡ Some 4
the_line_of_a_node_may_move_up = refl

-- each statement of a function's own block has a state of its own, and there a current access node for none
states_have_nodes_of_their_own : lines_of (moved 4 (codes "B") (codes "A") ∷ moved 5 (codes "B") (codes "B") ∷ []) ≡ (4 ∷ 4 ∷ 4 ∷ []) ∷ (5 ∷ 5 ∷ 5 ∷ []) ∷ []
states_have_nodes_of_their_own = refl

-- an entry, 1,021 tasklets, an exit and B
thousand_and_twenty_four_nodes_pass : nodes_over node_limits (with_arrays (mapped 4 (ones 1021 5 (codes "B")) ∷ [])) ≡ None
thousand_and_twenty_four_nodes_pass = refl

one_more_does_not : nodes_over node_limits (with_arrays (mapped 4 (ones 1022 5 (codes "B")) ∷ [])) ≡ Some 4
one_more_does_not = refl

-- the entry and 1,023 tasklets are 1,024 nodes, so the next tasklet is one too many
the_thousand_and_twenty_fifth_node_tells : nodes_over node_limits (with_arrays (mapped 4 (ones 1100 5 (codes "B")) ∷ [])) ≡ Some 1028
the_thousand_and_twenty_fifth_node_tells = refl
