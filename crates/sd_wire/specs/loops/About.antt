-- How many loops there are about a state.
use Rattle.std.specs.Prelude.{ℕ, length, Bool, ◌&&◌}
use Rattle.std.specs.List.{filter, list_any}
use Rattle.sd_graph.specs.PlainTree.{StateTrees}
use Rattle.sd_graph.specs.TreeParts.{count_states, exits_at}
use Rattle.sd_graph.specs.LoopScope.{numbers_below, is_on_loop}
use Rattle.sd_wire.specs.loops.Marks.{returns_to}

-- a state is in a loop that begins at another, by a marked transition from this end
abbrev pub does_loop_from : StateTrees → (state begin end : ℕ) → Bool
does_loop_from states state begin end = list_any (returns_to begin) (exits_at states end) && is_on_loop states begin end state

-- by one from some end
abbrev pub is_in_loop : StateTrees → (state begin : ℕ) → Bool
is_in_loop states state begin = list_any (does_loop_from states state begin) (numbers_below (count_states states))

abbrev pub loops_about : StateTrees → (state : ℕ) → ℕ
loops_about states state = length (filter (is_in_loop states state) (numbers_below (count_states states)))
