-- What a statement says of itself.
use Rattle.std.specs.Prelude.{ℕ, Bool, true, false, ◌||◌}
use Rattle.sd_lex.specs.PlainTree.{StatementTree, argument_array, local_array, local_stream, assign, copy, reduce, map_scope, tasklet, consume_scope, call, for_loop, while_loop, branch, input, output, set, set_at, tasklet_branch, Block, no_statement, and_statement}

-- the line of its logical line
abbrev pub line_of : StatementTree → ℕ
line_of (argument_array line name bits extents) = line
line_of (local_array line name extents bits) = line
line_of (local_stream line name bits size) = line
line_of (assign line name at add value) = line
line_of (copy line to to_dimensions from from_dimensions) = line
line_of (reduce line lambda from to axis identity) = line
line_of (map_scope line parameters ranges body) = line
line_of (tasklet line body) = line
line_of (consume_scope line stream size name element worker body) = line
line_of (call line name arguments) = line
line_of (for_loop line name begin end step body) = line
line_of (while_loop line when body) = line
line_of (branch line when body other) = line
line_of (input line connector memlet) = line
line_of (output line connector memlet) = line
line_of (set line name value) = line
line_of (set_at line name at value) = line
line_of (tasklet_branch line when body other) = line

-- it declares a connector of a tasklet
abbrev pub is_connector : StatementTree → Bool
is_connector (input line connector memlet) = true
is_connector (output line connector memlet) = true
is_connector other = false

-- one of the statements declares a connector, those of inner blocks aside
abbrev pub has_connector : Block → Bool
has_connector no_statement = false
has_connector (and_statement first rest) = is_connector first || has_connector rest
