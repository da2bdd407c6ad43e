-- What has to come behind a line, and whether a line is what has to come.
use Rattle.std.specs.Prelude.{ℕ, nat_eq, Bool, true, false, not, ◌&&◌}
use Rattle.sd_lex.specs.PlainTree.{StatementTree, argument_array, map_scope, tasklet, for_loop, while_loop, branch, tasklet_branch}
use Rattle.sd_line.specs.line.Head.{HeadTree, program_decorator, program_head, statement_head, consume_decorator, consume_head, elif_head, else_head}
use Rattle.sd_phrase.specs.declared.reading.Reading.{Reading}
use Rattle.sd_phrase.specs.declared.reading.Reading.TheVariants.{TooDeep}
use Rattle.sd_context.specs.context.Context.{Awaited, nothing, block, function_def, consume_def}
use Rattle.sd_context.specs.declared.context.awaiting.Wanted.{Wanted}
use Rattle.sd_context.specs.declared.context.awaiting.Wanted.TheVariants.{Other, Program, Consume}

-- an argument is the last of its `def` so far, which awaits its block
abbrev pub statement_awaits : StatementTree → Awaited
statement_awaits (argument_array line name bits extents) = block
statement_awaits (map_scope line parameters ranges body) = block
statement_awaits (tasklet line body) = block
statement_awaits (for_loop line name begin end step body) = block
statement_awaits (while_loop line when body) = block
statement_awaits (branch line when body other) = block
statement_awaits (tasklet_branch line when body other) = block
statement_awaits other = nothing

-- what has to come behind a line with this number
abbrev pub awaited_behind : (line : ℕ) → HeadTree → Awaited
awaited_behind line program_decorator = function_def line
awaited_behind line (program_head name arguments) = block
awaited_behind line (statement_head s) = statement_awaits s
awaited_behind line (consume_decorator stream size) = consume_def line stream size
awaited_behind line (consume_head name element worker) = block
awaited_behind line (elif_head when) = block
awaited_behind line else_head = block
awaited_behind line other = nothing

-- a block opens where and only where one is awaited, and none ends before it or before a `def` that is awaited
abbrev pub comes_right : Awaited → (opens : Bool) → (closes : ℕ) → Bool
comes_right nothing opens closes = not opens
comes_right block opens closes = opens && nat_eq closes 0
comes_right (function_def line) opens closes = not opens && nat_eq closes 0
comes_right (consume_def line stream size) opens closes = not opens && nat_eq closes 0

-- the number against a line that does not come right; of one that is too deep nothing but this is judged
abbrev pub wrong_number : Reading HeadTree → ℕ
wrong_number TooDeep = 8
wrong_number read = 4

-- which `def` has to come, if any
abbrev pub wanted_of : Awaited → Wanted
wanted_of nothing = Other
wanted_of block = Other
wanted_of (function_def line) = Program
wanted_of (consume_def line stream size) = Consume

abbrev pub is_same_wanted : Wanted → Wanted → Bool
is_same_wanted Other Other = true
is_same_wanted Program Program = true
is_same_wanted Consume Consume = true
is_same_wanted a b = false

-- a `def` stands where and only where it is wanted
abbrev pub is_wanted : Wanted → HeadTree → Bool
is_wanted wanted (program_head name arguments) = is_same_wanted wanted Program
is_wanted wanted (consume_head name element worker) = is_same_wanted wanted Consume
is_wanted wanted head = is_same_wanted wanted Other
