-- Where what a line says goes: to the file, to the arguments of the program, to the statements of its block, or to a block of its own.
use Rattle.std.specs.Prelude.{ℕ, ◌+◌, pos, List, [], ◌∷◌, ◌++◌, Bool, Option, Some, None, if◌then◌else◌}
use Rattle.sd_lex.specs.PlainTree.{Memlet, StatementTree, argument_array, reduce, map_scope, tasklet, for_loop, while_loop, branch, input, output, tasklet_branch}
use Rattle.sd_lex.specs.declared.syntax.memlet.Lambda.{Lambda}
use Rattle.sd_lex.specs.declared.syntax.memlet.Lambda.TheVariants.{Last}
use Rattle.sd_line.specs.declared.line.head.BlockKind.{BlockKind}
use Rattle.sd_line.specs.declared.line.head.BlockKind.TheVariants.{Program, Scope, Tasklet}
use Rattle.sd_line.specs.line.Head.{HeadTree, symbol_line, program_head, statement_head, reduce_head, input_head, output_head, consume_head}
use Rattle.sd_phrase.specs.Memlet.{LambdaTree, MemletTree}
use Rattle.sd_names.specs.Names.{Name}
use Rattle.sd_context.specs.declared.context.block.InForce.{InForce}
use Rattle.sd_context.specs.context.Context.{Context, Opener, function, statement, consumer, if_block, Awaited, function_def, consume_def}

-- a block of its own, so many scopes and loops deeper than the one about it
abbrev pub opened : InForce → Opener → BlockKind → (line : ℕ) → (deeper : ℕ) → Context → Context
opened before opener kind line deeper context = record context {
  block = record { opener = opener; kind = kind; line = line; depth = context.block.depth + deeper; before = before; statements = [] };
  outer = context.block ∷ context.outer;
}

abbrev pub with_statements : List StatementTree → Context → Context
with_statements statements context = record context { block = record context.block { statements = context.block.statements ++ statements } }

abbrev pub with_argument : StatementTree → Context → Context
with_argument argument context = record context { arguments = context.arguments ++ argument ∷ [] }

-- a statement goes to a block of its own with the statement as its opener, or it is one of the block in which it stands
abbrev pub statement_placed : InForce → (line : ℕ) → StatementTree → Context → Context
statement_placed before line (argument_array at name bits extents) context = with_argument (argument_array at name bits extents) context
statement_placed before line (map_scope at parameters ranges body) context = opened before (statement (map_scope at parameters ranges body)) Scope line 1 context
statement_placed before line (for_loop at name begin end step body) context = opened before (statement (for_loop at name begin end step body)) Program line 1 context
statement_placed before line (while_loop at when body) context = opened before (statement (while_loop at when body)) Program line 1 context
statement_placed before line (tasklet at body) context = opened before (statement (tasklet at body)) Tasklet line 0 context
statement_placed before line (branch at when body other) context = opened before (if_block [] when) Program line 0 context
statement_placed before line (tasklet_branch at when body other) context = opened before (if_block [] when) Tasklet line 0 context
statement_placed before line s context = with_statements (s ∷ []) context

abbrev pub kind_in : LambdaTree → Option Lambda
kind_in lambda = lambda.kind

abbrev pub kind_of : Option LambdaTree → Option Lambda
kind_of None = None
kind_of (Some lambda) = lambda.kind

-- what a connector moves, without the names of its lambda
abbrev pub memlet_of : MemletTree → Memlet
memlet_of memlet = record { name = memlet.name; volume = memlet.volume; lambda = kind_of memlet.lambda; dimensions = memlet.dimensions }

-- a lambda of no kind is refused before
abbrev pub lambda_or_last : Option Lambda → Lambda
lambda_or_last None = Last
lambda_or_last (Some lambda) = lambda

abbrev pub with_symbol : Name → Context → Context
with_symbol name context = record context { symbols = context.symbols ++ name ∷ [] }

-- a program's line is that of its decorator
abbrev pub decorator_line : Awaited → (line : ℕ) → ℕ
decorator_line (function_def at) line = at
decorator_line awaited line = line

-- a program begins without arguments
abbrev pub program_opened : InForce → (line : ℕ) → Name → Context → Context
program_opened before line name context = opened before (function name) Program line 0 (record context { arguments = [] })

-- a consume scope has what its decorator says
abbrev pub consumer_of : Awaited → (name element : Name) → (worker : Option Name) → Opener
consumer_of (consume_def line stream size) name element worker = consumer line stream size name element worker
consumer_of awaited name element worker = consumer 0 [] (pos 0) name element worker

abbrev pub consume_kind : (is_tasklet : Bool) → BlockKind
consume_kind is_tasklet = if is_tasklet then Tasklet else Scope

-- the context with what a line says, where this was awaited and so many names were in force before the line
abbrev pub placed : InForce → Awaited → (line : ℕ) → (is_tasklet : Bool) → HeadTree → Context → Context
placed before awaited line is_tasklet (symbol_line name quoted) context = with_symbol name context
placed before awaited line is_tasklet (program_head name arguments) context = program_opened before (decorator_line awaited line) name context
placed before awaited line is_tasklet (statement_head s) context = statement_placed before line s context
placed before awaited line is_tasklet (reduce_head lambda from to axis identity) context =
    with_statements (reduce line (lambda_or_last (kind_in lambda)) from to axis identity ∷ []) context
placed before awaited line is_tasklet (input_head connector memlet) context = with_statements (input line connector (memlet_of memlet) ∷ []) context
placed before awaited line is_tasklet (output_head connector memlet) context = with_statements (output line connector (memlet_of memlet) ∷ []) context
placed before awaited line is_tasklet (consume_head name element worker) context =
    opened before (consumer_of awaited name element worker) (consume_kind is_tasklet) line 1 context
placed before awaited line is_tasklet other context = context
