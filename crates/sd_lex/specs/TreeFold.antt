-- The plain trees of the code's values, as folds: one layer, with the plain trees of its children in their places.
use Rattle.std.specs.Prelude.{ℕ, List, [], ◌∷◌, map, option_map, String, string_bytes}
use Rattle.std.specs.declared.alloc.Global.{Global}
use Rattle.std.specs.declared.vec.Vec.{Vec}
use Rattle.sd_lex.specs.PlainTree.{Expression, number, named, element_at, one, two, choice, Expressions, no_expression, and_expression, Dimension, index, span, Memlet, StatementTree, argument_array, local_array, local_stream, assign, copy, reduce, map_scope, tasklet, consume_scope, call, for_loop, while_loop, branch, input, output, set, set_at, tasklet_branch, Block, no_statement, and_statement, FunctionTree, ProgramTree}
use Rattle.sd_lex.specs.declared.syntax.expression.Expr.{Expr}
use Rattle.sd_lex.specs.declared.syntax.expression.Expr.TheOpen.{Expr-F, Number, Name, Element, One, Two, Choice}
use Rattle.sd_lex.specs.declared.syntax.expression.Expr.TheFolds.{fold-Expr}
use Rattle.sd_lex.specs.declared.syntax.memlet.Slot.{Slot}
use Rattle.sd_lex.specs.declared.syntax.memlet.Slot.TheVariants.{Index, Span}
use Rattle.sd_lex.specs.declared.syntax.memlet.Moved.{Moved}
use Rattle.sd_lex.specs.declared.syntax.statement.Statement.{Statement}
use Rattle.sd_lex.specs.declared.syntax.statement.Statement.TheOpen.{Statement-F, Argument, Local, Stream, Assign, Copy, Reduce, Map, Tasklet, Consume, Call, For, While, If, Input, Output, Set, SetAt, When}
use Rattle.sd_lex.specs.declared.syntax.statement.Statement.TheFolds.{fold-Statement}
use Rattle.sd_lex.specs.declared.syntax.program.Function.{Function}
use Rattle.sd_lex.specs.declared.syntax.program.Program.{Program}

-- a list of expressions as a part of a plain tree
abbrev pub expressions_listed : List Expression → Expressions
expressions_listed [] = no_expression
expressions_listed (first ∷ rest) = and_expression first (expressions_listed rest)

-- one layer of an expression
abbrev pub expression_step : Expr-F Expression → Expression
expression_step (Number value) = number value
expression_step (Name name) = named (string_bytes name)
expression_step (Element name at) = element_at (string_bytes name) (expressions_listed at.items)
expression_step (One sign of) = one sign of.value
expression_step (Two sign left right) = two sign left.value right.value
expression_step (Choice value when other) = choice value.value when.value other.value

-- the plain tree of an expression
abbrev pub expression_of : Expr → Expression
expression_of = fold-Expr Expression expression_step

-- the plain trees of a list of expressions
abbrev pub expressions_of : List Expr → Expressions
expressions_of expressions = expressions_listed (map expression_of expressions)

-- the plain form of a slot
abbrev pub dimension_of : Slot → Dimension
dimension_of (Index at) = index (expression_of at)
dimension_of (Span begin end step) = span (option_map expression_of begin) (option_map expression_of end) step

-- the plain forms of a list of slots
abbrev pub dimensions_of : List Slot → List Dimension
dimensions_of slots = map dimension_of slots

-- the plain form of what a connector moves
abbrev pub memlet_of : Moved → Memlet
memlet_of moved = record { name = string_bytes moved.name; volume = moved.volume; lambda = moved.lambda; dimensions = dimensions_of moved.dims.items }

-- an argument of a call: a container and its subset
abbrev pub call_argument_of : String Global × Vec Slot Global → List ℕ × List Dimension
call_argument_of passed = (string_bytes passed.0, dimensions_of passed.1.items)

-- a list of statements as a part of a plain tree
abbrev pub block_listed : List StatementTree → Block
block_listed [] = no_statement
block_listed (first ∷ rest) = and_statement first (block_listed rest)

-- one layer of a statement
abbrev pub statement_step : Statement-F StatementTree → StatementTree
statement_step (Argument line name bits extents) = argument_array line (string_bytes name) bits (expressions_of extents.items)
statement_step (Local line name extents bits) = local_array line (string_bytes name) (expressions_of extents.items) bits
statement_step (Stream line name bits size) = local_stream line (string_bytes name) bits size
statement_step (Assign line name at add value) = assign line (string_bytes name) (expressions_of at.items) add (expression_of value)
statement_step (Copy line to to_dims from from_dims) = copy line (string_bytes to) (dimensions_of to_dims.items) (string_bytes from) (dimensions_of from_dims.items)
statement_step (Reduce line lambda from to axis identity) = reduce line lambda (string_bytes from) (string_bytes to) axis identity
statement_step (Map line params ranges body) = map_scope line (map string_bytes params.items) (dimensions_of ranges.items) (block_listed body.items)
statement_step (Tasklet line body) = tasklet line (block_listed body.items)
statement_step (Consume line stream size name element worker body) = consume_scope line (string_bytes stream) size (string_bytes name) (string_bytes element) (option_map string_bytes worker) (block_listed body.items)
statement_step (Call line name arguments) = call line (string_bytes name) (map call_argument_of arguments.items)
statement_step (For line name begin end step body) = for_loop line (string_bytes name) (option_map expression_of begin) (expression_of end) step (block_listed body.items)
statement_step (While line when body) = while_loop line (expression_of when) (block_listed body.items)
statement_step (If line when body other) = branch line (expression_of when) (block_listed body.items) (block_listed other.items)
statement_step (Input line connector memlet) = input line (string_bytes connector) (memlet_of memlet)
statement_step (Output line connector memlet) = output line (string_bytes connector) (memlet_of memlet)
statement_step (Set line name value) = set line (string_bytes name) (expression_of value)
statement_step (SetAt line name at value) = set_at line (string_bytes name) (expressions_of at.items) (expression_of value)
statement_step (When line when body other) = tasklet_branch line (expression_of when) (block_listed body.items) (block_listed other.items)

-- the plain tree of a statement
abbrev pub statement_of : Statement → StatementTree
statement_of = fold-Statement StatementTree statement_step

-- the plain trees of a list of statements
abbrev pub block_of : List Statement → Block
block_of statements = block_listed (map statement_of statements)

-- the plain tree of a function
abbrev pub function_of : Function → FunctionTree
function_of function = record { name = string_bytes function.name; line = function.line; arguments = block_of function.arguments.items; body = block_of function.body.items }

-- the plain tree of a source
abbrev pub program_of : Program → ProgramTree
program_of program = record { symbols = map string_bytes program.symbols.items; functions = map function_of program.functions.items }
