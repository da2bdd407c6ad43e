-- Parts of sources for examples.
use Rattle.std.proofs.Common.{ℕ, zero, suc, ◌+◌, pos, List, [], ◌∷◌, Some, None, false, codes}
use Rattle.sd_lex.specs.PlainTree.{Expression, number, element_at, no_expression, and_expression, span, StatementTree, argument_array, local_array, assign, map_scope, call, Block, no_statement, and_statement, FunctionTree, ProgramTree}
use Rattle.sd_source.specs.nodes.Items.{Name}

abbrev pub first_of : Name → Expression
first_of name = element_at name (and_expression (number (pos 0)) no_expression)

-- `name[0] = from[0]`
abbrev pub moved : (line : ℕ) → (name from : Name) → StatementTree
moved line name from = assign line name (and_expression (number (pos 0)) no_expression) false (first_of from)

-- `name[0] = 1`
abbrev pub set_to_one : (line : ℕ) → Name → StatementTree
set_to_one line name = assign line name (and_expression (number (pos 0)) no_expression) false (number (pos 1))

abbrev pub local_of_one : (line : ℕ) → Name → StatementTree
local_of_one line name = local_array line name (and_expression (number (pos 1)) no_expression) 64

abbrev pub block : List StatementTree → Block
block [] = no_statement
block (first ∷ rest) = and_statement first (block rest)

-- `for i in dace.map[0:4]:`
abbrev pub mapped : (line : ℕ) → List StatementTree → StatementTree
mapped line body = map_scope line (codes "i" ∷ []) (span (Some (number (pos 0))) (Some (number (pos 4))) None ∷ []) (block body)

-- `f(A)`
abbrev pub call_with : (line : ℕ) → (name argument : Name) → StatementTree
call_with line name argument = call line name ((argument, []) ∷ [])

-- `A: dace.int64`, for each
abbrev pub arguments_of : List Name → List StatementTree
arguments_of [] = []
arguments_of (name ∷ names) = argument_array 2 name 64 no_expression ∷ arguments_of names

abbrev pub function_with : Name → (arguments : List Name) → List StatementTree → FunctionTree
function_with name arguments body = record { name = name; line = 1; arguments = block (arguments_of arguments); body = block body }

abbrev pub source_of : List FunctionTree → ProgramTree
source_of functions = record { symbols = []; functions = functions }

-- so many statements `name[0] = 1`, from this line on
abbrev pub ones : (count line : ℕ) → Name → List StatementTree
ones zero line name = []
ones (suc count) line name = set_to_one line name ∷ ones count (line + 1) name
