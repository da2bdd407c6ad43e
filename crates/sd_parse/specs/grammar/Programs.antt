-- The grammar of programs: which program the lines of a text are, by what each line says.
use Rattle.std.specs.Prelude.{ℕ, ℤ, List, [], ◌∷◌, Bool, true, false, Option, Some, None, option_map, option_and_then, unwrap_or, Result, Ok, Err}
use Rattle.sd_lex.specs.declared.error.LexError.{LexError}
use Rattle.sd_lex.specs.declared.syntax.memlet.Lambda.TheVariants.{Last}
use Rattle.sd_lex.specs.declared.token.Token.{Token}
use Rattle.sd_lex.specs.Layout.{lexed}
use Rattle.sd_lex.specs.PlainTree.{Expression, Memlet, StatementTree, reduce, map_scope, tasklet, consume_scope, for_loop, while_loop, branch, input, output, tasklet_branch, Block, ProgramTree}
use Rattle.sd_lex.specs.TreeFold.{block_listed}
use Rattle.sd_line.specs.declared.line.head.BlockKind.{BlockKind}
use Rattle.sd_line.specs.declared.line.head.BlockKind.TheVariants.{Top, Program, Scope, Tasklet}
use Rattle.sd_line.specs.line.Head.{HeadTree, import_line, symbol_line, program_decorator, program_head, statement_head, reduce_head, input_head, output_head, consume_decorator, consume_head, elif_head, else_head}
use Rattle.sd_line.specs.lines.TokenLines.{lines_of_tokens}
use Rattle.sd_phrase.specs.declared.reading.Reading.{Reading}
use Rattle.sd_phrase.specs.declared.reading.Reading.TheVariants.{Form}
use Rattle.sd_phrase.specs.Memlet.{MemletTree}
use Rattle.sd_program.specs.Names.{Name}
use Rattle.sd_parse.specs.grammar.Outline.{Outline, no_line, and_line, connects_among, outline}

-- ---- statements

-- what a connector moves, without the names of its lambda
abbrev pub memlet_said : MemletTree → Memlet
memlet_said memlet = record { name = memlet.name; volume = memlet.volume; lambda = option_and_then (λ lambda. lambda.kind) memlet.lambda; dimensions = memlet.dimensions }

-- a line with the statements of its block, and with those of the `elif` or `else` behind that
abbrev pub statement_with : (line : ℕ) → HeadTree → (body other : List StatementTree) → Option StatementTree
statement_with line (statement_head (map_scope at parameters ranges empty)) body [] = Some (map_scope at parameters ranges (block_listed body))
statement_with line (statement_head (tasklet at empty)) body [] = Some (tasklet at (block_listed body))
statement_with line (statement_head (for_loop at name begin end step empty)) body [] = Some (for_loop at name begin end step (block_listed body))
statement_with line (statement_head (while_loop at when empty)) body [] = Some (while_loop at when (block_listed body))
statement_with line (statement_head (branch at when empty none)) body other = Some (branch line when (block_listed body) (block_listed other))
statement_with line (statement_head (tasklet_branch at when empty none)) body other = Some (tasklet_branch line when (block_listed body) (block_listed other))
statement_with line (statement_head s) [] [] = Some s
statement_with line (reduce_head lambda from to axis identity) [] [] = Some (reduce line (unwrap_or lambda.kind Last) from to axis identity)
statement_with line (input_head connector memlet) [] [] = Some (input line connector (memlet_said memlet))
statement_with line (output_head connector memlet) [] [] = Some (output line connector (memlet_said memlet))
statement_with line head body other = None

-- the kind of the block below a line, which stands in one of this kind; that of a consume scope is a tasklet where a connector line stands in it
abbrev pub kind_below : BlockKind → (connects : Bool) → HeadTree → BlockKind
kind_below kind connects (statement_head (map_scope at parameters ranges empty)) = Scope
kind_below kind connects (statement_head (tasklet at empty)) = Tasklet
kind_below kind connects (statement_head (tasklet_branch at when empty none)) = Tasklet
kind_below kind connects (statement_head s) = Program
kind_below kind true (consume_head name element worker) = Tasklet
kind_below kind false (consume_head name element worker) = Scope
kind_below kind connects head = kind

-- ---- blocks

-- what lines of one depth say: their statements, behind those of the `elif` or `else` with which they begin
pub record Siblings : Type 0 where
  pub other : List StatementTree
  pub statements : List StatementTree

-- a consume's decorator: its line, its stream and its number
abbrev pub Decorator : Type 0
Decorator = ℕ × (Name × ℤ)

-- the decorator that a line is
abbrev pub decorator_of : (line : ℕ) → HeadTree → Option Decorator
decorator_of line (consume_decorator stream size) = Some (line, (stream, size))
decorator_of line head = None

-- the statements of a block, which begins with no `elif` or `else`
abbrev pub statements_of : Siblings → Option (List StatementTree)
statements_of siblings = if_none siblings.other siblings.statements where
  if_none : (other statements : List StatementTree) → Option (List StatementTree)
  if_none [] statements = Some statements
  if_none other statements = None

-- an `elif` is an `if` behind the `else`
abbrev pub branch_in : BlockKind → (line : ℕ) → (when : Expression) → (body other : Block) → StatementTree
branch_in Tasklet line when body other = tasklet_branch line when body other
branch_in kind line when body other = branch line when body other

-- a statement before others
abbrev pub statement_before : (statements : List StatementTree) → StatementTree → Siblings
statement_before statements s = record { other = []; statements = s ∷ statements }

-- a line of a block, with its own block and with what the lines behind it say; a `def` stands behind the decorator of a consume scope
abbrev pub siblings_with : BlockKind → Option Decorator → (line : ℕ) → HeadTree → (body other statements : List StatementTree) → Option Siblings
siblings_with kind (Some decorator) line (consume_head name element worker) body [] statements =
    Some (statement_before statements (consume_scope decorator.0 decorator.1.0 decorator.1.1 name element worker (block_listed body)))
siblings_with kind None line (consume_decorator stream size) [] [] statements = Some (record { other = []; statements = statements })
siblings_with kind None line (elif_head when) body other statements =
    Some (record { other = branch_in kind line when (block_listed body) (block_listed other) ∷ []; statements = statements })
siblings_with kind None line else_head body [] statements = Some (record { other = body; statements = statements })
siblings_with kind None line head body other statements = option_map (statement_before statements) (statement_with line head body other)
siblings_with kind decorator line head body other statements = None

-- a line that says one of the forms, with the lines below it and those behind these
abbrev pub siblings_by : BlockKind → Option Decorator → (line : ℕ) → Reading HeadTree → (below : HeadTree → Option Siblings) → (behind : HeadTree → Option Siblings) → Option Siblings
siblings_by kind decorator line (Form head) below behind =
    option_and_then (λ body. option_and_then (λ (next : Siblings). siblings_with kind decorator line head body next.other next.statements) (behind head))
    (option_and_then statements_of (below head))
siblings_by kind decorator line read below behind = None

-- the lines of one depth in a block of this kind, behind a decorator or not; None where one of them has no place there
abbrev pub siblings : BlockKind → Outline → Option Decorator → Option Siblings
siblings kind no_line None = Some (record { other = []; statements = [] })
siblings kind no_line (Some decorator) = None
siblings kind (and_line depth line below behind) decorator =
    siblings_by kind decorator line.number (line.head kind)
    (λ head. siblings (kind_below kind (connects_among below) head) below None)
    (λ head. siblings kind behind (decorator_of line.number head))

-- the block of a line: all the lines below it
abbrev pub block_of : BlockKind → Outline → Option (List StatementTree)
block_of kind lines = option_and_then statements_of (siblings kind lines None)

-- ---- files

-- the `@dace.program` that a line is, by its number
abbrev pub program_line : (line : ℕ) → HeadTree → Option ℕ
program_line line program_decorator = Some line
program_line line head = None

-- a line outside all blocks, with its own block, before the rest of a program; a `def` stands behind `@dace.program`
abbrev pub file_with : Option ℕ → HeadTree → (body : List StatementTree) → ProgramTree → Option ProgramTree
file_with None import_line [] rest = Some rest
file_with None (symbol_line name quoted) [] rest = Some (record { symbols = name ∷ rest.symbols; functions = rest.functions })
file_with None program_decorator [] rest = Some rest
file_with (Some at) (program_head name arguments) body rest = Some (record {
  symbols = rest.symbols;
  functions = record { name = name; line = at; arguments = arguments; body = block_listed body } ∷ rest.functions;
})
file_with decorator head body rest = None

-- a line outside all blocks that says one of the forms, with its block and the lines behind it
abbrev pub file_by : Option ℕ → Reading HeadTree → (body : Option (List StatementTree)) → (behind : HeadTree → Option ProgramTree) → Option ProgramTree
file_by decorator (Form head) body behind = option_and_then (λ statements. option_and_then (file_with decorator head statements) (behind head)) body
file_by decorator read body behind = None

-- the lines outside all blocks, behind `@dace.program` or not
abbrev pub file_tree : Outline → Option ℕ → Option ProgramTree
file_tree no_line None = Some (record { symbols = []; functions = [] })
file_tree no_line (Some decorator) = None
file_tree (and_line depth line below behind) decorator =
    file_by decorator (line.head Top) (block_of Program below) (λ head. file_tree behind (program_line line.number head))

-- ---- texts

-- a text that cannot be cut into tokens is none
abbrev pub tree_of_tokens : (text : List ℕ) → Result (List Token) LexError → Option ProgramTree
tree_of_tokens text (Ok tokens) = file_tree (outline 0 (lines_of_tokens text tokens)) None
tree_of_tokens text (Err error) = None

-- the program that a text is, whether or not something stands against it
abbrev pub tree_of : (text : List ℕ) → Option ProgramTree
tree_of text = tree_of_tokens text (lexed text)
