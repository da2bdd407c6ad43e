-- What open blocks come to is the same before and behind the end of a block, and where an `if` goes on; and what the lines of a file come to.
use Rattle.std.proofs.Common.{◌≡◌, ◌∙◌, ℕ, List, [], ◌∷◌, ◌++◌, length, Bool, true, false, Option, Some, None, refl, ap, sym, arith}
use Rattle.std.specs.Prelude.{option_map, option_and_then, ⊤}
use Rattle.sd_lex.specs.PlainTree.{Expression, StatementTree, argument_array, Block, no_statement, and_statement, FunctionTree, ProgramTree}
use Rattle.sd_lex.specs.TreeFold.{block_listed}
use Rattle.sd_line.specs.declared.line.head.BlockKind.{BlockKind}
use Rattle.sd_line.specs.declared.line.head.BlockKind.TheVariants.{Top, Program, Scope, Tasklet}
use Rattle.sd_line.specs.line.Head.{HeadTree, import_line, symbol_line, program_decorator, program_head, statement_head, reduce_head, input_head, output_head, consume_decorator, consume_head, elif_head, else_head}
use Rattle.sd_line.specs.lines.Lines.{Line}
use Rattle.sd_program.specs.Names.{Name}
use Rattle.sd_phrase.specs.declared.reading.Reading.TheVariants.{Form}
use Rattle.sd_context.specs.blocks.Closing.{branch_with, nested, branches_with, finished_by, closed_by}
use Rattle.sd_context.specs.blocks.Continuing.{is_elif_or_else, next_opener}
use Rattle.sd_context.specs.blocks.Judging.{statement_heads, steps_of, judged_one, judged_all}
use Rattle.sd_context.specs.context.Awaiting.{wanted_of, is_same_wanted, is_wanted, awaited_behind}
use Rattle.sd_context.specs.declared.context.awaiting.Wanted.TheVariants.{Other}
use Rattle.sd_context.specs.context.Context.{Branch, Opener, file, function, statement, consumer, if_block, else_block, OpenBlock, Awaited, nothing, block, function_def, consume_def, Context}
use Rattle.sd_parse.specs.grammar.Outline.{Outline, no_line, and_line, deeper, outside, connects_among}
use Rattle.sd_parse.specs.grammar.Programs as grammar
use Rattle.sd_parse.specs.grammar.Programs.{Siblings, Decorator, statement_with, kind_below, decorator_of, branch_in, statements_of, statement_before, siblings_with, siblings_by, siblings, block_of, program_line, file_with, file_by}
use Rattle.sd_parse.proofs.grammar_lemmas.Outlines.{deeper_out, outside_out}
use Rattle.sd_parse.proofs.grammar_lemmas.Completing.{Ending, none_ends, ended_by, leaves, complete, stands, file_more, joined, nothing_behind, one_leaves, IsFree, ended_same}
use Rattle.sd_parse.proofs.grammar_lemmas.Passing.{false_is, no_names, no_def, SaysBlock, opens, Follows}

-- ---- an `elif` or `else`

nested_last : (kind : BlockKind) (branches : List Branch) (last : Branch) (other : List StatementTree) → nested kind (branches ++ last ∷ []) other ≡ nested kind branches (branch_with kind last (block_listed other) ∷ [])
nested_last kind [] last other = refl
nested_last kind (b ∷ branches) last other = ap (λ inner. branch_with kind b (block_listed inner) ∷ []) (nested_last kind branches last other)

same_branch : (kind : BlockKind) (line : ℕ) (when : Expression) (body : List StatementTree) (other : Block) → branch_with kind (record { line = line; when = when; statements = body }) other ≡ branch_in kind line when (block_listed body) other
same_branch Top line when body other = refl
same_branch Program line when body other = refl
same_branch Scope line when body other = refl
same_branch Tasklet line when body other = refl

module _ (c : Context) (b about : OpenBlock) (outer : List OpenBlock) (line : Line) (rest : Outline) (earlier : List Branch) (when : Expression) where
  abbrev branches : List Branch
  branches = branches_with earlier (record { line = c.block.line; when = when; statements = c.block.statements })

  abbrev depth : ℕ
  depth = length (about ∷ outer)

  abbrev node : Outline
  node = and_line depth line (deeper depth rest) (outside depth rest)

  abbrev ending : Ending
  ending = ended_by c.block.kind c.block.line (if_block earlier when) c.block.statements

  -- the block ends, and what goes on with it is awaited
  branch_ends : c.block.opener ≡ if_block earlier when → complete c.symbols c.functions c.arguments none_ends c.block (b ∷ about ∷ outer) nothing node ≡ complete c.symbols c.functions c.arguments ending b (about ∷ outer) nothing node
  branch_ends is =
      one_leaves c b (about ∷ outer) node (deeper_out depth depth line (deeper depth rest) (outside depth rest) (omega arith)) (outside_out depth depth line (deeper depth rest) (outside depth rest) (omega arith))
      ∙ ap (λ opener. leaves opener c.block.kind c.block.line c.block.statements c.functions c.arguments (λ functions arguments ending. complete c.symbols functions arguments ending b (about ∷ outer) nothing node)) is

  goes_on_with : (head : HeadTree) → line.head b.kind ≡ Form head → kind_below b.kind (connects_among (deeper depth rest)) head ≡ c.block.kind → is_elif_or_else head ≡ true →
      SaysBlock b.kind None line.number head c.block.kind (next_opener branches head) ending →
      complete c.symbols c.functions c.arguments ending b (about ∷ outer) nothing node
      ≡ complete c.symbols c.functions c.arguments none_ends (record { opener = next_opener branches head; kind = c.block.kind; line = line.number; depth = 0; before = no_names; statements = [] }) (b ∷ about ∷ outer) block rest
  goes_on_with (elif_head next) says below is same =
      opens (record c { block = b }) about outer line rest false ending nothing (elif_head next) None c.block.kind (if_block branches next) says refl refl below same (λ kind line statements functions arguments go. refl)
  goes_on_with else_head says below is same =
      opens (record c { block = b }) about outer line rest false ending nothing else_head None c.block.kind (else_block branches) says refl refl below same (λ kind line statements functions arguments go. refl)
  goes_on_with head says below is same = false_is is

  pub pass_other : (head : HeadTree) → line.head b.kind ≡ Form head → is_elif_or_else head ≡ true → c.block.opener ≡ if_block earlier when → c.block.kind ≡ b.kind →
      complete c.symbols c.functions c.arguments none_ends c.block (b ∷ about ∷ outer) nothing node
      ≡ complete c.symbols c.functions c.arguments none_ends (record { opener = next_opener branches head; kind = c.block.kind; line = line.number; depth = 0; before = no_names; statements = [] }) (b ∷ about ∷ outer) block rest
  pass_other (elif_head next) says is opened kind = branch_ends opened ∙ goes_on_with (elif_head next) says (sym kind) refl same where
    same : SaysBlock b.kind None line.number (elif_head next) c.block.kind (if_block branches next) ending
    same body other others go statements =
        ap (λ last. go (statements ++ (last ++ others)))
        (ap (λ (in_kind : BlockKind). nested c.block.kind branches (branch_in in_kind line.number next (block_listed body) (block_listed other) ∷ [])) (sym kind)
        ∙ ap (λ last. nested c.block.kind branches (last ∷ [])) (sym (same_branch c.block.kind line.number next body (block_listed other)))
        ∙ sym (nested_last c.block.kind branches (record { line = line.number; when = next; statements = body }) other))
  pass_other else_head says is opened kind = branch_ends opened ∙ goes_on_with else_head says (sym kind) refl same where
    same : SaysBlock b.kind None line.number else_head c.block.kind (else_block branches) ending
    same body [] others go statements = refl
    same body (s ∷ other) others go statements = refl
  pass_other head says is opened kind = false_is is

-- ---- a block that ends

-- in this block nothing goes on with what ends
abbrev pub EndsFree : OpenBlock → Outline → List OpenBlock → Type 0
EndsFree b lines [] = ⊤
EndsFree b lines (about ∷ outer) = IsFree (siblings b.kind (deeper (length outer) lines) None)

module _ (c : Context) (b : OpenBlock) (outer : List OpenBlock) (lines : Outline) where
  ended_in : (outer : List OpenBlock) → EndsFree b lines outer → (kind : BlockKind) (line : ℕ) (opener : Opener) (last : List StatementTree) →
      complete c.symbols c.functions c.arguments (ended_by kind line opener last) b outer nothing lines
      ≡ complete c.symbols c.functions c.arguments none_ends (record b { statements = b.statements ++ finished_by kind line opener last }) outer nothing lines
  ended_in [] free kind line opener last = refl
  ended_in (about ∷ outer) free kind line opener last =
      ended_same
      (λ statements. leaves b.opener b.kind b.line statements c.functions c.arguments (λ functions arguments ending. complete c.symbols functions arguments ending about outer nothing (outside (length outer) lines)))
      b.statements kind line opener last (siblings b.kind (deeper (length outer) lines) None) free

  ended_with : (opener : Opener) → EndsFree b lines outer → (let now : Context = record c { block = record c.block { opener = opener }; outer = b ∷ outer; awaited = nothing } in
      leaves opener c.block.kind c.block.line c.block.statements c.functions c.arguments (λ functions arguments ending. complete c.symbols functions arguments ending b outer nothing lines) ≡ stands (closed_by opener b outer now) lines)
  ended_with file free = ended_in outer free c.block.kind c.block.line file c.block.statements
  ended_with (function name) free = refl
  ended_with (statement s) free = ended_in outer free c.block.kind c.block.line (statement s) c.block.statements
  ended_with (consumer at stream size name element worker) free = ended_in outer free c.block.kind c.block.line (consumer at stream size name element worker) c.block.statements
  ended_with (if_block earlier when) free = ended_in outer free c.block.kind c.block.line (if_block earlier when) c.block.statements
  ended_with (else_block earlier) free = ended_in outer free c.block.kind c.block.line (else_block earlier) c.block.statements

  pub one_closed : deeper (length outer) lines ≡ no_line → outside (length outer) lines ≡ lines → EndsFree b lines outer → (let now : Context = record c { outer = b ∷ outer; awaited = nothing } in
      stands now lines ≡ stands (closed_by c.block.opener b outer now) lines)
  one_closed none all free = one_leaves c b outer lines none all ∙ ended_with c.block.opener free

-- a line that is no `elif` or `else` goes on with nothing
pub line_free : (kind : BlockKind) (line : ℕ) (head : HeadTree) (below behind : HeadTree → Option Siblings) → is_elif_or_else head ≡ false → IsFree (siblings_by kind None line (Form head) below behind)
line_free kind line head below behind plain = by_below (option_and_then statements_of (below head)) (behind head) where
  alone_free : (statements : List StatementTree) (s : Option StatementTree) → IsFree (option_map (statement_before statements) s)
  alone_free statements None = tt
  alone_free statements (Some s) = refl

  by_head : (head : HeadTree) → is_elif_or_else head ≡ false → (body other statements : List StatementTree) → IsFree (siblings_with kind None line head body other statements)
  by_head (elif_head when) plain body other statements = false_is (sym plain)
  by_head else_head plain body other statements = false_is (sym plain)
  by_head (consume_decorator stream size) plain [] [] statements = refl
  by_head (consume_decorator stream size) plain [] (s ∷ other) statements = tt
  by_head (consume_decorator stream size) plain (s ∷ body) other statements = tt
  by_head import_line plain body other statements = alone_free statements (statement_with line import_line body other)
  by_head (symbol_line name quoted) plain body other statements = alone_free statements (statement_with line (symbol_line name quoted) body other)
  by_head program_decorator plain body other statements = alone_free statements (statement_with line program_decorator body other)
  by_head (program_head name arguments) plain body other statements = alone_free statements (statement_with line (program_head name arguments) body other)
  by_head (statement_head s) plain body other statements = alone_free statements (statement_with line (statement_head s) body other)
  by_head (reduce_head lambda from to axis identity) plain body other statements = alone_free statements (statement_with line (reduce_head lambda from to axis identity) body other)
  by_head (input_head connector memlet) plain body other statements = alone_free statements (statement_with line (input_head connector memlet) body other)
  by_head (output_head connector memlet) plain body other statements = alone_free statements (statement_with line (output_head connector memlet) body other)
  by_head (consume_head name element worker) plain body other statements = alone_free statements (statement_with line (consume_head name element worker) body other)

  by_below : (body : Option (List StatementTree)) (next : Option Siblings) →
      IsFree (option_and_then (λ body. option_and_then (λ (next : Siblings). siblings_with kind None line head body next.other next.statements) next) body)
  by_below None next = tt
  by_below (Some body) None = tt
  by_below (Some body) (Some next) = by_head head plain body next.other next.statements

-- ---- the lines of a file

abbrev IsOneArgument : StatementTree → Type 0
IsOneArgument (argument_array line name bits extents) = ⊤
IsOneArgument s = ⊥

abbrev pub EachArgument : Block → Type 0
EachArgument no_statement = ⊤
EachArgument (and_statement s rest) = IsOneArgument s × EachArgument rest

-- what a line may say outside all blocks
abbrev pub IsOfFile : HeadTree → Type 0
IsOfFile import_line = ⊤
IsOfFile (symbol_line name quoted) = ⊤
IsOfFile program_decorator = ⊤
IsOfFile (program_head name arguments) = EachArgument arguments
IsOfFile head = ⊥

abbrev statements_in : Block → List StatementTree
statements_in no_statement = []
statements_in (and_statement s rest) = s ∷ statements_in rest

listed_again : (statements : Block) → block_listed (statements_in statements) ≡ statements
listed_again no_statement = refl
listed_again (and_statement s rest) = ap (and_statement s) (listed_again rest)

arguments_after : (line : ℕ) (is_task : Bool) (rest : Outline) (arguments : Block) (so_far : Option ℕ × Context) → EachArgument arguments → so_far.1.awaited ≡ block →
    stands (judged_all line is_task so_far (statement_heads arguments)).1 rest
    ≡ complete so_far.1.symbols so_far.1.functions (so_far.1.arguments ++ statements_in arguments) none_ends so_far.1.block so_far.1.outer block rest
arguments_after line is_task rest no_statement so_far each is =
    ap (λ awaited. complete so_far.1.symbols so_far.1.functions so_far.1.arguments none_ends so_far.1.block so_far.1.outer awaited rest) is
    ∙ ap (λ arguments. complete so_far.1.symbols so_far.1.functions arguments none_ends so_far.1.block so_far.1.outer block rest) (sym (nothing_behind so_far.1.arguments))
arguments_after line is_task rest (and_statement (argument_array at name bits extents) more) so_far each is =
    arguments_after line is_task rest more (judged_one line is_task so_far (statement_head (argument_array at name bits extents))) each.1 refl
    ∙ ap (λ arguments. complete so_far.1.symbols so_far.1.functions arguments none_ends so_far.1.block so_far.1.outer block rest) (joined so_far.1.arguments (argument_array at name bits extents ∷ []) (statements_in more))
arguments_after line is_task rest (and_statement s more) so_far each is = absurd each.0

module _ (c : Context) (line : Line) (rest : Outline) (is_task : Bool) where
  abbrev file_node : Outline
  file_node = and_line 0 line (deeper 0 rest) (outside 0 rest)

  abbrev now : Awaited → Context
  now awaited = record c { outer = []; awaited = awaited }

  -- a line that opens no block
  file_shut : (awaited : Awaited) (head : HeadTree) → line.head Top ≡ Form head → is_same_wanted (wanted_of awaited) Other ≡ true → (deeper 0 rest ≡ no_line) × (outside 0 rest ≡ rest) →
      complete c.symbols c.functions c.arguments none_ends c.block [] awaited file_node
      ≡ file_more c.symbols c.functions (option_and_then (file_with None head []) (grammar.file_tree rest (program_line line.number head)))
  file_shut awaited head says free shut =
      ap (λ decorator. file_more c.symbols c.functions (file_by decorator (line.head Top) (block_of Program (deeper 0 rest)) (λ head. grammar.file_tree (outside 0 rest) (program_line line.number head)))) (no_def awaited free)
      ∙ ap (λ read. file_more c.symbols c.functions (file_by None read (block_of Program (deeper 0 rest)) (λ head. grammar.file_tree (outside 0 rest) (program_line line.number head)))) says
      ∙ ap (λ (below : Outline). file_more c.symbols c.functions (option_and_then (λ statements. option_and_then (file_with None head statements) (grammar.file_tree (outside 0 rest) (program_line line.number head))) (block_of Program below))) shut.0
      ∙ ap (λ (behind : Outline). file_more c.symbols c.functions (option_and_then (file_with None head []) (grammar.file_tree behind (program_line line.number head)))) shut.1

  -- a program
  file_opens : (at : ℕ) (name : Name) (arguments : Block) → line.head Top ≡ Form (program_head name arguments) →
      complete c.symbols c.functions c.arguments none_ends c.block [] (function_def at) file_node
      ≡ complete c.symbols c.functions (statements_in arguments) none_ends (record { opener = function name; kind = Program; line = at; depth = 0; before = no_names; statements = [] }) (c.block ∷ []) block rest
  file_opens at name arguments says =
      ap (λ read. file_more c.symbols c.functions (file_by (Some at) read (block_of Program (deeper 0 rest)) (λ head. grammar.file_tree (outside 0 rest) (program_line line.number head)))) says
      ∙ by_body (siblings Program (deeper 0 rest) None) where
        go : List StatementTree → Option ProgramTree
        go statements = file_more c.symbols (c.functions ++ record { name = name; line = at; arguments = block_listed (statements_in arguments); body = block_listed statements } ∷ []) (grammar.file_tree (outside 0 rest) None)

        by_rest : (body : List StatementTree) (behind : Option ProgramTree) → file_more c.symbols c.functions (option_and_then (file_with (Some at) (program_head name arguments) body) behind)
            ≡ file_more c.symbols (c.functions ++ record { name = name; line = at; arguments = block_listed (statements_in arguments); body = block_listed body } ∷ []) behind
        by_rest body None = refl
        by_rest body (Some behind) =
            ap (λ (functions : List FunctionTree). Some (record { symbols = c.symbols ++ behind.symbols; functions = functions }))
            (ap (λ (arguments : Block). c.functions ++ (record { name = name; line = at; arguments = arguments; body = block_listed body } ∷ behind.functions)) (sym (listed_again arguments))
            ∙ sym (joined c.functions (record { name = name; line = at; arguments = block_listed (statements_in arguments); body = block_listed body } ∷ []) behind.functions))

        by_other : (other body : List StatementTree) → (let inner : Siblings = record { other = other; statements = body } in
            file_more c.symbols c.functions (option_and_then (λ body. option_and_then (file_with (Some at) (program_head name arguments) body) (grammar.file_tree (outside 0 rest) None)) (statements_of inner))
            ≡ option_and_then (λ done. file_more c.symbols (c.functions ++ record { name = name; line = at; arguments = block_listed (statements_in arguments); body = block_listed ([] ++ (done ++ body)) } ∷ []) (grammar.file_tree (outside 0 rest) None)) (none_ends other))
        by_other [] body = by_rest body (grammar.file_tree (outside 0 rest) None)
        by_other (s ∷ other) body = refl

        by_body : (siblings : Option Siblings) →
            file_more c.symbols c.functions (option_and_then (λ body. option_and_then (file_with (Some at) (program_head name arguments) body) (grammar.file_tree (outside 0 rest) None)) (option_and_then statements_of siblings))
            ≡ option_and_then (λ (inner : Siblings). option_and_then (λ done. file_more c.symbols (c.functions ++ record { name = name; line = at; arguments = block_listed (statements_in arguments); body = block_listed ([] ++ (done ++ inner.statements)) } ∷ []) (grammar.file_tree (outside 0 rest) None)) (none_ends inner.other)) siblings
        by_body None = refl
        by_body (Some inner) = by_other inner.other inner.statements

  pub pass_file : (awaited : Awaited) (head : HeadTree) → line.head Top ≡ Form head → is_wanted (wanted_of awaited) head ≡ true → IsOfFile head → Follows (awaited_behind line.number head) 0 rest →
      complete c.symbols c.functions c.arguments none_ends c.block [] awaited file_node ≡ stands (judged_all line.number is_task (None, now awaited) (steps_of head)).1 rest
  pass_file awaited import_line says wanted of follows = file_shut awaited import_line says wanted follows ∙ by_rest (grammar.file_tree rest None) where
    by_rest : (behind : Option ProgramTree) → file_more c.symbols c.functions (option_and_then (file_with None import_line []) behind) ≡ file_more c.symbols c.functions behind
    by_rest None = refl
    by_rest (Some behind) = refl
  pass_file awaited (symbol_line name quoted) says wanted of follows = file_shut awaited (symbol_line name quoted) says wanted follows ∙ by_rest (grammar.file_tree rest None) where
    by_rest : (behind : Option ProgramTree) → file_more c.symbols c.functions (option_and_then (file_with None (symbol_line name quoted) []) behind) ≡ file_more (c.symbols ++ name ∷ []) c.functions behind
    by_rest None = refl
    by_rest (Some behind) = ap (λ (symbols : List Name). Some (record { symbols = symbols; functions = c.functions ++ behind.functions })) (sym (joined c.symbols (name ∷ []) behind.symbols))
  pass_file awaited program_decorator says wanted of follows = file_shut awaited program_decorator says wanted follows ∙ by_rest (grammar.file_tree rest (Some line.number)) where
    by_rest : (behind : Option ProgramTree) → file_more c.symbols c.functions (option_and_then (file_with None program_decorator []) behind) ≡ file_more c.symbols c.functions behind
    by_rest None = refl
    by_rest (Some behind) = refl
  pass_file (function_def at) (program_head name arguments) says wanted of follows =
      file_opens at name arguments says
      ∙ sym (arguments_after line.number is_task rest arguments (judged_one line.number is_task (None, now (function_def at)) (program_head name no_statement)) of refl)
  pass_file nothing (program_head name arguments) says wanted of follows = false_is wanted
  pass_file block (program_head name arguments) says wanted of follows = false_is wanted
  pass_file (consume_def at stream size) (program_head name arguments) says wanted of follows = false_is wanted
  pass_file awaited head says wanted of follows = absurd of
