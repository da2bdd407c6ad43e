-- What open blocks come to with the lines that are left, by the grammar.
use Rattle.std.proofs.Common.{◌≡◌, ◌∙◌, ◌<◌, ℕ, List, [], ◌∷◌, ◌++◌, length, Option, Some, None, refl, ap, sym, arith}
use Rattle.std.specs.Prelude.{option_map, option_and_then, ⊤}
use Rattle.sd_lex.specs.PlainTree.{StatementTree, FunctionTree, ProgramTree}
use Rattle.sd_lex.specs.TreeFold.{block_listed}
use Rattle.sd_line.specs.declared.line.head.BlockKind.{BlockKind}
use Rattle.sd_line.specs.line.Head.{HeadTree}
use Rattle.sd_line.specs.lines.Lines.{Line}
use Rattle.sd_program.specs.Names.{Name}
use Rattle.sd_phrase.specs.declared.reading.Reading.TheVariants.{Form}
use Rattle.sd_context.specs.blocks.Closing.{nested, branches_with, finished_by}
use Rattle.sd_context.specs.context.Context.{Opener, file, function, statement, consumer, if_block, else_block, OpenBlock, Awaited, nothing, function_def, consume_def, Context}
use Rattle.sd_parse.specs.grammar.Outline.{Outline, no_line, and_line, deeper, outside, connects_among}
use Rattle.sd_parse.specs.grammar.Programs as grammar
use Rattle.sd_parse.specs.grammar.Programs.{Siblings, Decorator, kind_below, decorator_of, statements_of, siblings_with, siblings_by, siblings}
use Rattle.sd_parse.proofs.grammar_lemmas.Outlines.{deeper_in, outside_in}

-- what a block that has ended comes to, by what goes on with it
abbrev pub Ending : Type 0
Ending = (other : List StatementTree) → Option (List StatementTree)

-- where no block has ended nothing goes on
abbrev pub none_ends : Ending
none_ends [] = Some []
none_ends (s ∷ other) = None

abbrev pub alone : List StatementTree → Ending
alone statements [] = Some statements
alone statements (s ∷ other) = None

abbrev pub ended_by : BlockKind → (line : ℕ) → Opener → (statements : List StatementTree) → Ending
ended_by kind line (if_block earlier when) statements other = Some (nested kind (branches_with earlier (record { line = line; when = when; statements = statements })) other)
ended_by kind line opener statements other = alone (finished_by kind line opener statements) other

abbrev pub file_more : List Name → List FunctionTree → Option ProgramTree → Option ProgramTree
file_more symbols functions rest = option_map (λ (rest : ProgramTree). record { symbols = symbols ++ rest.symbols; functions = functions ++ rest.functions }) rest

abbrev pub def_awaited : Awaited → Option ℕ
def_awaited (function_def line) = Some line
def_awaited other = None

abbrev pub decorator_awaited : Awaited → Option Decorator
decorator_awaited (consume_def line stream size) = Some (line, (stream, size))
decorator_awaited other = None

-- a block that has these statements ends: a program goes to the file
abbrev pub leaves : Opener → BlockKind → (line : ℕ) → (statements : List StatementTree) → List FunctionTree → (arguments : List StatementTree) →
    (List FunctionTree → List StatementTree → Ending → Option ProgramTree) → Option ProgramTree
leaves (function name) kind line statements functions arguments go =
    go (functions ++ record { name = name; line = line; arguments = block_listed arguments; body = block_listed statements } ∷ []) [] none_ends
leaves opener kind line statements functions arguments go = go functions arguments (ended_by kind line opener statements)

-- the innermost block has its lines, behind what has ended in it, and those about it have theirs
abbrev pub complete : List Name → List FunctionTree → (arguments : List StatementTree) → Ending → OpenBlock → List OpenBlock → Awaited → Outline → Option ProgramTree
complete symbols functions arguments ending b [] awaited lines = file_more symbols functions (grammar.file_tree lines (def_awaited awaited))
complete symbols functions arguments ending b (about ∷ outer) awaited lines =
    option_and_then
    (λ (inner : Siblings). option_and_then
    (λ done. leaves b.opener b.kind b.line (b.statements ++ (done ++ inner.statements)) functions arguments
    (λ functions arguments ending. complete symbols functions arguments ending about outer nothing (outside (length outer) lines)))
    (ending inner.other))
    (siblings b.kind (deeper (length outer) lines) (decorator_awaited awaited))

-- the program where these lines are left
abbrev pub stands : Context → Outline → Option ProgramTree
stands c lines = complete c.symbols c.functions c.arguments none_ends c.block c.outer c.awaited lines

-- ---- lines of one depth

-- two ways to go on that are the same
pub bind_same : {A B : Type 0} (value : Option A) (f g : A → Option B) → ((a : A) → f a ≡ g a) → option_and_then f value ≡ option_and_then g value
bind_same None f g same = refl
bind_same (Some a) f g same = same a

pub joined : {A : Type 0} (xs ys zs : List A) → (xs ++ ys) ++ zs ≡ xs ++ (ys ++ zs)
joined [] ys zs = refl
joined (x ∷ xs) ys zs = ap (λ rest. x ∷ rest) (joined xs ys zs)

pub nothing_behind : {A : Type 0} (xs : List A) → xs ++ [] ≡ xs
nothing_behind [] = refl
nothing_behind (x ∷ xs) = ap (λ rest. x ∷ rest) (nothing_behind xs)

-- the statements of siblings, behind those that its block has and what has ended in it
abbrev pub gather : (go : List StatementTree → Option ProgramTree) → (statements : List StatementTree) → Ending → Option Siblings → Option ProgramTree
gather go statements ending = option_and_then (λ (inner : Siblings). option_and_then (λ done. go (statements ++ (done ++ inner.statements))) (ending inner.other))

-- a block that opens comes to what its line says with its lines
pub opened_same : (go : List StatementTree → Option ProgramTree) (statements : List StatementTree) (ending : Ending) (ends : List StatementTree → Ending) (said : (body other statements : List StatementTree) → Option Siblings) →
    ((body other others : List StatementTree) → gather go statements ending (said body other others) ≡ option_and_then (λ done. go (statements ++ (done ++ others))) (ends body other)) → (below behind : Option Siblings) →
    gather go statements ending (option_and_then (λ body. option_and_then (λ (next : Siblings). said body next.other next.statements) behind) (option_and_then statements_of below))
    ≡ option_and_then (λ (inner : Siblings). option_and_then (λ done. gather go statements (ends ([] ++ (done ++ inner.statements))) behind) (none_ends inner.other)) below
opened_same go statements ending ends said same None behind = refl
opened_same go statements ending ends said same (Some inner) behind = by_other inner.other inner.statements where
  by_next : (body : List StatementTree) (behind : Option Siblings) →
      gather go statements ending (option_and_then (λ (next : Siblings). said body next.other next.statements) behind) ≡ gather go statements (ends body) behind
  by_next body None = refl
  by_next body (Some next) = same body next.other next.statements

  by_other : (other body : List StatementTree) → (let inner : Siblings = record { other = other; statements = body } in
      gather go statements ending (option_and_then (λ body. option_and_then (λ (next : Siblings). said body next.other next.statements) behind) (statements_of inner))
      ≡ option_and_then (λ done. gather go statements (ends ([] ++ (done ++ inner.statements))) behind) (none_ends inner.other))
  by_other [] body = by_next body behind
  by_other (s ∷ other) body = refl

-- what has ended alone in a block is the last of its statements
pub alone_same : (go : List StatementTree → Option ProgramTree) (statements last : List StatementTree) (behind : Option Siblings) →
    gather go statements (alone last) behind ≡ gather go (statements ++ last) none_ends behind
alone_same go statements last None = refl
alone_same go statements last (Some next) = by_other next.other where
  by_other : (other : List StatementTree) → option_and_then (λ done. go (statements ++ (done ++ next.statements))) (alone last other) ≡ option_and_then (λ done. go ((statements ++ last) ++ (done ++ next.statements))) (none_ends other)
  by_other [] = ap go (sym (joined statements last next.statements))
  by_other (s ∷ other) = refl

-- a line without a block
pub added_same : (go : List StatementTree → Option ProgramTree) (statements : List StatementTree) (last : List StatementTree) (said : (other statements : List StatementTree) → Option Siblings) →
    ((other others : List StatementTree) → gather go statements none_ends (said other others) ≡ option_and_then (λ done. go (statements ++ (done ++ others))) (alone last other)) → (behind : Option Siblings) →
    gather go statements none_ends (option_and_then (λ (next : Siblings). said next.other next.statements) behind) ≡ gather go (statements ++ last) none_ends behind
added_same go statements last said same behind = by_next behind ∙ alone_same go statements last behind where
  by_next : (behind : Option Siblings) → gather go statements none_ends (option_and_then (λ (next : Siblings). said next.other next.statements) behind) ≡ gather go statements (alone last) behind
  by_next None = refl
  by_next (Some next) = same next.other next.statements

-- ---- a line

module _ (c : Context) (about : OpenBlock) (outer : List OpenBlock) (line : Line) (rest : Outline) where
  abbrev pub depth : ℕ
  depth = length (about ∷ outer)

  abbrev pub node : Outline
  node = and_line depth line (deeper depth rest) (outside depth rest)

  -- the block ends with these statements
  abbrev pub goes : Outline → List StatementTree → Option ProgramTree
  goes behind statements = leaves c.block.opener c.block.kind c.block.line statements c.functions c.arguments
      (λ functions arguments ending. complete c.symbols functions arguments ending about outer nothing (outside (length outer) behind))

  abbrev pub lines_below : HeadTree → Option Siblings
  lines_below head = siblings (kind_below c.block.kind (connects_among (deeper depth rest)) head) (deeper depth rest) None

  abbrev pub lines_behind : Outline → Option Decorator → Option Siblings
  lines_behind behind = siblings c.block.kind (deeper (length outer) behind)

  one_less : length outer < depth
  one_less = omega arith

  pub entered : (ending : Ending) (awaited : Awaited) (head : HeadTree) (decorator : Option Decorator) → line.head c.block.kind ≡ Form head → decorator_awaited awaited ≡ decorator →
      complete c.symbols c.functions c.arguments ending c.block (about ∷ outer) awaited node ≡ gather (goes (outside depth rest)) c.block.statements ending
      (option_and_then
      (λ body. option_and_then (λ (next : Siblings). siblings_with c.block.kind decorator line.number head body next.other next.statements) (lines_behind (outside depth rest) (decorator_of line.number head)))
      (option_and_then statements_of (lines_below head)))
  entered ending awaited head decorator says awaits =
      ap (λ behind. gather (λ statements. leaves c.block.opener c.block.kind c.block.line statements c.functions c.arguments (λ functions arguments ending. complete c.symbols functions arguments ending about outer nothing behind)) c.block.statements ending
      (siblings c.block.kind (deeper (length outer) node) (decorator_awaited awaited)))
      (outside_in (length outer) depth line (deeper depth rest) (outside depth rest) one_less)
      ∙ ap (λ lines. gather (goes (outside depth rest)) c.block.statements ending (siblings c.block.kind lines (decorator_awaited awaited)))
      (deeper_in (length outer) depth line (deeper depth rest) (outside depth rest) one_less)
      ∙ ap (λ decorator. gather (goes (outside depth rest)) c.block.statements ending (siblings_by c.block.kind decorator line.number (line.head c.block.kind) lines_below (λ head. lines_behind (outside depth rest) (decorator_of line.number head)))) awaits
      ∙ ap (λ read. gather (goes (outside depth rest)) c.block.statements ending (siblings_by c.block.kind decorator line.number read lines_below (λ head. lines_behind (outside depth rest) (decorator_of line.number head)))) says

  -- ---- a line whose block has no lines

  pub added : (awaited : Awaited) (head : HeadTree) (last : List StatementTree) → line.head c.block.kind ≡ Form head → decorator_awaited awaited ≡ None → deeper depth rest ≡ no_line → outside depth rest ≡ rest →
      ((other others : List StatementTree) → gather (goes (outside depth rest)) c.block.statements none_ends (siblings_with c.block.kind None line.number head [] other others)
      ≡ option_and_then (λ done. goes (outside depth rest) (c.block.statements ++ (done ++ others))) (alone last other)) →
      complete c.symbols c.functions c.arguments none_ends c.block (about ∷ outer) awaited node
      ≡ gather (goes rest) (c.block.statements ++ last) none_ends (lines_behind rest (decorator_of line.number head))
  added awaited head last says awaits empty behind same =
      entered none_ends awaited head None says awaits
      ∙ ap (λ (below : Outline). gather (goes (outside depth rest)) c.block.statements none_ends
      (option_and_then
      (λ body. option_and_then (λ (next : Siblings). siblings_with c.block.kind None line.number head body next.other next.statements) (lines_behind (outside depth rest) (decorator_of line.number head)))
      (option_and_then statements_of (siblings (kind_below c.block.kind (connects_among below) head) below None)))) empty
      ∙ added_same (goes (outside depth rest)) c.block.statements last (siblings_with c.block.kind None line.number head []) same (lines_behind (outside depth rest) (decorator_of line.number head))
      ∙ ap (λ behind. gather (goes behind) (c.block.statements ++ last) none_ends (lines_behind behind (decorator_of line.number head))) behind

  -- ---- a line that opens a block

  pub opens_block : (ending : Ending) (awaited : Awaited) (head : HeadTree) (decorator : Option Decorator) (kind : BlockKind) (opener : Opener) → line.head c.block.kind ≡ Form head → decorator_awaited awaited ≡ decorator →
      decorator_of line.number head ≡ None → kind_below c.block.kind (connects_among (deeper depth rest)) head ≡ kind →
      ((body other others : List StatementTree) → gather (goes (outside depth rest)) c.block.statements ending (siblings_with c.block.kind decorator line.number head body other others)
      ≡ option_and_then (λ done. goes (outside depth rest) (c.block.statements ++ (done ++ others))) (ended_by kind line.number opener body other)) →
      ((statements : List StatementTree) (go : List FunctionTree → List StatementTree → Ending → Option ProgramTree) →
      leaves opener kind line.number statements c.functions c.arguments go ≡ go c.functions c.arguments (ended_by kind line.number opener statements)) →
      complete c.symbols c.functions c.arguments ending c.block (about ∷ outer) awaited node
      ≡ option_and_then
      (λ (siblings : Siblings). option_and_then
      (λ done. leaves opener kind line.number ([] ++ (done ++ siblings.statements)) c.functions c.arguments
      (λ functions arguments ending. complete c.symbols functions arguments ending c.block (about ∷ outer) nothing (outside depth rest)))
      (none_ends siblings.other))
      (siblings kind (deeper depth rest) None)
  opens_block ending awaited head decorator kind opener says awaits plain below same leave =
      let go : List StatementTree → Option ProgramTree = goes (outside depth rest) in
      let statements : List StatementTree = c.block.statements in
      let behind : Option Siblings = lines_behind (outside depth rest) None in
      let after : List FunctionTree → List StatementTree → Ending → Option ProgramTree =
      λ functions arguments ending. complete c.symbols functions arguments ending c.block (about ∷ outer) nothing (outside depth rest) in
      entered ending awaited head decorator says awaits
      ∙ ap (λ next. gather go statements ending
      (option_and_then (λ body. option_and_then (λ (next : Siblings). siblings_with c.block.kind decorator line.number head body next.other next.statements) (lines_behind (outside depth rest) next)) (option_and_then statements_of (lines_below head)))) plain
      ∙ opened_same go statements ending (ended_by kind line.number opener) (siblings_with c.block.kind decorator line.number head) same (lines_below head) behind
      ∙ ap (λ kind'. option_and_then (λ (siblings : Siblings). option_and_then (λ done. gather go statements (ended_by kind line.number opener ([] ++ (done ++ siblings.statements))) behind) (none_ends siblings.other)) (siblings kind' (deeper depth rest) None)) below
      ∙ bind_same (siblings kind (deeper depth rest) None)
      (λ (siblings : Siblings). option_and_then (λ done. gather go statements (ended_by kind line.number opener ([] ++ (done ++ siblings.statements))) behind) (none_ends siblings.other))
      (λ (siblings : Siblings). option_and_then (λ done. leaves opener kind line.number ([] ++ (done ++ siblings.statements)) c.functions c.arguments after) (none_ends siblings.other))
      (λ siblings.
      bind_same (none_ends siblings.other)
      (λ done. gather go statements (ended_by kind line.number opener ([] ++ (done ++ siblings.statements))) behind)
      (λ done. leaves opener kind line.number ([] ++ (done ++ siblings.statements)) c.functions c.arguments after)
      (λ done. sym (leave ([] ++ (done ++ siblings.statements)) after)))

-- ---- a block that ends

-- no lines are left in the innermost block
pub one_leaves : (c : Context) (about : OpenBlock) (outer : List OpenBlock) (lines : Outline) → deeper (length outer) lines ≡ no_line → outside (length outer) lines ≡ lines →
    complete c.symbols c.functions c.arguments none_ends c.block (about ∷ outer) nothing lines
    ≡ leaves c.block.opener c.block.kind c.block.line c.block.statements c.functions c.arguments (λ functions arguments ending. complete c.symbols functions arguments ending about outer nothing lines)
one_leaves c about outer lines none all =
    let b : OpenBlock = c.block in
    ap (λ inside.
    option_and_then
    (λ (inner : Siblings). option_and_then
    (λ done. leaves b.opener b.kind b.line (b.statements ++ (done ++ inner.statements)) c.functions c.arguments
    (λ functions arguments ending. complete c.symbols functions arguments ending about outer nothing (outside (length outer) lines)))
    (none_ends inner.other))
    (siblings b.kind inside None)) none
    ∙ ap (λ statements. leaves b.opener b.kind b.line statements c.functions c.arguments (λ functions arguments ending. complete c.symbols functions arguments ending about outer nothing (outside (length outer) lines))) (nothing_behind b.statements)
    ∙ ap (λ (behind : Outline). leaves b.opener b.kind b.line b.statements c.functions c.arguments (λ functions arguments ending. complete c.symbols functions arguments ending about outer nothing behind)) all

-- where nothing goes on with it, what has ended stands alone
abbrev pub IsFree : Option Siblings → Type 0
IsFree None = ⊤
IsFree (Some siblings) = siblings.other ≡ []

pub ended_same : (go : List StatementTree → Option ProgramTree) (statements : List StatementTree) (kind : BlockKind) (line : ℕ) (opener : Opener) (last : List StatementTree) (behind : Option Siblings) → IsFree behind →
    gather go statements (ended_by kind line opener last) behind ≡ gather go (statements ++ finished_by kind line opener last) none_ends behind
ended_same go statements kind line opener last None free = refl
ended_same go statements kind line opener last (Some next) free =
    ap (λ other. option_and_then (λ done. go (statements ++ (done ++ next.statements))) (ended_by kind line opener last other)) free
    ∙ by_opener opener
    ∙ ap (λ other. option_and_then (λ done. go ((statements ++ finished_by kind line opener last) ++ (done ++ next.statements))) (none_ends other)) (sym free) where
      by_opener : (opener : Opener) → option_and_then (λ done. go (statements ++ (done ++ next.statements))) (ended_by kind line opener last []) ≡ go ((statements ++ finished_by kind line opener last) ++ next.statements)
      by_opener file = ap go (sym (joined statements _ next.statements))
      by_opener (function name) = ap go (sym (joined statements _ next.statements))
      by_opener (statement s) = ap go (sym (joined statements _ next.statements))
      by_opener (consumer at stream size name element worker) = ap go (sym (joined statements _ next.statements))
      by_opener (if_block earlier when) = ap go (sym (joined statements _ next.statements))
      by_opener (else_block earlier) = ap go (sym (joined statements _ next.statements))
