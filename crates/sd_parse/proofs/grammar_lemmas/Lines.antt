-- What open blocks come to is the same before and behind each line that is read, so a text that is read is the program of its lines.
use Rattle.std.proofs.Common.{◌≡◌, ◌∙◌, ◌≤◌, ℕ, zero, suc, ◌+◌, ◌-◌, List, [], ◌∷◌, ◌++◌, length, map, nat_eq, Bool, true, false, not, ◌||◌, ◌&&◌, if◌then◌else◌, Option, Some, None, Result, Ok, Err, refl, ap, sym, subst, arith}
use Rattle.std.specs.Prelude.{⊤}
use Rattle.std.specs.List.{AllByRecursion}
use Rattle.std.proofs.lemmas.Bool.{eqb-true}
use Rattle.sd_lex.specs.PlainTree.{Expression, StatementTree, argument_array, Block, no_statement, and_statement, FunctionTree, ProgramTree}
use Rattle.sd_lex.specs.declared.error.LexError.{LexError}
use Rattle.sd_lex.specs.declared.token.Token.{Token}
use Rattle.sd_lex.specs.Layout.{lexed}
use Rattle.sd_lex.specs.Position.{line_count}
use Rattle.sd_line.specs.declared.line.head.BlockKind.{BlockKind}
use Rattle.sd_line.specs.declared.line.head.BlockKind.TheVariants.{Top, Program, Scope, Tasklet}
use Rattle.sd_line.specs.line.Head.{HeadTree, import_line, symbol_line, program_decorator, program_head, statement_head, consume_head, elif_head, else_head}
use Rattle.sd_line.specs.line.HeadReading.{head_of}
use Rattle.sd_line.specs.lines.Lines as of_lines
use Rattle.sd_line.specs.lines.Lines.{Line, connects_from, is_consume, opens_tasklet}
use Rattle.sd_line.specs.lines.TokenLines.{no_token, lines_from, number_of, begins_connector, line_of_tokens, lines_of_tokens}
use Rattle.sd_phrase.specs.Words.{piece_of}
use Rattle.sd_phrase.specs.declared.reading.Reading.{Reading}
use Rattle.sd_phrase.specs.declared.reading.Reading.TheVariants.{NoForm, TooDeep, Form}
use Rattle.sd_refusal.specs.declared.site.Counts.{Counts}
use Rattle.sd_context.specs.declared.blocks.refusal.Refusal.{Refusal}
use Rattle.sd_context.specs.declared.context.awaiting.Wanted.{Wanted}
use Rattle.sd_context.specs.blocks.Closing.{and_then, closed_by, closed_into, closed, closed_times}
use Rattle.sd_context.specs.blocks.Continuing.{is_elif_or_else, branches_of, next_opener, goes_on, left, next_judged, with_branch_state, continued_by}
use Rattle.sd_context.specs.blocks.Judging.{refused, against, statement_heads, steps_of, judged_one, judged_all, judged_from}
use Rattle.sd_context.specs.context.After.{context_after}
use Rattle.sd_context.specs.context.Awaiting.{comes_right, wrong_number, wanted_of, is_wanted, awaited_behind}
use Rattle.sd_context.specs.context.Context.{Branch, Opener, file, function, statement, consumer, if_block, else_block, OpenBlock, Awaited, nothing, block, function_def, consume_def, Context, opening}
use Rattle.sd_source.specs.nodes.NodeLimits.{nodes_over, node_limits}
use Rattle.sd_source.specs.source.LineReading.{stands_here, by_tokens, behind_last_block, behind_blocks, kind_in, said, line_read}
use Rattle.sd_source.specs.source.LinesReading.{lines_read, at_end, program_in, program_of_lines}
use Rattle.sd_source.specs.source.NodeRefusal.{first_of, node_refusal, limited, program_so_far}
use Rattle.sd_source.specs.source.SourceReading.{refusal_of_text, reads_tokens, reads}
use Rattle.sd_read.proofs.readable_lemmas.kept.AheadKept.{Connects}
use Rattle.sd_read.proofs.readable_lemmas.kept.Heads.{IsBodyStatement, IsTaskletStatement, IsArgument, AreArguments, FitsTop, FitsBody, FitsTasklet, Fits, IsIf, IsOpenedIn, AreNested}
use Rattle.sd_read.proofs.readable_lemmas.kept.Nesting.{top_is_file, nesting_is_kept}
use Rattle.sd_read.proofs.readable_lemmas.kept.Steps.{refused_is_none, same_value, by_if, halves, IsWellNested, IsAccepted, AwaitsNoDef, behind_branch, behind_other, IsLine}
use Rattle.sd_read.proofs.readable_lemmas.lines.Connectors.{connector_forms}
use Rattle.sd_read.proofs.readable_lemmas.lines.Forms.{of_form, each-mapped}
use Rattle.sd_read.proofs.readable_lemmas.lines.LineForms.{head_forms}
use Rattle.sd_read.proofs.blocks_lemmas.Filled.{close_nested}
use Rattle.sd_read.proofs.blocks_lemmas.Steps.{least_first, by_closed, awaited_closed, kind_closed, closes_free, right_kind, by_accepted, by_about, by_branch_state, by_program}
use Rattle.sd_parse.specs.grammar.Outline.{Outline, no_line, and_line, deeper, outside, depth_of, outline, connects_among}
use Rattle.sd_parse.specs.grammar.Programs as grammar
use Rattle.sd_parse.specs.grammar.Programs.{Siblings, siblings, siblings_by, kind_below, decorator_of, tree_of_tokens, tree_of}
use Rattle.sd_parse.proofs.grammar_lemmas.Outlines.{deeper_in, deeper_out, outside_out, connects_at, connects_are}
use Rattle.sd_parse.proofs.grammar_lemmas.Completing.{none_ends, file_more, complete, stands, nothing_behind, IsFree}
use Rattle.sd_parse.proofs.grammar_lemmas.Passing.{false_is, no_names, IsNoArgument, IsOfBlock, Follows, pass_line}
use Rattle.sd_parse.proofs.grammar_lemmas.Closing.{pass_other, EndsFree, one_closed, line_free, EachArgument, IsOfFile, pass_file}

-- ---- the depth of lines

-- how deep the line stands behind which the next one comes
abbrev depth_in : Awaited → List OpenBlock → ℕ
depth_in block (about ∷ outer) = length outer
depth_in awaited outer = length outer

abbrev stands_in : Context → List Line → Option ProgramTree
stands_in c lines = stands c (outline (depth_in c.awaited c.outer) lines)

-- these lines stand at this depth, or less deep
abbrev AreShallow : (at : ℕ) → Outline → Type 0
AreShallow at lines = (depth : ℕ) → at ≤ depth → (deeper depth lines ≡ no_line) × (outside depth lines ≡ lines)

shallow_node : (at : ℕ) (line : Line) (below behind : Outline) → AreShallow at (and_line at line below behind)
shallow_node at line below behind depth less = (deeper_out depth at line below behind less, outside_out depth at line below behind less)

-- the next line comes right
abbrev ComesRight : Awaited → List Line → Type 0
ComesRight awaited [] = ⊤
ComesRight awaited (line ∷ lines) = comes_right awaited line.opens line.closes ≡ true

both_true : (a b : Bool) → a && b ≡ true → (a ≡ true) × (b ≡ true)
both_true true b is = (refl, is)
both_true false b is = false_is is

negated : (a : Bool) → not a ≡ true → a ≡ false
negated true is = sym is
negated false is = refl

-- a line that opens no block stands no deeper
not_deeper : (at : ℕ) (line : Line) → line.opens ≡ false → depth_of at line ≤ at
not_deeper at line is = subst (λ opens. (if opens then at + 1 else at) - line.closes ≤ at) (sym is) (omega arith)

shut_by : (at : ℕ) (line : Line) (lines : List Line) → line.opens ≡ false → (deeper at (outline at (line ∷ lines)) ≡ no_line) × (outside at (outline at (line ∷ lines)) ≡ outline at (line ∷ lines))
shut_by at line lines is = shallow_node (depth_of at line) line (deeper (depth_of at line) (outline (depth_of at line) lines)) (outside (depth_of at line) (outline (depth_of at line) lines)) at (not_deeper at line is)

follows_right : (awaited : Awaited) (at : ℕ) (lines : List Line) → ComesRight awaited lines → Follows awaited at (outline at lines)
follows_right nothing at [] right = (refl, refl)
follows_right block at [] right = tt
follows_right (function_def line) at [] right = (refl, refl)
follows_right (consume_def line stream size) at [] right = (refl, refl)
follows_right nothing at (line ∷ lines) right = shut_by at line lines (negated line.opens right)
follows_right block at (line ∷ lines) right = tt
follows_right (function_def number) at (line ∷ lines) right = shut_by at line lines (negated line.opens (both_true (not line.opens) (nat_eq line.closes 0) right).0)
follows_right (consume_def number stream size) at (line ∷ lines) right = shut_by at line lines (negated line.opens (both_true (not line.opens) (nat_eq line.closes 0) right).0)

-- whether a tasklet begins, by the lines and by their outline
same_tasklet : (at : ℕ) (lines : List Line) → ComesRight block lines → connects_among (deeper at (outline at lines)) ≡ of_lines.has_connector_line lines
same_tasklet at [] right = refl
same_tasklet at (line ∷ lines) right =
    let both = both_true line.opens (nat_eq line.closes 0) right in
    let deep : depth_of at line ≡ suc at = subst (λ opens. (if opens then at + 1 else at) - line.closes ≡ suc at) (sym both.0) (omega (arith, eqb-true line.closes 0 both.1)) in
    let all : Outline = outline (suc at) lines in
    ap (λ depth. connects_among (deeper at (and_line depth line (deeper depth (outline depth lines)) (outside depth (outline depth lines))))) deep
    ∙ ap connects_among (deeper_in at (suc at) line (deeper (suc at) all) (outside (suc at) all) (omega arith))
    ∙ ap (λ rest. line.connects || rest) (ap (λ depth. connects_at at (outline depth lines)) (omega arith) ∙ connects_are at 0 lines)
    ∙ ap (λ opens. opens && (line.connects || connects_from 0 lines)) (sym both.0)

-- ---- what a line may say

of_body : (kind : BlockKind) (s : StatementTree) → IsBodyStatement kind s → IsNoArgument s
of_body kind (argument_array line name bits extents) fit = absurd fit
of_body kind s fit = tt

of_tasklet : (s : StatementTree) → IsTaskletStatement s → IsNoArgument s
of_tasklet (argument_array line name bits extents) fit = absurd fit
of_tasklet s fit = tt

body_head : (kind : BlockKind) (head : HeadTree) → FitsBody kind head → IsOfBlock head
body_head kind (statement_head s) fit = of_body kind s fit
body_head kind import_line fit = fit
body_head kind (symbol_line name quoted) fit = fit
body_head kind program_decorator fit = fit
body_head kind (program_head name arguments) fit = fit
body_head kind head fit = tt

tasklet_head : (head : HeadTree) → FitsTasklet head → IsOfBlock head
tasklet_head (statement_head s) fit = of_tasklet s fit
tasklet_head import_line fit = fit
tasklet_head (symbol_line name quoted) fit = fit
tasklet_head program_decorator fit = fit
tasklet_head (program_head name arguments) fit = fit
tasklet_head head fit = tt

of_block : (kind : BlockKind) (head : HeadTree) → (kind ≡ Top → ⊥) → Fits kind head → IsOfBlock head
of_block Top head inner fit = absurd (inner refl)
of_block Program head inner fit = body_head Program head fit
of_block Scope head inner fit = body_head Scope head fit
of_block Tasklet head inner fit = tasklet_head head fit

one_argument : (s : StatementTree) → IsArgument s → EachArgument (and_statement s no_statement)
one_argument s (line, name, bits, extents, (few, is)) = subst (λ s. EachArgument (and_statement s no_statement)) (sym is) (tt, tt)

each_argument : (arguments : Block) → AreArguments arguments → EachArgument arguments
each_argument no_statement are = tt
each_argument (and_statement s rest) are = ((one_argument s are.0).0, each_argument rest are.1)

of_file : (head : HeadTree) → FitsTop head → IsOfFile head
of_file import_line fit = tt
of_file (symbol_line name quoted) fit = tt
of_file program_decorator fit = tt
of_file (program_head name arguments) fit = each_argument arguments fit
of_file head fit = fit

-- ---- what is awaited behind a line, and how deep the next one stands

-- a block that is awaited has been opened
abbrev IsOpen : Awaited → List OpenBlock → Type 0
IsOpen block [] = ⊥
IsOpen awaited outer = ⊤

open_free : (awaited : Awaited) (outer : List OpenBlock) → awaited ≡ nothing → IsOpen awaited outer
open_free awaited outer is = subst (λ awaited. IsOpen awaited outer) (sym is) tt

abbrev Good : Context → Type 0
Good c = IsWellNested c × IsOpen c.awaited c.outer

open_other : (awaited : Awaited) (b : OpenBlock) (outer : List OpenBlock) → IsOpen awaited (b ∷ outer)
open_other nothing b outer = tt
open_other block b outer = tt
open_other (function_def line) b outer = tt
open_other (consume_def line stream size) b outer = tt

-- what is known behind a line that is no `elif` or `else`
record Known (c : Context) (line : ℕ) (head : HeadTree) (after : Context) : Type 0 where
  awaits : after.awaited ≡ awaited_behind line head
  deep : depth_in after.awaited after.outer ≡ length c.outer
  has_block : IsOpen after.awaited after.outer

known_statement : (c : Context) (line : ℕ) (is_task : Bool) (s : StatementTree) → IsNoArgument s → Known c line (statement_head s) (context_after c line is_task (statement_head s))
known_statement c line is_task (argument_array at name bits extents) none = absurd none
known_statement c line is_task s none = record { awaits = refl; deep = refl; has_block = tt }

known_head : (c : Context) (line : ℕ) (is_task : Bool) (head : HeadTree) → is_elif_or_else head ≡ false → IsOfBlock head → Known c line head (judged_all line is_task (None, c) (steps_of head)).1
known_head c line is_task import_line plain of = absurd of
known_head c line is_task (symbol_line name quoted) plain of = absurd of
known_head c line is_task program_decorator plain of = absurd of
known_head c line is_task (program_head name arguments) plain of = absurd of
known_head c line is_task (statement_head s) plain of = known_statement c line is_task s of
known_head c line is_task (elif_head when) plain of = false_is (sym plain)
known_head c line is_task else_head plain of = false_is (sym plain)
known_head c line is_task head plain of = record { awaits = refl; deep = refl; has_block = tt }

arguments_keep : (line : ℕ) (is_task : Bool) (arguments : Block) (so_far : Option ℕ × Context) → EachArgument arguments → so_far.1.awaited ≡ block →
    (let after = (judged_all line is_task so_far (statement_heads arguments)).1 in (after.awaited ≡ block) × (after.outer ≡ so_far.1.outer))
arguments_keep line is_task no_statement so_far each is = (is, refl)
arguments_keep line is_task (and_statement (argument_array at name bits extents) rest) so_far each is = arguments_keep line is_task rest (judged_one line is_task so_far (statement_head (argument_array at name bits extents))) each.1 refl
arguments_keep line is_task (and_statement s rest) so_far each is = absurd each.0

known_file : (c : Context) (line : ℕ) (is_task : Bool) (head : HeadTree) → IsOfFile head → Known c line head (judged_all line is_task (None, c) (steps_of head)).1
known_file c line is_task (program_head name arguments) of =
    let kept = arguments_keep line is_task arguments (judged_one line is_task (None, c) (program_head name no_statement)) of refl in
    record {
      awaits = kept.0;
      deep = ap (λ awaited. depth_in awaited (judged_all line is_task (None, c) (steps_of (program_head name arguments))).1.outer) kept.0 ∙ ap (depth_in block) kept.1;
      has_block = subst (λ awaited. IsOpen awaited (judged_all line is_task (None, c) (steps_of (program_head name arguments))).1.outer) (sym kept.0) (subst (IsOpen block) (sym kept.1) tt);
    }
known_file c line is_task import_line of = record { awaits = refl; deep = refl; has_block = tt }
known_file c line is_task (symbol_line name quoted) of = record { awaits = refl; deep = refl; has_block = tt }
known_file c line is_task program_decorator of = record { awaits = refl; deep = refl; has_block = tt }
known_file c line is_task head of = absurd of

-- ---- blocks that end

module _ (lines : Outline) (at : ℕ) (shallow : AreShallow at lines) where
  -- the innermost of these blocks about it may end
  abbrev MayEnd : List OpenBlock → Type 0
  MayEnd [] = ⊤
  MayEnd (b ∷ outer) = (at ≤ length outer) × EndsFree b lines outer

  one_same : (c next : Context) → c.awaited ≡ nothing → closed c ≡ Ok next → MayEnd c.outer → stands c lines ≡ stands next lines
  one_same c next free is may = by_closed c next is (λ counts same. by_awaited counts ∙ ap (λ c. stands c lines) same) where
    by_outer : (counts : Counts) (outer : List OpenBlock) → MayEnd outer → (let now : Context = record c { outer = outer; awaited = nothing; counts = counts } in stands now lines ≡ stands (closed_into outer now) lines)
    by_outer counts [] may = refl
    by_outer counts (b ∷ outer) may = one_closed (record c { counts = counts }) b outer lines (shallow (length outer) may.0).0 (shallow (length outer) may.0).1 may.1

    by_awaited : (counts : Counts) → stands c lines ≡ stands (closed_into c.outer (record c { counts = counts })) lines
    by_awaited counts =
        subst (λ awaited. stands (record c { awaited = awaited }) lines ≡ stands (closed_into c.outer (record c { counts = counts; awaited = awaited })) lines) (sym free) (by_outer counts c.outer may)

  -- no line of the block about it is left
  may_end : (n : ℕ) (outer : List OpenBlock) → at ≤ length outer - suc (suc n) → MayEnd outer
  may_end n [] less = tt
  may_end n (b ∷ outer) less = (omega (arith, less), by_about outer (omega (arith, less))) where
    by_about : (outer : List OpenBlock) → at ≤ length outer - suc n → EndsFree b lines outer
    by_about [] less = tt
    by_about (about ∷ outer) less = subst (λ inside. IsFree (siblings b.kind inside None)) (sym (shallow (length outer) (omega (arith, less))).0) refl

outer_after : (outer : List OpenBlock) (c : Context) → c.outer ≡ outer → length (closed_into outer c).outer ≡ length outer - 1
outer_after [] c is = ap length is
outer_after (about ∷ outer) c is = by_opener c.block.opener where
  by_opener : (opener : Opener) → length (closed_by opener about outer c).outer ≡ length (about ∷ outer) - 1
  by_opener file = omega arith
  by_opener (function name) = omega arith
  by_opener (statement s) = omega arith
  by_opener (consumer line stream size name element worker) = omega arith
  by_opener (if_block earlier when) = omega arith
  by_opener (else_block earlier) = omega arith

outer_closed : (c next : Context) → closed c ≡ Ok next → length next.outer ≡ length c.outer - 1
outer_closed c next is = by_closed c next is (λ counts same. ap (λ c. length c.outer) (sym same) ∙ outer_after c.outer (record c { counts = counts }) refl)

nested_closed : (c next : Context) → closed c ≡ Ok next → IsWellNested c → IsWellNested next
nested_closed c next is nested = by_closed c next is (λ counts same. subst IsWellNested same (close_nested c.outer (record c { counts = counts }) refl nested))

-- so many blocks more
abbrev behind : ℕ → ℕ → ℕ
behind zero m = m
behind (suc n) m = suc (behind n m)

behind_one : (n : ℕ) → behind n 1 ≡ suc n
behind_one zero = refl
behind_one (suc n) = ap suc (behind_one n)

record Ended (n : ℕ) (c next : Context) (lines : Outline) : Type 0 where
  same : stands c lines ≡ stands next lines
  well_nested : IsWellNested next
  free : next.awaited ≡ nothing
  left_about : length next.outer ≡ length c.outer - n
  kinds : (m : ℕ) → kind_in (c.block ∷ c.outer) (behind n m) ≡ kind_in (next.block ∷ next.outer) m

times_same : (n : ℕ) (c next : Context) (lines : Outline) (at : ℕ) → AreShallow at lines → at ≤ length c.outer - suc n → c.awaited ≡ nothing → closed_times n c ≡ Ok next → IsWellNested c → Ended n c next lines
times_same zero c next lines at shallow less free is nested =
    let same : c ≡ next = same_value (Ok c) next is in
    record {
      same = ap (λ c. stands c lines) same;
      well_nested = subst IsWellNested same nested;
      free = subst (λ c. c.awaited ≡ nothing) same free;
      left_about = ap (λ c. length c.outer) (sym same) ∙ omega arith;
      kinds = λ m. ap (λ c. kind_in (c.block ∷ c.outer) m) same;
    }
times_same (suc n) c next lines at shallow less free is nested =
    halves (closed c) (closed_times n) next is
    (λ middle first later.
    let left = outer_closed c middle first in
    let rest : Ended n middle next lines = times_same n middle next lines at shallow (omega (arith, less, left)) (awaited_closed c middle first ∙ free) later (nested_closed c middle first nested) in
    record {
      same = one_same lines at shallow c middle free first (may_end lines at shallow n c.outer less) ∙ rest.same;
      well_nested = rest.well_nested;
      free = rest.free;
      left_about = omega (arith, left, rest.left_about);
      kinds = λ m. kind_closed c middle first nested (behind n m) ∙ rest.kinds m;
    })

-- ---- a line

-- what is read behind a line that is accepted
abbrev Passes : Context → (node : Outline) → List Line → Context → Type 0
Passes c node lines next = Good next × (stands c node ≡ stands_in next lines)

none_before : (line : ℕ) (is_task : Bool) (heads : List HeadTree) (so_far : Option ℕ × Context) → (judged_all line is_task so_far heads).0 ≡ None → so_far.0 ≡ None
none_before line is_task [] so_far none = none
none_before line is_task (head ∷ heads) so_far none = least_first so_far.0 (against so_far.1 head) (none_before line is_task heads (judged_one line is_task so_far head) none)

argument_nested : (c : Context) (line : ℕ) (is_task : Bool) (s : StatementTree) → IsArgument s → IsWellNested c → IsWellNested (context_after c line is_task (statement_head s))
argument_nested c line is_task s (at, name, bits, extents, (few, is)) nested = subst (λ s. IsWellNested (context_after c line is_task (statement_head s))) (sym is) nested

arguments_nested : (line : ℕ) (is_task : Bool) (arguments : Block) (so_far : Option ℕ × Context) → AreArguments arguments → IsWellNested so_far.1 → IsWellNested (judged_all line is_task so_far (statement_heads arguments)).1
arguments_nested line is_task no_statement so_far fit nested = nested
arguments_nested line is_task (and_statement s arguments) so_far fit nested =
    arguments_nested line is_task arguments (judged_one line is_task so_far (statement_head s)) fit.1 (argument_nested so_far.1 line is_task s fit.0 nested)

pass_nested : (c : Context) (line : ℕ) (is_task : Bool) (head : HeadTree) → Fits c.block.kind head → is_wanted (wanted_of c.awaited) head ≡ true → IsAccepted c head → IsWellNested c → IsWellNested (context_after c line is_task head)
pass_nested c line is_task head fit due accepted nested = nesting_is_kept.pass c line is_task head fit due accepted nested nested

program_fits : (kind : BlockKind) (name : List ℕ) (arguments : Block) → Fits kind (program_head name arguments) → AreArguments arguments × Fits kind (program_head name no_statement)
program_fits Top name arguments fit = (fit, tt)
program_fits Program name arguments fit = absurd fit
program_fits Scope name arguments fit = absurd fit
program_fits Tasklet name arguments fit = absurd fit

steps_nested : (c : Context) (line : ℕ) (is_task : Bool) (head : HeadTree) → Fits c.block.kind head → is_wanted (wanted_of c.awaited) head ≡ true →
    (judged_all line is_task (None, c) (steps_of head)).0 ≡ None → IsWellNested c → IsWellNested (judged_all line is_task (None, c) (steps_of head)).1
steps_nested c line is_task (program_head name arguments) fit due none nested =
    let first = judged_one line is_task (None, c) (program_head name no_statement) in
    let both = program_fits c.block.kind name arguments fit in
    arguments_nested line is_task arguments first both.0 (pass_nested c line is_task (program_head name no_statement) both.1 due (none_before line is_task (statement_heads arguments) first none) nested)
steps_nested c line is_task head fit due none nested = pass_nested c line is_task head fit due none nested

abbrev HasBlock : List OpenBlock → Type 0
HasBlock [] = ⊥
HasBlock (b ∷ outer) = ⊤

abbrev IsOther : Awaited → Type 0
IsOther nothing = ⊥
IsOther awaited = ⊤

abbrev IsPositive : ℕ → Type 0
IsPositive zero = ⊥
IsPositive (suc n) = ⊤

-- a block that is no file is of no file's kind
inner_kind : (c : Context) (about : OpenBlock) (outer : List OpenBlock) → AreNested c.block (about ∷ outer) → c.block.kind ≡ Top → ⊥
inner_kind c about outer nested is = none (top_is_file c.block (about ∷ outer) nested is) where
  none : about ∷ outer ≡ [] → ⊥
  none is = subst HasBlock is tt

module _ (line : Line) (lines : List Line) where
  abbrev node : ℕ → Outline
  node at = and_line at line (deeper at (outline at lines)) (outside at (outline at lines))

  abbrev begins : HeadTree → Bool
  begins head = opens_tasklet head lines

  abbrev after : Context → HeadTree → Context
  after c head = (judged_all line.number (begins head) (None, c) (steps_of head)).1

  -- a consume scope has a tasklet's block by its lines
  same_begins : (head : HeadTree) (at : ℕ) → ComesRight (awaited_behind line.number head) lines → is_consume head ≡ true → connects_among (deeper at (outline at lines)) ≡ begins head
  same_begins (consume_head name element worker) at right is = same_tasklet at lines right
  same_begins head at right is = false_is is

  -- by the blocks about it
  head_same : (c : Context) (outer : List OpenBlock) (head : HeadTree) → (let here : Context = record c { outer = outer } in
      line.head c.block.kind ≡ Form head → Fits c.block.kind head → is_elif_or_else head ≡ false → is_wanted (wanted_of c.awaited) head ≡ true → AreNested c.block outer → ComesRight (after here head).awaited lines →
      IsOpen (after here head).awaited (after here head).outer × (stands here (node (length outer)) ≡ stands_in (after here head) lines))
  head_same c [] head says fit plain due nested right =
      let here : Context = record c { outer = [] } in
      let of : IsOfFile head = of_file head (subst (λ kind. Fits kind head) nested.0 fit) in
      let known : Known here line.number head (after here head) = known_file here line.number (begins head) head of in
      let rest : Outline = outline 0 lines in (
        known.has_block,
        pass_file c line rest (begins head) c.awaited head (subst (λ kind. line.head kind ≡ Form head) nested.0 says) due of (follows_right (awaited_behind line.number head) 0 lines (subst (λ awaited. ComesRight awaited lines) known.awaits right))
            ∙ ap (λ depth. stands (after here head) (outline depth lines)) (sym known.deep),
      )
  head_same c (about ∷ outer) head says fit plain due nested right =
      let here : Context = record c { outer = about ∷ outer } in
      let of : IsOfBlock head = of_block c.block.kind head (inner_kind c about outer nested) fit in
      let known : Known here line.number head (after here head) = known_head here line.number (begins head) head plain of in
      let at : ℕ = length (about ∷ outer) in
      let rest : Outline = outline at lines in
      let comes : ComesRight (awaited_behind line.number head) lines = subst (λ awaited. ComesRight awaited lines) known.awaits right in (
        known.has_block,
        pass_line c about outer line rest (begins head) c.awaited head says due plain of (follows_right (awaited_behind line.number head) at lines comes) (same_begins head at comes)
            ∙ single head of
            ∙ ap (λ depth. stands (after here head) (outline depth lines)) (sym known.deep),
      ) where
        single : (head : HeadTree) → IsOfBlock head → stands (context_after (record c { outer = about ∷ outer }) line.number (begins head) head) (outline (length (about ∷ outer)) lines) ≡ stands (after (record c { outer = about ∷ outer }) head) (outline (length (about ∷ outer)) lines)
        single (program_head name arguments) of = absurd of
        single head of = refl

  module _ (fits : IsLine line) where
    judged_kept : (c next : Context) (head : HeadTree) → line.head c.block.kind ≡ Form head → stands_here (wanted_of c.awaited) head ≡ true → judged_from None c line.number (begins head) (steps_of head) ≡ Ok next →
        IsWellNested c → ComesRight next.awaited lines → Passes c (node (length c.outer)) lines next
    judged_kept c next head says here is nested right =
        let tests = both_true (not (is_elif_or_else head)) (is_wanted (wanted_of c.awaited) head) here in
        let fit : Fits c.block.kind head = fits.fits c.block.kind head says in
        by_accepted (judged_all line.number (begins head) (None, c) (steps_of head)) line.number next is
        (λ none same.
        let came = head_same c c.outer head says fit (negated (is_elif_or_else head) tests.0) tests.1 nested (subst (λ next. ComesRight next.awaited lines) (sym same) right) in
        subst (λ next. Passes c (node (length c.outer)) lines next) same ((steps_nested c line.number (begins head) head fit tests.1 none nested, came.0), came.1))

    tokens_kept : (wanted : Wanted) (c next : Context) (read : Reading HeadTree) → wanted_of c.awaited ≡ wanted → line.head c.block.kind ≡ read → by_tokens wanted line.number lines c read ≡ Ok next →
        IsWellNested c → ComesRight next.awaited lines → Passes c (node (length c.outer)) lines next
    tokens_kept wanted c next NoForm same says is nested right = refused_is_none (record { number = 4; line = line.number }) next is
    tokens_kept wanted c next TooDeep same says is nested right = refused_is_none (record { number = 8; line = line.number }) next is
    tokens_kept wanted c next (Form head) same says is nested right =
        by_if (stands_here wanted head) (judged_from None c line.number (begins head) (steps_of head)) (refused 4 line.number) (Ok next) is
        (λ here judged. judged_kept c next head says (subst (λ wanted. stands_here wanted head ≡ true) (sym same) here) judged nested right)
        (λ fails refused'. refused_is_none (record { number = 4; line = line.number }) next refused')

    -- ---- an `elif` or `else`

    by_branch : {P : Type 0} (head : HeadTree) (opener : Opener) → goes_on (Form head) opener ≡ true → ((earlier : List Branch) (when : Expression) → opener ≡ if_block earlier when → is_elif_or_else head ≡ true → P) → P
    by_branch head (if_block earlier when) on go = go earlier when refl on
    by_branch head file on go = false_is on
    by_branch head (function name) on go = false_is on
    by_branch head (statement s) on go = false_is on
    by_branch head (consumer at stream size name element worker) on go = false_is on
    by_branch head (else_block earlier) on go = false_is on

    other_awaits : (head : HeadTree) → is_elif_or_else head ≡ true → awaited_behind line.number head ≡ block
    other_awaits (elif_head when) is = refl
    other_awaits else_head is = refl
    other_awaits head is = false_is is

    other_same : (c : Context) (counts : Counts) (head : HeadTree) (b : OpenBlock) (outer : List OpenBlock) → c.awaited ≡ nothing → c.outer ≡ b ∷ outer → goes_on (Form head) c.block.opener ≡ true → line.head b.kind ≡ Form head →
        AreNested c.block (b ∷ outer) → stands c (node (length outer)) ≡ stands_in (behind_other c counts b outer line.number head) lines
    other_same c counts head b [] free is on says nested =
        by_branch head c.block.opener on (λ earlier when opened other. absurd (subst IsIf nested.1.0 (subst (IsOpenedIn b.kind c.block.kind) opened nested.0).0))
    other_same c counts head b (about ∷ outer) free is on says nested =
        by_branch head c.block.opener on
        (λ earlier when opened other.
        let kinds : c.block.kind ≡ b.kind = (subst (IsOpenedIn b.kind c.block.kind) opened nested.0).1 in
        let at : ℕ = length (about ∷ outer) in
        let rest : Outline = outline at lines in
        ap (λ outer. complete c.symbols c.functions c.arguments none_ends c.block outer c.awaited (node at)) is
        ∙ ap (λ awaited. complete c.symbols c.functions c.arguments none_ends c.block (b ∷ about ∷ outer) awaited (node at)) free
        ∙ pass_other c b about outer line rest earlier when head says other opened kinds
        ∙ ap (λ opener. complete c.symbols c.functions c.arguments none_ends
        (record { opener = next_opener (branches_of c.block.line c.block.statements opener) head; kind = c.block.kind; line = line.number; depth = 0; before = no_names; statements = [] }) (b ∷ about ∷ outer) block rest) (sym opened)
        ∙ ap (λ awaited. complete c.symbols c.functions c.arguments none_ends
        (record { opener = next_opener (branches_of c.block.line c.block.statements c.block.opener) head; kind = c.block.kind; line = line.number; depth = 0; before = no_names; statements = [] }) (b ∷ about ∷ outer) awaited
        (outline (depth_in awaited (b ∷ about ∷ outer)) lines)) (sym (other_awaits head other)))

    other_kept : (c next : Context) (read : Reading HeadTree) → c.awaited ≡ nothing → goes_on read c.block.opener ≡ true → line.head (kind_in c.outer 0) ≡ read → continued_by line.number c read ≡ Ok next →
        IsWellNested c → Passes c (node (length c.outer - 1)) lines next
    other_kept c next NoForm free on says is nested = false_is on
    other_kept c next TooDeep free on says is nested = false_is on
    other_kept c next (Form head) free on says is nested =
        by_about c head on c.outer refl nested
        (λ b outer same_outer.
        halves (with_branch_state c.block c) (λ next. next_judged next.block line.number head (left next.outer next)) next is
        (λ middle first second.
        by_branch_state c middle first
        (λ counts counted same.
        let there = behind_branch c counts b outer in
        let after = behind_other c counts b outer line.number head in
        let here : line.head b.kind ≡ Form head = subst (λ outer. line.head (kind_in outer 0) ≡ Form head) same_outer says in
        let stepped : next_judged c.block line.number head there ≡ Ok next =
        subst (λ outer. next_judged c.block line.number head (left outer (record c { counts = counts })) ≡ Ok next) same_outer
        (subst (λ c. next_judged c.block line.number head (left c.outer c) ≡ Ok next) (sym same) second) in
        by_accepted (against there head, after) line.number next stepped
        (λ none same. subst (λ next. Passes c (node (length c.outer - 1)) lines next) same (
          (
            nesting_is_kept.go_on c counts b outer line.number head (subst AwaitsNoDef (sym free) tt) same_outer on counted (fits.fits b.kind head here) none nested nested,
            open_other (awaited_behind line.number head) b outer,
          ),
          ap (λ at. stands c (node at)) (ap (λ outer. length outer - 1) same_outer ∙ omega arith)
              ∙ other_same c counts head b outer free same_outer on here (subst (AreNested c.block) same_outer nested),
        )))))

    -- ---- the blocks that a line closes

    -- what is read where a line stands is no `elif` or `else`
    last_free : (wanted : Wanted) (c next : Context) (read : Reading HeadTree) (kind : BlockKind) (below behind : HeadTree → Option Siblings) → by_tokens wanted line.number lines c read ≡ Ok next → line.head kind ≡ read →
        IsFree (siblings_by kind None line.number (line.head kind) below behind)
    last_free wanted c next NoForm kind below behind is says = refused_is_none (record { number = 4; line = line.number }) next is
    last_free wanted c next TooDeep kind below behind is says = refused_is_none (record { number = 8; line = line.number }) next is
    last_free wanted c next (Form head) kind below behind is says =
        by_if (stands_here wanted head) (judged_from None c line.number (begins head) (steps_of head)) (refused 4 line.number) (Ok next) is
        (λ here judged.
        subst (λ read. IsFree (siblings_by kind None line.number read below behind)) (sym says)
        (line_free kind line.number head below behind (negated (is_elif_or_else head) (both_true (not (is_elif_or_else head)) (is_wanted wanted head) here).0)))
        (λ fails refused'. refused_is_none (record { number = 4; line = line.number }) next refused')

    last_ends : (wanted : Wanted) (middle next : Context) (read : Reading HeadTree) (inner : OpenBlock) (outer : List OpenBlock) → by_tokens wanted line.number lines middle read ≡ Ok next → line.head (kind_in (inner ∷ outer) 1) ≡ read →
        MayEnd (node (length outer - 1)) (length outer - 1) (shallow_node (length outer - 1) line _ _) outer
    last_ends wanted middle next read inner [] is says = tt
    last_ends wanted middle next read inner (b ∷ []) is says = (omega arith, tt)
    last_ends wanted middle next read inner (b ∷ about ∷ outer) is says =
        let at : ℕ = length (b ∷ about ∷ outer) - 1 in
        let rest : Outline = outline at lines in (
          omega arith,
          subst (λ inside. IsFree (siblings b.kind inside None)) (sym (deeper_in (length outer) at line (deeper at rest) (outside at rest) (omega arith)))
              (last_free wanted middle next read b.kind (λ head. siblings (kind_below b.kind (connects_among (deeper at rest)) head) (deeper at rest) None) (λ head. siblings b.kind (deeper (length outer) (outside at rest)) (decorator_of line.number head)) is says),
        )

    ended_kept : (wanted : Wanted) (c next : Context) (read : Reading HeadTree) → c.awaited ≡ nothing → wanted_of c.awaited ≡ wanted → line.head (kind_in (c.block ∷ c.outer) 1) ≡ read →
        behind_last_block wanted line.number lines read c ≡ Ok next → IsWellNested c → ComesRight next.awaited lines → Passes c (node (length c.outer - 1)) lines next
    ended_kept wanted c next read free same says is nested right =
        by_if (goes_on read c.block.opener) (continued_by line.number c read) (and_then (closed c) (λ next. by_tokens wanted line.number lines next read)) (Ok next) is
        (λ on is. other_kept c next read free on says is nested)
        (λ off is. halves (closed c) (λ next. by_tokens wanted line.number lines next read) next is
        (λ middle first second.
        let at : ℕ = length c.outer - 1 in
        let kept : Passes middle (node (length middle.outer)) lines next =
        tokens_kept wanted middle next read (ap wanted_of (awaited_closed c middle first) ∙ same) (ap line.head (sym (kind_closed c middle first nested 0)) ∙ says) second (nested_closed c middle first nested) right in (
          kept.0,
          one_same (node at) at (shallow_node at line (deeper at (outline at lines)) (outside at (outline at lines))) c middle free first (last_ends wanted middle next read c.block c.outer second says)
              ∙ ap (λ at. stands middle (node at)) (sym (outer_closed c middle first)) ∙ kept.1,
        )))

    depth_here : (awaited : Awaited) (outer : List OpenBlock) → comes_right awaited line.opens line.closes ≡ true → IsOpen awaited outer → line.closes ≡ 0 → depth_of (depth_in awaited outer) line ≡ length outer
    depth_here nothing outer right has_block none = subst (λ opens. (if opens then length outer + 1 else length outer) - line.closes ≡ length outer) (sym (negated line.opens right)) (omega (arith, none))
    depth_here block [] right has_block none = absurd has_block
    depth_here block (about ∷ outer) right has_block none =
        subst (λ opens. (if opens then length outer + 1 else length outer) - line.closes ≡ suc (length outer)) (sym (both_true line.opens (nat_eq line.closes 0) right).0) (omega (arith, none))
    depth_here (function_def at) outer right has_block none =
        subst (λ opens. (if opens then length outer + 1 else length outer) - line.closes ≡ length outer) (sym (negated line.opens (both_true (not line.opens) (nat_eq line.closes 0) right).0)) (omega (arith, none))
    depth_here (consume_def at stream size) outer right has_block none =
        subst (λ opens. (if opens then length outer + 1 else length outer) - line.closes ≡ length outer) (sym (negated line.opens (both_true (not line.opens) (nat_eq line.closes 0) right).0)) (omega (arith, none))

    depth_closed : (awaited : Awaited) (outer : List OpenBlock) (n : ℕ) → comes_right awaited line.opens line.closes ≡ true → awaited ≡ nothing → line.closes ≡ suc n → depth_of (depth_in awaited outer) line ≡ length outer - suc n
    depth_closed nothing outer n right free closes = subst (λ opens. (if opens then length outer + 1 else length outer) - line.closes ≡ length outer - suc n) (sym (negated line.opens right)) (omega (arith, closes))
    depth_closed block outer n right free closes = absurd (subst IsOther free tt)
    depth_closed (function_def at) outer n right free closes = absurd (subst IsOther free tt)
    depth_closed (consume_def at stream size) outer n right free closes = absurd (subst IsOther free tt)

    blocks_kept : (c next : Context) (closes : ℕ) → line.closes ≡ closes → comes_right c.awaited line.opens line.closes ≡ true → line.head (kind_in (c.block ∷ c.outer) closes) ≡ said c line →
        behind_blocks (wanted_of c.awaited) line.number lines (said c line) closes c ≡ Ok next → Good c → ComesRight next.awaited lines → Passes c (outline (depth_in c.awaited c.outer) (line ∷ lines)) lines next
    blocks_kept c next zero closes right says is good comes =
        let kept : Passes c (node (length c.outer)) lines next = tokens_kept (wanted_of c.awaited) c next (said c line) refl says is good.0 comes in
        (kept.0, ap (λ at. stands c (node at)) (depth_here c.awaited c.outer right good.1 closes) ∙ kept.1)
    blocks_kept c next (suc n) closes right says is good comes =
        let free : c.awaited ≡ nothing = closes_free c.awaited line.opens n (subst (λ closes. comes_right c.awaited line.opens closes ≡ true) closes right) in
        let at : ℕ = length c.outer - suc n in
        halves (closed_times n c) (behind_last_block (wanted_of c.awaited) line.number lines (said c line)) next is
        (λ middle first second.
        let ended : Ended n c middle (node at) = times_same n c middle (node at) at (shallow_node at line (deeper at (outline at lines)) (outside at (outline at lines))) (omega arith) free first good.0 in
        let there : line.head (kind_in (middle.block ∷ middle.outer) 1) ≡ said c line = ap line.head (sym (ended.kinds 1) ∙ ap (kind_in (c.block ∷ c.outer)) (behind_one n)) ∙ says in
        let kept : Passes middle (node (length middle.outer - 1)) lines next = ended_kept (wanted_of c.awaited) middle next (said c line) ended.free (ap wanted_of (ended.free ∙ sym free)) there second ended.well_nested comes in (
          kept.0,
          ap (λ at. stands c (node at)) (depth_closed c.awaited c.outer n right free closes) ∙ ended.same ∙ ap (λ at. stands middle (node at)) (omega (arith, ended.left_about)) ∙ kept.1,
        ))

    line_kept : (c next : Context) → line_read c line lines ≡ Ok next → Good c → ComesRight next.awaited lines → Passes c (outline (depth_in c.awaited c.outer) (line ∷ lines)) lines next
    line_kept c next is good comes =
        let wrong = wrong_number (said c line) in
        by_if (comes_right c.awaited line.opens line.closes) (behind_blocks (wanted_of c.awaited) line.number lines (said c line) line.closes c) (refused wrong line.number) (Ok next) is
        (λ right is. blocks_kept c next line.closes refl right (ap line.head (sym (right_kind c.awaited c.block c.outer line.opens line.closes right))) is good comes)
        (λ wrong' is. refused_is_none (record { number = wrong; line = line.number }) next is)

-- ---- lines

right_first : (c next : Context) (lines : List Line) → lines_read c lines ≡ Ok next → ComesRight c.awaited lines
right_first c next [] is = tt
right_first c next (line ∷ lines) is =
    let wrong = wrong_number (said c line) in
    halves (line_read c line lines) (λ next. lines_read next lines) next is
    (λ middle first second.
    by_if (comes_right c.awaited line.opens line.closes) (behind_blocks (wanted_of c.awaited) line.number lines (said c line) line.closes c) (refused wrong line.number) (Ok middle) first
    (λ right is. right)
    (λ wrong' is. refused_is_none (record { number = wrong; line = line.number }) middle is))

lines_kept : (c next : Context) (lines : List Line) → AllByRecursion IsLine lines → lines_read c lines ≡ Ok next → Good c → Good next × (stands_in c lines ≡ stands next no_line)
lines_kept c next [] fit is good = let same : c ≡ next = same_value (Ok c) next is in (subst Good same good, ap (λ c. stands c no_line) same)
lines_kept c next (line ∷ lines) fit is good =
    halves (line_read c line lines) (λ next. lines_read next lines) next is
    (λ middle first second.
    let passed : Passes c (outline (depth_in c.awaited c.outer) (line ∷ lines)) lines middle = line_kept line lines fit.0 c middle first good (right_first middle next lines second) in
    let kept = lines_kept middle next lines fit.1 second passed.0 in (kept.0, passed.1 ∙ kept.1))

none_left : (outer : List OpenBlock) → length outer ≡ 0 → outer ≡ []
none_left [] is = refl
none_left (b ∷ outer) is = absurd (subst IsPositive is tt)

all_end : (c next : Context) → c.awaited ≡ nothing → closed_times (length c.outer) c ≡ Ok next → IsWellNested c → stands c no_line ≡ Some (program_in next)
all_end c next free is nested =
    let ended : Ended (length c.outer) c next no_line = times_same (length c.outer) c next no_line 0 (λ depth less. (refl, refl)) (omega arith) free is nested in
    ended.same
    ∙ ap (λ outer. complete next.symbols next.functions next.arguments none_ends next.block outer next.awaited no_line) (none_left next.outer (ended.left_about ∙ omega arith))
    ∙ ap (λ awaited. complete next.symbols next.functions next.arguments none_ends next.block [] awaited no_line) ended.free
    ∙ ap (λ (symbols : List (List ℕ)). Some (record { symbols = symbols; functions = next.functions ++ [] })) (nothing_behind next.symbols)
    ∙ ap (λ (functions : List FunctionTree). Some (record { symbols = next.symbols; functions = functions })) (nothing_behind next.functions)

end_same : (last : ℕ) (awaited : Awaited) (c next : Context) → c.awaited ≡ awaited → at_end last awaited c ≡ Ok next → IsWellNested c → stands c no_line ≡ Some (program_in next)
end_same last nothing c next free is nested = all_end c next free is nested
end_same last block c next same is nested = refused_is_none (record { number = 4; line = last + 1 }) next is
end_same last (function_def line) c next same is nested = refused_is_none (record { number = 4; line = last + 1 }) next is
end_same last (consume_def line stream size) c next same is nested = refused_is_none (record { number = 4; line = last + 1 }) next is

-- the program of lines is that of the grammar
file_alone : (tree : Option ProgramTree) → file_more [] [] tree ≡ tree
file_alone None = refl
file_alone (Some program) = refl

lines_same : (last : ℕ) (lines : List Line) (program : ProgramTree) → AllByRecursion IsLine lines → program_of_lines last lines ≡ Ok program → grammar.file_tree (outline 0 lines) None ≡ Some program
lines_same last lines program fit is =
    by_program last (and_then (lines_read opening lines) (λ context. at_end last context.awaited context)) program is
    (λ context came same.
    halves (lines_read opening lines) (λ context. at_end last context.awaited context) context came
    (λ middle first second.
    let kept = lines_kept opening middle lines fit first (nesting_is_kept.begin, tt) in
    sym (file_alone (grammar.file_tree (outline 0 lines) None)) ∙ kept.1 ∙ end_same last middle.awaited middle context refl second kept.0.0 ∙ ap Some same))

-- ---- texts

-- the lines of a text say what they may
lines_fit : (text : List ℕ) (tokens : List Token) → AllByRecursion IsLine (lines_of_tokens text tokens)
lines_fit text tokens =
    each-mapped IsLine (line_of_tokens text) (lines_from no_token tokens)
    (λ line.
    let words = map (piece_of text) line.tokens in
    record {
      fits = λ kind head is. of_form (Fits kind) (head_of text kind (number_of line.tokens) words) head (head_forms text kind (number_of line.tokens) words) is;
      connects = λ kind head is. of_form (Connects kind (begins_connector text line.tokens)) (head_of text kind (number_of line.tokens) words) head (connector_forms text kind (number_of line.tokens) line.tokens) is;
    })

-- where a limit on nodes is passed there is no program
not_limited : (line : Option ℕ) (read : Result ProgramTree Refusal) (program : ProgramTree) → limited line read ≡ Ok program → read ≡ Ok program
not_limited None read program is = is
not_limited (Some line) (Ok found) program is = refused_is_none (node_refusal line) program is
not_limited (Some line) (Err refusal) program is = refused_is_none (first_of (node_refusal line) refusal) program is

pub read_is_tree : (text : List ℕ) (program : ProgramTree) → reads text ≡ Ok program → tree_of text ≡ Some program
read_is_tree text program is = by_tokens (lexed text) is where
  by_tokens : (found : Result (List Token) LexError) → reads_tokens text found ≡ Ok program → tree_of_tokens text found ≡ Some program
  by_tokens (Err error) is = refused_is_none (refusal_of_text error) program is
  by_tokens (Ok tokens) is =
      let lines = lines_of_tokens text tokens in
      let read = program_of_lines (line_count text) lines in
      lines_same (line_count text) lines program (lines_fit text tokens) (not_limited (nodes_over node_limits (program_so_far lines read)) read program is)
