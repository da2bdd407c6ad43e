-- Blocks stand in blocks of their kinds.
use Rattle.std.proofs.Common.{◌≡◌, ℕ, List, [], ◌∷◌, Bool, true, false, ◌||◌, Option, refl, sym, subst}
use Rattle.sd_lex.specs.PlainTree.{Expression, StatementTree, argument_array, local_array, local_stream, assign, copy, reduce, map_scope, tasklet, consume_scope, call, for_loop, while_loop, branch, input, output, set, set_at, tasklet_branch, Block}
use Rattle.sd_line.specs.declared.line.head.BlockKind.{BlockKind}
use Rattle.sd_line.specs.declared.line.head.BlockKind.TheVariants.{Top, Program, Scope, Tasklet}
use Rattle.sd_phrase.specs.declared.reading.Reading.TheVariants.{Form}
use Rattle.sd_line.specs.line.Head.{HeadTree, import_line, symbol_line, program_decorator, program_head, statement_head, reduce_head, input_head, output_head, consume_decorator, consume_head, elif_head, else_head}
use Rattle.sd_names.specs.Names.{Name}
use Rattle.sd_refusal.specs.NotAForm.{block_is_misplaced, map_is_misplaced, set_is_misplaced, is_misplaced, misuses}
use Rattle.sd_uses.specs.Uses.{uses}
use Rattle.std.specs.List.{list_any}
use Rattle.sd_context.specs.context.Context.{Branch, Opener, file, function, statement, consumer, if_block, else_block, OpenBlock, Awaited, nothing, block, function_def, consume_def, Context, site_of}
use Rattle.sd_context.specs.context.After.{context_after}
use Rattle.sd_context.specs.context.Placing.{consumer_of, consume_kind}
use Rattle.sd_context.specs.blocks.Closing.{closed_by, closed_into}
use Rattle.sd_context.specs.blocks.Continuing.{goes_on, next_opener}
use Rattle.sd_read.proofs.readable_lemmas.kept.Heads.{IsTaskletStatement, Fits, Opens, IsInner, IsIf, if_inner, IsBody, IsOpenedIn, AreNested}
use Rattle.sd_read.proofs.readable_lemmas.kept.Passing.{passes, neither, true_is_not_false, false_is_not_true}
use Rattle.sd_read.proofs.readable_lemmas.kept.Steps.{IsWellNested, IsAccepted, Keeps}

-- the statements of a block make no difference
pub nested-statements : (inner : OpenBlock) (outer : List OpenBlock) (statements : List StatementTree) → AreNested inner outer → AreNested (record inner { statements = statements }) outer
nested-statements inner [] statements nested = nested
nested-statements inner (about ∷ outer) statements nested = nested

-- an `if` stands in a program, or in a tasklet as one of its own
branch_kind : (kind : BlockKind) (line : ℕ) (when : Expression) (body other : Block) → Fits kind (statement_head (branch line when body other)) →
    block_is_misplaced kind (branch line when body other) ≡ false → Program ≡ kind
branch_kind Top line when body other fit placed = absurd fit
branch_kind Program line when body other fit placed = refl
branch_kind Scope line when body other fit placed = true_is_not_false placed
branch_kind Tasklet line when body other fit placed = absurd fit

tasklet_branch_kind : (kind : BlockKind) (line : ℕ) (when : Expression) (body other : Block) → Fits kind (statement_head (tasklet_branch line when body other)) → Tasklet ≡ kind
tasklet_branch_kind Top line when body other fit = absurd fit
tasklet_branch_kind Program line when body other fit = absurd fit
tasklet_branch_kind Scope line when body other fit = absurd fit
tasklet_branch_kind Tasklet line when body other fit = refl

-- a statement that is accepted is not out of its place
pub placed_block : (context : Context) (s : StatementTree) → IsAccepted context (statement_head s) → block_is_misplaced context.block.kind s ≡ false
placed_block context s accepted' =
    let misplaced = neither (is_misplaced context.names (site_of context) (statement_head s)) (list_any (misuses context.names) (uses context.block.kind (statement_head s)))
    (passes context.names (site_of context) (statement_head s) accepted').form in
    (neither (block_is_misplaced context.block.kind s) (map_is_misplaced s)
    (neither (block_is_misplaced context.block.kind s || map_is_misplaced s) (set_is_misplaced context.names s) misplaced.0).0).0

-- where lines of bodies and tasklets stand
pub inner_statement : (kind : BlockKind) (s : StatementTree) → Fits kind (statement_head s) → IsInner kind
inner_statement Top s fit = absurd fit
inner_statement Program s fit = tt
inner_statement Scope s fit = tt
inner_statement Tasklet s fit = tt

-- a statement that opens a block of its own is none of a tasklet
opens_no_tasklet : (kind : BlockKind) (s : StatementTree) → IsTaskletStatement s → Opens kind s → ⊥
opens_no_tasklet kind (argument_array line name bits extents) fit opens = fit
opens_no_tasklet kind (local_array line name extents bits) fit opens = fit
opens_no_tasklet kind (local_stream line name bits size) fit opens = fit
opens_no_tasklet kind (assign line name at add value) fit opens = fit
opens_no_tasklet kind (copy line to to_dimensions from from_dimensions) fit opens = fit
opens_no_tasklet kind (reduce line lambda from to axis identity) fit opens = fit
opens_no_tasklet kind (map_scope line parameters ranges body) fit opens = fit
opens_no_tasklet kind (tasklet line body) fit opens = fit
opens_no_tasklet kind (consume_scope line from size name element worker body) fit opens = fit
opens_no_tasklet kind (call line name arguments) fit opens = fit
opens_no_tasklet kind (for_loop line name begin end step body) fit opens = fit
opens_no_tasklet kind (while_loop line when body) fit opens = fit
opens_no_tasklet kind (branch line when body other) fit opens = fit
opens_no_tasklet kind (input line connector memlet) fit opens = fit
opens_no_tasklet kind (output line connector memlet) fit opens = fit
opens_no_tasklet kind (set line name value) fit opens = opens
opens_no_tasklet kind (set_at line name at value) fit opens = opens
opens_no_tasklet kind (tasklet_branch line when body other) fit opens = opens

pub opener_body : (kind about : BlockKind) (s : StatementTree) → Fits about (statement_head s) → Opens kind s → IsBody about
opener_body kind Top s fit opens = absurd fit
opener_body kind Program s fit opens = tt
opener_body kind Scope s fit opens = tt
opener_body kind Tasklet s fit opens = absurd (opens_no_tasklet kind s fit opens)

pub consume_inner : (kind : BlockKind) (name element : Name) (worker : Option Name) → Fits kind (consume_head name element worker) → IsBody kind
consume_inner Top name element worker fit = absurd fit
consume_inner Program name element worker fit = tt
consume_inner Scope name element worker fit = tt
consume_inner Tasklet name element worker fit = absurd fit

consume_kind_inner : (is_tasklet : Bool) → IsInner (consume_kind is_tasklet)
consume_kind_inner true = tt
consume_kind_inner false = tt

pub program_top : (kind : BlockKind) (name : Name) (arguments : Block) → Fits kind (program_head name arguments) → kind ≡ Top
program_top Top name arguments fit = refl
program_top Program name arguments fit = absurd fit
program_top Scope name arguments fit = absurd fit
program_top Tasklet name arguments fit = absurd fit

consumer_nested : (about kind : BlockKind) → IsBody about → IsInner kind → (before : Awaited) (name element : Name) (worker : Option Name) → IsOpenedIn about kind (consumer_of before name element worker)
consumer_nested about kind outside inside nothing name element worker = (outside, inside)
consumer_nested about kind outside inside block name element worker = (outside, inside)
consumer_nested about kind outside inside (function_def line) name element worker = (outside, inside)
consumer_nested about kind outside inside (consume_def line from size) name element worker = (outside, inside)

statement_nested : (context : Context) (line : ℕ) (is_tasklet : Bool) (s : StatementTree) → Fits context.block.kind (statement_head s) → IsAccepted context (statement_head s) →
    IsWellNested context → IsWellNested (context_after context line is_tasklet (statement_head s))
statement_nested context line is_tasklet (argument_array at name bits extents) fit accepted' nested = nested
statement_nested context line is_tasklet (local_array at name extents bits) fit accepted' nested = nested-statements context.block context.outer _ nested
statement_nested context line is_tasklet (local_stream at name bits size) fit accepted' nested = nested-statements context.block context.outer _ nested
statement_nested context line is_tasklet (assign at name subscripts add value) fit accepted' nested = nested-statements context.block context.outer _ nested
statement_nested context line is_tasklet (copy at to to_dimensions from from_dimensions) fit accepted' nested = nested-statements context.block context.outer _ nested
statement_nested context line is_tasklet (reduce at lambda from to axis identity) fit accepted' nested = nested-statements context.block context.outer _ nested
statement_nested context line is_tasklet (map_scope at parameters ranges body) fit accepted' nested = ((opener_body Scope context.block.kind (map_scope at parameters ranges body) fit refl, refl), nested)
statement_nested context line is_tasklet (tasklet at body) fit accepted' nested = ((opener_body Tasklet context.block.kind (tasklet at body) fit refl, refl), nested)
statement_nested context line is_tasklet (consume_scope at from size name element worker body) fit accepted' nested = nested-statements context.block context.outer _ nested
statement_nested context line is_tasklet (call at name arguments) fit accepted' nested = nested-statements context.block context.outer _ nested
statement_nested context line is_tasklet (for_loop at name begin end step body) fit accepted' nested = ((opener_body Program context.block.kind (for_loop at name begin end step body) fit refl, refl), nested)
statement_nested context line is_tasklet (while_loop at when body) fit accepted' nested = ((opener_body Program context.block.kind (while_loop at when body) fit refl, refl), nested)
statement_nested context line is_tasklet (branch at when body other) fit accepted' nested =
    (let is = branch_kind context.block.kind at when body other fit (placed_block context (branch at when body other) accepted') in ((subst IsIf is tt, is), nested))
statement_nested context line is_tasklet (input at connector memlet) fit accepted' nested = nested-statements context.block context.outer _ nested
statement_nested context line is_tasklet (output at connector memlet) fit accepted' nested = nested-statements context.block context.outer _ nested
statement_nested context line is_tasklet (set at name value) fit accepted' nested = nested-statements context.block context.outer _ nested
statement_nested context line is_tasklet (set_at at name subscripts value) fit accepted' nested = nested-statements context.block context.outer _ nested
statement_nested context line is_tasklet (tasklet_branch at when body other) fit accepted' nested = (let is = tasklet_branch_kind context.block.kind at when body other fit in ((subst IsIf is tt, is), nested))

pass_nested : (context : Context) (line : ℕ) (is_tasklet : Bool) (head : HeadTree) → Fits context.block.kind head → IsAccepted context head → IsWellNested context → IsWellNested (context_after context line is_tasklet head)
pass_nested context line is_tasklet import_line fit accepted' nested = nested
pass_nested context line is_tasklet (symbol_line name quoted) fit accepted' nested = nested
pass_nested context line is_tasklet program_decorator fit accepted' nested = nested
pass_nested context line is_tasklet (program_head name arguments) fit accepted' nested = ((program_top context.block.kind name arguments fit, refl), nested)
pass_nested context line is_tasklet (statement_head s) fit accepted' nested = statement_nested context line is_tasklet s fit accepted' nested
pass_nested context line is_tasklet (reduce_head lambda from to axis identity) fit accepted' nested = nested-statements context.block context.outer _ nested
pass_nested context line is_tasklet (input_head connector memlet) fit accepted' nested = nested-statements context.block context.outer _ nested
pass_nested context line is_tasklet (output_head connector memlet) fit accepted' nested = nested-statements context.block context.outer _ nested
pass_nested context line is_tasklet (consume_decorator from size) fit accepted' nested = nested
pass_nested context line is_tasklet (consume_head name element worker) fit accepted' nested = (consumer_nested context.block.kind (consume_kind is_tasklet) (consume_inner context.block.kind name element worker fit) (consume_kind_inner is_tasklet) context.awaited name element worker, nested)
pass_nested context line is_tasklet (elif_head when) fit accepted' nested = nested
pass_nested context line is_tasklet else_head fit accepted' nested = nested

-- the kind of a branch is that of the block about it
pub same_kind : (head : HeadTree) (about kind : BlockKind) (opener : Opener) → goes_on (Form head) opener ≡ true → IsOpenedIn about kind opener → IsIf about × (kind ≡ about)
same_kind head about kind file on is = absurd is
same_kind head about kind (function name) on is = false_is_not_true on
same_kind head about kind (statement s) on is = false_is_not_true on
same_kind head about kind (consumer line from size name element worker) on is = false_is_not_true on
same_kind head about kind (if_block earlier when) on is = is
same_kind head about kind (else_block earlier) on is = false_is_not_true on

other_nested : (about kind : BlockKind) (branches : List Branch) (head : HeadTree) → IsIf about × (kind ≡ about) → IsOpenedIn about kind (next_opener branches head)
other_nested about kind branches import_line is = is
other_nested about kind branches (symbol_line name quoted) is = is
other_nested about kind branches program_decorator is = is
other_nested about kind branches (program_head name arguments) is = is
other_nested about kind branches (statement_head s) is = is
other_nested about kind branches (reduce_head lambda from to axis identity) is = is
other_nested about kind branches (input_head connector memlet) is = is
other_nested about kind branches (output_head connector memlet) is = is
other_nested about kind branches (consume_decorator from size) is = is
other_nested about kind branches (consume_head name element worker) is = is
other_nested about kind branches (elif_head when) is = is
other_nested about kind branches else_head is = is

close_nested : (outer : List OpenBlock) (context : Context) → context.outer ≡ outer → AreNested context.block outer → IsWellNested (closed_into outer context)
close_nested [] context is nested = subst (AreNested context.block) (sym is) nested
close_nested (about ∷ outer) context is nested = by_opener context.block.opener nested.1 where
  by_opener : (opener : Opener) → AreNested about outer → IsWellNested (closed_by opener about outer context)
  by_opener file nested = nested-statements about outer _ nested
  by_opener (function name) nested = nested
  by_opener (statement s) nested = nested-statements about outer _ nested
  by_opener (consumer line from size name element worker) nested = nested-statements about outer _ nested
  by_opener (if_block earlier when) nested = nested-statements about outer _ nested
  by_opener (else_block earlier) nested = nested-statements about outer _ nested

-- the file is about all blocks
opens_inner : (kind : BlockKind) (s : StatementTree) → Opens kind s → IsInner kind
opens_inner kind (argument_array line name bits extents) opens = absurd opens
opens_inner kind (local_array line name extents bits) opens = absurd opens
opens_inner kind (local_stream line name bits size) opens = absurd opens
opens_inner kind (assign line name at add value) opens = absurd opens
opens_inner kind (copy line to to_dimensions from from_dimensions) opens = absurd opens
opens_inner kind (reduce line lambda from to axis identity) opens = absurd opens
opens_inner kind (map_scope line parameters ranges body) opens = subst IsInner (sym opens) tt
opens_inner kind (tasklet line body) opens = subst IsInner (sym opens) tt
opens_inner kind (consume_scope line from size name element worker body) opens = absurd opens
opens_inner kind (call line name arguments) opens = absurd opens
opens_inner kind (for_loop line name begin end step body) opens = subst IsInner (sym opens) tt
opens_inner kind (while_loop line when body) opens = subst IsInner (sym opens) tt
opens_inner kind (branch line when body other) opens = absurd opens
opens_inner kind (input line connector memlet) opens = absurd opens
opens_inner kind (output line connector memlet) opens = absurd opens
opens_inner kind (set line name value) opens = absurd opens
opens_inner kind (set_at line name at value) opens = absurd opens
opens_inner kind (tasklet_branch line when body other) opens = absurd opens

opened_inner : (about kind : BlockKind) (opener : Opener) → IsOpenedIn about kind opener → IsInner kind
opened_inner about kind file opened = absurd opened
opened_inner about kind (function name) opened = subst IsInner (sym opened.1) tt
opened_inner about kind (statement s) opened = opens_inner kind s opened.1
opened_inner about kind (consumer line from size name element worker) opened = opened.1
opened_inner about kind (if_block earlier when) opened = subst IsInner (sym opened.1) (if_inner about opened.0)
opened_inner about kind (else_block earlier) opened = subst IsInner (sym opened.1) (if_inner about opened.0)

pub top_is_file : (inner : OpenBlock) (outer : List OpenBlock) → AreNested inner outer → inner.kind ≡ Top → outer ≡ []
top_is_file inner [] nested top = refl
top_is_file inner (about ∷ outer) nested top = absurd (subst IsInner top (opened_inner about.kind inner.kind inner.opener nested.0))

pub nesting_is_kept : Keeps IsWellNested
nesting_is_kept = record {
  begin = (refl, tt);
  pass = λ context line is_tasklet head fit due accepted' nested _. pass_nested context line is_tasklet head fit accepted' nested;
  argument = λ context line is_tasklet at name bits extents few begun accepted' nested _. nested;
  close = λ context counts free counted right nested _. close_nested context.outer (record context { counts = counts }) refl nested;
  go_on = λ context counts about outer line head free is on counted fit accepted' nested _.
      let inside = subst (AreNested context.block) is nested in
      (other_nested about.kind context.block.kind _ head (same_kind head about.kind context.block.kind context.block.opener on inside.0), inside.1);
}
