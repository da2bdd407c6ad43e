-- Behind each line and each end of a block, the elements of all consume scopes that were read have names without `$`.
use Rattle.std.proofs.Common.{ℕ, zero, suc, List, [], ◌∷◌, ◌++◌, Bool, true, false, if◌then◌else◌, Option, Some, None, Result, Ok, Err}
use Rattle.std.specs.Bool.{⊤}
use Rattle.std.specs.List.{AllByRecursion}
use Rattle.std.specs.Prelude.{IfOk}
use Rattle.sd_lex.specs.PlainTree.{StatementTree, argument_array, local_array, local_stream, assign, copy, reduce, map_scope, tasklet, consume_scope, call, for_loop, while_loop, branch, input, output, set, set_at, tasklet_branch, Block, FunctionTree}
use Rattle.sd_lex.specs.TreeFold.{block_listed}
use Rattle.sd_line.specs.declared.line.head.BlockKind.{BlockKind}
use Rattle.sd_line.specs.declared.line.head.BlockKind.TheVariants.{Program, Scope, Tasklet}
use Rattle.sd_line.specs.line.Head.{HeadTree, import_line, symbol_line, program_decorator, program_head, statement_head, reduce_head, input_head, output_head, consume_decorator, consume_head, elif_head, else_head}
use Rattle.sd_names.specs.Names.{Name}
use Rattle.sd_refusal.specs.NotAForm.{is_program}
use Rattle.sd_refusal.specs.OverLimit.{is_tasklet}
use Rattle.sd_refusal.specs.declared.site.Counts.{Counts}
use Rattle.sd_context.specs.context.After.{known_behind, context_after}
use Rattle.sd_context.specs.context.Context.{Branch, Opener, file, function, statement, consumer, if_block, else_block, OpenBlock, Awaited, nothing, block, function_def, consume_def, Context, in_force}
use Rattle.sd_context.specs.context.Placing.{opened, with_statements, statement_placed, kind_in, memlet_of, lambda_or_last, consumer_of, consume_kind, placed}
use Rattle.sd_context.specs.declared.context.block.InForce.{InForce}
use Rattle.sd_context.specs.declared.blocks.refusal.Refusal.{Refusal}
use Rattle.sd_context.specs.blocks.Closing.{Step, and_then, with_counts, states_counted, late_states, branch_with, nested, with_body, finished_by, finished, closed_by, closed_into, closed, closed_times}
use Rattle.sd_context.specs.blocks.Continuing.{branches_of, next_opener, next_branch, next_judged, with_branch_state, left, continued}
use Rattle.sd_context.specs.blocks.Judging.{accepted, against}
use Rattle.sd_program.specs.Every.{Every, EveryIn, EveryOf}
use Rattle.sd_tie.specs.programs.Joined.{HasPlainElement}
use Rattle.sd_read.proofs.readable_lemmas.kept.Trees.{all-more, all-joined}
use Rattle.sd_tie.proofs.plain_elements_lemmas.Words.{IsPlainName}
use Rattle.sd_tie.proofs.plain_elements_lemmas.Heads.{IsNoScope, IsPlainHead}

-- ---- what was read

abbrev pub AllPlain : List StatementTree → Type 0
AllPlain statements = AllByRecursion (Every HasPlainElement) statements

abbrev IsPlainBranch : Branch → Type 0
IsPlainBranch b = AllPlain b.statements

-- a statement that takes the block behind it as its body
abbrev TakesBody : StatementTree → Type 0
TakesBody (map_scope line parameters ranges body) = ⊤
TakesBody (tasklet line body) = ⊤
TakesBody (for_loop line name begin end step body) = ⊤
TakesBody (while_loop line when body) = ⊤
TakesBody s = ⊥

abbrev IsPlainOpener : Opener → Type 0
IsPlainOpener file = ⊤
IsPlainOpener (function name) = ⊤
IsPlainOpener (statement s) = TakesBody s
IsPlainOpener (consumer line from size name element worker) = IsPlainName element
IsPlainOpener (if_block earlier when) = AllByRecursion IsPlainBranch earlier
IsPlainOpener (else_block earlier) = AllByRecursion IsPlainBranch earlier

abbrev IsPlainBlock : OpenBlock → Type 0
IsPlainBlock b = IsPlainOpener b.opener × AllPlain b.statements

pub record IsPlainOf (b : OpenBlock) (about : List OpenBlock) (given : List StatementTree) (programs : List FunctionTree) : Type 0 where
  pub block : IsPlainBlock b
  pub outer : AllByRecursion IsPlainBlock about
  pub arguments : AllPlain given
  pub functions : AllByRecursion (EveryOf HasPlainElement) programs

-- it holds of all that was read
abbrev pub IsPlain : Context → Type 0
IsPlain context = IsPlainOf context.block context.outer context.arguments context.functions

-- ---- a line

-- statements more in the innermost block
added : (statements : List StatementTree) (context : Context) → AllPlain statements → IsPlain context → IsPlain (with_statements statements context)
added statements context holds plain = record {
  block = (plain.block.0, all-joined (Every HasPlainElement) context.block.statements statements plain.block.1 holds);
  outer = plain.outer;
  arguments = plain.arguments;
  functions = plain.functions;
}

-- a block of its own
begins : (before : InForce) (opener : Opener) (kind : BlockKind) (line deeper : ℕ) (context : Context) → IsPlainOpener opener → IsPlain context → IsPlain (opened before opener kind line deeper context)
begins before opener kind line deeper context plain_opener plain = record { block = (plain_opener, tt); outer = (plain.block, plain.outer); arguments = plain.arguments; functions = plain.functions }

statement_plain : (before : InForce) (line : ℕ) (s : StatementTree) (context : Context) → IsNoScope s → IsPlain context → IsPlain (statement_placed before line s context)
statement_plain before line (argument_array at name bits extents) context bare plain = record {
  block = plain.block;
  outer = plain.outer;
  arguments = all-more (Every HasPlainElement) context.arguments (argument_array at name bits extents) plain.arguments tt;
  functions = plain.functions;
}
statement_plain before line (local_array at name extents bits) context bare plain = added (local_array at name extents bits ∷ []) context (tt, tt) plain
statement_plain before line (local_stream at name bits size) context bare plain = added (local_stream at name bits size ∷ []) context (tt, tt) plain
statement_plain before line (assign at name places add value) context bare plain = added (assign at name places add value ∷ []) context (tt, tt) plain
statement_plain before line (copy at to to_dimensions from from_dimensions) context bare plain = added (copy at to to_dimensions from from_dimensions ∷ []) context (tt, tt) plain
statement_plain before line (reduce at lambda from to axis identity) context bare plain = added (reduce at lambda from to axis identity ∷ []) context (tt, tt) plain
statement_plain before line (map_scope at parameters ranges body) context bare plain = begins before (statement (map_scope at parameters ranges body)) Scope line 1 context tt plain
statement_plain before line (tasklet at body) context bare plain = begins before (statement (tasklet at body)) Tasklet line 0 context tt plain
statement_plain before line (consume_scope at from size name element worker body) context bare plain = absurd bare
statement_plain before line (call at name arguments) context bare plain = added (call at name arguments ∷ []) context (tt, tt) plain
statement_plain before line (for_loop at name begin end step body) context bare plain = begins before (statement (for_loop at name begin end step body)) Program line 1 context tt plain
statement_plain before line (while_loop at when body) context bare plain = begins before (statement (while_loop at when body)) Program line 1 context tt plain
statement_plain before line (branch at when body other) context bare plain = begins before (if_block [] when) Program line 0 context tt plain
statement_plain before line (input at connector memlet) context bare plain = added (input at connector memlet ∷ []) context (tt, tt) plain
statement_plain before line (output at connector memlet) context bare plain = added (output at connector memlet ∷ []) context (tt, tt) plain
statement_plain before line (set at name value) context bare plain = added (set at name value ∷ []) context (tt, tt) plain
statement_plain before line (set_at at name places value) context bare plain = added (set_at at name places value ∷ []) context (tt, tt) plain
statement_plain before line (tasklet_branch at when body other) context bare plain = begins before (if_block [] when) Tasklet line 0 context tt plain

consumer_plain : (awaited : Awaited) (name element : Name) (worker : Option Name) → IsPlainName element → IsPlainOpener (consumer_of awaited name element worker)
consumer_plain nothing name element worker plain = plain
consumer_plain block name element worker plain = plain
consumer_plain (function_def at) name element worker plain = plain
consumer_plain (consume_def at from size) name element worker plain = plain

-- what a line says goes where it belongs
placed_plain : (before : InForce) (awaited : Awaited) (line : ℕ) (is_task : Bool) (head : HeadTree) (context : Context) → IsPlainHead head → IsPlain context → IsPlain (placed before awaited line is_task head context)
placed_plain before awaited line is_task import_line context says plain = plain
placed_plain before awaited line is_task (symbol_line name quoted) context says plain = plain
placed_plain before awaited line is_task program_decorator context says plain = plain
placed_plain before awaited line is_task (program_head name arguments) context says plain = record { block = (tt, tt); outer = (plain.block, plain.outer); arguments = tt; functions = plain.functions }
placed_plain before awaited line is_task (statement_head s) context says plain = statement_plain before line s context says plain
placed_plain before awaited line is_task (reduce_head lambda from to axis identity) context says plain =
    added (reduce line (lambda_or_last (kind_in lambda)) from to axis identity ∷ []) context (tt, tt) plain
placed_plain before awaited line is_task (input_head connector memlet) context says plain = added (input line connector (memlet_of memlet) ∷ []) context (tt, tt) plain
placed_plain before awaited line is_task (output_head connector memlet) context says plain = added (output line connector (memlet_of memlet) ∷ []) context (tt, tt) plain
placed_plain before awaited line is_task (consume_decorator from size) context says plain = plain
placed_plain before awaited line is_task (consume_head name element worker) context says plain =
    begins before (consumer_of awaited name element worker) (consume_kind is_task) line 1 context (consumer_plain awaited name element worker says) plain
placed_plain before awaited line is_task (elif_head when) context says plain = plain
placed_plain before awaited line is_task else_head context says plain = plain

-- names, counts and what is awaited are no part of it
known_plain : (context : Context) (line : ℕ) (is_task : Bool) (head : HeadTree) → IsPlain context → IsPlain (known_behind context line is_task head)
known_plain context line is_task head plain = plain

pub pass_plain : (context : Context) (line : ℕ) (is_task : Bool) (head : HeadTree) → IsPlainHead head → IsPlain context → IsPlain (context_after context line is_task head)
pass_plain context line is_task head says plain =
    placed_plain (in_force context.names) context.awaited line is_task head (known_behind context line is_task head) says (known_plain context line is_task head plain)

-- ---- a block that ends

listed : (statements : List StatementTree) → AllPlain statements → EveryIn HasPlainElement (block_listed statements)
listed [] all = tt
listed (first ∷ rest) all = (all.0, listed rest all.1)

body_plain : (s : StatementTree) (body : Block) → TakesBody s → EveryIn HasPlainElement body → Every HasPlainElement (with_body s body)
body_plain (map_scope line parameters ranges empty) body takes all = (tt, all)
body_plain (tasklet line empty) body takes all = (tt, all)
body_plain (for_loop line name begin end step empty) body takes all = (tt, all)
body_plain (while_loop line when empty) body takes all = (tt, all)
body_plain (argument_array line name bits extents) body takes all = absurd takes
body_plain (local_array line name extents bits) body takes all = absurd takes
body_plain (local_stream line name bits size) body takes all = absurd takes
body_plain (assign line name at add value) body takes all = absurd takes
body_plain (copy line to to_dimensions from from_dimensions) body takes all = absurd takes
body_plain (reduce line lambda from to axis identity) body takes all = absurd takes
body_plain (consume_scope line from size name element worker empty) body takes all = absurd takes
body_plain (call line name arguments) body takes all = absurd takes
body_plain (branch line when first other) body takes all = absurd takes
body_plain (input line connector memlet) body takes all = absurd takes
body_plain (output line connector memlet) body takes all = absurd takes
body_plain (set line name value) body takes all = absurd takes
body_plain (set_at line name at value) body takes all = absurd takes
body_plain (tasklet_branch line when first other) body takes all = absurd takes

branch_plain : (kind : BlockKind) (b : Branch) (other : Block) → IsPlainBranch b → EveryIn HasPlainElement other → Every HasPlainElement (branch_with kind b other)
branch_plain kind b other plain holds = by_test (is_tasklet kind) where
  by_test : (test : Bool) → Every HasPlainElement (if test then tasklet_branch b.line b.when (block_listed b.statements) other else branch b.line b.when (block_listed b.statements) other)
  by_test true = (tt, (listed b.statements plain, holds))
  by_test false = (tt, (listed b.statements plain, holds))

nested_plain : (kind : BlockKind) (branches : List Branch) (other : List StatementTree) → AllByRecursion IsPlainBranch branches → AllPlain other → AllPlain (nested kind branches other)
nested_plain kind [] other all holds = holds
nested_plain kind (b ∷ branches) other all holds =
    let inner = nested_plain kind branches other all.1 holds in
    (branch_plain kind b (block_listed (nested kind branches other)) all.0 (listed (nested kind branches other) inner), tt)

finished_plain : (kind : BlockKind) (line : ℕ) (opener : Opener) (statements : List StatementTree) → IsPlainOpener opener → AllPlain statements → AllPlain (finished_by kind line opener statements)
finished_plain kind line file statements plain all = tt
finished_plain kind line (function name) statements plain all = tt
finished_plain kind line (statement s) statements plain all = (body_plain s (block_listed statements) plain (listed statements all), tt)
finished_plain kind line (consumer at from size name element worker) statements plain all = ((plain, listed statements all), tt)
finished_plain kind line (if_block earlier when) statements plain all =
    let last : Branch = record { line = line; when = when; statements = statements } in
    nested_plain kind (earlier ++ last ∷ []) [] (all-more IsPlainBranch earlier last plain all) tt
finished_plain kind line (else_block earlier) statements plain all = nested_plain kind earlier statements plain all

close_plain : (outer : List OpenBlock) (context : Context) → AllByRecursion IsPlainBlock outer → IsPlain context → IsPlain (closed_into outer context)
close_plain [] context all plain = plain
close_plain (about ∷ rest) context all plain = by_opener context.block.opener where
  b : OpenBlock
  b = context.block

  now : IsPlainOf (record about { statements = about.statements ++ finished b }) rest context.arguments context.functions
  now = record {
    block = (all.0.0, all-joined (Every HasPlainElement) about.statements (finished b) all.0.1 (finished_plain b.kind b.line b.opener b.statements plain.block.0 plain.block.1));
    outer = all.1;
    arguments = plain.arguments;
    functions = plain.functions;
  }

  by_opener : (opener : Opener) → IsPlain (closed_by opener about rest context)
  by_opener file = now
  by_opener (function name) = record {
    block = all.0;
    outer = all.1;
    arguments = tt;
    functions = all-more (EveryOf HasPlainElement) context.functions _ plain.functions (listed context.arguments plain.arguments, listed b.statements plain.block.1);
  }
  by_opener (statement s) = now
  by_opener (consumer line from size name element worker) = now
  by_opener (if_block earlier when) = now
  by_opener (else_block earlier) = now

-- ---- steps

pub then_plain : (step : Step) (next : Context → Step) → IfOk step IsPlain → ((context : Context) → IsPlain context → IfOk (next context) IsPlain) → IfOk (and_then step next) IsPlain
then_plain (Ok context) next plain go = go context plain
then_plain (Err refusal) next plain go = tt

pub if_plain : (test : Bool) (a b : Step) → IfOk a IsPlain → IfOk b IsPlain → IfOk (if test then a else b) IsPlain
if_plain true a b first second = first
if_plain false a b first second = second

counts_plain : (context : Context) (counts : Result Counts Refusal) → IsPlain context → IfOk (with_counts context counts) IsPlain
counts_plain context (Ok counts) plain = plain
counts_plain context (Err refusal) plain = tt

pub closed_plain : (context : Context) → IsPlain context → IfOk (closed context) IsPlain
closed_plain context plain =
    then_plain (with_counts context (states_counted context.counts (late_states context.block))) (λ next. Ok (closed_into next.outer next))
    (counts_plain context (states_counted context.counts (late_states context.block)) plain) (λ next plain. close_plain next.outer next plain.outer plain)

pub times_plain : (n : ℕ) (context : Context) → IsPlain context → IfOk (closed_times n context) IsPlain
times_plain zero context plain = plain
times_plain (suc n) context plain = then_plain (closed context) (closed_times n) (closed_plain context plain) (λ next plain. times_plain n next plain)

-- ---- `elif` and `else`

branches_plain : (line : ℕ) (statements : List StatementTree) (opener : Opener) → IsPlainOpener opener → AllPlain statements → AllByRecursion IsPlainBranch (branches_of line statements opener)
branches_plain line statements file plain all = tt
branches_plain line statements (function name) plain all = tt
branches_plain line statements (statement s) plain all = tt
branches_plain line statements (consumer at from size name element worker) plain all = tt
branches_plain line statements (if_block earlier when) plain all = all-more IsPlainBranch earlier (record { line = line; when = when; statements = statements }) plain all
branches_plain line statements (else_block earlier) plain all = tt

opener_plain : (branches : List Branch) (head : HeadTree) → AllByRecursion IsPlainBranch branches → IsPlainOpener (next_opener branches head)
opener_plain branches import_line all = all
opener_plain branches (symbol_line name quoted) all = all
opener_plain branches program_decorator all = all
opener_plain branches (program_head name arguments) all = all
opener_plain branches (statement_head s) all = all
opener_plain branches (reduce_head lambda from to axis identity) all = all
opener_plain branches (input_head connector memlet) all = all
opener_plain branches (output_head connector memlet) all = all
opener_plain branches (consume_decorator from size) all = all
opener_plain branches (consume_head name element worker) all = all
opener_plain branches (elif_head when) all = all
opener_plain branches else_head all = all

pub accepted_plain : (number : Option ℕ) (line : ℕ) (context : Context) → IsPlain context → IfOk (accepted number line context) IsPlain
accepted_plain None line context plain = plain
accepted_plain (Some number) line context plain = tt

other_plain : (last : OpenBlock) (line : ℕ) (head : HeadTree) (context : Context) → IsPlainBlock last → IsPlain context → IfOk (next_judged last line head context) IsPlain
other_plain last line head context ended plain =
    let branches = branches_of last.line last.statements last.opener in
    accepted_plain (against context head) line (next_branch last line head context)
    (begins (in_force context.names) (next_opener branches head) last.kind line 0 (known_behind context line false head)
    (opener_plain branches head (branches_plain last.line last.statements last.opener ended.0 ended.1)) (known_plain context line false head plain))

left_plain : (outer : List OpenBlock) (context : Context) → AllByRecursion IsPlainBlock outer → IsPlain context → IsPlain (left outer context)
left_plain [] context all plain = plain
left_plain (about ∷ outer) context all plain = record { block = all.0; outer = all.1; arguments = plain.arguments; functions = plain.functions }

pub continued_plain : (line : ℕ) (context : Context) (head : HeadTree) → IsPlain context → IfOk (continued line context head) IsPlain
continued_plain line context head plain =
    then_plain (with_branch_state context.block context) (λ next. next_judged next.block line head (left next.outer next))
    (if_plain (is_program context.block.kind) (with_counts context (states_counted context.counts (context.block.line ∷ []))) (Ok context)
    (counts_plain context (states_counted context.counts (context.block.line ∷ [])) plain) plain)
    (λ next plain. other_plain next.block line head (left next.outer next) plain.block (left_plain next.outer next plain.outer plain))
