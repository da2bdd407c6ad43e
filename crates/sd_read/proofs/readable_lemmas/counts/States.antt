-- How many states each program makes.
use Rattle.std.proofs.Common.{◌≡◌, ◌≤◌, ℕ, ℤ, ◌+◌, List, [], ◌∷◌, ◌++◌, Bool, true, false, if◌then◌else◌, Option, refl, sym, subst, arith}
use Rattle.std.specs.Bool.{⊤}
use Rattle.std.specs.List.{AllByRecursion}
use Rattle.sd_lex.specs.PlainTree.{StatementTree, argument_array, local_array, local_stream, assign, copy, reduce, map_scope, tasklet, consume_scope, call, for_loop, while_loop, branch, input, output, set, set_at, tasklet_branch, Block, FunctionTree}
use Rattle.sd_lex.specs.PlainTree.{Expression}
use Rattle.sd_phrase.specs.Memlet.{MemletTree}
use Rattle.sd_lex.specs.TreeFold.{block_listed}
use Rattle.sd_line.specs.declared.line.head.BlockKind.{BlockKind}
use Rattle.sd_line.specs.declared.line.head.BlockKind.TheVariants.{Top, Program, Scope, Tasklet}
use Rattle.sd_line.specs.line.Head.{HeadTree, import_line, symbol_line, program_decorator, program_head, statement_head, reduce_head, input_head, output_head, consume_decorator, consume_head, elif_head, else_head}
use Rattle.sd_names.specs.Names.{Name}
use Rattle.sd_refusal.specs.Counting.{counts_behind}
use Rattle.sd_refusal.specs.NotAForm.{is_program}
use Rattle.sd_refusal.specs.OverLimit.{new_containers, new_states, statement_states}
use Rattle.sd_context.specs.context.Context.{Branch, Opener, file, function, statement, consumer, if_block, else_block, OpenBlock, Awaited, nothing, block, function_def, consume_def, Context, site_of}
use Rattle.sd_context.specs.context.After.{begins_tasklet, first_connectors, context_after}
use Rattle.sd_context.specs.context.Awaiting.{wanted_of, is_wanted}
use Rattle.sd_context.specs.context.Placing.{consumer_of}
use Rattle.sd_read.proofs.readable_lemmas.kept.Heads.{IsFile, Fits, Opens, IsOpenedIn, AreNested}
use Rattle.sd_read.proofs.readable_lemmas.kept.Passing.{passes, false_is_not_true}
use Rattle.sd_read.proofs.readable_lemmas.kept.Steps.{IsAccepted}
use Rattle.sd_read.proofs.readable_lemmas.kept.Trees.{of_line}
use Rattle.sd_program.specs.Declared.{states_in, states_in_all}
use Rattle.sd_program.specs.Limits.{states_of}
use Rattle.sd_read.proofs.readable_lemmas.kept.Counted.{within}
use Rattle.sd_read.proofs.readable_lemmas.counts.Containers.{same_counted, statement_after}

-- ---- the states of the open blocks

-- what is counted in a program only
abbrev pub weight : BlockKind → ℕ → ℕ
weight kind count = if is_program kind then count else 0

abbrev pub sum_of : List StatementTree → ℕ
sum_of [] = 0
sum_of (s ∷ statements) = states_in s + sum_of statements

-- each branch that has ended with the states that were counted of it
abbrev pub branches_sum : List Branch → ℕ
branches_sum [] = 0
branches_sum (b ∷ branches) = 2 + (sum_of b.statements + branches_sum branches)

-- a loop, or a statement of one state
abbrev pub opened_sum : StatementTree → (own : ℕ) → ℕ
opened_sum (for_loop line name begin end step body) own = 2 + own
opened_sum (while_loop line when body) own = 2 + own
opened_sum s own = 1

-- a block with statements that make so many, within blocks that make so many
abbrev pub held : (in_program : Bool) → Opener → (own outside : ℕ) → ℕ
held in_program file own outside = 0
held in_program (function name) own outside = 1 + own
held false opener own outside = outside
held true (statement s) own outside = opened_sum s own + outside
held true (consumer line from size name element worker) own outside = 1 + outside
held true (if_block earlier when) own outside = 1 + (branches_sum earlier + (own + outside))
held true (else_block earlier) own outside = branches_sum earlier + (own + outside)

abbrev pub stands_in_program : List OpenBlock → Bool
stands_in_program [] = false
stands_in_program (about ∷ outer) = is_program about.kind

abbrev pub blocks_sum : List OpenBlock → ℕ
blocks_sum [] = 0
blocks_sum (b ∷ outer) = held (stands_in_program outer) b.opener (sum_of b.statements) (blocks_sum outer)

-- a consume scope counts at its decorator
abbrev pub waiting : Awaited → BlockKind → ℕ
waiting nothing kind = 0
waiting block kind = 0
waiting (function_def line) kind = 0
waiting (consume_def line from size) kind = weight kind 1

abbrev pub total : Context → ℕ
total context = waiting context.awaited context.block.kind + blocks_sum (context.block ∷ context.outer)

abbrev pub IsFew : FunctionTree → Type 0
IsFew f = states_of f ≤ 256

pub record FewStates (context : Context) : Type 0 where
  pub counted : total context ≤ context.counts.states
  pub few : context.counts.states ≤ 256
  pub functions : AllByRecursion IsFew context.functions

sum-joined : (a b : List StatementTree) → sum_of (a ++ b) ≡ sum_of a + sum_of b
sum-joined [] b = omega arith
sum-joined (s ∷ a) b = omega (arith, sum-joined a b)

pub branches-joined : (a b : List Branch) → branches_sum (a ++ b) ≡ branches_sum a + branches_sum b
branches-joined [] b = omega arith
branches-joined (x ∷ a) b = omega (arith, branches-joined a b)

pub sum-listed : (statements : List StatementTree) → states_in_all (block_listed statements) ≡ sum_of statements
sum-listed [] = refl
sum-listed (s ∷ statements) = omega (arith, sum-listed statements)

-- so many more in a block
opened_more : (kind : BlockKind) (s : StatementTree) (own more outside : ℕ) → Opens kind s → opened_sum s (own + more) + outside ≤ opened_sum s own + outside + weight kind more
opened_more kind (argument_array at name bits extents) own more outside opens = absurd opens
opened_more kind (local_array at name extents bits) own more outside opens = absurd opens
opened_more kind (local_stream at name bits size) own more outside opens = absurd opens
opened_more kind (assign at name subscripts add value) own more outside opens = absurd opens
opened_more kind (copy at to to_dimensions from from_dimensions) own more outside opens = absurd opens
opened_more kind (reduce at lambda from to axis identity) own more outside opens = absurd opens
opened_more kind (map_scope at parameters ranges body) own more outside opens = omega arith
opened_more kind (tasklet at body) own more outside opens = omega arith
opened_more kind (consume_scope at from size name element worker body) own more outside opens = absurd opens
opened_more kind (call at name arguments) own more outside opens = absurd opens
opened_more kind (for_loop at name begin end step body) own more outside opens = subst (λ kind. 2 + (own + more) + outside ≤ 2 + own + outside + weight kind more) (sym opens) (omega arith)
opened_more kind (while_loop at when body) own more outside opens = subst (λ kind. 2 + (own + more) + outside ≤ 2 + own + outside + weight kind more) (sym opens) (omega arith)
opened_more kind (branch at when body other) own more outside opens = absurd opens
opened_more kind (input at connector memlet) own more outside opens = absurd opens
opened_more kind (output at connector memlet) own more outside opens = absurd opens
opened_more kind (set at name value) own more outside opens = absurd opens
opened_more kind (set_at at name subscripts value) own more outside opens = absurd opens
opened_more kind (tasklet_branch at when body other) own more outside opens = absurd opens

held-more : (about kind : BlockKind) (opener : Opener) (own more outside : ℕ) → IsOpenedIn about kind opener →
    held (is_program about) opener (own + more) outside ≤ held (is_program about) opener own outside + weight kind more
held-more about kind file own more outside opened = absurd opened
held-more about kind (function name) own more outside opened = subst (λ kind. 1 + (own + more) ≤ 1 + own + weight kind more) (sym opened.1) (omega arith)
held-more Top kind (statement s) own more outside opened = omega arith
held-more Top kind (consumer line from size name element worker) own more outside opened = omega arith
held-more Top kind (if_block earlier when) own more outside opened = omega arith
held-more Top kind (else_block earlier) own more outside opened = omega arith
held-more Program kind (statement s) own more outside opened = opened_more kind s own more outside opened.1
held-more Program kind (consumer line from size name element worker) own more outside opened = omega arith
held-more Program kind (if_block earlier when) own more outside opened = subst (λ kind. 1 + (branches_sum earlier + ((own + more) + outside)) ≤ 1 + (branches_sum earlier + (own + outside)) + weight kind more) (sym opened.1) (omega arith)
held-more Program kind (else_block earlier) own more outside opened = subst (λ kind. branches_sum earlier + ((own + more) + outside) ≤ branches_sum earlier + (own + outside) + weight kind more) (sym opened.1) (omega arith)
held-more Scope kind (statement s) own more outside opened = omega arith
held-more Scope kind (consumer line from size name element worker) own more outside opened = omega arith
held-more Scope kind (if_block earlier when) own more outside opened = omega arith
held-more Scope kind (else_block earlier) own more outside opened = omega arith
held-more Tasklet kind (statement s) own more outside opened = omega arith
held-more Tasklet kind (consumer line from size name element worker) own more outside opened = omega arith
held-more Tasklet kind (if_block earlier when) own more outside opened = omega arith
held-more Tasklet kind (else_block earlier) own more outside opened = omega arith

pub file_held : (in_program : Bool) (opener : Opener) (own outside : ℕ) → IsFile opener → held in_program opener own outside ≡ 0
file_held in_program file own outside is = refl
file_held in_program (function name) own outside is = absurd is
file_held in_program (statement s) own outside is = absurd is
file_held in_program (consumer line from size name element worker) own outside is = absurd is
file_held in_program (if_block earlier when) own outside is = absurd is
file_held in_program (else_block earlier) own outside is = absurd is

pub blocks-more : (b : OpenBlock) (outer : List OpenBlock) (more : List StatementTree) → AreNested b outer →
    blocks_sum (record b { statements = b.statements ++ more } ∷ outer) ≤ blocks_sum (b ∷ outer) + weight b.kind (sum_of more)
blocks-more b [] more shape = omega (arith, file_held false b.opener (sum_of (b.statements ++ more)) 0 shape.1)
blocks-more b (about ∷ outer) more shape =
    subst (λ n. held (is_program about.kind) b.opener n (blocks_sum (about ∷ outer)) ≤ blocks_sum (b ∷ about ∷ outer) + weight b.kind (sum_of more)) (sym (sum-joined b.statements more))
    (held-more about.kind b.kind b.opener (sum_of b.statements) (sum_of more) (blocks_sum (about ∷ outer)) shape.0)

-- ---- lines

abbrev IsSingle : StatementTree → Type 0
IsSingle (map_scope line parameters ranges body) = ⊥
IsSingle (tasklet line body) = ⊥
IsSingle (consume_scope line from size name element worker body) = ⊥
IsSingle (for_loop line name begin end step body) = ⊥
IsSingle (while_loop line when body) = ⊥
IsSingle (branch line when body other) = ⊥
IsSingle (tasklet_branch line when body other) = ⊥
IsSingle s = ⊤

-- a statement of one line
single : (kind : BlockKind) (s : StatementTree) → Fits kind (statement_head s) → IsSingle s → weight kind (states_in s + 0) ≤ new_states kind (statement_head s)
single Top s fit is = absurd fit
single Scope s fit is = omega arith
single Tasklet s fit is = omega arith
single Program (argument_array at name bits extents) fit is = absurd fit
single Program (local_array at name extents bits) fit is = omega arith
single Program (local_stream at name bits size) fit is = omega arith
single Program (assign at name subscripts add value) fit is = omega arith
single Program (copy at to to_dimensions from from_dimensions) fit is = omega arith
single Program (reduce at lambda from to axis identity) fit is = absurd fit
single Program (map_scope at parameters ranges body) fit is = absurd is
single Program (tasklet at body) fit is = absurd is
single Program (consume_scope at from size name element worker body) fit is = absurd is
single Program (call at name arguments) fit is = omega arith
single Program (for_loop at name begin end step body) fit is = absurd is
single Program (while_loop at when body) fit is = absurd is
single Program (branch at when body other) fit is = absurd is
single Program (input at connector memlet) fit is = absurd fit
single Program (output at connector memlet) fit is = absurd fit
single Program (set at name value) fit is = absurd fit
single Program (set_at at name subscripts value) fit is = absurd fit
single Program (tasklet_branch at when body other) fit is = absurd is

one-more : (context : Context) (s : StatementTree) → Fits context.block.kind (statement_head s) → IsSingle s → AreNested context.block context.outer →
    0 + blocks_sum (record context.block { statements = context.block.statements ++ s ∷ [] } ∷ context.outer) ≤ total context + new_states context.block.kind (statement_head s)
one-more context s fit is shape = omega (arith, blocks-more context.block context.outer (s ∷ []) shape, single context.block.kind s fit is)

-- a statement that opens a block
opens_sum : (kind : BlockKind) (s : StatementTree) (outside : ℕ) → opened_sum s 0 ≤ statement_states s → held (is_program kind) (statement s) 0 outside ≤ outside + new_states kind (statement_head s)
opens_sum Top s outside less = omega arith
opens_sum Program s outside less = omega (arith, less)
opens_sum Scope s outside less = omega arith
opens_sum Tasklet s outside less = omega arith

if_sum : (kind : BlockKind) (line : ℕ) (when test : Expression) (body other : Block) (outside : ℕ) → held (is_program kind) (if_block [] test) 0 outside ≤ outside + new_states kind (statement_head (branch line when body other))
if_sum Top line when test body other outside = omega arith
if_sum Program line when test body other outside = omega arith
if_sum Scope line when test body other outside = omega arith
if_sum Tasklet line when test body other outside = omega arith

inner_if_sum : (kind : BlockKind) (line : ℕ) (when test : Expression) (body other : Block) (outside : ℕ) → Fits kind (statement_head (tasklet_branch line when body other)) →
    held (is_program kind) (if_block [] test) 0 outside ≤ outside + new_states kind (statement_head (tasklet_branch line when body other))
inner_if_sum Top line when test body other outside fit = omega arith
inner_if_sum Program line when test body other outside fit = absurd fit
inner_if_sum Scope line when test body other outside fit = omega arith
inner_if_sum Tasklet line when test body other outside fit = omega arith

statement_total : (context : Context) (line : ℕ) (scoped : Bool) (s : StatementTree) → Fits context.block.kind (statement_head s) → AreNested context.block context.outer →
    total (context_after context line scoped (statement_head s)) ≤ total context + new_states context.block.kind (statement_head s)
statement_total context line scoped (argument_array at name bits extents) fit shape = omega arith
statement_total context line scoped (local_array at name extents bits) fit shape = one-more context (local_array at name extents bits) fit tt shape
statement_total context line scoped (local_stream at name bits size) fit shape = one-more context (local_stream at name bits size) fit tt shape
statement_total context line scoped (assign at name subscripts add value) fit shape = one-more context (assign at name subscripts add value) fit tt shape
statement_total context line scoped (copy at to to_dimensions from from_dimensions) fit shape = one-more context (copy at to to_dimensions from from_dimensions) fit tt shape
statement_total context line scoped (reduce at lambda from to axis identity) fit shape = absurd (of_line context.block.kind (reduce at lambda from to axis identity) fit)
statement_total context line scoped (map_scope at parameters ranges body) fit shape = omega (arith, opens_sum context.block.kind (map_scope at parameters ranges body) (blocks_sum (context.block ∷ context.outer)) (omega arith))
statement_total context line scoped (tasklet at body) fit shape = omega (arith, opens_sum context.block.kind (tasklet at body) (blocks_sum (context.block ∷ context.outer)) (omega arith))
statement_total context line scoped (consume_scope at from size name element worker body) fit shape = absurd (of_line context.block.kind (consume_scope at from size name element worker body) fit)
statement_total context line scoped (call at name arguments) fit shape = one-more context (call at name arguments) fit tt shape
statement_total context line scoped (for_loop at name begin end step body) fit shape = omega (arith, opens_sum context.block.kind (for_loop at name begin end step body) (blocks_sum (context.block ∷ context.outer)) (omega arith))
statement_total context line scoped (while_loop at when body) fit shape = omega (arith, opens_sum context.block.kind (while_loop at when body) (blocks_sum (context.block ∷ context.outer)) (omega arith))
statement_total context line scoped (branch at when body other) fit shape = omega (arith, if_sum context.block.kind at when when body other (blocks_sum (context.block ∷ context.outer)))
statement_total context line scoped (input at connector memlet) fit shape = absurd (of_line context.block.kind (input at connector memlet) fit)
statement_total context line scoped (output at connector memlet) fit shape = absurd (of_line context.block.kind (output at connector memlet) fit)
statement_total context line scoped (set at name value) fit shape = one-more context (set at name value) fit tt shape
statement_total context line scoped (set_at at name subscripts value) fit shape = one-more context (set_at at name subscripts value) fit tt shape
statement_total context line scoped (tasklet_branch at when body other) fit shape = omega (arith, inner_if_sum context.block.kind at when when body other (blocks_sum (context.block ∷ context.outer)) fit)

consumer_sum : (kind : BlockKind) (before : Awaited) (name element : Name) (worker : Option Name) (outside : ℕ) → is_wanted (wanted_of before) (consume_head name element worker) ≡ true →
    held (is_program kind) (consumer_of before name element worker) 0 outside ≤ waiting before kind + outside
consumer_sum kind nothing name element worker outside due = false_is_not_true due
consumer_sum kind block name element worker outside due = false_is_not_true due
consumer_sum kind (function_def at) name element worker outside due = false_is_not_true due
consumer_sum Top (consume_def at from size) name element worker outside due = omega arith
consumer_sum Program (consume_def at from size) name element worker outside due = omega arith
consumer_sum Scope (consume_def at from size) name element worker outside due = omega arith
consumer_sum Tasklet (consume_def at from size) name element worker outside due = omega arith

decorator_sum : (kind : BlockKind) (stream : Name) (size : ℤ) → weight kind 1 ≤ new_states kind (consume_decorator stream size)
decorator_sum Top stream size = omega arith
decorator_sum Program stream size = omega arith
decorator_sum Scope stream size = omega arith
decorator_sum Tasklet stream size = omega arith

abbrev IsTasklet : BlockKind → Type 0
IsTasklet Tasklet = ⊤
IsTasklet kind = ⊥

reduce_sum : (kind : BlockKind) (head : HeadTree) → Fits kind head → (kind ≡ Program → 1 ≤ new_states Program head) → weight kind 1 ≤ new_states kind head
reduce_sum Top head fit some = omega arith
reduce_sum Program head fit some = some refl
reduce_sum Scope head fit some = omega arith
reduce_sum Tasklet head fit some = omega arith

no_input : (kind : BlockKind) (connector : Name) (memlet : MemletTree) → Fits kind (input_head connector memlet) → kind ≡ Program → ⊥
no_input Top connector memlet fit is = fit
no_input Program connector memlet fit is = fit
no_input Scope connector memlet fit is = fit
no_input Tasklet connector memlet fit is = subst IsTasklet is tt

no_output : (kind : BlockKind) (connector : Name) (memlet : MemletTree) → Fits kind (output_head connector memlet) → kind ≡ Program → ⊥
no_output Top connector memlet fit is = fit
no_output Program connector memlet fit is = fit
no_output Scope connector memlet fit is = fit
no_output Tasklet connector memlet fit is = subst IsTasklet is tt

one-head : (context : Context) (head : HeadTree) (s : StatementTree) → AreNested context.block context.outer → weight context.block.kind (states_in s + 0) ≤ new_states context.block.kind head →
    0 + blocks_sum (record context.block { statements = context.block.statements ++ s ∷ [] } ∷ context.outer) ≤ total context + new_states context.block.kind head
one-head context head s shape less = omega (arith, blocks-more context.block context.outer (s ∷ []) shape, less)

pub counted_line : (context after : Context) (head : HeadTree) → FewStates context → IsAccepted context head →
    (after.counts.containers ≡ context.counts.containers + new_containers head) × (after.counts.states ≡ context.counts.states + new_states context.block.kind head) →
    after.functions ≡ context.functions → total after ≤ total context + new_states context.block.kind head → FewStates after
counted_line context after head good accepted' same functions more =
    let kept = within context.names (site_of context) head (passes context.names (site_of context) head accepted') in
    record {
      counted = omega (arith, same.1, more, good.counted);
      few = omega (arith, same.1, kept.states);
      functions = subst (AllByRecursion IsFew) (sym functions) good.functions;
    }

pub line_total : (context : Context) (line : ℕ) (scoped : Bool) (head : HeadTree) → Fits context.block.kind head → is_wanted (wanted_of context.awaited) head ≡ true → AreNested context.block context.outer →
    FewStates context → IsAccepted context head → FewStates (context_after context line scoped head)
line_total context line scoped import_line fit due shape good accepted' = counted_line context (context_after context line scoped import_line) import_line good accepted' (same_counted (begins_tasklet scoped import_line) (first_connectors import_line) 0 (counts_behind context.names context.counts context.block.kind import_line)) refl (omega arith)
line_total context line scoped (symbol_line name quoted) fit due shape good accepted' = counted_line context (context_after context line scoped (symbol_line name quoted)) (symbol_line name quoted) good accepted' (same_counted (begins_tasklet scoped (symbol_line name quoted)) (first_connectors (symbol_line name quoted)) 0 (counts_behind context.names context.counts context.block.kind (symbol_line name quoted))) refl (omega arith)
line_total context line scoped program_decorator fit due shape good accepted' = counted_line context (context_after context line scoped program_decorator) program_decorator good accepted' (same_counted (begins_tasklet scoped program_decorator) (first_connectors program_decorator) 0 (counts_behind context.names context.counts context.block.kind program_decorator)) refl (omega arith)
line_total context line scoped (program_head name arguments) fit due shape good accepted' = record { counted = omega arith; few = omega arith; functions = good.functions }
line_total context line scoped (statement_head s) fit due shape good accepted' = counted_line context (context_after context line scoped (statement_head s)) (statement_head s) good accepted' (statement_after context line scoped s).0 (statement_after context line scoped s).1 (statement_total context line scoped s fit shape)
line_total context line scoped (reduce_head lambda from to axis identity) fit due shape good accepted' = counted_line context (context_after context line scoped (reduce_head lambda from to axis identity)) (reduce_head lambda from to axis identity) good accepted' (same_counted (begins_tasklet scoped (reduce_head lambda from to axis identity)) (first_connectors (reduce_head lambda from to axis identity)) 0 (counts_behind context.names context.counts context.block.kind (reduce_head lambda from to axis identity))) refl (one-head context (reduce_head lambda from to axis identity) _ shape (reduce_sum context.block.kind (reduce_head lambda from to axis identity) fit (λ is. omega arith)))
line_total context line scoped (input_head connector memlet) fit due shape good accepted' = counted_line context (context_after context line scoped (input_head connector memlet)) (input_head connector memlet) good accepted' (same_counted (begins_tasklet scoped (input_head connector memlet)) (first_connectors (input_head connector memlet)) 0 (counts_behind context.names context.counts context.block.kind (input_head connector memlet))) refl (one-head context (input_head connector memlet) _ shape (reduce_sum context.block.kind (input_head connector memlet) fit (λ is. absurd (no_input context.block.kind connector memlet fit is))))
line_total context line scoped (output_head connector memlet) fit due shape good accepted' = counted_line context (context_after context line scoped (output_head connector memlet)) (output_head connector memlet) good accepted' (same_counted (begins_tasklet scoped (output_head connector memlet)) (first_connectors (output_head connector memlet)) 0 (counts_behind context.names context.counts context.block.kind (output_head connector memlet))) refl (one-head context (output_head connector memlet) _ shape (reduce_sum context.block.kind (output_head connector memlet) fit (λ is. absurd (no_output context.block.kind connector memlet fit is))))
line_total context line scoped (consume_decorator from size) fit due shape good accepted' = counted_line context (context_after context line scoped (consume_decorator from size)) (consume_decorator from size) good accepted' (same_counted (begins_tasklet scoped (consume_decorator from size)) (first_connectors (consume_decorator from size)) 0 (counts_behind context.names context.counts context.block.kind (consume_decorator from size))) refl (omega (arith, decorator_sum context.block.kind from size))
line_total context line scoped (consume_head name element worker) fit due shape good accepted' = counted_line context (context_after context line scoped (consume_head name element worker)) (consume_head name element worker) good accepted' (same_counted (begins_tasklet scoped (consume_head name element worker)) (first_connectors (consume_head name element worker)) 0 (counts_behind context.names context.counts context.block.kind (consume_head name element worker))) refl (omega (arith, consumer_sum context.block.kind context.awaited name element worker (blocks_sum (context.block ∷ context.outer)) due))
line_total context line scoped (elif_head when) fit due shape good accepted' = counted_line context (context_after context line scoped (elif_head when)) (elif_head when) good accepted' (same_counted (begins_tasklet scoped (elif_head when)) (first_connectors (elif_head when)) 0 (counts_behind context.names context.counts context.block.kind (elif_head when))) refl (omega arith)
line_total context line scoped else_head fit due shape good accepted' = counted_line context (context_after context line scoped else_head) else_head good accepted' (same_counted (begins_tasklet scoped else_head) (first_connectors else_head) 0 (counts_behind context.names context.counts context.block.kind else_head)) refl (omega arith)
