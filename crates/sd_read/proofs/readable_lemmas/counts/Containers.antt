-- How many containers each program makes.
use Rattle.std.proofs.Common.{◌≡◌, ◌≤◌, ℕ, ◌+◌, nat_lt, List, [], ◌∷◌, ◌++◌, Bool, true, false, if◌then◌else◌, length, Option, Ok, Err, refl, ap, sym, subst, arith}
use Rattle.std.specs.List.{AllByRecursion}
use Rattle.std.proofs.lemmas.Bool.{ltb-false}
use Rattle.sd_lex.specs.PlainTree.{StatementTree, argument_array, local_array, local_stream, assign, copy, reduce, map_scope, tasklet, consume_scope, call, for_loop, while_loop, branch, input, output, set, set_at, tasklet_branch, Block, FunctionTree}
use Rattle.sd_lex.specs.TreeFold.{block_listed}
use Rattle.sd_line.specs.declared.line.head.BlockKind.{BlockKind}
use Rattle.sd_line.specs.declared.line.head.BlockKind.TheVariants.{Top}
use Rattle.sd_phrase.specs.declared.reading.Reading.TheVariants.{Form}
use Rattle.sd_line.specs.line.Head.{HeadTree, import_line, symbol_line, program_decorator, program_head, statement_head, reduce_head, input_head, output_head, consume_decorator, consume_head, elif_head, else_head}
use Rattle.sd_names.specs.Names.{Name}
use Rattle.sd_refusal.specs.Counting.{counts_behind}
use Rattle.sd_refusal.specs.NotAForm.{is_program}
use Rattle.sd_refusal.specs.OverLimit.{is_tasklet, new_containers, new_states}
use Rattle.sd_refusal.specs.declared.site.Counts.{Counts}
use Rattle.sd_context.specs.context.Context.{Branch, Opener, file, function, statement, consumer, if_block, else_block, OpenBlock, Awaited, nothing, block, function_def, consume_def, Context, site_of}
use Rattle.sd_context.specs.context.After.{begins_tasklet, first_connectors, context_after}
use Rattle.sd_context.specs.context.Placing.{consumer_of}
use Rattle.sd_context.specs.blocks.Closing.{states_behind, states_counted, late_states, branch_with, nested, with_body, finished_by, finished, closed_by, closed_into}
use Rattle.sd_context.specs.blocks.Continuing.{goes_on, branches_of, next_opener}
use Rattle.sd_read.proofs.readable_lemmas.kept.Heads.{IsFile, Fits, Opens, IsOpenedIn, AreNested}
use Rattle.sd_read.proofs.readable_lemmas.kept.Counted.{within, same_counts}
use Rattle.sd_read.proofs.readable_lemmas.kept.Passing.{passes, false_is_not_true}
use Rattle.sd_read.proofs.readable_lemmas.kept.Steps.{refused_is_none, IsAccepted, Keeps, branch_counted, behind_branch, behind_other}
use Rattle.sd_read.proofs.readable_lemmas.kept.Nesting.{top_is_file}
use Rattle.sd_read.proofs.readable_lemmas.kept.Trees.{of_line, all-more}
use Rattle.sd_program.specs.Declared.{containers_in, containers_in_all}
use Rattle.sd_program.specs.Limits.{containers_of}

-- what is counted where a tasklet begins
pub same_counted : (test : Bool) (first lines : ℕ) (counts : Counts) →
    ((if test then record counts { connectors = first; lines = lines } else counts).containers ≡ counts.containers) × ((if test then record counts { connectors = first; lines = lines } else counts).states ≡ counts.states)
same_counted true first lines counts = (refl, refl)
same_counted false first lines counts = (refl, refl)

-- late states are counted one by one, up to the limit
pub late_counted : (lines : List ℕ) (counts now : Counts) → states_counted counts lines ≡ Ok now → counts.states ≤ 256 →
    (now.containers ≡ counts.containers) × ((now.states ≡ counts.states + length lines) × (now.states ≤ 256))
late_counted [] counts now is few =
    let same = same_counts counts now is in
    (sym (ap (λ c. c.containers) same), (subst (λ c. c.states ≡ counts.states + 0) same (omega arith), subst (λ c. c.states ≤ 256) same few))
late_counted (line ∷ lines) counts now is few = by_test (late_counted lines (record counts { states = counts.states + 1 }) now) (nat_lt 255 counts.states) (λ not. ltb-false 255 counts.states not) is where
  by_test : (states_counted (record counts { states = counts.states + 1 }) lines ≡ Ok now → counts.states + 1 ≤ 256 → (now.containers ≡ counts.containers) × ((now.states ≡ counts.states + 1 + length lines) × (now.states ≤ 256))) →
      (test : Bool) → (test ≡ false → counts.states ≤ 255) →
      states_behind (if test then Err (record { number = 8; line = line }) else Ok (record counts { states = counts.states + 1 })) (λ next. states_counted next lines) ≡ Ok now →
      (now.containers ≡ counts.containers) × ((now.states ≡ counts.states + length (line ∷ lines)) × (now.states ≤ 256))
  by_test go true low is = refused_is_none (record { number = 8; line = line }) now is
  by_test go false low is =
      let later = go is (omega (arith, low refl)) in
      (later.0, (omega (arith, later.1.0), later.1.1))

pub branch_late : (last : OpenBlock) (counts now : Counts) → branch_counted last counts ≡ Ok now → counts.states ≤ 256 →
    (now.containers ≡ counts.containers) × ((counts.states ≤ now.states) × (now.states ≤ 256))
branch_late last counts now is few = by_test (is_program last.kind) is where
  by_test : (test : Bool) → (if test then states_counted counts (last.line ∷ []) else Ok counts) ≡ Ok now → (now.containers ≡ counts.containers) × ((counts.states ≤ now.states) × (now.states ≤ 256))
  by_test true is = let late = late_counted (last.line ∷ []) counts now is few in (late.0, (omega (arith, late.1.0), late.1.1))
  by_test false is = let same = same_counts counts now is in (sym (ap (λ c. c.containers) same), (subst (λ c. counts.states ≤ c.states) same (omega arith), subst (λ c. c.states ≤ 256) same few))

-- ---- the containers of the open blocks

abbrev sum_of : List StatementTree → ℕ
sum_of [] = 0
sum_of (s ∷ statements) = containers_in s + sum_of statements

abbrev branches_sum : List Branch → ℕ
branches_sum [] = 0
branches_sum (b ∷ branches) = sum_of b.statements + branches_sum branches

-- a block with statements that make so many, within blocks that make so many
abbrev held : Opener → (own outside : ℕ) → ℕ
held file own outside = 0
held (function name) own outside = own
held (statement s) own outside = own + outside
held (consumer line from size name element worker) own outside = 1 + (own + outside)
held (if_block earlier when) own outside = branches_sum earlier + (own + outside)
held (else_block earlier) own outside = branches_sum earlier + (own + outside)

abbrev blocks_sum : List OpenBlock → ℕ
blocks_sum [] = 0
blocks_sum (b ∷ outer) = held b.opener (sum_of b.statements) (blocks_sum outer)

abbrev total : Context → ℕ
total context = sum_of context.arguments + blocks_sum (context.block ∷ context.outer)

abbrev IsFew : FunctionTree → Type 0
IsFew f = containers_of f ≤ 256

pub record FewContainers (context : Context) : Type 0 where
  pub counted : total context ≤ context.counts.containers
  pub few : context.counts.containers ≤ 256
  pub states : context.counts.states ≤ 256
  pub functions : AllByRecursion IsFew context.functions

sum-joined : (a b : List StatementTree) → sum_of (a ++ b) ≡ sum_of a + sum_of b
sum-joined [] b = omega arith
sum-joined (s ∷ a) b = omega (arith, sum-joined a b)

branches-joined : (a b : List Branch) → branches_sum (a ++ b) ≡ branches_sum a + branches_sum b
branches-joined [] b = omega arith
branches-joined (x ∷ a) b = omega (arith, branches-joined a b)

sum-listed : (statements : List StatementTree) → containers_in_all (block_listed statements) ≡ sum_of statements
sum-listed [] = refl
sum-listed (s ∷ statements) = omega (arith, sum-listed statements)

-- so many more in a block
held-more : (opener : Opener) (own more outside : ℕ) → held opener (own + more) outside ≤ held opener own outside + more
held-more file own more outside = omega arith
held-more (function name) own more outside = omega arith
held-more (statement s) own more outside = omega arith
held-more (consumer line from size name element worker) own more outside = omega arith
held-more (if_block earlier when) own more outside = omega arith
held-more (else_block earlier) own more outside = omega arith

blocks-more : (b : OpenBlock) (outer : List OpenBlock) (more : List StatementTree) →
    blocks_sum (record b { statements = b.statements ++ more } ∷ outer) ≤ blocks_sum (b ∷ outer) + sum_of more
blocks-more b outer more = subst (λ n. held b.opener n (blocks_sum outer) ≤ blocks_sum (b ∷ outer) + sum_of more) (sym (sum-joined b.statements more)) (held-more b.opener (sum_of b.statements) (sum_of more) (blocks_sum outer))

one-more : (context : Context) (s : StatementTree) →
    sum_of context.arguments + blocks_sum (record context.block { statements = context.block.statements ++ s ∷ [] } ∷ context.outer) ≤ total context + containers_in s
one-more context s = omega (arith, blocks-more context.block context.outer (s ∷ []))

one-argument : (context : Context) (s : StatementTree) → sum_of (context.arguments ++ s ∷ []) + blocks_sum (context.block ∷ context.outer) ≤ total context + containers_in s
one-argument context s = omega (arith, sum-joined context.arguments (s ∷ []))

-- ---- lines

consumer_held : (before : Awaited) (name element : Name) (worker : Option Name) (outside : ℕ) → held (consumer_of before name element worker) 0 outside ≡ 1 + (0 + outside)
consumer_held nothing name element worker outside = refl
consumer_held block name element worker outside = refl
consumer_held (function_def at) name element worker outside = refl
consumer_held (consume_def at from size) name element worker outside = refl

statement_total : (context : Context) (line : ℕ) (scoped : Bool) (s : StatementTree) → Fits context.block.kind (statement_head s) →
    total (context_after context line scoped (statement_head s)) ≤ total context + new_containers (statement_head s)
statement_total context line scoped (argument_array at name bits extents) fit = one-argument context (argument_array at name bits extents)
statement_total context line scoped (local_array at name extents bits) fit = one-more context (local_array at name extents bits)
statement_total context line scoped (local_stream at name bits size) fit = one-more context (local_stream at name bits size)
statement_total context line scoped (assign at name subscripts add value) fit = one-more context (assign at name subscripts add value)
statement_total context line scoped (copy at to to_dimensions from from_dimensions) fit = one-more context (copy at to to_dimensions from from_dimensions)
statement_total context line scoped (reduce at lambda from to axis identity) fit = one-more context (reduce at lambda from to axis identity)
statement_total context line scoped (map_scope at parameters ranges body) fit = omega arith
statement_total context line scoped (tasklet at body) fit = omega arith
statement_total context line scoped (consume_scope at from size name element worker body) fit = absurd (of_line context.block.kind (consume_scope at from size name element worker body) fit)
statement_total context line scoped (call at name arguments) fit = one-more context (call at name arguments)
statement_total context line scoped (for_loop at name begin end step body) fit = omega arith
statement_total context line scoped (while_loop at when body) fit = omega arith
statement_total context line scoped (branch at when body other) fit = omega arith
statement_total context line scoped (input at connector memlet) fit = one-more context (input at connector memlet)
statement_total context line scoped (output at connector memlet) fit = one-more context (output at connector memlet)
statement_total context line scoped (set at name value) fit = one-more context (set at name value)
statement_total context line scoped (set_at at name subscripts value) fit = one-more context (set_at at name subscripts value)
statement_total context line scoped (tasklet_branch at when body other) fit = omega arith

-- what a statement changes
pub statement_after : (context : Context) (line : ℕ) (scoped : Bool) (s : StatementTree) → let after = context_after context line scoped (statement_head s) in
    ((after.counts.containers ≡ context.counts.containers + new_containers (statement_head s)) × (after.counts.states ≡ context.counts.states + new_states context.block.kind (statement_head s))) ×
    (after.functions ≡ context.functions)
statement_after context line scoped (argument_array at name bits extents) =
    (same_counted (begins_tasklet scoped (statement_head (argument_array at name bits extents))) (first_connectors (statement_head (argument_array at name bits extents))) 0 (counts_behind context.names context.counts context.block.kind (statement_head (argument_array at name bits extents))), refl)
statement_after context line scoped (local_array at name extents bits) =
    (same_counted (begins_tasklet scoped (statement_head (local_array at name extents bits))) (first_connectors (statement_head (local_array at name extents bits))) 0 (counts_behind context.names context.counts context.block.kind (statement_head (local_array at name extents bits))), refl)
statement_after context line scoped (local_stream at name bits size) =
    (same_counted (begins_tasklet scoped (statement_head (local_stream at name bits size))) (first_connectors (statement_head (local_stream at name bits size))) 0 (counts_behind context.names context.counts context.block.kind (statement_head (local_stream at name bits size))), refl)
statement_after context line scoped (assign at name subscripts add value) =
    (same_counted (begins_tasklet scoped (statement_head (assign at name subscripts add value))) (first_connectors (statement_head (assign at name subscripts add value))) 0 (counts_behind context.names context.counts context.block.kind (statement_head (assign at name subscripts add value))), refl)
statement_after context line scoped (copy at to to_dimensions from from_dimensions) =
    (same_counted (begins_tasklet scoped (statement_head (copy at to to_dimensions from from_dimensions))) (first_connectors (statement_head (copy at to to_dimensions from from_dimensions))) 0 (counts_behind context.names context.counts context.block.kind (statement_head (copy at to to_dimensions from from_dimensions))), refl)
statement_after context line scoped (reduce at lambda from to axis identity) =
    (same_counted (begins_tasklet scoped (statement_head (reduce at lambda from to axis identity))) (first_connectors (statement_head (reduce at lambda from to axis identity))) 0 (counts_behind context.names context.counts context.block.kind (statement_head (reduce at lambda from to axis identity))), refl)
statement_after context line scoped (map_scope at parameters ranges body) =
    (same_counted (begins_tasklet scoped (statement_head (map_scope at parameters ranges body))) (first_connectors (statement_head (map_scope at parameters ranges body))) 0 (counts_behind context.names context.counts context.block.kind (statement_head (map_scope at parameters ranges body))), refl)
statement_after context line scoped (tasklet at body) =
    (same_counted (begins_tasklet scoped (statement_head (tasklet at body))) (first_connectors (statement_head (tasklet at body))) 0 (counts_behind context.names context.counts context.block.kind (statement_head (tasklet at body))), refl)
statement_after context line scoped (consume_scope at from size name element worker body) =
    (same_counted (begins_tasklet scoped (statement_head (consume_scope at from size name element worker body))) (first_connectors (statement_head (consume_scope at from size name element worker body))) 0 (counts_behind context.names context.counts context.block.kind (statement_head (consume_scope at from size name element worker body))), refl)
statement_after context line scoped (call at name arguments) =
    (same_counted (begins_tasklet scoped (statement_head (call at name arguments))) (first_connectors (statement_head (call at name arguments))) 0 (counts_behind context.names context.counts context.block.kind (statement_head (call at name arguments))), refl)
statement_after context line scoped (for_loop at name begin end step body) =
    (same_counted (begins_tasklet scoped (statement_head (for_loop at name begin end step body))) (first_connectors (statement_head (for_loop at name begin end step body))) 0 (counts_behind context.names context.counts context.block.kind (statement_head (for_loop at name begin end step body))), refl)
statement_after context line scoped (while_loop at when body) =
    (same_counted (begins_tasklet scoped (statement_head (while_loop at when body))) (first_connectors (statement_head (while_loop at when body))) 0 (counts_behind context.names context.counts context.block.kind (statement_head (while_loop at when body))), refl)
statement_after context line scoped (branch at when body other) =
    (same_counted (begins_tasklet scoped (statement_head (branch at when body other))) (first_connectors (statement_head (branch at when body other))) 0 (counts_behind context.names context.counts context.block.kind (statement_head (branch at when body other))), refl)
statement_after context line scoped (input at connector memlet) =
    (same_counted (begins_tasklet scoped (statement_head (input at connector memlet))) (first_connectors (statement_head (input at connector memlet))) 0 (counts_behind context.names context.counts context.block.kind (statement_head (input at connector memlet))), refl)
statement_after context line scoped (output at connector memlet) =
    (same_counted (begins_tasklet scoped (statement_head (output at connector memlet))) (first_connectors (statement_head (output at connector memlet))) 0 (counts_behind context.names context.counts context.block.kind (statement_head (output at connector memlet))), refl)
statement_after context line scoped (set at name value) =
    (same_counted (begins_tasklet scoped (statement_head (set at name value))) (first_connectors (statement_head (set at name value))) 0 (counts_behind context.names context.counts context.block.kind (statement_head (set at name value))), refl)
statement_after context line scoped (set_at at name subscripts value) =
    (same_counted (begins_tasklet scoped (statement_head (set_at at name subscripts value))) (first_connectors (statement_head (set_at at name subscripts value))) 0 (counts_behind context.names context.counts context.block.kind (statement_head (set_at at name subscripts value))), refl)
statement_after context line scoped (tasklet_branch at when body other) =
    (same_counted (begins_tasklet scoped (statement_head (tasklet_branch at when body other))) (first_connectors (statement_head (tasklet_branch at when body other))) 0 (counts_behind context.names context.counts context.block.kind (statement_head (tasklet_branch at when body other))), refl)

-- the counts behind a line that passes
counted_line : (context after : Context) (head : HeadTree) → FewContainers context → IsAccepted context head →
    (after.counts.containers ≡ context.counts.containers + new_containers head) × (after.counts.states ≡ context.counts.states + new_states context.block.kind head) →
    after.functions ≡ context.functions → total after ≤ total context + new_containers head → FewContainers after
counted_line context after head good accepted' same functions more =
    let kept = within context.names (site_of context) head (passes context.names (site_of context) head accepted') in
    record {
      counted = omega (arith, same.0, more, good.counted);
      few = omega (arith, same.0, kept.containers);
      states = omega (arith, same.1, kept.states);
      functions = subst (AllByRecursion IsFew) (sym functions) good.functions;
    }

-- but for the first line of a program
line_total : (context : Context) (line : ℕ) (scoped : Bool) (head : HeadTree) → Fits context.block.kind head → FewContainers context → IsAccepted context head → FewContainers (context_after context line scoped head)
line_total context line scoped import_line fit good accepted' = counted_line context (context_after context line scoped import_line) import_line good accepted' (same_counted (begins_tasklet scoped import_line) (first_connectors import_line) 0 (counts_behind context.names context.counts context.block.kind import_line)) refl (omega arith)
line_total context line scoped (symbol_line name quoted) fit good accepted' = counted_line context (context_after context line scoped (symbol_line name quoted)) (symbol_line name quoted) good accepted' (same_counted (begins_tasklet scoped (symbol_line name quoted)) (first_connectors (symbol_line name quoted)) 0 (counts_behind context.names context.counts context.block.kind (symbol_line name quoted))) refl (omega arith)
line_total context line scoped program_decorator fit good accepted' = counted_line context (context_after context line scoped program_decorator) program_decorator good accepted' (same_counted (begins_tasklet scoped program_decorator) (first_connectors program_decorator) 0 (counts_behind context.names context.counts context.block.kind program_decorator)) refl (omega arith)
line_total context line scoped (program_head name arguments) fit good accepted' = record { counted = omega arith; few = omega arith; states = omega arith; functions = good.functions }
line_total context line scoped (statement_head s) fit good accepted' = counted_line context (context_after context line scoped (statement_head s)) (statement_head s) good accepted' (statement_after context line scoped s).0 (statement_after context line scoped s).1 (statement_total context line scoped s fit)
line_total context line scoped (reduce_head lambda from to axis identity) fit good accepted' = counted_line context (context_after context line scoped (reduce_head lambda from to axis identity)) (reduce_head lambda from to axis identity) good accepted' (same_counted (begins_tasklet scoped (reduce_head lambda from to axis identity)) (first_connectors (reduce_head lambda from to axis identity)) 0 (counts_behind context.names context.counts context.block.kind (reduce_head lambda from to axis identity))) refl (one-more context _)
line_total context line scoped (input_head connector memlet) fit good accepted' = counted_line context (context_after context line scoped (input_head connector memlet)) (input_head connector memlet) good accepted' (same_counted (begins_tasklet scoped (input_head connector memlet)) (first_connectors (input_head connector memlet)) 0 (counts_behind context.names context.counts context.block.kind (input_head connector memlet))) refl (one-more context _)
line_total context line scoped (output_head connector memlet) fit good accepted' = counted_line context (context_after context line scoped (output_head connector memlet)) (output_head connector memlet) good accepted' (same_counted (begins_tasklet scoped (output_head connector memlet)) (first_connectors (output_head connector memlet)) 0 (counts_behind context.names context.counts context.block.kind (output_head connector memlet))) refl (one-more context _)
line_total context line scoped (consume_decorator from size) fit good accepted' = counted_line context (context_after context line scoped (consume_decorator from size)) (consume_decorator from size) good accepted' (same_counted (begins_tasklet scoped (consume_decorator from size)) (first_connectors (consume_decorator from size)) 0 (counts_behind context.names context.counts context.block.kind (consume_decorator from size))) refl (omega arith)
line_total context line scoped (consume_head name element worker) fit good accepted' = counted_line context (context_after context line scoped (consume_head name element worker)) (consume_head name element worker) good accepted' (same_counted (begins_tasklet scoped (consume_head name element worker)) (first_connectors (consume_head name element worker)) 0 (counts_behind context.names context.counts context.block.kind (consume_head name element worker))) refl (omega (arith, consumer_held context.awaited name element worker (blocks_sum (context.block ∷ context.outer))))
line_total context line scoped (elif_head when) fit good accepted' = counted_line context (context_after context line scoped (elif_head when)) (elif_head when) good accepted' (same_counted (begins_tasklet scoped (elif_head when)) (first_connectors (elif_head when)) 0 (counts_behind context.names context.counts context.block.kind (elif_head when))) refl (omega arith)
line_total context line scoped else_head fit good accepted' = counted_line context (context_after context line scoped else_head) else_head good accepted' (same_counted (begins_tasklet scoped else_head) (first_connectors else_head) 0 (counts_behind context.names context.counts context.block.kind else_head)) refl (omega arith)

-- ---- ends of blocks

body_sum : (kind : BlockKind) (s : StatementTree) (body : Block) → Opens kind s → containers_in (with_body s body) ≤ containers_in_all body
body_sum kind (argument_array at name bits extents) body opens = absurd opens
body_sum kind (local_array at name extents bits) body opens = absurd opens
body_sum kind (local_stream at name bits size) body opens = absurd opens
body_sum kind (assign at name subscripts add value) body opens = absurd opens
body_sum kind (copy at to to_dimensions from from_dimensions) body opens = absurd opens
body_sum kind (reduce at lambda from to axis identity) body opens = absurd opens
body_sum kind (map_scope at parameters ranges empty) body opens = omega arith
body_sum kind (tasklet at empty) body opens = omega arith
body_sum kind (consume_scope at from size name element worker empty) body opens = absurd opens
body_sum kind (call at name arguments) body opens = absurd opens
body_sum kind (for_loop at name begin end step empty) body opens = omega arith
body_sum kind (while_loop at when empty) body opens = omega arith
body_sum kind (branch at when empty other) body opens = absurd opens
body_sum kind (input at connector memlet) body opens = absurd opens
body_sum kind (output at connector memlet) body opens = absurd opens
body_sum kind (set at name value) body opens = absurd opens
body_sum kind (set_at at name subscripts value) body opens = absurd opens
body_sum kind (tasklet_branch at when empty other) body opens = absurd opens

branch_sum : (kind : BlockKind) (b : Branch) (other : Block) → containers_in (branch_with kind b other) ≤ sum_of b.statements + containers_in_all other
branch_sum kind b other = by_kind (is_tasklet kind) where
  by_kind : (test : Bool) →
      containers_in (if test then tasklet_branch b.line b.when (block_listed b.statements) other else branch b.line b.when (block_listed b.statements) other) ≤ sum_of b.statements + containers_in_all other
  by_kind true = omega arith
  by_kind false = omega (arith, sum-listed b.statements)

nested_sum : (kind : BlockKind) (branches : List Branch) (other : List StatementTree) → sum_of (nested kind branches other) ≤ branches_sum branches + sum_of other
nested_sum kind [] other = omega arith
nested_sum kind (b ∷ branches) other =
    omega (arith, branch_sum kind b (block_listed (nested kind branches other)), sum-listed (nested kind branches other), nested_sum kind branches other)

-- what a block makes goes to the block about it; a program goes to none
abbrev passed_on : Opener → (outside : ℕ) → ℕ
passed_on file outside = 0
passed_on (function name) outside = 0
passed_on opener outside = outside

finished_sum : (about kind : BlockKind) (line : ℕ) (opener : Opener) (statements : List StatementTree) (outside : ℕ) → IsOpenedIn about kind opener →
    sum_of (finished_by kind line opener statements) + passed_on opener outside ≤ held opener (sum_of statements) outside
finished_sum about kind line file statements outside opened = absurd opened
finished_sum about kind line (function name) statements outside opened = omega arith
finished_sum about kind line (statement s) statements outside opened = omega (arith, body_sum kind s (block_listed statements) opened.1, sum-listed statements)
finished_sum about kind line (consumer at from size name element worker) statements outside opened = omega (arith, sum-listed statements)
finished_sum about kind line (if_block earlier when) statements outside opened =
    let last : Branch = record { line = line; when = when; statements = statements } in
    omega (arith, nested_sum kind (earlier ++ last ∷ []) [], branches-joined earlier (last ∷ []))
finished_sum about kind line (else_block earlier) statements outside opened = omega (arith, nested_sum kind earlier statements)

-- the file makes none
file_sum : (about : OpenBlock) (outer : List OpenBlock) → AreNested about outer → about.kind ≡ Top → blocks_sum (about ∷ outer) ≡ 0
file_sum about outer nested top = by_opener about.opener (subst (AreNested about) (top_is_file about outer nested top) nested).1 where
  by_opener : (opener : Opener) → IsFile opener → held opener (sum_of about.statements) (blocks_sum outer) ≡ 0
  by_opener file is = refl
  by_opener (function name) is = absurd is
  by_opener (statement s) is = absurd is
  by_opener (consumer line from size name element worker) is = absurd is
  by_opener (if_block earlier when) is = absurd is
  by_opener (else_block earlier) is = absurd is

close_total : (outer : List OpenBlock) (context : Context) → context.outer ≡ outer → AreNested context.block outer →
    sum_of context.arguments + blocks_sum (context.block ∷ outer) ≤ context.counts.containers → context.counts.containers ≤ 256 → context.counts.states ≤ 256 →
    AllByRecursion IsFew context.functions → FewContainers (closed_into outer context)
close_total [] context is shape counted few states functions =
    record { counted = subst (λ outer. sum_of context.arguments + blocks_sum (context.block ∷ outer) ≤ context.counts.containers) (sym is) counted; few = few; states = states; functions = functions }
close_total (about ∷ rest) context is shape counted few states functions =
    by_opener context.block.opener shape.0 (finished_sum about.kind context.block.kind context.block.line context.block.opener context.block.statements (blocks_sum (about ∷ rest)) shape.0) counted where
      inner : List StatementTree
      inner = context.block.statements

      behind : (after : Context) → after.counts ≡ context.counts → after.functions ≡ context.functions → total after ≤ context.counts.containers → FewContainers after
      behind after same others less = record {
        counted = subst (λ c. total after ≤ c.containers) (sym same) less;
        few = subst (λ c. c.containers ≤ 256) (sym same) few;
        states = subst (λ c. c.states ≤ 256) (sym same) states;
        functions = subst (AllByRecursion IsFew) (sym others) functions;
      }

      by_opener : (opener : Opener) → IsOpenedIn about.kind context.block.kind opener →
          sum_of (finished context.block) + passed_on opener (blocks_sum (about ∷ rest)) ≤ held opener (sum_of inner) (blocks_sum (about ∷ rest)) →
          sum_of context.arguments + held opener (sum_of inner) (blocks_sum (about ∷ rest)) ≤ context.counts.containers → FewContainers (closed_by opener about rest context)
      by_opener file opened less counted = absurd opened
      by_opener (function name) opened less counted =
          record {
            counted = omega (arith, file_sum about rest shape.1 opened.0);
            few = few;
            states = states;
            functions = all-more IsFew context.functions _ functions (omega (arith, sum-listed context.arguments, sum-listed inner, counted, few));
          }
      by_opener (statement s) opened less counted =
          behind (closed_by (statement s) about rest context) refl refl (omega (arith, blocks-more about rest (finished context.block), counted, less))
      by_opener (consumer line from size name element worker) opened less counted =
          behind (closed_by (consumer line from size name element worker) about rest context) refl refl (omega (arith, blocks-more about rest (finished context.block), counted, less))
      by_opener (if_block earlier when) opened less counted =
          behind (closed_by (if_block earlier when) about rest context) refl refl (omega (arith, blocks-more about rest (finished context.block), counted, less))
      by_opener (else_block earlier) opened less counted =
          behind (closed_by (else_block earlier) about rest context) refl refl (omega (arith, blocks-more about rest (finished context.block), counted, less))

-- ---- `elif` and `else`

next_sum : (about kind : BlockKind) (line : ℕ) (statements : List StatementTree) (opener : Opener) (head : HeadTree) (outside : ℕ) → goes_on (Form head) opener ≡ true → IsOpenedIn about kind opener →
    held (next_opener (branches_of line statements opener) head) 0 outside ≤ held opener (sum_of statements) outside
next_sum about kind line statements opener head outside on opened = by_opener opener on opened where
  next_held : (branches : List Branch) (head : HeadTree) → held (next_opener branches head) 0 outside ≡ branches_sum branches + (0 + outside)
  next_held branches import_line = refl
  next_held branches (symbol_line name quoted) = refl
  next_held branches program_decorator = refl
  next_held branches (program_head name arguments) = refl
  next_held branches (statement_head s) = refl
  next_held branches (reduce_head lambda from to axis identity) = refl
  next_held branches (input_head connector memlet) = refl
  next_held branches (output_head connector memlet) = refl
  next_held branches (consume_decorator from size) = refl
  next_held branches (consume_head name element worker) = refl
  next_held branches (elif_head when) = refl
  next_held branches else_head = refl

  by_opener : (opener : Opener) → goes_on (Form head) opener ≡ true → IsOpenedIn about kind opener → held (next_opener (branches_of line statements opener) head) 0 outside ≤ held opener (sum_of statements) outside
  by_opener file on opened = absurd opened
  by_opener (function name) on opened = false_is_not_true on
  by_opener (statement s) on opened = false_is_not_true on
  by_opener (consumer at from size name element worker) on opened = false_is_not_true on
  by_opener (if_block earlier when) on opened =
      let last : Branch = record { line = line; when = when; statements = statements } in
      omega (arith, next_held (earlier ++ last ∷ []) head, branches-joined earlier (last ∷ []))
  by_opener (else_block earlier) on opened = false_is_not_true on

no_program : (name : Name) (arguments : Block) (opener : Opener) → goes_on (Form (program_head name arguments)) opener ≡ true → ⊥
no_program name arguments file on = false_is_not_true on
no_program name arguments (function other) on = false_is_not_true on
no_program name arguments (statement s) on = false_is_not_true on
no_program name arguments (consumer at from size other element worker) on = false_is_not_true on
no_program name arguments (if_block earlier when) on = false_is_not_true on
no_program name arguments (else_block earlier) on = false_is_not_true on

-- what is counted behind an `elif` or `else`
pub other_counted : (context : Context) (counts : Counts) (about : OpenBlock) (outer : List OpenBlock) (line : ℕ) (head : HeadTree) → goes_on (Form head) context.block.opener ≡ true →
    ((behind_other context counts about outer line head).counts.containers ≡ counts.containers + new_containers head) ×
    ((behind_other context counts about outer line head).counts.states ≡ counts.states + new_states about.kind head)
other_counted context counts about outer line import_line on = same_counted (begins_tasklet false import_line) (first_connectors import_line) 0 (counts_behind (behind_branch context counts about outer).names counts about.kind import_line)
other_counted context counts about outer line (symbol_line name quoted) on = same_counted (begins_tasklet false (symbol_line name quoted)) (first_connectors (symbol_line name quoted)) 0 (counts_behind (behind_branch context counts about outer).names counts about.kind (symbol_line name quoted))
other_counted context counts about outer line program_decorator on = same_counted (begins_tasklet false program_decorator) (first_connectors program_decorator) 0 (counts_behind (behind_branch context counts about outer).names counts about.kind program_decorator)
other_counted context counts about outer line (program_head name arguments) on = absurd (no_program name arguments context.block.opener on)
other_counted context counts about outer line (statement_head s) on = same_counted (begins_tasklet false (statement_head s)) (first_connectors (statement_head s)) 0 (counts_behind (behind_branch context counts about outer).names counts about.kind (statement_head s))
other_counted context counts about outer line (reduce_head lambda from to axis identity) on = same_counted (begins_tasklet false (reduce_head lambda from to axis identity)) (first_connectors (reduce_head lambda from to axis identity)) 0 (counts_behind (behind_branch context counts about outer).names counts about.kind (reduce_head lambda from to axis identity))
other_counted context counts about outer line (input_head connector memlet) on = same_counted (begins_tasklet false (input_head connector memlet)) (first_connectors (input_head connector memlet)) 0 (counts_behind (behind_branch context counts about outer).names counts about.kind (input_head connector memlet))
other_counted context counts about outer line (output_head connector memlet) on = same_counted (begins_tasklet false (output_head connector memlet)) (first_connectors (output_head connector memlet)) 0 (counts_behind (behind_branch context counts about outer).names counts about.kind (output_head connector memlet))
other_counted context counts about outer line (consume_decorator from size) on = same_counted (begins_tasklet false (consume_decorator from size)) (first_connectors (consume_decorator from size)) 0 (counts_behind (behind_branch context counts about outer).names counts about.kind (consume_decorator from size))
other_counted context counts about outer line (consume_head name element worker) on = same_counted (begins_tasklet false (consume_head name element worker)) (first_connectors (consume_head name element worker)) 0 (counts_behind (behind_branch context counts about outer).names counts about.kind (consume_head name element worker))
other_counted context counts about outer line (elif_head when) on = same_counted (begins_tasklet false (elif_head when)) (first_connectors (elif_head when)) 0 (counts_behind (behind_branch context counts about outer).names counts about.kind (elif_head when))
other_counted context counts about outer line else_head on = same_counted (begins_tasklet false else_head) (first_connectors else_head) 0 (counts_behind (behind_branch context counts about outer).names counts about.kind else_head)

other_total : (context : Context) (counts : Counts) (about : OpenBlock) (outer : List OpenBlock) (line : ℕ) (head : HeadTree) → context.outer ≡ about ∷ outer →
    goes_on (Form head) context.block.opener ≡ true → branch_counted context.block context.counts ≡ Ok counts → IsAccepted (behind_branch context counts about outer) head →
    AreNested context.block (about ∷ outer) → FewContainers context → FewContainers (behind_other context counts about outer line head)
other_total context counts about outer line head is on counted accepted' shape good =
    let now = behind_branch context counts about outer in
    let kept = within now.names (site_of now) head (passes now.names (site_of now) head accepted') in
    let late = branch_late context.block context.counts counts counted good.states in
    let same = other_counted context counts about outer line head on in
    let before : sum_of context.arguments + blocks_sum (context.block ∷ about ∷ outer) ≤ context.counts.containers =
    subst (λ outer. sum_of context.arguments + blocks_sum (context.block ∷ outer) ≤ context.counts.containers) is good.counted in
    record {
      counted = omega (arith, before, late.0, same.0, next_sum about.kind context.block.kind context.block.line context.block.statements context.block.opener head (blocks_sum (about ∷ outer)) on shape.0);
      few = omega (arith, same.0, kept.containers);
      states = omega (arith, same.1, kept.states);
      functions = good.functions;
    }

pub containers_are_kept : Keeps FewContainers
containers_are_kept = record {
  begin = record { counted = omega arith; few = omega arith; states = omega arith; functions = tt };
  pass = λ context line scoped head fit due accepted' shape good. line_total context line scoped head fit good accepted';
  argument = λ context line scoped at name bits extents few begun accepted' shape good.
      let s = argument_array at name bits extents in
      counted_line context (context_after context line scoped (statement_head s)) (statement_head s) good accepted' (refl, refl) refl (one-argument context s);
  close = λ context counts free counted right shape good.
      let late = late_counted (late_states context.block) context.counts counts counted good.states in
      close_total context.outer (record context { counts = counts }) refl shape (omega (arith, late.0, good.counted)) (omega (arith, late.0, good.few)) late.1.1 good.functions;
  go_on = λ context counts about outer line head free is on counted fit accepted' shape good.
      other_total context counts about outer line head is on counted accepted' (subst (AreNested context.block) is shape) good;
}
