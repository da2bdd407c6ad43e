-- How many connectors and lines each tasklet has.
use Rattle.std.proofs.Common.{◌≡◌, ◌≤◌, ℕ, ◌+◌, nat_lt, List, [], ◌∷◌, ◌++◌, Bool, true, false, if◌then◌else◌, Option, refl, ap, sym, subst, arith}
use Rattle.std.specs.Bool.{⊤}
use Rattle.std.proofs.lemmas.Bool.{ltb-false}
use Rattle.sd_lex.specs.PlainTree.{Expression, StatementTree, argument_array, local_array, local_stream, assign, copy, reduce, map_scope, tasklet, consume_scope, call, for_loop, while_loop, branch, input, output, set, set_at, tasklet_branch, Block}
use Rattle.sd_lex.specs.StatementKind.{is_connector}
use Rattle.sd_lex.specs.TreeFold.{block_listed}
use Rattle.sd_line.specs.declared.line.head.BlockKind.{BlockKind}
use Rattle.sd_line.specs.declared.line.head.BlockKind.TheVariants.{Top, Program, Scope, Tasklet}
use Rattle.sd_line.specs.line.Head.{HeadTree, import_line, symbol_line, program_decorator, program_head, statement_head, reduce_head, input_head, output_head, consume_decorator, consume_head, elif_head, else_head}
use Rattle.sd_names.specs.Names.{Name}
use Rattle.sd_refusal.specs.OverLimit.{new_lines}
use Rattle.sd_program.specs.Limits.{connectors_in, lines_in, lines_in_all}
use Rattle.sd_context.specs.context.After.{context_after}
use Rattle.sd_context.specs.context.Context.{Branch, Opener, file, function, statement, consumer, if_block, else_block, OpenBlock, Awaited, nothing, block, function_def, consume_def, Context, site_of}
use Rattle.sd_context.specs.context.Placing.{consumer_of}
use Rattle.sd_read.proofs.readable_lemmas.kept.Heads.{Fits}
use Rattle.sd_read.proofs.readable_lemmas.kept.Passing.{passes}
use Rattle.sd_read.proofs.readable_lemmas.kept.Steps.{IsAccepted}
use Rattle.sd_read.proofs.readable_lemmas.kept.Counted.{within}

-- ---- lines and connectors of the tasklet that is open

abbrev pub sum_lines : List StatementTree → ℕ
sum_lines statements = lines_in_all (block_listed statements)

abbrev pub sum_connectors : List StatementTree → ℕ
sum_connectors statements = connectors_in (block_listed statements)

abbrev pub branch_lines : List Branch → ℕ
branch_lines [] = 0
branch_lines (b ∷ branches) = 1 + (sum_lines b.statements + branch_lines branches)

-- with so many lines of its own in a block of a tasklet, and so many in the blocks about it
abbrev pub lines_by : Opener → (own outside : ℕ) → ℕ
lines_by (if_block earlier when) own outside = 1 + (branch_lines earlier + (own + outside))
lines_by (else_block earlier) own outside = 1 + (branch_lines earlier + (own + outside))
lines_by opener own outside = own

abbrev pub connectors_by : Opener → (own outside : ℕ) → ℕ
connectors_by (if_block earlier when) own outside = own + outside
connectors_by (else_block earlier) own outside = own + outside
connectors_by (consumer line from size name element worker) own outside = 1 + own
connectors_by opener own outside = own

abbrev pub in_task : BlockKind → ℕ → ℕ
in_task Tasklet n = n
in_task kind n = 0

abbrev pub held_lines : List OpenBlock → ℕ
held_lines [] = 0
held_lines (b ∷ outer) = in_task b.kind (lines_by b.opener (sum_lines b.statements) (held_lines outer))

abbrev pub held_connectors : List OpenBlock → ℕ
held_connectors [] = 0
held_connectors (b ∷ outer) = in_task b.kind (connectors_by b.opener (sum_connectors b.statements) (held_connectors outer))

pub record Tasks (context : Context) : Type 0 where
  pub lines : held_lines (context.block ∷ context.outer) ≤ context.counts.lines
  pub few_lines : context.counts.lines ≤ 1024
  pub connectors : held_connectors (context.block ∷ context.outer) ≤ context.counts.connectors
  pub few_connectors : context.counts.connectors ≤ 64

lines-joined : (xs ys : List StatementTree) → sum_lines (xs ++ ys) ≡ sum_lines xs + sum_lines ys
lines-joined [] ys = omega arith
lines-joined (x ∷ xs) ys = omega (arith, lines-joined xs ys)

connectors-joined : (xs ys : List StatementTree) → sum_connectors (xs ++ ys) ≡ sum_connectors xs + sum_connectors ys
connectors-joined [] ys = omega arith
connectors-joined (x ∷ xs) ys = omega (arith, connectors-joined xs ys)

pub branch-joined : (xs ys : List Branch) → branch_lines (xs ++ ys) ≡ branch_lines xs + branch_lines ys
branch-joined [] ys = omega arith
branch-joined (x ∷ xs) ys = omega (arith, branch-joined xs ys)

lines-grow : (opener : Opener) (own more outside : ℕ) → lines_by opener (own + more) outside ≤ lines_by opener own outside + more
lines-grow file own more outside = omega arith
lines-grow (function name) own more outside = omega arith
lines-grow (statement s) own more outside = omega arith
lines-grow (consumer line from size name element worker) own more outside = omega arith
lines-grow (if_block earlier when) own more outside = omega arith
lines-grow (else_block earlier) own more outside = omega arith

connectors-grow : (opener : Opener) (own more outside : ℕ) → connectors_by opener (own + more) outside ≤ connectors_by opener own outside + more
connectors-grow file own more outside = omega arith
connectors-grow (function name) own more outside = omega arith
connectors-grow (statement s) own more outside = omega arith
connectors-grow (consumer line from size name element worker) own more outside = omega arith
connectors-grow (if_block earlier when) own more outside = omega arith
connectors-grow (else_block earlier) own more outside = omega arith

-- more statements in the innermost block
pub lines-more : (b : OpenBlock) (outer : List OpenBlock) (more : List StatementTree) → held_lines (record b { statements = b.statements ++ more } ∷ outer) ≤ held_lines (b ∷ outer) + in_task b.kind (sum_lines more)
lines-more b outer more = by_kind b.kind where
  grown : lines_by b.opener (sum_lines (b.statements ++ more)) (held_lines outer) ≤ lines_by b.opener (sum_lines b.statements) (held_lines outer) + sum_lines more
  grown = subst (λ n. lines_by b.opener n (held_lines outer) ≤ lines_by b.opener (sum_lines b.statements) (held_lines outer) + sum_lines more) (sym (lines-joined b.statements more)) (lines-grow b.opener (sum_lines b.statements) (sum_lines more) (held_lines outer))

  by_kind : (kind : BlockKind) → in_task kind (lines_by b.opener (sum_lines (b.statements ++ more)) (held_lines outer)) ≤ in_task kind (lines_by b.opener (sum_lines b.statements) (held_lines outer)) + in_task kind (sum_lines more)
  by_kind Top = omega arith
  by_kind Program = omega arith
  by_kind Scope = omega arith
  by_kind Tasklet = grown

pub connectors-more : (b : OpenBlock) (outer : List OpenBlock) (more : List StatementTree) → held_connectors (record b { statements = b.statements ++ more } ∷ outer) ≤ held_connectors (b ∷ outer) + in_task b.kind (sum_connectors more)
connectors-more b outer more = by_kind b.kind where
  grown : connectors_by b.opener (sum_connectors (b.statements ++ more)) (held_connectors outer) ≤ connectors_by b.opener (sum_connectors b.statements) (held_connectors outer) + sum_connectors more
  grown =
      subst (λ n. connectors_by b.opener n (held_connectors outer) ≤ connectors_by b.opener (sum_connectors b.statements) (held_connectors outer) + sum_connectors more) (sym (connectors-joined b.statements more))
      (connectors-grow b.opener (sum_connectors b.statements) (sum_connectors more) (held_connectors outer))

  by_kind : (kind : BlockKind) → in_task kind (connectors_by b.opener (sum_connectors (b.statements ++ more)) (held_connectors outer)) ≤ in_task kind (connectors_by b.opener (sum_connectors b.statements) (held_connectors outer)) + in_task kind (sum_connectors more)
  by_kind Top = omega arith
  by_kind Program = omega arith
  by_kind Scope = omega arith
  by_kind Tasklet = grown

-- ---- lines

-- so much more is counted, and held
counted : (context after : Context) (head : HeadTree) (connectors : ℕ) → Tasks context → IsAccepted context head → after.counts.lines ≡ context.counts.lines + new_lines context.block.kind → after.counts.connectors ≡ context.counts.connectors + connectors →
    context.counts.connectors + connectors ≤ 64 → held_lines (after.block ∷ after.outer) ≤ held_lines (context.block ∷ context.outer) + new_lines context.block.kind →
    held_connectors (after.block ∷ after.outer) ≤ held_connectors (context.block ∷ context.outer) + connectors → Tasks after
counted context after head connectors good accepted' lines connectors' few more_lines more_connectors =
    let kept = within context.names (site_of context) head (passes context.names (site_of context) head accepted') in
    record {
      lines = omega (arith, lines, more_lines, good.lines);
      few_lines = omega (arith, lines, kept.lines);
      connectors = omega (arith, connectors', more_connectors, good.connectors);
      few_connectors = omega (arith, connectors', few);
    }

-- a line that says a statement without a block
one_line : (kind : BlockKind) (s : StatementTree) → lines_in s ≡ 1 → in_task kind (lines_in s + 0) ≤ new_lines kind
one_line Top s is = omega arith
one_line Program s is = omega arith
one_line Scope s is = omega arith
one_line Tasklet s is = omega (arith, is)

none_in : (kind : BlockKind) (n : ℕ) → n ≡ 0 → in_task kind n ≡ 0
none_in Top n is = refl
none_in Program n is = refl
none_in Scope n is = refl
none_in Tasklet n is = is

leaf : (context after : Context) (head : HeadTree) (s : StatementTree) → Tasks context → IsAccepted context head → after.counts.lines ≡ context.counts.lines + new_lines context.block.kind → after.counts.connectors ≡ context.counts.connectors + 0 →
    after.block ≡ record context.block { statements = context.block.statements ++ s ∷ [] } → after.outer ≡ context.outer → lines_in s ≡ 1 → is_connector s ≡ false → Tasks after
leaf context after head s good accepted' lines connectors inner outer one plain =
    let kind = context.block.kind in
    let none : in_task kind (sum_connectors (s ∷ [])) ≡ 0 = none_in kind (sum_connectors (s ∷ [])) (ap (λ test. (if test then 1 else 0) + 0) plain) in
    counted context after head 0 good accepted' lines connectors (omega (arith, good.few_connectors))
    (subst (λ b. held_lines (b ∷ after.outer) ≤ held_lines (context.block ∷ context.outer) + new_lines kind) (sym inner)
    (subst (λ outer. held_lines (record context.block { statements = context.block.statements ++ s ∷ [] } ∷ outer) ≤ held_lines (context.block ∷ context.outer) + new_lines kind) (sym outer)
    (omega (arith, lines-more context.block context.outer (s ∷ []), one_line kind s one))))
    (subst (λ b. held_connectors (b ∷ after.outer) ≤ held_connectors (context.block ∷ context.outer) + 0) (sym inner)
    (subst (λ outer. held_connectors (record context.block { statements = context.block.statements ++ s ∷ [] } ∷ outer) ≤ held_connectors (context.block ∷ context.outer) + 0) (sym outer)
    (omega (arith, connectors-more context.block context.outer (s ∷ []), none))))

-- a connector of a tasklet
connector : (context after : Context) (head : HeadTree) (s : StatementTree) → Tasks context → IsAccepted context head → after.counts.lines ≡ context.counts.lines + new_lines context.block.kind → after.counts.connectors ≡ context.counts.connectors + 1 →
    context.counts.connectors + 1 ≤ 64 → after.block ≡ record context.block { statements = context.block.statements ++ s ∷ [] } → after.outer ≡ context.outer → lines_in s ≡ 1 → is_connector s ≡ true → Tasks after
connector context after head s good accepted' lines connectors few inner outer one is =
    let kind = context.block.kind in
    let single : sum_connectors (s ∷ []) ≡ 1 = ap (λ test. (if test then 1 else 0) + 0) is in
    counted context after head 1 good accepted' lines connectors few
    (subst (λ b. held_lines (b ∷ after.outer) ≤ held_lines (context.block ∷ context.outer) + new_lines kind) (sym inner)
    (subst (λ outer. held_lines (record context.block { statements = context.block.statements ++ s ∷ [] } ∷ outer) ≤ held_lines (context.block ∷ context.outer) + new_lines kind) (sym outer)
    (omega (arith, lines-more context.block context.outer (s ∷ []), one_line kind s one))))
    (subst (λ b. held_connectors (b ∷ after.outer) ≤ held_connectors (context.block ∷ context.outer) + 1) (sym inner)
    (subst (λ outer. held_connectors (record context.block { statements = context.block.statements ++ s ∷ [] } ∷ outer) ≤ held_connectors (context.block ∷ context.outer) + 1) (sym outer)
    (omega (arith, connectors-more context.block context.outer (s ∷ []), most kind single)))) where
      most : (kind : BlockKind) → sum_connectors (s ∷ []) ≡ 1 → in_task kind (sum_connectors (s ∷ [])) ≤ 1
      most Top single = omega arith
      most Program single = omega arith
      most Scope single = omega arith
      most Tasklet single = omega (arith, single)

-- behind a line that changes no block
pub still : (context after : Context) (head : HeadTree) → Tasks context → IsAccepted context head → after.counts.lines ≡ context.counts.lines + new_lines context.block.kind → after.counts.connectors ≡ context.counts.connectors + 0 →
    after.block ≡ context.block → after.outer ≡ context.outer → Tasks after
still context after head good accepted' lines connectors inner outer =
    counted context after head 0 good accepted' lines connectors (omega (arith, good.few_connectors))
    (subst (λ b. held_lines (b ∷ after.outer) ≤ held_lines (context.block ∷ context.outer) + new_lines context.block.kind) (sym inner)
    (subst (λ outer. held_lines (context.block ∷ outer) ≤ held_lines (context.block ∷ context.outer) + new_lines context.block.kind) (sym outer) (omega arith)))
    (subst (λ b. held_connectors (b ∷ after.outer) ≤ held_connectors (context.block ∷ context.outer) + 0) (sym inner)
    (subst (λ outer. held_connectors (context.block ∷ outer) ≤ held_connectors (context.block ∷ context.outer) + 0) (sym outer) (omega arith)))

-- behind one that opens a block outside of tasklets
pub opens : (context after : Context) (head : HeadTree) → Tasks context → IsAccepted context head → after.counts.lines ≡ context.counts.lines + new_lines context.block.kind → after.counts.connectors ≡ context.counts.connectors + 0 →
    held_lines (after.block ∷ after.outer) ≡ 0 → held_connectors (after.block ∷ after.outer) ≡ 0 → Tasks after
opens context after head good accepted' lines connectors none_lines none_connectors =
    counted context after head 0 good accepted' lines connectors (omega (arith, good.few_connectors)) (omega (arith, none_lines)) (omega (arith, none_connectors))

-- behind one that begins a tasklet
begins : (after : Context) (connectors : ℕ) → after.counts.lines ≡ 0 → after.counts.connectors ≡ connectors → connectors ≤ 1 → held_lines (after.block ∷ after.outer) ≡ 0 → held_connectors (after.block ∷ after.outer) ≤ connectors → Tasks after
begins after connectors lines same few none_lines held = record {
  lines = omega (arith, lines, none_lines);
  few_lines = omega (arith, lines);
  connectors = omega (arith, same, held);
  few_connectors = omega (arith, same, few);
}

abbrev pub IsTask : BlockKind → Type 0
IsTask Tasklet = ⊤
IsTask kind = ⊥

when_inside : (kind : BlockKind) (at : ℕ) (when : Expression) (body other : Block) → Fits kind (statement_head (tasklet_branch at when body other)) → kind ≡ Tasklet
when_inside Top at when body other fit = absurd fit
when_inside Program at when body other fit = absurd fit
when_inside Scope at when body other fit = absurd fit
when_inside Tasklet at when body other fit = refl

statement_tasks : (context : Context) (line : ℕ) (scoped : Bool) (s : StatementTree) → Fits context.block.kind (statement_head s) → IsAccepted context (statement_head s) → Tasks context → Tasks (context_after context line scoped (statement_head s))
statement_tasks context line scoped (argument_array at name bits extents) fit accepted' good = still context (context_after context line scoped (statement_head (argument_array at name bits extents))) (statement_head (argument_array at name bits extents)) good accepted' refl refl refl refl
statement_tasks context line scoped (local_array at name extents bits) fit accepted' good = let s = local_array at name extents bits in leaf context (context_after context line scoped (statement_head s)) (statement_head s) s good accepted' refl refl refl refl refl refl
statement_tasks context line scoped (local_stream at name bits size) fit accepted' good = let s = local_stream at name bits size in leaf context (context_after context line scoped (statement_head s)) (statement_head s) s good accepted' refl refl refl refl refl refl
statement_tasks context line scoped (assign at name subscripts add value) fit accepted' good = let s = assign at name subscripts add value in leaf context (context_after context line scoped (statement_head s)) (statement_head s) s good accepted' refl refl refl refl refl refl
statement_tasks context line scoped (copy at to to_dimensions from from_dimensions) fit accepted' good = let s = copy at to to_dimensions from from_dimensions in leaf context (context_after context line scoped (statement_head s)) (statement_head s) s good accepted' refl refl refl refl refl refl
statement_tasks context line scoped (reduce at lambda from to axis identity) fit accepted' good = let s = reduce at lambda from to axis identity in leaf context (context_after context line scoped (statement_head s)) (statement_head s) s good accepted' refl refl refl refl refl refl
statement_tasks context line scoped (map_scope at parameters ranges body) fit accepted' good = let s = map_scope at parameters ranges body in opens context (context_after context line scoped (statement_head s)) (statement_head s) good accepted' refl refl refl refl
statement_tasks context line scoped (tasklet at body) fit accepted' good = begins (context_after context line scoped (statement_head (tasklet at body))) 0 refl refl (omega arith) refl (omega arith)
statement_tasks context line scoped (consume_scope at from size name element worker body) fit accepted' good =
    let s = consume_scope at from size name element worker body in leaf context (context_after context line scoped (statement_head s)) (statement_head s) s good accepted' refl refl refl refl refl refl
statement_tasks context line scoped (call at name arguments) fit accepted' good = let s = call at name arguments in leaf context (context_after context line scoped (statement_head s)) (statement_head s) s good accepted' refl refl refl refl refl refl
statement_tasks context line scoped (for_loop at name begin end step body) fit accepted' good = let s = for_loop at name begin end step body in opens context (context_after context line scoped (statement_head s)) (statement_head s) good accepted' refl refl refl refl
statement_tasks context line scoped (while_loop at when body) fit accepted' good = let s = while_loop at when body in opens context (context_after context line scoped (statement_head s)) (statement_head s) good accepted' refl refl refl refl
statement_tasks context line scoped (branch at when body other) fit accepted' good = let s = branch at when body other in opens context (context_after context line scoped (statement_head s)) (statement_head s) good accepted' refl refl refl refl
statement_tasks context line scoped (input at connector' memlet) fit accepted' good = absurd (no_input context.block.kind fit) where
  no_input : (kind : BlockKind) → Fits kind (statement_head (input at connector' memlet)) → ⊥
  no_input Top fit = fit
  no_input Program fit = fit
  no_input Scope fit = fit
  no_input Tasklet fit = fit
statement_tasks context line scoped (output at connector' memlet) fit accepted' good = absurd (no_output context.block.kind fit) where
  no_output : (kind : BlockKind) → Fits kind (statement_head (output at connector' memlet)) → ⊥
  no_output Top fit = fit
  no_output Program fit = fit
  no_output Scope fit = fit
  no_output Tasklet fit = fit
statement_tasks context line scoped (set at name value) fit accepted' good = let s = set at name value in leaf context (context_after context line scoped (statement_head s)) (statement_head s) s good accepted' refl refl refl refl refl refl
statement_tasks context line scoped (set_at at name subscripts value) fit accepted' good = let s = set_at at name subscripts value in leaf context (context_after context line scoped (statement_head s)) (statement_head s) s good accepted' refl refl refl refl refl refl
statement_tasks context line scoped (tasklet_branch at when body other) fit accepted' good =
    let s = tasklet_branch at when body other in
    let inside : new_lines context.block.kind ≡ 1 = ap new_lines (when_inside context.block.kind at when body other fit) in
    counted context (context_after context line scoped (statement_head s)) (statement_head s) 0 good accepted' refl refl (omega (arith, good.few_connectors)) (omega (arith, inside)) (omega arith)

consumer_lines : (before : Awaited) (name element : Name) (worker : Option Name) (outside : ℕ) → (lines_by (consumer_of before name element worker) 0 outside ≡ 0) × (connectors_by (consumer_of before name element worker) 0 outside ≡ 1)
consumer_lines nothing name element worker outside = (refl, refl)
consumer_lines block name element worker outside = (refl, refl)
consumer_lines (function_def at) name element worker outside = (refl, refl)
consumer_lines (consume_def at from size) name element worker outside = (refl, refl)

consume_tasks : (context : Context) (line : ℕ) (scoped : Bool) (name element : Name) (worker : Option Name) → IsAccepted context (consume_head name element worker) → Tasks context → Tasks (context_after context line scoped (consume_head name element worker))
consume_tasks context line true name element worker accepted' good =
    let held = consumer_lines context.awaited name element worker (held_lines (context.block ∷ context.outer)) in
    let held' = consumer_lines context.awaited name element worker (held_connectors (context.block ∷ context.outer)) in
    begins (context_after context line true (consume_head name element worker)) 1 refl refl (omega arith) held.0 (omega (arith, held'.1))
consume_tasks context line false name element worker accepted' good =
    opens context (context_after context line false (consume_head name element worker)) (consume_head name element worker) good accepted' refl refl refl refl

-- a connector line keeps to the limit
under : (before : ℕ) → nat_lt 64 (before + 1) ≡ false → before + 1 ≤ 64
under before is = ltb-false 64 (before + 1) is

pub pass_tasks : (context : Context) (line : ℕ) (scoped : Bool) (head : HeadTree) → Fits context.block.kind head → IsAccepted context head → Tasks context → Tasks (context_after context line scoped head)
pass_tasks context line scoped import_line fit accepted' good = still context (context_after context line scoped import_line) import_line good accepted' refl refl refl refl
pass_tasks context line scoped (symbol_line name quoted) fit accepted' good = still context (context_after context line scoped (symbol_line name quoted)) (symbol_line name quoted) good accepted' refl refl refl refl
pass_tasks context line scoped program_decorator fit accepted' good = still context (context_after context line scoped program_decorator) program_decorator good accepted' refl refl refl refl
pass_tasks context line scoped (program_head name arguments) fit accepted' good = record { lines = omega arith; few_lines = omega arith; connectors = omega arith; few_connectors = omega arith }
pass_tasks context line scoped (statement_head s) fit accepted' good = statement_tasks context line scoped s fit accepted' good
pass_tasks context line scoped (reduce_head lambda from to axis identity) fit accepted' good =
    leaf context (context_after context line scoped (reduce_head lambda from to axis identity)) (reduce_head lambda from to axis identity) _ good accepted' refl refl refl refl refl refl
pass_tasks context line scoped (input_head name memlet) fit accepted' good =
    connector context (context_after context line scoped (input_head name memlet)) (input_head name memlet) _ good accepted' refl refl
    (under context.counts.connectors (within context.names (site_of context) (input_head name memlet) (passes context.names (site_of context) (input_head name memlet) accepted')).connectors) refl refl refl refl
pass_tasks context line scoped (output_head name memlet) fit accepted' good =
    connector context (context_after context line scoped (output_head name memlet)) (output_head name memlet) _ good accepted' refl refl
    (under context.counts.connectors (within context.names (site_of context) (output_head name memlet) (passes context.names (site_of context) (output_head name memlet) accepted')).connectors) refl refl refl refl
pass_tasks context line scoped (consume_decorator from size) fit accepted' good = still context (context_after context line scoped (consume_decorator from size)) (consume_decorator from size) good accepted' refl refl refl refl
pass_tasks context line scoped (consume_head name element worker) fit accepted' good = consume_tasks context line scoped name element worker accepted' good
pass_tasks context line scoped (elif_head when) fit accepted' good = still context (context_after context line scoped (elif_head when)) (elif_head when) good accepted' refl refl refl refl
pass_tasks context line scoped else_head fit accepted' good = still context (context_after context line scoped else_head) else_head good accepted' refl refl refl refl
