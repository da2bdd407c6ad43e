-- The ends of blocks keep how many states each program makes.
use Rattle.std.proofs.Common.{◌≡◌, ◌≤◌, ℕ, ◌+◌, List, [], ◌∷◌, ◌++◌, map, Bool, true, false, if◌then◌else◌, length, Ok, refl, sym, ◌∙◌, subst, arith}
use Rattle.std.specs.Bool.{⊤}
use Rattle.std.specs.List.{AllByRecursion}
use Rattle.std.proofs.lemmas.List.{length-reverse}
use Rattle.sd_lex.specs.PlainTree.{StatementTree, argument_array, local_array, local_stream, assign, copy, reduce, map_scope, tasklet, consume_scope, call, for_loop, while_loop, branch, input, output, set, set_at, tasklet_branch}
use Rattle.sd_lex.specs.PlainTree.{Expression}
use Rattle.sd_lex.specs.TreeFold.{block_listed}
use Rattle.sd_line.specs.declared.line.head.BlockKind.{BlockKind}
use Rattle.sd_line.specs.declared.line.head.BlockKind.TheVariants.{Top, Program, Scope, Tasklet}
use Rattle.sd_phrase.specs.declared.reading.Reading.TheVariants.{Form}
use Rattle.sd_line.specs.line.Head.{HeadTree, import_line, symbol_line, program_decorator, program_head, statement_head, reduce_head, input_head, output_head, consume_decorator, consume_head, elif_head, else_head}
use Rattle.sd_refusal.specs.NotAForm.{is_program}
use Rattle.sd_refusal.specs.OverLimit.{new_states}
use Rattle.sd_refusal.specs.declared.site.Counts.{Counts}
use Rattle.sd_context.specs.context.Context.{Branch, Opener, file, function, statement, consumer, if_block, else_block, OpenBlock, Awaited, nothing, block, function_def, consume_def, Context, site_of}
use Rattle.sd_context.specs.context.After.{context_after}
use Rattle.sd_context.specs.context.Awaiting.{awaited_behind}
use Rattle.sd_context.specs.blocks.Closing.{states_counted, lines_of, is_loop, opener_ends, late_states, nested, with_body, finished_by, finished, closed_by, closed_into}
use Rattle.sd_context.specs.blocks.Continuing.{is_elif_or_else, goes_on, branches_of, next_opener}
use Rattle.sd_read.proofs.readable_lemmas.kept.Heads.{Opens, IsOpenedIn, AreNested}
use Rattle.sd_read.proofs.readable_lemmas.kept.Passing.{passes, false_is_not_true}
use Rattle.sd_read.proofs.readable_lemmas.kept.Steps.{AwaitsNoDef, IsAccepted, Keeps, branch_counted, behind_branch, behind_other}
use Rattle.sd_read.proofs.readable_lemmas.kept.Nesting.{top_is_file}
use Rattle.sd_read.proofs.readable_lemmas.kept.Trees.{all-more}
use Rattle.sd_program.specs.Declared.{states_in, states_in_all, states_in_other}
use Rattle.sd_read.proofs.readable_lemmas.kept.Counted.{within, same_counts}
use Rattle.sd_read.proofs.readable_lemmas.counts.Containers.{late_counted, statement_after, other_counted}
use Rattle.sd_read.proofs.readable_lemmas.counts.States.{weight, sum_of, branches_sum, opened_sum, held, stands_in_program, blocks_sum, waiting, total, IsFew, FewStates, branches-joined, sum-listed, file_held, blocks-more, counted_line, line_total}

-- ---- ends of blocks

-- a block that ends behind an `else` is at most its states and two more
other_states : (statements : List StatementTree) → states_in_other (block_listed statements) ≤ sum_of statements + 2
other_states [] = omega arith
other_states (s ∷ statements) = omega (arith, sum-listed statements)

abbrev lates : List Branch → ℕ
lates [] = 0
lates (b ∷ branches) = 1 + lates branches

nested_sum : (branches : List Branch) (other : List StatementTree) → sum_of (nested Program branches other) ≤ lates branches + (branches_sum branches + sum_of other)
nested_sum [] other = omega arith
nested_sum (b ∷ branches) other = omega (arith, sum-listed b.statements, other_states (nested Program branches other), nested_sum branches other)

-- where no `else` stands it is one less
nested_all : (branches : List Branch) (last : Branch) → sum_of (nested Program (branches ++ last ∷ []) []) + 1 ≤ lates branches + (branches_sum branches + (sum_of last.statements + 3))
nested_all [] last = omega (arith, sum-listed last.statements)
nested_all (b ∷ branches) last = omega (arith, sum-listed b.statements, other_states (nested Program (branches ++ last ∷ []) []), nested_all branches last)

late_length : (branches : List Branch) → length (lines_of branches) ≡ lates branches
late_length branches = length-reverse (map (λ earlier. earlier.line) branches) ∙ mapped branches where
  mapped : (branches : List Branch) → length (map (λ earlier. earlier.line) branches) ≡ lates branches
  mapped [] = refl
  mapped (b ∷ branches) = omega (arith, mapped branches)

body_sum : (kind : BlockKind) (line : ℕ) (s : StatementTree) (statements : List StatementTree) → Opens kind s →
    states_in (with_body s (block_listed statements)) ≤ opened_sum s (sum_of statements) + length (if is_program kind then (if is_loop s then line ∷ [] else []) else [])
body_sum kind line (argument_array at name bits extents) statements opens = absurd opens
body_sum kind line (local_array at name extents bits) statements opens = absurd opens
body_sum kind line (local_stream at name bits size) statements opens = absurd opens
body_sum kind line (assign at name subscripts add value) statements opens = absurd opens
body_sum kind line (copy at to to_dimensions from from_dimensions) statements opens = absurd opens
body_sum kind line (reduce at lambda from to axis identity) statements opens = absurd opens
body_sum kind line (map_scope at parameters ranges body) statements opens = omega arith
body_sum kind line (tasklet at body) statements opens = omega arith
body_sum kind line (consume_scope at from size name element worker body) statements opens = absurd opens
body_sum kind line (call at name arguments) statements opens = absurd opens
body_sum kind line (for_loop at name begin end step body) statements opens = subst (λ kind. 2 + states_in_all (block_listed statements) + 1 ≤ 2 + sum_of statements + length (if is_program kind then line ∷ [] else [])) (sym opens) (omega (arith, sum-listed statements))
body_sum kind line (while_loop at when body) statements opens = subst (λ kind. 2 + states_in_all (block_listed statements) + 1 ≤ 2 + sum_of statements + length (if is_program kind then line ∷ [] else [])) (sym opens) (omega (arith, sum-listed statements))
body_sum kind line (branch at when body other) statements opens = absurd opens
body_sum kind line (input at connector memlet) statements opens = absurd opens
body_sum kind line (output at connector memlet) statements opens = absurd opens
body_sum kind line (set at name value) statements opens = absurd opens
body_sum kind line (set_at at name subscripts value) statements opens = absurd opens
body_sum kind line (tasklet_branch at when body other) statements opens = absurd opens

abbrev IsInside : Opener → Type 0
IsInside file = ⊥
IsInside (function name) = ⊥
IsInside opener = ⊤

-- the block's states, which were counted, and the late ones are those of its statement
finished_sum : (about kind : BlockKind) (line : ℕ) (opener : Opener) (statements : List StatementTree) (outside : ℕ) → IsOpenedIn about kind opener → IsInside opener →
    weight about (sum_of (finished_by kind line opener statements)) + outside ≤ held (is_program about) opener (sum_of statements) outside + length (if is_program kind then opener_ends line opener else [])
finished_sum about kind line file statements outside opened inside = absurd inside
finished_sum about kind line (function name) statements outside opened inside = absurd inside
finished_sum Top kind line (statement s) statements outside opened inside = omega arith
finished_sum Top kind line (consumer at from size name element worker) statements outside opened inside = omega arith
finished_sum Top kind line (if_block earlier when) statements outside opened inside = omega arith
finished_sum Top kind line (else_block earlier) statements outside opened inside = omega arith
finished_sum Program kind line (statement s) statements outside opened inside = omega (arith, body_sum kind line s statements opened.1)
finished_sum Program kind line (consumer at from size name element worker) statements outside opened inside = omega arith
finished_sum Program kind line (if_block earlier when) statements outside opened inside =
    subst
    (λ kind. sum_of (finished_by kind line (if_block earlier when) statements) + outside ≤ 1 + (branches_sum earlier + (sum_of statements + outside)) + length (if is_program kind then line ∷ lines_of earlier else []))
    (sym opened.1) (omega (arith, nested_all earlier (record { line = line; when = when; statements = statements }), late_length earlier))
finished_sum Program kind line (else_block earlier) statements outside opened inside =
    subst
    (λ kind. sum_of (finished_by kind line (else_block earlier) statements) + outside ≤ branches_sum earlier + (sum_of statements + outside) + length (if is_program kind then lines_of earlier else []))
    (sym opened.1) (omega (arith, nested_sum earlier statements, late_length earlier))
finished_sum Scope kind line (statement s) statements outside opened inside = omega arith
finished_sum Scope kind line (consumer at from size name element worker) statements outside opened inside = omega arith
finished_sum Scope kind line (if_block earlier when) statements outside opened inside = omega arith
finished_sum Scope kind line (else_block earlier) statements outside opened inside = omega arith
finished_sum Tasklet kind line (statement s) statements outside opened inside = omega arith
finished_sum Tasklet kind line (consumer at from size name element worker) statements outside opened inside = omega arith
finished_sum Tasklet kind line (if_block earlier when) statements outside opened inside = omega arith
finished_sum Tasklet kind line (else_block earlier) statements outside opened inside = omega arith

file_sum : (about : OpenBlock) (outer : List OpenBlock) → AreNested about outer → about.kind ≡ Top → blocks_sum (about ∷ outer) ≡ 0
file_sum about outer nested top =
    file_held (stands_in_program outer) about.opener (sum_of about.statements) (blocks_sum outer) (subst (AreNested about) (top_is_file about outer nested top) nested).1

none_waits : (awaited : Awaited) (kind : BlockKind) → AwaitsNoDef awaited → waiting awaited kind ≡ 0
none_waits nothing kind free = refl
none_waits block kind free = refl
none_waits (function_def line) kind free = absurd free
none_waits (consume_def line from size) kind free = absurd free

close_total : (outer : List OpenBlock) (context : Context) → context.outer ≡ outer → AreNested context.block outer → AwaitsNoDef context.awaited → (before : ℕ) →
    blocks_sum (context.block ∷ outer) ≤ before → context.counts.states ≡ before + length (late_states context.block) → context.counts.states ≤ 256 →
    AllByRecursion IsFew context.functions → FewStates (closed_into outer context)
close_total [] context is shape free before counted now few functions =
    record {
      counted = subst (λ outer. waiting context.awaited context.block.kind + blocks_sum (context.block ∷ outer) ≤ context.counts.states) (sym is)
          (omega (arith, none_waits context.awaited context.block.kind free, counted, now));
      few = few;
      functions = functions;
    }
close_total (about ∷ rest) context is shape free before counted now few functions =
    by_opener context.block.opener shape.0 (finished_sum about.kind context.block.kind context.block.line context.block.opener context.block.statements (blocks_sum (about ∷ rest)) shape.0) counted where
      behind : (after : Context) → after.counts ≡ context.counts → after.functions ≡ context.functions → total after ≤ context.counts.states → FewStates after
      behind after same others less = record {
        counted = subst (λ c. total after ≤ c.states) (sym same) less;
        few = subst (λ c. c.states ≤ 256) (sym same) few;
        functions = subst (AllByRecursion IsFew) (sym others) functions;
      }

      by_opener : (opener : Opener) → IsOpenedIn about.kind context.block.kind opener →
          (IsInside opener → weight about.kind (sum_of (finished context.block)) + blocks_sum (about ∷ rest) ≤ held (is_program about.kind) opener (sum_of context.block.statements) (blocks_sum (about ∷ rest)) + length (late_states context.block)) →
          held (is_program about.kind) opener (sum_of context.block.statements) (blocks_sum (about ∷ rest)) ≤ before → FewStates (closed_by opener about rest context)
      by_opener file opened less counted = absurd opened
      by_opener (function name) opened less counted =
          record {
            counted = omega (arith, file_sum about rest shape.1 opened.0, none_waits context.awaited about.kind free);
            few = few;
            functions = all-more IsFew context.functions _ functions (omega (arith, sum-listed context.block.statements, counted, now, few));
          }
      by_opener (statement s) opened less counted =
          behind (closed_by (statement s) about rest context) refl refl (omega (arith, blocks-more about rest (finished context.block) shape.1, none_waits context.awaited about.kind free, counted, less tt, now))
      by_opener (consumer line from size name element worker) opened less counted =
          behind (closed_by (consumer line from size name element worker) about rest context) refl refl (omega (arith, blocks-more about rest (finished context.block) shape.1, none_waits context.awaited about.kind free, counted, less tt, now))
      by_opener (if_block earlier when) opened less counted =
          behind (closed_by (if_block earlier when) about rest context) refl refl (omega (arith, blocks-more about rest (finished context.block) shape.1, none_waits context.awaited about.kind free, counted, less tt, now))
      by_opener (else_block earlier) opened less counted =
          behind (closed_by (else_block earlier) about rest context) refl refl (omega (arith, blocks-more about rest (finished context.block) shape.1, none_waits context.awaited about.kind free, counted, less tt, now))

-- ---- `elif` and `else`

branch_states : (last : OpenBlock) (counts now : Counts) → branch_counted last counts ≡ Ok now → counts.states ≤ 256 → now.states ≡ counts.states + weight last.kind 1
branch_states last counts now is few = by_test (is_program last.kind) is where
  by_test : (test : Bool) → (if test then states_counted counts (last.line ∷ []) else Ok counts) ≡ Ok now → now.states ≡ counts.states + (if test then 1 else 0)
  by_test true is = (late_counted (last.line ∷ []) counts now is few).1.0
  by_test false is = subst (λ c. c.states ≡ counts.states + 0) (same_counts counts now is) (omega arith)

elif_sum : (about kind : BlockKind) (line : ℕ) (statements : List StatementTree) (earlier : List Branch) (when next : Expression) (outside : ℕ) → kind ≡ about →
    held (is_program about) (if_block (earlier ++ record { line = line; when = when; statements = statements } ∷ []) next) 0 outside ≤
    held (is_program about) (if_block earlier when) (sum_of statements) outside + weight kind 1 + new_states about (elif_head next)
elif_sum Top kind line statements earlier when next outside is = omega arith
elif_sum Program kind line statements earlier when next outside is =
    let last : Branch = record { line = line; when = when; statements = statements } in
    subst
    (λ kind. 1 + (branches_sum (earlier ++ last ∷ []) + (0 + outside)) ≤ 1 + (branches_sum earlier + (sum_of statements + outside)) + weight kind 1 + 1)
    (sym is) (omega (arith, branches-joined earlier (last ∷ [])))
elif_sum Scope kind line statements earlier when next outside is = omega arith
elif_sum Tasklet kind line statements earlier when next outside is = omega arith

else_sum : (about kind : BlockKind) (line : ℕ) (statements : List StatementTree) (earlier : List Branch) (when : Expression) (outside : ℕ) → kind ≡ about →
    held (is_program about) (else_block (earlier ++ record { line = line; when = when; statements = statements } ∷ [])) 0 outside ≤
    held (is_program about) (if_block earlier when) (sum_of statements) outside + weight kind 1 + new_states about else_head
else_sum Top kind line statements earlier when outside is = omega arith
else_sum Program kind line statements earlier when outside is =
    let last : Branch = record { line = line; when = when; statements = statements } in
    subst
    (λ kind. branches_sum (earlier ++ last ∷ []) + (0 + outside) ≤ 1 + (branches_sum earlier + (sum_of statements + outside)) + weight kind 1 + 0)
    (sym is) (omega (arith, branches-joined earlier (last ∷ [])))
else_sum Scope kind line statements earlier when outside is = omega arith
else_sum Tasklet kind line statements earlier when outside is = omega arith

goes : (head : HeadTree) (opener : Opener) → goes_on (Form head) opener ≡ true → is_elif_or_else head ≡ true
goes head file on = false_is_not_true on
goes head (function other) on = false_is_not_true on
goes head (statement s) on = false_is_not_true on
goes head (consumer at from size other element worker) on = false_is_not_true on
goes head (if_block earlier when) on = on
goes head (else_block earlier) on = false_is_not_true on

-- the next block of an `if`
next_sum : (about kind : BlockKind) (line : ℕ) (statements : List StatementTree) (opener : Opener) (head : HeadTree) (outside : ℕ) → goes_on (Form head) opener ≡ true → is_elif_or_else head ≡ true →
    IsOpenedIn about kind opener →
    held (is_program about) (next_opener (branches_of line statements opener) head) 0 outside ≤ held (is_program about) opener (sum_of statements) outside + weight kind 1 + new_states about head
next_sum about kind line statements (if_block earlier when) (elif_head next) outside on is opened = elif_sum about kind line statements earlier when next outside opened.1
next_sum about kind line statements (if_block earlier when) else_head outside on is opened = else_sum about kind line statements earlier when outside opened.1
next_sum about kind line statements (if_block earlier when) import_line outside on is opened = false_is_not_true is
next_sum about kind line statements (if_block earlier when) (symbol_line name quoted) outside on is opened = false_is_not_true is
next_sum about kind line statements (if_block earlier when) program_decorator outside on is opened = false_is_not_true is
next_sum about kind line statements (if_block earlier when) (program_head name arguments) outside on is opened = false_is_not_true is
next_sum about kind line statements (if_block earlier when) (statement_head s) outside on is opened = false_is_not_true is
next_sum about kind line statements (if_block earlier when) (reduce_head lambda from to axis identity) outside on is opened = false_is_not_true is
next_sum about kind line statements (if_block earlier when) (input_head connector memlet) outside on is opened = false_is_not_true is
next_sum about kind line statements (if_block earlier when) (output_head connector memlet) outside on is opened = false_is_not_true is
next_sum about kind line statements (if_block earlier when) (consume_decorator from size) outside on is opened = false_is_not_true is
next_sum about kind line statements (if_block earlier when) (consume_head other elem work) outside on is opened = false_is_not_true is
next_sum about kind line statements file head outside on is opened = false_is_not_true on
next_sum about kind line statements (function name) head outside on is opened = false_is_not_true on
next_sum about kind line statements (statement s) head outside on is opened = false_is_not_true on
next_sum about kind line statements (consumer at from size name element worker) head outside on is opened = false_is_not_true on
next_sum about kind line statements (else_block earlier) head outside on is opened = false_is_not_true on

waits_none : (line : ℕ) (head : HeadTree) (kind : BlockKind) → is_elif_or_else head ≡ true → waiting (awaited_behind line head) kind ≡ 0
waits_none line (elif_head when) kind is = refl
waits_none line else_head kind is = refl
waits_none line import_line kind is = false_is_not_true is
waits_none line (symbol_line name quoted) kind is = false_is_not_true is
waits_none line program_decorator kind is = false_is_not_true is
waits_none line (program_head name arguments) kind is = false_is_not_true is
waits_none line (statement_head s) kind is = false_is_not_true is
waits_none line (reduce_head lambda from to axis identity) kind is = false_is_not_true is
waits_none line (input_head connector memlet) kind is = false_is_not_true is
waits_none line (output_head connector memlet) kind is = false_is_not_true is
waits_none line (consume_decorator from size) kind is = false_is_not_true is
waits_none line (consume_head other elem work) kind is = false_is_not_true is

other_total : (context : Context) (counts : Counts) (about : OpenBlock) (outer : List OpenBlock) (line : ℕ) (head : HeadTree) → context.outer ≡ about ∷ outer →
    goes_on (Form head) context.block.opener ≡ true → branch_counted context.block context.counts ≡ Ok counts → IsAccepted (behind_branch context counts about outer) head →
    AreNested context.block (about ∷ outer) → FewStates context → FewStates (behind_other context counts about outer line head)
other_total context counts about outer line head is on counted accepted' shape good =
    let now = behind_branch context counts about outer in
    let kept = within now.names (site_of now) head (passes now.names (site_of now) head accepted') in
    let late = branch_states context.block context.counts counts counted good.few in
    let same = other_counted context counts about outer line head on in
    let goes' = goes head context.block.opener on in
    let before : waiting context.awaited context.block.kind + blocks_sum (context.block ∷ about ∷ outer) ≤ context.counts.states =
    subst (λ outer. waiting context.awaited context.block.kind + blocks_sum (context.block ∷ outer) ≤ context.counts.states) is good.counted in
    record {
      counted = omega (arith, before, late, same.1, waits_none line head context.block.kind goes', next_sum about.kind context.block.kind context.block.line context.block.statements context.block.opener head (blocks_sum (about ∷ outer)) on goes' shape.0);
      few = omega (arith, same.1, kept.states);
      functions = good.functions;
    }

pub states_are_kept : Keeps FewStates
states_are_kept = record {
  begin = record { counted = omega arith; few = omega arith; functions = tt };
  pass = λ context line scoped head fit due accepted' shape good. line_total context line scoped head fit due shape good accepted';
  argument = λ context line scoped at name bits extents few begun accepted' shape good.
      let s = argument_array at name bits extents in
      counted_line context (context_after context line scoped (statement_head s)) (statement_head s) good accepted' (statement_after context line scoped s).0 (statement_after context line scoped s).1 (omega arith);
  close = λ context counts free counted right shape good.
      let late = late_counted (late_states context.block) context.counts counts counted good.few in
      close_total context.outer (record context { counts = counts }) refl shape free context.counts.states (omega (arith, good.counted)) late.1.0 late.1.1 good.functions;
  go_on = λ context counts about outer line head free is on counted fit accepted' shape good.
      other_total context counts about outer line head is on counted accepted' (subst (AreNested context.block) is shape) good;
}
