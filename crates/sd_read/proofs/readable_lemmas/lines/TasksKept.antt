-- The ends of blocks keep how many connectors and lines each tasklet has.
use Rattle.std.proofs.Common.{◌≡◌, ◌≤◌, ℕ, ◌+◌, nat_lt, List, [], ◌∷◌, ◌++◌, Bool, true, false, if◌then◌else◌, Ok, Err, refl, ap, sym, ◌∙◌, subst, arith}
use Rattle.sd_lex.specs.PlainTree.{Expression, StatementTree, argument_array, local_array, local_stream, assign, copy, reduce, map_scope, tasklet, consume_scope, call, for_loop, while_loop, branch, input, output, set, set_at, tasklet_branch, Block, no_statement, and_statement}
use Rattle.sd_lex.specs.TreeFold.{block_listed}
use Rattle.sd_phrase.specs.declared.reading.Reading.TheVariants.{Form}
use Rattle.sd_line.specs.declared.line.head.BlockKind.{BlockKind}
use Rattle.sd_line.specs.declared.line.head.BlockKind.TheVariants.{Top, Program, Scope, Tasklet}
use Rattle.sd_line.specs.line.Head.{HeadTree, import_line, symbol_line, program_decorator, program_head, statement_head, reduce_head, input_head, output_head, consume_decorator, consume_head, elif_head, else_head}
use Rattle.sd_refusal.specs.OverLimit.{is_tasklet, new_lines}
use Rattle.sd_refusal.specs.declared.site.Counts.{Counts}
use Rattle.sd_program.specs.Limits.{else_line, lines_in_other, HasSmallTask}
use Rattle.sd_context.specs.context.After.{context_after}
use Rattle.sd_context.specs.context.Context.{Branch, Opener, file, function, statement, consumer, if_block, else_block, OpenBlock, Context, site_of}
use Rattle.sd_context.specs.blocks.Closing.{states_behind, states_counted, late_states, branch_with, nested, with_body, finished_by, finished, closed_by, closed_into}
use Rattle.sd_context.specs.blocks.Continuing.{is_elif_or_else, goes_on, branches_of, next_opener}
use Rattle.sd_read.proofs.readable_lemmas.kept.Ahead.{is_consumer, EndsRight}
use Rattle.sd_read.proofs.readable_lemmas.kept.Nesting.{same_kind}
use Rattle.sd_read.proofs.readable_lemmas.kept.Trees.{bare, EndsSmall, HoldsOfLines}
use Rattle.sd_refusal.specs.NotAForm.{is_program}
use Rattle.sd_read.proofs.readable_lemmas.kept.Heads.{IsFile, Opens, IsOpenedIn, AreNested}
use Rattle.sd_read.proofs.readable_lemmas.kept.Passing.{passes, false_is_not_true}
use Rattle.sd_read.proofs.readable_lemmas.kept.Steps.{refused_is_none, goes_on_is, IsWellNested, IsAccepted, Keeps, branch_counted, behind_branch, behind_other}
use Rattle.sd_read.proofs.readable_lemmas.kept.Counted.{within, same_counts}
use Rattle.sd_read.proofs.readable_lemmas.lines.Tasks.{sum_lines, sum_connectors, branch_lines, lines_by, connectors_by, in_task, held_lines, held_connectors, Tasks, branch-joined, lines-more, connectors-more, still, opens, IsTask, pass_tasks}

-- ---- ends of blocks

nested_lines : (branches : List Branch) (other : List StatementTree) → lines_in_other (block_listed (nested Tasklet branches other)) ≤ branch_lines branches + lines_in_other (block_listed other)
nested_lines [] other = omega arith
nested_lines (b ∷ branches) other = omega (arith, nested_lines branches other)

first_lines : (b : Branch) (branches : List Branch) (other : List StatementTree) → sum_lines (nested Tasklet (b ∷ branches) other) ≤ branch_lines (b ∷ branches) + lines_in_other (block_listed other)
first_lines b branches other = omega (arith, nested_lines branches other)

-- an `else` has at most one line
one_else : (s : StatementTree) (rest : Block) → else_line s rest ≤ 1
one_else (argument_array line name bits extents) rest = omega arith
one_else (local_array line name extents bits) rest = omega arith
one_else (local_stream line name bits size) rest = omega arith
one_else (assign line name at add value) rest = omega arith
one_else (copy line to to_dimensions from from_dimensions) rest = omega arith
one_else (reduce line lambda from to axis identity) rest = omega arith
one_else (map_scope line parameters ranges body) rest = omega arith
one_else (tasklet line body) rest = omega arith
one_else (consume_scope line from size name element worker body) rest = omega arith
one_else (call line name arguments) rest = omega arith
one_else (for_loop line name begin end step body) rest = omega arith
one_else (while_loop line when body) rest = omega arith
one_else (branch line when body other) rest = omega arith
one_else (input line name memlet) rest = omega arith
one_else (output line name memlet) rest = omega arith
one_else (set line name value) rest = omega arith
one_else (set_at line name at value) rest = omega arith
one_else (tasklet_branch line when body other) no_statement = omega arith
one_else (tasklet_branch line when body other) (and_statement first rest) = omega arith

else_lines : (other : List StatementTree) → lines_in_other (block_listed other) ≤ 1 + sum_lines other
else_lines [] = omega arith
else_lines (s ∷ other) = omega (arith, one_else s (block_listed other))

-- an `if` with its branches, and with an `else`
if_lines : (branches : List Branch) → sum_lines (nested Tasklet branches []) ≤ branch_lines branches
if_lines [] = omega arith
if_lines (b ∷ branches) = omega (arith, first_lines b branches [])

whole_lines : (branches : List Branch) (other : List StatementTree) → sum_lines (nested Tasklet branches other) ≤ branch_lines branches + (1 + sum_lines other)
whole_lines [] other = omega arith
whole_lines (b ∷ branches) other = omega (arith, first_lines b branches other, else_lines other)

nested_connectors : (branches : List Branch) (other : List StatementTree) → sum_connectors (nested Tasklet branches other) ≤ sum_connectors other
nested_connectors [] other = omega arith
nested_connectors (b ∷ branches) other = omega arith

-- a block that ends within a tasklet
ended_lines : (kind : BlockKind) (line : ℕ) (opener : Opener) (statements : List StatementTree) (outside : ℕ) → kind ≡ Tasklet → IsOpenedIn Tasklet kind opener →
    (sum_lines (finished_by kind line opener statements) + outside ≤ lines_by opener (sum_lines statements) outside) × (sum_connectors (finished_by kind line opener statements) + 0 ≤ sum_connectors statements)
ended_lines kind line file statements outside is opened = absurd opened
ended_lines kind line (function name) statements outside is opened = absurd (subst IsTask opened.0 tt)
ended_lines kind line (statement s) statements outside is opened = absurd opened.0
ended_lines kind line (consumer at from size name element worker) statements outside is opened = absurd opened.0
ended_lines kind line (if_block earlier when) statements outside is opened =
    let b : Branch = record { line = line; when = when; statements = statements } in
    subst
    (λ kind. (sum_lines (nested kind (earlier ++ b ∷ []) []) + outside ≤ lines_by (if_block earlier when) (sum_lines statements) outside) × (sum_connectors (nested kind (earlier ++ b ∷ []) []) + 0 ≤ sum_connectors statements)) (sym is)
    (omega (arith, if_lines (earlier ++ b ∷ []), branch-joined earlier (b ∷ [])), omega (arith, nested_connectors (earlier ++ b ∷ []) []))
ended_lines kind line (else_block earlier) statements outside is opened =
    subst (λ kind. (sum_lines (nested kind earlier statements) + outside ≤ lines_by (else_block earlier) (sum_lines statements) outside) × (sum_connectors (nested kind earlier statements) + 0 ≤ sum_connectors statements)) (sym is)
    (omega (arith, whole_lines earlier statements), omega (arith, nested_connectors earlier statements))

-- the statement of a tasklet that ends is small
small_body : (s : StatementTree) (statements : List StatementTree) (kind : BlockKind) → Opens kind s → (kind ≡ Tasklet → (sum_lines statements ≤ 1024) × (sum_connectors statements ≤ 64)) → HasSmallTask (with_body s (block_listed statements))
small_body (tasklet line body) statements kind opens few = let both = few opens in (omega (arith, both.1), both.0)
small_body (map_scope line parameters ranges body) statements kind opens few = tt
small_body (for_loop line name begin end step body) statements kind opens few = tt
small_body (while_loop line when body) statements kind opens few = tt
small_body (argument_array line name bits extents) statements kind opens few = absurd opens
small_body (local_array line name extents bits) statements kind opens few = absurd opens
small_body (local_stream line name bits size) statements kind opens few = absurd opens
small_body (assign line name at add value) statements kind opens few = absurd opens
small_body (copy line to to_dimensions from from_dimensions) statements kind opens few = absurd opens
small_body (reduce line lambda from to axis identity) statements kind opens few = absurd opens
small_body (consume_scope line from size name element worker body) statements kind opens few = absurd opens
small_body (call line name arguments) statements kind opens few = absurd opens
small_body (branch line when body other) statements kind opens few = absurd opens
small_body (input line name memlet) statements kind opens few = absurd opens
small_body (output line name memlet) statements kind opens few = absurd opens
small_body (set line name value) statements kind opens few = absurd opens
small_body (set_at line name at value) statements kind opens few = absurd opens
small_body (tasklet_branch line when body other) statements kind opens few = absurd opens

-- a block of a tasklet keeps to the limits
in_limit : (kind : BlockKind) (own bound most : ℕ) → kind ≡ Tasklet → in_task kind own ≤ bound → bound ≤ most → own ≤ most
in_limit kind own bound most is held few = omega (arith, subst (λ kind. in_task kind own ≤ bound) is held, few)

is_task : (kind : BlockKind) → is_tasklet kind ≡ true → kind ≡ Tasklet
is_task Top is = false_is_not_true is
is_task Program is = false_is_not_true is
is_task Scope is = false_is_not_true is
is_task Tasklet is = refl

pub ends_small : (context : Context) → IsWellNested context → EndsRight context.block → Tasks context → EndsSmall context.block.opener context.block.statements
ends_small context shape right good = by_outer context.outer shape where
  b : OpenBlock
  b = context.block

  lines_of : (opener : Opener) → b.opener ≡ opener → in_task b.kind (lines_by opener (sum_lines b.statements) (held_lines context.outer)) ≤ context.counts.lines
  lines_of opener is = subst (λ opener. in_task b.kind (lines_by opener (sum_lines b.statements) (held_lines context.outer)) ≤ context.counts.lines) is good.lines

  connectors_of : (opener : Opener) → b.opener ≡ opener → in_task b.kind (connectors_by opener (sum_connectors b.statements) (held_connectors context.outer)) ≤ context.counts.connectors
  connectors_of opener is = subst (λ opener. in_task b.kind (connectors_by opener (sum_connectors b.statements) (held_connectors context.outer)) ≤ context.counts.connectors) is good.connectors

  by_opener : (about : BlockKind) (opener : Opener) → b.opener ≡ opener → IsOpenedIn about b.kind opener → EndsSmall opener b.statements
  by_opener about file is opened = tt
  by_opener about (function name) is opened = tt
  by_opener about (statement s) is opened =
      small_body s b.statements b.kind opened.1
      (λ task. (
        in_limit b.kind (sum_lines b.statements) context.counts.lines 1024 task (lines_of (statement s) is) good.few_lines,
        in_limit b.kind (sum_connectors b.statements) context.counts.connectors 64 task (connectors_of (statement s) is) good.few_connectors,
      ))
  by_opener about (consumer line from size name element worker) is opened = λ has.
      let c = consumer line from size name element worker in
      let task = is_task b.kind (sym (right (ap is_consumer is)) ∙ has) in (
        in_limit b.kind (1 + sum_connectors b.statements) context.counts.connectors 64 task (connectors_of c is) good.few_connectors,
        in_limit b.kind (sum_lines b.statements) context.counts.lines 1024 task (lines_of c is) good.few_lines,
      )
  by_opener about (if_block earlier when) is opened = tt
  by_opener about (else_block earlier) is opened = tt

  of_file : (opener : Opener) → IsFile opener → EndsSmall opener b.statements
  of_file file is = tt
  of_file (function name) is = tt
  of_file (statement s) is = absurd is
  of_file (consumer line from size name element worker) is = absurd is
  of_file (if_block earlier when) is = tt
  of_file (else_block earlier) is = tt

  by_outer : (outer : List OpenBlock) → AreNested b outer → EndsSmall b.opener b.statements
  by_outer [] shape = of_file b.opener shape.1
  by_outer (about ∷ outer) shape = by_opener about.kind b.opener refl shape.0

inside_task : (kind : BlockKind) (opener : Opener) → IsOpenedIn Tasklet kind opener → kind ≡ Tasklet
inside_task kind file opened = absurd opened
inside_task kind (function name) opened = absurd (subst IsTask opened.0 tt)
inside_task kind (statement s) opened = absurd opened.0
inside_task kind (consumer line from size name element worker) opened = absurd opened.0
inside_task kind (if_block earlier when) opened = opened.1
inside_task kind (else_block earlier) opened = opened.1

-- what the block about one that ends holds
ended : (b about : OpenBlock) (outer : List OpenBlock) → IsOpenedIn about.kind b.kind b.opener →
    (held_lines (record about { statements = about.statements ++ finished b } ∷ outer) ≤ held_lines (b ∷ about ∷ outer))
    × (held_connectors (record about { statements = about.statements ++ finished b } ∷ outer) ≤ held_connectors (b ∷ about ∷ outer))
ended b about outer opened = by_about about.kind refl where
  after : OpenBlock
  after = record about { statements = about.statements ++ finished b }

  Both : BlockKind → Type 0
  Both kind = (in_task kind (lines_by about.opener (sum_lines after.statements) (held_lines outer)) ≤ held_lines (b ∷ about ∷ outer))
      × (in_task kind (connectors_by about.opener (sum_connectors after.statements) (held_connectors outer)) ≤ held_connectors (b ∷ about ∷ outer))

  by_about : (kind : BlockKind) → about.kind ≡ kind → Both about.kind
  by_about Top is = subst Both (sym is) (omega arith, omega arith)
  by_about Program is = subst Both (sym is) (omega arith, omega arith)
  by_about Scope is = subst Both (sym is) (omega arith, omega arith)
  by_about Tasklet is =
      let inside : IsOpenedIn Tasklet b.kind b.opener = subst (λ kind. IsOpenedIn kind b.kind b.opener) is opened in
      let task = inside_task b.kind b.opener inside in
      let held = ended_lines b.kind b.line b.opener b.statements (held_lines (about ∷ outer)) task inside in
      let own : in_task b.kind (lines_by b.opener (sum_lines b.statements) (held_lines (about ∷ outer))) ≡ lines_by b.opener (sum_lines b.statements) (held_lines (about ∷ outer)) =
      ap (λ kind. in_task kind (lines_by b.opener (sum_lines b.statements) (held_lines (about ∷ outer)))) task in
      let own' : in_task b.kind (connectors_by b.opener (sum_connectors b.statements) (held_connectors (about ∷ outer))) ≡ connectors_by b.opener (sum_connectors b.statements) (held_connectors (about ∷ outer)) =
      ap (λ kind. in_task kind (connectors_by b.opener (sum_connectors b.statements) (held_connectors (about ∷ outer)))) task in (
        omega (arith, lines-more about outer (finished b), at_most about.kind (sum_lines (finished b)), held.0, own),
        omega (arith, connectors-more about outer (finished b), at_most about.kind (sum_connectors (finished b)), held.1, own', outside b.opener inside (sum_connectors b.statements) (held_connectors (about ∷ outer))),
      ) where
        at_most : (kind : BlockKind) (n : ℕ) → in_task kind n ≤ n
        at_most Top n = omega arith
        at_most Program n = omega arith
        at_most Scope n = omega arith
        at_most Tasklet n = omega arith

        outside : (opener : Opener) → IsOpenedIn Tasklet b.kind opener → (own out : ℕ) → own + out ≤ connectors_by opener own out
        outside file opened own out = absurd opened
        outside (function name) opened own out = absurd (subst IsTask opened.0 tt)
        outside (statement s) opened own out = absurd opened.0
        outside (consumer line from size name element worker) opened own out = absurd opened.0
        outside (if_block earlier when) opened own out = omega arith
        outside (else_block earlier) opened own out = omega arith

close_tasks : (outer : List OpenBlock) (context : Context) → context.outer ≡ outer → AreNested context.block outer → Tasks context → Tasks (closed_into outer context)
close_tasks [] context is shape good = good
close_tasks (about ∷ rest) context is shape good = by_opener context.block.opener refl where
  b : OpenBlock
  b = context.block

  lines_now : held_lines (b ∷ about ∷ rest) ≤ context.counts.lines
  lines_now = subst (λ outer. held_lines (b ∷ outer) ≤ context.counts.lines) is good.lines

  connectors_now : held_connectors (b ∷ about ∷ rest) ≤ context.counts.connectors
  connectors_now = subst (λ outer. held_connectors (b ∷ outer) ≤ context.counts.connectors) is good.connectors

  both : (held_lines (record about { statements = about.statements ++ finished b } ∷ rest) ≤ held_lines (b ∷ about ∷ rest)) × (held_connectors (record about { statements = about.statements ++ finished b } ∷ rest) ≤ held_connectors (b ∷ about ∷ rest))
  both = ended b about rest shape.0

  behind : (after : Context) → after.counts ≡ context.counts → after.block ≡ record about { statements = about.statements ++ finished b } → after.outer ≡ rest → Tasks after
  behind after counts inner outer = record {
    lines = subst (λ c. held_lines (after.block ∷ after.outer) ≤ c.lines) (sym counts)
        (subst (λ inner. held_lines (inner ∷ after.outer) ≤ context.counts.lines) (sym inner) (subst (λ outer. held_lines (record about { statements = about.statements ++ finished b } ∷ outer) ≤ context.counts.lines) (sym outer) (omega (arith, both.0, lines_now))));
    few_lines = subst (λ c. c.lines ≤ 1024) (sym counts) good.few_lines;
    connectors = subst (λ c. held_connectors (after.block ∷ after.outer) ≤ c.connectors) (sym counts)
        (subst (λ inner. held_connectors (inner ∷ after.outer) ≤ context.counts.connectors) (sym inner) (subst (λ outer. held_connectors (record about { statements = about.statements ++ finished b } ∷ outer) ≤ context.counts.connectors) (sym outer) (omega (arith, both.1, connectors_now))));
    few_connectors = subst (λ c. c.connectors ≤ 64) (sym counts) good.few_connectors;
  }

  by_opener : (opener : Opener) → b.opener ≡ opener → Tasks (closed_by opener about rest context)
  by_opener file of = behind (closed_by file about rest context) refl refl refl
  by_opener (function name) of =
      let opened : IsOpenedIn about.kind b.kind (function name) = subst (IsOpenedIn about.kind b.kind) of shape.0 in
      record {
        lines = subst (λ kind. in_task kind (lines_by about.opener (sum_lines about.statements) (held_lines rest)) ≤ context.counts.lines) (sym opened.0) (omega arith);
        few_lines = good.few_lines;
        connectors = subst (λ kind. in_task kind (connectors_by about.opener (sum_connectors about.statements) (held_connectors rest)) ≤ context.counts.connectors) (sym opened.0) (omega arith);
        few_connectors = good.few_connectors;
      }
  by_opener (statement s) of = behind (closed_by (statement s) about rest context) refl refl refl
  by_opener (consumer line from size name element worker) of = behind (closed_by (consumer line from size name element worker) about rest context) refl refl refl
  by_opener (if_block earlier when) of = behind (closed_by (if_block earlier when) about rest context) refl refl refl
  by_opener (else_block earlier) of = behind (closed_by (else_block earlier) about rest context) refl refl refl

-- late states make no difference to lines and connectors
late_tasks : (lines : List ℕ) (counts now : Counts) → states_counted counts lines ≡ Ok now → (now.lines ≡ counts.lines) × (now.connectors ≡ counts.connectors)
late_tasks [] counts now is = let same = same_counts counts now is in (sym (ap (λ c. c.lines) same), sym (ap (λ c. c.connectors) same))
late_tasks (line ∷ lines) counts now is = by_test (late_tasks lines (record counts { states = counts.states + 1 }) now) (nat_lt 255 counts.states) is where
  by_test : (states_counted (record counts { states = counts.states + 1 }) lines ≡ Ok now → (now.lines ≡ counts.lines) × (now.connectors ≡ counts.connectors)) → (test : Bool) → states_behind (if test then Err (record { number = 8; line = line }) else Ok (record counts { states = counts.states + 1 })) (λ next. states_counted next lines) ≡ Ok now →
      (now.lines ≡ counts.lines) × (now.connectors ≡ counts.connectors)
  by_test go true is = refused_is_none (record { number = 8; line = line }) now is
  by_test go false is = go is

recounted : (context : Context) (counts : Counts) → (counts.lines ≡ context.counts.lines) × (counts.connectors ≡ context.counts.connectors) → Tasks context → Tasks (record context { counts = counts })
recounted context counts same good = record {
  lines = omega (arith, same.0, good.lines);
  few_lines = omega (arith, same.0, good.few_lines);
  connectors = omega (arith, same.1, good.connectors);
  few_connectors = omega (arith, same.1, good.few_connectors);
}

branch_tasks : (last : OpenBlock) (counts now : Counts) → branch_counted last counts ≡ Ok now → (now.lines ≡ counts.lines) × (now.connectors ≡ counts.connectors)
branch_tasks last counts now is = by_test (is_program last.kind) is where
  by_test : (test : Bool) → (if test then states_counted counts (last.line ∷ []) else Ok counts) ≡ Ok now → (now.lines ≡ counts.lines) × (now.connectors ≡ counts.connectors)
  by_test true is = late_tasks (last.line ∷ []) counts now is
  by_test false is = let same = same_counts counts now is in (sym (ap (λ c. c.lines) same), sym (ap (λ c. c.connectors) same))

-- ---- `elif` and `else`

other_counts : (context : Context) (counts : Counts) (about : OpenBlock) (outer : List OpenBlock) (line : ℕ) (head : HeadTree) → is_elif_or_else head ≡ true →
    ((behind_other context counts about outer line head).counts.lines ≡ counts.lines + new_lines about.kind) × ((behind_other context counts about outer line head).counts.connectors ≡ counts.connectors + 0)
other_counts context counts about outer line import_line is = false_is_not_true is
other_counts context counts about outer line (symbol_line name quoted) is = false_is_not_true is
other_counts context counts about outer line program_decorator is = false_is_not_true is
other_counts context counts about outer line (program_head name arguments) is = false_is_not_true is
other_counts context counts about outer line (statement_head s) is = false_is_not_true is
other_counts context counts about outer line (reduce_head lambda from to axis identity) is = false_is_not_true is
other_counts context counts about outer line (input_head name memlet) is = false_is_not_true is
other_counts context counts about outer line (output_head name memlet) is = false_is_not_true is
other_counts context counts about outer line (consume_decorator from size) is = false_is_not_true is
other_counts context counts about outer line (consume_head name element worker) is = false_is_not_true is
other_counts context counts about outer line (elif_head when) is = (refl, refl)
other_counts context counts about outer line else_head is = (refl, refl)

next_held : (branches : List Branch) (head : HeadTree) (outside outside' : ℕ) → is_elif_or_else head ≡ true →
    (lines_by (next_opener branches head) 0 outside ≡ 1 + (branch_lines branches + (0 + outside))) × (connectors_by (next_opener branches head) 0 outside' ≡ 0 + outside')
next_held branches import_line outside outside' is = false_is_not_true is
next_held branches (symbol_line name quoted) outside outside' is = false_is_not_true is
next_held branches program_decorator outside outside' is = false_is_not_true is
next_held branches (program_head name arguments) outside outside' is = false_is_not_true is
next_held branches (statement_head s) outside outside' is = false_is_not_true is
next_held branches (reduce_head lambda from to axis identity) outside outside' is = false_is_not_true is
next_held branches (input_head name memlet) outside outside' is = false_is_not_true is
next_held branches (output_head name memlet) outside outside' is = false_is_not_true is
next_held branches (consume_decorator from size) outside outside' is = false_is_not_true is
next_held branches (consume_head name element worker) outside outside' is = false_is_not_true is
next_held branches (elif_head when) outside outside' is = (refl, refl)
next_held branches else_head outside outside' is = (refl, refl)

gone_on : (kind about : BlockKind) (line : ℕ) (statements : List StatementTree) (opener : Opener) (head : HeadTree) (outside outside' : ℕ) → goes_on (Form head) opener ≡ true → kind ≡ about →
    (in_task kind (lines_by (next_opener (branches_of line statements opener) head) 0 outside) ≤ in_task kind (lines_by opener (sum_lines statements) outside) + new_lines about)
    × (in_task kind (connectors_by (next_opener (branches_of line statements opener) head) 0 outside') ≤ in_task kind (connectors_by opener (sum_connectors statements) outside') + 0)
gone_on kind about line statements file head outside outside' on is = false_is_not_true on
gone_on kind about line statements (function name) head outside outside' on is = false_is_not_true on
gone_on kind about line statements (statement s) head outside outside' on is = false_is_not_true on
gone_on kind about line statements (consumer at from size name element worker) head outside outside' on is = false_is_not_true on
gone_on kind about line statements (if_block earlier when) head outside outside' on is = by_kind kind is where
  b : Branch
  b = record { line = line; when = when; statements = statements }

  by_kind : (kind : BlockKind) → kind ≡ about →
      (in_task kind (lines_by (next_opener (earlier ++ b ∷ []) head) 0 outside) ≤ in_task kind (lines_by (if_block earlier when) (sum_lines statements) outside) + new_lines about)
      × (in_task kind (connectors_by (next_opener (earlier ++ b ∷ []) head) 0 outside') ≤ in_task kind (connectors_by (if_block earlier when) (sum_connectors statements) outside') + 0)
  by_kind Top is = (omega arith, omega arith)
  by_kind Program is = (omega arith, omega arith)
  by_kind Scope is = (omega arith, omega arith)
  by_kind Tasklet is =
      let next = next_held (earlier ++ b ∷ []) head outside outside' on in
      let one : new_lines about ≡ 1 = ap new_lines (sym is) in
      (omega (arith, next.0, one, branch-joined earlier (b ∷ [])), omega (arith, next.1))
gone_on kind about line statements (else_block earlier) head outside outside' on is = false_is_not_true on

go_on_tasks : (context : Context) (counts : Counts) (about : OpenBlock) (outer : List OpenBlock) (line : ℕ) (head : HeadTree) → context.outer ≡ about ∷ outer → goes_on (Form head) context.block.opener ≡ true →
    branch_counted context.block context.counts ≡ Ok counts → IsAccepted (behind_branch context counts about outer) head → AreNested context.block (about ∷ outer) → Tasks context → Tasks (behind_other context counts about outer line head)
go_on_tasks context counts about outer line head is on counted' accepted' shape good =
    let now = behind_branch context counts about outer in
    let kept = within now.names (site_of now) head (passes now.names (site_of now) head accepted') in
    let late = branch_tasks context.block context.counts counts counted' in
    let same = other_counts context counts about outer line head (goes_on_is head context.block.opener on) in
    let b = context.block in
    let kind = same_kind head about.kind b.kind b.opener on shape.0 in
    let held = gone_on b.kind about.kind b.line b.statements b.opener head (held_lines (about ∷ outer)) (held_connectors (about ∷ outer)) on kind.1 in
    let lines' : held_lines (b ∷ about ∷ outer) ≤ context.counts.lines = subst (λ outer. held_lines (b ∷ outer) ≤ context.counts.lines) is good.lines in
    let connectors' : held_connectors (b ∷ about ∷ outer) ≤ context.counts.connectors = subst (λ outer. held_connectors (b ∷ outer) ≤ context.counts.connectors) is good.connectors in
    record {
      lines = omega (arith, same.0, late.0, held.0, lines');
      few_lines = omega (arith, same.0, kept.lines);
      connectors = omega (arith, same.1, late.1, held.1, connectors');
      few_connectors = omega (arith, same.1, late.1, good.few_connectors);
    }

pub tasks_are_kept : Keeps Tasks
tasks_are_kept = record {
  begin = record { lines = omega arith; few_lines = omega arith; connectors = omega arith; few_connectors = omega arith };
  pass = λ context line scoped head fit due accepted' shape good. pass_tasks context line scoped head fit accepted' good;
  argument = λ context line scoped at name bits extents few begun accepted' shape good.
      let a = argument_array at name bits extents in
      still context (context_after context line scoped (statement_head a)) (statement_head a) good accepted' refl refl refl refl;
  close = λ context counts free counted' right shape good.
      close_tasks context.outer (record context { counts = counts }) refl shape (recounted context counts (late_tasks (late_states context.block) context.counts counts counted') good);
  go_on = λ context counts about outer line head free is on counted' fit accepted' shape good.
      go_on_tasks context counts about outer line head is on counted' accepted' (subst (AreNested context.block) is shape) good;
}

-- a tasklet is small before its first line
small_bare : (s : StatementTree) → HasSmallTask (bare s)
small_bare (tasklet line body) = (omega arith, omega arith)
small_bare (consume_scope line from size name element worker body) = λ has. false_is_not_true has
small_bare (argument_array line name bits extents) = tt
small_bare (local_array line name extents bits) = tt
small_bare (local_stream line name bits size) = tt
small_bare (assign line name at add value) = tt
small_bare (copy line to to_dimensions from from_dimensions) = tt
small_bare (reduce line lambda from to axis identity) = tt
small_bare (map_scope line parameters ranges body) = tt
small_bare (call line name arguments) = tt
small_bare (for_loop line name begin end step body) = tt
small_bare (while_loop line when body) = tt
small_bare (branch line when body other) = tt
small_bare (input line name memlet) = tt
small_bare (output line name memlet) = tt
small_bare (set line name value) = tt
small_bare (set_at line name at value) = tt
small_bare (tasklet_branch line when body other) = tt

small_other : (kind : BlockKind) (line : ℕ) (when : Expression) → HasSmallTask (branch_with kind (record { line = line; when = when; statements = [] }) no_statement)
small_other kind line when = by_kind (is_tasklet kind) where
  by_kind : (test : Bool) → HasSmallTask (if test then tasklet_branch line when no_statement no_statement else branch line when no_statement no_statement)
  by_kind true = tt
  by_kind false = tt

pub small_hold : HoldsOfLines HasSmallTask
small_hold = record {
  fill = λ s small holds. small;
  moved = λ line other when holds. tt;
  moved_inside = λ line other when holds. tt;
  said = λ names site s fit passed. small_bare s;
  reduced = λ line lambda from to axis identity. tt;
  taken = λ line from size name element worker has. false_is_not_true has;
  put_in = λ names site line name memlet on passed. tt;
  put_out = λ names site line name memlet on passed. tt;
  other = λ names site line when passed. small_other site.kind line when;
}
