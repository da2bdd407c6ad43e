-- Arguments and the ends of blocks keep the names of containers different.
use Rattle.std.proofs.Common.{◌≡◌, ℕ, List, [], ◌∷◌, ◌++◌, Bool, true, false, if◌then◌else◌, cond, refl, ap, sym, ◌∙◌, subst}
use Rattle.std.specs.Bool.{⊤}
use Rattle.sd_lex.specs.PlainTree.{Expressions, StatementTree, argument_array, local_array, local_stream, assign, copy, reduce, map_scope, tasklet, consume_scope, call, for_loop, while_loop, branch, input, output, set, set_at, tasklet_branch, Block}
use Rattle.sd_lex.specs.StatementKind.{has_connector}
use Rattle.sd_lex.specs.TreeFold.{block_listed}
use Rattle.sd_phrase.specs.declared.reading.Reading.TheVariants.{Form}
use Rattle.sd_line.specs.declared.line.head.BlockKind.{BlockKind}
use Rattle.sd_line.specs.declared.line.head.BlockKind.TheVariants.{Top, Program, Scope, Tasklet}
use Rattle.sd_line.specs.line.Head.{HeadTree, import_line, symbol_line, program_decorator, program_head, statement_head, reduce_head, input_head, output_head, consume_decorator, consume_head, elif_head, else_head}
use Rattle.sd_names.specs.Names.{Name, Names}
use Rattle.sd_refusal.specs.OverLimit.{is_tasklet}
use Rattle.sd_refusal.specs.declared.site.Counts.{Counts}
use Rattle.sd_program.specs.DeclaredNames.{declared_names, declared_names_all}
use Rattle.sd_context.specs.context.After.{context_after}
use Rattle.sd_context.specs.context.Context.{Branch, Opener, file, function, statement, consumer, if_block, else_block, OpenBlock, Context}
use Rattle.sd_context.specs.context.Declaring.{names_behind}
use Rattle.sd_context.specs.blocks.Closing.{branch_with, nested, finished_by, finished, closed_by, closed_into}
use Rattle.sd_context.specs.blocks.Continuing.{is_elif_or_else, goes_on, branches_of, next_opener}
use Rattle.sd_read.proofs.readable_lemmas.kept.Ahead.{is_consumer, EndsRight}
use Rattle.sd_read.proofs.readable_lemmas.kept.Heads.{IsFile, Opens, IsInner, IsOpenedIn, AreNested}
use Rattle.sd_read.proofs.readable_lemmas.kept.Passing.{true_is_not_false, false_is_not_true}
use Rattle.sd_read.proofs.readable_lemmas.kept.Steps.{goes_on_is, IsFunction, IsBegun, IsWellNested, IsAccepted, Keeps, behind_branch, behind_other}
use Rattle.sd_read.proofs.readable_lemmas.kept.Nesting.{top_is_file}
use Rattle.sd_read.proofs.readable_lemmas.kept.Trees.{all-more}
use Rattle.sd_read.proofs.readable_lemmas.counts.OwnNames.{Differ, AreKnown, distinct, names_over, names_through, names_by, so_far, names_of, HasOwnNames, OwnNames, same, more, over-joined, through-more, free_name, pass_own}

-- ---- arguments

by_function : {P : Type 0} (opener : Opener) → IsFunction opener → ((name : Name) → opener ≡ function name → P) → P
by_function file is go = absurd is
by_function (function name) is go = go name refl
by_function (statement s) is go = absurd is
by_function (consumer line from size name element worker) is go = absurd is
by_function (if_block earlier when) is go = absurd is
by_function (else_block earlier) is go = absurd is

-- where a program has begun its arguments alone are declared
begun_names : (arguments : List StatementTree) (b : OpenBlock) (outer : List OpenBlock) (name : Name) → b.opener ≡ function name → b.statements ≡ [] → AreNested b outer → so_far arguments b outer ≡ names_over arguments []
begun_names arguments b [] name is none shape = absurd (subst IsFile is shape.1)
begun_names arguments b (about ∷ outer) name is none shape =
    let opened : IsOpenedIn about.kind b.kind (function name) = subst (IsOpenedIn about.kind b.kind) is shape.0 in
    ap (λ kind. if is_tasklet kind then so_far arguments about outer else names_over b.statements (names_by arguments b.opener (so_far arguments about outer))) opened.1
    ∙ ap (λ statements. names_over statements (names_by arguments b.opener (so_far arguments about outer))) none
    ∙ ap (λ opener. names_by arguments opener (so_far arguments about outer)) is

argument_own : (context : Context) (line : ℕ) (scoped : Bool) (at : ℕ) (name : Name) (bits : ℕ) (extents : Expressions) → IsBegun context → IsAccepted context (statement_head (argument_array at name bits extents)) → IsWellNested context → OwnNames context →
    OwnNames (context_after context line scoped (statement_head (argument_array at name bits extents)))
argument_own context line scoped at name bits extents begun accepted' shape good =
    by_function context.block.opener begun.1
    (λ of is.
    let a = argument_array at name bits extents in
    more context (context_after context line scoped (statement_head a)) name
    (begun_names (context.arguments ++ a ∷ []) context.block context.outer of is begun.0 shape ∙ over-joined context.arguments (a ∷ []) []
    ∙ ap (λ names. names ++ name ∷ []) (sym (begun_names context.arguments context.block context.outer of is begun.0 shape)))
    refl refl (free_name context (statement_head a) name [] accepted' refl) good)

-- ---- ends of blocks

branch_names : (kind : BlockKind) (b : Branch) (other : Block) (names : List Name) → is_tasklet kind ≡ false → declared_names (branch_with kind b other) names ≡ declared_names_all other (names_over b.statements names)
branch_names kind b other names plain = by_kind (is_tasklet kind) plain where
  by_kind : (test : Bool) → test ≡ false → declared_names (if test then tasklet_branch b.line b.when (block_listed b.statements) other else branch b.line b.when (block_listed b.statements) other) names
      ≡ declared_names_all other (names_over b.statements names)
  by_kind true plain = true_is_not_false plain
  by_kind false plain = refl

nested_names : (kind : BlockKind) (branches : List Branch) (other : List StatementTree) (names : List Name) → is_tasklet kind ≡ false → names_over (nested kind branches other) names ≡ names_over other (names_through branches names)
nested_names kind [] other names plain = refl
nested_names kind (b ∷ branches) other names plain =
    branch_names kind b (block_listed (nested kind branches other)) names plain ∙ nested_names kind branches other (names_over b.statements names) plain

-- what a block that ends declares, in the block about it
abbrev Ends : (arguments : List StatementTree) → BlockKind → (line : ℕ) → Opener → List StatementTree → List Name → Type 0
Ends arguments kind line opener statements names =
    names_over (finished_by kind line opener statements) names ≡ (if is_tasklet kind then names else names_over statements (names_by arguments opener names))

body_names : (arguments : List StatementTree) (kind : BlockKind) (line : ℕ) (s : StatementTree) (statements : List StatementTree) (names : List Name) → Opens kind s → Ends arguments kind line (statement s) statements names
body_names arguments kind line (map_scope at parameters ranges body) statements names opens = ap (λ kind. if is_tasklet kind then names else names_over statements names) (sym opens)
body_names arguments kind line (tasklet at body) statements names opens = ap (λ kind. if is_tasklet kind then names else names_over statements names) (sym opens)
body_names arguments kind line (for_loop at name begin end step body) statements names opens = ap (λ kind. if is_tasklet kind then names else names_over statements names) (sym opens)
body_names arguments kind line (while_loop at when body) statements names opens = ap (λ kind. if is_tasklet kind then names else names_over statements names) (sym opens)
body_names arguments kind line (argument_array at name bits extents) statements names opens = absurd opens
body_names arguments kind line (local_array at name extents bits) statements names opens = absurd opens
body_names arguments kind line (local_stream at name bits size) statements names opens = absurd opens
body_names arguments kind line (assign at name subscripts add value) statements names opens = absurd opens
body_names arguments kind line (copy at to to_dimensions from from_dimensions) statements names opens = absurd opens
body_names arguments kind line (reduce at lambda from to axis identity) statements names opens = absurd opens
body_names arguments kind line (consume_scope at from size name element worker body) statements names opens = absurd opens
body_names arguments kind line (call at name passed) statements names opens = absurd opens
body_names arguments kind line (branch at when body other) statements names opens = absurd opens
body_names arguments kind line (input at connector memlet) statements names opens = absurd opens
body_names arguments kind line (output at connector memlet) statements names opens = absurd opens
body_names arguments kind line (set at name value) statements names opens = absurd opens
body_names arguments kind line (set_at at name subscripts value) statements names opens = absurd opens
body_names arguments kind line (tasklet_branch at when body other) statements names opens = absurd opens

abbrev NoFunction : Opener → Type 0
NoFunction (function name) = ⊥
NoFunction opener = ⊤

finished_names : (arguments : List StatementTree) (about kind : BlockKind) (line : ℕ) (opener : Opener) (statements : List StatementTree) (names : List Name) → NoFunction opener → IsOpenedIn about kind opener → is_tasklet about ≡ false →
    (is_consumer opener ≡ true → has_connector (block_listed statements) ≡ is_tasklet kind) → Ends arguments kind line opener statements names
finished_names arguments about kind line file statements names none opened plain right = absurd opened
finished_names arguments about kind line (function name) statements names none opened plain right = absurd none
finished_names arguments about kind line (statement s) statements names none opened plain right = body_names arguments kind line s statements names opened.1
finished_names arguments about kind line (consumer at from size name element worker) statements names none opened plain right =
    ap (λ test. cond test names (names_over statements (names ++ element ∷ []))) (right refl)
finished_names arguments about kind line (if_block earlier when) statements names none opened plain right =
    let b : Branch = record { line = line; when = when; statements = statements } in
    let inside : is_tasklet kind ≡ false = ap is_tasklet opened.1 ∙ plain in
    nested_names kind (earlier ++ b ∷ []) [] names inside ∙ through-more earlier b names ∙ ap (λ test. if test then names else names_over statements (names_through earlier names)) (sym inside)
finished_names arguments about kind line (else_block earlier) statements names none opened plain right =
    let inside : is_tasklet kind ≡ false = ap is_tasklet opened.1 ∙ plain in
    nested_names kind earlier statements names inside ∙ ap (λ test. if test then names else names_over statements (names_through earlier names)) (sym inside)

-- only the branches of a tasklet stand in one
inside_tasklet : (about kind : BlockKind) (opener : Opener) → NoFunction opener → IsOpenedIn about kind opener → is_tasklet about ≡ true → is_tasklet kind ≡ true
inside_tasklet Top kind opener none opened is = false_is_not_true is
inside_tasklet Program kind opener none opened is = false_is_not_true is
inside_tasklet Scope kind opener none opened is = false_is_not_true is
inside_tasklet Tasklet kind file none opened is = absurd opened
inside_tasklet Tasklet kind (function name) none opened is = absurd none
inside_tasklet Tasklet kind (statement s) none opened is = absurd opened.0
inside_tasklet Tasklet kind (consumer line from size name element worker) none opened is = absurd opened.0
inside_tasklet Tasklet kind (if_block earlier when) none opened is = ap is_tasklet opened.1
inside_tasklet Tasklet kind (else_block earlier) none opened is = ap is_tasklet opened.1

-- nothing but a program stands in the file
in_no_file : (about kind : BlockKind) (opener : Opener) → NoFunction opener → IsOpenedIn about kind opener → about ≡ Top → ⊥
in_no_file Top kind file none opened is = opened
in_no_file Top kind (function name) none opened is = none
in_no_file Top kind (statement s) none opened is = opened.0
in_no_file Top kind (consumer line from size name element worker) none opened is = opened.0
in_no_file Top kind (if_block earlier when) none opened is = opened.0
in_no_file Top kind (else_block earlier) none opened is = opened.0
in_no_file Program kind opener none opened is = subst IsInner is tt
in_no_file Scope kind opener none opened is = subst IsInner is tt
in_no_file Tasklet kind opener none opened is = subst IsInner is tt

ended_names : (arguments : List StatementTree) (inner about : OpenBlock) (outer : List OpenBlock) → NoFunction inner.opener → AreNested inner (about ∷ outer) → EndsRight inner →
    so_far arguments (record about { statements = about.statements ++ finished inner }) outer ≡ so_far arguments inner (about ∷ outer)
ended_names arguments inner about [] none shape right = absurd (in_no_file about.kind inner.kind inner.opener none shape.0 shape.1.0)
ended_names arguments inner about (next ∷ outer) none shape right = by_about (is_tasklet about.kind) refl where
  before : List Name
  before = names_by arguments about.opener (so_far arguments next outer)

  by_about : (test : Bool) → is_tasklet about.kind ≡ test →
      (if test then so_far arguments next outer else names_over (about.statements ++ finished inner) before)
      ≡ (if is_tasklet inner.kind then (if test then so_far arguments next outer else names_over about.statements before)
      else names_over inner.statements (names_by arguments inner.opener (if test then so_far arguments next outer else names_over about.statements before)))
  by_about true is =
      ap (λ test. if test then so_far arguments next outer else names_over inner.statements (names_by arguments inner.opener (so_far arguments next outer)))
      (sym (inside_tasklet about.kind inner.kind inner.opener none shape.0 is))
  by_about false is =
      over-joined about.statements (finished inner) before ∙ finished_names arguments about.kind inner.kind inner.line inner.opener inner.statements (names_over about.statements before) none shape.0 is right

block_own : (context : Context) (about : OpenBlock) (outer : List OpenBlock) → NoFunction context.block.opener → context.outer ≡ about ∷ outer → EndsRight context.block → AreNested context.block (about ∷ outer) → (after : Context) →
    names_of after ≡ so_far context.arguments (record about { statements = about.statements ++ finished context.block }) outer → after.names.declared ≡ context.names.declared → after.functions ≡ context.functions → OwnNames context → OwnNames after
block_own context about outer none is right shape after names declared functions good =
    same context after (names ∙ ended_names context.arguments context.block about outer none shape right ∙ ap (so_far context.arguments context.block) (sym is)) declared functions good

close_own : (outer : List OpenBlock) (context : Context) → context.outer ≡ outer → AreNested context.block outer → EndsRight context.block → OwnNames context → OwnNames (closed_into outer context)
close_own [] context is shape right good = good
close_own (about ∷ rest) context is shape right good = by_opener context.block.opener refl where
  inner : OpenBlock
  inner = context.block

  by_opener : (opener : Opener) → inner.opener ≡ opener → OwnNames (closed_by opener about rest context)
  by_opener file of = block_own context about rest (subst NoFunction (sym of) tt) is right shape (closed_by file about rest context) refl refl refl good
  by_opener (function name) of =
      let opened : IsOpenedIn about.kind inner.kind (function name) = subst (IsOpenedIn about.kind inner.kind) of shape.0 in
      let alone : rest ≡ [] = top_is_file about rest shape.1 opened.0 in
      let all : names_of context ≡ names_over inner.statements (names_over context.arguments []) =
      ap (so_far context.arguments inner) is
      ∙ ap (λ kind. if is_tasklet kind then so_far context.arguments about rest else names_over inner.statements (names_by context.arguments inner.opener (so_far context.arguments about rest))) opened.1
      ∙ ap (λ opener. names_over inner.statements (names_by context.arguments opener (so_far context.arguments about rest))) of in
      let none : so_far [] about rest ≡ [] = ap (so_far [] about) alone in
      record {
        differ = subst Differ (sym none) tt;
        known = subst (AreKnown []) (sym none) tt;
        functions = all-more HasOwnNames context.functions (record { name = name; line = inner.line; arguments = block_listed context.arguments; body = block_listed inner.statements }) good.functions
            (distinct (names_over inner.statements (names_over context.arguments [])) (subst Differ all good.differ));
      }
  by_opener (statement s) of = block_own context about rest (subst NoFunction (sym of) tt) is right shape (closed_by (statement s) about rest context) refl refl refl good
  by_opener (consumer line from size name element worker) of = block_own context about rest (subst NoFunction (sym of) tt) is right shape (closed_by (consumer line from size name element worker) about rest context) refl refl refl good
  by_opener (if_block earlier when) of = block_own context about rest (subst NoFunction (sym of) tt) is right shape (closed_by (if_block earlier when) about rest context) refl refl refl good
  by_opener (else_block earlier) of = block_own context about rest (subst NoFunction (sym of) tt) is right shape (closed_by (else_block earlier) about rest context) refl refl refl good

-- ---- `elif` and `else`

next_names : (arguments : List StatementTree) (branches : List Branch) (head : HeadTree) (names : List Name) → names_by arguments (next_opener branches head) names ≡ names_through branches names
next_names arguments branches import_line names = refl
next_names arguments branches (symbol_line name quoted) names = refl
next_names arguments branches program_decorator names = refl
next_names arguments branches (program_head name passed) names = refl
next_names arguments branches (statement_head s) names = refl
next_names arguments branches (reduce_head lambda from to axis identity) names = refl
next_names arguments branches (input_head connector memlet) names = refl
next_names arguments branches (output_head connector memlet) names = refl
next_names arguments branches (consume_decorator from size) names = refl
next_names arguments branches (consume_head name element worker) names = refl
next_names arguments branches (elif_head when) names = refl
next_names arguments branches else_head names = refl

-- behind the branches with the last one
gone_on : (arguments : List StatementTree) (line : ℕ) (statements : List StatementTree) (opener : Opener) (head : HeadTree) (names : List Name) → goes_on (Form head) opener ≡ true →
    names_through (branches_of line statements opener) names ≡ names_over statements (names_by arguments opener names)
gone_on arguments line statements file head names on = false_is_not_true on
gone_on arguments line statements (function name) head names on = false_is_not_true on
gone_on arguments line statements (statement s) head names on = false_is_not_true on
gone_on arguments line statements (consumer at from size name element worker) head names on = false_is_not_true on
gone_on arguments line statements (if_block earlier when) head names on = through-more earlier (record { line = line; when = when; statements = statements }) names
gone_on arguments line statements (else_block earlier) head names on = false_is_not_true on

other_names : (names : Names) (head : HeadTree) → is_elif_or_else head ≡ true → (names_behind names false head).declared ≡ names.declared
other_names names import_line is = refl
other_names names (symbol_line name quoted) is = refl
other_names names program_decorator is = refl
other_names names (program_head name arguments) is = false_is_not_true is
other_names names (statement_head s) is = false_is_not_true is
other_names names (reduce_head lambda from to axis identity) is = refl
other_names names (input_head connector memlet) is = refl
other_names names (output_head connector memlet) is = refl
other_names names (consume_decorator from size) is = refl
other_names names (consume_head name element worker) is = false_is_not_true is
other_names names (elif_head when) is = refl
other_names names else_head is = refl

go_on_own : (context : Context) (counts : Counts) (about : OpenBlock) (outer : List OpenBlock) (line : ℕ) (head : HeadTree) → context.outer ≡ about ∷ outer → goes_on (Form head) context.block.opener ≡ true → OwnNames context →
    OwnNames (behind_other context counts about outer line head)
go_on_own context counts about outer line head is on good =
    let inner = context.block in
    let branches = branches_of inner.line inner.statements inner.opener in
    let outside = so_far context.arguments about outer in
    let inside : names_by context.arguments (next_opener branches head) outside ≡ names_over inner.statements (names_by context.arguments inner.opener outside) =
    next_names context.arguments branches head outside ∙ gone_on context.arguments inner.line inner.statements inner.opener head outside on in
    same context (behind_other context counts about outer line head)
    (ap (λ names. if is_tasklet inner.kind then outside else names) inside ∙ ap (so_far context.arguments inner) (sym is))
    (other_names (behind_branch context counts about outer).names head (goes_on_is head inner.opener on)) refl good

pub names_are_kept : Keeps OwnNames
names_are_kept = record {
  begin = record { differ = tt; known = tt; functions = tt };
  pass = λ context line scoped head fit due accepted' shape good. pass_own context line scoped head fit accepted' shape good;
  argument = λ context line scoped at name bits extents few begun accepted' shape good. argument_own context line scoped at name bits extents begun accepted' shape good;
  close = λ context counts free counted right shape good. close_own context.outer (record context { counts = counts }) refl shape right (same context (record context { counts = counts }) refl refl refl good);
  go_on = λ context counts about outer line head free is on counted fit accepted' shape good. go_on_own context counts about outer line head is on good;
}
