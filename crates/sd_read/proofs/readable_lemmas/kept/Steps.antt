-- What each accepted line and each end of a block keeps holds of what was read.
use Rattle.std.proofs.Common.{◌≡◌, ℕ, zero, suc, ◌+◌, List, [], ◌∷◌, length, Bool, true, false, not, ◌&&◌, nat_eq, if◌then◌else◌, Option, Some, None, Result, Ok, Err, refl, ap, sym, ◌∙◌, subst, arith}
use Rattle.std.specs.Bool.{⊤}
use Rattle.std.specs.List.{AllByRecursion}
use Rattle.std.proofs.lemmas.Bool.{ne_eqb}
use Rattle.sd_lex.specs.PlainTree.{Expressions, StatementTree, argument_array, Block, no_statement, and_statement, ProgramTree}
use Rattle.sd_line.specs.declared.line.head.BlockKind.{BlockKind}
use Rattle.sd_line.specs.declared.line.head.BlockKind.TheVariants.{Top, Program, Scope, Tasklet}
use Rattle.sd_line.specs.line.Head.{HeadTree, import_line, symbol_line, program_decorator, program_head, statement_head, reduce_head, input_head, output_head, consume_decorator, consume_head, elif_head, else_head}
use Rattle.sd_phrase.specs.declared.reading.Reading.{Reading}
use Rattle.sd_phrase.specs.declared.reading.Reading.TheVariants.{NoForm, TooDeep, Form}
use Rattle.sd_names.specs.Names.{Name}
use Rattle.sd_refusal.specs.NotAForm.{is_program}
use Rattle.sd_refusal.specs.declared.site.Counts.{Counts}
use Rattle.sd_context.specs.context.Context.{Opener, function, file, statement, consumer, if_block, else_block, OpenBlock, Awaited, nothing, block, function_def, consume_def, Context, opening}
use Rattle.sd_context.specs.context.After.{context_after}
use Rattle.sd_context.specs.context.Awaiting.{comes_right, wrong_number, wanted_of, is_wanted}
use Rattle.sd_context.specs.declared.blocks.refusal.Refusal.{Refusal}
use Rattle.sd_context.specs.blocks.Closing.{Step, and_then, states_counted, with_counts, with_states, late_states, left_by, closed_by, closed, closed_into, closed_times}
use Rattle.sd_context.specs.blocks.Continuing.{is_elif_or_else, goes_on, branches_of, left, next_branch, next_judged, with_branch_state, continued_by}
use Rattle.sd_context.specs.blocks.Judging.{refused, against, statement_heads, steps_of, least, judged_one, judged_all, settled, judged_from}
use Rattle.sd_source.specs.source.LineReading.{stands_here, judged_here, by_tokens, behind_last_block, behind_blocks, kind_in, kind_at, said, line_read}
use Rattle.sd_line.specs.lines.Lines.{Line, opens_tasklet}
use Rattle.sd_source.specs.source.LinesReading.{lines_read, at_end, program_in, program_by, program_of_lines}
use Rattle.sd_context.specs.declared.context.awaiting.Wanted.{Wanted}
use Rattle.sd_read.proofs.readable_lemmas.kept.Heads.{AreExtents, IsArgument, AreArguments, Fits, IsFile, AreNested}
use Rattle.sd_read.proofs.readable_lemmas.kept.Ahead.{Ahead, ahead, seen, AllPromise, Within, BetweenBy, Between, EndsRight, starts, ends_ahead, ends_right, ends_within}
use Rattle.sd_read.proofs.readable_lemmas.kept.AheadKept.{Connects, passes_between, goes_on_between, opens_between, other_awaits}

abbrev IsRefused : {A E : Type 0} → Result A E → Type 0
IsRefused (Ok value) = ⊥
IsRefused (Err refusal) = ⊤

-- what is refused comes to nothing
pub refused_is_none : {A E P : Type 0} (refusal : E) (value : A) → Err refusal ≡ Ok value → P
refused_is_none refusal value is = absurd (subst IsRefused is tt)

abbrev value_in : {A E : Type 0} → A → Result A E → A
value_in other (Ok value) = value
value_in other (Err refusal) = other

pub same_value : {A E : Type 0} (step : Result A E) (b : A) → step ≡ Ok b → value_in b step ≡ b
same_value step b is = ap (value_in b) is

abbrev pub IsSome' : {A : Type 0} → Option A → Type 0
IsSome' None = ⊥
IsSome' (Some value) = ⊤

-- one of two, by a test
pub by_if : {A P : Type 0} (test : Bool) (a b c : A) → (if test then a else b) ≡ c → (test ≡ true → a ≡ c → P) → (test ≡ false → b ≡ c → P) → P
by_if true a b c is first second = first refl is
by_if false a b c is first second = second refl is

-- a step that comes to a context has a first half that does
pub halves : {P : Type 0} (step : Step) (rest : Context → Step) (end : Context) → and_then step rest ≡ Ok end → ((middle : Context) → step ≡ Ok middle → rest middle ≡ Ok end → P) → P
halves (Ok middle) rest end is go = go middle refl is
halves (Err refusal) rest end is go = refused_is_none refusal end is

abbrev pub IsFunction : Opener → Type 0
IsFunction (function name) = ⊤
IsFunction other = ⊥

-- a program has begun, and no statement of it
abbrev pub IsBegun : Context → Type 0
IsBegun context = (context.block.statements ≡ []) × IsFunction context.block.opener

abbrev pub IsWellNested : Context → Type 0
IsWellNested context = AreNested context.block context.outer

abbrev pub IsAccepted : Context → HeadTree → Type 0
IsAccepted context head = against context head ≡ None

-- the states that a branch makes where the next one begins
abbrev pub branch_counted : OpenBlock → Counts → Result Counts Refusal
branch_counted last counts = if is_program last.kind then states_counted counts (last.line ∷ []) else Ok counts

-- the context in which an `elif` or `else` stands
abbrev pub behind_branch : Context → Counts → OpenBlock → List OpenBlock → Context
behind_branch context counts about outer = left_by about outer (record context { counts = counts })

-- the context behind it
abbrev pub behind_other : Context → Counts → OpenBlock → List OpenBlock → (line : ℕ) → HeadTree → Context
behind_other context counts about outer line head = next_branch context.block line head (behind_branch context counts about outer)

-- no `def` is awaited
abbrev pub AwaitsNoDef : Awaited → Type 0
AwaitsNoDef nothing = ⊤
AwaitsNoDef block = ⊤
AwaitsNoDef (function_def line) = ⊥
AwaitsNoDef (consume_def line from size) = ⊥

-- each step of the reading keeps what holds of the context
pub record Keeps (Good : Context → Type 0) : Type 0 where
  pub begin : Good opening
  pub pass : (context : Context) (line : ℕ) (is_tasklet : Bool) (head : HeadTree) →
      Fits context.block.kind head → is_wanted (wanted_of context.awaited) head ≡ true → IsAccepted context head → IsWellNested context → Good context → Good (context_after context line is_tasklet head)
  pub argument : (context : Context) (line : ℕ) (is_tasklet : Bool) (at : ℕ) (name : Name) (bits : ℕ) (extents : Expressions) →
      AreExtents extents → IsBegun context → IsAccepted context (statement_head (argument_array at name bits extents)) → IsWellNested context → Good context →
      Good (context_after context line is_tasklet (statement_head (argument_array at name bits extents)))
  pub close : (context : Context) (counts : Counts) → AwaitsNoDef context.awaited → states_counted context.counts (late_states context.block) ≡ Ok counts → EndsRight context.block → IsWellNested context → Good context →
      Good (closed_into context.outer (record context { counts = counts }))
  pub go_on : (context : Context) (counts : Counts) (about : OpenBlock) (outer : List OpenBlock) (line : ℕ) (head : HeadTree) → AwaitsNoDef context.awaited →
      context.outer ≡ about ∷ outer → goes_on (Form head) context.block.opener ≡ true → branch_counted context.block context.counts ≡ Ok counts →
      Fits about.kind head → IsAccepted (behind_branch context counts about outer) head → IsWellNested context → Good context →
      Good (behind_other context counts about outer line head)

by_counts : {P : Type 0} (context middle : Context) (counts : Result Counts Refusal) → with_counts context counts ≡ Ok middle → ((now : Counts) → counts ≡ Ok now → record context { counts = now } ≡ middle → P) → P
by_counts context middle (Ok now) is go = go now refl (same_value (Ok (record context { counts = now })) middle is)
by_counts context middle (Err refusal) is go = refused_is_none refusal middle is

by_closed : {P : Type 0} (context next : Context) → closed context ≡ Ok next →
    ((now : Counts) → states_counted context.counts (late_states context.block) ≡ Ok now → closed_into context.outer (record context { counts = now }) ≡ next → P) → P
by_closed context next is go =
    halves (with_states context (late_states context.block)) (λ next. Ok (closed_into next.outer next)) next is
    (λ middle first rest. by_counts context middle (states_counted context.counts (late_states context.block)) first
    (λ now counts same. go now counts (ap (λ c. closed_into c.outer c) same ∙ same_value (Ok (closed_into middle.outer middle)) next rest)))

-- what is awaited behind a block that ends
awaited-after : (outer : List OpenBlock) (context : Context) → (closed_into outer context).awaited ≡ context.awaited
awaited-after [] context = refl
awaited-after (about ∷ outer) context = by_opener context.block.opener where
  by_opener : (opener : Opener) → (closed_by opener about outer context).awaited ≡ context.awaited
  by_opener file = refl
  by_opener (function name) = refl
  by_opener (statement s) = refl
  by_opener (consumer line from size name element worker) = refl
  by_opener (if_block earlier when) = refl
  by_opener (else_block earlier) = refl

awaited-closed : (context next : Context) → closed context ≡ Ok next → next.awaited ≡ context.awaited
awaited-closed context next is =
    by_closed context next is (λ now counts same. sym (ap (λ c. c.awaited) same) ∙ awaited-after context.outer (record context { counts = now }))

-- the kinds of the blocks about one that ends
kind-after : (outer : List OpenBlock) (context : Context) → AreNested context.block outer → context.outer ≡ outer → (n : ℕ) →
    kind_in (context.block ∷ outer) (suc n) ≡ kind_in ((closed_into outer context).block ∷ (closed_into outer context).outer) n
kind-after [] context nested is zero = sym nested.0
kind-after [] context nested is (suc n) = rw is refl
kind-after (about ∷ outer) context nested is n = by_opener context.block.opener n where
  by_opener : (opener : Opener) (n : ℕ) →
      kind_in (about ∷ outer) n ≡ kind_in ((closed_by opener about outer context).block ∷ (closed_by opener about outer context).outer) n
  by_opener file zero = refl
  by_opener file (suc n) = refl
  by_opener (function name) zero = refl
  by_opener (function name) (suc n) = refl
  by_opener (statement s) zero = refl
  by_opener (statement s) (suc n) = refl
  by_opener (consumer line from size name element worker) zero = refl
  by_opener (consumer line from size name element worker) (suc n) = refl
  by_opener (if_block earlier when) zero = refl
  by_opener (if_block earlier when) (suc n) = refl
  by_opener (else_block earlier) zero = refl
  by_opener (else_block earlier) (suc n) = refl

kind-closed : (context next : Context) → closed context ≡ Ok next → IsWellNested context → (n : ℕ) → kind_in (context.block ∷ context.outer) (suc n) ≡ kind_in (next.block ∷ next.outer) n
kind-closed context next is nested n =
    by_closed context next is
    (λ now counts same. kind-after context.outer (record context { counts = now }) nested refl n ∙ ap (λ c. kind_in (c.block ∷ c.outer) n) same)

abbrev IsFalse : Bool → Type 0
IsFalse true = ⊥
IsFalse false = ⊤

false_is_not_true : false ≡ true → ⊥
false_is_not_true is = subst IsFalse is tt

and_false : (a : Bool) → a && false ≡ false
and_false true = refl
and_false false = refl

second_of : (a b : Bool) → a && b ≡ true → b ≡ true
second_of true b is = is
second_of false b is = absurd (false_is_not_true is)

least-first : (a b : Option ℕ) → least a b ≡ None → a ≡ None
least-first None b none = refl
least-first (Some a) None none = none
least-first (Some a) (Some b) none = absurd (subst IsSome' none tt)

least-second : (a b : Option ℕ) → least a b ≡ None → b ≡ None
least-second None b none = none
least-second (Some a) None none = refl
least-second (Some a) (Some b) none = absurd (subst IsSome' none tt)

by_accepted : {P : Type 0} (judgement : Option ℕ × Context) (line : ℕ) (next : Context) → settled line judgement ≡ Ok next → (judgement.0 ≡ None → judgement.1 ≡ next → P) → P
by_accepted (None, context) line next is go = go refl (same_value (Ok context) next is)
by_accepted (Some number, context) line next is go = refused_is_none (record { number = number; line = line }) next is

-- a program's head stands at top level
program_fits : (kind : BlockKind) (name : Name) (arguments : Block) → Fits kind (program_head name arguments) → AreArguments arguments × Fits kind (program_head name no_statement)
program_fits Top name arguments fit = (fit, tt)
program_fits Program name arguments fit = absurd fit
program_fits Scope name arguments fit = absurd fit
program_fits Tasklet name arguments fit = absurd fit

by_program : {P : Type 0} (last : ℕ) (step : Step) (program : ProgramTree) → program_by last step ≡ Ok program →
    ((context : Context) → step ≡ Ok context → program_in context ≡ program → P) → P
by_program last (Err refused') program is go = refused_is_none refused' program is
by_program last (Ok context) program is go =
    by_if (nat_eq (length context.functions) 0) (Err (record { number = 4; line = last + 1 })) (Ok (program_in context)) (Ok program) is
    (λ none is. refused_is_none (record { number = 4; line = last + 1 }) program is)
    (λ some is. go context refl (same_value (Ok (program_in context)) program is))

-- so many more
abbrev behind : ℕ → ℕ → ℕ
behind zero m = m
behind (suc n) m = suc (behind n m)

behind-one : (n : ℕ) → behind n 1 ≡ suc n
behind-one zero = refl
behind-one (suc n) = ap suc (behind-one n)

-- the file is no branch
file_ends : (head : HeadTree) (opener : Opener) → goes_on (Form head) opener ≡ true → IsFile opener → ⊥
file_ends head file on is = false_is_not_true on
file_ends head (function name) on is = is
file_ends head (statement s) on is = is
file_ends head (consumer line from size name element worker) on is = is
file_ends head (if_block earlier when) on is = is
file_ends head (else_block earlier) on is = is

-- about a branch is another block
by_about : {P : Type 0} (context : Context) (head : HeadTree) → goes_on (Form head) context.block.opener ≡ true → (outer : List OpenBlock) → context.outer ≡ outer →
    AreNested context.block outer → ((about : OpenBlock) (rest : List OpenBlock) → context.outer ≡ about ∷ rest → P) → P
by_about context head on [] is nested go = absurd (file_ends head context.block.opener on nested.1)
by_about context head on (about ∷ rest) is nested go = go about rest is

by_branch_state : {P : Type 0} (context middle : Context) → with_branch_state context.block context ≡ Ok middle →
    ((counts : Counts) → branch_counted context.block context.counts ≡ Ok counts → record context { counts = counts } ≡ middle → P) → P
by_branch_state context middle is go =
    by_if (is_program context.block.kind) (with_states context (context.block.line ∷ [])) (Ok context) (Ok middle) is
    (λ holds is. by_counts context middle (states_counted context.counts (context.block.line ∷ [])) is
    (λ now counts same. go now (subst (λ b. (if b then states_counted context.counts (context.block.line ∷ []) else Ok context.counts) ≡ Ok now) (sym holds) counts) same))
    (λ fails is. go context.counts (subst (λ b. (if b then states_counted context.counts (context.block.line ∷ []) else Ok context.counts) ≡ Ok context.counts) (sym fails) refl)
    (same_value (Ok context) middle is))

-- the lines of a source say what they may in their kinds of blocks
pub record IsLine (line : Line) : Type 0 where
  pub fits : (kind : BlockKind) (head : HeadTree) → line.head kind ≡ Form head → Fits kind head
  pub connects : (kind : BlockKind) (head : HeadTree) → line.head kind ≡ Form head → Connects kind line.connects head

-- blocks end only where no `def` is awaited
abbrev IsFree : ℕ → Awaited → Type 0
IsFree zero awaited = ⊤
IsFree (suc n) awaited = AwaitsNoDef awaited

never : (test : Bool) (n : ℕ) → test && nat_eq (suc n) 0 ≡ true → ⊥
never test n right = false_is_not_true (sym (and_false test) ∙ subst (λ b. test && b ≡ true) (ne_eqb (suc n) 0 (λ is. omega arith)) right)

right_is_free : (awaited : Awaited) (opens : Bool) (closes : ℕ) → comes_right awaited opens closes ≡ true → IsFree closes awaited
right_is_free awaited opens zero right = tt
right_is_free nothing opens (suc n) right = tt
right_is_free block opens (suc n) right = absurd (never opens n right)
right_is_free (function_def line) opens (suc n) right = absurd (never (not opens) n right)
right_is_free (consume_def line from size) opens (suc n) right = absurd (never (not opens) n right)

-- where a block opens as it has to, none that is awaited is passed over
right_kind : (awaited : Awaited) (innermost : OpenBlock) (outer : List OpenBlock) (opens : Bool) (closes : ℕ) → comes_right awaited opens closes ≡ true →
    kind_at awaited innermost outer opens closes ≡ kind_in (innermost ∷ outer) closes
right_kind nothing innermost outer opens closes right = refl
right_kind block innermost outer true closes right = refl
right_kind block innermost outer false closes right = absurd (false_is_not_true right)
right_kind (function_def line) innermost outer opens closes right = refl
right_kind (consume_def line from size) innermost outer opens closes right = refl

-- what a line says fits its kind of block
abbrev Says : BlockKind → (connects : Bool) → HeadTree → Type 0
Says kind connects head = Fits kind head × Connects kind connects head

-- the line goes on with an `if`, which awaits its next block
pub goes_on_is : (head : HeadTree) (opener : Opener) → goes_on (Form head) opener ≡ true → is_elif_or_else head ≡ true
goes_on_is head file on = absurd (false_is_not_true on)
goes_on_is head (function name) on = absurd (false_is_not_true on)
goes_on_is head (statement s) on = absurd (false_is_not_true on)
goes_on_is head (consumer line from size name element worker) on = absurd (false_is_not_true on)
goes_on_is head (if_block earlier when) on = on
goes_on_is head (else_block earlier) on = absurd (false_is_not_true on)

not_true : (a : Bool) → not a ≡ true → a ≡ false
not_true true is = sym is
not_true false is = refl

first_of : (a b : Bool) → a && b ≡ true → a ≡ true
first_of true b is = refl
first_of false b is = is

module _ (Good : Context → Type 0) (keeps : Keeps Good) (nested : (context : Context) → Good context → IsWellNested context) where
  -- it holds of the context, and so does what is ahead of it
  abbrev Now : Ahead → Context → Type 0
  Now ahead context = Good context × Within ahead context

  abbrev Then : List Line → Context → Type 0
  Then lines context = Good context × Between lines context

  -- a program has begun, and its block is awaited
  abbrev Begun : List Line → Context → Type 0
  Begun lines context = IsBegun context × (BetweenBy block lines context.block context.outer × (context.awaited ≡ block))

  one-kept : (closes : ℕ) (connects : Bool) (rest : List Line) (context next : Context) → AwaitsNoDef context.awaited → closed context ≡ Ok next → Now (ahead (suc closes) connects rest) context → Now (ahead closes connects rest) next
  one-kept closes connects rest context next free is now =
      by_closed context next is
      (λ counts counted same.
      let ended = record context { counts = counts } in
      subst (Now (ahead closes connects rest)) same (
        keeps.close context counts free counted (ends_right context closes connects rest now.1) (nested context now.0) now.0,
        ends_within context.outer ended closes connects rest refl (nested context now.0) now.1,
      ))

  free-closed : (context next : Context) → AwaitsNoDef context.awaited → closed context ≡ Ok next → AwaitsNoDef next.awaited
  free-closed context next free is = subst AwaitsNoDef (sym (awaited-closed context next is)) free

  times-kept : (n closes : ℕ) (connects : Bool) (rest : List Line) (context next : Context) → AwaitsNoDef context.awaited → closed_times n context ≡ Ok next → Now (ahead (behind n closes) connects rest) context →
      Now (ahead closes connects rest) next × (next.awaited ≡ context.awaited)
  times-kept zero closes connects rest context next free is now =
      let same = same_value (Ok context) next is in
      (subst (Now (ahead closes connects rest)) same now, sym (ap (λ c. c.awaited) same))
  times-kept (suc n) closes connects rest context next free is now =
      halves (closed context) (closed_times n) next is
      (λ middle first later.
      let kept = times-kept n closes connects rest middle next (free-closed context middle free first) later (one-kept (behind n closes) connects rest context middle free first now) in
      (kept.0, kept.1 ∙ awaited-closed context middle first))

  -- the kind of the block in which a line stands is that of the block behind those that it closes
  kind-times : (n closes : ℕ) (connects : Bool) (rest : List Line) (context next : Context) → AwaitsNoDef context.awaited → closed_times n context ≡ Ok next → Now (ahead (behind n closes) connects rest) context → (m : ℕ) →
      kind_in (context.block ∷ context.outer) (behind n m) ≡ kind_in (next.block ∷ next.outer) m
  kind-times zero closes connects rest context next free is now m = ap (λ c. kind_in (c.block ∷ c.outer) m) (same_value (Ok context) next is)
  kind-times (suc n) closes connects rest context next free is now m =
      halves (closed context) (closed_times n) next is
      (λ middle first later.
      kind-closed context middle first (nested context now.0) (behind n m)
      ∙ kind-times n closes connects rest middle next (free-closed context middle free first) later (one-kept (behind n closes) connects rest context middle free first now) m)

  -- heads that are judged one after another
  none_before : (line : ℕ) (is_tasklet : Bool) (heads : List HeadTree) (so_far : Option ℕ × Context) → (judged_all line is_tasklet so_far heads).0 ≡ None → so_far.0 ≡ None
  none_before line is_tasklet [] so_far none = none
  none_before line is_tasklet (head ∷ heads) so_far none =
      least-first so_far.0 (against so_far.1 head) (none_before line is_tasklet heads (judged_one line is_tasklet so_far head) none)

  argument-kept : (context : Context) (line : ℕ) (is_tasklet : Bool) (rest : List Line) (s : StatementTree) → IsArgument s → Begun rest context → IsAccepted context (statement_head s) → Good context →
      Good (context_after context line is_tasklet (statement_head s)) × Begun rest (context_after context line is_tasklet (statement_head s))
  argument-kept context line is_tasklet rest s (at, name, bits, extents, (few, is)) begun accepted' good =
      subst
      (λ s. IsAccepted context (statement_head s) → Good (context_after context line is_tasklet (statement_head s)) × Begun rest (context_after context line is_tasklet (statement_head s)))
      (sym is)
      (λ accepted'. (keeps.argument context line is_tasklet at name bits extents few begun.0 accepted' (nested context good) good, (begun.0, (begun.1.0, refl))))
      accepted'

  arguments-kept : (line : ℕ) (is_tasklet : Bool) (rest : List Line) (arguments : Block) (so_far : Option ℕ × Context) → AreArguments arguments →
      (judged_all line is_tasklet so_far (statement_heads arguments)).0 ≡ None → Begun rest so_far.1 → Good so_far.1 →
      Then rest (judged_all line is_tasklet so_far (statement_heads arguments)).1
  arguments-kept line is_tasklet rest no_statement so_far fit none begun good =
      (good, subst (λ awaited. BetweenBy awaited rest so_far.1.block so_far.1.outer) (sym begun.1.1) begun.1.0)
  arguments-kept line is_tasklet rest (and_statement s arguments) so_far fit none begun good =
      let next = judged_one line is_tasklet so_far (statement_head s) in
      let accepted' = least-second so_far.0 (against so_far.1 (statement_head s)) (none_before line is_tasklet (statement_heads arguments) next none) in
      let kept = argument-kept so_far.1 line is_tasklet rest s fit.0 begun accepted' good in
      arguments-kept line is_tasklet rest arguments next fit.1 none kept.1 kept.0

  single-kept : (context next : Context) (line : ℕ) (connects : Bool) (rest : List Line) (head : HeadTree) → Says context.block.kind connects head → is_wanted (wanted_of context.awaited) head ≡ true → is_elif_or_else head ≡ false →
      judged_from None context line (opens_tasklet head rest) (head ∷ []) ≡ Ok next → Now (ahead 0 connects rest) context → Then rest next
  single-kept context next line connects rest head fit due other is now =
      by_accepted (judged_one line (opens_tasklet head rest) (None, context) head) line next is
      (λ none same. subst (Then rest) same (
        keeps.pass context line (opens_tasklet head rest) head fit.0 due none (nested context now.0) now.0,
        passes_between context line head connects rest fit.0 other fit.1 now.1,
      ))

  -- a head with the arguments of a program
  steps-kept : (context next : Context) (line : ℕ) (connects : Bool) (rest : List Line) (head : HeadTree) → Says context.block.kind connects head → is_wanted (wanted_of context.awaited) head ≡ true → is_elif_or_else head ≡ false →
      judged_from None context line (opens_tasklet head rest) (steps_of head) ≡ Ok next → Now (ahead 0 connects rest) context → Then rest next
  steps-kept context next line connects rest (program_head name arguments) fit due other is now =
      let first = judged_one line false (None, context) (program_head name no_statement) in
      by_accepted (judged_all line false first (statement_heads arguments)) line next is
      (λ none same.
      let accepted' = none_before line false (statement_heads arguments) first none in
      let both = program_fits context.block.kind name arguments fit.0 in
      subst (Then rest) same
      (arguments-kept line false rest arguments first both.0 none
      ((refl, tt), (passes_between context line (program_head name no_statement) connects rest both.1 refl fit.1 now.1, refl))
      (keeps.pass context line false (program_head name no_statement) both.1 due accepted' (nested context now.0) now.0)))
  steps-kept context next line connects rest import_line fit due other is now = single-kept context next line connects rest import_line fit due other is now
  steps-kept context next line connects rest (symbol_line name quoted) fit due other is now = single-kept context next line connects rest (symbol_line name quoted) fit due other is now
  steps-kept context next line connects rest program_decorator fit due other is now = single-kept context next line connects rest program_decorator fit due other is now
  steps-kept context next line connects rest (statement_head s) fit due other is now = single-kept context next line connects rest (statement_head s) fit due other is now
  steps-kept context next line connects rest (reduce_head lambda from to axis identity) fit due other is now = single-kept context next line connects rest (reduce_head lambda from to axis identity) fit due other is now
  steps-kept context next line connects rest (input_head connector memlet) fit due other is now = single-kept context next line connects rest (input_head connector memlet) fit due other is now
  steps-kept context next line connects rest (output_head connector memlet) fit due other is now = single-kept context next line connects rest (output_head connector memlet) fit due other is now
  steps-kept context next line connects rest (consume_decorator from size) fit due other is now = single-kept context next line connects rest (consume_decorator from size) fit due other is now
  steps-kept context next line connects rest (consume_head name element worker) fit due other is now = single-kept context next line connects rest (consume_head name element worker) fit due other is now
  steps-kept context next line connects rest (elif_head when) fit due other is now = single-kept context next line connects rest (elif_head when) fit due other is now
  steps-kept context next line connects rest else_head fit due other is now = single-kept context next line connects rest else_head fit due other is now

  judged-kept : (wanted : Wanted) (number : ℕ) (connects : Bool) (rest : List Line) (context next : Context) (head : HeadTree) → wanted_of context.awaited ≡ wanted → Says context.block.kind connects head →
      judged_here wanted number rest context head ≡ Ok next → Now (ahead 0 connects rest) context → Then rest next
  judged-kept wanted number connects rest context next head same fit is now =
      by_if (stands_here wanted head) (judged_from None context number (opens_tasklet head rest) (steps_of head)) (refused 4 number) (Ok next) is
      (λ holds judged'.
      let due = subst (λ wanted. is_wanted wanted head ≡ true) (sym same) (second_of (not (is_elif_or_else head)) (is_wanted wanted head) holds) in
      let other = not_true (is_elif_or_else head) (first_of (not (is_elif_or_else head)) (is_wanted wanted head) holds) in
      steps-kept context next number connects rest head fit due other judged' now)
      (λ fails refused'. refused_is_none (record { number = 4; line = number }) next refused')

  tokens-kept : (wanted : Wanted) (number : ℕ) (connects : Bool) (rest : List Line) (context next : Context) (read : Reading HeadTree) → wanted_of context.awaited ≡ wanted →
      ((head : HeadTree) → read ≡ Form head → Says context.block.kind connects head) → by_tokens wanted number rest context read ≡ Ok next → Now (ahead 0 connects rest) context → Then rest next
  tokens-kept wanted number connects rest context next NoForm same fit is now = refused_is_none (record { number = 4; line = number }) next is
  tokens-kept wanted number connects rest context next TooDeep same fit is now = refused_is_none (record { number = 8; line = number }) next is
  tokens-kept wanted number connects rest context next (Form head) same fit is now = judged-kept wanted number connects rest context next head same (fit head refl) is now

  -- the last block that a line closes
  continued-kept : (number : ℕ) (connects : Bool) (rest : List Line) (context next : Context) (read : Reading HeadTree) → AwaitsNoDef context.awaited → goes_on read context.block.opener ≡ true →
      ((head : HeadTree) → read ≡ Form head → Says (kind_in context.outer 0) connects head) → continued_by number context read ≡ Ok next → Now (ahead 1 connects rest) context → Then rest next
  continued-kept number connects rest context next NoForm free on fit is now = absurd (false_is_not_true on)
  continued-kept number connects rest context next TooDeep free on fit is now = absurd (false_is_not_true on)
  continued-kept number connects rest context next (Form head) free on fit is now =
      by_about context head on context.outer refl (nested context now.0)
      (λ about outer same_outer.
      halves (with_branch_state context.block context) (λ next. next_judged next.block number head (left next.outer next)) next is
      (λ middle first second.
      by_branch_state context middle first
      (λ counts counted' same.
      let there = behind_branch context counts about outer in
      let after' = behind_other context counts about outer number head in
      let says = subst (λ outer. Says (kind_in outer 0) connects head) same_outer (fit head refl) in
      let other = goes_on_is head context.block.opener on in
      let stepped : next_judged context.block number head there ≡ Ok next =
      subst (λ outer. next_judged context.block number head (left outer (record context { counts = counts })) ≡ Ok next) same_outer
      (subst (λ c. next_judged c.block number head (left c.outer c) ≡ Ok next) (sym same) second) in
      by_accepted (against there head, after') number next stepped
      (λ none same. subst (Then rest) same (
        keeps.go_on context counts about outer number head free same_outer on counted' says.0 none (nested context now.0) now.0,
        subst (λ awaited. BetweenBy awaited rest after'.block (about ∷ outer)) (sym (other_awaits number head other))
            (goes_on_between context.block after'.block about outer (branches_of context.block.line context.block.statements context.block.opener) head connects rest refl refl other says.1
            (subst (λ outer. AllPromise (seen (ahead 1 connects rest)) (context.block ∷ outer)) same_outer now.1)),
      )))))

  ended-kept : (wanted : Wanted) (number : ℕ) (connects : Bool) (rest : List Line) (read : Reading HeadTree) (context next : Context) → AwaitsNoDef context.awaited → wanted_of context.awaited ≡ wanted →
      ((head : HeadTree) → read ≡ Form head → Says (kind_in context.outer 0) connects head) → behind_last_block wanted number rest read context ≡ Ok next → Now (ahead 1 connects rest) context → Then rest next
  ended-kept wanted number connects rest read context next free same fit is now =
      by_if (goes_on read context.block.opener) (continued_by number context read) (and_then (closed context) (λ next. by_tokens wanted number rest next read)) (Ok next) is
      (λ on is. continued-kept number connects rest context next read free on fit is now)
      (λ off is. halves (closed context) (λ next. by_tokens wanted number rest next read) next is
      (λ middle first second. tokens-kept wanted number connects rest middle next read (ap wanted_of (awaited-closed context middle first) ∙ same)
      (λ head form. subst (λ kind. Says kind connects head) (kind-closed context middle first (nested context now.0) 0) (fit head form))
      second (one-kept 0 connects rest context middle free first now)))

  blocks-kept : (wanted : Wanted) (number : ℕ) (connects : Bool) (rest : List Line) (read : Reading HeadTree) (closes : ℕ) (context next : Context) → IsFree closes context.awaited → wanted_of context.awaited ≡ wanted →
      ((head : HeadTree) → read ≡ Form head → Says (kind_in (context.block ∷ context.outer) closes) connects head) → behind_blocks wanted number rest read closes context ≡ Ok next → Now (ahead closes connects rest) context → Then rest next
  blocks-kept wanted number connects rest read zero context next free same fit is now = tokens-kept wanted number connects rest context next read same fit is now
  blocks-kept wanted number connects rest read (suc n) context next free same fit is now =
      halves (closed_times n context) (behind_last_block wanted number rest read) next is
      (λ middle first second.
      let all = subst (λ closes. Now (ahead closes connects rest) context) (sym (behind-one n)) now in
      let kept = times-kept n 1 connects rest context middle free first all in
      ended-kept wanted number connects rest read middle next (subst AwaitsNoDef (sym kept.1) free) (ap wanted_of kept.1 ∙ same)
      (λ head form. subst (λ kind. Says kind connects head) (ap (λ m. kind_in (context.block ∷ context.outer) m) (sym (behind-one n)) ∙ kind-times n 1 connects rest context middle free first all 1) (fit head form))
      second kept.0)

  line-kept : (context next : Context) (line : Line) (rest : List Line) → IsLine line → line_read context line rest ≡ Ok next → Then (line ∷ rest) context → Then rest next
  line-kept context next line rest fit is now =
      let wrong = wrong_number (said context line) in
      by_if (comes_right context.awaited line.opens line.closes)
      (behind_blocks (wanted_of context.awaited) line.number rest (said context line) line.closes context) (refused wrong line.number) (Ok next) is
      (λ right is. blocks-kept (wanted_of context.awaited) line.number line.connects rest (said context line) line.closes context next
      (right_is_free context.awaited line.opens line.closes right) refl
      (λ head form.
      let kind = kind_at context.awaited context.block context.outer line.opens line.closes in
      subst (λ kind. Says kind line.connects head) (right_kind context.awaited context.block context.outer line.opens line.closes right) (fit.fits kind head form, fit.connects kind head form)) is
      (now.0, starts context line rest right now.1))
      (λ wrong' is. refused_is_none (record { number = wrong; line = line.number }) next is)

  lines-kept : (context next : Context) (lines : List Line) → AllByRecursion IsLine lines → lines_read context lines ≡ Ok next → Then lines context → Then [] next
  lines-kept context next [] fit is now = subst (Then []) (same_value (Ok context) next is) now
  lines-kept context next (line ∷ lines) fit is now =
      halves (line_read context line lines) (λ next. lines_read next lines) next is
      (λ middle first second. lines-kept middle next lines fit.1 second (line-kept context middle line lines fit.0 first now))

  end-kept : (last : ℕ) (awaited : Awaited) (context next : Context) → context.awaited ≡ awaited → at_end last awaited context ≡ Ok next → Then [] context → Good next
  end-kept last nothing context next same is now =
      let count = length context.outer in
      (times-kept count 0 false [] context next (subst AwaitsNoDef (sym same) tt) is (now.0, ends_ahead context (behind count 0) same now.1)).0.0
  end-kept last block context next same is now = refused_is_none (record { number = 4; line = last + 1 }) next is
  end-kept last (function_def line) context next same is now = refused_is_none (record { number = 4; line = last + 1 }) next is
  end-kept last (consume_def line from size) context next same is now = refused_is_none (record { number = 4; line = last + 1 }) next is

  -- the program is of a context of which it holds
  pub reads-kept : (last : ℕ) (lines : List Line) (program : ProgramTree) → AllByRecursion IsLine lines → program_of_lines last lines ≡ Ok program →
      (context : Context) × (Good context × (program_in context ≡ program))
  reads-kept last lines program fit is =
      by_program last (and_then (lines_read opening lines) (λ context. at_end last context.awaited context)) program is
      (λ context came same. (
        context,
        (
          halves (lines_read opening lines) (λ context. at_end last context.awaited context) context came
              (λ middle first second. end-kept last middle.awaited middle context refl second (lines-kept opening middle lines fit first (keeps.begin, opens_between lines))),
          same,
        ),
      ))
