-- A line that is refused stands where it may, and so does all that is read before it.
use Rattle.std.proofs.Common.{◌≡◌, ℕ, zero, suc, ◌+◌, List, [], ◌∷◌, length, Bool, true, false, not, ◌&&◌, nat_eq, if◌then◌else◌, Option, Some, None, Result, Ok, Err, refl, ap, ◌∙◌}
use Rattle.std.specs.List.{AllByRecursion}
use Rattle.std.proofs.lemmas.Bool.{false≢true}
use Rattle.sd_lex.specs.PlainTree.{Block, no_statement, and_statement, ProgramTree}
use Rattle.sd_line.specs.line.Head.{HeadTree, import_line, symbol_line, program_decorator, program_head, statement_head, reduce_head, input_head, output_head, consume_decorator, consume_head, elif_head, else_head}
use Rattle.sd_phrase.specs.declared.reading.Reading.{Reading}
use Rattle.sd_phrase.specs.declared.reading.Reading.TheVariants.{NoForm, TooDeep, Form}
use Rattle.sd_program.specs.Every.{EveryIn, Everywhere}
use Rattle.sd_refusal.specs.NotAForm.{is_program}
use Rattle.sd_context.specs.declared.context.awaiting.Wanted.{Wanted}
use Rattle.sd_context.specs.context.Awaiting.{comes_right, wrong_number, wanted_of, is_wanted}
use Rattle.sd_context.specs.context.Context.{Branch, Opener, file, function, statement, consumer, if_block, else_block, OpenBlock, Awaited, nothing, block, function_def, consume_def, Context, opening, in_force}
use Rattle.sd_context.specs.context.After.{known_behind, context_after}
use Rattle.sd_context.specs.declared.blocks.refusal.Refusal.{Refusal}
use Rattle.sd_context.specs.blocks.Closing.{Step, and_then, states_counted, with_states, closed, closed_times}
use Rattle.sd_context.specs.blocks.Continuing.{is_elif_or_else, goes_on, branches_of, next_opener, left, next_branch, next_judged, with_branch_state, continued, continued_by}
use Rattle.sd_context.specs.blocks.Judging.{refused, against, accepted, statement_heads, steps_of, judged_one, judged_all, settled, judged_from}
use Rattle.sd_source.specs.source.LineReading.{stands_here, by_tokens, behind_last_block, behind_blocks, kind_at, said, line_read}
use Rattle.sd_line.specs.lines.Lines.{Line, opens_tasklet}
use Rattle.sd_source.specs.source.LinesReading.{lines_read, at_end, program_in, program_by, program_of_lines}
use Rattle.sd_source.specs.source.Prefix.{or_stays, context_before_refusal, program_before_refusal}
use Rattle.sd_read.proofs.readable_lemmas.lines.Forms.{IfForm}
use Rattle.sd_read.proofs.told_lemmas.Known.{IsDue, IsBranchOn, IsOpenerOn, IsBlockOn, IsKnownOn, IsStepOn, Leaves, opening_on, passed_on, opened_on, behind_known, left_on, all_on, counted_on, closed_on, times_on, branch_counts_on, branches_on}
use Rattle.sd_read.proofs.told_lemmas.LogicalLines.{IsLineOn}
use Rattle.sd_read.proofs.told_lemmas.SaidLines.{IsOnLine, Says}

second_of : (a b : Bool) → a && b ≡ true → b ≡ true
second_of true b is = is
second_of false b is = absurd (false≢true is)

-- the `def` of a consume is wanted only behind its decorator
is_due : (awaited : Awaited) (head : HeadTree) → is_wanted (wanted_of awaited) head ≡ true → IsDue awaited head
is_due awaited import_line is = tt
is_due awaited (symbol_line name quoted) is = tt
is_due awaited program_decorator is = tt
is_due awaited (program_head name arguments) is = tt
is_due awaited (statement_head s) is = tt
is_due awaited (reduce_head lambda from to axis identity) is = tt
is_due awaited (input_head connector memlet) is = tt
is_due awaited (output_head connector memlet) is = tt
is_due awaited (consume_decorator from size) is = tt
is_due nothing (consume_head name element worker) is = false≢true is
is_due block (consume_head name element worker) is = false≢true is
is_due (function_def line) (consume_head name element worker) is = false≢true is
is_due (consume_def line from size) (consume_head name element worker) is = tt
is_due awaited (elif_head when) is = tt
is_due awaited else_head is = tt

module _ (On : ℕ → Type 0) where
  step-if : (test : Bool) (a b : Step) → (test ≡ true → IsStepOn On a) → (test ≡ false → IsStepOn On b) → IsStepOn On (if test then a else b)
  step-if true a b first second = first refl
  step-if false a b first second = second refl

  leaves_step : (awaited : Awaited) (step : Step) → Leaves On awaited step → IsStepOn On step
  leaves_step awaited (Ok next) leaves = leaves.0
  leaves_step awaited (Err refusal) leaves = leaves

  step_more : (step : Step) (rest : Context → Step) → IsStepOn On step → ((next : Context) → IsKnownOn On next → IsStepOn On (rest next)) → IsStepOn On (and_then step rest)
  step_more (Ok next) rest first second = second next first
  step_more (Err refusal) rest first second = first

  leaves_then : (awaited : Awaited) (step : Step) (rest : Context → Step) → Leaves On awaited step → ((next : Context) → IsKnownOn On next → next.awaited ≡ awaited → IsStepOn On (rest next)) → IsStepOn On (and_then step rest)
  leaves_then awaited (Ok next) rest first second = second next first.0 first.1
  leaves_then awaited (Err refusal) rest first second = first

  accepted_on : (number : Option ℕ) (line : ℕ) (context : Context) → On line → IsKnownOn On context → IsStepOn On (accepted number line context)
  accepted_on None line context on known = known
  accepted_on (Some number) line context on known = on

  -- ---- an `elif` or `else`

  opener_on : (line : ℕ) (branches : List Branch) (head : HeadTree) → On line → AllByRecursion (IsBranchOn On) branches → IsOpenerOn On line (next_opener branches head)
  opener_on line branches import_line on all = all
  opener_on line branches (symbol_line name quoted) on all = all
  opener_on line branches program_decorator on all = all
  opener_on line branches (program_head name arguments) on all = all
  opener_on line branches (statement_head s) on all = all
  opener_on line branches (reduce_head lambda from to axis identity) on all = all
  opener_on line branches (input_head connector memlet) on all = all
  opener_on line branches (output_head connector memlet) on all = all
  opener_on line branches (consume_decorator from size) on all = all
  opener_on line branches (consume_head name element worker) on all = all
  opener_on line branches (elif_head when) on all = (on, all)
  opener_on line branches else_head on all = all

  branch_line : (line : ℕ) (head : HeadTree) (opener : Opener) → goes_on (Form head) opener ≡ true → IsOpenerOn On line opener → On line
  branch_line line head file goes opens = absurd (false≢true goes)
  branch_line line head (function name) goes opens = absurd (false≢true goes)
  branch_line line head (statement s) goes opens = absurd (false≢true goes)
  branch_line line head (consumer at from size name element worker) goes opens = absurd (false≢true goes)
  branch_line line head (if_block earlier when) goes opens = opens.0
  branch_line line head (else_block earlier) goes opens = absurd (false≢true goes)

  left_known : (outer : List OpenBlock) (context : Context) → IsKnownOn On context → AllByRecursion (IsBlockOn On) outer → IsKnownOn On (left outer context)
  left_known [] context known blocks = known
  left_known (about ∷ outer) context known blocks = left_on On about outer context known blocks.0 blocks.1

  next_known : (last : OpenBlock) (line : ℕ) (head : HeadTree) (context : Context) → On line → IsBlockOn On last → IsKnownOn On context → IsKnownOn On (next_branch last line head context)
  next_known last line head context on ends known =
      opened_on On (in_force context.names) (next_opener (branches_of last.line last.statements last.opener) head) last.kind line 0 (known_behind context line false head)
      (opener_on line (branches_of last.line last.statements last.opener) head on (branches_on On last.line last.statements last.opener ends.0 ends.1)) (behind_known On line false head context on known)

  branch_state : (context : Context) → On context.block.line → IsKnownOn On context → IsStepOn On (with_branch_state context.block context)
  branch_state context on known =
      step-if (is_program context.block.kind) (with_states context (context.block.line ∷ [])) (Ok context)
      (λ _. leaves_step context.awaited (with_states context (context.block.line ∷ []))
      (branch_counts_on On context (states_counted context.counts (context.block.line ∷ [])) (counted_on On (context.block.line ∷ []) context.counts (on, tt)) known))
      (λ _. known)

  continued_on : (line : ℕ) (context : Context) (head : HeadTree) → On line → goes_on (Form head) context.block.opener ≡ true → IsKnownOn On context → IsStepOn On (continued line context head)
  continued_on line context head on goes known =
      step_more (with_branch_state context.block context) (λ next. next_judged next.block line head (left next.outer next))
      (branch_state context (branch_line context.block.line head context.block.opener goes known.inner.0) known)
      (λ next now. accepted_on (against (left next.outer next) head) line (next_branch next.block line head (left next.outer next)) on
      (next_known next.block line head (left next.outer next) on now.inner (left_known next.outer next now now.about)))

  -- ---- a line that is judged

  arguments_on : (line : ℕ) (is_tasklet : Bool) (arguments : Block) (so_far : Option ℕ × Context) → On line → EveryIn (IsOnLine On) arguments → IsKnownOn On so_far.1 →
      IsKnownOn On (judged_all line is_tasklet so_far (statement_heads arguments)).1
  arguments_on line is_tasklet no_statement so_far on says known = known
  arguments_on line is_tasklet (and_statement s arguments) so_far on says known =
      arguments_on line is_tasklet arguments (judged_one line is_tasklet so_far (statement_head s)) on says.1 (passed_on On so_far.1 line is_tasklet (statement_head s) on says.0 tt known)

  steps_on : (context : Context) (line : ℕ) (is_tasklet : Bool) (head : HeadTree) → On line → Says On head → IsDue context.awaited head → IsKnownOn On context →
      IsStepOn On (judged_from None context line is_tasklet (steps_of head))
  steps_on context line is_tasklet head on says due known = by_head head says due where
    one : (head : HeadTree) → Says On head → IsDue context.awaited head → IsStepOn On (settled line (judged_one line is_tasklet (None, context) head))
    one head says due =
        accepted_on (judged_one line is_tasklet (None, context) head).0 line (context_after context line is_tasklet head) on (passed_on On context line is_tasklet head on says due known)

    by_head : (head : HeadTree) → Says On head → IsDue context.awaited head → IsStepOn On (judged_from None context line is_tasklet (steps_of head))
    by_head import_line says due = one import_line says due
    by_head (symbol_line name quoted) says due = one (symbol_line name quoted) says due
    by_head program_decorator says due = one program_decorator says due
    by_head (program_head name arguments) says due =
        let first = judged_one line is_tasklet (None, context) (program_head name no_statement) in
        let all = judged_all line is_tasklet first (statement_heads arguments) in
        accepted_on all.0 line all.1 on (arguments_on line is_tasklet arguments first on says (passed_on On context line is_tasklet (program_head name no_statement) on tt tt known))
    by_head (statement_head s) says due = one (statement_head s) says due
    by_head (reduce_head lambda from to axis identity) says due = one (reduce_head lambda from to axis identity) says due
    by_head (input_head connector memlet) says due = one (input_head connector memlet) says due
    by_head (output_head connector memlet) says due = one (output_head connector memlet) says due
    by_head (consume_decorator from size) says due = one (consume_decorator from size) says due
    by_head (consume_head name element worker) says due = one (consume_head name element worker) says due
    by_head (elif_head when) says due = one (elif_head when) says due
    by_head else_head says due = one else_head says due

  tokens_on : (wanted : Wanted) (number : ℕ) (rest : List Line) (context : Context) (read : Reading HeadTree) → wanted_of context.awaited ≡ wanted → On number → IfForm (Says On) read → IsKnownOn On context →
      IsStepOn On (by_tokens wanted number rest context read)
  tokens_on wanted number rest context NoForm same on says known = on
  tokens_on wanted number rest context TooDeep same on says known = on
  tokens_on wanted number rest context (Form head) same on says known =
      step-if (stands_here wanted head) (judged_from None context number (opens_tasklet head rest) (steps_of head)) (refused 4 number)
      (λ stands.
      let due = second_of (not (is_elif_or_else head)) (is_wanted wanted head) stands in
      steps_on context number (opens_tasklet head rest) head on says (is_due context.awaited head (ap (λ wanted. is_wanted wanted head) same ∙ due)) known)
      (λ _. on)

  -- ---- a line with the blocks that it closes

  goes_on_with : (number : ℕ) (context : Context) (read : Reading HeadTree) → On number → goes_on read context.block.opener ≡ true → IsKnownOn On context → IsStepOn On (continued_by number context read)
  goes_on_with number context NoForm on goes known = known
  goes_on_with number context TooDeep on goes known = known
  goes_on_with number context (Form head) on goes known = continued_on number context head on goes known

  last_on : (wanted : Wanted) (number : ℕ) (rest : List Line) (read : Reading HeadTree) (context : Context) → wanted_of context.awaited ≡ wanted → On number → IfForm (Says On) read → IsKnownOn On context →
      IsStepOn On (behind_last_block wanted number rest read context)
  last_on wanted number rest read context same on says known =
      step-if (goes_on read context.block.opener) (continued_by number context read) (and_then (closed context) (λ next. by_tokens wanted number rest next read))
      (λ goes. goes_on_with number context read on goes known)
      (λ _. leaves_then context.awaited (closed context) (λ next. by_tokens wanted number rest next read) (closed_on On context known)
      (λ next now stays. tokens_on wanted number rest next read (ap wanted_of stays ∙ same) on says now))

  blocks_on : (wanted : Wanted) (number : ℕ) (rest : List Line) (read : Reading HeadTree) (closes : ℕ) (context : Context) → wanted_of context.awaited ≡ wanted → On number → IfForm (Says On) read → IsKnownOn On context →
      IsStepOn On (behind_blocks wanted number rest read closes context)
  blocks_on wanted number rest read zero context same on says known = tokens_on wanted number rest context read same on says known
  blocks_on wanted number rest read (suc n) context same on says known =
      leaves_then context.awaited (closed_times n context) (behind_last_block wanted number rest read) (times_on On context.awaited n context refl known)
      (λ next now stays. last_on wanted number rest read next (ap wanted_of stays ∙ same) on says now)

  line_on : (context : Context) (line : Line) (rest : List Line) → IsLineOn On line → IsKnownOn On context → IsStepOn On (line_read context line rest)
  line_on context line rest told known =
      step-if (comes_right context.awaited line.opens line.closes) (behind_blocks (wanted_of context.awaited) line.number rest (said context line) line.closes context) (refused (wrong_number (said context line)) line.number)
      (λ _. blocks_on (wanted_of context.awaited) line.number rest (said context line) line.closes context refl told.0 (told.1 (kind_at context.awaited context.block context.outer line.opens line.closes)) known)
      (λ _. told.0)

  lines_on : (lines : List Line) (context : Context) → AllByRecursion (IsLineOn On) lines → IsKnownOn On context → IsStepOn On (lines_read context lines)
  lines_on [] context told known = known
  lines_on (line ∷ lines) context told known =
      step_more (line_read context line lines) (λ next. lines_read next lines) (line_on context line lines told.0 known) (λ next now. lines_on lines next told.1 now)

  -- ---- all lines

  end_on : (last : ℕ) (awaited : Awaited) (context : Context) → On (last + 1) → IsKnownOn On context → IsStepOn On (at_end last awaited context)
  end_on last nothing context on known = leaves_step context.awaited (closed_times (length context.outer) context) (times_on On context.awaited (length context.outer) context refl known)
  end_on last block context on known = on
  end_on last (function_def line) context on known = on
  end_on last (consume_def line from size) context on known = on

  -- a program whose statements stand where they may, or a refusal
  abbrev pub IsReadOn : Result ProgramTree Refusal → Type 0
  IsReadOn (Ok program) = Everywhere (IsOnLine On) program
  IsReadOn (Err refusal) = On refusal.line

  read-if : (test : Bool) (a b : Result ProgramTree Refusal) → IsReadOn a → IsReadOn b → IsReadOn (if test then a else b)
  read-if true a b first second = first
  read-if false a b first second = second

  program_on : (last : ℕ) (step : Step) → On (last + 1) → IsStepOn On step → IsReadOn (program_by last step)
  program_on last (Err refusal) on step = step
  program_on last (Ok context) on known = read-if (nat_eq (length context.functions) 0) (Err (record { number = 4; line = last + 1 })) (Ok (program_in context)) on known.functions

  pub read_on : (last : ℕ) (lines : List Line) → On (last + 1) → AllByRecursion (IsLineOn On) lines → IsReadOn (program_of_lines last lines)
  read_on last lines on told =
      program_on last (and_then (lines_read opening lines) (λ context. at_end last context.awaited context)) on
      (step_more (lines_read opening lines) (λ context. at_end last context.awaited context) (lines_on lines opening told (opening_on On)) (λ context known. end_on last context.awaited context on known))

  -- ---- the lines before the first that is refused

  stays_on : (step : Step) (context : Context) (rest : Context → Context) → IsStepOn On step → IsKnownOn On context → ((next : Context) → IsKnownOn On next → IsKnownOn On (rest next)) → IsKnownOn On (or_stays step context rest)
  stays_on (Ok next) context rest step known go = go next step
  stays_on (Err refusal) context rest step known go = known

  before_on : (lines : List Line) (context : Context) → AllByRecursion (IsLineOn On) lines → IsKnownOn On context → IsKnownOn On (context_before_refusal context lines)
  before_on [] context told known = known
  before_on (line ∷ lines) context told known =
      stays_on (line_read context line lines) context (λ next. context_before_refusal next lines) (line_on context line lines told.0 known) known (λ next now. before_on lines next told.1 now)

  pub prefix_on : (lines : List Line) → AllByRecursion (IsLineOn On) lines → Everywhere (IsOnLine On) (program_before_refusal lines)
  prefix_on lines told =
      let context = context_before_refusal opening lines in
      let known = before_on lines opening told (opening_on On) in
      (all_on On context.outer context known known.about).functions
