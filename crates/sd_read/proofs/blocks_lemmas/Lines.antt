-- What holds between lines holds behind the last one.
use Rattle.std.proofs.Common.{◌≡◌, ◌∙◌, ℕ, zero, suc, ◌+◌, List, [], ◌∷◌, length, Bool, true, not, Option, None, Ok, refl, ap, sym, subst}
use Rattle.std.specs.List.{AllByRecursion}
use Rattle.sd_lex.specs.PlainTree.{StatementTree, Block, no_statement, and_statement, ProgramTree}
use Rattle.sd_line.specs.declared.line.head.BlockKind.{BlockKind}
use Rattle.sd_line.specs.declared.line.head.BlockKind.TheVariants.{Top, Program, Scope, Tasklet}
use Rattle.sd_line.specs.line.Head.{HeadTree, program_head, statement_head}
use Rattle.sd_phrase.specs.declared.reading.Reading.{Reading}
use Rattle.sd_phrase.specs.declared.reading.Reading.TheVariants.{NoForm, TooDeep, Form}
use Rattle.sd_names.specs.Names.{Name}
use Rattle.sd_context.specs.declared.context.awaiting.Wanted.{Wanted}
use Rattle.sd_context.specs.context.After.{context_after}
use Rattle.sd_context.specs.context.Awaiting.{comes_right, wrong_number, wanted_of, is_wanted}
use Rattle.sd_context.specs.context.Context.{Awaited, nothing, block, function_def, consume_def, Context, opening}
use Rattle.sd_context.specs.blocks.Closing.{and_then, closed, closed_times}
use Rattle.sd_context.specs.blocks.Continuing.{is_elif_or_else, goes_on, left, next_judged, with_branch_state, continued_by}
use Rattle.sd_context.specs.blocks.Judging.{refused, against, statement_heads, steps_of, judged_one, judged_all, judged_from}
use Rattle.sd_line.specs.lines.Lines.{Line, opens_tasklet}
use Rattle.sd_source.specs.source.LineReading.{stands_here, judged_here, by_tokens, behind_last_block, behind_blocks, kind_in, kind_at, said, line_read}
use Rattle.sd_source.specs.source.LinesReading.{lines_read, at_end, program_in, program_of_lines}
use Rattle.sd_read.proofs.readable_lemmas.kept.Heads.{IsArgument, AreArguments, Fits}
use Rattle.sd_read.proofs.readable_lemmas.kept.Nesting.{nesting_is_kept}
use Rattle.sd_read.proofs.readable_lemmas.kept.Passing.{false_is_not_true}
use Rattle.sd_read.proofs.readable_lemmas.kept.Steps.{refused_is_none, same_value, by_if, halves, IsWellNested, IsAccepted, AwaitsNoDef, behind_branch, behind_other, IsLine}
use Rattle.sd_read.proofs.blocks_lemmas.Filled.{IsFilled, close_nested, close_filled}
use Rattle.sd_read.proofs.blocks_lemmas.Passed.{opening_filled, argument_filled, pass_filled, other_filled}
use Rattle.sd_read.proofs.blocks_lemmas.Steps.{second_of, least_first, by_closed, awaited_closed, kind_closed, closes_free, right_kind, by_accepted, by_about, by_branch_state, by_program}

-- between lines
abbrev Good : Context → Type 0
Good context = IsWellNested context × IsFilled context

-- ---- blocks that end

one_kept : (context next : Context) → context.awaited ≡ nothing → closed context ≡ Ok next → Good context → Good next
one_kept context next free is good =
    by_closed context next is
    (λ counts same.
    let ended : Context = record context { counts = counts } in
    subst Good same (close_nested context.outer ended refl good.0, close_filled context.outer ended refl good.0 free good.1))

-- so many blocks more
abbrev behind : ℕ → ℕ → ℕ
behind zero m = m
behind (suc n) m = suc (behind n m)

behind_one : (n : ℕ) → behind n 1 ≡ suc n
behind_one zero = refl
behind_one (suc n) = ap suc (behind_one n)

-- behind them nothing is awaited either, and the blocks about them are those that were
abbrev Ended : (n : ℕ) → Context → Context → Type 0
Ended n context next =
    Good next × ((next.awaited ≡ nothing) × ((m : ℕ) → kind_in (context.block ∷ context.outer) (behind n m) ≡ kind_in (next.block ∷ next.outer) m))

times_kept : (n : ℕ) (context next : Context) → context.awaited ≡ nothing → closed_times n context ≡ Ok next → Good context → Ended n context next
times_kept zero context next free is good =
    let same : context ≡ next = same_value (Ok context) next is in
    (subst Good same good, (subst (λ context. context.awaited ≡ nothing) same free, λ m. ap (λ context. kind_in (context.block ∷ context.outer) m) same))
times_kept (suc n) context next free is good =
    halves (closed context) (closed_times n) next is
    (λ middle first later.
    let kept : Ended n middle next = times_kept n middle next (awaited_closed context middle first ∙ free) later (one_kept context middle free first good) in
    (kept.0, (kept.1.0, λ m. kind_closed context middle first good.0 (behind n m) ∙ kept.1.1 m)))

-- ---- heads

none_before : (line : ℕ) (is_tasklet : Bool) (heads : List HeadTree) (so_far : Option ℕ × Context) → (judged_all line is_tasklet so_far heads).0 ≡ None → so_far.0 ≡ None
none_before line is_tasklet [] so_far none = none
none_before line is_tasklet (head ∷ heads) so_far none = least_first so_far.0 (against so_far.1 head) (none_before line is_tasklet heads (judged_one line is_tasklet so_far head) none)

argument_kept : (context : Context) (line : ℕ) (is_tasklet : Bool) (s : StatementTree) → IsArgument s → Good context → Good (context_after context line is_tasklet (statement_head s))
argument_kept context line is_tasklet s (at, name, bits, extents, (few, is)) good =
    subst (λ s. Good (context_after context line is_tasklet (statement_head s))) (sym is) (good.0, argument_filled context line is_tasklet at name bits extents good.1)

arguments_kept : (line : ℕ) (is_tasklet : Bool) (arguments : Block) (so_far : Option ℕ × Context) → AreArguments arguments → Good so_far.1 → Good (judged_all line is_tasklet so_far (statement_heads arguments)).1
arguments_kept line is_tasklet no_statement so_far fit good = good
arguments_kept line is_tasklet (and_statement s arguments) so_far fit good =
    arguments_kept line is_tasklet arguments (judged_one line is_tasklet so_far (statement_head s)) fit.1 (argument_kept so_far.1 line is_tasklet s fit.0 good)

pass_kept : (context : Context) (line : ℕ) (is_tasklet : Bool) (head : HeadTree) → Fits context.block.kind head → is_wanted (wanted_of context.awaited) head ≡ true → IsAccepted context head → Good context →
    Good (context_after context line is_tasklet head)
pass_kept context line is_tasklet head fit due accepted good =
    (nesting_is_kept.pass context line is_tasklet head fit due accepted good.0 good.0, pass_filled context line is_tasklet head fit good.0 good.1)

-- a program's head stands at top level
program_fits : (kind : BlockKind) (name : Name) (arguments : Block) → Fits kind (program_head name arguments) → AreArguments arguments × Fits kind (program_head name no_statement)
program_fits Top name arguments fit = (fit, tt)
program_fits Program name arguments fit = absurd fit
program_fits Scope name arguments fit = absurd fit
program_fits Tasklet name arguments fit = absurd fit

single_kept : (context next : Context) (line : ℕ) (is_tasklet : Bool) (head : HeadTree) → Fits context.block.kind head → is_wanted (wanted_of context.awaited) head ≡ true →
    judged_from None context line is_tasklet (head ∷ []) ≡ Ok next → Good context → Good next
single_kept context next line is_tasklet head fit due is good =
    by_accepted (judged_one line is_tasklet (None, context) head) line next is (λ none same. subst Good same (pass_kept context line is_tasklet head fit due none good))

steps_kept : (context next : Context) (line : ℕ) (is_tasklet : Bool) (head : HeadTree) → Fits context.block.kind head → is_wanted (wanted_of context.awaited) head ≡ true →
    judged_from None context line is_tasklet (steps_of head) ≡ Ok next → Good context → Good next
steps_kept context next line is_tasklet (program_head name arguments) fit due is good =
    let first = judged_one line is_tasklet (None, context) (program_head name no_statement) in
    by_accepted (judged_all line is_tasklet first (statement_heads arguments)) line next is
    (λ none same.
    let both = program_fits context.block.kind name arguments fit in
    subst Good same
    (arguments_kept line is_tasklet arguments first both.0
    (pass_kept context line is_tasklet (program_head name no_statement) both.1 due (none_before line is_tasklet (statement_heads arguments) first none) good)))
steps_kept context next line is_tasklet head fit due is good = single_kept context next line is_tasklet head fit due is good

-- ---- lines

judged_kept : (wanted : Wanted) (number : ℕ) (rest : List Line) (context next : Context) (head : HeadTree) → wanted_of context.awaited ≡ wanted → Fits context.block.kind head →
    judged_here wanted number rest context head ≡ Ok next → Good context → Good next
judged_kept wanted number rest context next head same fit is good =
    by_if (stands_here wanted head) (judged_from None context number (opens_tasklet head rest) (steps_of head)) (refused 4 number) (Ok next) is
    (λ holds judged.
    let due = subst (λ wanted. is_wanted wanted head ≡ true) (sym same) (second_of (not (is_elif_or_else head)) (is_wanted wanted head) holds) in
    steps_kept context next number (opens_tasklet head rest) head fit due judged good)
    (λ fails refused'. refused_is_none (record { number = 4; line = number }) next refused')

tokens_kept : (wanted : Wanted) (number : ℕ) (rest : List Line) (context next : Context) (read : Reading HeadTree) → wanted_of context.awaited ≡ wanted →
    ((head : HeadTree) → read ≡ Form head → Fits context.block.kind head) → by_tokens wanted number rest context read ≡ Ok next → Good context → Good next
tokens_kept wanted number rest context next NoForm same fit is good = refused_is_none (record { number = 4; line = number }) next is
tokens_kept wanted number rest context next TooDeep same fit is good = refused_is_none (record { number = 8; line = number }) next is
tokens_kept wanted number rest context next (Form head) same fit is good = judged_kept wanted number rest context next head same (fit head refl) is good

-- an `elif` or `else`
continued_kept : (number : ℕ) (context next : Context) (read : Reading HeadTree) → context.awaited ≡ nothing → goes_on read context.block.opener ≡ true →
    ((head : HeadTree) → read ≡ Form head → Fits (kind_in context.outer 0) head) → continued_by number context read ≡ Ok next → Good context → Good next
continued_kept number context next NoForm free on fit is good = false_is_not_true on
continued_kept number context next TooDeep free on fit is good = false_is_not_true on
continued_kept number context next (Form head) free on fit is good =
    by_about context head on context.outer refl good.0
    (λ about outer same_outer.
    halves (with_branch_state context.block context) (λ next. next_judged next.block number head (left next.outer next)) next is
    (λ middle first second.
    by_branch_state context middle first
    (λ counts counted same.
    let there = behind_branch context counts about outer in
    let after = behind_other context counts about outer number head in
    let fits = subst (λ outer. Fits (kind_in outer 0) head) same_outer (fit head refl) in
    let stepped : next_judged context.block number head there ≡ Ok next =
    subst (λ outer. next_judged context.block number head (left outer (record context { counts = counts })) ≡ Ok next) same_outer
    (subst (λ c. next_judged c.block number head (left c.outer c) ≡ Ok next) (sym same) second) in
    by_accepted (against there head, after) number next stepped
    (λ none same. subst Good same (
      nesting_is_kept.go_on context counts about outer number head (subst AwaitsNoDef (sym free) tt) same_outer on counted fits none good.0 good.0,
      other_filled context counts about outer number head free same_outer on good.0 good.1,
    )))))

-- the last block that a line closes
ended_kept : (wanted : Wanted) (number : ℕ) (rest : List Line) (read : Reading HeadTree) (context next : Context) → context.awaited ≡ nothing → wanted_of context.awaited ≡ wanted →
    ((head : HeadTree) → read ≡ Form head → Fits (kind_in (context.block ∷ context.outer) 1) head) → behind_last_block wanted number rest read context ≡ Ok next → Good context → Good next
ended_kept wanted number rest read context next free same fit is good =
    by_if (goes_on read context.block.opener) (continued_by number context read) (and_then (closed context) (λ next. by_tokens wanted number rest next read)) (Ok next) is
    (λ on is. continued_kept number context next read free on fit is good)
    (λ off is. halves (closed context) (λ next. by_tokens wanted number rest next read) next is
    (λ middle first second. tokens_kept wanted number rest middle next read (ap wanted_of (awaited_closed context middle first) ∙ same)
    (λ head form. subst (λ kind. Fits kind head) (kind_closed context middle first good.0 0) (fit head form)) second (one_kept context middle free first good)))

blocks_kept : (wanted : Wanted) (number : ℕ) (rest : List Line) (read : Reading HeadTree) (closes : ℕ) (context next : Context) → ((n : ℕ) → closes ≡ suc n → context.awaited ≡ nothing) → wanted_of context.awaited ≡ wanted →
    ((head : HeadTree) → read ≡ Form head → Fits (kind_in (context.block ∷ context.outer) closes) head) → behind_blocks wanted number rest read closes context ≡ Ok next → Good context → Good next
blocks_kept wanted number rest read zero context next free same fit is good = tokens_kept wanted number rest context next read same fit is good
blocks_kept wanted number rest read (suc n) context next free same fit is good =
    halves (closed_times n context) (behind_last_block wanted number rest read) next is
    (λ middle first second.
    let kept : Ended n context middle = times_kept n context middle (free n refl) first good in
    ended_kept wanted number rest read middle next kept.1.0 (ap wanted_of (kept.1.0 ∙ sym (free n refl)) ∙ same)
    (λ head form. subst (λ kind. Fits kind head) (ap (kind_in (context.block ∷ context.outer)) (sym (behind_one n)) ∙ kept.1.1 1) (fit head form)) second kept.0)

closing_free : (awaited : Awaited) (opens : Bool) (closes : ℕ) → comes_right awaited opens closes ≡ true → (n : ℕ) → closes ≡ suc n → awaited ≡ nothing
closing_free awaited opens closes right n is = closes_free awaited opens n (subst (λ closes. comes_right awaited opens closes ≡ true) is right)

line_kept : (context next : Context) (line : Line) (rest : List Line) → IsLine line → line_read context line rest ≡ Ok next → Good context → Good next
line_kept context next line rest fit is good =
    let wrong = wrong_number (said context line) in
    by_if (comes_right context.awaited line.opens line.closes) (behind_blocks (wanted_of context.awaited) line.number rest (said context line) line.closes context) (refused wrong line.number) (Ok next) is
    (λ right is. blocks_kept (wanted_of context.awaited) line.number rest (said context line) line.closes context next (closing_free context.awaited line.opens line.closes right) refl
    (λ head form.
    let kind = kind_at context.awaited context.block context.outer line.opens line.closes in
    subst (λ kind. Fits kind head) (right_kind context.awaited context.block context.outer line.opens line.closes right) (fit.fits kind head form)) is good)
    (λ wrong' is. refused_is_none (record { number = wrong; line = line.number }) next is)

lines_kept : (context next : Context) (lines : List Line) → AllByRecursion IsLine lines → lines_read context lines ≡ Ok next → Good context → Good next
lines_kept context next [] fit is good = subst Good (same_value (Ok context) next is) good
lines_kept context next (line ∷ lines) fit is good =
    halves (line_read context line lines) (λ next. lines_read next lines) next is (λ middle first second. lines_kept middle next lines fit.1 second (line_kept context middle line lines fit.0 first good))

end_kept : (last : ℕ) (awaited : Awaited) (context next : Context) → context.awaited ≡ awaited → at_end last awaited context ≡ Ok next → Good context → Good next
end_kept last nothing context next same is good = (times_kept (length context.outer) context next same is good).0
end_kept last block context next same is good = refused_is_none (record { number = 4; line = last + 1 }) next is
end_kept last (function_def line) context next same is good = refused_is_none (record { number = 4; line = last + 1 }) next is
end_kept last (consume_def line from size) context next same is good = refused_is_none (record { number = 4; line = last + 1 }) next is

-- the program is that of a context where it holds
pub program_filled : (last : ℕ) (lines : List Line) (program : ProgramTree) → AllByRecursion IsLine lines → program_of_lines last lines ≡ Ok program → (context : Context) × (IsFilled context × (program_in context ≡ program))
program_filled last lines program fit is =
    by_program last (and_then (lines_read opening lines) (λ context. at_end last context.awaited context)) program is
    (λ context came same. (
      context,
      (
        halves (lines_read opening lines) (λ context. at_end last context.awaited context) context came
            (λ middle first second. (end_kept last middle.awaited middle context refl second (lines_kept opening middle lines fit first (nesting_is_kept.begin, opening_filled))).1),
        same,
      ),
    ))
