-- The lines of a source one after another: what was read has plain elements, where each line says so.
use Rattle.std.proofs.Common.{ℕ, zero, suc, ◌+◌, nat_eq, List, [], ◌∷◌, length, Bool, true, false, if◌then◌else◌, Option, None, Result, Ok, Err}
use Rattle.std.specs.List.{AllByRecursion}
use Rattle.std.specs.Prelude.{IfOk}
use Rattle.sd_lex.specs.PlainTree.{Block, no_statement, and_statement, ProgramTree}
use Rattle.sd_line.specs.declared.line.head.BlockKind.{BlockKind}
use Rattle.sd_line.specs.line.Head.{HeadTree, import_line, symbol_line, program_decorator, program_head, statement_head, reduce_head, input_head, output_head, consume_decorator, consume_head, elif_head, else_head}
use Rattle.sd_phrase.specs.declared.reading.Reading.{Reading}
use Rattle.sd_phrase.specs.declared.reading.Reading.TheVariants.{NoForm, TooDeep, Form}
use Rattle.sd_context.specs.context.Awaiting.{comes_right, wrong_number, wanted_of}
use Rattle.sd_context.specs.context.Context.{Awaited, nothing, block, function_def, consume_def, Context, opening}
use Rattle.sd_context.specs.declared.context.awaiting.Wanted.{Wanted}
use Rattle.sd_context.specs.declared.blocks.refusal.Refusal.{Refusal}
use Rattle.sd_context.specs.blocks.Closing.{Step, and_then, closed, closed_times}
use Rattle.sd_context.specs.blocks.Continuing.{goes_on, continued_by}
use Rattle.sd_context.specs.blocks.Judging.{refused, statement_heads, steps_of, judged_one, judged_all, judged}
use Rattle.sd_source.specs.source.LineReading.{stands_here, by_tokens, behind_last_block, behind_blocks, said, kind_at, line_read}
use Rattle.sd_line.specs.lines.Lines.{Line, opens_tasklet}
use Rattle.sd_source.specs.source.LinesReading.{lines_read, at_end, program_in, program_by, program_of_lines}
use Rattle.sd_program.specs.Every.{Everywhere}
use Rattle.sd_tie.specs.programs.Joined.{HasPlainElement}
use Rattle.sd_read.proofs.readable_lemmas.lines.Forms.{IfForm}
use Rattle.sd_tie.proofs.plain_elements_lemmas.Heads.{AreNoScopes, IsPlainHead}
use Rattle.sd_tie.proofs.plain_elements_lemmas.Contexts.{IsPlain, pass_plain, then_plain, if_plain, closed_plain, times_plain, accepted_plain, continued_plain}

-- a line that names plain elements, in each kind of block
abbrev pub IsPlainLine : Line → Type 0
IsPlainLine line = (kind : BlockKind) → IfForm IsPlainHead (line.head kind)

-- ---- a line in the block where it stands

heads_plain : (arguments : Block) → AreNoScopes arguments → AllByRecursion IsPlainHead (statement_heads arguments)
heads_plain no_statement are = tt
heads_plain (and_statement first rest) are = (are.0, heads_plain rest are.1)

steps_plain : (head : HeadTree) → IsPlainHead head → AllByRecursion IsPlainHead (steps_of head)
steps_plain import_line says = (says, tt)
steps_plain (symbol_line name quoted) says = (says, tt)
steps_plain program_decorator says = (says, tt)
steps_plain (program_head name arguments) says = (tt, heads_plain arguments says)
steps_plain (statement_head s) says = (says, tt)
steps_plain (reduce_head lambda from to axis identity) says = (says, tt)
steps_plain (input_head connector memlet) says = (says, tt)
steps_plain (output_head connector memlet) says = (says, tt)
steps_plain (consume_decorator from size) says = (says, tt)
steps_plain (consume_head name element worker) says = (says, tt)
steps_plain (elif_head when) says = (says, tt)
steps_plain else_head says = (says, tt)

all_plain : (line : ℕ) (is_task : Bool) (so_far : Option ℕ × Context) (heads : List HeadTree) → AllByRecursion IsPlainHead heads → IsPlain so_far.1 → IsPlain (judged_all line is_task so_far heads).1
all_plain line is_task so_far [] all plain = plain
all_plain line is_task so_far (head ∷ heads) all plain = all_plain line is_task (judged_one line is_task so_far head) heads all.1 (pass_plain so_far.1 line is_task head all.0 plain)

judged_plain : (context : Context) (line : ℕ) (is_task : Bool) (head : HeadTree) → IsPlainHead head → IsPlain context → IfOk (judged context line is_task head) IsPlain
judged_plain context line is_task head says plain =
    let all = judged_all line is_task (None, context) (steps_of head) in
    accepted_plain all.0 line all.1 (all_plain line is_task (None, context) (steps_of head) (steps_plain head says) plain)

tokens_plain : (wanted : Wanted) (number : ℕ) (rest : List Line) (context : Context) (read : Reading HeadTree) → IfForm IsPlainHead read → IsPlain context → IfOk (by_tokens wanted number rest context read) IsPlain
tokens_plain wanted number rest context NoForm says plain = tt
tokens_plain wanted number rest context TooDeep says plain = tt
tokens_plain wanted number rest context (Form head) says plain =
    if_plain (stands_here wanted head) (judged context number (opens_tasklet head rest) head) (refused 4 number) (judged_plain context number (opens_tasklet head rest) head says plain) tt

-- ---- behind the blocks that it closes

by_continuing : (number : ℕ) (context : Context) (read : Reading HeadTree) → IsPlain context → IfOk (continued_by number context read) IsPlain
by_continuing number context NoForm plain = plain
by_continuing number context TooDeep plain = plain
by_continuing number context (Form head) plain = continued_plain number context head plain

last_plain : (wanted : Wanted) (number : ℕ) (rest : List Line) (read : Reading HeadTree) (context : Context) → IfForm IsPlainHead read → IsPlain context → IfOk (behind_last_block wanted number rest read context) IsPlain
last_plain wanted number rest read context says plain =
    if_plain (goes_on read context.block.opener) (continued_by number context read) (and_then (closed context) (λ next. by_tokens wanted number rest next read)) (by_continuing number context read plain)
    (then_plain (closed context) (λ next. by_tokens wanted number rest next read) (closed_plain context plain) (λ next plain. tokens_plain wanted number rest next read says plain))

blocks_plain : (wanted : Wanted) (number : ℕ) (rest : List Line) (read : Reading HeadTree) (closes : ℕ) (context : Context) → IfForm IsPlainHead read → IsPlain context →
    IfOk (behind_blocks wanted number rest read closes context) IsPlain
blocks_plain wanted number rest read zero context says plain = tokens_plain wanted number rest context read says plain
blocks_plain wanted number rest read (suc n) context says plain =
    then_plain (closed_times n context) (behind_last_block wanted number rest read) (times_plain n context plain) (λ next plain. last_plain wanted number rest read next says plain)

line_plain : (context : Context) (line : Line) (rest : List Line) → IsPlainLine line → IsPlain context → IfOk (line_read context line rest) IsPlain
line_plain context line rest says plain =
    if_plain (comes_right context.awaited line.opens line.closes) (behind_blocks (wanted_of context.awaited) line.number rest (said context line) line.closes context) (refused (wrong_number (said context line)) line.number)
    (blocks_plain (wanted_of context.awaited) line.number rest (said context line) line.closes context (says (kind_at context.awaited context.block context.outer line.opens line.closes)) plain) tt

-- ---- all lines

lines_plain : (context : Context) (lines : List Line) → AllByRecursion IsPlainLine lines → IsPlain context → IfOk (lines_read context lines) IsPlain
lines_plain context [] all plain = plain
lines_plain context (line ∷ lines) all plain =
    then_plain (line_read context line lines) (λ next. lines_read next lines) (line_plain context line lines all.0 plain) (λ next plain. lines_plain next lines all.1 plain)

end_plain : (last : ℕ) (awaited : Awaited) (context : Context) → IsPlain context → IfOk (at_end last awaited context) IsPlain
end_plain last nothing context plain = times_plain (length context.outer) context plain
end_plain last block context plain = tt
end_plain last (function_def line) context plain = tt
end_plain last (consume_def line from size) context plain = tt

program_plain : (last : ℕ) (step : Step) → IfOk step IsPlain → IfOk (program_by last step) (Everywhere HasPlainElement)
program_plain last (Err refusal) plain = tt
program_plain last (Ok context) plain = by_test (nat_eq (length context.functions) 0) where
  none : Result ProgramTree Refusal
  none = Err (record { number = 4; line = last + 1 })

  by_test : (test : Bool) → IfOk (if test then none else Ok (program_in context)) (Everywhere HasPlainElement)
  by_test true = tt
  by_test false = plain.functions

opening_plain : IsPlain opening
opening_plain = record { block = (tt, tt); outer = tt; arguments = tt; functions = tt }

pub lines_say_plain : (last : ℕ) (lines : List Line) → AllByRecursion IsPlainLine lines → IfOk (program_of_lines last lines) (Everywhere HasPlainElement)
lines_say_plain last lines all =
    program_plain last (and_then (lines_read opening lines) (λ context. at_end last context.awaited context))
    (then_plain (lines_read opening lines) (λ context. at_end last context.awaited context) (lines_plain opening lines all opening_plain) (λ context plain. end_plain last context.awaited context plain))
