-- What the lines of a source say: a program, or the first line that is refused with its least number.
use Rattle.std.specs.Prelude.{ℕ, ◌+◌, nat_eq, List, [], ◌∷◌, length, Result, Ok, Err, if◌then◌else◌}
use Rattle.sd_lex.specs.PlainTree.{ProgramTree}
use Rattle.sd_context.specs.context.Context.{Awaited, nothing, Context, opening}
use Rattle.sd_context.specs.blocks.Closing.{Step, and_then, closed_times}
use Rattle.sd_context.specs.declared.blocks.refusal.Refusal.{Refusal}
use Rattle.sd_context.specs.blocks.Judging.{refused}
use Rattle.sd_source.specs.source.LineReading.{line_read}
use Rattle.sd_line.specs.lines.Lines.{Line}

-- the lines one after another, up to the first that is refused
abbrev pub lines_read : Context → List Line → Step
lines_read context [] = Ok context
lines_read context (line ∷ lines) = and_then (line_read context line lines) (λ next. lines_read next lines)

-- behind the last line all blocks end; what is awaited there is missing one line behind the last physical one
abbrev pub at_end : (last : ℕ) → Awaited → Context → Step
at_end last nothing context = closed_times (length context.outer) context
at_end last other context = refused 4 (last + 1)

abbrev pub program_in : Context → ProgramTree
program_in context = record { symbols = context.symbols; functions = context.functions }

-- a source without a program is refused there too
abbrev pub program_by : (last : ℕ) → Step → Result ProgramTree Refusal
program_by last (Err refusal) = Err refusal
program_by last (Ok context) = if nat_eq (length context.functions) 0 then Err (record { number = 4; line = last + 1 }) else Ok (program_in context)

-- the program of lines, where the last physical line has this number, or the first refusal
abbrev pub program_of_lines : (last : ℕ) → List Line → Result ProgramTree Refusal
program_of_lines last lines = program_by last (and_then (lines_read opening lines) (λ context. at_end last context.awaited context))
