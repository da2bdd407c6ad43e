-- The lines of a source before the first that is refused, and their program.
use Rattle.std.specs.Prelude.{ℕ, suc, List, [], ◌∷◌, Ok, Err}
use Rattle.sd_lex.specs.PlainTree.{ProgramTree}
use Rattle.sd_context.specs.context.Context.{Context, opening}
use Rattle.sd_context.specs.blocks.Closing.{Step, closed_all}
use Rattle.sd_source.specs.source.LineReading.{line_read}
use Rattle.sd_line.specs.lines.Lines.{Line}
use Rattle.sd_source.specs.source.LinesReading.{program_in}

abbrev pub or_stays : Step → Context → (Context → Context) → Context
or_stays (Ok next) context rest = rest next
or_stays (Err refusal) context rest = context

-- the context behind the last line before the first that is refused
abbrev pub context_before_refusal : Context → List Line → Context
context_before_refusal context [] = context
context_before_refusal context (line ∷ lines) = or_stays (line_read context line lines) context (λ next. context_before_refusal next lines)

abbrev pub ended : Context → Context
ended context = closed_all context.outer context

-- the program of these lines, whose open blocks end there
abbrev pub program_before_refusal : List Line → ProgramTree
program_before_refusal lines = program_in (ended (context_before_refusal opening lines))

abbrev pub count_behind : Step → (Context → ℕ) → ℕ
count_behind (Ok next) rest = suc (rest next)
count_behind (Err refusal) rest = 0

-- how many lines stand before the first that is refused
abbrev pub count_before_refusal : Context → List Line → ℕ
count_before_refusal context [] = 0
count_before_refusal context (line ∷ lines) = count_behind (line_read context line lines) (λ next. count_before_refusal next lines)

abbrev pub count_of_lines : List Line → ℕ
count_of_lines lines = count_before_refusal opening lines
