-- What a source says: a program, or the number and the line of its error.
use Rattle.std.specs.Prelude.{ℕ, List, Result, Ok, Err}
use Rattle.sd_lex.specs.declared.error.LexError.{LexError}
use Rattle.sd_lex.specs.declared.error.LexError.TheVariants.{BadByte, BadIndent, NumberTooWide, Memory}
use Rattle.sd_lex.specs.declared.token.Token.{Token}
use Rattle.sd_lex.specs.Layout.{lexed}
use Rattle.sd_lex.specs.PlainTree.{ProgramTree}
use Rattle.sd_lex.specs.Position.{line_count}
use Rattle.sd_context.specs.declared.blocks.refusal.Refusal.{Refusal}
use Rattle.sd_source.specs.source.LinesReading.{program_of_lines}
use Rattle.sd_line.specs.lines.Lines.{Line}
use Rattle.sd_source.specs.source.NodeRefusal.{within_nodes}
use Rattle.sd_line.specs.lines.TokenLines.{lines_of_tokens}

-- a text without tokens is refused; the definition of tokens wants no memory
abbrev pub refusal_of_text : LexError → Refusal
refusal_of_text (BadByte line) = record { number = 1; line = line }
refusal_of_text (BadIndent line) = record { number = 2; line = line }
refusal_of_text (NumberTooWide line) = record { number = 3; line = line }
refusal_of_text Memory = record { number = 0; line = 0 }

-- the program of lines within the limits on nodes, where the last physical line has this number
abbrev pub reads_lines : (last : ℕ) → List Line → Result ProgramTree Refusal
reads_lines last lines = within_nodes lines (program_of_lines last lines)

abbrev pub reads_tokens : List ℕ → Result (List Token) LexError → Result ProgramTree Refusal
reads_tokens text (Err error) = Err (refusal_of_text error)
reads_tokens text (Ok tokens) = reads_lines (line_count text) (lines_of_tokens text tokens)

-- the program that a text is, or its error: the first that keeps it from being cut into tokens, else the first line that is refused, with the least number against it
abbrev pub reads : List ℕ → Result ProgramTree Refusal
reads text = reads_tokens text (lexed text)
