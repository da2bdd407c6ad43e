-- The number and the line of an error in a text.
use Rattle.std.specs.Prelude.{ℕ, Option, Some, None}
use Rattle.sd_lex.specs.declared.error.LexError.{LexError}
use Rattle.sd_lex.specs.declared.error.LexError.TheVariants.{BadByte, BadIndent, NumberTooWide, Memory}

-- its number; want of memory is no error of the text
abbrev pub number_of : LexError → Option ℕ
number_of (BadByte line) = Some 1
number_of (BadIndent line) = Some 2
number_of (NumberTooWide line) = Some 3
number_of Memory = None

-- its physical line
abbrev pub line_of : LexError → Option ℕ
line_of (BadByte line) = Some line
line_of (BadIndent line) = Some line
line_of (NumberTooWide line) = Some line
line_of Memory = None
