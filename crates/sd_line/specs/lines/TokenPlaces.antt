-- Logical lines by the places of their tokens in a list.
use Rattle.std.specs.Prelude.{ℕ, ◌+◌, List, Bool, true, false, slice_range}
use Rattle.sd_lex.specs.declared.token.Token.{Token}
use Rattle.sd_lex.specs.declared.token.TokenKind.{TokenKind}
use Rattle.sd_lex.specs.declared.token.TokenKind.TheVariants.{LineEnd, Indent, Dedent}
use Rattle.sd_line.specs.declared.lines.token_lines.Begun.{Begun}
use Rattle.sd_line.specs.lines.TokenLines.{TokenLine}

abbrev pub begun_at : (from : ℕ) → Begun
begun_at from = record { opens = false; closes = 0; from = from }

-- a line behind one token more, the one at a place
abbrev pub behind : TokenKind → Begun → (at : ℕ) → Begun
behind LineEnd line at = begun_at (at + 1)
behind Indent line at = record { opens = true; closes = line.closes; from = at + 1 }
behind Dedent line at = record { opens = line.opens; closes = line.closes + 1; from = at + 1 }
behind kind line at = line

abbrev pub is_line_end : TokenKind → Bool
is_line_end LineEnd = true
is_line_end kind = false

-- the line with its tokens up to a place
abbrev pub token_line : List Token → Begun → (to : ℕ) → TokenLine
token_line tokens line to = record { opens = line.opens; closes = line.closes; tokens = slice_range tokens line.from to }
