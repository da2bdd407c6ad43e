-- The logical lines of the tokens of a text.
use Rattle.std.specs.Prelude.{ℕ, ◌+◌, List, [], ◌∷◌, ◌++◌, map, Bool, true, false, ◌&&◌, ◌||◌, codes, bytes_eq}
use Rattle.sd_lex.specs.declared.token.Token.{Token}
use Rattle.sd_lex.specs.declared.token.TokenKind.{TokenKind}
use Rattle.sd_lex.specs.declared.token.TokenKind.TheVariants.{Name, LineEnd, Indent, Dedent}
use Rattle.sd_lex.specs.TokenText.{text_of}
use Rattle.sd_line.specs.line.HeadReading.{head_of}
use Rattle.sd_phrase.specs.declared.word.Piece.{Piece}
use Rattle.sd_phrase.specs.Words.{piece_of}
use Rattle.sd_line.specs.lines.Lines.{Line}

-- the tokens of a logical line, and the marks of blocks that stand before them
pub record TokenLine : Type 0 where
  pub opens : Bool
  pub closes : ℕ
  pub tokens : List Token

abbrev pub no_token : TokenLine
no_token = record { opens = false; closes = 0; tokens = [] }

-- a line ends with its mark
abbrev pub ended_by : TokenKind → TokenLine → List TokenLine
ended_by LineEnd line = line ∷ []
ended_by kind line = []

-- the line with one token more; the marks of blocks stand before its first token
abbrev pub with_token : TokenKind → TokenLine → Token → TokenLine
with_token LineEnd line token = no_token
with_token Indent line token = record { opens = true; closes = line.closes; tokens = [] }
with_token Dedent line token = record { opens = line.opens; closes = line.closes + 1; tokens = [] }
with_token kind line token = record line { tokens = line.tokens ++ token ∷ [] }

-- the lines of tokens, where this is the first of them so far
abbrev pub lines_from : TokenLine → List Token → List TokenLine
lines_from line [] = []
lines_from line (token ∷ tokens) = ended_by token.kind line ++ lines_from (with_token token.kind line token) tokens

-- the number of a line is that of the physical line of its first token
abbrev pub number_of : List Token → ℕ
number_of [] = 0
number_of (token ∷ tokens) = token.line

abbrev pub is_name_kind : TokenKind → Bool
is_name_kind Name = true
is_name_kind kind = false

abbrev pub is_arrow : List ℕ → Bool
is_arrow word = bytes_eq word (codes "<<") || bytes_eq word (codes ">>")

-- a connector line begins with a name and `<<` or `>>`
abbrev pub begins_connector : (text : List ℕ) → List Token → Bool
begins_connector text (first ∷ second ∷ tokens) = is_name_kind first.kind && is_arrow (text_of text second)
begins_connector text tokens = false

-- a line with what its words say
abbrev pub line_with : (text : List ℕ) → (number : ℕ) → (opens : Bool) → (closes : ℕ) → (connects : Bool) → List Piece → Line
line_with text number opens closes connects words = record {
  number = number;
  opens = opens;
  closes = closes;
  connects = connects;
  head = λ kind. head_of text kind number words;
}

abbrev pub line_of_tokens : (text : List ℕ) → TokenLine → Line
line_of_tokens text line =
    line_with text (number_of line.tokens) line.opens line.closes (begins_connector text line.tokens) (map (piece_of text) line.tokens)

-- the logical lines of the tokens of a text
abbrev pub lines_of_tokens : (text : List ℕ) → List Token → List Line
lines_of_tokens text tokens = map (line_of_tokens text) (lines_from no_token tokens)
