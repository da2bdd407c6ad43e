-- Places of a text, its lines, and the order of tokens.
use Rattle.std.specs.Prelude.{ℕ, ◌+◌, ◌≤◌, List, [], ◌∷◌, length, take}
use Rattle.std.specs.List.{count_by}
use Rattle.sd_lex.specs.Bytes.{is_newline}
use Rattle.sd_lex.specs.declared.token.Token.{Token}

-- the number of the physical line on which a place stands, counted from 1
abbrev pub line_at : List ℕ → ℕ → ℕ
line_at text at = count_by is_newline (take at text) + 1

-- how many physical lines a text has: the number of the line of its last byte; without a byte it has none
abbrev pub line_count : List ℕ → ℕ
line_count [] = 0
line_count (byte ∷ bytes) = line_at (byte ∷ bytes) (length bytes)

-- the tokens stand one after another from a place up to another, and none ends before it begins
abbrev pub IsInOrder : ℕ → List Token → ℕ → Type 0
IsInOrder low [] high = low ≤ high
IsInOrder low (token ∷ tokens) high = (low ≤ token.from) × (token.from ≤ token.to) × IsInOrder token.to tokens high
