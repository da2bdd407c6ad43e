-- A lexer between two lines, and what becomes of the lines that are left.
use Rattle.std.specs.Prelude.{◌≡◌, ℕ, List, ◌∷◌, ◌++◌, map, reverse, Option}
use Rattle.sd_lex.specs.Reading.{Reading, after}
use Rattle.sd_lex.specs.Line.{PhysicalLine}
use Rattle.sd_lex.specs.Blocks.{Blocks}
use Rattle.sd_lex.specs.Layout.{mark, blocks_of, layout}
use Rattle.sd_lex.specs.declared.layout.Lexer.{Lexer}

-- the blocks of a line that comes next
abbrev pub next_blocks : Lexer → PhysicalLine → Option Blocks
next_blocks lexer line = blocks_of lexer.brackets (reverse lexer.widths.items) line

-- the tokens of the lines that are left in a text, the last of which has the number `last`
abbrev pub rest_of : (text : List ℕ) → (last : ℕ) → Lexer → List PhysicalLine → Reading
rest_of text last lexer lines = layout text last lexer.brackets (reverse lexer.widths.items) lines

-- the tokens of a text, those that were read included
abbrev pub whole_of : (text : List ℕ) → (last : ℕ) → Lexer → List PhysicalLine → Reading
whole_of text last lexer lines = after lexer.tokens.items (rest_of text last lexer lines)

-- the blocks of a line were opened and closed, with their marks at this place of this line
abbrev pub HasChanged : (at line : ℕ) → (old new : Lexer) → Blocks → Type 0
HasChanged at line old new blocks = (reverse new.widths.items ≡ blocks.widths) × (new.tokens.items ≡ old.tokens.items ++ map (mark at line) blocks.marks)

-- a line was read: whatever lines are left, the tokens of the text stay the same
abbrev pub HasRead : (text : List ℕ) → PhysicalLine → (old new : Lexer) → Type 0
HasRead text line old new = (last : ℕ) (lines : List PhysicalLine) → whole_of text last old (line ∷ lines) ≡ whole_of text last new lines
