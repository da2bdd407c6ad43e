-- The tokens of one physical line.
use Rattle.std.specs.Prelude.{Ok, Err, ℕ, zero, suc, ◌+◌, ◌-◌, List, [], ◌∷◌, take, drop, Bool, not, if◌then◌else◌}
use Rattle.std.specs.List.{list_any}
use Rattle.sd_lex.specs.Bytes.{is_tab, is_blank, is_comment, is_space}
use Rattle.sd_lex.specs.FoundAt.{run, begins, found_at}
use Rattle.sd_lex.specs.Reading.{Reading, after}
use Rattle.sd_lex.specs.declared.error.LexError.TheVariants.{BadByte as Bad_byte, NumberTooWide as Number_too_wide}
use Rattle.sd_lex.specs.declared.found.Found.{Found}
use Rattle.sd_lex.specs.declared.found.Found.TheVariants.{BadByte, NumberTooWide, Token}

-- a physical line: its number, the place of its first byte in the text, and its bytes
pub record PhysicalLine : Type 0 where
  pub number : ℕ
  pub from : ℕ
  pub bytes : List ℕ

abbrev pub physical_line : (number from : ℕ) → List ℕ → PhysicalLine
physical_line number from bytes = record { number = number; from = from; bytes = bytes }

-- what begins at a place, and then the rest; `rest` takes how many of the next bytes still belong to it
abbrev pub begun : (number at : ℕ) → Found → (rest : ℕ → Reading) → Reading
begun number at BadByte rest = Err (Bad_byte number)
begun number at NumberTooWide rest = Err (Number_too_wide number)
begun number at (Token kind bytes) rest = after (record { kind = kind; from = at; to = at + bytes; line = number } ∷ []) (rest (bytes - 1))

-- the tokens of bytes from a place on; the first `passed` bytes belong to a token that began before
abbrev pub tokens_from : (number at : ℕ) → (passed : ℕ) → List ℕ → Reading
tokens_from number at passed [] = Ok []
tokens_from number at (suc passed) (byte ∷ bytes) = tokens_from number (at + 1) passed bytes
tokens_from number at zero (byte ∷ bytes) =
    if is_blank byte then tokens_from number (at + 1) 0 bytes
    else if is_comment byte then Ok []
    else begun number at (found_at (byte ∷ bytes)) (λ passed. tokens_from number (at + 1) passed bytes)

abbrev pub tokens_of_line : PhysicalLine → Reading
tokens_of_line line = tokens_from line.number line.from 0 line.bytes

-- how many blanks, and how many spaces, the bytes of a line begin with
abbrev pub blanks_of : List ℕ → ℕ
blanks_of bytes = run is_blank bytes

abbrev pub spaces_of : List ℕ → ℕ
spaces_of bytes = run is_space bytes

-- something else than a comment stands behind the blanks of a line
abbrev pub has_content : List ℕ → Bool
has_content bytes = begins (λ byte. not (is_comment byte)) (drop (blanks_of bytes) bytes)

-- a tab stands among the blanks that a line begins with
abbrev pub has_tab_in_indentation : List ℕ → Bool
has_tab_in_indentation bytes = list_any is_tab (take (blanks_of bytes) bytes)
