-- What a line says outside all blocks.
use Rattle.std.specs.Prelude.{ℕ, ◌-◌, nat_le, List, [], ◌∷◌, length, take, drop, codes, map, Option, Some, None, Bool, true, ◌||◌, if◌then◌else◌}
use Rattle.std.specs.Option.{option_and_then}
use Rattle.sd_lex.specs.PlainTree.{Expression, StatementTree, argument_array}
use Rattle.sd_lex.specs.TreeFold.{expressions_listed, block_listed}
use Rattle.sd_phrase.specs.declared.reading.Reading.{Reading}
use Rattle.sd_phrase.specs.declared.reading.Reading.TheVariants.{NoForm, Form}
use Rattle.sd_phrase.specs.declared.word.Bracket.TheVariants.{Round, Square}
use Rattle.sd_phrase.specs.declared.word.Mark.TheVariants.{Comma}
use Rattle.sd_phrase.specs.declared.word.Piece.{Piece}
use Rattle.sd_phrase.specs.declared.word.Word.{Word}
use Rattle.sd_phrase.specs.declared.word.Word.TheVariants.{Quoted}
use Rattle.sd_line.specs.line.Head.{HeadTree, import_line, symbol_line, program_decorator, program_head}
use Rattle.sd_phrase.specs.Parts.{parts_of, closed, bracketed, whole}
use Rattle.sd_phrase.specs.Phrase.{next, after, is_phrase, name_first, header}
use Rattle.sd_phrase.specs.Readings.{reading_map, if_some, if_true, listed}
use Rattle.sd_phrase.specs.ExpressionReading.{expressions}
use Rattle.sd_phrase.specs.Words.{spelling}

-- `import dace`
abbrev pub import_dace : List (List ℕ)
import_dace = codes "import" ∷ codes "dace" ∷ []

-- `import numpy as np`
abbrev pub import_numpy : List (List ℕ)
import_numpy = codes "import" ∷ codes "numpy" ∷ codes "as" ∷ codes "np" ∷ []

-- `@dace.program`
abbrev pub program_phrase : List (List ℕ)
program_phrase = codes "@" ∷ codes "dace" ∷ codes "." ∷ codes "program" ∷ []

-- what stands between the name of a size symbol and its quoted name
abbrev pub symbol_phrase : List (List ℕ)
symbol_phrase = codes "=" ∷ codes "dace" ∷ codes "." ∷ codes "symbol" ∷ codes "(" ∷ []

-- what stands between the name of an argument and its extents
abbrev pub type_phrase : List (List ℕ)
type_phrase = codes ":" ∷ codes "dace" ∷ codes "." ∷ codes "int64" ∷ []

-- what is in the square brackets of a type: one to four extents
abbrev pub extents_in : List ℕ → List Piece → Reading (List Expression)
extents_in text inside = if_true (nat_le (length (parts_of Comma inside)) 4) (expressions text true 64 inside)

-- the extents of an argument: none, or those in square brackets
abbrev pub extents : List ℕ → List Piece → Reading (List Expression)
extents text [] = Form []
extents text (t ∷ ts) = if_some (whole (bracketed Square (t ∷ ts))) (extents_in text)

-- an argument of a program: `X: dace.int64` or `X: dace.int64[e, e]`
abbrev pub program_argument : List ℕ → (line : ℕ) → List Piece → Reading StatementTree
program_argument text line ts =
    if_some (name_first text ts) (λ found. if_some (after text type_phrase found.1) (λ rest.
    reading_map (λ list. argument_array line found.0 64 (expressions_listed list)) (extents text rest)))

-- `def f(X: t, Y: t):`: what is in the round brackets
abbrev pub program_line : List ℕ → (line : ℕ) → (name : List ℕ) → List Piece → Reading HeadTree
program_line text line name inside = reading_map (λ list. program_head name (block_listed list)) (listed (map (program_argument text line) (parts_of Comma inside)))

-- `def f(X: t, Y: t):`, behind the `def`
abbrev pub def_line : List ℕ → (line : ℕ) → List Piece → Reading HeadTree
def_line text line ts =
    if_some (name_first text ts) (λ found. if_some (option_and_then (λ rest. header text (closed Round rest)) (next text (codes "(") found.1)) (program_line text line found.0))

-- the bytes between the quotes
abbrev pub unquoted : List ℕ → List ℕ
unquoted bytes = take (length (drop 1 bytes) - 1) (drop 1 bytes)

-- a quoted name with a bracket behind it
abbrev pub quoted_by : List ℕ → (name : List ℕ) → Word → (bytes : List ℕ) → Bool → Reading HeadTree
quoted_by text name Quoted bytes true = Form (symbol_line name (unquoted bytes))
quoted_by text name word bytes closes = NoForm

-- what stands behind `N = dace.symbol(`
abbrev pub quoted : List ℕ → (name : List ℕ) → List Piece → Reading HeadTree
quoted text name [] = NoForm
quoted text name (t ∷ ts) = quoted_by text name t.word (spelling text t) (is_phrase text (codes ")" ∷ []) ts)

-- `N = dace.symbol('N')`
abbrev pub symbol : List ℕ → List Piece → Reading HeadTree
symbol text ts = if_some (name_first text ts) (λ found. if_some (after text symbol_phrase found.1) (quoted text found.0))

-- `def = dace.symbol('def')` is a symbol line
abbrev pub symbol_or_def : List ℕ → (line : ℕ) → (rest ts : List Piece) → Option (List Piece) → Reading HeadTree
symbol_or_def text line rest ts None = def_line text line rest
symbol_or_def text line rest ts (Some behind) = symbol text ts

-- a `def`, where the line begins with one, and else a size symbol
abbrev pub def_or_symbol : List ℕ → (line : ℕ) → List Piece → Option (List Piece) → Reading HeadTree
def_or_symbol text line ts None = symbol text ts
def_or_symbol text line ts (Some rest) = symbol_or_def text line rest ts (next text (codes "=") rest)

-- a line outside all blocks
abbrev pub top_line : List ℕ → (line : ℕ) → List Piece → Reading HeadTree
top_line text line ts =
    if is_phrase text program_phrase ts then Form program_decorator
    else if is_phrase text import_dace ts || is_phrase text import_numpy ts then Form import_line
    else def_or_symbol text line ts (next text (codes "def") ts)
