-- A condition and its colon: `while`, `if` and `elif`.
use Rattle.std.specs.Prelude.{ℕ, List, [], ◌∷◌, codes, Bool, true}
use Rattle.sd_lex.specs.PlainTree.{Expression, while_loop, branch, no_statement}
use Rattle.sd_phrase.specs.ExpressionReading.{expression}
use Rattle.sd_phrase.specs.Parts.{at_mark}
use Rattle.sd_phrase.specs.Readings.{reading_map, if_some, if_empty}
use Rattle.sd_phrase.specs.declared.reading.Reading.{Reading}
use Rattle.sd_phrase.specs.declared.word.Mark.TheVariants.{Colon}
use Rattle.sd_phrase.specs.declared.word.Piece.{Piece}
use Rattle.sd_line.specs.line.Head.{HeadTree, statement_head, elif_head}

-- `E:` with nothing behind it
abbrev pub condition : List ℕ → (in_body : Bool) → List Piece → Reading Expression
condition text in_body ts = if_some (at_mark Colon ts) (λ cut. if_empty cut.1 (expression text in_body 64 cut.0))

-- `while E:`, behind its word
abbrev pub while_line : List ℕ → (line : ℕ) → List Piece → Reading HeadTree
while_line text line ts = reading_map (λ when. statement_head (while_loop line when no_statement)) (condition text true ts)

-- `if E:`, behind its word
abbrev pub if_line : List ℕ → (line : ℕ) → List Piece → Reading HeadTree
if_line text line ts = reading_map (λ when. statement_head (branch line when no_statement no_statement)) (condition text true ts)

-- `elif E:`, behind its word
abbrev pub elif_line : List ℕ → (in_body : Bool) → List Piece → Reading HeadTree
elif_line text in_body ts = reading_map elif_head (condition text in_body ts)

-- `else:`
abbrev pub else_phrase : List (List ℕ)
else_phrase = codes "else" ∷ codes ":" ∷ []
