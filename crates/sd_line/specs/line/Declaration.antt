-- What stands behind `X =` in a body: `dace.define_local(..)` or `dace.define_stream(..)`.
use Rattle.std.specs.Option.{option_and_then}
use Rattle.std.specs.Prelude.{ℕ, ℤ, List, [], ◌∷◌, codes, Option, Some, None, Bool, true, ◌||◌, if◌then◌else◌}
use Rattle.sd_lex.specs.PlainTree.{local_array, local_stream}
use Rattle.sd_lex.specs.TreeFold.{expressions_listed}
use Rattle.sd_phrase.specs.Parts.{parts_of, closed, bracketed, whole, Few, one_part, two_parts, few}
use Rattle.sd_phrase.specs.Phrase.{next, after, is_phrase, lone_number}
use Rattle.sd_phrase.specs.Readings.{reading_map, if_some, if_true}
use Rattle.sd_phrase.specs.ExpressionReading.{expressions}
use Rattle.sd_phrase.specs.declared.reading.Reading.{Reading}
use Rattle.sd_phrase.specs.declared.reading.Reading.TheVariants.{NoForm, Form}
use Rattle.sd_phrase.specs.declared.word.Bracket.TheVariants.{Round, Square}
use Rattle.sd_phrase.specs.declared.word.Mark.TheVariants.{Comma}
use Rattle.sd_phrase.specs.declared.word.Piece.{Piece}
use Rattle.sd_line.specs.line.Head.{HeadTree, statement_head}

-- `dace.int64` or `dtype=dace.int64`
abbrev pub is_type : List ℕ → List Piece → Bool
is_type text ts = is_phrase text (codes "dace" ∷ codes "." ∷ codes "int64" ∷ []) ts
    || is_phrase text (codes "dtype" ∷ codes "=" ∷ codes "dace" ∷ codes "." ∷ codes "int64" ∷ []) ts

-- a comma and a type: the tokens of the type
abbrev pub typed : List ℕ → List Piece → Option (List Piece)
typed text ts = option_and_then (λ rest. if is_type text rest then Some rest else None) (next text (codes ",") ts)

-- `X = dace.define_local([e, e], dace.int64)`: what is in the round brackets
abbrev pub local_line : List ℕ → (line : ℕ) → (name : List ℕ) → List Piece → Reading HeadTree
local_line text line name inside =
    if_some (bracketed Square inside) (λ cut. if_some (typed text cut.1) (λ rest.
    reading_map (λ extents. statement_head (local_array line name (expressions_listed extents) 64)) (expressions text true 64 cut.0)))

-- a stream of 64 bits, with its size where one is written
abbrev pub streamed : (line : ℕ) → (name : List ℕ) → (size : Option ℤ) → Reading HeadTree
streamed line name size = Form (statement_head (local_stream line name 64 size))

-- `S = dace.define_stream(dace.int64, n)`: what is in the round brackets
abbrev pub stream_line : List ℕ → (line : ℕ) → (name : List ℕ) → Few → Reading HeadTree
stream_line text line name (one_part type) = if_true (is_type text type) (streamed line name None)
stream_line text line name (two_parts type size) = if_true (is_type text type) (if_some (lone_number size) (λ n. streamed line name (Some n)))
stream_line text line name others = NoForm

-- the begin of a declaration of an array, up to its bracket
abbrev pub define_local : List (List ℕ)
define_local = codes "dace" ∷ codes "." ∷ codes "define_local" ∷ codes "(" ∷ []

-- the begin of a declaration of a stream, up to its bracket
abbrev pub define_stream : List (List ℕ)
define_stream = codes "dace" ∷ codes "." ∷ codes "define_stream" ∷ codes "(" ∷ []

-- a stream, where its begin is there, and else nothing that can be declared
abbrev pub stream_or_none : List ℕ → (line : ℕ) → (name : List ℕ) → Option (List Piece) → Reading HeadTree
stream_or_none text line name None = NoForm
stream_or_none text line name (Some rest) = if_some (whole (closed Round rest)) (λ inside. stream_line text line name (few (parts_of Comma inside)))

-- an array, where its begin is there, and else a stream
abbrev pub local_or_stream : List ℕ → (line : ℕ) → (name : List ℕ) → List Piece → Option (List Piece) → Reading HeadTree
local_or_stream text line name ts (Some rest) = if_some (whole (closed Round rest)) (local_line text line name)
local_or_stream text line name ts None = stream_or_none text line name (after text define_stream ts)

-- behind `X =`
abbrev pub declaration_line : List ℕ → (line : ℕ) → (name : List ℕ) → List Piece → Reading HeadTree
declaration_line text line name ts = local_or_stream text line name ts (after text define_local ts)
