-- `@dace.consume(S, n)`, and the `def g(x, p):` below it.
use Rattle.std.specs.Option.{option_and_then}
use Rattle.std.specs.Prelude.{ℕ, List, [], ◌∷◌, codes, Option, Some, None}
use Rattle.sd_phrase.specs.Parts.{parts_of, closed, whole, Few, one_part, two_parts, few}
use Rattle.sd_phrase.specs.Phrase.{next, after, name_first, lone_name, lone_number, header}
use Rattle.sd_phrase.specs.Readings.{if_some}
use Rattle.sd_phrase.specs.declared.reading.Reading.{Reading}
use Rattle.sd_phrase.specs.declared.reading.Reading.TheVariants.{NoForm, Form}
use Rattle.sd_phrase.specs.declared.word.Bracket.TheVariants.{Round}
use Rattle.sd_phrase.specs.declared.word.Mark.TheVariants.{Comma}
use Rattle.sd_phrase.specs.declared.word.Piece.{Piece}
use Rattle.sd_line.specs.line.Head.{HeadTree, consume_decorator, consume_head}

-- the begin of `@dace.consume(S, n)`, up to its bracket
abbrev pub decorator_phrase : List (List ℕ)
decorator_phrase = codes "@" ∷ codes "dace" ∷ codes "." ∷ codes "consume" ∷ codes "(" ∷ []

-- `@dace.consume(S, n)`: the parts in the round brackets
abbrev pub decorator_by : List ℕ → Few → Reading HeadTree
decorator_by text (two_parts stream size) = if_some (lone_name text stream) (λ name. if_some (lone_number size) (λ n. Form (consume_decorator name n)))
decorator_by text others = NoForm

-- `@dace.consume(S, n)`
abbrev pub decorator_line : List ℕ → List Piece → Reading HeadTree
decorator_line text ts = if_some (option_and_then (λ rest. whole (closed Round rest)) (after text decorator_phrase ts)) (λ inside. decorator_by text (few (parts_of Comma inside)))

-- the `def` of a consume scope of its parts
abbrev pub consumed : (name element : List ℕ) → (worker : Option (List ℕ)) → Reading HeadTree
consumed name element worker = Form (consume_head name element worker)

-- `def g(x):` and `def g(x, p):`: the parts in the round brackets
abbrev pub consume_by : List ℕ → (name : List ℕ) → Few → Reading HeadTree
consume_by text name (one_part element) = if_some (lone_name text element) (λ x. consumed name x None)
consume_by text name (two_parts element worker) = if_some (lone_name text element) (λ x. if_some (lone_name text worker) (λ p. consumed name x (Some p)))
consume_by text name others = NoForm

-- `def g(x):` and `def g(x, p):`, behind the `def`
abbrev pub consume_line : List ℕ → List Piece → Reading HeadTree
consume_line text ts =
    if_some (name_first text ts) (λ found. if_some (option_and_then (λ rest. header text (closed Round rest)) (next text (codes "(") found.1)) (λ inside.
    consume_by text found.0 (few (parts_of Comma inside))))
