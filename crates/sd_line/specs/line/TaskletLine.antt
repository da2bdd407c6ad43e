-- What a line says in a tasklet, or in a block of `if` in one.
use Rattle.std.specs.Prelude.{ℕ, List, [], ◌∷◌, codes, Option, Some, None, false, if◌then◌else◌}
use Rattle.sd_lex.specs.PlainTree.{Expression, set, set_at, tasklet_branch, no_statement}
use Rattle.sd_lex.specs.TreeFold.{expressions_listed}
use Rattle.sd_phrase.specs.declared.reading.Reading.{Reading}
use Rattle.sd_phrase.specs.declared.reading.Reading.TheVariants.{NoForm, Form}
use Rattle.sd_phrase.specs.declared.word.Bracket.TheVariants.{Square}
use Rattle.sd_phrase.specs.declared.word.Piece.{Piece}
use Rattle.sd_line.specs.line.Condition.{condition, elif_line, else_phrase}
use Rattle.sd_phrase.specs.ExpressionReading.{expression, expressions}
use Rattle.sd_line.specs.line.Head.{HeadTree, statement_head, input_head, output_head, else_head}
use Rattle.sd_phrase.specs.MemletReading.{memlet}
use Rattle.sd_phrase.specs.Parts.{bracketed}
use Rattle.sd_phrase.specs.Phrase.{next, is_phrase}
use Rattle.sd_phrase.specs.Readings.{reading_map, both, if_some}
use Rattle.sd_phrase.specs.Words.{is_name, is_spelled, spelling}

-- `c = E`, behind its sign
abbrev pub set_line : List ℕ → (line : ℕ) → (name : List ℕ) → List Piece → Reading HeadTree
set_line text line name ts = reading_map (λ value. statement_head (set line name value)) (expression text false 64 ts)

-- `c[E] = E` of its parts
abbrev pub set_element : (line : ℕ) → (name : List ℕ) → List Expression → Expression → HeadTree
set_element line name at value = statement_head (set_at line name (expressions_listed at) value)

-- `c[E] = E`: what is in the brackets, and what is behind them
abbrev pub set_at_line : List ℕ → (line : ℕ) → (name : List ℕ) → (inside behind : List Piece) → Reading HeadTree
set_at_line text line name inside behind =
    if_some (next text (codes "=") behind) (λ value. both (set_element line name) (expressions text false 64 inside) (expression text false 64 value))

-- `if E:`, behind its word
abbrev pub when_line : List ℕ → (line : ℕ) → List Piece → Reading HeadTree
when_line text line ts = reading_map (λ when. statement_head (tasklet_branch line when no_statement no_statement)) (condition text false ts)

-- `c << m`, behind its sign
abbrev pub input_line : List ℕ → (name : List ℕ) → List Piece → Reading HeadTree
input_line text name ts = reading_map (input_head name) (memlet text ts)

-- `c >> m`, behind its sign
abbrev pub output_line : List ℕ → (name : List ℕ) → List Piece → Reading HeadTree
output_line text name ts = reading_map (output_head name) (memlet text ts)

-- a line that is no assignment and no connector: `if`, `elif` or `else:`
abbrev pub tasklet_keyword_line : List ℕ → (line : ℕ) → Piece → (rest ts : List Piece) → Reading HeadTree
tasklet_keyword_line text line t rest ts =
    if is_phrase text else_phrase ts then Form else_head
    else if is_spelled text t (codes "if") then when_line text line rest
    else if is_spelled text t (codes "elif") then elif_line text false rest
    else NoForm

-- an assignment to an element, where `[` is behind the first name
abbrev pub element_or_keyword : List ℕ → (line : ℕ) → Piece → (rest ts : List Piece) → Option (List Piece × List Piece) → Reading HeadTree
element_or_keyword text line t rest ts (Some cut) = set_at_line text line (spelling text t) cut.0 cut.1
element_or_keyword text line t rest ts None = tasklet_keyword_line text line t rest ts

-- an output, where `>>` is behind the first name
abbrev pub output_or_element : List ℕ → (line : ℕ) → Piece → (rest ts : List Piece) → Option (List Piece) → Reading HeadTree
output_or_element text line t rest ts (Some behind) = output_line text (spelling text t) behind
output_or_element text line t rest ts None = element_or_keyword text line t rest ts (bracketed Square rest)

-- an input, where `<<` is behind the first name
abbrev pub input_or_output : List ℕ → (line : ℕ) → Piece → (rest ts : List Piece) → Option (List Piece) → Reading HeadTree
input_or_output text line t rest ts (Some behind) = input_line text (spelling text t) behind
input_or_output text line t rest ts None = output_or_element text line t rest ts (next text (codes ">>") rest)

-- an assignment, where `=` is behind the first name
abbrev pub set_or_input : List ℕ → (line : ℕ) → Piece → (rest ts : List Piece) → Option (List Piece) → Reading HeadTree
set_or_input text line t rest ts (Some behind) = set_line text line (spelling text t) behind
set_or_input text line t rest ts None = input_or_output text line t rest ts (next text (codes "<<") rest)

-- a line that begins with a name: what stands behind it decides, and then the name
abbrev pub tasklet_named_line : List ℕ → (line : ℕ) → Piece → (rest ts : List Piece) → Reading HeadTree
tasklet_named_line text line t rest ts = set_or_input text line t rest ts (next text (codes "=") rest)

-- a line of a tasklet
abbrev pub tasklet_line : List ℕ → (line : ℕ) → List Piece → Reading HeadTree
tasklet_line text line [] = NoForm
tasklet_line text line (t ∷ ts) = if is_name t.word then tasklet_named_line text line t ts (t ∷ ts) else NoForm
