-- What a line says in a body: of a program, a map or a consume scope, or in a block of `for`, `while` or `if`.
use Rattle.std.specs.Prelude.{ℕ, List, [], ◌∷◌, codes, Option, Some, None, true, if◌then◌else◌}
use Rattle.sd_lex.specs.PlainTree.{tasklet, no_statement}
use Rattle.sd_phrase.specs.Parts.{closed, bracketed, whole}
use Rattle.sd_phrase.specs.Phrase.{next, after, is_phrase}
use Rattle.sd_phrase.specs.Readings.{if_some}
use Rattle.sd_phrase.specs.Words.{is_name, is_spelled, spelling}
use Rattle.sd_phrase.specs.declared.reading.Reading.{Reading}
use Rattle.sd_phrase.specs.declared.reading.Reading.TheVariants.{NoForm, Form}
use Rattle.sd_phrase.specs.declared.word.Bracket.TheVariants.{Round, Square}
use Rattle.sd_phrase.specs.declared.word.Piece.{Piece}
use Rattle.sd_line.specs.line.CallLine.{call_line}
use Rattle.sd_line.specs.line.Condition.{while_line, if_line, elif_line, else_phrase}
use Rattle.sd_line.specs.line.Consume.{decorator_line, consume_line}
use Rattle.sd_line.specs.line.Declaration.{declaration_line}
use Rattle.sd_line.specs.line.ElementLine.{element_line}
use Rattle.sd_line.specs.line.Head.{HeadTree, statement_head, else_head}
use Rattle.sd_line.specs.line.Reduction.{reduce_line}
use Rattle.sd_line.specs.line.Repetition.{for_line}
use Rattle.sd_line.specs.declared.line.head.BlockKind.{BlockKind}

-- `with dace.tasklet:`
abbrev pub tasklet_phrase : List (List ℕ)
tasklet_phrase = codes "with" ∷ codes "dace" ∷ codes "." ∷ codes "tasklet" ∷ codes ":" ∷ []

-- the begin of a reduction, up to its bracket
abbrev pub reduce_phrase : List (List ℕ)
reduce_phrase = codes "dace" ∷ codes "." ∷ codes "reduce" ∷ codes "(" ∷ []

-- a line by its first word, and the tokens behind it
abbrev pub word_line : List ℕ → (line : ℕ) → Piece → List Piece → Reading HeadTree
word_line text line t ts =
    if is_spelled text t (codes "for") then for_line text line ts
    else if is_spelled text t (codes "while") then while_line text line ts
    else if is_spelled text t (codes "if") then if_line text line ts
    else if is_spelled text t (codes "elif") then elif_line text true ts
    else if is_spelled text t (codes "def") then consume_line text ts
    else NoForm

-- a line by its first word
abbrev pub first_word_line : List ℕ → (line : ℕ) → List Piece → Reading HeadTree
first_word_line text line [] = NoForm
first_word_line text line (t ∷ ts) = word_line text line t ts

-- a reduction, where its begin is there, and else `with dace.tasklet:`, `else:` or a line by its first word
abbrev pub reduce_or_word : List ℕ → (line : ℕ) → List Piece → Option (List Piece) → Reading HeadTree
reduce_or_word text line ts (Some rest) = if_some (whole (closed Round rest)) (reduce_line text)
reduce_or_word text line ts None =
    if is_phrase text tasklet_phrase ts then Form (statement_head (tasklet line no_statement))
    else if is_phrase text else_phrase ts then Form else_head
    else first_word_line text line ts

-- a line that is no declaration, element or call
abbrev pub body_keyword_line : List ℕ → (line : ℕ) → List Piece → Reading HeadTree
body_keyword_line text line ts = reduce_or_word text line ts (after text reduce_phrase ts)

-- a call, where round brackets end the line behind its first name, and else a line by its first word
abbrev pub call_or_keyword : List ℕ → (line : ℕ) → Piece → List Piece → Option (List Piece) → Reading HeadTree
call_or_keyword text line t ts (Some inside) = call_line text line (spelling text t) inside
call_or_keyword text line t ts None = body_keyword_line text line ts

-- a line of an element, where `[` is behind its first name
abbrev pub element_or_call : List ℕ → BlockKind → (line : ℕ) → Piece → (rest ts : List Piece) → Option (List Piece × List Piece) → Reading HeadTree
element_or_call text kind line t rest ts (Some cut) = element_line text kind line (spelling text t) cut.0 cut.1
element_or_call text kind line t rest ts None = call_or_keyword text line t ts (whole (bracketed Round rest))

-- a declaration, where `=` is behind its first name
abbrev pub declaration_or_element : List ℕ → BlockKind → (line : ℕ) → Piece → (rest ts : List Piece) → Option (List Piece) → Reading HeadTree
declaration_or_element text kind line t rest ts (Some behind) = declaration_line text line (spelling text t) behind
declaration_or_element text kind line t rest ts None = element_or_call text kind line t rest ts (bracketed Square rest)

-- a line that begins with a name: what stands behind it decides, and then the name
abbrev pub body_named_line : List ℕ → BlockKind → (line : ℕ) → Piece → (rest ts : List Piece) → Reading HeadTree
body_named_line text kind line t rest ts = declaration_or_element text kind line t rest ts (next text (codes "=") rest)

-- a line of a body
abbrev pub body_line : List ℕ → BlockKind → (line : ℕ) → List Piece → Reading HeadTree
body_line text kind line [] = NoForm
body_line text kind line (t ∷ ts) = if is_name t.word then body_named_line text kind line t ts (t ∷ ts) else decorator_line text (t ∷ ts)
