-- The logical lines of a text stand on its lines, and so does what they say.
use Rattle.std.proofs.Common.{ℕ, List, [], ◌∷◌, ◌++◌, map, Bool, true, false, subst}
use Rattle.std.specs.Bool.{⊤}
use Rattle.std.specs.List.{AllByRecursion}
use Rattle.sd_lex.specs.declared.token.Token.{Token}
use Rattle.sd_lex.specs.declared.token.TokenKind.{TokenKind}
use Rattle.sd_lex.specs.declared.token.TokenKind.TheVariants.{Name, Number, Text, Sign, LineEnd, Indent, Dedent}
use Rattle.sd_line.specs.declared.line.head.BlockKind.{BlockKind}
use Rattle.sd_phrase.specs.Words.{piece_of}
use Rattle.sd_read.proofs.readable_lemmas.kept.Trees.{all-more}
use Rattle.sd_read.proofs.readable_lemmas.lines.Forms.{IfForm}
use Rattle.sd_line.specs.lines.Lines.{Line}
use Rattle.sd_line.specs.lines.TokenLines.{TokenLine, no_token, ended_by, with_token, lines_from, number_of, line_of_tokens}
use Rattle.sd_read.proofs.told_lemmas.SaidLines.{Says, head_says}
use Rattle.sd_read.proofs.told_lemmas.TextLines.{IsOn, AreLaid, has_word, MayStand}

-- a line stands where it may, and so do the statements that it says
abbrev pub IsLineOn : (ℕ → Type 0) → Line → Type 0
IsLineOn On line = On line.number × ((kind : BlockKind) → IfForm (Says On) (line.head kind))

module _ (high : ℕ) where
  abbrev AreOn : List Token → Type 0
  AreOn tokens = AllByRecursion (λ token. IsOn high token.line) tokens

  abbrev HasToken : (word : Bool) → List Token → Type 0
  HasToken false tokens = ⊤
  HasToken true [] = ⊥
  HasToken true (token ∷ tokens) = ⊤

  -- the tokens of a line so far
  abbrev IsPart : (word : Bool) → List Token → Type 0
  IsPart word tokens = AreOn tokens × HasToken word tokens

  number_on : (tokens : List Token) → IsPart true tokens → IsOn high (number_of tokens)
  number_on [] part = absurd part.1
  number_on (token ∷ tokens) part = part.0.0

  some_more : (tokens : List Token) (token : Token) → HasToken true (tokens ++ token ∷ [])
  some_more [] token = tt
  some_more (first ∷ rest) token = tt

  part_more : (tokens : List Token) (token : Token) → AreOn tokens → IsOn high token.line → IsPart true (tokens ++ token ∷ [])
  part_more tokens token all on = (all-more (λ token. IsOn high token.line) tokens token all on, some_more tokens token)

  abbrev HaveNumbers : List TokenLine → Type 0
  HaveNumbers lines = AllByRecursion (λ line. IsOn high (number_of line.tokens)) lines

  -- a line that ends, or has one token more, and the lines behind it
  next_on : (word : Bool) (line : TokenLine) (token : Token) (kind : TokenKind) (rest : TokenLine → List TokenLine) → IsPart word line.tokens → IsOn high token.line → MayStand kind word →
      ((line : TokenLine) → IsPart (has_word kind) line.tokens → HaveNumbers (rest line)) → HaveNumbers (ended_by kind line ++ rest (with_token kind line token))
  next_on word line token LineEnd rest part on stands go = (number_on line.tokens (part.0, subst (λ word. HasToken word line.tokens) stands part.1), go no_token (tt, tt))
  next_on word line token Indent rest part on stands go = go (with_token Indent line token) (tt, tt)
  next_on word line token Dedent rest part on stands go = go (with_token Dedent line token) (tt, tt)
  next_on word line token Name rest part on stands go = go (with_token Name line token) (part_more line.tokens token part.0 on)
  next_on word line token (Number value) rest part on stands go = go (with_token (Number value) line token) (part_more line.tokens token part.0 on)
  next_on word line token Text rest part on stands go = go (with_token Text line token) (part_more line.tokens token part.0 on)
  next_on word line token Sign rest part on stands go = go (with_token Sign line token) (part_more line.tokens token part.0 on)

  lines_on : (tokens : List Token) (word : Bool) (line : TokenLine) → IsPart word line.tokens → AreLaid high word tokens → HaveNumbers (lines_from line tokens)
  lines_on [] word line part laid = tt
  lines_on (token ∷ tokens) word line part laid =
      next_on word line token token.kind (λ line. lines_from line tokens) part laid.0 laid.1.0 (λ line part. lines_on tokens (has_word token.kind) line part laid.1.1)

  told_lines : (text : List ℕ) (lines : List TokenLine) → HaveNumbers lines → AllByRecursion (IsLineOn (IsOn high)) (map (line_of_tokens text) lines)
  told_lines text [] numbers = tt
  told_lines text (line ∷ lines) numbers =
      ((numbers.0, λ kind. head_says (IsOn high) (number_of line.tokens) numbers.0 text kind (map (piece_of text) line.tokens)), told_lines text lines numbers.1)

  -- the lines of tokens that stand on the lines of a text
  pub lines_told : (text : List ℕ) (tokens : List Token) → AreLaid high false tokens → AllByRecursion (IsLineOn (IsOn high)) (map (line_of_tokens text) (lines_from no_token tokens))
  lines_told text tokens laid = told_lines text (lines_from no_token tokens) (lines_on tokens false no_token (tt, tt) laid)
