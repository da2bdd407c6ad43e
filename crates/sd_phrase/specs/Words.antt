-- What each token is to the reading of a line, by its kind and its bytes.
use Rattle.std.specs.Prelude.{ℕ, List, [], ◌∷◌, Bool, true, false, if◌then◌else◌, slice_range, codes}
use Rattle.std.specs.Str.{bytes_eq}
use Rattle.sd_lex.specs.declared.syntax.operator.OneSign.{OneSign}
use Rattle.sd_lex.specs.declared.syntax.operator.OneSign.TheVariants.{Not, Neg, Inv}
use Rattle.sd_lex.specs.declared.syntax.operator.TwoSign.{TwoSign}
use Rattle.sd_lex.specs.declared.syntax.operator.TwoSign.TheVariants.{Or, And, Less, LessEqual, Greater, GreaterEqual, Equal, Differ, BitOr, BitXor, BitAnd, Add, Mul, FloorDiv, Mod, Min, Max}
use Rattle.sd_lex.specs.declared.token.Token.{Token}
use Rattle.sd_lex.specs.declared.token.TokenKind.{TokenKind}
use Rattle.sd_lex.specs.declared.token.TokenKind.TheVariants.{Name as Name_kind, Number as Number_kind, Text as Text_kind, Sign as Sign_kind, LineEnd, Indent, Dedent}
use Rattle.sd_phrase.specs.declared.word.Bracket.TheVariants.{Round, Square}
use Rattle.sd_phrase.specs.declared.word.Mark.TheVariants.{Comma, Colon, Assign, AddAssign}
use Rattle.sd_phrase.specs.declared.word.Piece.{Piece}
use Rattle.sd_phrase.specs.declared.word.Word.{Word}
use Rattle.sd_phrase.specs.declared.word.Word.TheVariants.{Number, Name, Callee, Between, Before, Minus, If, Else, Stop, Open, Close, Quoted, Other}

-- what the table says of a spelling, or the word for all others
abbrev pub told : List (List ℕ × Word) → Word → List ℕ → Word
told [] others spelling = others
told (row ∷ rows) others spelling = if bytes_eq spelling row.0 then row.1 else told rows others spelling

-- the names that expressions have a use for
abbrev pub names : List (List ℕ × Word)
names = (codes "min", Callee Min) ∷ (codes "max", Callee Max) ∷ (codes "or", Between Or) ∷ (codes "and", Between And)
    ∷ (codes "not", Before Not) ∷ (codes "if", If) ∷ (codes "else", Else) ∷ []

-- the marks that lists have a use for, and the brackets
abbrev pub marks : List (List ℕ × Word)
marks = (codes ",", Stop Comma) ∷ (codes ":", Stop Colon) ∷ (codes "=", Stop Assign) ∷ (codes "+=", Stop AddAssign)
    ∷ (codes "(", Open Round) ∷ (codes ")", Close Round) ∷ (codes "[", Open Square) ∷ (codes "]", Close Square) ∷ []

-- the signs that expressions and lists have a use for
abbrev pub signs : List (List ℕ × Word)
signs = (codes "<", Between Less) ∷ (codes "<=", Between LessEqual) ∷ (codes ">", Between Greater) ∷ (codes ">=", Between GreaterEqual)
    ∷ (codes "==", Between Equal) ∷ (codes "!=", Between Differ) ∷ (codes "|", Between BitOr) ∷ (codes "^", Between BitXor)
    ∷ (codes "&", Between BitAnd) ∷ (codes "+", Between Add) ∷ (codes "-", Minus) ∷ (codes "*", Between Mul)
    ∷ (codes "//", Between FloorDiv) ∷ (codes "%", Between Mod) ∷ (codes "~", Before Inv) ∷ marks

-- what a token of this kind and with these bytes is to the reading of a line
abbrev pub word_by : TokenKind → List ℕ → Word
word_by (Number_kind value) spelling = Number value
word_by Name_kind spelling = told names Name spelling
word_by Sign_kind spelling = told signs Other spelling
word_by Text_kind spelling = Quoted
word_by LineEnd spelling = Other
word_by Indent spelling = Other
word_by Dedent spelling = Other

-- the word that a token is, with its span
abbrev pub piece_of : List ℕ → Token → Piece
piece_of text token = record { word = word_by token.kind (slice_range text token.from token.to); from = token.from; to = token.to }

-- `or` and `and` are names, and no other sign between two is one
abbrev pub is_named : TwoSign → Bool
is_named Or = true
is_named And = true
is_named sign = false

-- of the signs before one expression `not` alone is a name
abbrev pub is_not : OneSign → Bool
is_not Not = true
is_not Neg = false
is_not Inv = false

-- the word is a name
abbrev pub is_name : Word → Bool
is_name Name = true
is_name (Callee sign) = true
is_name (Between sign) = is_named sign
is_name (Before sign) = is_not sign
is_name If = true
is_name Else = true
is_name word = false

-- the bytes of a token
abbrev pub spelling : List ℕ → Piece → List ℕ
spelling text piece = slice_range text piece.from piece.to

-- the token has these bytes
abbrev pub is_spelled : List ℕ → Piece → List ℕ → Bool
is_spelled text piece word = bytes_eq (spelling text piece) word
