-- What bytes a token of each kind has.
use Rattle.std.specs.Prelude.{◌≡◌, ◌⊎◌, ℕ, ◌^◌, ◌<◌, ◌≤◌, pos, List, [], ◌∷◌, ◌++◌, nat_eq, Bool, ◌&&◌, not, IsTrue, length, slice_range, IsAscii}
use Rattle.std.specs.List.{list_all, All, Contains}
use Rattle.sd_lex.specs.Bytes.{is_digit, is_letter, is_name_byte, is_quote}
use Rattle.sd_lex.specs.Digits.{decimal_value}
use Rattle.sd_lex.specs.FoundAt.{begins}
use Rattle.sd_lex.specs.Position.{line_at, IsInOrder}
use Rattle.sd_lex.specs.Sign.{signs_of_one, signs_of_two}
use Rattle.sd_lex.specs.declared.token.Token.{Token}
use Rattle.sd_lex.specs.declared.token.TokenKind.{TokenKind}
use Rattle.sd_lex.specs.declared.token.TokenKind.TheVariants.{Name, Number, Text, Sign, LineEnd, Indent, Dedent}

-- a letter or an underscore, and then letters, digits and underscores
abbrev pub is_name : List ℕ → Bool
is_name bytes = begins is_letter bytes && list_all is_name_byte bytes

-- 0, or digits that do not begin with 0
pub record IsNumeral (bytes : List ℕ) : Type 0 where
  pub digits : IsTrue (list_all is_digit bytes)
  pub no_zero_leads : (bytes ≡ 48 ∷ []) ⊎ IsTrue (begins (λ byte. not (nat_eq byte 48)) bytes)

-- a quote, a name and the same quote
pub record IsQuoted (bytes : List ℕ) : Type 0 where
  pub quote : ℕ
  pub name : List ℕ
  pub is_a_quote : IsTrue (is_quote quote)
  pub is_a_name : IsTrue (is_name name)
  pub all : bytes ≡ quote ∷ (name ++ quote ∷ [])

abbrev pub IsTextOf : TokenKind → List ℕ → Type 0
IsTextOf Name bytes = IsTrue (is_name bytes)
IsTextOf (Number value) bytes = IsNumeral bytes × (value ≡ pos (decimal_value bytes)) × (decimal_value bytes < 2 ^ 63)
IsTextOf Text bytes = IsQuoted bytes
IsTextOf Sign bytes = Contains signs_of_two bytes ⊎ ((sign : ℕ) × (bytes ≡ sign ∷ []) × Contains signs_of_one sign)
IsTextOf LineEnd bytes = bytes ≡ []
IsTextOf Indent bytes = bytes ≡ []
IsTextOf Dedent bytes = bytes ≡ []

-- the bytes of a token in its text
abbrev pub text_of : List ℕ → Token → List ℕ
text_of text token = slice_range text token.from token.to

-- a token stands inside a text, and its bytes are ASCII
abbrev pub IsInside : List ℕ → Token → Type 0
IsInside text token = (token.from ≤ token.to) × (token.to ≤ length text) × IsAscii (text_of text token)

-- the tokens stand in order within a text, each inside it with the bytes that its kind says, and its line is that of its first byte
pub record AreTokensOf (text : List ℕ) (tokens : List Token) : Type 0 where
  pub in_order : IsInOrder 0 tokens (length text)
  pub inside : All (IsInside text) tokens
  pub texts : All (λ token. IsTextOf token.kind (text_of text token)) tokens
  pub lines : All (λ token. token.line ≡ line_at text token.from) tokens
