-- The tokens of a text are inside it, and their bytes are ASCII.
use Rattle.std.proofs.Common.{◌≡◌, ℕ, zero, suc, ◌≤◌, ◌<◌, List, [], ◌∷◌, ◌++◌, length, sym, subst, arith, Bool, true, inl, inr, All, get_or}
use Rattle.std.specs.List.{list_all}
use Rattle.std.specs.Str.{IsAscii}
use Rattle.std.proofs.lemmas.Bool.{and_parts}
use Rattle.std.proofs.lemmas.Bool.Decides.{nat_tests}
use Rattle.std.proofs.lemmas.List.Elements.{All-from_recursion, All-contains}
use Rattle.std.proofs.lemmas.Str.Ascii.{IsAscii-nil, IsAscii-cons}
use Rattle.std.proofs.lemmas.Str.{IsAscii-append}
use Rattle.sd_lex.specs.Bytes.{is_digit, is_letter, is_name_byte, is_quote}
use Rattle.sd_lex.specs.FoundAt.{begins}
use Rattle.sd_lex.specs.Position.{IsInOrder}
use Rattle.sd_lex.specs.Sign.{signs_of_one, signs_of_two}
use Rattle.sd_lex.specs.TokenText.{IsTextOf, IsInside, text_of}
use Rattle.sd_lex.specs.declared.token.Token.{Token}
use Rattle.sd_lex.specs.declared.token.TokenKind.{TokenKind}
use Rattle.sd_lex.specs.declared.token.TokenKind.TheVariants.{Name, Number, Text, Sign, LineEnd, Indent, Dedent}

digit_byte : (byte : ℕ) → is_digit byte ≡ true → byte < 128
digit_byte byte h = grind (arith, nat_tests)

name_byte : (byte : ℕ) → is_name_byte byte ≡ true → byte < 128
name_byte byte h = grind (arith, nat_tests)

quote_byte : (byte : ℕ) → is_quote byte ≡ true → byte < 128
quote_byte byte h = grind (arith, nat_tests)

-- bytes that pass a test are ASCII where each byte that passes it is
ascii_all : (test : ℕ → Bool) → ((byte : ℕ) → test byte ≡ true → byte < 128) → (bytes : List ℕ) → list_all test bytes ≡ true → IsAscii bytes
ascii_all test small [] h = IsAscii-nil
ascii_all test small (byte ∷ bytes) h =
    let parts : (test byte ≡ true) × (list_all test bytes ≡ true) = and_parts (test byte) (list_all test bytes) h in
    IsAscii-cons byte bytes (small byte parts.0) (ascii_all test small bytes parts.1)

ascii_name : (bytes : List ℕ) → IsTextOf Name bytes → IsAscii bytes
ascii_name bytes h = ascii_all is_name_byte name_byte bytes (and_parts (begins is_letter bytes) (list_all is_name_byte bytes) h).1

pair_of : (a b : ℕ) → a < 128 → b < 128 → IsAscii (a ∷ b ∷ [])
pair_of a b h k = IsAscii-cons a (b ∷ []) h (IsAscii-cons b [] k IsAscii-nil)

two_ascii : All IsAscii signs_of_two
two_ascii = All-from_recursion IsAscii signs_of_two (
  pair_of 47 47 (omega arith) (omega arith),
  (
    pair_of 60 61 (omega arith) (omega arith),
    (
      pair_of 62 61 (omega arith) (omega arith),
      (
        pair_of 61 61 (omega arith) (omega arith),
        (pair_of 33 61 (omega arith) (omega arith), (pair_of 43 61 (omega arith) (omega arith), (pair_of 60 60 (omega arith) (omega arith), (pair_of 62 62 (omega arith) (omega arith), tt)))),
      ),
    ),
  ),
)

one_ascii : All (λ byte. byte < 128) signs_of_one
one_ascii = All-from_recursion (λ byte. byte < 128) signs_of_one
    (omega arith, (omega arith, (omega arith, (omega arith, (omega arith, (omega arith, (omega arith, (omega arith, (omega arith, (omega arith, (omega arith, (omega arith, (omega arith, (omega arith, (omega arith, (omega arith, (omega arith, (omega arith, (omega arith, tt)))))))))))))))))))

-- the bytes of each kind of token are ASCII
ascii_text : (kind : TokenKind) (bytes : List ℕ) → IsTextOf kind bytes → IsAscii bytes
ascii_text Name bytes h = ascii_name bytes h
ascii_text (Number value) bytes h = ascii_all is_digit digit_byte bytes h.0.digits
ascii_text Text bytes h =
    subst IsAscii (sym h.all)
    (IsAscii-cons h.quote (h.name ++ h.quote ∷ []) (quote_byte h.quote h.is_a_quote)
    (IsAscii-append h.name (h.quote ∷ []) (ascii_name h.name h.is_a_name) (IsAscii-cons h.quote [] (quote_byte h.quote h.is_a_quote) IsAscii-nil)))
ascii_text Sign bytes (inl h) = All-contains IsAscii signs_of_two bytes two_ascii h
ascii_text Sign bytes (inr h) = subst IsAscii (sym h.1) (IsAscii-cons h.0 [] (All-contains (λ byte. byte < 128) signs_of_one h.0 one_ascii h.2) IsAscii-nil)
ascii_text LineEnd bytes h = subst IsAscii (sym h) IsAscii-nil
ascii_text Indent bytes h = subst IsAscii (sym h) IsAscii-nil
ascii_text Dedent bytes h = subst IsAscii (sym h) IsAscii-nil

-- what is in order does not end before it begins
ends_later : (low : ℕ) (tokens : List Token) (high : ℕ) → IsInOrder low tokens high → low ≤ high
ends_later low [] high h = h
ends_later low (token ∷ tokens) high h = omega (arith, h.0, h.1, ends_later token.to tokens high h.2)

-- a token of some in order begins before it ends, and ends within
within_at : (low : ℕ) (tokens : List Token) (high : ℕ) → IsInOrder low tokens high → (k : ℕ) (d : Token) → k < length tokens → ((get_or tokens k d).from ≤ (get_or tokens k d).to) × ((get_or tokens k d).to ≤ high)
within_at low [] high h k d few = absurd (omega arith)
within_at low (token ∷ tokens) high h zero d few = (h.1, ends_later token.to tokens high h.2)
within_at low (token ∷ tokens) high h (suc k) d few = within_at token.to tokens high h.2 k d (omega arith)

-- tokens in order, with the bytes of their kinds, are inside their text
pub all_inside : (text : List ℕ) (low : ℕ) (tokens : List Token) → IsInOrder low tokens (length text) → All (λ token. IsTextOf token.kind (text_of text token)) tokens → All (IsInside text) tokens
all_inside text low tokens order texts = λ k d few.
    let within : ((get_or tokens k d).from ≤ (get_or tokens k d).to) × ((get_or tokens k d).to ≤ length text) = within_at low tokens (length text) order k d few in
    (within.0, within.1, ascii_text (get_or tokens k d).kind (text_of text (get_or tokens k d)) (texts k d few))
