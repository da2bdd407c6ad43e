-- The tokens of a line, place by place.
use Rattle.std.proofs.Common.{◌≡◌, ℕ, zero, suc, ◌+◌, ◌-◌, ◌<◌, ◌≤◌, List, [], ◌∷◌, ◌++◌, append_assoc, length, drop, take, get_or, refl, ap, sym, ◌∙◌, arith, true, false, Ok, Err}
use Rattle.std.proofs.lemmas.List.{drop_more, drop-drop, take_rest, length-drop}
use Rattle.sd_lex.specs.Bytes.{is_blank, is_comment}
use Rattle.sd_lex.specs.FoundAt.{found_at}
use Rattle.sd_lex.specs.Reading.{Reading, after}
use Rattle.sd_lex.specs.Line.{tokens_from}
use Rattle.sd_lex.specs.declared.token.Token.{Token}
use Rattle.sd_lex.specs.declared.token.TokenKind.{TokenKind}
use Rattle.sd_lex.specs.declared.error.LexError.{LexError}
use Rattle.sd_lex.specs.declared.error.LexError.TheVariants.{BadByte as Bad_byte, NumberTooWide as Number_too_wide}
use Rattle.sd_lex.specs.declared.found.Found.TheVariants.{BadByte, NumberTooWide, Token as Token_found}

no_error : (tokens : List Token) (error : LexError) → Ok tokens ≡ Err error → ⊥
no_error tokens error h = cc

-- what comes after no tokens
pub after-nothing : (r : Reading) → after [] r ≡ r
after-nothing (Ok tokens) = refl
after-nothing (Err error) = refl

-- tokens behind tokens
pub after-after : (tokens others : List Token) (r : Reading) → after tokens (after others r) ≡ after (tokens ++ others) r
after-after tokens others (Ok rest) = ap Ok (sym (append_assoc tokens others rest))
after-after tokens others (Err error) = refl

-- what ends within the bytes from a place on ends within all
pub ends_within : (bytes : List ℕ) (i most : ℕ) → i < length bytes → most ≤ length (take (length bytes - i) (drop i bytes)) → i + most ≤ length bytes
ends_within bytes i most within few =
    let rest : length (take (length bytes - i) (drop i bytes)) ≡ length (drop i bytes) = ap length (take_rest bytes i) in
    omega (arith, rest, length-drop i bytes)

-- an error behind tokens is the error
pub after-error : (tokens : List Token) (r : Reading) (error : LexError) → after tokens r ≡ Err error → r ≡ Err error
after-error tokens (Ok rest) error h = absurd (no_error (tokens ++ rest) error h)
after-error tokens (Err other) error h = h

-- bytes that are passed over
passed_over : (number at passed : ℕ) (bytes : List ℕ) → tokens_from number at passed bytes ≡ tokens_from number (at + passed) 0 (drop passed bytes)
passed_over number at zero bytes = ap (λ a. tokens_from number a 0 bytes) (omega arith)
passed_over number at (suc passed) [] = refl
passed_over number at (suc passed) (byte ∷ bytes) = passed_over number (at + 1) passed bytes ∙ ap (λ a. tokens_from number a 0 (drop passed bytes)) (omega arith)

module _ (number from : ℕ) (bytes : List ℕ) (i : ℕ) (within : i < length bytes) where
  here : drop i bytes ≡ get_or bytes i 0 ∷ drop (i + 1) bytes
  here = drop_more bytes i 0 within

  pub line-blank : is_blank (get_or bytes i 0) ≡ true → tokens_from number (from + i) 0 (drop i bytes) ≡ tokens_from number (from + (i + 1)) 0 (drop (i + 1) bytes)
  line-blank blank = rw (here, blank) (ap (λ a. tokens_from number a 0 (drop (i + 1) bytes)) (omega arith))

  pub line-comment : is_blank (get_or bytes i 0) ≡ false → is_comment (get_or bytes i 0) ≡ true → tokens_from number (from + i) 0 (drop i bytes) ≡ Ok []
  line-comment full comment = rw (here, full, comment) refl

  pub line-bad : is_blank (get_or bytes i 0) ≡ false → is_comment (get_or bytes i 0) ≡ false → found_at (drop i bytes) ≡ BadByte → tokens_from number (from + i) 0 (drop i bytes) ≡ Err (Bad_byte number)
  line-bad full no_comment found = let found' = rw here at found in rw (here, full, no_comment, found') refl

  pub line-wide : is_blank (get_or bytes i 0) ≡ false → is_comment (get_or bytes i 0) ≡ false → found_at (drop i bytes) ≡ NumberTooWide → tokens_from number (from + i) 0 (drop i bytes) ≡ Err (Number_too_wide number)
  line-wide full no_comment found = let found' = rw here at found in rw (here, full, no_comment, found') refl

  pub line-token : (kind : TokenKind) (length : ℕ) → is_blank (get_or bytes i 0) ≡ false → is_comment (get_or bytes i 0) ≡ false → found_at (drop i bytes) ≡ Token_found kind length → 0 < length →
      tokens_from number (from + i) 0 (drop i bytes) ≡ after (record { kind = kind; from = from + i; to = from + (i + length); line = number } ∷ []) (tokens_from number (from + (i + length)) 0 (drop (i + length) bytes))
  line-token kind length full no_comment found some =
      let found' = rw here at found in
      let behind : List ℕ = drop (i + 1) bytes in
      let token : ℕ → Token = λ to. record { kind = kind; from = from + i; to = to; line = number } in
      let ends : from + i + length ≡ from + (i + length) = omega arith in
      let next : from + i + 1 + (length - 1) ≡ from + (i + length) = omega (arith, some) in
      let left : drop (length - 1) behind ≡ drop (i + length) bytes = drop-drop (length - 1) (i + 1) bytes ∙ ap (λ n. drop n bytes) (omega (arith, some)) in
      rw (here, full, no_comment, found')
      (ap (λ to. after (token to ∷ []) (tokens_from number (from + i + 1) (length - 1) behind)) ends
      ∙ ap (after (token (from + (i + length)) ∷ []))
      (passed_over number (from + i + 1) (length - 1) behind
      ∙ ap (λ at. tokens_from number at 0 (drop (length - 1) behind)) next
      ∙ ap (tokens_from number (from + (i + length)) 0) left))
