-- What begins at a place of a line: the longest token, or an error.
use Rattle.std.specs.Prelude.{ℕ, ◌+◌, ◌^◌, nat_eq, nat_lt, pos, List, [], ◌∷◌, take, drop, length, Bool, false, ◌&&◌, ◌<◌, ◌≤◌, ⊤, if◌then◌else◌}
use Rattle.std.specs.List.{take_while}
use Rattle.sd_lex.specs.Bytes.{is_digit, is_letter, is_name_byte, is_quote}
use Rattle.sd_lex.specs.Digits.{decimal_value}
use Rattle.sd_lex.specs.Sign.{is_sign_of_one, begins_with_sign_of_two}
use Rattle.sd_lex.specs.declared.found.Found.{Found}
use Rattle.sd_lex.specs.declared.found.Found.TheVariants.{BadByte, NumberTooWide, Token}
use Rattle.sd_lex.specs.declared.token.TokenKind.TheVariants.{Name, Number, Text, Sign}

-- how many bytes at the begin pass the test
abbrev pub run : (ℕ → Bool) → List ℕ → ℕ
run test bytes = length (take_while test bytes)

-- the first byte, if there is one, passes the test
abbrev pub begins : (ℕ → Bool) → List ℕ → Bool
begins test [] = false
begins test (byte ∷ bytes) = test byte

-- a number of so many digits; no name byte may follow, and it is below 2^63
abbrev pub number_found : (digits : ℕ) → List ℕ → Found
number_found digits bytes =
    if begins is_name_byte (drop digits bytes) then BadByte
    else if nat_lt (decimal_value (take digits bytes)) (2 ^ 63) then Token (Number (pos (decimal_value (take digits bytes)))) digits
    else NumberTooWide

-- a quote, a name and the same quote
abbrev pub text_found : (quote : ℕ) → (name : List ℕ) → Found
text_found quote name =
    if begins is_letter name && begins (nat_eq quote) (drop (run is_name_byte name) name) then Token Text (run is_name_byte name + 2)
    else BadByte

abbrev pub sign_found : List ℕ → Found
sign_found bytes =
    if begins_with_sign_of_two bytes then Token Sign 2
    else if begins is_sign_of_one bytes then Token Sign 1
    else BadByte

abbrev pub found_at : List ℕ → Found
found_at [] = BadByte
found_at (byte ∷ bytes) =
    if is_letter byte then Token Name (run is_name_byte (byte ∷ bytes))
    else if nat_eq byte 48 then number_found 1 (byte ∷ bytes)
    else if is_digit byte then number_found (run is_digit (byte ∷ bytes)) (byte ∷ bytes)
    else if is_quote byte then text_found byte bytes
    else sign_found (byte ∷ bytes)

-- a token has a byte, and no more than there are
abbrev pub IsWithin : ℕ → Found → Type 0
IsWithin limit BadByte = ⊤
IsWithin limit NumberTooWide = ⊤
IsWithin limit (Token kind bytes) = (0 < bytes) × (bytes ≤ limit)
