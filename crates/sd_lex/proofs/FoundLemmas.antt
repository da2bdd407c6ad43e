-- A token that is found has a byte, and ends within the bytes in which it was sought.
use Rattle.std.proofs.Common.{◌≡◌, ℕ, suc, ◌+◌, ◌<◌, ◌≤◌, min, nat_eq, nat_lt, pos, ◌^◌, List, [], ◌∷◌, length, drop, take, refl, sym, ◌∙◌, arith, lit<, lit≤, Bool, true, false, ◌&&◌, if◌then◌else◌, length-take, length-drop}
use Rattle.std.proofs.Math.Bool.{and-false}
use Rattle.std.specs.List.{prefix_len}
use Rattle.sd_lex.specs.Bytes.{is_digit, is_letter, is_name_byte, is_quote}
use Rattle.sd_lex.specs.Digits.{decimal_value}
use Rattle.sd_lex.specs.Sign.{is_sign_of_one, begins_with_sign_of_two}
use Rattle.sd_lex.specs.FoundAt.{run, begins, number_found, text_found, sign_found, found_at, IsWithin}
use Rattle.sd_lex.specs.declared.found.Found.{Found}
use Rattle.sd_lex.specs.declared.found.Found.TheVariants.{BadByte, NumberTooWide, Token}
use Rattle.sd_lex.specs.declared.token.TokenKind.TheVariants.{Number, Sign}

-- what holds on both sides of a choice, each under its condition
pub choose : (P : Found → Type 0) (c : Bool) (x y : Found) → (c ≡ true → P x) → (c ≡ false → P y) → P (if c then x else y)
choose P true x y p q = p refl
choose P false x y p q = q refl

never : false ≡ true → ⊥
never h = cc

pub run_within : (test : ℕ → Bool) (bytes : List ℕ) → run test bytes ≤ length bytes
run_within test bytes = omega (arith, length-take (prefix_len test bytes) bytes)

run_begins : (test : ℕ → Bool) (byte : ℕ) (bytes : List ℕ) → test byte ≡ true → 0 < run test (byte ∷ bytes)
run_begins test byte bytes passes =
    let more = prefix_len test bytes in
    let all : run test (byte ∷ bytes) ≡ min (1 + more) (suc (length bytes)) = rw passes (length-take (1 + more) (byte ∷ bytes)) in
    omega (arith, all)

within_number : (digits : ℕ) (bytes : List ℕ) → 0 < digits → digits ≤ length bytes → IsWithin (length bytes) (number_found digits bytes)
within_number digits bytes some few =
    let limit : ℕ = length bytes in
    let value : ℕ = decimal_value (take digits bytes) in
    let token : IsWithin limit (Token (Number (pos value)) digits) = (some, few) in
    choose (IsWithin limit) (begins is_name_byte (drop digits bytes)) BadByte (if nat_lt value (2 ^ 63) then Token (Number (pos value)) digits else NumberTooWide) (λ _. tt)
    (λ _. choose (IsWithin limit) (nat_lt value (2 ^ 63)) (Token (Number (pos value)) digits) NumberTooWide (λ _. token) (λ _. tt))

pub begins_some : (test : ℕ → Bool) (bytes : List ℕ) → begins test bytes ≡ true → 0 < length bytes
begins_some test [] h = absurd (never h)
begins_some test (byte ∷ bytes) h = omega arith

second_of : (a b : Bool) → a && b ≡ true → b ≡ true
second_of true b h = h
second_of false b h = absurd (never h)

pub within_text : (quote : ℕ) (name : List ℕ) → IsWithin (suc (length name)) (text_found quote name)
within_text quote name =
    choose (IsWithin (suc (length name))) _ _ _
    (λ closed.
    let some : 0 < length (drop (run is_name_byte name) name) = begins_some (nat_eq quote) (drop (run is_name_byte name) name) (second_of (begins is_letter name) _ closed) in
    (omega arith, omega (arith, some, length-drop (run is_name_byte name) name)))
    (λ _. tt)

one_is_no_two : (byte : ℕ) → begins_with_sign_of_two (byte ∷ []) ≡ false
one_is_no_two byte = simp and-false

within_sign : (byte : ℕ) (bytes : List ℕ) → IsWithin (suc (length bytes)) (sign_found (byte ∷ bytes))
within_sign byte [] =
    choose (IsWithin 1) _ _ _ (λ two. absurd (never (sym (one_is_no_two byte) ∙ two)))
    (λ _. choose (IsWithin 1) (begins is_sign_of_one (byte ∷ [])) (Token Sign 1) BadByte (λ _. (lit< tt, lit≤ tt)) (λ _. tt))
within_sign byte (other ∷ bytes) =
    let limit : ℕ = suc (suc (length bytes)) in
    let one : IsWithin limit (Token Sign 1) = (omega arith, omega arith) in
    let two : IsWithin limit (Token Sign 2) = (omega arith, omega arith) in
    let all = byte ∷ other ∷ bytes in
    choose (IsWithin limit) (begins_with_sign_of_two all) (Token Sign 2) (if begins is_sign_of_one all then Token Sign 1 else BadByte) (λ _. two)
    (λ _. choose (IsWithin limit) (begins is_sign_of_one all) (Token Sign 1) BadByte (λ _. one) (λ _. tt))

pub found_within : (bytes : List ℕ) → IsWithin (length bytes) (found_at bytes)
found_within [] = tt
found_within (byte ∷ bytes) =
    let P : Found → Type 0 = IsWithin (suc (length bytes)) in
    choose P (is_letter byte) _ _ (λ letter. (run_begins is_name_byte byte bytes (rw letter refl), run_within is_name_byte (byte ∷ bytes)))
    (λ _. choose P (nat_eq byte 48) _ _ (λ _. within_number 1 (byte ∷ bytes) (omega arith) (omega arith))
    (λ _. choose P (is_digit byte) _ _ (λ digit. within_number (run is_digit (byte ∷ bytes)) (byte ∷ bytes) (run_begins is_digit byte bytes digit) (run_within is_digit (byte ∷ bytes)))
    (λ _. choose P (is_quote byte) _ _ (λ _. within_text byte bytes) (λ _. within_sign byte bytes))))
