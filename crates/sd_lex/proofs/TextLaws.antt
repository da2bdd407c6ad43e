-- A token that is found has the bytes of its kind.
use Rattle.std.proofs.Common.{◌≡◌, ℕ, suc, ◌+◌, ◌<◌, ◌^◌, pos, nat_eq, nat_lt, List, [], ◌∷◌, ◌++◌, length, take, drop, get_or, refl, ap, sym, ◌∙◌, subst, arith, Bool, true, false, not, ◌&&◌, inl, inr, All, Contains, ltb-true, length-take, length-drop, if◌then◌else◌}
use Rattle.std.specs.List.{list_all, starts_with, take_while, prefix_len}
use Rattle.std.specs.Cmp.Lexicographic.{same_text}
use Rattle.std.proofs.lemmas.Bool.{eqb-true, and_from, and_parts, cond_both, cond-true, cond-false}
use Rattle.std.proofs.lemmas.List.{take_min, take_more, drop_more}
use Rattle.std.proofs.lemmas.List.Sums.{take_while-cons}
use Rattle.std.proofs.lemmas.List.Folds.{Any-from_list_any}
use Rattle.std.proofs.lemmas.List.Elements.{All-from_recursion, All-contains}
use Rattle.sd_lex.specs.Bytes.{is_digit, is_letter, is_name_byte, is_quote}
use Rattle.sd_lex.specs.Digits.{decimal_value}
use Rattle.sd_lex.specs.Sign.{is_sign_of_one, begins_with_sign_of_two, signs_of_one, signs_of_two}
use Rattle.sd_lex.specs.FoundAt.{run, begins, number_found, text_found, sign_found, found_at}
use Rattle.sd_lex.specs.TokenText.{is_name, IsNumeral, IsTextOf}
use Rattle.sd_lex.specs.declared.found.Found.{Found}
use Rattle.sd_lex.specs.declared.found.Found.TheVariants.{BadByte, NumberTooWide, Token}
use Rattle.sd_lex.specs.declared.token.TokenKind.TheVariants.{Number, Text, Sign}
use Rattle.sd_lex.proofs.FoundLemmas.{choose, begins_some}

-- a token that is found in bytes has those of its kind
abbrev pub HasText : List ℕ → Found → Type 0
HasText bytes BadByte = Unit {0}
HasText bytes NumberTooWide = Unit {0}
HasText bytes (Token kind count) = IsTextOf kind (take count bytes)

-- the bytes of a run
run_bytes : (test : ℕ → Bool) (bytes : List ℕ) → take (run test bytes) bytes ≡ take_while test bytes
run_bytes test bytes = ap (λ n. take n bytes) (length-take (prefix_len test bytes) bytes) ∙ take_min (prefix_len test bytes) bytes

-- a run goes on at a byte that passes
pub run_more : (test : ℕ → Bool) (byte : ℕ) (bytes : List ℕ) → test byte ≡ true → take_while test (byte ∷ bytes) ≡ byte ∷ take_while test bytes
run_more test byte bytes passes = take_while-cons test byte bytes ∙ cond-true (test byte) (byte ∷ take_while test bytes) [] passes

-- a run ends at a byte that fails
pub run_none : (test : ℕ → Bool) (byte : ℕ) (bytes : List ℕ) → test byte ≡ false → take_while test (byte ∷ bytes) ≡ []
run_none test byte bytes fails = take_while-cons test byte bytes ∙ cond-false (test byte) (byte ∷ take_while test bytes) [] fails

-- the bytes of a run pass
run_passes : (test : ℕ → Bool) (bytes : List ℕ) → list_all test (take_while test bytes) ≡ true
run_passes test [] = refl
run_passes test (byte ∷ bytes) =
    subst (λ xs. list_all test xs ≡ true) (sym (take_while-cons test byte bytes))
    (cond_both (test byte) (byte ∷ take_while test bytes) [] (λ xs. list_all test xs ≡ true)
    (λ passes. and_from (test byte) (list_all test (take_while test bytes)) passes (run_passes test bytes))
    (λ _. refl))

-- a letter is a name byte
letter_in_name : (byte : ℕ) → is_letter byte ≡ true → is_name_byte byte ≡ true
letter_in_name byte letter = rw letter refl

-- a run of name bytes that begins with a letter is a name
name_run : (bytes : List ℕ) → begins is_letter bytes ≡ true → is_name (take_while is_name_byte bytes) ≡ true
name_run [] letter = letter
name_run (byte ∷ bytes) letter =
    let all : List ℕ = take_while is_name_byte (byte ∷ bytes) in
    let more : all ≡ byte ∷ take_while is_name_byte bytes = run_more is_name_byte byte bytes (letter_in_name byte letter) in
    and_from (begins is_letter all) (list_all is_name_byte all)
    (subst (λ xs. begins is_letter xs ≡ true) (sym more) letter) (run_passes is_name_byte (byte ∷ bytes))

-- a number has the bytes of a numeral where its digits are one
number_text : (digits : ℕ) (bytes : List ℕ) → IsNumeral (take digits bytes) → HasText bytes (number_found digits bytes)
number_text digits bytes numeral =
    let value : ℕ = decimal_value (take digits bytes) in
    choose (HasText bytes) (begins is_name_byte (drop digits bytes)) BadByte (if nat_lt value (2 ^ 63) then Token (Number (pos value)) digits else NumberTooWide) (λ _. tt)
    (λ _. choose (HasText bytes) (nat_lt value (2 ^ 63)) (Token (Number (pos value)) digits) NumberTooWide
    (λ below. (numeral, refl, ltb-true value (2 ^ 63) below)) (λ _. tt))

-- 0 is a numeral
zero_text : (byte : ℕ) → nat_eq byte 48 ≡ true → IsNumeral (byte ∷ [])
zero_text byte is = subst (λ b. IsNumeral (b ∷ [])) (sym (eqb-true byte 48 is)) (record { digits = refl; no_zero_leads = inl refl })

-- digits that do not begin with 0 are a numeral
digits_text : (byte : ℕ) (bytes : List ℕ) → nat_eq byte 48 ≡ false → is_digit byte ≡ true → IsNumeral (take (run is_digit (byte ∷ bytes)) (byte ∷ bytes))
digits_text byte bytes other digit =
    let more : take_while is_digit (byte ∷ bytes) ≡ byte ∷ take_while is_digit bytes = run_more is_digit byte bytes digit in
    let leads : begins (λ b. not (nat_eq b 48)) (byte ∷ take_while is_digit bytes) ≡ true = ap not other in
    subst IsNumeral (sym (run_bytes is_digit (byte ∷ bytes)))
    (record {
      digits = run_passes is_digit (byte ∷ bytes);
      no_zero_leads = inr (subst (λ xs. begins (λ b. not (nat_eq b 48)) xs ≡ true) (sym more) leads);
    })

-- a text is a quoted name
quoted_text : (quote : ℕ) (name : List ℕ) → is_quote quote ≡ true → HasText (quote ∷ name) (text_found quote name)
quoted_text quote name is =
    let count : ℕ = run is_name_byte name in
    let rest : List ℕ = drop count name in
    choose (HasText (quote ∷ name)) (begins is_letter name && begins (nat_eq quote) rest) (Token Text (count + 2)) BadByte
    (λ closed.
    let parts : (begins is_letter name ≡ true) × (begins (nat_eq quote) rest ≡ true) = and_parts (begins is_letter name) (begins (nat_eq quote) rest) closed in
    let some : 0 < length rest = begins_some (nat_eq quote) rest parts.1 in
    let within : count < length name = omega (arith, some, length-drop count name) in
    let last : ℕ = get_or name count 0 in
    let at_last : nat_eq quote last ≡ true = subst (λ xs. begins (nat_eq quote) xs ≡ true) (drop_more name count 0 within) parts.1 in
    let behind : take (count + 1) name ≡ take_while is_name_byte name ++ quote ∷ [] =
    take_more name count 0 within ∙ ap (λ xs. xs ++ last ∷ []) (run_bytes is_name_byte name) ∙ ap (λ b. take_while is_name_byte name ++ b ∷ []) (sym (eqb-true quote last at_last)) in
    let long : count + 2 ≡ suc (count + 1) = omega arith in
    record {
      quote = quote;
      name = take_while is_name_byte name;
      is_a_quote = is;
      is_a_name = name_run name parts.0;
      all = ap (λ n. take n (quote ∷ name)) long ∙ ap (λ xs. quote ∷ xs) behind;
    })
    (λ _. tt)

-- the signs of two bytes are two bytes long
two_long : All (λ sign. length sign ≡ 2) signs_of_two
two_long = All-from_recursion (λ sign. length sign ≡ 2) signs_of_two (refl, (refl, (refl, (refl, (refl, (refl, (refl, (refl, tt))))))))

-- bytes that begin with a sign of two bytes are one, the first two
sign_of_two : (bytes : List ℕ) → begins_with_sign_of_two bytes ≡ true → Contains signs_of_two (take 2 bytes)
sign_of_two bytes two =
    let any = Any-from_list_any (λ sign. starts_with nat_eq bytes sign) signs_of_two two in
    let sign : List ℕ = any.1 in
    let there : Contains signs_of_two sign = (any.0, any.2, any.3) in
    let long : length sign ≡ 2 = All-contains (λ s. length s ≡ 2) signs_of_two sign two_long there in
    let same : sign ≡ take (length sign) bytes = same_text sign (take (length sign) bytes) (sym any.4) in
    subst (Contains signs_of_two) (same ∙ ap (λ n. take n bytes) long) there

-- a byte that is a sign is one of the signs
sign_of_one : (byte : ℕ) → is_sign_of_one byte ≡ true → Contains signs_of_one byte
sign_of_one byte one =
    let any = Any-from_list_any (λ sign. nat_eq sign byte) signs_of_one one in
    subst (Contains signs_of_one) (eqb-true any.1 byte any.4) (any.0, any.2, any.3)

-- a sign has the bytes of a sign
sign_text : (byte : ℕ) (bytes : List ℕ) → HasText (byte ∷ bytes) (sign_found (byte ∷ bytes))
sign_text byte bytes =
    let all : List ℕ = byte ∷ bytes in
    choose (HasText all) (begins_with_sign_of_two all) (Token Sign 2) (if begins is_sign_of_one all then Token Sign 1 else BadByte) (λ two. inl (sign_of_two all two))
    (λ _. choose (HasText all) (begins is_sign_of_one all) (Token Sign 1) BadByte (λ one. inr (byte, refl, sign_of_one byte one)) (λ _. tt))

-- what is found at bytes has the bytes of its kind
pub found_text : (bytes : List ℕ) → HasText bytes (found_at bytes)
found_text [] = tt
found_text (byte ∷ bytes) =
    let all : List ℕ = byte ∷ bytes in
    let P : Found → Type 0 = HasText all in
    choose P (is_letter byte) _ _ (λ letter. subst (λ xs. is_name xs ≡ true) (sym (run_bytes is_name_byte all)) (name_run all letter))
    (λ _. choose P (nat_eq byte 48) _ _ (λ is. number_text 1 all (zero_text byte is))
    (λ other. choose P (is_digit byte) _ _ (λ digit. number_text (run is_digit all) all (digits_text byte bytes other digit))
    (λ _. choose P (is_quote byte) _ _ (λ quote. quoted_text byte bytes quote) (λ _. sign_text byte bytes))))
