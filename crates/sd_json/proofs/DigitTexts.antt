-- Digits alone are a whole number.
use Rattle.std.proofs.Common.{◌≡◌, ℕ, ◌+◌, ◌*◌, ◌<◌, ◌≤◌, ◌^◌, pos, List, [], ◌++◌, length, take, true, false, Option, Some, None, IfSome, option_map, refl, ap, sym, ◌∙◌, arith, append-nil, get_or, lt-ltb, le-leb}
use Rattle.std.specs.Char.{digit_value}
use Rattle.std.specs.Str.Parse.{AllDigits, IsNumeral, digits_value}
use Rattle.std.proofs.lemmas.List.{length-take-le}
use Rattle.std.proofs.lemmas.Int.Digits.{digits_more, digits_value_more, digits_value-lt}
use Rattle.std.proofs.Math.Nat.{pow-le-pow_right}
use Rattle.fast_float.specs.Text.{Parts, scan, digits_of, IsWellFormed, with_sign}
use Rattle.fast_float.proofs.Writing.{scan-text_of}
use Rattle.serde_json.specs.Read.{number_from, is_integer}
use Rattle.serde_json.specs.Find.{as_i64}

-- the parts of a numeral of digits alone
abbrev pub digit_parts : List ℕ → Parts
digit_parts ds = record { whole = ds; point = false; fraction = []; exponent_negative = false; exponent = []; len = length (ds ++ []) }

pub scan-digits : (ds : List ℕ) → IsNumeral 10 ds → scan ds ≡ digit_parts ds
scan-digits ds h =
    let formed : IsWellFormed (digit_parts ds) = record { whole_digits = h.1; fraction_digits = tt; exponent_digits = tt; no_point = λ _. refl; no_exponent = λ _. refl; len_is = refl } in
    ap scan (sym (append-nil ds)) ∙ scan-text_of (digit_parts ds) formed

pub digits-is_integer : (ds : List ℕ) → IsNumeral 10 ds → is_integer (scan ds) ≡ true
digits-is_integer ds h = ap is_integer (scan-digits ds h) ∙ rw (lt-ltb _ _ h.0) refl

pub digits-digits_of : (ds : List ℕ) → IsNumeral 10 ds → digits_of (scan ds) ≡ digits_value 10 ds
digits-digits_of ds h = ap digits_of (scan-digits ds h) ∙ ap (digits_value 10) (append-nil ds)

-- a number below 2^63
pub small_number : (p : Parts) (n : ℕ) → is_integer p ≡ true → digits_of p ≡ n → n < 2 ^ 63 → Some (Some (pos n)) ≡ option_map as_i64 (number_from false p)
small_number p n whole is small =
    let fits : n < 2 ^ 64 = omega arith in
    rw (whole, is, lt-ltb _ _ fits) (rw (lt-ltb _ _ small) refl)

-- and below 0
pub small_negative : (p : Parts) (n : ℕ) → is_integer p ≡ true → digits_of p ≡ n → 0 < n → n < 2 ^ 63 → Some (Some (with_sign true n)) ≡ option_map as_i64 (number_from true p)
small_negative p n whole is some small =
    let fits : n ≤ 2 ^ 63 = omega arith in
    rw (whole, is, lt-ltb _ _ some, le-leb _ _ fits) refl

-- few digits write a small number
pub few_digits : (most : ℕ) (ds : List ℕ) (number : ℕ) → length ds ≤ most → AllDigits 10 ds → number ≡ digits_value 10 ds → number < 10 ^ most
few_digits most ds number few all is = omega (arith, is, digits_value-lt 10 ds all, pow-le-pow_right {n = 10} (omega arith) few)

-- those before the last of 18
pub digits_before : (bytes : List ℕ) (i number : ℕ) → i < length bytes → length bytes ≤ 18 → AllDigits 10 (take i bytes) × (number ≡ digits_value 10 (take i bytes)) → number < 10 ^ 17
digits_before bytes i number inside short is = few_digits 17 (take i bytes) number (omega (arith, length-take-le i bytes (omega arith))) is.0 is.1

-- one digit more
pub one_digit_more : (bytes : List ℕ) (i number digit : ℕ) → i < length bytes → AllDigits 10 (take i bytes) × (number ≡ digits_value 10 (take i bytes)) → (digit_value (get_or bytes i 0) < 10) × (digit ≡ digit_value (get_or bytes i 0)) →
    AllDigits 10 (take (i + 1) bytes) × (number * 10 + digit ≡ digits_value 10 (take (i + 1) bytes))
one_digit_more bytes i number digit inside before is = (digits_more 10 bytes i inside before.0 is.0, rw (digits_value_more 10 bytes i inside, ← before.1, is.1) refl)

pub some_weaker : {A : Type 0} (found : Option A) (P Q : A → Type 0) → ((x : A) → P x → Q x) → IfSome found P → IfSome found Q
some_weaker None P Q weaker is = tt
some_weaker (Some x) P Q weaker is = weaker x is
