-- Numbers grow with each digit.
use Rattle.std.proofs.Common.{◌≡◌, ℕ, ◌+◌, ◌^◌, ◌<◌, ◌≤◌, List, [], ◌∷◌, length, drop, get_or, arith, subst, sym}
use Rattle.std.specs.List.{fold}
use Rattle.std.proofs.lemmas.List.{at_drop_more}
use Rattle.sd_lex.specs.Digits.{with_digit}

-- a number is not less with more digits
grows : (value : ℕ) (digits : List ℕ) → value ≤ fold with_digit value digits
grows value [] = omega arith
grows value (digit ∷ digits) = omega (arith, grows (with_digit value digit) digits)

-- a number that is too wide stays so
pub too_wide : (value : ℕ) (digits : List ℕ) (i : ℕ) → i < length digits → 2 ^ 64 ≤ with_digit value (get_or digits i 0) → 2 ^ 63 ≤ fold with_digit value (drop i digits)
too_wide value digits i h wide =
    let rest : fold with_digit value (drop i digits) ≡ fold with_digit value (get_or digits i 0 ∷ drop (i + 1) digits) = at_drop_more (fold with_digit value) digits i 0 h in
    let more : with_digit value (get_or digits i 0) ≤ fold with_digit (with_digit value (get_or digits i 0)) (drop (i + 1) digits) = grows (with_digit value (get_or digits i 0)) (drop (i + 1) digits) in
    subst (λ n. 2 ^ 63 ≤ n) (sym rest) (omega (arith, wide, more))
