-- Picks one after another.
use Rattle.std.proofs.Common.{◌≡◌, ◌≢◌, ℕ, suc, ◌+◌, ◌<◌, ◌^◌, List, [], ◌∷◌, ◌++◌, length, get_or, Some, None, refl, ap, sym, ◌∙◌, subst, arith, Result, Ok, Err, OkIff, Bool, true, false, nat_lt, ◌&&◌, if◌then◌else◌, append_assoc, append-nil, length-append}
use Rattle.std.specs.Str.{all_ascii_digits}
use Rattle.std.specs.Str.Parse.{digits_value, ParsesUnsigned}
use Rattle.std.proofs.lemmas.Str.Parse.{IsNumeralModel, numerals_by_value, tells_all_ascii_digits, parse_plain}
use Rattle.std.proofs.lemmas.Bool.{ltb-true}
use Rattle.std.proofs.lemmas.Bool.Decides.{nat_tests}
use Rattle.sd_chain.specs.Picks.{picks_of, with_pick, pick_of}

-- ---- one word

abbrev IsNumber : List ℕ → Type 0
IsNumber word = (all_ascii_digits word ≡ true) × (0 < length word) × (digits_value 10 word < 2 ^ 64)

own : IsNumeralModel (λ word. all_ascii_digits word ≡ true) (digits_value 10)
own = numerals_by_value (λ word. all_ascii_digits word ≡ true) tells_all_ascii_digits

parsed : {E : Type 0} (word : List ℕ) (r : Result ℕ E) → ParsesUnsigned 64 10 word r → get_or word 0 0 ≢ 43 → OkIff r (IsNumber word) (digits_value 10 word)
parsed word r h plain = parse_plain own 64 word r h plain

below : (a b : ℕ) → a < b → nat_lt a b ≡ true
below a b h = grind (arith, nat_tests)

by_tests : (word : List ℕ) (digits fits : Bool) → all_ascii_digits word ≡ digits → nat_lt (digits_value 10 word) (2 ^ 64) ≡ fits
    → pick_of word ≡ (if digits && fits then Some (digits_value 10 word) else None)
by_tests word digits fits d f = ap (λ digits. if digits && nat_lt (digits_value 10 word) (2 ^ 64) then Some (digits_value 10 word) else None) d
    ∙ ap (λ fits. if digits && fits then Some (digits_value 10 word) else None) f

-- a word that is parsed
pub pick-ok : {E : Type 0} (word : List ℕ) (pick : ℕ) (r : Result ℕ E) → r ≡ Ok pick → ParsesUnsigned 64 10 word r → get_or word 0 0 ≢ 43 → Some pick ≡ pick_of word
pick-ok {E} word pick r is h plain =
    let got : IsNumber word × (pick ≡ digits_value 10 word) = subst (λ r. OkIff r (IsNumber word) (digits_value 10 word)) is (parsed word r h plain) in
    sym (by_tests word true true got.0.0 (below _ _ got.0.2) ∙ ap Some (sym got.1))

none_by : (word : List ℕ) (digits fits : Bool) → all_ascii_digits word ≡ digits → nat_lt (digits_value 10 word) (2 ^ 64) ≡ fits → 0 < length word → ¬ (IsNumber word) → pick_of word ≡ None
none_by word true true d f some lacks = absurd (lacks (d, some, ltb-true _ _ f))
none_by word true false d f some lacks = by_tests word true false d f
none_by word false fits d f some lacks = by_tests word false fits d f

-- and one that is not
pub pick-err : {E : Type 0} (word : List ℕ) (error : E) (r : Result ℕ E) → r ≡ Err error → ParsesUnsigned 64 10 word r → get_or word 0 0 ≢ 43 → 0 < length word → None ≡ pick_of word
pick-err {E} word error r is h plain some =
    let lacks : ¬ (IsNumber word) = subst (λ r. OkIff r (IsNumber word) (digits_value 10 word)) is (parsed word r h plain) in
    sym (none_by word (all_ascii_digits word) (nat_lt (digits_value 10 word) (2 ^ 64)) refl refl some lacks)

-- ---- one word after another

-- picks that were read before the others
abbrev pub behind : (read : List ℕ) → Result (List ℕ) ℕ → Result (List ℕ) ℕ
behind read (Ok picks) = Ok (read ++ picks)
behind read (Err number) = Err number

behind-none : (reading : Result (List ℕ) ℕ) → reading ≡ behind [] reading
behind-none (Ok picks) = refl
behind-none (Err number) = refl

pub begins : (all : List (List ℕ)) → picks_of 1 all ≡ behind [] (picks_of 1 all)
begins all = behind-none (picks_of 1 all)

behind-push : (read : List ℕ) (pick number : ℕ) (later : Result (List ℕ) ℕ) → behind read (with_pick number (Some pick) later) ≡ behind (read ++ pick ∷ []) later
behind-push read pick number (Ok picks) = ap Ok (sym (append_assoc read (pick ∷ []) picks))
behind-push read pick number (Err other) = refl

pub goes_on : (reading : Result (List ℕ) ℕ) (read : List ℕ) (pick : ℕ) (word : List ℕ) (all later : List (List ℕ)) → all ≡ word ∷ later → Some pick ≡ pick_of word
    → reading ≡ behind read (picks_of (length read + 1) all)
    → reading ≡ behind (read ++ pick ∷ []) (picks_of (length (read ++ pick ∷ []) + 1) later)
goes_on reading read pick word all later parted is so_far =
    let number : suc (length read + 1) ≡ length (read ++ pick ∷ []) + 1 = omega (arith, length-append read (pick ∷ [])) in
    so_far ∙ ap (λ all. behind read (picks_of (length read + 1) all)) parted
    ∙ ap (λ found. behind read (with_pick (length read + 1) found (picks_of (suc (length read + 1)) later))) (sym is)
    ∙ behind-push read pick (length read + 1) (picks_of (suc (length read + 1)) later)
    ∙ ap (λ n. behind (read ++ pick ∷ []) (picks_of n later)) number

pub refused : (reading : Result (List ℕ) ℕ) (read : List ℕ) (word : List ℕ) (all later : List (List ℕ)) → all ≡ word ∷ later → None ≡ pick_of word
    → reading ≡ behind read (picks_of (length read + 1) all) → reading ≡ Err (length read + 1)
refused reading read word all later parted is so_far =
    so_far ∙ ap (λ all. behind read (picks_of (length read + 1) all)) parted
    ∙ ap (λ found. behind read (with_pick (length read + 1) found (picks_of (suc (length read + 1)) later))) (sym is)

pub ends : (reading : Result (List ℕ) ℕ) (read : List ℕ) (all : List (List ℕ)) → all ≡ [] → reading ≡ behind read (picks_of (length read + 1) all) → reading ≡ Ok read
ends reading read all is so_far = so_far ∙ ap (λ all. behind read (picks_of (length read + 1) all)) is ∙ ap Ok (append-nil read)

pub ruleset steps = (begins, goes_on, refused, ends)
