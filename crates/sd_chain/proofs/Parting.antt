-- The first part of a text.
use Rattle.std.proofs.Common.{◌≡◌, ℕ, suc, ◌-◌, ◌<◌, List, ◌∷◌, length, take, drop, get_or, Some, None, ap, sym, ◌∙◌, subst, arith, Bool, drop-cons, length-drop, take_all, add-one, ◌==◌}
use Rattle.std.specs.List.{slice_split, position, position_or_len}
use Rattle.std.proofs.lemmas.List.Splits.{slice_split_first, slice_split_none}
use Rattle.std.proofs.lemmas.List.Sums.{fails_before_first}
use Rattle.sd_chain.specs.Parts.{IsFirstPart}
use Rattle.sd_chain.proofs.Words.{found-is, none-is}

tail_of : (behind : List ℕ) (byte : ℕ) (rest : List ℕ) → behind ≡ byte ∷ rest → take (length behind - 1) (drop 1 behind) ≡ rest
tail_of behind byte rest is = ap (λ behind. take (length behind - 1) (drop 1 behind)) is ∙ take_all (length (byte ∷ rest) - 1) rest (omega arith)

cut_at : (p : ℕ → Bool) (text : List ℕ) → position_or_len p text < length text →
    (slice_split p text ≡ take (position_or_len p text) text ∷ slice_split p (take (length (drop (position_or_len p text) text) - 1) (drop 1 (drop (position_or_len p text) text))))
    × (length (take (length (drop (position_or_len p text) text) - 1) (drop 1 (drop (position_or_len p text) text))) < length text)
cut_at p text within =
    let n = position_or_len p text in
    let tail : take (length (drop n text) - 1) (drop 1 (drop n text)) ≡ drop (suc n) text = tail_of (drop n text) (get_or text n 0) (drop (suc n) text) (drop-cons text n 0 within) in (
      (slice_split_first p text 0 within ∙ ap (λ rest. take n text ∷ slice_split p rest) (ap (λ k. drop k text) (add-one n) ∙ sym tail)),
      subst (λ rest. length rest < length text) (sym tail) (omega (arith, length-drop (suc n) text, within)),
    )

some_parts : (sign : ℕ) (text : List ℕ) (end : ℕ) → position_or_len (λ byte. byte == sign) text ≡ end → end < length text →
    IsFirstPart sign text (take end text) (Some (take (length (drop end text) - 1) (drop 1 (drop end text))))
some_parts sign text end at within =
    let cut = cut_at (λ byte. byte == sign) text (subst (λ n. n < length text) (sym at) within) in
    subst (λ end. IsFirstPart sign text (take end text) (Some (take (length (drop end text) - 1) (drop 1 (drop end text))))) at (record { parted = cut.0; shorter = cut.1 })

-- a part that ends
pub part-some : (sign : ℕ) (text part behind : List ℕ) (end : ℕ) → position (λ byte. byte == sign) text ≡ Some end → part ≡ take end text → behind ≡ drop end text →
    IsFirstPart sign text part (Some (take (length behind - 1) (drop 1 behind)))
part-some sign text part behind end at first rest =
    let found = found-is (λ byte. byte == sign) text end at in
    subst (λ part. IsFirstPart sign text part (Some (take (length behind - 1) (drop 1 behind)))) (sym first)
    (subst (λ behind. IsFirstPart sign text (take end text) (Some (take (length behind - 1) (drop 1 behind)))) (sym rest) (some_parts sign text end found.0 found.1))

-- and one that is the whole text
pub part-none : (sign : ℕ) (text : List ℕ) → position (λ byte. byte == sign) text ≡ None → IsFirstPart sign text text None
part-none sign text at =
    let p : ℕ → Bool = λ byte. byte == sign in
    let all : length text ≡ position_or_len p text = none-is p text at in
    record { parted = slice_split_none p text (λ k d within. fails_before_first p text k d (omega arith)); shorter = tt }
