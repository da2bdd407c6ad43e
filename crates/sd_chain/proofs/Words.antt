-- The first word of a text, and the others.
use Rattle.std.proofs.Common.{◌≡◌, ℕ, suc, ◌+◌, ◌-◌, ◌<◌, ◌≤◌, List, [], ◌∷◌, length, take, drop, get_or, Some, None, refl, ap, sym, ◌∙◌, subst, arith, true, false, Bool, cond, nat_lt, not, drop-cons, length-take, length-drop, take_all, drop_of_length-le, add-one, one-add}
use Rattle.std.specs.List.{slice_split, filter, position, position_or_len, before_first, after_first}
use Rattle.std.proofs.lemmas.Bool.{ltb-true, ltb-false}
use Rattle.std.proofs.lemmas.List.Splits.{slice_split_first, slice_split_none, slice_split-cons_yes}
use Rattle.std.proofs.lemmas.List.Sums.{fails_before_first, passes_at_first, prefix_len-le-length}
use Rattle.sd_chain.specs.Picks.{is_blank, is_in_word, has_bytes, words, IsFirstWord}

-- ---- places

nothing : (at : ℕ) → None ≡ Some at → ⊥
nothing at h = cc

something : (found : ℕ) → Some found ≡ None → ⊥
something found h = cc

some_is : (test : Bool) (found at : ℕ) → cond test (Some found) None ≡ Some at → (test ≡ true) × (found ≡ at)
some_is true found at h = let same : found ≡ at = cc in (refl, same)
some_is false found at h = absurd (nothing at h)

none_is : (test : Bool) (found : ℕ) → cond test (Some found) None ≡ None → test ≡ false
none_is true found h = absurd (something found h)
none_is false found h = refl

-- a place that is found
pub found-is : (p : ℕ → Bool) (bytes : List ℕ) (at : ℕ) → position p bytes ≡ Some at → (position_or_len p bytes ≡ at) × (at < length bytes)
found-is p bytes at h =
    let both = some_is (nat_lt (position_or_len p bytes) (length bytes)) (position_or_len p bytes) at h in
    (both.1, subst (λ n. n < length bytes) both.1 (ltb-true _ _ both.0))

-- and where none is found
pub none-is : (p : ℕ → Bool) (bytes : List ℕ) → position p bytes ≡ None → length bytes ≡ position_or_len p bytes
none-is p bytes h =
    let past : length bytes ≤ position_or_len p bytes = ltb-false _ _ (none_is (nat_lt (position_or_len p bytes) (length bytes)) (position_or_len p bytes) h) in
    omega (arith, past, prefix_len-le-length (λ x. not (p x)) bytes)

-- ---- words

has_some : (bytes : List ℕ) → 0 < length bytes → has_bytes bytes ≡ true
has_some [] some = absurd (omega arith)
has_some (byte ∷ bytes) some = refl

abbrev words_by : (p : ℕ → Bool) → List ℕ → List (List ℕ)
words_by p text = filter has_bytes (slice_split p text)

from_step : (p : ℕ → Bool) (byte : ℕ) (bytes : List ℕ) (blank : Bool) → p byte ≡ blank → (rest : ℕ)
    → words_by p bytes ≡ words_by p (drop rest bytes)
    → words_by p (byte ∷ bytes) ≡ words_by p (drop (cond (not (not blank)) (1 + rest) 0) (byte ∷ bytes))
from_step p byte bytes true h rest before = ap (filter has_bytes) (slice_split-cons_yes p byte bytes h) ∙ before ∙ ap (λ n. words_by p (drop n (byte ∷ bytes))) (sym (one-add rest))
from_step p byte bytes false h rest before = refl

-- blanks before the first word are nothing
words-from : (text : List ℕ) → words text ≡ words (drop (position_or_len is_in_word text) text)
words-from [] = refl
words-from (byte ∷ bytes) = from_step is_blank byte bytes (is_blank byte) refl (position_or_len is_in_word bytes) (words-from bytes)

-- a text of blanks has no words
pub words-none : (text : List ℕ) → length text ≡ position_or_len is_in_word text → words text ≡ []
words-none text h = words-from text ∙ ap words (drop_of_length-le text (omega arith))

kept : (part : List ℕ) (parts : List (List ℕ)) → 0 < length part → filter has_bytes (part ∷ parts) ≡ part ∷ filter has_bytes parts
kept part parts some = ap (λ b. cond b (part ∷ filter has_bytes parts) (filter has_bytes parts)) (has_some part some)

-- a word ends at the first blank
word_ends : (p : ℕ → Bool) (text : List ℕ) → 0 < position_or_len p text → position_or_len p text < length text
    → words_by p text ≡ take (position_or_len p text) text ∷ words_by p (drop (position_or_len p text) text)
word_ends p text some within =
    let n = position_or_len p text in
    let parted : slice_split p text ≡ before_first p text ∷ slice_split p (after_first p text) = slice_split_first p text 0 within in
    let word : 0 < length (before_first p text) = omega (arith, length-take n text) in
    let behind : drop n text ≡ get_or text n 0 ∷ drop (suc n) text = drop-cons text n 0 within in
    let blank : p (get_or text n 0) ≡ true = passes_at_first p text 0 within in
    let rest : words_by p (drop n text) ≡ words_by p (drop (suc n) text) =
    ap (words_by p) behind ∙ ap (filter has_bytes) (slice_split-cons_yes p (get_or text n 0) (drop (suc n) text) blank) in
    ap (filter has_bytes) parted ∙ kept (before_first p text) (slice_split p (after_first p text)) word
    ∙ ap (λ parts. before_first p text ∷ parts) (ap (λ k. words_by p (drop k text)) (add-one n) ∙ sym rest)

-- the last word ends with its text
word_last : (p : ℕ → Bool) (text : List ℕ) → 0 < length text → position_or_len p text ≡ length text
    → words_by p text ≡ take (position_or_len p text) text ∷ words_by p (drop (position_or_len p text) text)
word_last p text some all =
    let n = position_or_len p text in
    let parted : slice_split p text ≡ text ∷ [] = slice_split_none p text (λ k d within. fails_before_first p text k d (omega arith)) in
    let whole : take n text ≡ text = take_all n text (omega arith) in
    let behind : drop n text ≡ [] = drop_of_length-le text (omega arith) in
    ap (filter has_bytes) parted ∙ kept text [] some
    ∙ ap (λ word. word ∷ []) (sym whole) ∙ ap (λ rest. take n text ∷ words_by p rest) (sym behind)

word_split : (p : ℕ → Bool) (text : List ℕ) (within : Bool) → nat_lt (position_or_len p text) (length text) ≡ within → 0 < position_or_len p text
    → words_by p text ≡ take (position_or_len p text) text ∷ words_by p (drop (position_or_len p text) text)
word_split p text true h some = word_ends p text some (ltb-true _ _ h)
word_split p text false h some =
    let most = prefix_len-le-length (λ x. not (p x)) text in
    let all : position_or_len p text ≡ length text = omega (arith, most, ltb-false _ _ h) in
    word_last p text (omega arith) all

not_false : (blank : Bool) → not blank ≡ true → blank ≡ false
not_false true h = absurd cc
not_false false h = refl

-- a byte of a word is no blank
word_begins : (p : ℕ → Bool) (text : List ℕ) → 0 < length text → p (get_or text 0 0) ≡ false → 0 < position_or_len p text
word_begins p [] some h = absurd (omega arith)
word_begins p (byte ∷ bytes) some h = subst (λ b. 0 < cond (not b) (1 + position_or_len p bytes) 0) (sym h) (omega arith)

pub within_text : (p : ℕ → Bool) (bytes : List ℕ) (end : ℕ) → end ≡ position_or_len p bytes → end ≤ length bytes
within_text p bytes end h = omega (arith, prefix_len-le-length (λ x. not (p x)) bytes)

first_parts : (text : List ℕ) (begin end : ℕ) → position_or_len is_in_word text ≡ begin → begin < length text → end ≡ position_or_len is_blank (drop begin text)
    → IsFirstWord text (take end (drop begin text)) (drop end (drop begin text))
first_parts text begin end at within ends =
    let from = drop begin text in
    let is : from ≡ get_or text begin 0 ∷ drop (suc begin) text = drop-cons text begin 0 within in
    let passes : is_in_word (get_or text begin 0) ≡ true = subst (λ n. is_in_word (get_or text n 0) ≡ true) at (passes_at_first is_in_word text 0 (omega arith)) in
    let begins : is_blank (get_or from 0 0) ≡ false = ap (λ l. is_blank (get_or l 0 0)) is ∙ not_false (is_blank (get_or text begin 0)) passes in
    let long : length from ≡ length text - begin = length-drop begin text in
    let some : 0 < position_or_len is_blank from = word_begins is_blank from (omega arith) begins in
    let most = prefix_len-le-length is_in_word from in
    let split = word_split is_blank from (nat_lt (position_or_len is_blank from) (length from)) refl some in
    let all : words text ≡ words from = words-from text ∙ ap (λ n. words (drop n text)) at in
    record {
      parted = subst (λ n. words text ≡ take n from ∷ words (drop n from)) (sym ends) (all ∙ split);
      some = omega (arith, length-take end from, most);
      shorter = omega (arith, length-drop end from);
    }

-- the first word of a text
pub first-split : (text from word rest : List ℕ) (begin end : ℕ) → position is_in_word text ≡ Some begin → from ≡ drop begin text → end ≡ position_or_len is_blank from
    → word ≡ take end from → rest ≡ drop end from → IsFirstWord text word rest
first-split text from word rest begin end at is ends first others =
    let found = found-is is_in_word text begin at in
    subst (λ rest. IsFirstWord text word rest) (sym (others ∙ ap (drop end) is))
    (subst (λ word. IsFirstWord text word (drop end (drop begin text))) (sym (first ∙ ap (take end) is))
    (first_parts text begin end found.0 found.1 (ends ∙ ap (position_or_len is_blank) is)))
