-- The picks of a picks file.
use Rattle.std.specs.Prelude.{◌≡◌, ⊤, ◌<◌, ℕ, suc, ◌^◌, nat_lt, List, [], ◌∷◌, length, Option, Some, None, Result, Ok, Err, Bool, true, false, not, ◌||◌, ◌&&◌, ◌==◌, if◌then◌else◌}
use Rattle.std.specs.List.{filter, slice_split}
use Rattle.std.specs.Str.{all_ascii_digits}
use Rattle.std.specs.Str.Parse.{digits_value}
use Rattle.sd_chain.specs.declared.error.PicksError.{PicksError}
use Rattle.sd_chain.specs.declared.error.PicksError.TheVariants.{NoForm, Memory}

-- a space or a newline
abbrev pub is_blank : ℕ → Bool
is_blank byte = byte == 32 || byte == 10

abbrev pub is_in_word : ℕ → Bool
is_in_word byte = not (is_blank byte)

abbrev pub has_bytes : List ℕ → Bool
has_bytes [] = false
has_bytes (byte ∷ bytes) = true

-- the words of a text: what stands between spaces and newlines
abbrev pub words : (text : List ℕ) → List (List ℕ)
words text = filter has_bytes (slice_split is_blank text)

-- the first word of a text, and the rest behind it
pub record IsFirstWord (text word rest : List ℕ) : Type 0 where
  pub parted : words text ≡ word ∷ words rest
  pub some : 0 < length word
  pub shorter : length rest < length text

-- the pick that a word writes: decimal digits alone, with a number below 2^64
abbrev pub pick_of : (word : List ℕ) → Option ℕ
pick_of word = if all_ascii_digits word && nat_lt (digits_value 10 word) (2 ^ 64) then Some (digits_value 10 word) else None

-- a word's pick before those of later words, or the number of the first word that writes none
abbrev pub with_pick : (number : ℕ) → Option ℕ → Result (List ℕ) ℕ → Result (List ℕ) ℕ
with_pick number None later = Err number
with_pick number (Some pick) (Ok picks) = Ok (pick ∷ picks)
with_pick number (Some pick) (Err other) = Err other

-- the picks that words write, the first of which has this number
abbrev pub picks_of : (number : ℕ) → (words : List (List ℕ)) → Result (List ℕ) ℕ
picks_of number [] = Ok []
picks_of number (word ∷ words) = with_pick number (pick_of word) (picks_of (suc number) words)

-- the picks of a text, or the number of its first word that is none, counted from 1
abbrev pub picks_reading : (text : List ℕ) → Result (List ℕ) ℕ
picks_reading text = picks_of 1 (words text)

-- a refusal tells the word that is none; want of memory is free
abbrev pub IsRefusal : Result (List ℕ) ℕ → PicksError → Type 0
IsRefusal reading (NoForm number) = reading ≡ Err number
IsRefusal reading Memory = ⊤
