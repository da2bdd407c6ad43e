-- Tokens by their look: names and signs with given bytes, names, numbers.
use Rattle.std.specs.Prelude.{ℕ, ℤ, List, [], ◌∷◌, pos, codes, int_le, Bool, true, false, Option, Some, None, if◌then◌else◌}
use Rattle.std.specs.Option.{option_and_then}
use Rattle.std.specs.Ordering.{int_eq}
use Rattle.sd_phrase.specs.declared.word.Piece.{Piece}
use Rattle.sd_phrase.specs.declared.word.Word.{Word}
use Rattle.sd_phrase.specs.declared.word.Word.TheVariants.{Number}
use Rattle.sd_phrase.specs.Words.{is_name, is_spelled, spelling}

-- the tokens behind one with these bytes
abbrev pub next : (text word : List ℕ) → List Piece → Option (List Piece)
next text word [] = None
next text word (t ∷ ts) = if is_spelled text t word then Some ts else None

-- the tokens behind those of a phrase
abbrev pub after : (text : List ℕ) → (phrase : List (List ℕ)) → List Piece → Option (List Piece)
after text [] ts = Some ts
after text (word ∷ phrase) ts = option_and_then (λ rest. after text phrase rest) (next text word ts)

-- nothing is left
abbrev pub is_at_end : Option (List Piece) → Bool
is_at_end None = false
is_at_end (Some []) = true
is_at_end (Some (t ∷ ts)) = false

-- the tokens are those of a phrase
abbrev pub is_phrase : (text : List ℕ) → (phrase : List (List ℕ)) → List Piece → Bool
is_phrase text phrase ts = is_at_end (after text phrase ts)

-- the first token is a name; its bytes, and the tokens behind it
abbrev pub name_first : List ℕ → List Piece → Option (List ℕ × List Piece)
name_first text [] = None
name_first text (t ∷ ts) = if is_name t.word then Some (spelling text t, ts) else None

-- the tokens are one name
abbrev pub lone_name : List ℕ → List Piece → Option (List ℕ)
lone_name text (t ∷ []) = if is_name t.word then Some (spelling text t) else None
lone_name text ts = None

-- the number that a word is
abbrev pub number_by : Word → Option ℤ
number_by (Number value) = Some value
number_by word = None

-- the tokens are one number
abbrev pub lone_number : List Piece → Option ℤ
lone_number (t ∷ []) = number_by t.word
lone_number ts = None

-- a number with the tokens behind it
abbrev pub numbered : Option ℤ → List Piece → Option (ℤ × List Piece)
numbered None ts = None
numbered (Some value) ts = Some (value, ts)

-- the first token is a number; its value, and the tokens behind it
abbrev pub number_first : List Piece → Option (ℤ × List Piece)
number_first [] = None
number_first (t ∷ ts) = numbered (number_by t.word) ts

-- the tokens behind a number that is 1
abbrev pub if_one : Option (ℤ × List Piece) → Option (List Piece)
if_one None = None
if_one (Some found) = if int_eq found.0 (pos 1) then Some found.1 else None

-- the first tokens are - and 1; those behind them
abbrev pub minus_one : List ℕ → List Piece → Option (List Piece)
minus_one text ts = option_and_then (λ rest. if_one (number_first rest)) (next text (codes "-") ts)

-- a number from 1 on
abbrev pub from_one : Option ℤ → Option ℤ
from_one None = None
from_one (Some value) = if int_le (pos 1) value then Some value else None

-- the tokens are one number from 1 on, as a step is
abbrev pub step_of : List Piece → Option ℤ
step_of ts = from_one (lone_number ts)

-- the tokens are a colon
abbrev pub is_colon : List ℕ → List Piece → Bool
is_colon text ts = is_phrase text (codes ":" ∷ []) ts

-- what is in brackets that only a colon stands behind
abbrev pub header : List ℕ → Option (List Piece × List Piece) → Option (List Piece)
header text None = None
header text (Some cut) = if is_colon text cut.1 then Some cut.0 else None
