-- The physical lines of a text, one after another.
use Rattle.std.proofs.Common.{◌≡◌, ℕ, ◌+◌, ◌-◌, ◌<◌, ◌≤◌, List, [], ◌∷◌, length, take, drop, Some, None, refl, ap, sym, ◌∙◌, arith, true, false, Bool, cond, nat_lt, nat_eq, if◌then◌else◌, suc, length-take, length-drop}
use Rattle.std.specs.List.{slice_split, position, position_or_len, ends_with}
use Rattle.std.proofs.lemmas.List.{drop-drop}
use Rattle.std.proofs.lemmas.Bool.{ltb-true}
use Rattle.std.proofs.lemmas.Bool.Decides.{nat_tests}
use Rattle.std.proofs.lemmas.List.Splits.{slice_split_first, slice_split_none, length-slice_split}
use Rattle.std.proofs.lemmas.List.Sums.{fails_before_first}
use Rattle.sd_lex.specs.Bytes.{is_newline}
use Rattle.sd_lex.specs.Line.{physical_line}
use Rattle.sd_lex.specs.Lines.{numbered, less_return}

-- a place that is found
pub record IsFound (bytes : List ℕ) (at : ℕ) : Type 0 where
  pub is : position_or_len is_newline bytes ≡ at
  pub within : at < length bytes

nothing : (at : ℕ) → None ≡ Some at → ⊥
nothing at h = cc

something : (found : ℕ) → Some found ≡ None → ⊥
something found h = cc

some_is : (test : Bool) (found at : ℕ) → cond test (Some found) None ≡ Some at → (test ≡ true) × (found ≡ at)
some_is true found at h = let same : found ≡ at = cc in (refl, same)
some_is false found at h = absurd (nothing at h)

none_is : (test : Bool) (found : ℕ) → cond test (Some found) None ≡ None → test ≡ false
none_is true found h = absurd (something found h)
none_is false found h = refl

newline_found : (bytes : List ℕ) (at : ℕ) → position is_newline bytes ≡ Some at → IsFound bytes at
newline_found bytes at h =
    let both = some_is (nat_lt (position_or_len is_newline bytes) (length bytes)) (position_or_len is_newline bytes) at h in
    let below : position_or_len is_newline bytes < length bytes = ltb-true _ _ both.0 in
    record { is = both.1; within = omega (arith, both.1, below) }

numbered-cons : (number from : ℕ) (part : List ℕ) (parts : List (List ℕ)) → 0 < length parts → numbered number from (part ∷ parts) ≡ physical_line number from (less_return part) ∷ numbered (number + 1) (from + length part + 1) parts
numbered-cons number from part [] some = absurd (omega arith)
numbered-cons number from part (next ∷ parts) some = refl

pub length-numbered : (number from : ℕ) (parts : List (List ℕ)) → length (numbered number from parts) ≡ length parts
length-numbered number from [] = refl
length-numbered number from (part ∷ []) = refl
length-numbered number from (part ∷ next ∷ parts) = ap suc (length-numbered (number + 1) (from + length part + 1) (next ∷ parts))

not_less : (a b : ℕ) → nat_lt a b ≡ false → b ≤ a
not_less a b h = grind (arith, nat_tests, h)

-- the lines of a text without a newline
pub last_line : (rest : List ℕ) → position is_newline rest ≡ None → slice_split is_newline rest ≡ rest ∷ []
last_line rest h =
    let past : nat_lt (position_or_len is_newline rest) (length rest) ≡ false = none_is (nat_lt (position_or_len is_newline rest) (length rest)) (position_or_len is_newline rest) h in
    let all : length rest ≤ position_or_len is_newline rest = not_less _ _ past in
    slice_split_none is_newline rest (λ k d within. fails_before_first is_newline rest k d (omega arith))

shorter : (test : Bool) (bytes : List ℕ) → length (if test then take (length bytes - 1) bytes else bytes) ≤ length bytes
shorter true bytes = omega (arith, length-take (length bytes - 1) bytes)
shorter false bytes = omega arith

-- a carriage return less is no byte more
pub less_return_shorter : (bytes : List ℕ) → length (less_return bytes) ≤ length bytes
less_return_shorter bytes = shorter (ends_with nat_eq bytes (13 ∷ [])) bytes

-- the first line from a place on, and the lines behind it
module _ (text : List ℕ) (number from at : ℕ) (h : position is_newline (drop from text) ≡ Some at) where
  pub first_parts : slice_split is_newline (drop from text) ≡ take at (drop from text) ∷ slice_split is_newline (drop (from + (at + 1)) text)
  first_parts =
      let rest = drop from text in
      let found = newline_found rest at h in
      let below : position_or_len is_newline rest < length rest = omega (arith, found.is, found.within) in
      slice_split_first is_newline rest 0 below
      ∙ ap (λ n. take n rest ∷ slice_split is_newline (drop (n + 1) rest)) found.is
      ∙ ap (λ behind. take at rest ∷ slice_split is_newline behind) (drop-drop (at + 1) from text)

  pub first_within : from + (at + 1) ≤ length text
  first_within =
      let found = newline_found (drop from text) at h in
      omega (arith, found.within, length-drop from text)

  pub first_line : (bytes : List ℕ) → bytes ≡ less_return (take at (drop from text)) →
      numbered number from (slice_split is_newline (drop from text)) ≡ physical_line number from bytes ∷ numbered (number + 1) (from + (at + 1)) (slice_split is_newline (drop (from + (at + 1)) text))
  first_line bytes is =
      let rest = drop from text in
      let behind = slice_split is_newline (drop (from + (at + 1)) text) in
      let found = newline_found rest at h in
      let some : 0 < length behind = omega (arith, length-slice_split is_newline (drop (from + (at + 1)) text)) in
      let ends : from + length (take at rest) + 1 ≡ from + (at + 1) = omega (arith, length-take at rest, found.within) in
      ap (numbered number from) first_parts
      ∙ numbered-cons number from (take at rest) behind some
      ∙ ap (λ place. physical_line number from (less_return (take at rest)) ∷ numbered (number + 1) place behind) ends
      ∙ ap (λ line. physical_line number from line ∷ numbered (number + 1) (from + (at + 1)) behind) (sym is)
