-- How many physical lines a text has.
use Rattle.std.proofs.Common.{◌≡◌, ◌≤◌, ℕ, ◌+◌, List, [], ◌∷◌, length, take, Bool, true, false, cond, arith}
use Rattle.std.specs.List.{AllByRecursion, count_by, slice_split}
use Rattle.std.proofs.lemmas.List.Splits.{length-slice_split}
use Rattle.std.proofs.lemmas.List.Sums.{sum_by-cons}
use Rattle.sd_lex.specs.Bytes.{is_newline}
use Rattle.sd_lex.specs.Layout.{lexed}
use Rattle.sd_lex.specs.Lines.{numbered, physical_lines}
use Rattle.sd_lex.specs.Position.{line_count}
use Rattle.sd_lex.proofs.LinesLemmas.{length-numbered}
use Rattle.sd_read.proofs.told_lemmas.TextLines.{IsOn, IsLaid, layout_laid}

-- the number behind the last line of a text
abbrev pub behind_last : List ℕ → ℕ
behind_last text = line_count text + 1

at_most_one : (test : Bool) → cond test 1 0 ≤ 1
at_most_one true = grind arith
at_most_one false = grind arith

-- the last byte is at most one newline
but_last : (bytes : List ℕ) (byte : ℕ) → count_by is_newline (byte ∷ bytes) ≤ count_by is_newline (take (length bytes) (byte ∷ bytes)) + 1
but_last [] byte = omega (arith, at_most_one (is_newline byte))
but_last (next ∷ bytes) byte =
    let all : count_by is_newline (byte ∷ next ∷ bytes) ≡ cond (is_newline byte) 1 0 + count_by is_newline (next ∷ bytes) = sum_by-cons (λ x. cond (is_newline x) 1 0) byte (next ∷ bytes) in
    let first : count_by is_newline (take (length (next ∷ bytes)) (byte ∷ next ∷ bytes)) ≡ cond (is_newline byte) 1 0 + count_by is_newline (take (length bytes) (next ∷ bytes)) = sum_by-cons (λ x. cond (is_newline x) 1 0) byte (take (length bytes) (next ∷ bytes)) in
    omega (arith, all, first, but_last bytes next)

parts_few : (text : List ℕ) → length (slice_split is_newline text) ≤ behind_last text
parts_few [] = omega (arith, length-slice_split is_newline [])
parts_few (byte ∷ bytes) = omega (arith, length-slice_split is_newline (byte ∷ bytes), but_last bytes byte)

numbered_on : (high number from : ℕ) (parts : List (List ℕ)) → 1 ≤ number → number + length parts ≤ high + 1 → AllByRecursion (λ line. IsOn high line.number) (numbered number from parts)
numbered_on high number from [] low few = tt
numbered_on high number from (part ∷ []) low few = ((low, omega (arith, few)), tt)
numbered_on high number from (part ∷ next ∷ parts) low few =
    ((low, omega (arith, few)), numbered_on high (number + 1) (from + length part + 1) (next ∷ parts) (omega (arith, low)) (omega (arith, few)))

-- the tokens of a text stand on its lines or the one behind the last, and so does an error of them
pub lexed_laid : (text : List ℕ) → IsLaid (behind_last text) false (lexed text)
lexed_laid text =
    let parts = slice_split is_newline text in
    let count : length (physical_lines text) ≡ length parts = length-numbered 1 0 parts in
    let some : 1 ≤ length parts = omega (arith, length-slice_split is_newline text) in
    layout_laid (behind_last text) text (length (physical_lines text)) 0 [] false (physical_lines text) (omega (arith, count, some), omega (arith, count, parts_few text))
    (numbered_on (behind_last text) 1 0 parts (omega arith) (omega (arith, parts_few text))) tt
