-- The lines of the numbers below a count, cut at one of them.
use Rattle.std.proofs.Common.{◌≡◌, ℕ, ◌+◌, ◌<◌, List, [], ◌∷◌, ◌++◌, map, take, drop, length, get_or, ap, sym, ◌∙◌, arith, append-nil}
use Rattle.std.specs.List.{flat_map, range_with_len}
use Rattle.std.proofs.lemmas.List.{take-append-drop, drop_more}
use Rattle.std.proofs.lemmas.List.Concat.{flat_map-append}
use Rattle.std.proofs.lemmas.List.Folds.{flat_map-map}
use Rattle.std.proofs.lemmas.List.FromFn.{map-range_with_len_more, length-map-range_with_len, get_or-map-range_with_len, take-map-range_with_len}

-- one line more
pub more_lines : (line : ℕ → List ℕ) (number : ℕ) → flat_map line (range_with_len 0 number) ++ line number ≡ flat_map line (range_with_len 0 (number + 1))
more_lines line number =
    (λ i. sym (flat_map-map (λ (l : List ℕ). l) line (range_with_len 0 number)) i ++ sym (append-nil (line number)) i)
    ∙ sym (flat_map-append (λ (l : List ℕ). l) (map line (range_with_len 0 number)) (line number ∷ []))
    ∙ ap (flat_map (λ (l : List ℕ). l)) (sym (map-range_with_len_more line 0 number number (omega arith)))
    ∙ flat_map-map (λ (l : List ℕ). l) line (range_with_len 0 (number + 1))

-- what comes before a line, the line, and what comes after it
cut : (lines : List (List ℕ)) (number : ℕ) (line : List ℕ) → number < length lines → line ≡ get_or lines number line →
    flat_map (λ (l : List ℕ). l) lines ≡ flat_map (λ (l : List ℕ). l) (take number lines) ++ (line ++ flat_map (λ (l : List ℕ). l) (drop (number + 1) lines))
cut lines number line within item =
    ap (flat_map (λ (l : List ℕ). l)) (sym (take-append-drop number lines))
    ∙ flat_map-append (λ (l : List ℕ). l) (take number lines) (drop number lines)
    ∙ ap (λ rest. flat_map (λ (l : List ℕ). l) (take number lines) ++ flat_map (λ (l : List ℕ). l) rest) (drop_more lines number line within)
    ∙ ap (λ y. flat_map (λ (l : List ℕ). l) (take number lines) ++ (y ++ flat_map (λ (l : List ℕ). l) (drop (number + 1) lines))) (sym item)

pub lines_cut : (line : ℕ → List ℕ) (count number : ℕ) → number < count →
    (others : List ℕ) × (flat_map line (range_with_len 0 count) ≡ flat_map line (range_with_len 0 number) ++ (line number ++ others))
lines_cut line count number within =
    let lines = map line (range_with_len 0 count) in
    let others = flat_map (λ (l : List ℕ). l) (drop (number + 1) lines) in (
      others,
      sym (flat_map-map (λ (l : List ℕ). l) line (range_with_len 0 count))
          ∙ cut lines number (line number) (rw (length-map-range_with_len line 0 count) within) (sym (get_or-map-range_with_len line 0 count number number (line number) within (omega arith)))
          ∙ ap (λ front. flat_map (λ (l : List ℕ). l) front ++ (line number ++ others)) (take-map-range_with_len line 0 count number (omega arith))
          ∙ ap (λ front. front ++ (line number ++ others)) (flat_map-map (λ (l : List ℕ). l) line (range_with_len 0 number)),
    )
