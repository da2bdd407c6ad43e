-- What pieces are: the points whose first number is among so many values.
use Rattle.std.proofs.Common.{◌≡◌, ◌↔◌, ◌<◌, ◌+◌, ◌++◌, ℕ, ℤ, List, [], ◌∷◌, length, take, drop, map, sum, refl, ap, sym, ◌∙◌, arith}
use Rattle.std.proofs.Math.Seq.{take-add}
use Rattle.std.specs.List.{Contains, flat_map}
use Rattle.std.proofs.lemmas.List.{drop-drop, take_all}
use Rattle.std.proofs.lemmas.List.Concat.{flat_map-append}
use Rattle.std.proofs.lemmas.List.Sums.{sum_by-cons}
use Rattle.sd_range.specs.Points.{tuples, piece_of, first_values, points_of_pieces}
use Rattle.sd_range.proofs.Members.{Contains-from_take, Contains-from_drop}
use Rattle.sd_range.proofs.TupleLaws.{begun_by, one_of_each, each_choice}

-- a piece keeps the points whose first number is among its values
pub piece-points : (first count : ℕ) (firsts : List ℤ) (others : List (List ℤ)) (number : ℤ) (rest : List ℤ) →
    (Contains (tuples (piece_of first count (firsts ∷ others))) (number ∷ rest)) ↔ ((Contains (tuples (firsts ∷ others)) (number ∷ rest)) × (Contains (take count (drop first firsts)) number))
piece-points first count firsts others number rest = (
  λ member.
      let choice = one_of_each (take count (drop first firsts) ∷ others) (number ∷ rest) member in
      (each_choice (firsts ∷ others) (number ∷ rest) (Contains-from_drop first firsts number (Contains-from_take count (drop first firsts) number choice.0), choice.1), choice.0),
  λ (member, among).
      each_choice (take count (drop first firsts) ∷ others) (number ∷ rest) (among, (one_of_each (firsts ∷ others) (number ∷ rest) member).1),
)

-- two pieces that follow each other are one
pieces-join : (first count more : ℕ) (firsts : List ℤ) → take count (drop first firsts) ++ take more (drop (first + count) firsts) ≡ take (count + more) (drop first firsts)
pieces-join first count more firsts =
    ap (λ rest. take count (drop first firsts) ++ take more rest) (sym (drop-drop count first firsts))
    ∙ sym (take-add count more (drop first firsts))

-- pieces that follow each other are one, of as many values as they have together
pub pieces-together : (first : ℕ) (counts : List ℕ) (firsts : List ℤ) (others : List (List ℤ)) →
    flat_map (λ piece. piece) (points_of_pieces first counts (firsts ∷ others)) ≡ tuples (take (sum counts) (drop first firsts) ∷ others)
pieces-together first [] firsts others = refl
pieces-together first (count ∷ counts) firsts others =
    ap (λ later. begun_by (take count (drop first firsts)) (tuples others) ++ later) (pieces-together (first + count) counts firsts others)
    ∙ sym (flat_map-append (λ number. map (λ rest. number ∷ rest) (tuples others)) (take count (drop first firsts)) (take (sum counts) (drop (first + count) firsts)))
    ∙ ap (λ numbers. begun_by numbers (tuples others)) (pieces-join first count (sum counts) firsts)
    ∙ ap (λ all. begun_by (take all (drop first firsts)) (tuples others)) (sym (sum_by-cons (λ n. n) count counts))

-- pieces over all values of the first parameter have all points, in order
pub pieces-all : (counts : List ℕ) (parameters : List (List ℤ)) → 0 < length parameters → sum counts ≡ length (first_values parameters) →
    flat_map (λ piece. piece) (points_of_pieces 0 counts parameters) ≡ tuples parameters
pieces-all counts [] some whole = absurd (omega arith)
pieces-all counts (firsts ∷ others) some whole =
    pieces-together 0 counts firsts others
    ∙ ap (λ count. begun_by (take count firsts) (tuples others)) whole
    ∙ ap (λ numbers. begun_by numbers (tuples others)) (take_all (length firsts) firsts (omega arith))
