-- How many points parameters have, and which one is in a place.
use Rattle.std.proofs.Common.{◌≡◌, ℕ, zero, suc, ◌+◌, ◌*◌, ◌/◌, ◌%◌, ◌-◌, ◌<◌, ℤ, pos, List, [], ◌∷◌, ◌++◌, map, length, take, drop, get_or, slice_get, Some, append_assoc, refl, sym, ap, ap₂, ◌∙◌, arith}
use Rattle.std.proofs.Math.Nat.{mod-lt}
use Rattle.std.proofs.lemmas.Nat.{div-add-mod'}
use Rattle.std.proofs.lemmas.List.{length-append, length-map, get_or_append_left, get_or-append-add, get_or-map, drop_more, length-drop}
use Rattle.std.proofs.Math.Seq.{take-length}
use Rattle.std.specs.List.{flat_map}
use Rattle.sd_range.specs.declared.range.Range.{Range}
use Rattle.sd_range.specs.Range.{range_values}
use Rattle.sd_range.specs.Points.{tuples, values_of_ranges, ranges_of}

-- each of these before each of those
abbrev pairs : List ℤ → List (List ℤ) → List (List ℤ)
pairs firsts others = flat_map (λ first. map (λ rest. first ∷ rest) others) firsts

pairs-long : (firsts : List ℤ) (others : List (List ℤ)) → length (pairs firsts others) ≡ length firsts * length others
pairs-long [] others = omega arith
pairs-long (first ∷ firsts) others =
    length-append (map (λ rest. first ∷ rest) others) (pairs firsts others)
    ∙ ap₂ (λ (a b : ℕ). a + b) (length-map others (λ rest. first ∷ rest)) (pairs-long firsts others)
    ∙ one-more (length firsts) (length others)
  where
    one-more : (n m : ℕ) → m + n * m ≡ suc n * m
    one-more n m = omega arith

pair-at : (firsts : List ℤ) (others : List (List ℤ)) (one other : ℕ) → one < length firsts → other < length others
    → get_or (pairs firsts others) (one * length others + other) [] ≡ get_or firsts one (pos 0) ∷ get_or others other []
pair-at [] others one other there within = absurd (omega (arith, there))
pair-at (first ∷ firsts) others zero other there within =
    let here : zero * length others + other ≡ other = omega arith in
    ap (λ (n : ℕ). get_or (pairs (first ∷ firsts) others) n []) here
    ∙ get_or_append_left (map (λ rest. first ∷ rest) others) (pairs firsts others) [] other (omega (arith, within, length-map others (λ rest. first ∷ rest)))
    ∙ get_or-map (λ rest. first ∷ rest) others other [] [] within
pair-at (first ∷ firsts) others (suc one) other there within =
    let on : suc one * length others + other ≡ length (map (λ rest. first ∷ rest) others) + (one * length others + other) = on-one (length others) (length (map (λ rest. first ∷ rest) others)) one other (length-map others (λ rest. first ∷ rest)) in
    ap (λ (n : ℕ). get_or (pairs (first ∷ firsts) others) n []) on
    ∙ get_or-append-add (map (λ rest. first ∷ rest) others) (pairs firsts others) (one * length others + other) []
    ∙ pair-at firsts others one other (omega (arith, there)) within
  where
    on-one : (m m' n k : ℕ) → m' ≡ m → suc n * m + k ≡ m' + (n * m + k)
    on-one m m' n k same = omega (arith, same)

module _ (values : List ℤ) where
  abbrev pub lists : List (ℕ × Range) → List (List ℤ)
  lists params = values_of_ranges (ranges_of params) values

  opened : (params : List (ℕ × Range)) (number : ℕ) (variable : ℕ) (range : Range) → number < length params → (variable, range) ≡ get_or params number (variable, range)
      → lists (drop number params) ≡ range_values values range ∷ lists (drop (number + 1) params)
  opened params number variable range there is = ap lists (drop_more params number (variable, range) there) ∙ ap (λ (p : ℕ × Range). range_values values p.1 ∷ lists (drop (number + 1) params)) (sym is)

  -- so many points are left from a parameter on
  pub count-on : (params : List (ℕ × Range)) (number count here : ℕ) (variable : ℕ) (range : Range) → number < length params → (variable, range) ≡ get_or params number (variable, range)
      → here ≡ length (range_values values range) → count * length (tuples (lists (drop number params))) ≡ length (tuples (lists params))
      → count * here * length (tuples (lists (drop (number + 1) params))) ≡ length (tuples (lists params))
  count-on params number count here variable range there is same so_far =
      let rest = tuples (lists (drop (number + 1) params)) in
      let more : length (tuples (lists (drop number params))) ≡ here * length rest =
      ap (λ (all : List (List ℤ)). length (tuples all)) (opened params number variable range there is) ∙ pairs-long (range_values values range) rest ∙ ap (λ (n : ℕ). n * length rest) (sym same) in
      shared count here (length rest) ∙ ap (λ (n : ℕ). count * n) (sym more) ∙ so_far
    where
      shared : (a b c : ℕ) → a * b * c ≡ a * (b * c)
      shared a b c = grind arith

  -- the numbers so far, and those that are left
  pub point-on : (params : List (ℕ × Range)) (number place rest behind : ℕ) (value : ℤ) (at pushed : List ℤ) (variable : ℕ) (range : Range) → number < length params → (variable, range) ≡ get_or params number (variable, range)
      → behind ≡ length (tuples (lists (drop (number + 1) params))) → 0 < behind → rest / behind < length (range_values values range) → value ≡ get_or (range_values values range) (rest / behind) (pos 0)
      → pushed ≡ at ++ value ∷ []
      → at ++ get_or (tuples (lists (drop number params))) rest [] ≡ get_or (tuples (lists params)) place []
      → pushed ++ get_or (tuples (lists (drop (number + 1) params))) (rest % behind) [] ≡ get_or (tuples (lists params)) place []
  point-on params number place rest behind value at pushed variable range there is same some within told push so_far =
      let others = tuples (lists (drop (number + 1) params)) in
      let firsts = range_values values range in
      let less : rest % behind < length others = omega (arith, mod-lt rest some, same) in
      let parted : rest / behind * length others + rest % behind ≡ rest = ap (λ (n : ℕ). rest / behind * n + rest % behind) (sym same) ∙ div-add-mod' rest behind in
      let found : get_or (tuples (lists (drop number params))) rest [] ≡ value ∷ get_or others (rest % behind) [] =
      ap₂ (λ (all : List (List ℤ)) (n : ℕ). get_or (tuples all) n []) (opened params number variable range there is) (sym parted)
      ∙ pair-at firsts others (rest / behind) (rest % behind) within less ∙ ap (λ (v : ℤ). v ∷ get_or others (rest % behind) []) (sym told) in
      ap (λ (numbers : List ℤ). numbers ++ get_or others (rest % behind) []) push
      ∙ append_assoc at (value ∷ []) (get_or others (rest % behind) [])
      ∙ ap (λ (numbers : List ℤ). at ++ numbers) (sym found) ∙ so_far

-- the one value of a piece
pub one-value : (values : List ℤ) (place : ℕ) → place < length values → slice_get (tuples (take 1 (drop place values) ∷ [])) 0 ≡ Some (get_or values place (pos 0) ∷ [])
one-value [] place there = absurd (omega (arith, there))
one-value (value ∷ values) zero there = refl
one-value (value ∷ values) (suc place) there = one-value values place (omega (arith, there))

-- the slice of one
pub one-slice : {A : Type 0} (all : List A) (number : ℕ) (one : A) → number < length all → one ≡ get_or all number one → take (number + 1 - number) (drop number all) ≡ one ∷ []
one-slice all number one there is =
    let single : number + 1 - number ≡ 1 = omega arith in
    ap₂ (λ (n : ℕ) (rest : List _). take n rest) single (drop_more all number one there) ∙ ap (λ (first : _). first ∷ []) (sym is)

-- the slice of all behind
pub rest-slice : {A : Type 0} (all : List A) (from : ℕ) → take (length all - from) (drop from all) ≡ drop from all
rest-slice all from = ap (λ (n : ℕ). take n (drop from all)) (sym (length-drop from all)) ∙ take-length (drop from all)
