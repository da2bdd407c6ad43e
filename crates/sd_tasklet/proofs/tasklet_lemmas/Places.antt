-- An index goes through its extents one dimension after another.
use Rattle.std.proofs.Common.{◌≡◌, ℕ, suc, ◌+◌, ◌*◌, ◌-◌, ◌<◌, ◌≤◌, ℤ, pos, negsuc, List, [], ◌∷◌, ◌++◌, map, length, get_or, set, take, drop, append_assoc, replicate, Bool, true, false, ◌&&◌, int_le, int_lt, unsigned_abs, refl, sym, ap, ◌∙◌, subst, arith, add-one, drop-cons}
use Rattle.std.proofs.Math.Nat.{mul-le-mul}
use Rattle.std.proofs.lemmas.List.{length-map, length-take-le, map-append, take_more, set-append_right}
use Rattle.sd_range.specs.Points.{product}
use Rattle.sd_range.specs.Subset.{inside}
use Rattle.sd_range.proofs.TupleLaws.{product-cons}
use Rattle.sd_graph.specs.RowOrder.{row_number}
use Rattle.sd_graph.proofs.RowNumbers.{row_number_below}

pub both : (first second : Bool) → (first && second) ≡ true → (first ≡ true) × (second ≡ true)
both true second h = (refl, h)
both false second h = cc

-- a number is inside its extent
abbrev Below : ℤ → ℕ → Bool
Below number extent = int_le (pos 0) number && int_lt number (pos extent)

-- an index that is inside has a number for each extent
pub inside_count : (extents : List ℕ) (at : List ℤ) → inside extents at ≡ true → length extents ≡ length at
inside_count [] [] h = refl
inside_count [] (number ∷ at) h = cc
inside_count (extent ∷ extents) [] h = cc
inside_count (extent ∷ extents) (number ∷ at) h = ap suc (inside_count extents at (both (Below number extent) (inside extents at) h).1)

-- an index with too many or too few numbers is not inside
pub outside_count : (extents : List ℕ) (at : List ℤ) → (length extents ≡ length at → ⊥) → false ≡ inside extents at
outside_count [] [] h = absurd (h refl)
outside_count [] (number ∷ at) h = refl
outside_count (extent ∷ extents) [] h = refl
outside_count (extent ∷ extents) (number ∷ at) h = sym (outside_by (Below number extent) (inside extents at) (sym (outside_count extents at (λ e. h (ap suc e)))))
  where
    outside_by : (first second : Bool) → second ≡ false → (first && second) ≡ false
    outside_by true second h = h
    outside_by false second h = refl

-- the number at this place and then those behind it
pub inside_at : (extents : List ℕ) (at : List ℤ) (k : ℕ) → k < length extents → length extents ≡ length at →
    inside (drop k extents) (drop k at) ≡ (Below (get_or at k (pos 0)) (get_or extents k 0) && inside (drop (k + 1) extents) (drop (k + 1) at))
inside_at extents at k h e =
    let g : k < length at = omega arith in
    rw (drop-cons extents k 0, drop-cons at k (pos 0), add-one) refl

-- one dimension more: the number so far, times its extent, and the number of the index there
pub record IsStep (extents : List ℕ) (at : List ℤ) (k row total : ℕ) : Type 0 where
  pub natural : pos (unsigned_abs (get_or at k (pos 0))) ≡ get_or at k (pos 0)
  pub within : row * get_or extents k 0 + unsigned_abs (get_or at k (pos 0)) < total
  pub inside_behind : inside (drop (k + 1) extents) (drop (k + 1) at) ≡ true
  pub room : (row * get_or extents k 0 + unsigned_abs (get_or at k (pos 0)) + 1) * product (drop (k + 1) extents) ≤ total
  pub left : row * product (drop k extents) + row_number (drop k extents) (drop k at)
      ≡ (row * get_or extents k 0 + unsigned_abs (get_or at k (pos 0))) * product (drop (k + 1) extents) + row_number (drop (k + 1) extents) (drop (k + 1) at)

natural_below : (number : ℤ) (extent : ℕ) → Below number extent ≡ true → (pos (unsigned_abs number) ≡ number) × (unsigned_abs number < extent)
natural_below (pos n) extent h = (refl, grind (arith, (both (int_le (pos 0) (pos n)) (int_lt (pos n) (pos extent)) h).1))
natural_below (negsuc n) extent h = cc

-- the same of the first dimension
first_room : (extent row number rest total : ℕ) → number < extent → (row + 1) * (extent * rest) ≤ total → (row * extent + number + 1) * rest ≤ total
first_room extent row number rest total h room =
    let few : row * extent + number + 1 ≤ (row + 1) * extent = grind (arith, h) in
    let more : (row * extent + number + 1) * rest ≤ ((row + 1) * extent) * rest = mul-le-mul few (omega arith) in
    grind (arith, more, room)

first_left : (extent row number rest behind : ℕ) → row * (extent * rest) + (number * rest + behind) ≡ (row * extent + number) * rest + behind
first_left extent row number rest behind = grind arith

some_room : (count rest total : ℕ) → 0 < rest → (count + 1) * rest ≤ total → count < total
some_room count rest total h room =
    let more : (count + 1) * 1 ≤ (count + 1) * rest = mul-le-mul (omega arith) (omega arith) in
    omega (arith, more, room)

pub a_step : (extents : List ℕ) (at : List ℤ) (k row total : ℕ) → k < length extents → length extents ≡ length at →
    inside (drop k extents) (drop k at) ≡ true → (row + 1) * product (drop k extents) ≤ total → IsStep extents at k row total
a_step extents at k row total h e is_inside room =
    let g : k < length at = omega arith in
    let parts = both (Below (get_or at k (pos 0)) (get_or extents k 0)) (inside (drop (k + 1) extents) (drop (k + 1) at)) (sym (inside_at extents at k h e) ∙ is_inside) in
    let number = natural_below (get_or at k (pos 0)) (get_or extents k 0) parts.0 in
    let whole : drop k extents ≡ get_or extents k 0 ∷ drop (k + 1) extents = rw (drop-cons extents k 0, add-one) refl in
    let behind : drop k at ≡ get_or at k (pos 0) ∷ drop (k + 1) at = rw (drop-cons at k (pos 0), add-one) refl in
    let rows : product (drop k extents) ≡ get_or extents k 0 * product (drop (k + 1) extents) = ap product whole ∙ product-cons (get_or extents k 0) (drop (k + 1) extents) in
    let next = first_room (get_or extents k 0) row (unsigned_abs (get_or at k (pos 0))) (product (drop (k + 1) extents)) total number.1 (subst (λ n. (row + 1) * n ≤ total) rows room) in
    let some : 0 < product (drop (k + 1) extents) = omega (arith, row_number_below (drop (k + 1) extents) (drop (k + 1) at) parts.1) in
    record {
      natural = number.0;
      within = some_room (row * get_or extents k 0 + unsigned_abs (get_or at k (pos 0))) (product (drop (k + 1) extents)) total some next;
      inside_behind = parts.1;
      room = next;
      left = ap (λ n. row * n + row_number (drop k extents) (drop k at)) rows
          ∙ (ap (λ n. row * (get_or extents k 0 * product (drop (k + 1) extents)) + n) (λ i. row_number (whole i) (behind i))
          ∙ first_left (get_or extents k 0) row (unsigned_abs (get_or at k (pos 0))) (product (drop (k + 1) extents)) (row_number (drop (k + 1) extents) (drop (k + 1) at)));
    }

-- one number more at the end of an index
pub filled_more : (at : List ℤ) (k : ℕ) → k < length at → length at ≤ 4 →
    set (map unsigned_abs (take k at) ++ replicate (4 - k) 0) k (unsigned_abs (get_or at k (pos 0))) ≡ map unsigned_abs (take (k + 1) at) ++ replicate (4 - (k + 1)) 0
filled_more at k h few =
    let front = map unsigned_abs (take k at) in
    let value = unsigned_abs (get_or at k (pos 0)) in
    let many : length front ≡ k = length-map (take k at) unsigned_abs ∙ length-take-le k at (omega arith) in
    let zeros : 4 - k ≡ suc (4 - (k + 1)) = omega arith in
    let here : k - k ≡ 0 = omega arith in
    let more : map unsigned_abs (take (k + 1) at) ≡ front ++ value ∷ [] = ap (map unsigned_abs) (take_more at k (pos 0) h) ∙ map-append unsigned_abs (take k at) (get_or at k (pos 0) ∷ []) in
    set-append_right front (replicate (4 - k) 0) k k value many (omega arith)
    ∙ (λ i. front ++ set (replicate (zeros i) 0) (here i) value)
    ∙ sym (append_assoc front (value ∷ []) (replicate (4 - (k + 1)) 0))
    ∙ ap (λ l. l ++ replicate (4 - (k + 1)) 0) (sym more)
