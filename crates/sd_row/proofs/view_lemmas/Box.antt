-- Where the first and the last place of a subset lead to elements, each place leads to the one that strides tell.
use Rattle.std.proofs.Common.{◌≡◌, ℕ, zero, suc, ◌+◌, ◌*◌, ◌-◌, ◌<◌, ◌≤◌, ◌^◌, ℤ, pos, negsuc, ◌+ℤ◌, List, [], ◌∷◌, length, replicate, Option, Some, Bool, true, false, ◌&&◌, int_le, int_lt, slice_index_or, slice_set, unsigned_abs, refl, sym, ap, ◌∙◌, subst, arith}
use Rattle.std.specs.List.{AllZip}
use Rattle.std.proofs.lemmas.Int.{ints}
use Rattle.std.proofs.Math.Nat.{mul-le-mul}
use Rattle.sd_range.specs.Subset.{inside}
use Rattle.sd_range.proofs.SubsetLaws.{IsWithin, inside-each, inside-from_each}
use Rattle.sd_row.specs.view.View.{along}
use Rattle.sd_row.specs.view.Places.{IsLast, unit_place}
use Rattle.sd_row.proofs.view_lemmas.Flat.{IsBetween, IsLevel, IsFlat, flat_front, counted_on}

-- ---- places

-- no number is below 0
abbrev zeros : List ℕ → List ℤ
zeros extents = replicate (length extents) (pos 0)

below : (extent n : ℕ) → IsWithin extent (pos n) → n < extent
below extent n within = omega (arith, ints, within)

pub zeros_within : (extents : List ℕ) (at : List ℤ) → AllZip IsWithin extents at → AllZip IsWithin extents (zeros extents)
zeros_within [] at each = tt
zeros_within (extent ∷ extents) [] each = absurd each
zeros_within (extent ∷ extents) (number ∷ at) each = ((omega (arith, ints), omega (arith, ints, each.0)), zeros_within extents at each.1)

last_within : (extents : List ℕ) (last : List ℤ) → AllZip IsLast extents last → AllZip IsWithin extents last
last_within [] [] each = tt
last_within [] (number ∷ last) each = absurd each
last_within (extent ∷ extents) [] each = absurd each
last_within (extent ∷ extents) (number ∷ last) each =
    ((omega (arith, ints, each.0), omega (arith, ints, each.0)), last_within extents last each.1)

cross_level : (extents : List ℕ) (at : List ℤ) → AllZip IsWithin extents at → IsLevel at (zeros extents) (zeros extents) at
cross_level [] [] each = tt
cross_level [] (number ∷ at) each = absurd each
cross_level (extent ∷ extents) [] each = absurd each
cross_level (extent ∷ extents) (number ∷ at) each = (omega (arith, ints), cross_level extents at each.1)

zeros_level : (extents : List ℕ) → IsLevel (zeros extents) (zeros extents) (zeros extents) (zeros extents)
zeros_level [] = tt
zeros_level (extent ∷ extents) = (refl, zeros_level extents)

box_between : (extents : List ℕ) (last at : List ℤ) → AllZip IsLast extents last → AllZip IsWithin extents at → IsBetween (zeros extents) last at
box_between [] [] [] far each = tt
box_between [] [] (number ∷ at) far each = absurd each
box_between [] (b ∷ last) at far each = absurd far
box_between (extent ∷ extents) [] at far each = absurd far
box_between (extent ∷ extents) (b ∷ last) [] far each = absurd each
box_between (extent ∷ extents) (negsuc b ∷ last) (number ∷ at) far each = absurd (omega (arith, ints, far.0))
box_between (extent ∷ extents) (pos b ∷ last) (negsuc number ∷ at) far each = absurd (omega (arith, ints, each.0))
box_between (extent ∷ extents) (pos b ∷ last) (pos number ∷ at) far each =
    (counted_on number b (omega (arith, ints, far.0, each.0)), box_between extents last at far.1 each.1)

-- ---- numbers of elements

-- without strides
pub no_strides : (first : ℕ) (at : List ℤ) → along first [] at ≡ first
no_strides first [] = refl
no_strides first (number ∷ at) = refl

-- from so many further on
pub shifted : (strides : List ℕ) (at : List ℤ) (first more : ℕ) → along (first + more) strides at ≡ along first strides at + more
shifted [] at first more = no_strides (first + more) at ∙ ap (λ n. n + more) (sym (no_strides first at))
shifted (stride ∷ strides) [] first more = refl
shifted (stride ∷ strides) (number ∷ at) first more =
    ap (λ n. along n strides at) (omega arith) ∙ shifted strides at (first + stride * unsigned_abs number) more

-- the first place leads to the first one
pub along_zeros : (first : ℕ) (strides : List ℕ) (extents : List ℕ) → along first strides (zeros extents) ≡ first
along_zeros first strides [] = refl
along_zeros first [] (extent ∷ extents) = refl
along_zeros first (stride ∷ strides) (extent ∷ extents) = ap (λ n. along n strides (zeros extents)) (omega arith) ∙ along_zeros first strides extents

-- the elements lead up
pub grows : (strides : List ℕ) (at : List ℤ) (first : ℕ) → first ≤ along first strides at
grows [] at first = omega (arith, no_strides first at)
grows (stride ∷ strides) [] first = omega arith
grows (stride ∷ strides) (number ∷ at) first = omega (arith, grows strides at (first + stride * unsigned_abs number))

-- none is behind the last one
not_behind : (extents strides : List ℕ) (last at : List ℤ) (first second : ℕ) → AllZip IsLast extents last → AllZip IsWithin extents at → first ≤ second → along first strides at ≤ along second strides last
not_behind extents [] last at first second far each low = omega (arith, low, no_strides first at, no_strides second last)
not_behind [] (stride ∷ strides) [] [] first second far each low = low
not_behind [] (stride ∷ strides) [] (number ∷ at) first second far each low = absurd each
not_behind [] (stride ∷ strides) (b ∷ last) at first second far each low = absurd far
not_behind (extent ∷ extents) (stride ∷ strides) [] at first second far each low = absurd far
not_behind (extent ∷ extents) (stride ∷ strides) (b ∷ last) [] first second far each low = absurd each
not_behind (extent ∷ extents) (stride ∷ strides) (negsuc b ∷ last) (number ∷ at) first second far each low = absurd (omega (arith, ints, far.0))
not_behind (extent ∷ extents) (stride ∷ strides) (pos b ∷ last) (negsuc number ∷ at) first second far each low = absurd (omega (arith, ints, each.0))
not_behind (extent ∷ extents) (stride ∷ strides) (pos b ∷ last) (pos number ∷ at) first second far each low =
    let before : number ≤ b = omega (arith, ints, far.0, each.0) in
    let further : stride * number ≤ stride * b = mul-le-mul (omega arith) before in
    not_behind extents strides last at (first + stride * number) (second + stride * b) far.1 each.1 (omega (arith, low, further))

-- ---- elements

-- the next place to the first one in a dimension leads to an element that is a stride further
abbrev pub AreFurther : (find : List ℤ → Option ℕ) → (extents strides : List ℕ) → (first : ℕ) → Type 0
AreFurther find extents strides first = (dim : ℕ) → dim < length extents → 1 < slice_index_or extents dim 0 → find (unit_place (length extents) dim) ≡ Some (first + slice_index_or strides dim 0)

module _ (find : List ℤ → Option ℕ) (flat : IsFlat find) (extent stride first : ℕ) (extents : List ℕ)
    (origin : find (pos 0 ∷ zeros extents) ≡ Some first) (one : 1 < extent → find (pos 1 ∷ zeros extents) ≡ Some (first + stride))
    (all : (at : List ℤ) → AllZip IsWithin (extent ∷ extents) at → (e : ℕ) × (find at ≡ Some e)) (within : AllZip IsWithin extents (zeros extents)) where
  on_line : (n : ℕ) → n < extent → find (pos n ∷ zeros extents) ≡ Some (first + stride * n)
  on_line zero low = origin ∙ ap Some (omega arith)
  on_line (suc n) low =
      let here = all (pos (suc n) ∷ zeros extents) ((omega (arith, ints), omega (arith, ints, low)), within) in
      let sum : here.0 + first ≡ (first + stride * n) + (first + stride) =
      flat.level (pos (suc n) ∷ zeros extents) (pos 0 ∷ zeros extents) (pos n ∷ zeros extents) (pos 1 ∷ zeros extents) here.0 first (first + stride * n) (first + stride)
      (omega (arith, ints), zeros_level extents) here.1 origin (on_line n (omega (arith, low))) (one (omega (arith, low))) in
      here.1 ∙ ap Some (omega (arith, sum))

-- each place leads to the element that strides tell
pub in_box : (find : List ℤ → Option ℕ) → IsFlat find → (extents strides : List ℕ) (first : ℕ) → length strides ≡ length extents → find (zeros extents) ≡ Some first →
    ((at : List ℤ) → AllZip IsWithin extents at → (e : ℕ) × (find at ≡ Some e)) → AreFurther find extents strides first →
    (at : List ℤ) → AllZip IsWithin extents at → find at ≡ Some (along first strides at)
in_box find flat [] [] first many origin all units [] each = origin
in_box find flat [] [] first many origin all units (number ∷ at) each = absurd each
in_box find flat [] (stride ∷ strides) first many origin all units at each = cc
in_box find flat (extent ∷ extents) [] first many origin all units at each = cc
in_box find flat (extent ∷ extents) (stride ∷ strides) first many origin all units [] each = absurd each
in_box find flat (extent ∷ extents) (stride ∷ strides) first many origin all units (negsuc n ∷ at) each = absurd (omega (arith, ints, each.0))
in_box find flat (extent ∷ extents) (stride ∷ strides) first many origin all units (pos n ∷ at) each =
    let none = zeros_within extents at each.1 in
    let line = on_line find flat extent stride first extents origin (λ more. units 0 (omega arith) more) all none n (below extent n each.0) in
    let rest : find (pos 0 ∷ at) ≡ Some (along first strides at) =
    in_box (λ at. find (pos 0 ∷ at)) (flat_front find (pos 0) flat) extents strides first (omega (arith, many)) origin
    (λ other within. all (pos 0 ∷ other) ((omega (arith, ints), omega (arith, ints, each.0)), within)) (λ dim low more. units (suc dim) (omega (arith, low)) more) at each.1 in
    let here = all (pos n ∷ at) each in
    let sum : here.0 + first ≡ (first + stride * n) + along first strides at =
    flat.level (pos n ∷ at) (pos 0 ∷ zeros extents) (pos n ∷ zeros extents) (pos 0 ∷ at) here.0 first (first + stride * n) (along first strides at)
    (refl, cross_level extents at each.1) here.1 origin line rest in
    here.1 ∙ ap Some (omega (arith, sum, shifted strides at first (stride * n)))

module _ (find : List ℤ → Option ℕ) (flat : IsFlat find) (extents strides : List ℕ) (first end : ℕ) (last : List ℤ) (many : length strides ≡ length extents)
    (begins : find (zeros extents) ≡ Some first) (far : AllZip IsLast extents last) (ends : find last ≡ Some end) (units : AreFurther find extents strides first) where
  pub box_found : (at : List ℤ) → inside extents at ≡ true → find at ≡ Some (along first strides at)
  box_found at within =
      in_box find flat extents strides first many begins (λ other each. flat.convex (zeros extents) last other first end (box_between extents last other far each) begins ends) units
      at (inside-each extents at within)

  -- the last one has the greatest number
  pub box_ends : (at : List ℤ) → inside extents at ≡ true → along first strides at ≤ end
  box_ends at within =
      let there : Some end ≡ Some (along first strides last) = sym ends ∙ box_found last (inside-from_each extents last (last_within extents last far)) in
      let same : end ≡ along first strides last = cc in
      omega (arith, same, not_behind extents strides last at first first far (inside-each extents at within) (omega arith))
