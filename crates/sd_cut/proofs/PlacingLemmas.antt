-- An index as it is in a window, number by number.
use Rattle.std.proofs.Common.{◌≡◌, ℕ, zero, suc, ◌+◌, ◌<◌, ◌≤◌, ℤ, pos, ◌+ℤ◌, int_le, int_lt, ◌&&◌, List, [], ◌∷◌, drop, length, slice_index_or, Some, None, if◌then◌else◌, Bool, true, false, unsigned_abs, refl, sym, ◌∙◌, ap, arith}
use Rattle.sd_range.specs.Subset.{inside}
use Rattle.sd_graph.specs.RowOrder.{row_number}
use Rattle.sd_windows.specs.Windows.{Window, moved, place_within}
use Rattle.sd_cut.specs.Placing.{number_below, number_or_zero}

pub moved-length : (shift index : List ℤ) → length (moved shift index) ≡ length shift
moved-length [] index = refl
moved-length (s ∷ shift) [] = ap suc (moved-length shift [])
moved-length (s ∷ shift) (n ∷ index) = ap suc (moved-length shift index)

pub moved-at : (shift index : List ℤ) (i : ℕ) → i < length shift → i < length index → slice_index_or (moved shift index) i (pos 0) ≡ slice_index_or shift i (pos 0) +ℤ slice_index_or index i (pos 0)
moved-at [] index i p q = absurd (omega (arith, p))
moved-at (x ∷ shift) [] i p q = absurd (omega (arith, q))
moved-at (x ∷ shift) (y ∷ index) zero p q = refl
moved-at (x ∷ shift) (y ∷ index) (suc i) p q = moved-at shift index i (omega (arith, p)) (omega (arith, q))

both : (a b : Bool) → (a && b) ≡ true → (a ≡ true) × (b ≡ true)
both true b h = (refl, h)
both false b h = cc

-- the number of an extent is inside where the index is
pub inside-at : (extents : List ℕ) (index : List ℤ) (i e : ℕ) (m : ℤ) → i < length extents → i < length index → inside extents index ≡ true → e ≡ slice_index_or extents i 0 → slice_index_or index i (pos 0) ≡ m →
    (int_le (pos 0) m && int_lt m (pos e)) ≡ true
inside-at [] index i e m p q h a b = absurd (omega (arith, p))
inside-at (x ∷ extents) [] i e m p q h a b = absurd (omega (arith, q))
inside-at (x ∷ extents) (y ∷ index) zero e m p q h a b = (λ i. int_le (pos 0) (sym b i) && int_lt (sym b i) (pos (a i))) ∙ (both (int_le (pos 0) y && int_lt y (pos x)) (inside extents index) h).0
inside-at (x ∷ extents) (y ∷ index) (suc i) e m p q h a b =
    inside-at extents index i e m (omega (arith, p)) (omega (arith, q)) (both (int_le (pos 0) y && int_lt y (pos x)) (inside extents index) h).1 a b

pub number-is : (s n : ℤ) (e : ℕ) → (int_le (pos 0) (s +ℤ n) && int_lt (s +ℤ n) (pos e)) ≡ true → number_or_zero (number_below s n e) ≡ unsigned_abs (s +ℤ n)
number-is s n e h = ap (λ (b : Bool). number_or_zero (if b then Some (unsigned_abs (s +ℤ n)) else None)) h

-- where one number is not inside, the index is not
pub outside-at : (extents : List ℕ) (index : List ℤ) (i e : ℕ) (m : ℤ) → i < length extents → i < length index → e ≡ slice_index_or extents i 0 → slice_index_or index i (pos 0) ≡ m →
    (int_le (pos 0) m && int_lt m (pos e)) ≡ false → false ≡ inside extents index
outside-at extents index i e m p q a b n = on (inside extents index) refl
  where
    on : (t : Bool) → inside extents index ≡ t → false ≡ inside extents index
    on true h = let clash : false ≡ true = sym n ∙ inside-at extents index i e m p q h a b in cc
    on false h = sym h

not-some : {A : Type 0} (b : Bool) (x : A) → (if b then Some x else None) ≡ None → b ≡ false
not-some true x h = cc
not-some false x h = refl

yes-some : {A : Type 0} (b : Bool) (x y : A) → (if b then Some x else None) ≡ Some y → b ≡ true
yes-some true x y h = refl
yes-some false x y h = cc

pub below-not : (s n : ℤ) (e : ℕ) → number_below s n e ≡ None → (int_le (pos 0) (s +ℤ n) && int_lt (s +ℤ n) (pos e)) ≡ false
below-not s n e h = not-some (int_le (pos 0) (s +ℤ n) && int_lt (s +ℤ n) (pos e)) (unsigned_abs (s +ℤ n)) h

pub below-yes : (s n : ℤ) (e k : ℕ) → number_below s n e ≡ Some k → (int_le (pos 0) (s +ℤ n) && int_lt (s +ℤ n) (pos e)) ≡ true
below-yes s n e k h = yes-some (int_le (pos 0) (s +ℤ n) && int_lt (s +ℤ n) (pos e)) (unsigned_abs (s +ℤ n)) k h

-- one number more is inside
pub inside-next : (extents : List ℕ) (index : List ℤ) (i e : ℕ) (m : ℤ) → i < length extents → i < length index → e ≡ slice_index_or extents i 0 → slice_index_or index i (pos 0) ≡ m →
    (int_le (pos 0) m && int_lt m (pos e)) ≡ true → inside (drop (i + 1) extents) (drop (i + 1) index) ≡ inside (drop i extents) (drop i index)
inside-next extents index i e m p q a b t = let more : i + 1 ≡ suc i = omega arith in ap (λ n. inside (drop n extents) (drop n index)) more ∙ on extents index i p q a b
  where
    on : (extents : List ℕ) (index : List ℤ) (i : ℕ) → i < length extents → i < length index → e ≡ slice_index_or extents i 0 → slice_index_or index i (pos 0) ≡ m →
        inside (drop (suc i) extents) (drop (suc i) index) ≡ inside (drop i extents) (drop i index)
    on [] index i p q a b = absurd (omega (arith, p))
    on (x ∷ extents) [] i p q a b = absurd (omega (arith, q))
    on (x ∷ extents) (y ∷ index) zero p q a b = ap (λ (t : Bool). t && inside extents index) (sym ((λ i. int_le (pos 0) (b i) && int_lt (b i) (pos (sym a i))) ∙ t))
    on (x ∷ extents) (y ∷ index) (suc i) p q a b = on extents index i (omega (arith, p)) (omega (arith, q)) a b

pub all-inside : (extents : List ℕ) (index : List ℤ) (i : ℕ) → length index ≡ length extents → length extents ≤ i → inside (drop i extents) (drop i index) ≡ true
all-inside [] [] zero h p = refl
all-inside [] [] (suc i) h p = refl
all-inside [] (y ∷ index) i h p = cc
all-inside (x ∷ extents) [] i h p = cc
all-inside (x ∷ extents) (y ∷ index) zero h p = absurd (omega (arith, p))
all-inside (x ∷ extents) (y ∷ index) (suc i) h p = all-inside extents index i (omega (arith, h)) (omega (arith, p))

-- an index with another count of numbers is outside
uneven : (extents : List ℕ) (index : List ℤ) → (length extents ≡ length index → ⊥) → inside extents index ≡ false
uneven [] [] h = absurd (h refl)
uneven [] (y ∷ index) h = refl
uneven (x ∷ extents) [] h = refl
uneven (x ∷ extents) (y ∷ index) h = and-false (int_le (pos 0) y && int_lt y (pos x)) (inside extents index) (uneven extents index (λ e. h (ap suc e)))
  where
    and-false : (a b : Bool) → b ≡ false → (a && b) ≡ false
    and-false true b e = e
    and-false false b e = refl

pub uneven-none : (w : Window) (index : List ℤ) (t : Bool) → (length w.extents ≡ length w.shift → ⊥) → None ≡ (if t then place_within w index else None)
uneven-none w index false h = refl
uneven-none w index true h =
    sym (ap (λ (b : Bool). if b then Some (row_number w.extents (moved w.shift index)) else None) (uneven w.extents (moved w.shift index) (λ e. h (e ∙ moved-length w.shift index))))
