-- The extents of an array, by the indices that it has.
use Rattle.std.proofs.Common.{◌≡◌, ℕ, zero, suc, ◌*◌, ◌<◌, ◌≤◌, ℤ, pos, ◌-ℤ◌, int_le, int_lt, List, [], ◌∷◌, length, drop, get_or, Bool, true, false, ◌&&◌, refl, sym, ◌∙◌, ap₂, subst, arith}
use Rattle.std.specs.List.{AllByRecursion, fold}
use Rattle.std.proofs.lemmas.Int.{ints}
use Rattle.std.proofs.lemmas.Bool.{and_parts}
use Rattle.sd_range.specs.Points.{product}
use Rattle.sd_range.specs.Subset.{inside}
use Rattle.sd_range.proofs.TupleLaws.{product-cons}
use Rattle.sd_work.specs.Memory.{Contents, array, stream, elements_of}
use Rattle.sd_mem.specs.mem.Shaped.{Shaped, shape_at, contents_at, IsWhole}
use Rattle.sd_piece.specs.Held.{last_index, beyond, HasArray}

abbrev AreSome : List ℕ → Type 0
AreSome extents = AllByRecursion (λ extent. 0 < extent) extents

both-are : (a b : Bool) → a ≡ true → b ≡ true → (a && b) ≡ true
both-are true b e h = h
both-are false b e h = cc

second-false : (a b : Bool) → a ≡ true → (a && b) ≡ false → b ≡ false
second-false true b e h = h
second-false false b e h = cc

first-false : (a b : Bool) → b ≡ true → (a && b) ≡ false → a ≡ false
first-false false b e h = refl
first-false true b e h = absurd (no (sym e ∙ h))
  where
    no : true ≡ false → ⊥
    no e = cc

-- a number is one of an extent
abbrev is-of : (extent : ℕ) → ℤ → Bool
is-of extent number = int_le (pos 0) number && int_lt number (pos extent)

last-of : (x e : ℕ) → is-of x (pos e -ℤ pos 1) ≡ true → (0 < e) × (e ≤ x)
last-of x e h = let parts = and_parts (int_le (pos 0) (pos e -ℤ pos 1)) (int_lt (pos e -ℤ pos 1) (pos x)) h in
    let low = parts.0 in let high = parts.1 in (grind (arith, ints, low), grind (arith, ints, high))

beyond-of : (x e : ℕ) → is-of x (pos e) ≡ false → x ≤ e
beyond-of x e h = let high : int_lt (pos e) (pos x) ≡ false = second-false (int_le (pos 0) (pos e)) (int_lt (pos e) (pos x)) (grind (arith, ints)) h in grind (arith, ints, high)

is-last : (e : ℕ) → 0 < e → is-of e (pos e -ℤ pos 1) ≡ true
is-last e some = grind (arith, ints, some)

is-beyond : (e : ℕ) → is-of e (pos e) ≡ false
is-beyond e = grind (arith, ints)

pub same-extents : (shape extents : List ℕ) → inside shape (last_index extents) ≡ true → ((d : ℕ) → d < length extents → inside shape (beyond d extents) ≡ false) → (shape ≡ extents) × AreSome extents
same-extents [] [] last none = (refl, tt)
same-extents [] (e ∷ extents) last none = cc
same-extents (x ∷ shape) [] last none = cc
same-extents (x ∷ shape) (e ∷ extents) last none =
    let parts = and_parts (is-of x (pos e -ℤ pos 1)) (inside shape (last_index extents)) last in
    let low = last-of x e parts.0 in
    let high = beyond-of x e (first-false (is-of x (pos e)) (inside shape (last_index extents)) parts.1 (none 0 (omega arith))) in
    let same : x ≡ e = omega (arith, low.1, high) in
    let rest = same-extents shape extents parts.1
    (λ d less. second-false (is-of x (pos e -ℤ pos 1)) (inside shape (beyond d extents)) parts.0 (none (suc d) (omega (arith, less)))) in
    (ap₂ (λ (y : ℕ) (ys : List ℕ). y ∷ ys) same rest.0, (low.0, rest.1))

pub has-last : (extents : List ℕ) → AreSome extents → inside extents (last_index extents) ≡ true
has-last [] some = refl
has-last (e ∷ extents) some = both-are (is-of e (pos e -ℤ pos 1)) (inside extents (last_index extents)) (is-last e some.0) (has-last extents some.1)

-- an array with the last index of these extents has none of which is 0
pub are-some : (shape extents : List ℕ) → inside shape (last_index extents) ≡ true → AreSome extents
are-some [] [] last = tt
are-some [] (e ∷ extents) last = cc
are-some (x ∷ shape) [] last = cc
are-some (x ∷ shape) (e ∷ extents) last =
    let parts = and_parts (is-of x (pos e -ℤ pos 1)) (inside shape (last_index extents)) last in
    ((last-of x e parts.0).0, are-some shape extents parts.1)

no-less : (all extent : ℕ) → 0 < extent → all ≤ all * extent
no-less all zero some = absurd (omega (arith, some))
no-less all (suc extent) some = omega arith

-- a product of extents, none of which is 0, is no less than that of the first of them
pub product-grows : (all : ℕ) (extents : List ℕ) → AreSome extents → all ≤ fold (λ all count. all * count) all extents
product-grows all [] some = omega arith
product-grows all (e ∷ extents) some = let first = no-less all e some.0 in let rest = product-grows (all * e) extents some.1 in omega (arith, first, rest)

-- a product that is too large with its next extent is too large
pub too-large : (limit all : ℕ) (extents : List ℕ) (n : ℕ) → n < length extents → AreSome (drop n extents) → limit ≤ all * get_or extents n 0 → limit ≤ fold (λ all count. all * count) all (drop n extents)
too-large limit all [] n less some over = absurd (omega (arith, less))
too-large limit all (e ∷ extents) zero less some over = let rest = product-grows (all * e) extents some.1 in omega (arith, rest, over)
too-large limit all (e ∷ extents) (suc n) less some over = too-large limit all extents n (omega (arith, less)) some over

false-and : (a b : Bool) → a ≡ false → (a && b) ≡ false
false-and false b e = refl
false-and true b e = cc

and-false : (a b : Bool) → b ≡ false → (a && b) ≡ false
and-false true b e = e
and-false false b e = refl

pub none-beyond : (d : ℕ) (extents : List ℕ) → d < length extents → inside extents (beyond d extents) ≡ false
none-beyond d [] less = absurd (omega (arith, less))
none-beyond zero (e ∷ extents) less = false-and (is-of e (pos e)) (inside extents (last_index extents)) (is-beyond e)
none-beyond (suc d) (e ∷ extents) less = and-false (is-of e (pos e -ℤ pos 1)) (inside extents (beyond d extents)) (none-beyond d extents (omega (arith, less)))

product-some : (extents : List ℕ) → AreSome extents → 0 < product extents
product-some [] some = omega arith
product-some (e ∷ extents) some = let rest = product-some extents some.1 in let first = some.0 in positive e (product extents) first rest (product-cons e extents)
  where
    positive : (e p : ℕ) → 0 < e → 0 < p → product (e ∷ extents) ≡ e * p → 0 < product (e ∷ extents)
    positive zero p first rest is = absurd (omega (arith, first))
    positive (suc e) p first rest is = omega (arith, rest, is)

whole-of : (shape : List ℕ) (contents : Contents) → length (elements_of contents) ≡ product shape → 0 < product shape → IsWhole shape contents
whole-of shape (array width elements) same some = same
whole-of shape (stream width values) same some = absurd (omega (arith, same, some))

count-of : (shape : List ℕ) (contents : Contents) → IsWhole shape contents → length (elements_of contents) ≡ product shape
count-of shape (array width elements) whole = whole
count-of shape (stream width values) whole = absurd whole

-- it has the last index, none behind it, and as many elements
pub is-array : (memory : Shaped) (c : ℕ) (extents : List ℕ) → inside (shape_at memory c) (last_index extents) ≡ true → ((d : ℕ) → d < length extents → inside (shape_at memory c) (beyond d extents) ≡ false) →
    length (elements_of (contents_at memory c)) ≡ product extents → HasArray extents memory c
is-array memory c extents last none count =
    let same = same-extents (shape_at memory c) extents last none in
    record {
      some = same.1;
      shape = same.0;
      here = subst (λ (shape : List ℕ). IsWhole shape (contents_at memory c)) (sym same.0) (whole-of extents (contents_at memory c) count (product-some extents same.1));
    }

no : true ≡ false → ⊥
no e = cc

-- it has not the last index
pub no-last : (memory : Shaped) (c : ℕ) (extents : List ℕ) → inside (shape_at memory c) (last_index extents) ≡ false → HasArray extents memory c → ⊥
no-last memory c extents none has =
    no (sym (subst (λ (shape : List ℕ). inside shape (last_index extents) ≡ true) (sym has.shape) (has-last extents has.some)) ∙ none)

-- it has one behind it
pub one-beyond : (memory : Shaped) (c d : ℕ) (extents : List ℕ) → d < length extents → inside (shape_at memory c) (beyond d extents) ≡ true → HasArray extents memory c → ⊥
one-beyond memory c d extents less is has =
    no (sym is ∙ subst (λ (shape : List ℕ). inside shape (beyond d extents) ≡ false) (sym has.shape) (none-beyond d extents less))

-- it has other elements
pub other-count : (memory : Shaped) (c : ℕ) (extents : List ℕ) → (length (elements_of (contents_at memory c)) ≡ product extents → ⊥) → HasArray extents memory c → ⊥
other-count memory c extents other has =
    other (subst (λ (shape : List ℕ). length (elements_of (contents_at memory c)) ≡ product shape) has.shape (count-of (shape_at memory c) (contents_at memory c) has.here))

-- it has as many elements
pub has-count : (memory : Shaped) (c : ℕ) (extents : List ℕ) → HasArray extents memory c → length (elements_of (contents_at memory c)) ≡ product extents
has-count memory c extents has =
    subst (λ (shape : List ℕ). length (elements_of (contents_at memory c)) ≡ product shape) has.shape (count-of (shape_at memory c) (contents_at memory c) has.here)
