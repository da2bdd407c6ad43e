-- Whether two values are one, and how often a value stands in a list.
use Rattle.std.proofs.Common.{◌≡◌, ℕ, zero, suc, pred, ◌+◌, ℤ, List, [], ◌∷◌, ◌++◌, Some, None, Bool, true, false, cond, slice_get, refl, ◌∙◌, ap, arith}
use Rattle.std.specs.Cmp.{signed_Decides}
use Rattle.sd_work.specs.Change.{without}
use Rattle.std.specs.Ordering.{int_eq}
use Rattle.sd_confluence.specs.Alike.{how_often}

-- values that are one are equal
pub same-true : (v w : ℤ) → int_eq v w ≡ true → v ≡ w
same-true v w = (signed_Decides v w).0

-- each value is one with itself
pub same-refl : (v : ℤ) → int_eq v v ≡ true
same-refl v = (signed_Decides v v).1 refl

-- values that are not equal are not one
pub same-false : (v w : ℤ) → (v ≡ w → ⊥) → int_eq v w ≡ false
same-false v w n = go (int_eq v w) refl
  where
    go : (b : Bool) → int_eq v w ≡ b → int_eq v w ≡ false
    go true e = absurd (n (same-true v w e))
    go false e = e

-- a value that stands at a position of a list stands in it
pub waits : (vs : List ℤ) (k : ℕ) (v : ℤ) → slice_get vs k ≡ Some v → (n : ℕ) × (how_often vs v ≡ suc n)
waits [] k v e = cc
waits (y ∷ vs) zero v e = let h : y ≡ v = cc in (how_often vs v, ap (λ b. cond b (suc (how_often vs v)) (how_often vs v)) (ap (λ z. int_eq z v) h ∙ same-refl v))
waits (y ∷ vs) (suc k) v e = let r = waits vs k v e in up (int_eq y v) r.0 r.1
  where
    up : (b : Bool) (n : ℕ) → how_often vs v ≡ suc n → (m : ℕ) × (cond b (suc (how_often vs v)) (how_often vs v) ≡ suc m)
    up true n q = (suc n, ap suc q)
    up false n q = (n, q)

-- a value stands in a list and a second one after it as often as in both
pub count-append : (xs ys : List ℤ) (v : ℤ) → how_often (xs ++ ys) v ≡ how_often xs v + how_often ys v
count-append [] ys v = omega arith
count-append (x ∷ xs) ys v = ap (λ n. cond (int_eq x v) (suc n) n) (count-append xs ys v) ∙ go (int_eq x v) (how_often xs v) (how_often ys v)
  where
    go : (b : Bool) (m n : ℕ) → cond b (suc (m + n)) (m + n) ≡ cond b (suc m) m + n
    go true m n = omega arith
    go false m n = refl

one_more : (b : Bool) (n : ℕ) → n + cond b 1 0 ≡ cond b (suc n) n
one_more true n = omega arith
one_more false n = omega arith

one_less : (b : Bool) (m n : ℕ) → m + cond b 1 0 ≡ n → m ≡ cond b (pred n) n
one_less true m n h = let same : suc m ≡ n = omega (arith, h) in ap pred same
one_less false m n h = omega (arith, h)

-- a value stands in a list with one more at its end once more, if it is this one
pub count-last : (xs : List ℤ) (w v : ℤ) → how_often (xs ++ w ∷ []) v ≡ cond (int_eq w v) (suc (how_often xs v)) (how_often xs v)
count-last xs w v = count-append xs (w ∷ []) v ∙ one_more (int_eq w v) (how_often xs v)

-- a list without the value at a position, and this value
pub count-without : (k : ℕ) (xs : List ℤ) (w v : ℤ) → slice_get xs k ≡ Some w → how_often (without k xs) v + how_often (w ∷ []) v ≡ how_often xs v
count-without k [] w v e = cc
count-without zero (x ∷ xs) w v e = let h : w ≡ x = cc in one_more (int_eq w v) (how_often xs v) ∙ ap (λ y. how_often (y ∷ xs) v) h
count-without (suc k) (x ∷ xs) w v e = go (int_eq x v) (how_often (without k xs) v) (how_often (w ∷ []) v) (how_often xs v) (count-without k xs w v e)
  where
    go : (b : Bool) (m n r : ℕ) → m + n ≡ r → cond b (suc m) m + n ≡ cond b (suc r) r
    go true m n r h = omega (arith, h)
    go false m n r h = h

-- a value stands in it once less, if it is this one
pub count-taken : (k : ℕ) (xs : List ℤ) (w v : ℤ) → slice_get xs k ≡ Some w → how_often (without k xs) v ≡ cond (int_eq w v) (pred (how_often xs v)) (how_often xs v)
count-taken k xs w v e = one_less (int_eq w v) (how_often (without k xs) v) (how_often xs v) (count-without k xs w v e)

-- without the value at a position where none stands
pub without-none : (k : ℕ) (xs : List ℤ) → slice_get xs k ≡ None → without k xs ≡ xs
without-none k [] e = refl
without-none zero (x ∷ xs) e = cc
without-none (suc k) (x ∷ xs) e = ap (λ ys. x ∷ ys) (without-none k xs e)
