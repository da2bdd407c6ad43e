-- Each two different next moves are of two parts, or are two takes of one pool.
use Rattle.std.proofs.Common.{◌≡◌, ◌≢◌, ◌⊎◌, inl, inr, ℕ, zero, suc, [], ◌∷◌, Bool, true, false, refl, sym, ◌∙◌, ap, subst, Contains}
use Rattle.sd_work.specs.Memory.{Memories}
use Rattle.sd_work.specs.Residual.{Term, leaf, list, owning, nested, ended, pool, Terms, none, also, Actives, idle, busy, finished}
use Rattle.sd_work.specs.Moves.{Path}
use Rattle.sd_work.specs.Step.{Machine, next_moves}
use Rattle.sd_confluence.specs.Sides.{AreOfTwoParts, AreOfTwoInPart, AreOfTwoInActive}
use Rattle.sd_confluence.specs.Takes.{AreTwoTakes, AreTwoTakesInPart, AreTwoTakesInActive}
use Rattle.sd_confluence.proofs.image.Images.{IsNext, IsNextAt, IsNextIn, IsNextHere}
use Rattle.sd_confluence.proofs.left.NextListed.{next-moves}

same-or : (i j : ℕ) → (i ≡ j) ⊎ (i ≢ j)
same-or zero zero = inl refl
same-or zero (suc j) = inr (λ e. cc)
same-or (suc i) zero = inr (λ e. cc)
same-or (suc i) (suc j) = elim (same-or i j) [ inl e ↦ inl (ap suc e) | inr n ↦ inr (λ e. n (cc)) ]

-- in a graph's run, whose transition is one move
here-ways : (b : Bool) (p q : Path) (C D E : Type 0) → p ≢ q → IsNextHere b p C → IsNextHere b q D → (C → D → E) → E
here-ways true p q C D E n c d k = absurd (n (c ∙ sym d))
here-ways false p q C D E n c d k = k c d

mutual
  two-ways : {P : Type 0} (t : Term P) (p q : Path) (s : Memories) → IsNext t p s → IsNext t q s → p ≢ q → AreOfTwoParts t p q ⊎ AreTwoTakes t p q
  two-ways (leaf place work) p q s c d n = absurd (n (c.1 ∙ sym d.1))
  two-ways (list kind before ts) [] q s c d n = absurd c
  two-ways (list kind before ts) (i ∷ p) [] s c d n = absurd d
  two-ways {P} (list kind before ts) (i ∷ p) (j ∷ q) s c d n = elim (same-or i j) [
    | inl e ↦ elim (two-ways_at ts i p q s c.1 (subst (λ k. IsNextAt ts k q s) (sym e) d.1) (λ w. n ((λ k. e k ∷ w k)))) [ inl o ↦ inl (inr (e, o)) | inr o ↦ inr (e, o) ]
    | inr two ↦ inl (inl two)
  ]
  two-ways (owning own part) p q s c d n = two-ways part p q (own ∷ s) c d n
  two-ways {P} (nested body exits own state values part) p q s c d n =
      here-ways (finished part) p q (IsNext part p (own ∷ s)) (IsNext part q (own ∷ s)) (AreOfTwoParts part p q ⊎ AreTwoTakes part p q) n c d (λ c' d'. two-ways part p q (own ∷ s) c' d' n)
  two-ways (ended own) p q s c d n = absurd c
  two-ways (pool l k body active closed) [] q s c d n = absurd c
  two-ways (pool l k body active closed) (zero ∷ []) q s c d n = absurd c
  two-ways (pool l k body active closed) (suc zero ∷ []) q s c d n = absurd c
  two-ways (pool l k body active closed) (suc (suc m) ∷ p) q s c d n = absurd c
  two-ways (pool l k body active closed) (zero ∷ i ∷ p) [] s c d n = absurd d
  two-ways (pool l k body active closed) (zero ∷ i ∷ p) (zero ∷ []) s c d n = absurd d
  two-ways (pool l k body active closed) (zero ∷ i ∷ p) (suc zero ∷ []) s c d n = absurd d
  two-ways (pool l k body active closed) (zero ∷ i ∷ p) (suc (suc m) ∷ q) s c d n = absurd d
  two-ways (pool l k body active closed) (zero ∷ i ∷ p) (zero ∷ j ∷ q) s c d n = inr (λ e. n (λ w. 0 ∷ e w ∷ (c.1 ∙ sym d.1) w))
  two-ways (pool l k body active closed) (zero ∷ i ∷ p) (suc zero ∷ j ∷ q) s c d n = inl tt
  two-ways (pool l k body active closed) (suc zero ∷ i ∷ p) [] s c d n = absurd d
  two-ways (pool l k body active closed) (suc zero ∷ i ∷ p) (zero ∷ []) s c d n = absurd d
  two-ways (pool l k body active closed) (suc zero ∷ i ∷ p) (suc zero ∷ []) s c d n = absurd d
  two-ways (pool l k body active closed) (suc zero ∷ i ∷ p) (suc (suc m) ∷ q) s c d n = absurd d
  two-ways (pool l k body active closed) (suc zero ∷ i ∷ p) (zero ∷ j ∷ q) s c d n = inl tt
  two-ways {P} (pool l k body active closed) (suc zero ∷ i ∷ p) (suc zero ∷ j ∷ q) s c d n = elim (same-or i j) [
    | inl e ↦ elim (two-ways_in active i p q s c.1 (subst (λ m. IsNextIn active m q s) (sym e) d.1) (λ w. n (λ m. 1 ∷ e m ∷ w m))) [ inl o ↦ inl (inr (e, o)) | inr o ↦ inr (e, o) ]
    | inr two ↦ inl (inl two)
  ]

  two-ways_at : {P : Type 0} (ts : Terms P) (k : ℕ) (p q : Path) (s : Memories) → IsNextAt ts k p s → IsNextAt ts k q s → p ≢ q → AreOfTwoInPart ts k p q ⊎ AreTwoTakesInPart ts k p q
  two-ways_at none k p q s c d n = absurd c
  two-ways_at (also t ts) zero p q s c d n = two-ways t p q s c d n
  two-ways_at (also t ts) (suc k) p q s c d n = two-ways_at ts k p q s c d n

  two-ways_in : {P : Type 0} (ts : Actives P) (k : ℕ) (p q : Path) (s : Memories) → IsNextIn ts k p s → IsNextIn ts k q s → p ≢ q → AreOfTwoInActive ts k p q ⊎ AreTwoTakesInActive ts k p q
  two-ways_in idle k p q s c d n = absurd c
  two-ways_in (busy v t ts) zero p q s c d n = two-ways t p q s c d n
  two-ways_in (busy v t ts) (suc k) p q s c d n = two-ways_in ts k p q s c d n

pub each-two : {P : Type 0} (m : Machine P) (p q : Path) → Contains (next_moves m) p → Contains (next_moves m) q → p ≢ q → AreOfTwoParts m.term p q ⊎ AreTwoTakes m.term p q
each-two m p q c d n = two-ways m.term p q [] (next-moves m.term p [] c) (next-moves m.term q [] d) n
