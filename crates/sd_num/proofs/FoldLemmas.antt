-- A fold whose steps may be exchanged gives the same over a list in every order.
use Rattle.std.proofs.Common.{ℕ, zero, suc, ◌<◌, ◌≡◌, ap, refl, sym, ◌∙◌, List, [], ◌∷◌, length, get_or, set}
use native.Mathlib.Omega.{arith}
use Rattle.std.specs.List.{All, fold, swap}
use Rattle.std.specs.List.Sorted.{IsPermutation}
use Rattle.std.proofs.lemmas.List.Elements.{All-head, All-tail, All-get_or}
use Rattle.std.proofs.lemmas.List.Sorted.{IsPermutation-keeps, IsPermutation-swap, All-permutation}

-- P holds of each value, f keeps it, and f gives the same for two values in either order
module _ {X : Type 0} (f : X → X → X) (P : X → Type 0) (keeps : (a x : X) → P a → P x → P (f a x)) (exchanges : (a x y : X) → P a → P x → P y → f (f a x) y ≡ f (f a y) x) where
  -- the first value and the one at j change places
  fold-set : (a x : X) (xs : List X) (j : ℕ) (d : X) → P a → P x → All P xs → j < length xs → fold f (f a (get_or xs j d)) (set xs j x) ≡ fold f (f a x) xs
  fold-set a x [] j d pa px h k = absurd (omega arith)
  fold-set a x (z ∷ zs) zero d pa px h k = ap (λ b. fold f b zs) (exchanges a z x pa (All-head P z zs h) px)
  fold-set a x (z ∷ zs) (suc j) d pa px h k =
      let pz = All-head P z zs h in
      let hs = All-tail P z zs h in
      let below : j < length zs = omega arith in
      ap (λ b. fold f b (set zs j x)) (exchanges a (get_or zs j d) z pa (All-get_or P zs j d below hs) pz)
      ∙ fold-set (f a z) x zs j d (keeps a z pa pz) px hs below
      ∙ ap (λ b. fold f b zs) (exchanges a z x pa pz px)

  -- the values at i and j change places
  fold-set-set : (a : X) (xs : List X) (i j : ℕ) (d : X) → P a → All P xs → i < length xs → j < length xs → fold f a (set (set xs i (get_or xs j d)) j (get_or xs i d)) ≡ fold f a xs
  fold-set-set a [] i j d pa h p q = absurd (omega arith)
  fold-set-set a (x ∷ xs) zero zero d pa h p q = refl
  fold-set-set a (x ∷ xs) zero (suc j) d pa h p q = fold-set a x xs j d pa (All-head P x xs h) (All-tail P x xs h) (omega arith)
  fold-set-set a (x ∷ xs) (suc i) zero d pa h p q = fold-set a x xs i d pa (All-head P x xs h) (All-tail P x xs h) (omega arith)
  fold-set-set a (x ∷ xs) (suc i) (suc j) d pa h p q = fold-set-set (f a x) xs i j d (keeps a x pa (All-head P x xs h)) (All-tail P x xs h) (omega arith) (omega arith)

  -- the same, as std's exchange has it
  fold-swap : (a : X) (xs : List X) (i j : ℕ) → P a → All P xs → i < length xs → j < length xs → fold f a (swap xs i j) ≡ fold f a xs
  fold-swap a [] i j pa h p q = refl
  fold-swap a (x ∷ xs) i j pa h p q = fold-set-set a (x ∷ xs) i j x pa h p q

  -- values that change places any number of times
  pub fold-permutation : (a : X) (xs ys : List X) → P a → All P xs → IsPermutation xs ys → fold f a xs ≡ fold f a ys
  fold-permutation a xs ys pa h same =
      sym (IsPermutation-keeps xs (λ l. (fold f a l ≡ fold f a xs) × All P l) (refl, h)
      (λ l i j p q kept. (fold-swap a l i j pa kept.1 p q ∙ kept.0, All-permutation P l (swap l i j) (IsPermutation-swap l (swap l i j) i j p q refl) kept.1))
      ys same).0
