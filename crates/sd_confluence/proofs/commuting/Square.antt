-- Two next moves of safe work commute, inside what they stand in.
use Rattle.std.proofs.Common.{◌≡◌, ℕ, [], ◌∷◌, Bool, refl, sym, ◌∙◌, ap, subst}
use Rattle.sd_work.specs.Touch.{Touch, writes, pushes, takes, AreCompatible}
use Rattle.sd_confluence.proofs.bags.BagMemory.{Frame, Stack, Update, keep, put, add, remove, updated, own_update, outer_update, top}
use Rattle.sd_confluence.proofs.bags.Works.{Work, Works, Route, Answer, stops, makes, no_answer, map_answer, owned_answer, act, act_at, Can}
use Rattle.sd_confluence.proofs.bags.WorkTouches.{Safe}
use Rattle.sd_confluence.proofs.bags.BagChanges.{ApartChanges, apply_comm, split}
use Rattle.sd_confluence.proofs.commuting.Stable.{Covered, Avoids, apart_sym}
use Rattle.sd_confluence.proofs.commuting.Within.{Gives}
use Rattle.sd_confluence.proofs.commuting.NextMoves.{avoids_of}
use Rattle.sd_confluence.proofs.commuting.Stays.{stays}

-- the other order of two moves: first q, and then p, with the same answers, changes and end
abbrev pub Other : {P A L : Type 0} → (A → L → Stack → Answer P A) → A → L → L → Stack → Bool → Update → Bool → Update → A → Type 0
Other {A = A} go x p q s b u c v z =
    (y : A) × (go x q s ≡ makes c v y) × (go y p (updated v s) ≡ makes b u z) × (updated u (updated v s) ≡ updated v (updated u s))

-- after the first move each answer of the second one is the one of the other order
abbrev pub Square : {P A L : Type 0} → (A → L → Stack → Answer P A) → A → L → L → Stack → Type 0
Square go x p q s = Gives (λ b u y. Gives (λ c v z. Other go x p q s b u c v z) (go y q (updated u s))) (go x p s)

-- the move of a part at a place
abbrev pub at_place : {P : Type 0} → Works P → ℕ × Route → Stack → Answer P (Works P)
at_place ts k s = act_at ts k.0 k.1 s

-- two moves that commute do so in a whole that answers as its part
pub square_map : {P A B L M : Type 0} (f : A → B) (g : A → L → Stack → Answer P A) (h : B → M → Stack → Answer P B) (p q : L) (p' q' : M) →
    ((x : A) (s : Stack) → h (f x) p' s ≡ map_answer f (g x p s)) → ((x : A) (s : Stack) → h (f x) q' s ≡ map_answer f (g x q s)) →
    (x : A) (s : Stack) → Square g x p q s → Square h (f x) p' q' s
square_map {P = P} {A = A} {B = B} f g h p q p' q' ep eq x s sq = subst (λ m. Gives (λ b u y. Gives (λ c v z. Other h (f x) p' q' s b u c v z) (h y q' (updated u s))) m) (sym (ep x s)) (one (g x p s) sq)
  where
    second : (b : Bool) (u : Update) (m : Answer P A) → Gives (λ c v z. Other g x p q s b u c v z) m → Gives (λ c v z. Other h (f x) p' q' s b u c v z) (map_answer f m)
    second b u (stops turn e) k = tt
    second b u no_answer k = tt
    second b u (makes c v z) k =
        (f k.0, eq x s ∙ ap (map_answer f) k.1, ep k.0 (updated v s) ∙ ap (map_answer f) k.2, k.3)

    one : (m : Answer P A) → Gives (λ b u y. Gives (λ c v z. Other g x p q s b u c v z) (g y q (updated u s))) m → Gives (λ b u y. Gives (λ c v z. Other h (f x) p' q' s b u c v z) (h y q' (updated u s))) (map_answer f m)
    one (stops turn e) k = tt
    one no_answer k = tt
    one (makes b u y) k = subst (λ m. Gives (λ c v z. Other h (f x) p' q' s b u c v z) m) (sym (eq y (updated u s))) (second b u (g y q (updated u s)) k)

apart_changes : (u v : Update) (T U : Touch → Type 0) → Covered u T → Covered v U → ((a b : Touch) → T a → U b → AreCompatible a b) → ApartChanges u v
apart_changes keep v T U c d h = tt
apart_changes (put r by x) keep T U c d h = tt
apart_changes (put r by x) (put q to y) T U c d h = h (writes r by) (writes q to) c d
apart_changes (put r by x) (add l k y) T U c d h = tt
apart_changes (put r by x) (remove l k y) T U c d h = tt
apart_changes (add l k x) keep T U c d h = tt
apart_changes (add l k x) (put q to y) T U c d h = tt
apart_changes (add l k x) (add m n y) T U c d h = tt
apart_changes (add l k x) (remove m n y) T U c d h = h (pushes l k) (takes m n) c d
apart_changes (remove l k x) keep T U c d h = tt
apart_changes (remove l k x) (put q to y) T U c d h = tt
apart_changes (remove l k x) (add m n y) T U c d h = h (takes l k) (pushes m n) c d
apart_changes (remove l k x) (remove m n y) T U c d h = tt

-- moves of two parts that stand beside each other and do not conflict
module _ {P A B C L : Type 0} (make : A → B → C) (go : C → L → Stack → Answer P C) (p q : L) (g : A → Stack → Answer P A) (h : B → Stack → Answer P B)
    (ep : (x : A) (y : B) (s : Stack) → go (make x y) p s ≡ map_answer (λ x'. make x' y) (g x s))
    (eq : (x : A) (y : B) (s : Stack) → go (make x y) q s ≡ map_answer (λ y'. make x y') (h y s))
    (x : A) (y : B) (s : Stack) (T U : Touch → Type 0)
    (within_g : Gives (λ b u z. Covered u T) (g x s)) (within_h : Gives (λ b u z. Covered u U) (h y s))
    (stable_g : (u : Update) → Avoids u T → g x (updated u s) ≡ g x s) (stable_h : (u : Update) → Avoids u U → h y (updated u s) ≡ h y s)
    (apart : (a b : Touch) → T a → U b → AreCompatible a b) where
  beside_second : (b : Bool) (u : Update) (x' : A) → g x s ≡ makes b u x' → Covered u T → (m : Answer P B) → h y s ≡ m → Gives (λ c v z. Covered v U) m → Gives (λ c v z. Other go (make x y) p q s b u c v z) (map_answer (λ y'. make x' y') m)
  beside_second b u x' e1 c1 (stops turn f) e2 c2 = tt
  beside_second b u x' e1 c1 no_answer e2 c2 = tt
  beside_second b u x' e1 c1 (makes c v y') e2 c2 = (
    make x y',
    eq x y s ∙ ap (map_answer (λ z. make x z)) e2,
    ep x y' (updated v s) ∙ ap (map_answer (λ z. make z y')) (stable_g v (avoids_of v U T c2 (λ a b' ua tb. apart_sym b' a (apart b' a tb ua))) ∙ e1),
    apply_comm u v (apart_changes u v T U c1 c2 apart) s,
  )

  beside_first : (m : Answer P A) → g x s ≡ m → Gives (λ b u z. Covered u T) m → Gives (λ b u z. Gives (λ c v w. Other go (make x y) p q s b u c v w) (go z q (updated u s))) (map_answer (λ x'. make x' y) m)
  beside_first (stops turn f) e1 c1 = tt
  beside_first no_answer e1 c1 = tt
  beside_first (makes b u x') e1 c1 =
      subst (λ m. Gives (λ c v w. Other go (make x y) p q s b u c v w) m) (sym (eq x' y (updated u s) ∙ ap (map_answer (λ z. make x' z)) (stable_h u (avoids_of u T U c1 apart))))
      (beside_second b u x' e1 c1 (h y s) refl within_h)

  -- they commute
  pub beside : Square go (make x y) p q s
  beside = subst (λ m. Gives (λ b u z. Gives (λ c v w. Other go (make x y) p q s b u c v w) (go z q (updated u s))) m) (sym (ep x y s)) (beside_first (g x s) refl within_g)

-- a stack without its innermost frame
abbrev pub tail : Stack → Stack
tail [] = []
tail (f ∷ s) = s

-- moves inside an owner of a frame
module _ {P : Type 0} (make : Frame → Work P → Work P) (p q : Route)
    (ep : (f : Frame) (t : Work P) (s : Stack) → Can t p (f ∷ s) → act (make f t) p s ≡ owned_answer make f (act t p (f ∷ s)))
    (eq : (f : Frame) (t : Work P) (s : Stack) → Can t q (f ∷ s) → act (make f t) q s ≡ owned_answer make f (act t q (f ∷ s)))
    (own : Frame) (t : Work P) (s : Stack) (safe : Safe t) (cp : Can t p (own ∷ s)) (cq : Can t q (own ∷ s)) (n : p ≡ q → ⊥) where
  owned_second : (b : Bool) (u : Update) (m : Answer P (Work P)) → Gives (λ c v z. Other act t p q (own ∷ s) b u c v z) m → Gives (λ c v z. Other act (make own t) p q s b (outer_update u) c v z) (owned_answer make (own_update u own) m)
  owned_second b u (stops turn e) k = tt
  owned_second b u no_answer k = tt
  owned_second b u (makes c v z) k =
      let own1 : Frame = own_update u own in
      let own2 : Frame = own_update v own in
      let both_ways : (own_update u own2 ∷ updated (outer_update u) (updated (outer_update v) s)) ≡ (own_update v own1 ∷ updated (outer_update v) (updated (outer_update u) s)) =
      sym (split u own2 (updated (outer_update v) s)) ∙ ap (updated u) (sym (split v own s)) ∙ k.3 ∙ ap (updated v) (split u own s) ∙ split v own1 (updated (outer_update u) s) in
      let still : Can k.0 p (own2 ∷ updated (outer_update v) s) = subst (Can k.0 p) (split v own s) (subst (λ m. Gives (λ b' u' t'. Can t' p (updated u' (own ∷ s))) m) k.1 (stays t q p (own ∷ s) safe cq cp (λ e. n (sym e)))) in (
        make own2 k.0,
        eq own t s cq ∙ ap (owned_answer make own) k.1,
        ep own2 k.0 (updated (outer_update v) s) still ∙ ap (λ w. owned_answer make own2 (act k.0 p w)) (sym (split v own s)) ∙ ap (owned_answer make own2) k.2
            ∙ ap (λ f. makes b (outer_update u) (make f z)) (ap top both_ways),
        ap tail both_ways,
      )

  owned_first : (m : Answer P (Work P)) → Gives (λ b u y. Can y q (updated u (own ∷ s))) m → Gives (λ b u y. Gives (λ c v z. Other act t p q (own ∷ s) b u c v z) (act y q (updated u (own ∷ s)))) m →
      Gives (λ b u y. Gives (λ c v z. Other act (make own t) p q s b u c v z) (act y q (updated u s))) (owned_answer make own m)
  owned_first (stops turn e) c k = tt
  owned_first no_answer c k = tt
  owned_first (makes b u y) c k =
      subst (λ m. Gives (λ c v z. Other act (make own t) p q s b (outer_update u) c v z) m)
      (sym (eq (own_update u own) y (updated (outer_update u) s) (subst (Can y q) (split u own s) c) ∙ ap (λ w. owned_answer make (own_update u own) (act y q w)) (sym (split u own s))))
      (owned_second b u (act y q (updated u (own ∷ s))) k)

  -- two that commute inside do so outside
  pub square_owned : Square act t p q (own ∷ s) → Square act (make own t) p q s
  square_owned k =
      subst (λ m. Gives (λ b u y. Gives (λ c v z. Other act (make own t) p q s b u c v z) (act y q (updated u s))) m) (sym (ep own t s cp))
      (owned_first (act t p (own ∷ s)) (stays t p q (own ∷ s) safe cp cq n) k)
