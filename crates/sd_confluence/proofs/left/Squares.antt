-- Two moves, one behind the other, in the other order: of a part, and of the whole.
use Rattle.std.proofs.Common.{◌≡◌, ◌∷◌, Bool, false, refl, sym, ◌∙◌, ap, subst}
use Rattle.sd_work.specs.Memory.{Memory, Memories}
use Rattle.sd_work.specs.Change.{Change, apply, outer, own_after}
use Rattle.sd_work.specs.Move.{Move, fails, goes, no_move, map_move}
use Rattle.sd_work.specs.Residual.{Term, leaf, list, owning, nested, ended, pool, Terms, none, also, Actives, idle, busy, finished}
use Rattle.sd_work.specs.Moves.{Path}
use Rattle.sd_work.specs.Fire.{owned, fire}
use Rattle.sd_work.proofs.Changes.{apply-own}
use Rattle.sd_confluence.specs.Alike.{AreAlike, AreStacksAlike}
use Rattle.sd_confluence.specs.Sides.{AreTermsAlike, AreAllAlike, AreActivesAlike}
use Rattle.sd_confluence.proofs.image.Images.{IsNext}
use Rattle.sd_confluence.proofs.left.Beside.{same_memory, moved_part}

mutual
  -- each term is alike itself
  pub same_term : {P : Type 0} (t : Term P) → AreTermsAlike t t
  same_term (leaf place work) = refl
  same_term (list kind before parts) = (parts, refl, same_terms parts)
  same_term (owning own part) = (own, part, refl, same_memory own, same_term part)
  same_term (nested body exits own state values part) = (own, part, refl, same_memory own, same_term part)
  same_term (ended own) = (own, refl, same_memory own)
  same_term (pool level container body active closed) = (active, refl, same_actives active)

  pub same_terms : {P : Type 0} (ts : Terms P) → AreAllAlike ts ts
  same_terms none = refl
  same_terms (also t ts) = (t, ts, refl, same_term t, same_terms ts)

  pub same_actives : {P : Type 0} (ts : Actives P) → AreActivesAlike ts ts
  same_actives idle = refl
  same_actives (busy v t ts) = (t, ts, refl, same_term t, same_actives ts)

-- ---- squares

-- two moves, one behind the other, may be made in the other order; what was unfinished between them stays so, and the other move stays next
abbrev pub Square : {P A L : Type 0} → (A → L → Memories → Move P A) → (A → L → Memories → Type 0) → (A → A → Type 0) → (A → Bool) → A → L → L → Memories → Type 0
Square {P} {A} {L} go N R over x p q s =
    (b : Bool) (u : Change) (y : A) → go x p s ≡ goes b u y →
    (over y ≡ false) × N y q (apply u s) × ((c : Bool) (v : Change) (z : A) → go y q (apply u s) ≡ goes c v z →
    (early : A) × (last : A) × (go x q s ≡ goes c v early) × (over early ≡ false) × (go early p (apply v s) ≡ goes b u last) × R z last × AreStacksAlike (apply v (apply u s)) (apply u (apply v s)) × N early p (apply v s))

-- in a whole that answers as its part
pub square_map : {P A B L M : Type 0} (f : A → B) (g : A → L → Memories → Move P A) (h : B → M → Memories → Move P B) (N : A → L → Memories → Type 0) (O : B → M → Memories → Type 0) (R : A → A → Type 0) (S : B → B → Type 0) (over : A → Bool) (over' : B → Bool) (p q : L) (p' q' : M) →
    ((x : A) (s : Memories) → h (f x) p' s ≡ map_move f (g x p s)) → ((x : A) (s : Memories) → h (f x) q' s ≡ map_move f (g x q s)) →
    ((x : A) (s : Memories) → N x p s → O (f x) p' s) → ((x : A) (s : Memories) → N x q s → O (f x) q' s) →
    ((x y : A) → R x y → S (f x) (f y)) → ((x : A) → over x ≡ false → over' (f x) ≡ false) →
    (x : A) (s : Memories) → Square g N R over x p q s → Square h O S over' (f x) p' q' s
square_map f g h N O R S over over' p q p' q' ep eq np nq alike still x s sq = λ b u y e.
    let one = moved_part f (g x p s) b u y (sym (ep x s) ∙ e) in
    let r = sq b u one.0 one.1 in (
      subst (λ z. over' z ≡ false) one.2 (still one.0 r.0),
      subst (λ z. O z q' (apply u s)) one.2 (nq one.0 (apply u s) r.1),
      λ c v z d.
          let two = moved_part f (g one.0 q (apply u s)) c v z (sym (eq one.0 (apply u s)) ∙ ap (λ w. h w q' (apply u s)) one.2 ∙ d) in
          let k = r.2 c v two.0 two.1 in (
            f k.0,
            f k.1,
            eq x s ∙ ap (map_move f) k.2,
            still k.0 k.3,
            ep k.0 (apply v s) ∙ ap (map_move f) k.4,
            subst (λ w. S w (f k.1)) two.2 (alike two.0 k.1 k.5),
            k.6,
            np k.0 (apply v s) k.7,
          ),
    )

-- the move behind one of an owner
pub owned_back : {P : Type 0} (whole : Memory → Term P → Term P) (own : Memory) (m : Move P (Term P)) (b : Bool) (u : Change) (y : Term P) → owned whole own m ≡ goes b u y →
    (v : Change) × (x : Term P) × (m ≡ goes b v x) × (outer v ≡ u) × (whole (own_after v own) x ≡ y)
owned_back whole own (fails c fault) b u y e = cc
owned_back whole own (goes c v x) b u y e = (v, x, cc, cc, cc)
owned_back whole own no_move b u y e = cc

-- inside an owner
pub square_owned : {P : Type 0} (whole : Memory → Term P → Term P) (p q : Path) →
    ((f : Memory) (z : Term P) (s : Memories) → finished z ≡ false → fire (whole f z) p s ≡ owned whole f (fire z p (f ∷ s))) →
    ((f : Memory) (z : Term P) (s : Memories) → finished z ≡ false → fire (whole f z) q s ≡ owned whole f (fire z q (f ∷ s))) →
    ((f : Memory) (z : Term P) (r : Path) (s : Memories) → finished z ≡ false → IsNext z r (f ∷ s) → IsNext (whole f z) r s) →
    ((f g : Memory) (z w : Term P) → AreAlike f g → AreTermsAlike z w → AreTermsAlike (whole f z) (whole g w)) → ((f : Memory) (z : Term P) → finished z ≡ false → finished (whole f z) ≡ false) →
    (own : Memory) (t : Term P) (s : Memories) → finished t ≡ false → Square fire IsNext AreTermsAlike finished t p q (own ∷ s) → Square fire IsNext AreTermsAlike finished (whole own t) p q s
square_owned {P} whole p q ep eq next alike still own t s un sq = λ b u y e.
    let one = owned_back whole own (fire t p (own ∷ s)) b u y (sym (ep own t s un) ∙ e) in
    let r = sq b one.0 one.1 one.2 in
    let f1 : Memory = own_after one.0 own in (
      subst (λ z. finished z ≡ false) one.4 (still f1 one.1 r.0),
      subst (λ w. IsNext y q (apply w s)) one.3 (subst (λ z. IsNext z q (apply (outer one.0) s)) one.4 (next f1 one.1 q (apply (outer one.0) s) r.0 (subst (IsNext one.1 q) (apply-own one.0 own s) r.1))),
      λ c v z d.
          let here : fire (whole f1 one.1) q (apply (outer one.0) s) ≡ goes c v z = (λ i. fire (one.4 i) q (apply (one.3 i) s)) ∙ d in
          let two = owned_back whole f1 (fire one.1 q (f1 ∷ apply (outer one.0) s)) c v z (sym (eq f1 one.1 (apply (outer one.0) s) r.0) ∙ here) in
          let k = r.2 c two.0 two.1 (ap (fire one.1 q) (apply-own one.0 own s) ∙ two.2) in
          let f2 : Memory = own_after two.0 own in
          let left : apply two.0 (apply one.0 (own ∷ s)) ≡ own_after two.0 f1 ∷ apply (outer two.0) (apply (outer one.0) s) = ap (apply two.0) (apply-own one.0 own s) ∙ apply-own two.0 f1 (apply (outer one.0) s) in
          let right : apply one.0 (apply two.0 (own ∷ s)) ≡ own_after one.0 f2 ∷ apply (outer one.0) (apply (outer two.0) s) = ap (apply one.0) (apply-own two.0 own s) ∙ apply-own one.0 f2 (apply (outer two.0) s) in
          let stacks : AreStacksAlike (own_after two.0 f1 ∷ apply (outer two.0) (apply (outer one.0) s)) (own_after one.0 f2 ∷ apply (outer one.0) (apply (outer two.0) s)) =
          subst (λ w. AreStacksAlike w (own_after one.0 f2 ∷ apply (outer one.0) (apply (outer two.0) s))) left (subst (AreStacksAlike (apply two.0 (apply one.0 (own ∷ s)))) right k.6) in (
            whole f2 k.0,
            whole (own_after one.0 f2) k.1,
            eq own t s un ∙ ap (owned whole own) k.2 ∙ (λ i. goes c (two.3 i) (whole f2 k.0)),
            still f2 k.0 k.3,
            ap (λ w. fire (whole f2 k.0) p (apply w s)) (sym two.3) ∙ ep f2 k.0 (apply (outer two.0) s) k.3
                ∙ ap (owned whole f2) (ap (fire k.0 p) (sym (apply-own two.0 own s)) ∙ k.4) ∙ (λ i. goes b (one.3 i) (whole (own_after one.0 f2) k.1)),
            subst (λ w. AreTermsAlike w (whole (own_after one.0 f2) k.1)) two.4 (alike (own_after two.0 f1) (own_after one.0 f2) two.1 k.1 stacks.0 k.5),
            subst (λ w. AreStacksAlike (apply w (apply u s)) (apply u (apply w s))) two.3 (subst (λ w. AreStacksAlike (apply (outer two.0) (apply w s)) (apply w (apply (outer two.0) s))) one.3 stacks.1),
            subst (λ w. IsNext (whole f2 k.0) p (apply w s)) two.3 (next f2 k.0 p (apply (outer two.0) s) k.3 (subst (IsNext k.0 p) (apply-own two.0 own s) k.7)),
          ),
    )
