-- Any next move of safe work can be made first.
use Rattle.std.proofs.Common.{◌≡◌, ℕ, zero, suc, pred, [], ◌∷◌, ℤ, Bool, true, false, refl, sym, ◌∙◌, ap, subst, inl, inr, ◌⊎◌}
use Rattle.sd_work.specs.Step.{Outcome, Done, Faulted, Spent}
use Rattle.sd_work.proofs.left_to_right.Leads.{Pays}
use Rattle.std.specs.Ordering.{int_eq}
use Rattle.sd_confluence.proofs.bags.Values.{same-true, same-refl}
use Rattle.sd_confluence.proofs.bags.BagMemory.{Update, keep, put, add, remove, updated}
use Rattle.sd_confluence.proofs.bags.Works.{Work, Hop, part_number, taking, acting, closing, Route, Answer, stops, makes, no_answer, act, Can}
use Rattle.sd_confluence.proofs.bags.WorkTouches.{Safe}
use Rattle.sd_confluence.proofs.bags.WorkRuns.{Engine, answered, advance, Ends}
use Rattle.sd_confluence.proofs.commuting.Within.{Gives}
use Rattle.sd_confluence.proofs.commuting.Stays.{stays, safe_kept}
use Rattle.sd_confluence.proofs.commuting.Square.{Other}
use Rattle.sd_confluence.proofs.commuting.Swap.{swap}
use Rattle.sd_confluence.proofs.commuting.Answers.{IsAnswer, can_answers}

-- the machine of a step that was done, or another one
abbrev pub machine_of : {P : Type 0} → Engine P → Outcome P (Engine P) → Engine P
machine_of d (Done m) = m
machine_of d (Faulted f) = d
machine_of d Spent = d

-- the move behind a step that was done
pub moved_back : {P : Type 0} (w : Work P) (n : ℕ) (m : Answer P (Work P)) (x : Engine P) → IsAnswer m → answered w n m ≡ Done x → (b : Bool) × (u : Update) × (m ≡ makes b u x.work) × Pays b n x.turns
moved_back w n no_answer x a e = elim a [ ]
moved_back w zero (stops true f) x a e = cc
moved_back w zero (stops false f) x a e = cc
moved_back w (suc n) (stops true f) x a e = cc
moved_back w (suc n) (stops false f) x a e = cc
moved_back w zero (makes true u t) x a e = cc
moved_back w zero (makes false u t) x a e = let h = ap (machine_of x) e in (false, u, ap (λ y. makes false u y.work) h, ap (λ y. y.turns) h)
moved_back w (suc n) (makes true u t) x a e = let h = ap (machine_of x) e in (true, u, ap (λ y. makes true u y.work) h, ap (λ y. suc y.turns) h)
moved_back w (suc n) (makes false u t) x a e = let h = ap (machine_of x) e in (false, u, ap (λ y. makes false u y.work) h, ap (λ y. y.turns) h)

-- the step of a move whose turn is there
pub moved_on : {P : Type 0} (w : Work P) (n m : ℕ) (b : Bool) (u : Update) (t : Work P) → Pays b n m → answered w n (makes b u t) ≡ Done (record { work = t; turns = m })
moved_on w n m true u t e = ap (λ k. answered w k (makes true u t)) e
moved_on w n m false u t e = ap (λ k. answered w k (makes false u t)) e

-- two payments in the other order
pub other_pays : (b c : Bool) (n k m : ℕ) → Pays b n k → Pays c k m → (j : ℕ) × Pays c n j × Pays b j m
other_pays true true n k m e f = (suc m, e ∙ ap suc f, refl)
other_pays true false n k m e f = (n, refl, e ∙ ap suc f)
other_pays false true n k m e f = (m, e ∙ f, refl)
other_pays false false n k m e f = (n, refl, e ∙ f)

apply_nil : (u : Update) → updated u [] ≡ []
apply_nil keep = refl
apply_nil (put to by v) = refl
apply_nil (add l c v) = refl
apply_nil (remove l c v) = refl

-- a move that is next stays next after a step by another one
pub stays_step : {P : Type 0} (m x : Engine P) (p q : Route) → Safe m.work → Can m.work p [] → Can m.work q [] → (p ≡ q → ⊥) → advance p m ≡ Done x → Can x.work q []
stays_step m x p q f c d n e =
    let h = moved_back m.work m.turns (act m.work p []) x (can_answers m.work p [] c) e in
    subst (Can x.work q) (apply_nil h.1) (subst (λ y. Gives (λ b u t. Can t q (updated u [])) y) h.2 (stays m.work p q [] f c d n))

safe_back : {P : Type 0} (w : Work P) (n : ℕ) (m : Answer P (Work P)) (x : Engine P) → Safe w → Gives (λ b u t. Safe t) m → answered w n m ≡ Done x → Safe x.work
safe_back w n no_answer x s g e = subst (λ y. Safe (machine_of x y).work) e s
safe_back w n (stops turn f) x s g e = subst (λ y. Gives (λ b u t. Safe t) y) (moved_back w n (stops turn f) x tt e).2 g
safe_back w n (makes turn u t) x s g e = subst (λ y. Gives (λ b u t. Safe t) y) (moved_back w n (makes turn u t) x tt e).2 g

-- safe work stays safe by a step
pub safe_step : {P : Type 0} (m x : Engine P) (p : Route) → Safe m.work → advance p m ≡ Done x → Safe x.work
safe_step m x p s e = safe_back m.work m.turns (act m.work p []) x s (safe_kept m.work p [] s) e

-- two steps in the other order
pub swap_step : {P : Type 0} (m x y : Engine P) (p q : Route) → Safe m.work → Can m.work p [] → Can m.work q [] → (p ≡ q → ⊥) → advance p m ≡ Done x → advance q x ≡ Done y → (z : Engine P) × (advance q m ≡ Done z) × (advance p z ≡ Done y)
swap_step m x y p q s c d n e f =
    let h = moved_back m.work m.turns (act m.work p []) x (can_answers m.work p [] c) e in
    let k = moved_back x.work x.turns (act x.work q []) y (can_answers x.work q [] (stays_step m x p q s c d n e)) f in
    let g : Gives (λ c' v z. Other act m.work p q [] h.0 h.1 c' v z) (act x.work q (updated h.1 [])) =
    subst (λ w. Gives (λ b u t. Gives (λ c' v z. Other act m.work p q [] b u c' v z) (act t q (updated u []))) w) h.2 (swap m.work p q [] s c d n) in
    let o : Other act m.work p q [] h.0 h.1 k.0 k.1 y.work =
    subst (λ w. Gives (λ c' v z. Other act m.work p q [] h.0 h.1 c' v z) w) (ap (act x.work q) (apply_nil h.1) ∙ k.2) g in
    let t = other_pays h.0 k.0 m.turns x.turns y.turns h.3 k.3 in (
      record { work = o.0; turns = t.0 },
      ap (answered m.work m.turns) o.1 ∙ moved_on m.work m.turns t.0 k.0 k.1 o.0 t.1,
      ap (answered o.0 t.0) (ap (act o.0 p) (sym (apply_nil k.1)) ∙ o.2) ∙ moved_on o.0 t.0 y.turns h.0 h.1 y.work t.2,
    )

alike_number : (m n : ℕ) → (m ≡ n) ⊎ (m ≡ n → ⊥)
alike_number zero zero = inl refl
alike_number zero (suc n) = inr (λ e. cc)
alike_number (suc m) zero = inr (λ e. cc)
alike_number (suc m) (suc n) = elim (alike_number m n) [ inl e ↦ inl (ap suc e) | inr f ↦ inr (λ e. f (ap pred e)) ]

alike_value : (v w : ℤ) → (v ≡ w) ⊎ (v ≡ w → ⊥)
alike_value v w = go (int_eq v w) refl
  where
    go : (b : Bool) → int_eq v w ≡ b → (v ≡ w) ⊎ (v ≡ w → ⊥)
    go true e = inl (same-true v w e)
    go false e = inr (λ f. let bad : true ≡ false = sym (same-refl v) ∙ ap (int_eq v) f ∙ e in cc)

alike_hop : (a b : Hop) → (a ≡ b) ⊎ (a ≡ b → ⊥)
alike_hop (part_number k) (part_number l) = elim (alike_number k l) [ inl e ↦ inl (ap part_number e) | inr f ↦ inr (λ e. f (cc)) ]
alike_hop (part_number k) (taking w) = inr (λ e. cc)
alike_hop (part_number k) (acting w j) = inr (λ e. cc)
alike_hop (part_number k) closing = inr (λ e. cc)
alike_hop (taking v) (part_number l) = inr (λ e. cc)
alike_hop (taking v) (taking w) = elim (alike_value v w) [ inl e ↦ inl (ap taking e) | inr f ↦ inr (λ e. f (cc)) ]
alike_hop (taking v) (acting w j) = inr (λ e. cc)
alike_hop (taking v) closing = inr (λ e. cc)
alike_hop (acting v i) (part_number l) = inr (λ e. cc)
alike_hop (acting v i) (taking w) = inr (λ e. cc)
alike_hop (acting v i) (acting w j) = both (alike_value v w) (alike_number i j)
  where
    both : (v ≡ w) ⊎ (v ≡ w → ⊥) → (i ≡ j) ⊎ (i ≡ j → ⊥) → (acting v i ≡ acting w j) ⊎ (acting v i ≡ acting w j → ⊥)
    both (inl e) (inl f) = inl (λ k. acting (e k) (f k))
    both (inl e) (inr f) = inr (λ g. f (cc))
    both (inr e) f = inr (λ g. e (cc))
alike_hop (acting v i) closing = inr (λ e. cc)
alike_hop closing (part_number l) = inr (λ e. cc)
alike_hop closing (taking w) = inr (λ e. cc)
alike_hop closing (acting w j) = inr (λ e. cc)
alike_hop closing closing = inl refl

alike_route : (p q : Route) → (p ≡ q) ⊎ (p ≡ q → ⊥)
alike_route [] [] = inl refl
alike_route [] (l ∷ q) = inr (λ e. cc)
alike_route (k ∷ p) [] = inr (λ e. cc)
alike_route (k ∷ p) (l ∷ q) = go (alike_hop k l) (alike_route p q)
  where
    go : (k ≡ l) ⊎ (k ≡ l → ⊥) → (p ≡ q) ⊎ (p ≡ q → ⊥) → ((k ∷ p) ≡ (l ∷ q)) ⊎ ((k ∷ p) ≡ (l ∷ q) → ⊥)
    go (inl e) (inl f) = inl (λ i. e i ∷ f i)
    go (inl e) (inr f) = inr (λ g. f (cc))
    go (inr e) f = inr (λ g. e (cc))

-- any next move can be made first
pub front : {P : Type 0} (n : ℕ) (m e : Engine P) → Safe m.work → Ends n m e → (q : Route) → Can m.work q [] → (k : ℕ) × (n ≡ suc k) × (x : Engine P) × (advance q m ≡ Done x) × Ends k x e
front zero m e s r q d = absurd (r.1 q d)
front {P} (suc n) m e s r q d = go (alike_route r.0 q) (λ f. front n r.2 e (safe_step m r.2 r.0 s r.3) r.4 q (stays_step m r.2 r.0 q s r.1 d f r.3))
  where
    go : (r.0 ≡ q) ⊎ (r.0 ≡ q → ⊥) → ((r.0 ≡ q → ⊥) → (k : ℕ) × (n ≡ suc k) × (x : Engine P) × (advance q r.2 ≡ Done x) × Ends k x e) →
        (k : ℕ) × (suc n ≡ suc k) × (x : Engine P) × (advance q m ≡ Done x) × Ends k x e
    go (inl f) later = (n, refl, r.2, ap (λ w. advance w m) (sym f) ∙ r.3, r.4)
    go (inr f) later =
        let h = later f in
        let z = swap_step m r.2 h.2 r.0 q s r.1 d f r.3 h.3 in
        let after : Ends (suc h.0) z.0 e = (r.0, stays_step m z.0 q r.0 s d r.1 (λ w. f (sym w)) z.1, h.2, z.2, h.4) in
        (n, refl, z.0, z.1, subst (λ k. Ends k z.0 e) (sym h.1) after)
