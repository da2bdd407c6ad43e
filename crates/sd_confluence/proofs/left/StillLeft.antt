-- What is left of work stays so by moves and settling, and touches no more than the work.
use Rattle.std.proofs.Common.{ℕ, zero, suc, ℤ, List, [], ◌∷◌, map, drop, Bool, true, false, ◌&&◌, refl, sym, subst, inl, inr, slice_get}
use Rattle.std.specs.Bool.{⊤}
use Rattle.std.specs.List.{AllByRecursion}
use Rattle.sd_work.specs.Memory.{Memories, waiting}
use Rattle.sd_work.specs.Leaf.{Leaf}
use Rattle.sd_work.specs.LeafMove.{leaf_move}
use Rattle.sd_work.specs.Exit.{first_exit}
use Rattle.sd_work.specs.Move.{Move, fails, goes, no_move, map_move}
use Rattle.sd_work.specs.Residual.{Parts, Term, leaf, list, owning, nested, ended, pool, Terms, none, also, Actives, idle, busy, finished, is_ready}
use Rattle.sd_work.specs.Moves.{Path}
use Rattle.sd_work.specs.Fire.{and_last, fire, fire_part, fire_active}
use Rattle.sd_work.specs.Settle.{is_first_left, settle, settle_parts, settle_active}
use Rattle.sd_work.specs.Step.{Machine, Outcome, Done, Faulted, Spent, opening, next_moves, moved, step}
use Rattle.sd_work.specs.Run.{Choice, chosen, choices, choices_by, choices_on}
use Rattle.sd_work.specs.Touch.{Touch, inner, Touches, SomePartTouches, SomeActiveTouches}
use Rattle.sd_work.specs.New.{IsNew, AreNew, UnfoldsNew, UnfoldNew}
use Rattle.sd_work.proofs.Leaving.{Leaves, leaves_map, leaves_owned, leaves_cond, leaves_transition, leaves_take}
use Rattle.sd_confluence.specs.Left.{IsLeftOf, AreLeftOf, AreActivesLeftOf}
use Rattle.sd_confluence.proofs.settling.Kept.{TouchesAtMost, touches-kept}

-- ---- what is touched

mutual
  -- what is left touches no more
  pub left-touches : {P : Type 0} (t x : Term P) (a : Touch) → IsLeftOf t x → Touches x a → Touches t a
  left-touches t (leaf place rest) a h d = subst (λ z. Touches z a) (sym h.1) (h.2 a d)
  left-touches t (list kind before left) a h d = subst (λ z. Touches z a) (sym h.1) (parts_touch h.0 left a h.2 d)
  left-touches t (owning now left) a h d = subst (λ z. Touches z a) (sym h.2) (left-touches h.1 left (inner a) h.3 d)
  left-touches t (nested body exits now state values left) a h d =
      subst (λ z. Touches z a) (sym h.4) (elim d [
        | inl x ↦ elim h.5 [
          | inl y ↦ inl (left-touches h.3 left (inner a) y.2 x)
          | inr y ↦ inr (inl (state, values, left-touches (body state values) left (inner a) y x))
        ]
        | inr x ↦ inr x
      ])
  left-touches t (ended now) a h d = absurd d
  left-touches t (pool level container body left closed) a h d =
      subst (λ z. Touches z a) (sym h.2) (elim d [
        | inl e ↦ inl e
        | inr x ↦ elim x [ inl y ↦ inr (inr (active_touches body left a h.3 y)) | inr y ↦ inr (inr y) ]
      ])

  parts_touch : {P : Type 0} (ts us : Terms P) (a : Touch) → AreLeftOf ts us → SomePartTouches us a → SomePartTouches ts a
  parts_touch ts none a h d = absurd d
  parts_touch ts (also x us) a h d =
      subst (λ z. SomePartTouches z a) (sym h.2) (elim d [ inl y ↦ inl (left-touches h.0 x a h.3 y) | inr y ↦ inr (parts_touch h.1 us a h.4 y) ])

  active_touches : {P : Type 0} (body : ℤ → Term P) (us : Actives P) (a : Touch) → AreActivesLeftOf body us → SomeActiveTouches us a → (v : ℤ) × Touches (body v) a
  active_touches body idle a h d = absurd d
  active_touches body (busy v x us) a h d = elim d [ inl y ↦ (v, left-touches (body v) x a h.0 y) | inr y ↦ active_touches body us a h.1 y ]

-- ---- at the begin

mutual
  -- work as it is unfolded is left of itself
  pub new-left : {P : Type 0} (t : Term P) → IsNew t → IsLeftOf t t
  new-left (leaf place work) n = (work, refl, λ a d. d)
  new-left (list kind before parts) n = (parts, refl, new_parts parts n)
  new-left (owning own part) n = (own, part, refl, new-left part n.1)
  new-left (nested body exits own state values part) n = (own, state, values, part, refl, inl (refl, refl, new-left part n.1))
  new-left (ended own) n = inl (own, refl)
  new-left (pool level container body active closed) n = (active, closed, refl, subst (AreActivesLeftOf body) (sym n.0) tt)

  new_parts : {P : Type 0} (ts : Terms P) → AreNew ts → AreLeftOf ts ts
  new_parts none n = refl
  new_parts (also t ts) n = (t, ts, refl, new-left t n.0, new_parts ts n.1)

-- ---- moves

left_leaf : {P : Type 0} (t : Term P) (place : P) (work : Leaf) → IsLeftOf t (leaf place work) → (m : Move P Leaf) → Leaves (TouchesAtMost (leaf place work)) (map_move (leaf place) m) → Leaves (IsLeftOf t) (map_move (leaf place) m)
left_leaf t place work h (fails turn fault) g = tt
left_leaf t place work h (goes turn change rest) g = (h.0, h.1, λ a d. h.2 a (g a d))
left_leaf t place work h no_move g = tt

last_left : {P : Type 0} (body : ℤ → Term P) (us : Actives P) (v : ℤ) (x : Term P) → AreActivesLeftOf body us → IsLeftOf (body v) x → AreActivesLeftOf body (and_last us v x)
last_left body idle v x h g = (g, tt)
last_left body (busy w y us) v x h g = (h.0, last_left body us v x h.1 g)

mutual
  -- what a move leaves is left of the same work
  pub left-kept : {P : Type 0} (t x : Term P) (p : Path) (s : Memories) → UnfoldsNew t → IsLeftOf t x → Leaves (IsLeftOf t) (fire x p s)
  left-kept t (leaf place work) p s n h = left_leaf t place work h (leaf_move place work s) (touches-kept (leaf place work) p s)
  left-kept t (list kind before left) [] s n h = tt
  left-kept t (list kind before left) (k ∷ p) s n h =
      leaves_map (list kind before) (AreLeftOf h.0) (IsLeftOf t) (λ us g. (h.0, h.1, g)) (fire_part left k p s) (left_parts h.0 left k p s (subst UnfoldsNew h.1 n) h.2)
  left-kept t (owning now left) p s n h =
      leaves_owned (IsLeftOf h.1) (IsLeftOf t) owning now (λ f y g. (h.0, h.1, h.2, g)) (fire left p (now ∷ s)) (left-kept h.1 left p (now ∷ s) (subst UnfoldsNew h.2 n) h.3)
  left-kept {P} t (nested body exits now state values left) p s n h =
      let new : UnfoldsNew (nested body exits h.0 h.1 h.2 h.3) = subst UnfoldsNew h.4 n in
      leaves_cond (IsLeftOf t) (finished left) _ _
      (leaves_transition (IsLeftOf t) body exits now (inr (body, exits, h.0, h.1, h.2, h.3, h.4))
      (λ k e. (h.0, h.1, h.2, h.3, h.4, inr (new-left (body k e) (new.1 k e).0))) (first_exit (exits state values) (now ∷ s)))
      (elim h.5 [
        | inl y ↦ leaves_owned (IsLeftOf h.3) (IsLeftOf t) (λ f z. nested body exits f state values z) now
            (λ f z g. (h.0, h.1, h.2, h.3, h.4, inl (y.0, y.1, g))) (fire left p (now ∷ s)) (left-kept h.3 left p (now ∷ s) new.0 y.2)
        | inr y ↦ leaves_owned (IsLeftOf (body state values)) (IsLeftOf t) (λ f z. nested body exits f state values z) now
            (λ f z g. (h.0, h.1, h.2, h.3, h.4, inr g)) (fire left p (now ∷ s)) (left-kept (body state values) left p (now ∷ s) (new.1 state values).1 y)
      ])
  left-kept t (ended now) p s n h = tt
  left-kept t (pool level container body left closed) [] s n h = tt
  left-kept t (pool level container body left closed) (zero ∷ []) s n h = tt
  left-kept t (pool level container body left closed) (zero ∷ k ∷ p) s n h =
      let new : UnfoldsNew (pool level container body h.0 h.1) = subst UnfoldsNew h.2 n in
      leaves_take (IsLeftOf t) level container body left closed (λ v. (h.0, h.1, h.2, last_left body left v (body v) h.3 (new-left (body v) (new.1 v).0))) k (slice_get (waiting level container s) k)
  left-kept t (pool level container body left closed) (suc j ∷ []) s n h = tt
  left-kept t (pool level container body left closed) (suc j ∷ k ∷ p) s n h =
      let new : UnfoldsNew (pool level container body h.0 h.1) = subst UnfoldsNew h.2 n in
      leaves_map (λ us. pool level container body us closed) (AreActivesLeftOf body) (IsLeftOf t) (λ us g. (h.0, h.1, h.2, g)) (fire_active left k p s)
      (left_active body left k p s (λ v. (new.1 v).1) h.3)

  left_parts : {P : Type 0} (ts us : Terms P) (k : ℕ) (p : Path) (s : Memories) → UnfoldNew ts → AreLeftOf ts us → Leaves (AreLeftOf ts) (fire_part us k p s)
  left_parts ts none k p s n h = tt
  left_parts ts (also x us) zero p s n h =
      let new : UnfoldNew (also h.0 h.1) = subst UnfoldNew h.2 n in
      leaves_map (λ z. also z us) (IsLeftOf h.0) (AreLeftOf ts) (λ z g. (h.0, h.1, h.2, g, h.4)) (fire x p s) (left-kept h.0 x p s new.0 h.3)
  left_parts ts (also x us) (suc k) p s n h =
      let new : UnfoldNew (also h.0 h.1) = subst UnfoldNew h.2 n in
      leaves_map (also x) (AreLeftOf h.1) (AreLeftOf ts) (λ z g. (h.0, h.1, h.2, h.3, g)) (fire_part us k p s) (left_parts h.1 us k p s new.1 h.4)

  left_active : {P : Type 0} (body : ℤ → Term P) (us : Actives P) (k : ℕ) (p : Path) (s : Memories) → ((v : ℤ) → UnfoldsNew (body v)) → AreActivesLeftOf body us → Leaves (AreActivesLeftOf body) (fire_active us k p s)
  left_active body idle k p s n h = tt
  left_active body (busy v x us) zero p s n h = leaves_map (λ z. busy v z us) (IsLeftOf (body v)) (AreActivesLeftOf body) (λ z g. (g, h.1)) (fire x p s) (left-kept (body v) x p s (n v) h.0)
  left_active body (busy v x us) (suc k) p s n h = leaves_map (busy v x) (AreActivesLeftOf body) (AreActivesLeftOf body) (λ z g. (h.0, g)) (fire_active us k p s) (left_active body us k p s n h.1)

-- ---- settling

mutual
  pub left-settled : {P : Type 0} (go : Bool) (cleared : List Bool) (s : Memories) (t x : Term P) → IsLeftOf t x → IsLeftOf t (settle go cleared s x)
  left-settled go cleared s t (leaf place work) h = h
  left-settled go cleared s t (list kind before left) h = (h.0, h.1, left_settled_parts go cleared s kind before [] 0 h.0 left h.2)
  left-settled go cleared s t (owning now left) h = (h.0, h.1, h.2, left-settled go (true ∷ cleared) (now ∷ s) h.1 left h.3)
  left-settled go cleared s t (nested body exits now state values left) h = (
    h.0,
    h.1,
    h.2,
    h.3,
    h.4,
    elim h.5 [
      | inl y ↦ inl (y.0, y.1, left-settled go (true ∷ cleared) (now ∷ s) h.3 left y.2)
      | inr y ↦ inr (left-settled go (true ∷ cleared) (now ∷ s) (body state values) left y)
    ],
  )
  left-settled go cleared s t (ended now) h = h
  left-settled go cleared s t (pool level container body left closed) h = (h.0, h.1, h.2, left_settled_active go cleared s body left h.3)

  left_settled_parts : {P : Type 0} (go : Bool) (cleared : List Bool) (s : Memories) (kind : Parts) (before : ℕ → ℕ → Bool) (flags : List Bool) (number : ℕ) (ts us : Terms P) → AreLeftOf ts us →
      AreLeftOf ts (settle_parts go cleared s kind before flags number us)
  left_settled_parts go cleared s kind before flags number ts none h = h
  left_settled_parts go cleared s kind before flags number ts (also x us) h =
      (h.0, h.1, h.2, left-settled (go && is_ready before flags number) (map (λ flag. is_first_left kind flags && flag) cleared) s h.0 x h.3, left_settled_parts go cleared s kind before _ (suc number) h.1 us h.4)

  left_settled_active : {P : Type 0} (go : Bool) (cleared : List Bool) (s : Memories) (body : ℤ → Term P) (us : Actives P) → AreActivesLeftOf body us → AreActivesLeftOf body (settle_active go cleared s us)
  left_settled_active go cleared s body idle h = h
  left_settled_active go cleared s body (busy v x us) h = (left-settled go cleared s (body v) x h.0, left_settled_active go cleared s body us h.1)

-- ---- runs

abbrev IsLeftAt : {P : Type 0} → Term P → Choice P → Type 0
IsLeftAt t choice = IsLeftOf t choice.machine.term

-- what holds of the machine that a step leaves
abbrev After : {P : Type 0} → Term P → Outcome P (Machine P) → Type 0
After t (Done machine) = IsLeftOf t machine.term
After t (Faulted fault) = ⊤
After t Spent = ⊤

left_moved : {P : Type 0} (t : Term P) (term : Term P) (turns : ℕ) (m : Move P (Term P)) → IsLeftOf t term → Leaves (IsLeftOf t) m → After t (moved (record { term = term; turns = turns }) m)
left_moved t term zero (fails true fault) h g = tt
left_moved t term (suc turns) (fails true fault) h g = tt
left_moved t term turns (fails false fault) h g = tt
left_moved t term zero (goes true change x) h g = tt
left_moved t term (suc turns) (goes true change x) h g = left-settled true [] [] t x g
left_moved t term turns (goes false change x) h g = left-settled true [] [] t x g
left_moved t term turns no_move h g = h

left_step : {P : Type 0} (t : Term P) (p : Path) (m : Machine P) → UnfoldsNew t → IsLeftOf t m.term → After t (step p m)
left_step t p m n h = left_moved t m.term m.turns (fire m.term p []) h (left-kept t m.term p [] n h)

left_on : {P : Type 0} (t : Term P) (outcome : Outcome P (Machine P)) (rest : Machine P → List (Choice P)) → After t outcome →
    ((m : Machine P) → IsLeftOf t m.term → AllByRecursion (IsLeftAt t) (rest m)) → AllByRecursion (IsLeftAt t) (choices_on outcome rest)
left_on t (Done m) rest h each = each m h
left_on t (Faulted fault) rest h each = tt
left_on t Spent rest h each = tt

left_by : {P : Type 0} (t : Term P) (moves : List Path) (picks : List ℕ) (m : Machine P) (rest : Machine P → List (Choice P)) → UnfoldsNew t → IsLeftOf t m.term →
    ((m : Machine P) → IsLeftOf t m.term → AllByRecursion (IsLeftAt t) (rest m)) → AllByRecursion (IsLeftAt t) (choices_by moves picks m rest)
left_by t [] picks m rest n h each = tt
left_by t (first ∷ others) picks m rest n h each = (h, left_on t (step (chosen picks first others) m) rest (left_step t (chosen picks first others) m n h) each)

left_choices : {P : Type 0} (t : Term P) (steps : ℕ) (picks : List ℕ) (m : Machine P) → UnfoldsNew t → IsLeftOf t m.term → AllByRecursion (IsLeftAt t) (choices steps picks m)
left_choices t zero picks m n h = tt
left_choices t (suc steps) picks m n h = left_by t (next_moves m) picks m (choices steps (drop 1 picks)) n h (λ next g. left_choices t steps (drop 1 picks) next n g)

-- at each choice of a run what is left is left of the same work
pub runs-left : {P : Type 0} (t x : Term P) (steps turns : ℕ) (picks : List ℕ) → UnfoldsNew t → IsLeftOf t x → AllByRecursion (λ choice. IsLeftOf t choice.machine.term) (choices steps picks (opening x turns))
runs-left t x steps turns picks n h = left_choices t steps picks (opening x turns) n (left-settled true [] [] t x h)
