-- In a run of one pool the values that are taken become active.
use Rattle.std.proofs.Common.{◌≡◌, ℕ, zero, suc, ◌+◌, List, [], ◌∷◌, ◌++◌, drop, Option, Some, None, ℤ, Bool, true, false, cond, eqb, slice_get, refl, sym, ◌∙◌, ap, subst, arith, inl, inr}
use Rattle.sd_work.specs.Memory.{Memory, Memories, waiting}
use Rattle.sd_work.specs.Change.{Change, nothing, write, push, take, own_after, outer}
use Rattle.sd_work.specs.Move.{Move, fails, goes, no_move, map_move}
use Rattle.sd_work.specs.Residual.{Term, owning, pool, Actives, idle, busy}
use Rattle.sd_work.specs.Moves.{Path}
use Rattle.sd_work.specs.Fire.{owned, and_last, take_move, fire, fire_active}
use Rattle.sd_work.specs.Settle.{settle_active, settled}
use Rattle.sd_work.specs.Step.{Machine, Outcome, Done, moved, step}
use Rattle.sd_work.specs.Touch.{Touch, takes, Touches, SomeActiveTouches, PoolTouches}
use Rattle.sd_work.proofs.Leaving.{Leaves}
use Rattle.sd_work.specs.Run.{chosen}
use Rattle.std.specs.Ordering.{int_eq}
use Rattle.sd_confluence.specs.Alike.{how_often}
use Rattle.sd_confluence.specs.Event.{Event, pushed_if, taken_if, event_of, event_of_move, values_taken}
use Rattle.sd_confluence.proofs.bags.Works.{Works, no_works, and_work}
use Rattle.sd_confluence.proofs.image.Images.{work_of, active_of}
use Rattle.sd_confluence.proofs.runs.Reaching.{Reaches, failed, paid}
use Rattle.sd_confluence.proofs.taking.Told.{event_inside, told, told-none, told-next}
use Rattle.sd_confluence.proofs.settling.Kept.{TouchesAtMost, touches-kept, AtMostActive, less_last}
use Rattle.sd_confluence.proofs.taking.TakesTouched.{TakesOf, takes_more, Changes, changes_map, takes-touched}
use Rattle.sd_confluence.proofs.settling.SettleKept.{settle_active-touches}
use Rattle.sd_confluence.proofs.taking.StreamCounts.{taken-sum, pushes-only, same-eqb}
use Rattle.sd_confluence.proofs.bags.Values.{count-append}

-- ---- the values that are worked on

-- the values of the active terms, in the order of taking
abbrev pub values_in : {P : Type 0} → Actives P → List ℤ
values_in idle = []
values_in (busy value part active) = value ∷ values_in active

-- how many works there are
abbrev pub works_number : {P : Type 0} → Works P → ℕ
works_number no_works = 0
works_number (and_work t ts) = suc (works_number ts)

-- a value is worked on as often as the image has works of it
pub values-image : {P : Type 0} (active : Actives P) (v : ℤ) → how_often (values_in active) v ≡ works_number (active_of active v)
values-image idle v = refl
values-image {P} (busy w t ts) v = ap (λ n. cond (int_eq w v) (suc n) n) (values-image ts v) ∙ go (int_eq w v) (active_of ts v)
  where
    go : (b : Bool) (us : Works P) → cond b (suc (works_number us)) (works_number us) ≡ works_number (cond b (and_work (work_of t) us) us)
    go true us = refl
    go false us = refl

-- active terms with one image are of the same values
pub same-values : {P : Type 0} (active other : Actives P) → active_of active ≡ active_of other → (v : ℤ) → how_often (values_in active) v ≡ how_often (values_in other) v
same-values active other e v = values-image active v ∙ ap (λ f. works_number (f v)) e ∙ sym (values-image other v)

values_last : {P : Type 0} (active : Actives P) (w : ℤ) (t : Term P) → values_in (and_last active w t) ≡ values_in active ++ w ∷ []
values_last idle w t = refl
values_last (busy x u us) w t = ap (λ xs. x ∷ xs) (values_last us w t)

values_settled : {P : Type 0} (may_go : Bool) (cleared : List Bool) (s : Memories) (active : Actives P) → values_in (settle_active may_go cleared s active) ≡ values_in active
values_settled may_go cleared s idle = refl
values_settled may_go cleared s (busy w t ts) = ap (λ xs. w ∷ xs) (values_settled may_go cleared s ts)

-- ---- one move

-- no work of a pool takes from a stream outside of it
abbrev pub NoTake : {P : Type 0} → Actives P → (ℤ → Term P) → Type 0
NoTake active body = (level other : ℕ) → PoolTouches body active (takes level other) → ⊥

no_take_more : {P : Type 0} (active left : Actives P) (body : ℤ → Term P) → ((a : Touch) → SomeActiveTouches left a → PoolTouches body active a) → NoTake active body → NoTake left body
no_take_more active left body h free l c t = free l c (elim t [ inl x ↦ h (takes l c) x | inr x ↦ inr x ])

-- a move of an active term takes from what these touch, keeps their values, and leaves ones that touch no more
abbrev Acted : {P : Type 0} → Actives P → Change → Actives P → Type 0
Acted active u left = TakesOf u (SomeActiveTouches active) × (values_in left ≡ values_in active) × AtMostActive active left

with_left : {P : Type 0} (t : Term P) (m : Move P (Term P)) → Changes (λ u x. TakesOf u (Touches t)) m → Leaves (TouchesAtMost t) m → Changes (λ u x. TakesOf u (Touches t) × TouchesAtMost t x) m
with_left t (fails turn fault) g h = tt
with_left t (goes turn u x) g h = (g, h)
with_left t no_move g h = tt

acted : {P : Type 0} (ts : Actives P) (k : ℕ) (p : Path) (s : Memories) → Changes (Acted ts) (fire_active ts k p s)
acted idle k p s = tt
acted (busy v t ts) zero p s =
    changes_map (λ x. busy v x ts) (λ u x. TakesOf u (Touches t) × TouchesAtMost t x) (Acted (busy v t ts))
    (λ u x g. (takes_more u (Touches t) (SomeActiveTouches (busy v t ts)) (λ a y. inl y) g.0, refl, λ a h. elim h [ inl y ↦ inl (g.1 a y) | inr y ↦ inr y ]))
    (fire t p s) (with_left t (fire t p s) (takes-touched t p s) (touches-kept t p s))
acted (busy v t ts) (suc k) p s =
    changes_map (busy v t) (Acted ts) (Acted (busy v t ts))
    (λ u x g. (takes_more u (SomeActiveTouches ts) (SomeActiveTouches (busy v t ts)) (λ a y. inr y) g.0, ap (λ xs. v ∷ xs) g.1, λ a h. elim h [ inl y ↦ inl y | inr y ↦ inr (g.2 a y) ]))
    (fire_active ts k p s) (acted ts k p s)

-- ---- one pool in its memory

-- the machine of one pool over the streams of its owner's memory
abbrev pub pool_machine : {P : Type 0} → Memory → (container : ℕ) → (ℤ → Term P) → Actives P → (closed : Bool) → (turns : ℕ) → Machine P
pool_machine own container body active closed turns = record { term = owning own (pool 0 container body active closed); turns = turns }

-- the values that are worked on later are those that were and those taken
abbrev pub WorkGrows : {P : Type 0} → (container : ℕ) → Actives P → Actives P → List Event → Type 0
WorkGrows container active left es = (st : ℕ) (v : ℤ) → how_often (values_taken st es) v + cond (eqb st container) (how_often (values_in active) v) 0 ≡ cond (eqb st container) (how_often (values_in left) v) 0

-- a machine of this pool later, after these events
abbrev pub Counted : {P : Type 0} → (container : ℕ) → (ℤ → Term P) → Actives P → List Event → Machine P → Type 0
Counted {P} container body active es e =
    (left : Memory) × (later : Actives P) × (closed : Bool) × (turns : ℕ) × (e ≡ record { term = owning left (pool 0 container body later closed); turns = turns })
    × WorkGrows container active later es × NoTake later body

done : {P A : Type 0} (y z : A) → ◌≡◌ {A = Outcome P A} (Done y) (Done z) → y ≡ z
done y z e = cc

none_taken : (a b : ℕ) → a ≡ 0 → a + b ≡ b
none_taken a b e = omega (arith, e)

-- nothing happened
stays : {P : Type 0} (own : Memory) (container : ℕ) (body : ℤ → Term P) (active : Actives P) (closed : Bool) (n : ℕ) (x : Machine P) → NoTake active body →
    ◌≡◌ {A = Machine P} (record { term = owning own (pool 0 container body active closed); turns = n }) x → Counted container body active [] x
stays own container body active closed n x free e = (own, active, closed, n, sym e, λ st v. none_taken 0 _ refl, free)

-- a change of the memory and of the active terms, and then settling
made : {P : Type 0} (own : Memory) (container : ℕ) (body : ℤ → Term P) (active left : Actives P) (closed : Bool) (n : ℕ) (u : Change) (x : Machine P) →
    NoTake left body → WorkGrows container active left (event_of own u) →
    ◌≡◌ {A = Machine P} (record { term = settled (owning (own_after u own) (pool 0 container body left closed)); turns = n }) x → Counted container body active (event_of own u) x
made own container body active left closed n u x free grows e = (
  own_after u own,
  settle_active true (true ∷ []) (own_after u own ∷ []) left,
  _,
  n,
  sym e,
  λ st v. grows st v ∙ ap (λ xs. cond (eqb st container) (how_often xs v) 0) (sym (values_settled true (true ∷ []) (own_after u own ∷ []) left)),
  no_take_more left (settle_active true (true ∷ []) (own_after u own ∷ []) left) body (λ a h. inl (settle_active-touches true (true ∷ []) (own_after u own ∷ []) left a h)) free,
)

-- a move that went
went : {P : Type 0} (own : Memory) (container : ℕ) (body : ℤ → Term P) (active left : Actives P) (closed : Bool) (n : ℕ) (turn : Bool) (u : Change) (x : Machine P) →
    NoTake left body → WorkGrows container active left (event_of own u) →
    moved (record { term = owning own (pool 0 container body active closed); turns = n }) (owned owning own (goes turn u (pool 0 container body left closed))) ≡ Done x → Counted container body active (event_of own u) x
went own container body active left closed n turn u x free grows e =
    let r = paid (owning own (pool 0 container body active closed)) n turn (outer u) (owning (own_after u own) (pool 0 container body left closed)) x e in
    made own container body active left closed r.0 u x free grows r.2

-- a value that is taken is worked on
take_grows : {P : Type 0} (own : Memory) (container : ℕ) (active : Actives P) (t : Term P) (j : ℕ) (w : ℤ) → slice_get (waiting 0 container (own ∷ [])) j ≡ Some w →
    WorkGrows container active (and_last active w t) (event_of own (take 0 container j))
take_grows own container active t j w e st v =
    ap (λ o. how_often (values_taken st (taken_if container o)) v + cond (eqb st container) (how_often (values_in active) v) 0) e
    ∙ ap (λ b. how_often (cond b (w ∷ []) []) v + cond (eqb st container) (how_often (values_in active) v) 0) (same-eqb container st st container sym sym)
    ∙ go (eqb st container) (ap (λ xs. how_often xs v) (values_last active w t) ∙ count-append (values_in active) (w ∷ []) v)
  where
    go : (b : Bool) → how_often (values_in (and_last active w t)) v ≡ how_often (values_in active) v + how_often (w ∷ []) v →
        how_often (cond b (w ∷ []) []) v + cond b (how_often (values_in active) v) 0 ≡ cond b (how_often (values_in (and_last active w t)) v) 0
    go true h = omega (arith, h)
    go false h = refl

none_grows : {P : Type 0} (container : ℕ) (active left : Actives P) (es : List Event) → ((st : ℕ) → values_taken st es ≡ []) → values_in left ≡ values_in active → WorkGrows container active left es
none_grows container active left es h same st v =
    none_taken _ _ (ap (λ xs. how_often xs v) (h st)) ∙ ap (λ xs. cond (eqb st container) (how_often xs v) 0) (sym same)

-- a move of an active term takes nothing from the owner's streams
other_grows : {P : Type 0} (own : Memory) (container : ℕ) (body : ℤ → Term P) (active left : Actives P) (u : Change) → NoTake active body → TakesOf u (SomeActiveTouches active) → values_in left ≡ values_in active →
    WorkGrows container active left (event_of own u)
other_grows own container body active left nothing free g same = none_grows container active left [] (λ st. refl) same
other_grows own container body active left (write to by value) free g same = none_grows container active left [] (λ st. refl) same
other_grows own container body active left (push zero c w) free g same = none_grows container active left (pushed_if c w (slice_get own c)) (λ st. pushes-only st c w (slice_get own c)) same
other_grows own container body active left (push (suc l) c w) free g same = none_grows container active left [] (λ st. refl) same
other_grows own container body active left (take l c k) free g same = absurd (free l c (inl g))

-- a step by any place
fired : {P : Type 0} (own : Memory) (container : ℕ) (body : ℤ → Term P) (active : Actives P) (closed : Bool) (n : ℕ) (path : Path) (x : Machine P) → NoTake active body →
    step path (pool_machine own container body active closed n) ≡ Done x → Counted container body active (event_inside (owning own (pool 0 container body active closed)) path) x
fired own container body active closed n [] x free e = stays own container body active closed n x free (done _ x e)
fired own container body active closed n (zero ∷ []) x free e = stays own container body active closed n x free (done _ x e)
fired own container body active closed n (suc i ∷ []) x free e = stays own container body active closed n x free (done _ x e)
fired {P} own container body active closed n (zero ∷ j ∷ p) x free e = go (slice_get (waiting 0 container (own ∷ [])) j) refl e
  where
    go : (o : Option ℤ) → slice_get (waiting 0 container (own ∷ [])) j ≡ o →
        moved (pool_machine own container body active closed n) (owned owning own (take_move 0 container body active closed j o)) ≡ Done x →
        Counted container body active (event_of_move own (take_move 0 container body active closed j o)) x
    go None h d = stays own container body active closed n x free (done _ x d)
    go (Some w) h d =
        went own container body active (and_last active w (body w)) closed n false (take 0 container j) x
        (no_take_more active (and_last active w (body w)) body (λ a t. elim (less_last active w (body w) a t) [ inl y ↦ inl y | inr y ↦ inr (w, y) ]) free)
        (take_grows own container active (body w) j w h) d
fired {P} own container body active closed n (suc i ∷ k ∷ p) x free e = go (fire_active active k p (own ∷ [])) (acted active k p (own ∷ [])) e
  where
    go : (m : Move P (Actives P)) → Changes (Acted active) m → moved (pool_machine own container body active closed n) (owned owning own (map_move (λ left. pool 0 container body left closed) m)) ≡ Done x →
        Counted container body active (event_of_move own (map_move (λ left. pool 0 container body left closed) m)) x
    go (fails turn fault) g d = absurd (failed turn n fault x d)
    go (goes turn u left) g d =
        went own container body active left closed n turn u x (no_take_more active left body (λ a t. inl (g.2 a t)) free) (other_grows own container body active left u free g.0 g.1) d
    go no_move g d = stays own container body active closed n x free (done _ x d)

-- ---- a run

joined : {P : Type 0} (container : ℕ) (body : ℤ → Term P) (active : Actives P) (es fs : List Event) (x e : Machine P) → (first : Counted container body active es x) →
    Counted container body first.1 fs e → Counted container body active (es ++ fs) e
joined container body active es fs x e first second = (
  second.0,
  second.1,
  second.2,
  second.3,
  second.4,
  λ st v.
      let a = first.5 st v in
      let b = second.5 st v in
      let c = taken-sum st es fs v in
      omega (arith, a, b, c),
  second.6,
)

-- in a run of one pool whose works take nothing from outside, each value that is taken is worked on
pub counts : {P : Type 0} (k : ℕ) (picks : List ℕ) (own : Memory) (container : ℕ) (body : ℤ → Term P) (active : Actives P) (closed : Bool) (n : ℕ) (e : Machine P) → NoTake active body →
    Reaches k picks (pool_machine own container body active closed n) e → Counted container body active (told event_inside k picks (pool_machine own container body active closed n)) e
counts zero picks own container body active closed n e free h = elim h [ ]
counts {P} (suc k) picks own container body active closed n e free (inl h) =
    let m : Machine P = pool_machine own container body active closed n in
    subst (λ es. Counted container body active es e) (sym (told-none event_inside (suc k) picks m h.0)) (stays own container body active closed n e free h.1)
counts {P} (suc k) picks own container body active closed n e free (inr h) =
    let m : Machine P = pool_machine own container body active closed n in
    let path : Path = chosen picks h.0 h.1 in
    let first : Counted container body active (event_inside m.term path) h.3 = fired own container body active closed n path h.3 free h.4 in
    let second = counts k (drop 1 picks) first.0 container body first.1 first.2 first.3 e first.6 (subst (λ y. Reaches k (drop 1 picks) y e) first.4 h.5) in
    subst (λ es. Counted container body active es e) (sym (told-next event_inside k picks m h.3 h.0 h.1 h.2 h.4))
    (joined container body active (event_inside m.term path) (told event_inside k (drop 1 picks) h.3) h.3 e first
    (subst (λ y. Counted container body first.1 (told event_inside k (drop 1 picks) y) e) (sym first.4) second))
