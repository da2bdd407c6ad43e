-- The values of a safe pool may be taken in any order.
use Rattle.std.proofs.Common.{◌≡◌, ◌<◌, ℕ, zero, suc, ◌+◌, List, [], ◌∷◌, Some, None, ℤ, Bool, true, false, slice_get, refl, sym, ◌∙◌, ap, subst, arith}
use Rattle.std.specs.Ordering.{int_eq}
use Rattle.sd_work.specs.Memory.{Memories, waiting}
use Rattle.sd_work.specs.Change.{take, without, apply}
use Rattle.sd_work.specs.Residual.{Term, pool, idle}
use Rattle.sd_work.specs.Step.{Done, Faulted, Spent}
use Rattle.sd_work.specs.Touch.{takes, Touches}
use Rattle.sd_work.specs.BigStep.{Reached, Coming, reached, and_then, after_oldest, big_takes, big_step}
use Rattle.sd_confluence.specs.Safe.{TouchCompatibly}
use Rattle.sd_confluence.proofs.bags.Values.{same-true, same-refl}
use Rattle.sd_exchange.proofs.reorder_lemmas.Lockstep.{blind-back, Does, done-does, does-follow}
use Rattle.sd_exchange.proofs.reorder_lemmas.Nearly.{same-stack, back-stack, on-stack, waiting-alike, everywhere, Near}
use Rattle.sd_exchange.proofs.reorder_lemmas.Passing.{exchange}
use Rattle.sd_exchange.proofs.reorder_lemmas.Ends.{EndsAlike, ends-does}
use Rattle.sd_exchange.proofs.reorder_lemmas.Removing.{stands-alike, stands-without, waiting-taken, taken-both, taken-near, Lacks, blind-lack}

-- the works of any two values do not conflict, and each ends alike from alike memories
pub record AreWorks {P : Type 0} (body : ℤ → Term P) : Type 0 where
  pub compatible : (v w : ℤ) → TouchCompatibly (body v) (body w)
  pub alike : (v : ℤ) → EndsAlike (body v) (body v)

no_take : {P : Type 0} (body : ℤ → Term P) → AreWorks body → (v : ℤ) (m j : ℕ) → Touches (body v) (takes m j) → ⊥
no_take body h v m j t = h.compatible v v (takes m j) (takes m j) t t refl refl

-- so many takes, each of a value at any position, and its work, until nothing waits
abbrev pub TakesOff : {P : Type 0} → (ℤ → Term P) → (most l k : ℕ) → (takes : ℕ) → Memories → (turns : ℕ) → Memories → Type 0
TakesOff body most l k zero s n u = (waiting l k s ≡ []) × (n ≡ 0) × (s ≡ u)
TakesOff body most l k (suc j) s n u =
    (p : ℕ) × (v : ℤ) × (a : ℕ) × (b : ℕ) × (t : Memories) × (slice_get (waiting l k s) p ≡ Some v) × Does (body v) most (apply (take l k p) s) a t × (n ≡ a + b) × TakesOff body most l k j t b u

-- and so from alike memories
abbrev TakesAlike : {P : Type 0} → (ℤ → Term P) → (most l k : ℕ) → ℕ → Memories → ℕ → Memories → Type 0
TakesAlike body most l k j s n u = (s' : Memories) → Near s s' → (u' : Memories) × TakesOff body most l k j s' n u' × Near u u'

-- this value is taken first, and the others then
abbrev FirstTaken : {P : Type 0} → (ℤ → Term P) → (most l k : ℕ) → ℕ → Memories → (p : ℕ) → ℤ → ℕ → Memories → Type 0
FirstTaken body most l k j s p v n u =
    (i : ℕ) × (a : ℕ) × (b : ℕ) × (t : Memories) × (j ≡ suc i) × Does (body v) most (apply (take l k p) s) a t × (n ≡ a + b) × TakesAlike body most l k i t b u

-- any value that waits may be taken first
abbrev AnyFirst : {P : Type 0} → (ℤ → Term P) → (most l k : ℕ) → ℕ → Type 0
AnyFirst body most l k j = (s : Memories) (n : ℕ) (u : Memories) → TakesOff body most l k j s n u → (s' : Memories) → Near s s' → (p : ℕ) (v : ℤ) → slice_get (waiting l k s') p ≡ Some v → FirstTaken body most l k j s' p v n u

nothing_there : (p : ℕ) (w : ℤ) → slice_get [] p ≡ Some w → ⊥
nothing_there p w e = cc

none_alike : (l k : ℕ) (s u : Memories) → Near s u → waiting l k s ≡ [] → waiting l k u ≡ []
none_alike l k s u n e = go (waiting l k u) refl
  where
    go : (ws : List ℤ) → waiting l k u ≡ ws → ws ≡ []
    go [] q = refl
    go (w ∷ ws) q =
        let r = stands-alike (waiting l k u) (waiting l k s) 0 w (waiting-alike everywhere l k u s (back-stack everywhere s u n)) (ap (λ xs. slice_get xs 0) q) in
        let f : slice_get [] r.0 ≡ Some w = sym (ap (λ xs. slice_get xs r.0) e) ∙ r.1 in absurd (nothing_there r.0 w f)

-- what is taken off goes from alike memories too
takes_alike : {P : Type 0} (body : ℤ → Term P) (most l k j : ℕ) → AnyFirst body most l k j → (s : Memories) (n : ℕ) (u : Memories) → TakesOff body most l k j s n u → TakesAlike body most l k j s n u
takes_alike body most l k zero h s n u (e, f, g) s' r = (s', (none_alike l k s s' r e, f, refl), subst (λ x. Near x s') g r)
takes_alike {P} body most l k (suc j) h s n u (p, v, a, b, t, e, d, q, o) s' r =
    let c = stands-alike (waiting l k s) (waiting l k s') p v (waiting-alike everywhere l k s s' r) e in
    let f = h s n u (p, v, a, b, t, e, d, q, o) s' r c.0 v c.1 in
    let g = f.7 f.3 (same-stack everywhere f.3) in
    let same : f.0 ≡ j = (let i = f.4 in omega (arith, i)) in
    (g.0, (c.0, v, f.1, f.2, f.3, c.1, f.5, f.6, subst (λ i. TakesOff body most l k i f.3 f.2 g.0) same g.1), g.2)

-- a work goes where another value is missing, and leaves what it leaves without that value
abbrev Missing : {P : Type 0} → (ℤ → Term P) → (most l k : ℕ) → Memories → (p : ℕ) → (v w : ℤ) → (a : ℕ) → Memories → Type 0
Missing body most l k s p v w a t =
    (g : ℕ) × (there : Memories) × (q : ℕ) × (slice_get (without p (waiting l k s)) g ≡ Some w) × Does (body v) most (apply (take l k g) (apply (take l k p) s)) a there
    × (slice_get (waiting l k t) q ≡ Some w) × Near there (apply (take l k q) t)

missing : {P : Type 0} (body : ℤ → Term P) → AreWorks body → (most l k : ℕ) (s : Memories) (p c : ℕ) (v w : ℤ) (a : ℕ) (t : Memories) → (v ≡ w → ⊥) → slice_get (waiting l k s) p ≡ Some v → slice_get (waiting l k s) c ≡ Some w →
    Does (body v) most (apply (take l k p) s) a t → Missing body most l k s p v w a t
missing body works most l k s p c v w a t differ e f d =
    let g = stands-without (waiting l k s) p c v w differ e f in
    let g1 : slice_get (waiting l k (apply (take l k p) s)) g.0 ≡ Some w = ap (λ xs. slice_get xs g.0) (waiting-taken l k p s) ∙ g.1 in
    let r = does-follow (body v) (Lacks l k w) (blind-lack (Touches (body v)) (no_take body works v) l k w) most a (apply (take l k p) s) (apply (take l k g.0) (apply (take l k p) s)) t d
    (g.0, g1, same-stack everywhere (apply (take l k g.0) (apply (take l k p) s))) in
    (g.0, r.0, r.2.0, g.1, r.1, r.2.1, r.2.2)

-- a work goes where another value is there too, and leaves it there
abbrev Present : {P : Type 0} → (ℤ → Term P) → (most l k : ℕ) → Memories → (w v : ℤ) → (a : ℕ) → Memories → Type 0
Present body most l k s w v a there =
    (t : Memories) × (q : ℕ) × Does (body w) most s a t × (slice_get (waiting l k t) q ≡ Some v) × Near there (apply (take l k q) t)

present : {P : Type 0} (body : ℤ → Term P) → AreWorks body → (most l k : ℕ) (s : Memories) (i : ℕ) (w v : ℤ) (a : ℕ) (there : Memories) → slice_get (waiting l k s) i ≡ Some v → Does (body w) most (apply (take l k i) s) a there → Present body most l k s w v a there
present body works most l k s i w v a there e d =
    let r = does-follow (body w) (λ y z. Lacks l k v z y) (blind-back (Touches (body w)) (Lacks l k v) (blind-lack (Touches (body w)) (no_take body works w) l k v)) most a (apply (take l k i) s) s there d
    (i, e, same-stack everywhere (apply (take l k i) s)) in
    (r.0, r.2.0, r.1, r.2.1, r.2.2)

-- two values and their works, in the other order
abbrev OtherOrder : {P : Type 0} → (ℤ → Term P) → (most l k : ℕ) → Memories → (c : ℕ) → (v w : ℤ) → (a b : ℕ) → Memories → Type 0
OtherOrder body most l k s c v w a b last =
    (t : Memories) × (q : ℕ) × (u : Memories) × Does (body w) most (apply (take l k c) s) b t × (slice_get (waiting l k t) q ≡ Some v) × Does (body v) most (apply (take l k q) t) a u × Near last u

other_order : {P : Type 0} (body : ℤ → Term P) → AreWorks body → (most l k : ℕ) (s : Memories) (p c g : ℕ) (v w : ℤ) (a b : ℕ) (t last : Memories) → (v ≡ w → ⊥) →
    slice_get (waiting l k s) p ≡ Some v → slice_get (waiting l k s) c ≡ Some w → slice_get (without p (waiting l k s)) g ≡ Some w →
    Does (body v) most (apply (take l k g) (apply (take l k p) s)) a t → Does (body w) most t b last → OtherOrder body most l k s c v w a b last
other_order {P} body works most l k s p c g v w a b t last differ e f h d o =
    with_first (exchange (body v) (body w) (works.compatible v w) most a b both t last d o)
  where
    both : Memories
    both = apply (take l k g) (apply (take l k p) s)

    sq : Memories
    sq = apply (take l k c) s

    i : (n : ℕ) × (slice_get (without c (waiting l k s)) n ≡ Some v)
    i = stands-without (waiting l k s) c p w v (λ y. differ (sym y)) f e

    i1 : slice_get (waiting l k sq) i.0 ≡ Some v
    i1 = ap (λ xs. slice_get xs i.0) (waiting-taken l k c s) ∙ i.1

    near : Near both (apply (take l k i.0) sq)
    near = taken-both l k p g c i.0 v w s e h f i.1

    with_second : (x z : Memories) → Does (body v) most x a z → Near last z → (x' : Memories) → Near x x' → Present body most l k sq w v b x' → OtherOrder body most l k s c v w a b last
    with_second x z y n x' n' (t', q, d', e', n'') =
        let r = ends-does (body v) (body v) (works.alike v) most a x (apply (take l k q) t') z y (on-stack everywhere x x' (apply (take l k q) t') n' n'') in
        (t', q, r.0, d', e', r.1, on-stack everywhere last z r.0 n r.2)

    with_first : (x : Memories) × (z : Memories) × Does (body w) most both b x × Does (body v) most x a z × Near last z → OtherOrder body most l k s c v w a b last
    with_first (x, z, y, y', n) =
        let r = ends-does (body w) (body w) (works.alike w) most b both (apply (take l k i.0) sq) x y near in
        with_second x z y' n r.0 r.2 (present body works most l k sq i.0 w v b r.0 i1 r.1)

any_first : {P : Type 0} (body : ℤ → Term P) → AreWorks body → (most l k j : ℕ) → AnyFirst body most l k j
any_first body works most l k zero s n u (e, f, g) s' r p v q =
    let none : waiting l k s' ≡ [] = none_alike l k s s' r e in
    let nothing : slice_get [] p ≡ Some v = sym (ap (λ xs. slice_get xs p) none) ∙ q in cc
any_first {P} body works most l k (suc j) s n u (p, v, a, b, t, e, d, q, o) s' r p' w e' =
    go (int_eq v w) refl (any_first body works most l k j)
  where
    Goal : Type 0
    Goal = FirstTaken body most l k (suc j) s' p' w n u

    -- the same value
    same_value : v ≡ w → AnyFirst body most l k j → Goal
    same_value f later =
        let e'' : slice_get (waiting l k s') p' ≡ Some v = e' ∙ ap Some (sym f) in
        let x = ends-does (body v) (body v) (works.alike v) most a (apply (take l k p) s) (apply (take l k p') s') t d (taken-near l k p p' v s s' e e'' r) in (
          j,
          a,
          b,
          x.0,
          refl,
          subst (λ w. Does (body w) most (apply (take l k p') s') a x.0) f x.1,
          q,
          λ y near. takes_alike body most l k j later t b u o y (on-stack everywhere t x.0 y x.2 near),
        )

    -- another one
    other_value : (v ≡ w → ⊥) → AnyFirst body most l k j → Goal
    other_value differ later = with_position (stands-alike (waiting l k s') (waiting l k s) p' w (waiting-alike everywhere l k s' s (back-stack everywhere s s' r)) e')
      where
        with_order : (c : ℕ) → slice_get (waiting l k s) c ≡ Some w → (x : Memories) (j' a' b' : ℕ) (last : Memories) → j ≡ suc j' → b ≡ a' + b' → Near x last → TakesAlike body most l k j' x b' u → OtherOrder body most l k s c v w a a' last → Goal
        with_order c f x j' a' b' last one sum nx closed (t', q', z, d1, e1, d2, n') =
            let rest = closed z (on-stack everywhere x last z nx n') in
            let off : TakesOff body most l k j t' (a + b') rest.0 =
            subst (λ y. TakesOff body most l k y t' (a + b') rest.0) (sym one) (q', v, a, b', z, e1, d2, refl, rest.1) in
            let final = ends-does (body w) (body w) (works.alike w) most a' (apply (take l k c) s) (apply (take l k p') s') t' d1 (taken-near l k c p' w s s' f e' r) in
            let turns : n ≡ a' + (a + b') = omega (arith, q, sum) in (
              j,
              a',
              a + b',
              final.0,
              refl,
              final.1,
              turns,
              λ y near. (
                  let z = takes_alike body most l k j later t' (a + b') rest.0 off y (on-stack everywhere t' final.0 y final.2 near) in
                  (z.0, z.1, on-stack everywhere u rest.0 z.0 rest.2 z.2)),
            )

        with_missing : (c : ℕ) → slice_get (waiting l k s) c ≡ Some w → Missing body most l k s p v w a t → Goal
        with_missing c f (g, there, q', h, d1, e1, n') =
            let second = later t b u o t (same-stack everywhere t) q' w e1 in
            let x = ends-does (body w) (body w) (works.alike w) most second.1 (apply (take l k q') t) there second.3 second.5 (back-stack everywhere there (apply (take l k q') t) n') in
            with_order c f second.3 second.0 second.1 second.2 x.0 second.4 second.6 x.2 second.7 (other_order body works most l k s p c g v w a second.1 there x.0 differ e f h d1 x.1)

        with_position : (c : ℕ) × (slice_get (waiting l k s) c ≡ Some w) → Goal
        with_position (c, f) = with_missing c f (missing body works most l k s p c v w a t differ e f d)

    go : (c : Bool) → int_eq v w ≡ c → AnyFirst body most l k j → Goal
    go true f later = same_value (same-true v w f) later
    go false f later = other_value (λ y. (let no : true ≡ false = sym (same-refl v) ∙ (ap (int_eq v) y ∙ f) in cc)) later

-- ---- what a pool does

-- the oldest first is one order
takes_off : {P : Type 0} (body : ℤ → Term P) (most l k fuel n : ℕ) (s : Memories) (x : Reached) → big_takes fuel l k (λ value. big_step (body value) most) s n ≡ Some (Done x) →
    (j : ℕ) × (a : ℕ) × (j < fuel) × (n ≡ a + x.turns) × TakesOff body most l k j s a x.memories
takes_off body most l k zero n s x e = cc
takes_off {P} body most l k (suc fuel) n s x e = go (waiting l k s) refl e (λ n s e. takes_off body most l k fuel n s x e)
  where
    run : ℤ → Memories → ℕ → Coming P
    run value = big_step (body value) most

    Goal : Type 0
    Goal = (j : ℕ) × (a : ℕ) × (j < suc fuel) × (n ≡ a + x.turns) × TakesOff body most l k j s a x.memories

    Later : Type 0
    Later = (n : ℕ) (s : Memories) → big_takes fuel l k run s n ≡ Some (Done x) → (j : ℕ) × (a : ℕ) × (j < fuel) × (n ≡ a + x.turns) × TakesOff body most l k j s a x.memories

    by_work : (v : ℤ) (vs : List ℤ) → waiting l k s ≡ v ∷ vs → Later → (c : Coming P) → run v (apply (take l k 0) s) n ≡ c → and_then c (big_takes fuel l k run) ≡ Some (Done x) → Goal
    by_work v vs q later (Some (Done now)) f e =
        let d = done-does (body v) most n (apply (take l k 0) s) now f in
        let r = later now.turns now.memories e in
        let below : suc r.0 < suc fuel = (let h = r.2 in omega (arith, h)) in
        let turns : n ≡ (d.0 + r.1) + x.turns = (let h = d.1 in let g = r.3 in omega (arith, h, g)) in
        (suc r.0, d.0 + r.1, below, turns, (0, v, d.0, r.1, now.memories, ap (λ xs. slice_get xs 0) q, d.2, refl, r.4))
    by_work v vs q later (Some (Faulted fault)) f e = cc
    by_work v vs q later (Some Spent) f e = cc
    by_work v vs q later None f e = cc

    go : (vs : List ℤ) → waiting l k s ≡ vs → after_oldest vs s n (λ value. and_then (run value (apply (take l k 0) s) n) (big_takes fuel l k run)) ≡ Some (Done x) → Later → Goal
    go [] q e later =
        let same : record { memories = s; turns = n } ≡ x = cc in
        let below : 0 < suc fuel = omega arith in
        let here : n ≡ x.turns = ap (λ (y : Reached). y.turns) same in
        let turns : n ≡ 0 + x.turns = omega (arith, here) in
        (0, 0, below, turns, (q, refl, ap (λ (y : Reached). y.memories) same))
    go (v ∷ vs) q e later = by_work v vs q later (run v (apply (take l k 0) s) n) refl e

-- and what goes in one order goes from alike memories, the oldest first
oldest_first : {P Q : Type 0} (body : ℤ → Term P) (body' : ℤ → Term Q) → AreWorks body → ((v : ℤ) → EndsAlike (body v) (body' v)) → (most l k fuel j n : ℕ) (s u : Memories) → TakesOff body most l k j s n u → j < fuel → (s' : Memories) → Near s s' →
    (u' : Memories) × ((m : ℕ) → big_takes fuel l k (λ value. big_step (body' value) most) s' (n + m) ≡ reached u' m) × Near u u'
oldest_first body body' works same most l k zero j n s u o up s' r = absurd (omega (arith, up))
oldest_first {P} {Q} body body' works same most l k (suc fuel) j n s u o up s' r =
    go (waiting l k s') refl (λ j n s u o up s' r. oldest_first body body' works same most l k fuel j n s u o up s' r)
  where
    run : ℤ → Memories → ℕ → Coming Q
    run value = big_step (body' value) most

    Goal : List ℤ → Type 0
    Goal vs = (u' : Memories) × ((m : ℕ) → after_oldest vs s' (n + m) (λ value. and_then (run value (apply (take l k 0) s') (n + m)) (big_takes fuel l k run)) ≡ reached u' m) × Near u u'

    Later : Type 0
    Later = (j n : ℕ) (s u : Memories) → TakesOff body most l k j s n u → j < fuel → (s' : Memories) → Near s s' → (u' : Memories) × ((m : ℕ) → big_takes fuel l k run s' (n + m) ≡ reached u' m) × Near u u'

    ended : (j : ℕ) → TakesOff body most l k j s n u → waiting l k s' ≡ [] → Goal []
    ended zero (e, f, g) q = (s', λ m. (let none : n + m ≡ m = omega (arith, f) in ap (reached s') none), subst (λ x. Near x s') g r)
    ended (suc j) (p, v, a, b, t, e, d, f, o) q =
        let none : waiting l k s ≡ [] = none_alike l k s' s (back-stack everywhere s s' r) q in
        let no : slice_get [] p ≡ Some v = sym (ap (λ xs. slice_get xs p) none) ∙ e in cc

    go : (vs : List ℤ) → waiting l k s' ≡ vs → Later → (u' : Memories) × ((m : ℕ) → big_takes (suc fuel) l k run s' (n + m) ≡ reached u' m) × Near u u'
    go [] q later = subst Goal (sym q) (ended j o q)
    go (v ∷ vs) q later =
        let f = any_first body works most l k j s n u o s' r 0 v (ap (λ xs. slice_get xs 0) q) in
        let x = ends-does (body v) (body' v) (same v) most f.1 (apply (take l k 0) s') (apply (take l k 0) s') f.3 f.5 (same-stack everywhere (apply (take l k 0) s')) in
        let g = f.7 f.3 (same-stack everywhere f.3) in
        let below : f.0 < fuel = (let h = f.4 in omega (arith, h, up)) in
        let y = later f.0 f.2 f.3 g.0 g.1 below x.0 x.2 in
        subst Goal (sym q) (
          y.0,
          λ m. (
              let grouped : n + m ≡ f.1 + (f.2 + m) = (let h = f.6 in omega (arith, h)) in
              ap (λ i. and_then (run v (apply (take l k 0) s') i) (big_takes fuel l k run)) grouped
              ∙ ap (λ c. and_then c (big_takes fuel l k run)) (x.1 (f.2 + m)) ∙ y.1 m),
          on-stack everywhere u g.0 y.0 g.2 y.2,
        )

-- a safe pool ends alike from alike memories
pub ends-pool : {P Q : Type 0} (l k : ℕ) (body : ℤ → Term P) (body' : ℤ → Term Q) → AreWorks body → ((v : ℤ) → EndsAlike (body v) (body' v)) → EndsAlike (pool l k body idle false) (pool l k body' idle false)
ends-pool {P} {Q} l k body body' works same = record { ends = λ most n s v r. record { done = λ x e. go most n s v r x e } }
  where
    go : (most n : ℕ) (s v : Memories) → Near s v → (x : Reached) → big_takes most l k (λ value. big_step (body value) most) s n ≡ Some (Done x) →
        (a : ℕ) × (there : Memories) × (n ≡ a + x.turns) × ((m : ℕ) → big_takes most l k (λ value. big_step (body' value) most) v (a + m) ≡ reached there m) × Near x.memories there
    go most n s v r x e =
        let o = takes_off body most l k most n s x e in
        let y = oldest_first body body' works same most l k most o.0 o.1 s x.memories o.4 o.2 v r in
        (o.1, y.0, o.3, y.1, y.2)
