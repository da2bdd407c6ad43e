-- A move that spends no turn makes a term lighter, or is calm.
use Rattle.std.proofs.Common.{◌≡◌, ℕ, zero, suc, ◌+◌, ◌<◌, ◌≤◌, ℤ, List, [], ◌∷◌, ◌++◌, length, Option, Some, None, Result, Ok, Err, Bool, true, false, cond, refl, ap, subst, arith, inl, inr, ◌⊎◌, slice_get}
use Rattle.sd_num.specs.declared.resolution.Resolution.{Resolution}
use Rattle.sd_work.specs.declared.fault.FaultKind.{FaultKind}
use Rattle.sd_work.specs.Memory.{Memory, Memories, Reference, seen, waiting}
use Rattle.sd_work.specs.Change.{Change, nothing, write, take, apply, outer, own_after}
use Rattle.sd_work.specs.Leaf.{Pending, write_value, transfer, push_to, Leaf, reading, doing}
use Rattle.sd_work.specs.Move.{Fault, goes}
use Rattle.sd_work.specs.LeafMove.{write_move, read_move, evaluation_move, leaf_move}
use Rattle.sd_work.specs.Exit.{Values, Exit, first_exit}
use Rattle.sd_work.specs.Residual.{Term, leaf, list, owning, nested, ended, pool, Terms, none, also, Actives, idle, busy, finished}
use Rattle.sd_work.specs.Moves.{Path}
use Rattle.sd_work.specs.Fire.{owned, transition, and_last, take_move, fire, fire_part, fire_active}
use Rattle.sd_work.specs.New.{IsNew, UnfoldsNew, UnfoldNew, UnfoldActiveNew}
use Rattle.sd_work.proofs.Changes.{apply-own}
use Rattle.sd_work.proofs.ending.Halting.{map_back, owned_back}
use Rattle.sd_work.proofs.ending.Weights.{total_parts, total_active, reads, pushes_of, pushes, held, stacked, nothing_of, stacked-write, stacked-take, reads_in, pushes_in, waiting_in, weightless, total-and_last}
use Rattle.sd_work.proofs.ending.Quiet.{opened, opened_parts, opened_active, size, Calm, CalmParts, CalmActives}

-- of three weights the first that changes falls, or none rises and this holds
abbrev pub Falls : (r p q r' p' q' : ℕ) → Type 0 → Type 0
Falls r p q r' p' q' C = (r' < r) ⊎ ((r' ≤ r) × ((p' < p) ⊎ ((p' ≤ p) × ((q' < q) ⊎ ((q' ≤ q) × C)))))

-- the same beside weights that stay
beside : {C D : Type 0} (r p q r' p' q' R P Q R' P' Q' a b c : ℕ) → R ≡ r + a → P ≡ p + b → Q ≡ q + c → R' ≡ r' + a → P' ≡ p' + b → Q' ≡ q' + c → (C → D) → Falls r p q r' p' q' C → Falls R P Q R' P' Q' D
beside r p q r' p' q' R P Q R' P' Q' a b c e f g e' f' g' h (inl x) = inl (omega (arith, e, e', x))
beside r p q r' p' q' R P Q R' P' Q' a b c e f g e' f' g' h (inr (x, inl y)) = inr (omega (arith, e, e', x), inl (omega (arith, f, f', y)))
beside r p q r' p' q' R P Q R' P' Q' a b c e f g e' f' g' h (inr (x, inr (y, inl z))) =
    inr (omega (arith, e, e', x), inr (omega (arith, f, f', y), inl (omega (arith, g, g', z))))
beside r p q r' p' q' R P Q R' P' Q' a b c e f g e' f' g' h (inr (x, inr (y, inr (z, d)))) =
    inr (omega (arith, e, e', x), inr (omega (arith, f, f', y), inr (omega (arith, g, g', z), h d)))

calmly : {C : Type 0} (r p q r' p' q' : ℕ) → r' ≤ r → p' ≤ p → q' ≤ q → C → Falls r p q r' p' q' C
calmly r p q r' p' q' x y z c = inr (x, inr (y, inr (z, c)))

-- ---- leaves

abbrev LeafFalls : Leaf → Memories → Change → Leaf → Type 0
LeafFalls work s u w = Falls (reads work) (pushes work) (stacked s) (reads w) (pushes w) (stacked (apply u s)) (size w < size work)

write_falls : {P : Type 0} (place : P) (o : Option ℤ) (to : Option Reference) (by : Option Resolution) (left : List Pending) (s : Memories) (u : Change) (w : Leaf) → write_move place o to by left ≡ goes false u w →
    Falls 0 (pushes_of left) (stacked s) (reads w) (pushes w) (stacked (apply u s)) (size w < suc (length left))
write_falls place None to by left s u w e = cc
write_falls place (Some v) None by left s u w e = cc
write_falls place (Some v) (Some to) by left s u w e =
    let same : doing left ≡ w = cc in
    let change : write to by v ≡ u = cc in
    let stays : stacked (apply (write to by v) s) ≡ stacked s = stacked-write to by v s in
    subst (λ (x : Leaf). Falls 0 (pushes_of left) (stacked s) (reads x) (pushes x) (stacked (apply u s)) (size x < suc (length left))) same
    (subst (λ (d : Change). Falls 0 (pushes_of left) (stacked s) 0 (pushes_of left) (stacked (apply d s)) (length left < suc (length left))) change
    (calmly 0 (pushes_of left) (stacked s) 0 (pushes_of left) (stacked (apply (write to by v) s)) (omega arith) (omega arith) (omega (arith, stays)) (omega arith)))

leaf_falls : {P : Type 0} (place : P) (work : Leaf) (s : Memories) (u : Change) (w : Leaf) → leaf_move place work s ≡ goes false u w → LeafFalls work s u w
leaf_falls {P} place (reading true [] values evaluation) s u w e = go (evaluation values) e
  where
    go : (r : Result (List Pending) FaultKind) → evaluation_move place false r ≡ goes false u w → LeafFalls (reading true [] values evaluation) s u w
    go (Ok effects) e = let same : doing effects ≡ w = cc in inl (subst (λ (x : Leaf). reads x < 1) same (omega arith))
    go (Err kind) e = cc
leaf_falls {P} place (reading false [] values evaluation) s u w e = go (evaluation values) e
  where
    go : (r : Result (List Pending) FaultKind) → evaluation_move place true r ≡ goes false u w → LeafFalls (reading false [] values evaluation) s u w
    go (Ok effects) e = cc
    go (Err kind) e = cc
leaf_falls {P} place (reading true (next ∷ left) values evaluation) s u w e = go (seen next s) e
  where
    go : (o : Option ℤ) → read_move place false o left values evaluation ≡ goes false u w → LeafFalls (reading true (next ∷ left) values evaluation) s u w
    go None e = cc
    go (Some v) e =
        let same : reading true left (values ++ v ∷ []) evaluation ≡ w = cc in
        let change : nothing ≡ u = cc in
        subst (λ (x : Leaf). LeafFalls (reading true (next ∷ left) values evaluation) s u x) same
        (subst (λ (d : Change). LeafFalls (reading true (next ∷ left) values evaluation) s d (reading true left (values ++ v ∷ []) evaluation)) change
        (calmly 1 0 (stacked s) 1 0 (stacked s) (omega arith) (omega arith) (omega arith) (omega arith)))
leaf_falls {P} place (reading false (next ∷ left) values evaluation) s u w e = go (seen next s) e
  where
    go : (o : Option ℤ) → read_move place true o left values evaluation ≡ goes false u w → LeafFalls (reading false (next ∷ left) values evaluation) s u w
    go None e = cc
    go (Some v) e = cc
leaf_falls place (doing []) s u w e = cc
leaf_falls place (doing (write_value v to by ∷ left)) s u w e = write_falls place (Some v) to by left s u w e
leaf_falls place (doing (transfer from to by ∷ left)) s u w e = write_falls place (seen from s) to by left s u w e
leaf_falls place (doing (push_to l c v ∷ left)) s u w e =
    let same : doing left ≡ w = cc in
    subst (λ (x : Leaf). LeafFalls (doing (push_to l c v ∷ left)) s u x) same (inr (omega arith, inl (omega arith)))

-- ---- terms

-- a move from one term to another, in a stack of memories, makes them lighter together or is calm
abbrev pub TermFalls : {P : Type 0} → Term P → Memories → Change → Term P → Type 0
TermFalls t s u x =
    Falls (reads_in t) (pushes_in t) (waiting_in t + stacked s)
    (reads_in x) (pushes_in x) (waiting_in x + stacked (apply u s)) (Calm (opened t) (opened x))

abbrev PartsFall : {P : Type 0} → Terms P → Memories → Change → Terms P → Type 0
PartsFall ts s u xs =
    Falls (total_parts reads nothing_of ts) (total_parts pushes nothing_of ts) (total_parts nothing_of held ts + stacked s)
    (total_parts reads nothing_of xs) (total_parts pushes nothing_of xs) (total_parts nothing_of held xs + stacked (apply u s)) (CalmParts (opened_parts ts) (opened_parts xs))

abbrev ActivesFall : {P : Type 0} → Actives P → Memories → Change → Actives P → Type 0
ActivesFall ts s u xs =
    Falls (total_active reads nothing_of ts) (total_active pushes nothing_of ts) (total_active nothing_of held ts + stacked s)
    (total_active reads nothing_of xs) (total_active pushes nothing_of xs) (total_active nothing_of held xs + stacked (apply u s)) (CalmActives (opened_active ts) (opened_active xs))

-- the values of an owner's memory count inside as they do outside
owner_falls : {P : Type 0} {C D : Type 0} (own : Memory) (part x : Term P) (s : Memories) (v : Change) → (C → D) →
    Falls (reads_in part) (pushes_in part) (waiting_in part + stacked (own ∷ s)) (reads_in x) (pushes_in x) (waiting_in x + stacked (apply v (own ∷ s))) C →
    Falls (reads_in (owning own part)) (pushes_in (owning own part)) (waiting_in (owning own part) + stacked s)
    (reads_in (owning (own_after v own) x)) (pushes_in (owning (own_after v own) x)) (waiting_in (owning (own_after v own) x) + stacked (apply (outer v) s)) D
owner_falls own part x s v h f =
    let split : stacked (apply v (own ∷ s)) ≡ held (own_after v own) + stacked (apply (outer v) s) = ap stacked (apply-own v own s) in
    beside _ _ _ _ _ _ _ _ _ _ _ _ 0 0 0 (omega arith) (omega arith) (omega arith) (omega arith) (omega arith) (omega (arith, split)) h f

-- a transition leaves a new state, or a run that has ended
transition_falls : {P : Type 0} (body : ℕ → Values → Term P) (exits : ℕ → Values → List (Exit P)) (own : Memory) (state : ℕ) (values : Values) (part : Term P) → ((k : ℕ) (w : Values) → IsNew (body k w) × UnfoldsNew (body k w)) →
    (s : Memories) (r : Result (Option (Exit P)) (Fault P)) → first_exit (exits state values) (own ∷ s) ≡ r → (u : Change) (x : Term P) → transition body exits own r ≡ goes false u x → TermFalls (nested body exits own state values part) s u x
transition_falls body exits own state values part h s (Err f) q u x e = cc
transition_falls {P} body exits own state values part h s (Ok None) q u x e =
    let same : ended own ≡ x = cc in
    let change : nothing ≡ u = cc in
    subst (λ (y : Term P). TermFalls (nested body exits own state values part) s u y) same
    (subst (λ (d : Change). TermFalls (nested body exits own state values part) s d (ended own)) change
    (calmly _ _ _ _ _ _ (omega arith) (omega arith) (omega arith) (inr (inl (own, refl)))))
transition_falls {P} body exits own state values part h s (Ok (Some exit)) q u x e =
    let mark : exit.marked ≡ false = cc in
    let new : Term P = body exit.state exit.values in
    let same : nested body exits own exit.state exit.values new ≡ x = cc in
    let change : nothing ≡ u = cc in
    let no = weightless new (h exit.state exit.values).0 in
    subst (λ (y : Term P). TermFalls (nested body exits own state values part) s u y) same
    (subst (λ (d : Change). TermFalls (nested body exits own state values part) s d (nested body exits own exit.state exit.values new)) change
    (calmly _ _ _ _ _ _ (omega (arith, no.0)) (omega (arith, no.1)) (omega (arith, no.2)) (inr (inr (own, exit, (own ∷ s, q, mark), refl)))))

-- taking a value leaves one less that waits
take_falls : {P : Type 0} (l c : ℕ) (body : ℤ → Term P) (active : Actives P) (closed : Bool) → ((v : ℤ) → IsNew (body v) × UnfoldsNew (body v)) → (k : ℕ) (s : Memories) (o : Option ℤ) → slice_get (waiting l c s) k ≡ o →
    (u : Change) (x : Term P) → take_move l c body active closed k o ≡ goes false u x → TermFalls (pool l c body active closed) s u x
take_falls l c body active closed h k s None q u x e = cc
take_falls {P} l c body active closed h k s (Some v) q u x e =
    let new : Term P = body v in
    let same : pool l c body (and_last active v new) closed ≡ x = cc in
    let change : take l c k ≡ u = cc in
    let no = weightless new (h v).0 in
    let more_reads = total-and_last reads nothing_of active v new in
    let more_pushes = total-and_last pushes nothing_of active v new in
    let more_waits = total-and_last nothing_of held active v new in
    let less : stacked (apply (take l c k) s) < stacked s = stacked-take l c k s v q in
    subst (λ (y : Term P). TermFalls (pool l c body active closed) s u y) same
    (subst (λ (d : Change). TermFalls (pool l c body active closed) s d (pool l c body (and_last active v new) closed)) change
    (inr (omega (arith, no.0, more_reads), inr (omega (arith, no.1, more_pushes), inl (omega (arith, no.2, more_waits, less))))))

nested_falls : {P : Type 0} (body : ℕ → Values → Term P) (exits : ℕ → Values → List (Exit P)) (own : Memory) (state : ℕ) (values : Values) (part : Term P) → ((k : ℕ) (w : Values) → IsNew (body k w) × UnfoldsNew (body k w)) →
    (p : Path) (s : Memories) → ((v : Change) (y : Term P) → fire part p (own ∷ s) ≡ goes false v y → TermFalls part (own ∷ s) v y) →
    (b : Bool) (u : Change) (x : Term P) → cond b (transition body exits own (first_exit (exits state values) (own ∷ s))) (owned (λ memory left. nested body exits memory state values left) own (fire part p (own ∷ s))) ≡ goes false u x →
    TermFalls (nested body exits own state values part) s u x
nested_falls body exits own state values part h p s ih true u x e = transition_falls body exits own state values part h s (first_exit (exits state values) (own ∷ s)) refl u x e
nested_falls {P} body exits own state values part h p s ih false u x e =
    let r = owned_back (λ memory left. nested body exits memory state values left) own (fire part p (own ∷ s)) false u x e in
    subst (λ (y : Term P). TermFalls (nested body exits own state values part) s u y) r.3
    (subst (λ (d : Change). TermFalls (nested body exits own state values part) s d (nested body exits (own_after r.0 own) state values r.1)) r.4
    (owner_falls own part r.1 s r.0 (λ c. inl (own_after r.0 own, opened r.1, c, refl)) (ih r.0 r.1 r.2)))

mutual
  pub falls : {P : Type 0} (t : Term P) → UnfoldsNew t → (p : Path) (s : Memories) (u : Change) (x : Term P) → fire t p s ≡ goes false u x → TermFalls t s u x
  falls {P} (leaf place work) h p s u x e =
      let r = map_back (leaf place) (leaf_move place work s) false u x e in
      subst (λ (y : Term P). TermFalls (leaf place work) s u y) r.2
      (beside _ _ _ _ _ _ _ _ _ _ _ _ 0 0 0 (omega arith) (omega arith) (omega arith) (omega arith) (omega arith) (omega arith) (λ c. (r.0, c, refl)) (leaf_falls place work s u r.0 r.1))
  falls (list kind before parts) h [] s u x e = cc
  falls {P} (list kind before parts) h (k ∷ p) s u x e =
      let r = map_back (list kind before) (fire_part parts k p s) false u x e in
      subst (λ (y : Term P). TermFalls (list kind before parts) s u y) r.2
      (beside _ _ _ _ _ _ _ _ _ _ _ _ 0 0 0 (omega arith) (omega arith) (omega arith) (omega arith) (omega arith) (omega arith) (λ c. (opened_parts r.0, c, refl)) (falls_parts parts h k p s u r.0 r.1))
  falls {P} (owning own part) h p s u x e =
      let r = owned_back owning own (fire part p (own ∷ s)) false u x e in
      subst (λ (y : Term P). TermFalls (owning own part) s u y) r.3
      (subst (λ (d : Change). TermFalls (owning own part) s d (owning (own_after r.0 own) r.1)) r.4
      (owner_falls own part r.1 s r.0 (λ c. (own_after r.0 own, opened r.1, c, refl)) (falls part h p (own ∷ s) r.0 r.1 r.2)))
  falls (nested body exits own state values part) h p s u x e =
      nested_falls body exits own state values part h.1 p s (λ v y q. falls part h.0 p (own ∷ s) v y q) (finished part) u x e
  falls (ended own) h p s u x e = cc
  falls (pool level container body active closed) h [] s u x e = cc
  falls (pool level container body active closed) h (zero ∷ []) s u x e = cc
  falls (pool level container body active closed) h (zero ∷ k ∷ p) s u x e =
      take_falls level container body active closed h.1 k s (slice_get (waiting level container s) k) refl u x e
  falls (pool level container body active closed) h (suc n ∷ []) s u x e = cc
  falls {P} (pool level container body active closed) h (suc n ∷ k ∷ p) s u x e =
      let r = map_back (λ left. pool level container body left closed) (fire_active active k p s) false u x e in
      subst (λ (y : Term P). TermFalls (pool level container body active closed) s u y) r.2
      (beside _ _ _ _ _ _ _ _ _ _ _ _ 0 0 0 (omega arith) (omega arith) (omega arith) (omega arith) (omega arith) (omega arith) (λ c. (opened_active r.0, c, refl)) (falls_active active h.0 k p s u r.0 r.1))

  falls_parts : {P : Type 0} (ts : Terms P) → UnfoldNew ts → (k : ℕ) (p : Path) (s : Memories) (u : Change) (xs : Terms P) → fire_part ts k p s ≡ goes false u xs → PartsFall ts s u xs
  falls_parts none h k p s u xs e = cc
  falls_parts {P} (also t ts) h zero p s u xs e =
      let r = map_back (λ y. also y ts) (fire t p s) false u xs e in
      subst (λ (ys : Terms P). PartsFall (also t ts) s u ys) r.2
      (beside _ _ _ _ _ _ _ _ _ _ _ _ (total_parts reads nothing_of ts) (total_parts pushes nothing_of ts) (total_parts nothing_of held ts)
      (omega arith) (omega arith) (omega arith) (omega arith) (omega arith) (omega arith) (λ c. inl (opened r.0, c, refl)) (falls t h.0 p s u r.0 r.1))
  falls_parts {P} (also t ts) h (suc k) p s u xs e =
      let r = map_back (λ ys. also t ys) (fire_part ts k p s) false u xs e in
      subst (λ (ys : Terms P). PartsFall (also t ts) s u ys) r.2
      (beside _ _ _ _ _ _ _ _ _ _ _ _ (reads_in t) (pushes_in t) (waiting_in t)
      (omega arith) (omega arith) (omega arith) (omega arith) (omega arith) (omega arith) (λ c. inr (opened_parts r.0, c, refl)) (falls_parts ts h.1 k p s u r.0 r.1))

  falls_active : {P : Type 0} (ts : Actives P) → UnfoldActiveNew ts → (k : ℕ) (p : Path) (s : Memories) (u : Change) (xs : Actives P) → fire_active ts k p s ≡ goes false u xs → ActivesFall ts s u xs
  falls_active idle h k p s u xs e = cc
  falls_active {P} (busy v t ts) h zero p s u xs e =
      let r = map_back (λ y. busy v y ts) (fire t p s) false u xs e in
      subst (λ (ys : Actives P). ActivesFall (busy v t ts) s u ys) r.2
      (beside _ _ _ _ _ _ _ _ _ _ _ _ (total_active reads nothing_of ts) (total_active pushes nothing_of ts) (total_active nothing_of held ts)
      (omega arith) (omega arith) (omega arith) (omega arith) (omega arith) (omega arith) (λ c. inl (opened r.0, c, refl)) (falls t h.0 p s u r.0 r.1))
  falls_active {P} (busy v t ts) h (suc k) p s u xs e =
      let r = map_back (λ ys. busy v t ys) (fire_active ts k p s) false u xs e in
      subst (λ (ys : Actives P). ActivesFall (busy v t ts) s u ys) r.2
      (beside _ _ _ _ _ _ _ _ _ _ _ _ (reads_in t) (pushes_in t) (waiting_in t)
      (omega arith) (omega arith) (omega arith) (omega arith) (omega arith) (omega arith) (λ c. inr (opened_active r.0, c, refl)) (falls_active ts h.1 k p s u r.0 r.1))
