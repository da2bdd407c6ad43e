-- Two takes of one pool commute, each behind the other at its new position, up to the order of active terms.
use Rattle.std.proofs.Common.{◌≡◌, ◌≢◌, ℕ, zero, suc, ℤ, List, [], ◌∷◌, drop, Some, Bool, true, false, cond, ◌&&◌, refl, sym, ◌∙◌, ap, subst, inr, slice_get, slice_index_or}
use Rattle.std.specs.Bool.{⊤}
use Rattle.sd_num.specs.declared.width.Width.TheVariants.{W64}
use Rattle.sd_work.specs.Memory.{array, stream, Memory, Memories, values_of, waiting}
use Rattle.sd_work.specs.Change.{Change, take, apply, changed_at, without, with_values, outer, innermost, own_after}
use Rattle.sd_work.specs.Exit.{first_exit}
use Rattle.sd_work.specs.Move.{Move, fails, goes, no_move, map_move}
use Rattle.sd_work.specs.Residual.{Term, leaf, list, owning, nested, ended, pool, Terms, none, also, Actives, idle, busy, finished, all_finished}
use Rattle.sd_work.specs.Moves.{Path}
use Rattle.sd_work.specs.Fire.{owned, transition, and_last, take_move, fire, fire_part, fire_active}
use Rattle.sd_work.proofs.Changes.{apply-own}
use Rattle.sd_work.proofs.Flags.{and_false}
use Rattle.sd_confluence.specs.Takes.{AreTwoTakes, AreTwoTakesInPart, AreTwoTakesInActive, position_behind, behind_take, AreTermsReordered, AreAllReordered, AreActivesReordered}
use Rattle.sd_confluence.proofs.image.Images.{IsNext, IsNextAt, IsNextIn, IsNextHere}
use Rattle.sd_confluence.proofs.image.NextLinked.{next-unfinished}
use Rattle.sd_confluence.proofs.left.Beside.{moved_part}
use Rattle.sd_confluence.proofs.left.Reordered.{same_order, same_orders, same_actives, put-front}
use Rattle.sd_confluence.proofs.left.Sides.{NextAt, still_list, first_flag, here_next}
use Rattle.sd_confluence.proofs.left.Squares.{owned_back}

-- ---- two takes of a list

get-without : (vs : List ℤ) (i j : ℕ) (v : ℤ) → i ≢ j → slice_get vs j ≡ Some v → slice_get (without i vs) (position_behind i j) ≡ Some v
get-without [] i j v n e = cc
get-without (x ∷ vs) zero zero v n e = absurd (n refl)
get-without (x ∷ vs) zero (suc j) v n e = e
get-without (x ∷ vs) (suc i) zero v n e = e
get-without (x ∷ vs) (suc i) (suc j) v n e = get-without vs i j v (λ w. n (ap suc w)) e

without-without : (vs : List ℤ) (i j : ℕ) → i ≢ j → without (position_behind i j) (without i vs) ≡ without (position_behind j i) (without j vs)
without-without [] i j n = refl
without-without (x ∷ vs) zero zero n = absurd (n refl)
without-without (x ∷ vs) zero (suc j) n = refl
without-without (x ∷ vs) (suc i) zero n = refl
without-without (x ∷ vs) (suc i) (suc j) n = ap (λ ws. x ∷ ws) (without-without vs i j (λ w. n (ap suc w)))

waits-memory : (c i j : ℕ) (m : Memory) (v : ℤ) → i ≢ j → slice_get (values_of (slice_index_or m c (stream W64 []))) j ≡ Some v →
    slice_get (values_of (slice_index_or (changed_at c (with_values (λ width. without i)) m) c (stream W64 []))) (position_behind i j) ≡ Some v
waits-memory c i j [] v n e = cc
waits-memory zero i j (array width elements ∷ m) v n e = cc
waits-memory zero i j (stream width vs ∷ m) v n e = get-without vs i j v n e
waits-memory (suc c) i j (k ∷ m) v n e = waits-memory c i j m v n e

-- a value waits behind a take of another position at its new one
waits-behind : (l c i j : ℕ) (s : Memories) (v : ℤ) → i ≢ j → slice_get (waiting l c s) j ≡ Some v → slice_get (waiting l c (apply (take l c i) s)) (position_behind i j) ≡ Some v
waits-behind l c i j [] v n e = cc
waits-behind zero c i j (m ∷ s) v n e = waits-memory c i j m v n e
waits-behind (suc l) c i j (m ∷ s) v n e = waits-behind l c i j s v n e

twice-memory : (c i j : ℕ) (m : Memory) → i ≢ j → changed_at c (with_values (λ width. without (position_behind i j))) (changed_at c (with_values (λ width. without i)) m)
    ≡ changed_at c (with_values (λ width. without (position_behind j i))) (changed_at c (with_values (λ width. without j)) m)
twice-memory c i j [] n = refl
twice-memory zero i j (array width elements ∷ m) n = refl
twice-memory zero i j (stream width vs ∷ m) n = ap (λ ws. stream width ws ∷ m) (without-without vs i j n)
twice-memory (suc c) i j (k ∷ m) n = ap (λ ks. k ∷ ks) (twice-memory c i j m n)

taken-twice : (l c i j : ℕ) (s : Memories) → i ≢ j → apply (take l c (position_behind i j)) (apply (take l c i) s) ≡ apply (take l c (position_behind j i)) (apply (take l c j) s)
taken-twice l c i j [] n = refl
taken-twice zero c i j (m ∷ s) n = ap (λ x. x ∷ s) (twice-memory c i j m n)
taken-twice (suc l) c i j (m ∷ s) n = ap (λ r. m ∷ r) (taken-twice l c i j s n)

-- the two last active terms in the other order
last-two : {P : Type 0} (ts : Actives P) (v w : ℤ) (t x : Term P) → AreActivesReordered (and_last (and_last ts v t) w x) (and_last (and_last ts w x) v t)
last-two idle v w t x = (x, busy v t idle, inr (busy w x idle, refl, refl), same_order x, same_actives (busy v t idle))
last-two (busy y z ts) v w t x = (z, and_last (and_last ts v t) w x, put-front y z (and_last (and_last ts v t) w x), same_order z, last-two ts v w t x)

-- ---- squares

-- two moves, one behind the other, may be made in the other order, where each has another path behind the other
abbrev pub TakeSquare : {P A L : Type 0} → (A → L → Memories → Move P A) → (A → L → Memories → Type 0) → (A → A → Type 0) → (A → Bool) → A → (p q p' q' : L) → Memories → Type 0
TakeSquare {P} {A} {L} go N R over x p q p' q' s =
    (b : Bool) (u : Change) (y : A) → go x p s ≡ goes b u y →
    (over y ≡ false) × N y q' (apply u s) × ((c : Bool) (v : Change) (z : A) → go y q' (apply u s) ≡ goes c v z →
    (w w' : Change) × (early last : A) × (go x q s ≡ goes c w early) × (over early ≡ false) × (go early p' (apply w s) ≡ goes b w' last) × R z last × (apply v (apply u s) ≡ apply w' (apply w s)) × N early p' (apply w s))

-- in a whole that answers as its part
take-map : {P A B L M : Type 0} (f : A → B) (hop : L → M) (g : A → L → Memories → Move P A) (h : B → M → Memories → Move P B) (N : A → L → Memories → Type 0) (O : B → M → Memories → Type 0) (R : A → A → Type 0) (S : B → B → Type 0) (over : A → Bool) (over' : B → Bool) →
    ((r : L) (x : A) (s : Memories) → h (f x) (hop r) s ≡ map_move f (g x r s)) → ((r : L) (x : A) (s : Memories) → N x r s → O (f x) (hop r) s) → ((x y : A) → R x y → S (f x) (f y)) → ((x : A) → over x ≡ false → over' (f x) ≡ false) →
    (p q p' q' : L) (x : A) (s : Memories) → TakeSquare g N R over x p q p' q' s → TakeSquare h O S over' (f x) (hop p) (hop q) (hop p') (hop q') s
take-map f hop g h N O R S over over' fires next alike still p q p' q' x s sq = λ b u y e.
    let one = moved_part f (g x p s) b u y (sym (fires p x s) ∙ e) in
    let r = sq b u one.0 one.1 in (
      subst (λ z. over' z ≡ false) one.2 (still one.0 r.0),
      subst (λ z. O z (hop q') (apply u s)) one.2 (next q' one.0 (apply u s) r.1),
      λ c v z d.
          let two = moved_part f (g one.0 q' (apply u s)) c v z (sym (fires q' one.0 (apply u s)) ∙ ap (λ w. h w (hop q') (apply u s)) one.2 ∙ d) in
          let k = r.2 c v two.0 two.1 in (
            k.0,
            k.1,
            f k.2,
            f k.3,
            fires q x s ∙ ap (map_move f) k.4,
            still k.2 k.5,
            fires p' k.2 (apply k.0 s) ∙ ap (map_move f) k.6,
            subst (λ w. S w (f k.3)) two.2 (alike two.0 k.3 k.7),
            k.8,
            next p' k.2 (apply k.0 s) k.9,
          ),
    )

-- inside an owner
take-owned : {P : Type 0} (whole : Memory → Term P → Term P) →
    ((r : Path) (f : Memory) (z : Term P) (s : Memories) → finished z ≡ false → fire (whole f z) r s ≡ owned whole f (fire z r (f ∷ s))) →
    ((f : Memory) (z : Term P) (r : Path) (s : Memories) → finished z ≡ false → IsNext z r (f ∷ s) → IsNext (whole f z) r s) →
    ((f g : Memory) (z w : Term P) → f ≡ g → AreTermsReordered z w → AreTermsReordered (whole f z) (whole g w)) → ((f : Memory) (z : Term P) → finished z ≡ false → finished (whole f z) ≡ false) →
    (p q p' q' : Path) (own : Memory) (t : Term P) (s : Memories) → finished t ≡ false → TakeSquare fire IsNext AreTermsReordered finished t p q p' q' (own ∷ s) → TakeSquare fire IsNext AreTermsReordered finished (whole own t) p q p' q' s
take-owned {P} whole fires next alike still p q p' q' own t s un sq = λ b u y e.
    let one = owned_back whole own (fire t p (own ∷ s)) b u y (sym (fires p own t s un) ∙ e) in
    let r = sq b one.0 one.1 one.2 in
    let f1 : Memory = own_after one.0 own in (
      subst (λ z. finished z ≡ false) one.4 (still f1 one.1 r.0),
      subst (λ w. IsNext y q' (apply w s)) one.3 (subst (λ z. IsNext z q' (apply (outer one.0) s)) one.4 (next f1 one.1 q' (apply (outer one.0) s) r.0 (subst (IsNext one.1 q') (apply-own one.0 own s) r.1))),
      λ c v z d.
          let here : fire (whole f1 one.1) q' (apply (outer one.0) s) ≡ goes c v z = (λ i. fire (one.4 i) q' (apply (one.3 i) s)) ∙ d in
          let two = owned_back whole f1 (fire one.1 q' (f1 ∷ apply (outer one.0) s)) c v z (sym (fires q' f1 one.1 (apply (outer one.0) s) r.0) ∙ here) in
          let k = r.2 c two.0 two.1 (ap (fire one.1 q') (apply-own one.0 own s) ∙ two.2) in
          let f2 : Memory = own_after k.0 own in
          let left : apply two.0 (apply one.0 (own ∷ s)) ≡ own_after two.0 f1 ∷ apply (outer two.0) (apply (outer one.0) s) = ap (apply two.0) (apply-own one.0 own s) ∙ apply-own two.0 f1 (apply (outer one.0) s) in
          let right : apply k.1 (apply k.0 (own ∷ s)) ≡ own_after k.1 f2 ∷ apply (outer k.1) (apply (outer k.0) s) = ap (apply k.1) (apply-own k.0 own s) ∙ apply-own k.1 f2 (apply (outer k.0) s) in
          let stacks : own_after two.0 f1 ∷ apply (outer two.0) (apply (outer one.0) s) ≡ own_after k.1 f2 ∷ apply (outer k.1) (apply (outer k.0) s) = sym left ∙ k.8 ∙ right in (
            outer k.0,
            outer k.1,
            whole f2 k.2,
            whole (own_after k.1 f2) k.3,
            fires q own t s un ∙ ap (owned whole own) k.4,
            still f2 k.2 k.5,
            fires p' f2 k.2 (apply (outer k.0) s) k.5 ∙ ap (owned whole f2) (ap (fire k.2 p') (sym (apply-own k.0 own s)) ∙ k.6),
            subst (λ w. AreTermsReordered w (whole (own_after k.1 f2) k.3)) two.4 (alike (own_after two.0 f1) (own_after k.1 f2) two.1 k.3 (ap innermost stacks) k.7),
            sym (λ i. apply (two.3 i) (apply (one.3 i) s)) ∙ ap (drop 1) stacks,
            next f2 k.2 p' (apply (outer k.0) s) k.5 (subst (IsNext k.2 p') (apply-own k.0 own s) k.9),
          ),
    )

-- ---- of one pool

-- what holds of a move that goes
abbrev Going : {P A : Type 0} → (Bool → Change → A → Type 0) → Move P A → Type 0
Going T (goes b u y) = T b u y
Going T (fails b fault) = ⊤
Going T no_move = ⊤

pool-takes : {P : Type 0} (l k : ℕ) (body : ℤ → Term P) (ts : Actives P) (closed : Bool) (i j : ℕ) (s : Memories) → i ≢ j → IsNext (pool l k body ts closed) (0 ∷ i ∷ []) s → IsNext (pool l k body ts closed) (0 ∷ j ∷ []) s →
    TakeSquare fire IsNext AreTermsReordered finished (pool l k body ts closed) (0 ∷ i ∷ []) (0 ∷ j ∷ []) (0 ∷ position_behind j i ∷ []) (0 ∷ position_behind i j ∷ []) s
pool-takes {P} l k body ts closed i j s n c d = λ b u y e. subst (Going Rest) (sym (ap (take_move l k body ts closed i) c.2.1) ∙ e) rest
  where
    v : ℤ
    v = c.2.0

    w : ℤ
    w = d.2.0

    now : Term P
    now = pool l k body (and_last ts v (body v)) closed

    early : Term P
    early = pool l k body (and_last ts w (body w)) closed

    m : j ≢ i
    m e = n (sym e)

    there : slice_get (waiting l k (apply (take l k i) s)) (position_behind i j) ≡ Some w
    there = waits-behind l k i j s w n d.2.1

    back : slice_get (waiting l k (apply (take l k j) s)) (position_behind j i) ≡ Some v
    back = waits-behind l k j i s v m c.2.1

    First : Bool → Change → Term P → Bool → Change → Term P → Type 0
    First b u y t x z =
        (a a' : Change) × (before last : Term P) × (fire (pool l k body ts closed) (0 ∷ j ∷ []) s ≡ goes t a before) × (finished before ≡ false) × (fire before (0 ∷ position_behind j i ∷ []) (apply a s) ≡ goes b a' last)
        × AreTermsReordered z last × (apply x (apply u s) ≡ apply a' (apply a s)) × IsNext before (0 ∷ position_behind j i ∷ []) (apply a s)

    Rest : Bool → Change → Term P → Type 0
    Rest b u y =
        (finished y ≡ false) × IsNext y (0 ∷ position_behind i j ∷ []) (apply u s)
        × ((t : Bool) (x : Change) (z : Term P) → fire y (0 ∷ position_behind i j ∷ []) (apply u s) ≡ goes t x z → First b u y t x z)

    first : First false (take l k i) now false (take l k (position_behind i j)) (pool l k body (and_last (and_last ts v (body v)) w (body w)) closed)
    first = (
      take l k j,
      take l k (position_behind j i),
      early,
      pool l k body (and_last (and_last ts w (body w)) v (body v)) closed,
      ap (take_move l k body ts closed j) d.2.1,
      c.0,
      ap (take_move l k body (and_last ts w (body w)) closed (position_behind j i)) back,
      (and_last (and_last ts v (body v)) w (body w), refl, last-two ts v w (body v) (body w)),
      taken-twice l k i j s n,
      (c.0, refl, (v, back)),
    )

    rest : Rest false (take l k i) now
    rest = (c.0, (c.0, refl, (w, there)), λ t x z g. subst (Going (First false (take l k i) now)) (sym (ap (take_move l k body (and_last ts v (body v)) closed (position_behind i j)) there) ∙ g) first)

-- ---- wherever the pool stands

some-path : {P : Type 0} (t : Term P) (p : Path) → AreTwoTakes t p [] → ⊥
some-path (leaf place work) p o = o
some-path (list kind before parts) [] o = o
some-path (list kind before parts) (i ∷ p) o = o
some-path (owning own part) p o = some-path part p o
some-path (nested body exits own state values part) p o = some-path part p o
some-path (ended own) p o = o
some-path (pool l c body active closed) [] o = o
some-path (pool l c body active closed) (n ∷ []) o = o
some-path (pool l c body active closed) (n ∷ i ∷ p) o = o

some-in_part : {P : Type 0} (ts : Terms P) (k : ℕ) (p : Path) → AreTwoTakesInPart ts k p [] → ⊥
some-in_part none k p o = o
some-in_part (also t ts) zero p o = some-path t p o
some-in_part (also t ts) (suc k) p o = some-in_part ts k p o

some-in_active : {P : Type 0} (ts : Actives P) (k : ℕ) (p : Path) → AreTwoTakesInActive ts k p [] → ⊥
some-in_active idle k p o = o
some-in_active (busy v t ts) zero p o = some-path t p o
some-in_active (busy v t ts) (suc k) p o = some-in_active ts k p o

some-other : {P : Type 0} (t : Term P) (q : Path) → AreTwoTakes t [] q → ⊥
some-other (leaf place work) q o = o
some-other (list kind before parts) q o = o
some-other (owning own part) q o = some-other part q o
some-other (nested body exits own state values part) q o = some-other part q o
some-other (ended own) q o = o
some-other (pool l c body active closed) q o = o

some-other_part : {P : Type 0} (ts : Terms P) (k : ℕ) (q : Path) → AreTwoTakesInPart ts k [] q → ⊥
some-other_part none k q o = o
some-other_part (also t ts) zero q o = some-other t q o
some-other_part (also t ts) (suc k) q o = some-other_part ts k q o

some-other_active : {P : Type 0} (ts : Actives P) (k : ℕ) (q : Path) → AreTwoTakesInActive ts k [] q → ⊥
some-other_active idle k q o = o
some-other_active (busy v t ts) zero q o = some-other t q o
some-other_active (busy v t ts) (suc k) q o = some-other_active ts k q o

-- a path behind a take further in
further-in : (i j : ℕ) (taken path : Path) → (taken ≡ [] → ⊥) → behind_take (i ∷ taken) (j ∷ path) ≡ j ∷ behind_take taken path
further-in i j [] path some = absurd (some refl)
further-in i j (k ∷ taken) path some = refl

unfinished-next : (b : Bool) (p : Path) (C : Type 0) → (p ≡ [] → ⊥) → IsNextHere b p C → (b ≡ false) × C
unfinished-next true p C some c = absurd (some c)
unfinished-next false p C some c = (refl, c)

-- the paths of a square are equal to others
same-paths : {P A L : Type 0} (go : A → L → Memories → Move P A) (N : A → L → Memories → Type 0) (R : A → A → Type 0) (over : A → Bool) (x : A) (p q q2 p' p2 q' q3 : L) (s : Memories) → q ≡ q2 → p' ≡ p2 → q' ≡ q3 → TakeSquare go N R over x p q p' q' s → TakeSquare go N R over x p q2 p2 q3 s
same-paths go N R over x p q q2 p' p2 q' q3 s a b c sq = subst (λ r. TakeSquare go N R over x p q2 p2 r s) c (subst (λ r. TakeSquare go N R over x p q2 r q' s) b (subst (λ r. TakeSquare go N R over x p r p' q' s) a sq))

mutual
  -- two takes of one pool that are next commute so
  pub take-square : {P : Type 0} (t : Term P) (p q : Path) (s : Memories) → IsNext t p s → IsNext t q s → AreTwoTakes t p q → TakeSquare fire IsNext AreTermsReordered finished t p q (behind_take q p) (behind_take p q) s
  take-square (leaf place work) p q s c d o = absurd o
  take-square (list kind before ts) [] q s c d o = absurd o
  take-square (list kind before ts) (i ∷ p) [] s c d o = absurd o
  take-square {P} (list kind before ts) (i ∷ p) (j ∷ q) s c d o =
      same-paths fire IsNext AreTermsReordered finished (list kind before ts) (i ∷ p) (i ∷ q) (j ∷ q) (i ∷ behind_take q p) (behind_take (j ∷ q) (i ∷ p)) (i ∷ behind_take p q) (behind_take (i ∷ p) (j ∷ q)) s
      (ap (λ n. n ∷ q) o.0)
      (sym (further-in j i q p (λ e. some-in_part ts i p (subst (AreTwoTakesInPart ts i p) e o.1))))
      (ap (λ n. n ∷ behind_take p q) o.0 ∙ sym (further-in i j p q (λ e. some-other_part ts i q (subst (λ r. AreTwoTakesInPart ts i r q) e o.1))))
      (take-map (list kind before) (λ r. i ∷ r) (λ x r s'. fire_part x i r s') fire (λ x r s'. NextAt ts x (i, r) s') IsNext AreAllReordered AreTermsReordered all_finished finished (λ r x s'. refl) (λ r x s' z. still_list kind before ts i r c.0 x s' z) (λ x y h. (x, refl, h)) (λ x e. e)
      p q (behind_take q p) (behind_take p q) ts s (take-square_at ts i p q s c.1 (subst (λ n. IsNextAt ts n q s) (sym o.0) d.1) o.1))
  take-square (owning own part) p q s c d o =
      take-owned owning (λ r m z s' un. refl) (λ m z r s' un x. x) (λ m g z w e h. (z, ap (λ n. owning n z) e, h)) (λ m z un. un) p q (behind_take q p) (behind_take p q) own part s (next-unfinished part p (own ∷ s) c) (take-square part p q (own ∷ s) c d o)
  take-square {P} (nested body exits own state values part) p q s c d o =
      let one = unfinished-next (finished part) p (IsNext part p (own ∷ s)) (λ e. some-other part q (subst (λ r. AreTwoTakes part r q) e o)) c in
      let two = unfinished-next (finished part) q (IsNext part q (own ∷ s)) (λ e. some-path part p (subst (AreTwoTakes part p) e o)) d in
      take-owned (λ m z. nested body exits m state values z)
      (λ r m z s' un. ap (λ b. cond b (transition body exits m (first_exit (exits state values) (m ∷ s'))) (owned (λ m z. nested body exits m state values z) m (fire z r (m ∷ s')))) un)
      (λ m z r s' un x. here_next (finished z) r (IsNext z r (m ∷ s')) un x) (λ m g z w e h. (z, ap (λ n. nested body exits n state values z) e, h)) (λ m z un. refl)
      p q (behind_take q p) (behind_take p q) own part s one.0 (take-square part p q (own ∷ s) one.1 two.1 o)
  take-square (ended own) p q s c d o = absurd o
  take-square (pool l k body active closed) [] q s c d o = absurd o
  take-square (pool l k body active closed) (n ∷ []) q s c d o = absurd o
  take-square (pool l k body active closed) (n ∷ i ∷ p) [] s c d o = absurd o
  take-square (pool l k body active closed) (n ∷ i ∷ p) (m ∷ []) s c d o = absurd o
  take-square {P} (pool l k body active closed) (zero ∷ i ∷ p) (zero ∷ j ∷ q) s c d o =
      subst (λ r. TakeSquare fire IsNext AreTermsReordered finished (pool l k body active closed) (0 ∷ i ∷ r) (0 ∷ j ∷ q) (behind_take (0 ∷ j ∷ q) (0 ∷ i ∷ r)) (behind_take (0 ∷ i ∷ r) (0 ∷ j ∷ q)) s) (sym c.1)
      (subst (λ r. TakeSquare fire IsNext AreTermsReordered finished (pool l k body active closed) (0 ∷ i ∷ []) (0 ∷ j ∷ r) (behind_take (0 ∷ j ∷ r) (0 ∷ i ∷ [])) (behind_take (0 ∷ i ∷ []) (0 ∷ j ∷ r)) s) (sym d.1)
      (pool-takes l k body active closed i j s o (c.0, refl, c.2) (d.0, refl, d.2)))
  take-square (pool l k body active closed) (zero ∷ i ∷ p) (suc m ∷ j ∷ q) s c d o = absurd o
  take-square (pool l k body active closed) (suc n ∷ i ∷ p) (zero ∷ j ∷ q) s c d o = absurd o
  take-square {P} (pool l k body active closed) (suc zero ∷ i ∷ p) (suc zero ∷ j ∷ q) s c d o =
      same-paths fire IsNext AreTermsReordered finished (pool l k body active closed) (1 ∷ i ∷ p) (1 ∷ i ∷ q) (1 ∷ j ∷ q) (1 ∷ i ∷ behind_take q p) (behind_take (1 ∷ j ∷ q) (1 ∷ i ∷ p)) (1 ∷ i ∷ behind_take p q) (behind_take (1 ∷ i ∷ p) (1 ∷ j ∷ q)) s
      (ap (λ n. 1 ∷ n ∷ q) o.0)
      (ap (λ r. 1 ∷ r) (sym (further-in j i q p (λ e. some-in_active active i p (subst (AreTwoTakesInActive active i p) e o.1)))))
      (ap (λ n. 1 ∷ n ∷ behind_take p q) o.0 ∙ ap (λ r. 1 ∷ r) (sym (further-in i j p q (λ e. some-other_active active i q (subst (λ r. AreTwoTakesInActive active i r q) e o.1)))))
      (take-map (λ x. pool l k body x closed) (λ r. 1 ∷ i ∷ r) (λ x r s'. fire_active x i r s') fire (λ x r s'. IsNextIn x i r s') IsNext AreActivesReordered AreTermsReordered (λ x. false) finished (λ r x s'. refl) (λ r x s' z. (c.0, z)) (λ x y h. (x, refl, h)) (λ x e. c.0)
      p q (behind_take q p) (behind_take p q) active s (take-square_in active i p q s c.1 (subst (λ n. IsNextIn active n q s) (sym o.0) d.1) o.1))
  take-square (pool l k body active closed) (suc zero ∷ i ∷ p) (suc (suc m) ∷ j ∷ q) s c d o = absurd d
  take-square (pool l k body active closed) (suc (suc n) ∷ i ∷ p) (m ∷ j ∷ q) s c d o = absurd c

  take-square_at : {P : Type 0} (ts : Terms P) (k : ℕ) (p q : Path) (s : Memories) → IsNextAt ts k p s → IsNextAt ts k q s → AreTwoTakesInPart ts k p q →
      TakeSquare (λ x r s'. fire_part x k r s') (λ x r s'. NextAt ts x (k, r) s') AreAllReordered all_finished ts p q (behind_take q p) (behind_take p q) s
  take-square_at none k p q s c d o = absurd o
  take-square_at (also t ts) zero p q s c d o =
      take-map (λ x. also x ts) (λ r. r) fire (λ x r s'. fire_part x 0 r s') IsNext (λ x r s'. NextAt (also t ts) x (0, r) s') AreTermsReordered AreAllReordered finished all_finished (λ r x s'. refl)
      (λ r x s' z. (z, first_flag t x ts (next-unfinished t p s c))) (λ x y h. (x, ts, refl, h, same_orders ts)) (λ x e. ap (λ b. b && all_finished ts) e)
      p q (behind_take q p) (behind_take p q) t s (take-square t p q s c d o)
  take-square_at (also t ts) (suc k) p q s c d o =
      take-map (also t) (λ r. r) (λ x r s'. fire_part x k r s') (λ x r s'. fire_part x (suc k) r s') (λ x r s'. NextAt ts x (k, r) s') (λ x r s'. NextAt (also t ts) x (suc k, r) s') AreAllReordered AreAllReordered all_finished all_finished (λ r x s'. refl)
      (λ r x s' z. (z.0, ((λ e. e), z.1))) (λ x y h. (t, x, refl, same_order t, h)) (λ x e. and_false (finished t) (all_finished x) e)
      p q (behind_take q p) (behind_take p q) ts s (take-square_at ts k p q s c d o)

  take-square_in : {P : Type 0} (ts : Actives P) (k : ℕ) (p q : Path) (s : Memories) → IsNextIn ts k p s → IsNextIn ts k q s → AreTwoTakesInActive ts k p q →
      TakeSquare (λ x r s'. fire_active x k r s') (λ x r s'. IsNextIn x k r s') AreActivesReordered (λ x. false) ts p q (behind_take q p) (behind_take p q) s
  take-square_in idle k p q s c d o = absurd o
  take-square_in (busy v t ts) zero p q s c d o =
      take-map (λ x. busy v x ts) (λ r. r) fire (λ x r s'. fire_active x 0 r s') IsNext (λ x r s'. IsNextIn x 0 r s') AreTermsReordered AreActivesReordered finished (λ x. false) (λ r x s'. refl)
      (λ r x s' z. z) (λ x y h. (x, ts, put-front v x ts, h, same_actives ts)) (λ x e. refl)
      p q (behind_take q p) (behind_take p q) t s (take-square t p q s c d o)
  take-square_in (busy v t ts) (suc k) p q s c d o =
      take-map (busy v t) (λ r. r) (λ x r s'. fire_active x k r s') (λ x r s'. fire_active x (suc k) r s') (λ x r s'. IsNextIn x k r s') (λ x r s'. IsNextIn x (suc k) r s') AreActivesReordered AreActivesReordered (λ x. false) (λ x. false) (λ r x s'. refl)
      (λ r x s' z. z) (λ x y h. (t, x, put-front v t x, same_order t, h)) (λ x e. refl)
      p q (behind_take q p) (behind_take p q) ts s (take-square_in ts k p q s c d o)
