-- A point of one map and then the one of another end as one point with both bodies and both lists of private containers.
use Rattle.std.proofs.Common.{◌≡◌, ℕ, ◌+◌, ℤ, List, [], ◌∷◌, ◌++◌, drop, Some, Bool, true, false, ◌||◌, if◌then◌else◌, refl, sym, ◌∙◌, ap, subst, arith}
use Rattle.std.specs.Bool.{⊤}
use Rattle.sd_work.specs.Memory.{Memory, Memories}
use Rattle.sd_work.specs.Residual.{Items, list, owning, Terms, none, also}
use Rattle.sd_work.specs.Step.{Done}
use Rattle.sd_work.specs.Touch.{SomePartTouches}
use Rattle.sd_work.specs.BigStep.{Reached, Coming, reached, and_then, leaving, big_step, big_parts}
use Rattle.sd_subset.specs.boxes.Box.{Parameter}
use Rattle.sd_graph.specs.declared.place.Place.{Place}
use Rattle.sd_graph.specs.PlainTree.{ItemTrees, no_item, and_item}
use Rattle.sd_graph.specs.ContainerParts.{Containers}
use Rattle.sd_graph.specs.Wiring.{has_number, before}
use Rattle.sd_graph.specs.Context.{Reach, Context, own_reach, raised, private_memory}
use Rattle.sd_graph.specs.Unfold.{at_point, unfold_kind, unfold_items}
use Rattle.sd_exchange.specs.reorder.SafePools.{HaveSafePools}
use Rattle.sd_exchange.proofs.reorder_lemmas.Following.{Follows, follow-reached, follow-then}
use Rattle.sd_exchange.proofs.reorder_lemmas.Lockstep.{blind-back, follow-parts}
use Rattle.sd_exchange.proofs.reorder_lemmas.Nearly.{same-memory, Near}
use Rattle.sd_exchange.proofs.reorder_lemmas.Ends.{EndsAlike, EndAlike, assoc}
use Rattle.sd_exchange.proofs.reorder_lemmas.Distributing.{then_nothing}
use Rattle.sd_alike.specs.alike.Places.{items_then}
use Rattle.sd_fuse.proofs.ends_lemmas.Reaching.{ReachBut, items-reached}
use Rattle.sd_fuse.proofs.ends_lemmas.Merging.{Owned, blind-owned, touches-private, has-both, owned-first, owned-second}
use Rattle.sd_fuse.specs.ends.Avoids.{ArePrivate}
use Rattle.sd_exchange.specs.ends.Points.{point_of, pair_of}

-- one relation and then another
abbrev pub Joined : (R S : Memories → Memories → Type 0) → Memories → Memories → Type 0
Joined R S x y = (z : Memories) × R x z × S z y

pub follow-join : {P Q O : Type 0} (R S : Memories → Memories → Type 0) (n : ℕ) (came : Coming P) (other : ℕ → Coming Q) (last : ℕ → Coming O) → Follows R n came other → ((m : ℕ) → Follows S m (other m) last) → Follows (Joined R S) n came last
follow-join {P} {Q} {O} R S n came other last h g = record { done = go }
  where
    go : (x : Reached) → came ≡ Some (Done x) → (k : ℕ) × (there : Memories) × (n ≡ k + x.turns) × ((m : ℕ) → last (k + m) ≡ reached there m) × Joined R S x.memories there
    go x e =
        let a = h.done x e in
        let b = (g (a.0 + x.turns)).done (record { memories = a.1; turns = x.turns }) (a.3 x.turns) in
        let same : a.0 ≡ b.0 = (let p = b.2 in omega (arith, p)) in
        (b.0, b.1, a.2 ∙ ap (λ k. k + x.turns) same, b.3, (a.1, a.4, b.4))

-- ---- both bodies

items-then : (items others : ItemTrees) (context : Context) (most n : ℕ) (s : Memories) → big_parts (unfold_items (items_then items others) context) most s n ≡ and_then (big_parts (unfold_items items context) most s n) (big_parts (unfold_items others context) most)
items-then no_item others context most n s = refl
items-then (and_item line kind items) others context most n s =
    ap (and_then (big_step (unfold_kind kind line context) most s n)) (λ i s n. items-then items others context most n s i)
    ∙ sym (assoc (big_step (unfold_kind kind line context) most s n) (big_parts (unfold_items items context) most) (big_parts (unfold_items others context) most))

abbrev dropping : Memories → ℕ → Coming Place
dropping s n = reached (drop 1 s) n

-- a pair, in one line
pair-steps : (own other : Memory) (first second : Terms Place) (kind inside later : ℕ → ℕ → Bool) (most n : ℕ) (s : Memories) →
    big_step (list Items inside (also (owning own (list Items kind first)) (also (owning other (list Items later second)) none))) most s n
    ≡ and_then (big_parts first most (own ∷ s) n) (λ s n. and_then (big_parts second most (other ∷ drop 1 s) n) dropping)
pair-steps own other first second kind inside later most n s =
    ap (and_then (leaving (big_parts first most (own ∷ s) n))) (λ i s n. then_nothing (leaving (big_parts second most (other ∷ s) n)) i)
    ∙ assoc (big_parts first most (own ∷ s) n) dropping (λ s n. leaving (big_parts second most (other ∷ s) n))

fused-steps : (own : Memory) (items others : ItemTrees) (kind : ℕ → ℕ → Bool) (context : Context) (most n : ℕ) (s : Memories) →
    big_step (owning own (list Items kind (unfold_items (items_then items others) context))) most s n
    ≡ and_then (big_parts (unfold_items items context) most (own ∷ s) n) (λ s n. and_then (big_parts (unfold_items others context) most s n) dropping)
fused-steps own items others kind context most n s =
    ap leaving (items-then items others context most n (own ∷ s)) ∙ assoc (big_parts (unfold_items items context) most (own ∷ s) n) (big_parts (unfold_items others context) most) dropping

-- ---- reaches

reach-first : (own others : List ℕ) (containers : Containers) (reach : ℕ → Reach) →
    ReachBut others (λ number. if has_number own number then own_reach containers number else raised (reach number)) (λ number. if has_number (own ++ others) number then own_reach containers number else raised (reach number))
reach-first own others containers reach number free =
    ap (λ b. if b then own_reach containers number else raised (reach number)) (sym (has-both own others number ∙ go (has_number own number) (has_number others number) free))
  where
    go : (a b : Bool) → b ≡ false → (a || b) ≡ a
    go true b e = refl
    go false b e = e

reach-second : (own others : List ℕ) (containers : Containers) (reach : ℕ → Reach) →
    ReachBut own (λ number. if has_number others number then own_reach containers number else raised (reach number)) (λ number. if has_number (own ++ others) number then own_reach containers number else raised (reach number))
reach-second own others containers reach number free =
    ap (λ b. if b then own_reach containers number else raised (reach number)) (sym (has-both own others number ∙ go (has_number own number) (has_number others number) free))
  where
    go : (a b : Bool) → a ≡ false → (a || b) ≡ b
    go true b e = cc
    go false b e = refl

near-dropped : (s u : Memories) → Near s u → Near (drop 1 s) (drop 1 u)
near-dropped [] [] h = tt
near-dropped [] (n ∷ u) h = elim h [ ]
near-dropped (m ∷ s) [] h = elim h [ ]
near-dropped (m ∷ s) (n ∷ u) h = h.1

owned-dropped : (test : ℕ → Bool) (begin : Memory) (s u : Memories) → Owned test begin s u → drop 1 s ≡ drop 1 u
owned-dropped test begin [] u h = elim h [ ]
owned-dropped test begin (m ∷ s) [] h = elim h [ ]
owned-dropped test begin (m ∷ s) (n ∷ u) h = h.1

-- ---- the point

pub fused-point : (params : List Parameter) (private own : List ℕ) (body other : ItemTrees) (context : Context) (inside : ℕ → ℕ → Bool) (point : List ℤ) → ArePrivate private own body other →
    HaveSafePools (unfold_items body (at_point context params private point)) → HaveSafePools (unfold_items other (at_point context params own point)) →
    EndsAlike (pair_of inside (point_of params private body context) (point_of params own other context) point) (point_of params (private ++ own) (items_then body other) context point)
fused-point params private own body other context inside point are safe safe' =
    record {
      ends = λ most n s v r.
          subst (λ came. Follows Near n came (big_step (point_of params (private ++ own) (items_then body other) context point) most v)) (sym (pair-steps e-first e-second first second (before cs body) inside (before cs other) most n s))
          (subst (λ last. Follows Near n (and_then (big_parts first most (e-first ∷ s) n) (λ s n. and_then (big_parts second most (e-second ∷ drop 1 s) n) dropping)) last)
          (λ i m. sym (fused-steps e-both body other (before cs (items_then body other)) there most m v) i)
          (follow-then (Joined (Owned (has_number private) e-both) Near) Near n (big_parts first most (e-first ∷ s) n) (big_parts (unfold_items body there) most (e-both ∷ v)) _ _
          (follow-join (Owned (has_number private) e-both) Near n (big_parts first most (e-first ∷ s) n) (big_parts first most (e-both ∷ s)) (big_parts (unfold_items body there) most (e-both ∷ v))
          (follow-parts first (Owned (has_number private) e-both) (blind-owned (has_number private) e-both (SomePartTouches first) (touches-private body private here context.reach (λ number. refl))) most (e-first ∷ s) (e-both ∷ s) n (owned-first private own cs s))
          (λ m. first-there.end most m (e-both ∷ s) (e-both ∷ v) (same-memory (λ k. ⊤) e-both, r)))
          (λ s1 u1 m j. second-stage most m s1 u1 j.0 j.1 j.2)));
    }
  where
    cs : Containers
    cs = context.containers

    here : Context
    here = at_point context params private point

    also_here : Context
    also_here = at_point context params own point

    there : Context
    there = at_point context params (private ++ own) point

    e-first : Memory
    e-first = private_memory cs private

    e-second : Memory
    e-second = private_memory cs own

    e-both : Memory
    e-both = private_memory cs (private ++ own)

    first : Terms Place
    first = unfold_items body here

    second : Terms Place
    second = unfold_items other also_here

    first-there : EndAlike first (unfold_items body there)
    first-there = items-reached body own here there.reach (reach-first private own cs context.reach) are.first safe

    second-there : EndAlike second (unfold_items other there)
    second-there = items-reached other private also_here there.reach (reach-second private own cs context.reach) are.second safe'

    last-stage : (begin : Memory) (x y : Memories) (m : ℕ) → Joined (Owned (has_number own) begin) Near x y → Follows Near m (dropping x m) (dropping y)
    last-stage begin x y m (z, o, near) = follow-reached Near m (drop 1 x) (drop 1 y) (subst (λ w. Near w (drop 1 y)) (sym (owned-dropped (has_number own) begin x z o)) (near-dropped z y near))

    second-stage : (most m : ℕ) (s1 u1 z : Memories) → Owned (has_number private) e-both s1 z → Near z u1 →
        Follows Near m (and_then (big_parts second most (e-second ∷ drop 1 s1) m) dropping) (λ m. and_then (big_parts (unfold_items other there) most u1 m) dropping)
    second-stage most m [] u1 z o near = elim o [ ]
    second-stage most m (m1 ∷ s1) u1 [] o near = elim o [ ]
    second-stage most m (m1 ∷ s1) u1 (m2 ∷ z) (agree, same) near =
        follow-then (Joined (Owned (has_number own) m2) Near) Near m (big_parts second most (e-second ∷ s1) m) (big_parts (unfold_items other there) most u1) _ _
        (follow-join (Owned (has_number own) m2) Near m (big_parts second most (e-second ∷ s1) m) (big_parts second most (m2 ∷ s1)) (big_parts (unfold_items other there) most u1)
        (follow-parts second (Owned (has_number own) m2) (blind-owned (has_number own) m2 (SomePartTouches second) (touches-private other own also_here context.reach (λ number. refl))) most (e-second ∷ s1) (m2 ∷ s1) m (owned-second private own are.apart cs m1 m2 s1 agree))
        (λ k. second-there.end most k (m2 ∷ s1) u1 (subst (λ w. Near (m2 ∷ w) u1) (sym same) near)))
        (λ x y k j. last-stage m2 x y k j)

-- and back
pub fused-back : (params : List Parameter) (private own : List ℕ) (body other : ItemTrees) (context : Context) (inside : ℕ → ℕ → Bool) (point : List ℤ) → ArePrivate private own body other →
    HaveSafePools (unfold_items body (at_point context params (private ++ own) point)) → HaveSafePools (unfold_items other (at_point context params (private ++ own) point)) →
    EndsAlike (point_of params (private ++ own) (items_then body other) context point) (pair_of inside (point_of params private body context) (point_of params own other context) point)
fused-back params private own body other context inside point are safe safe' =
    record {
      ends = λ most n s v r.
          subst (λ came. Follows Near n came (big_step (pair_of inside (point_of params private body context) (point_of params own other context) point) most v)) (sym (fused-steps e-both body other (before cs (items_then body other)) there most n s))
          (subst (λ last. Follows Near n (and_then (big_parts (unfold_items body there) most (e-both ∷ s) n) (λ s n. and_then (big_parts (unfold_items other there) most s n) dropping)) last)
          (λ i m. sym (pair-steps e-first e-second first second (before cs body) inside (before cs other) most m v) i)
          (follow-then (Joined Near (λ z y. Owned (has_number private) e-both y z)) Near n (big_parts (unfold_items body there) most (e-both ∷ s) n) (big_parts first most (e-first ∷ v)) _ _
          (follow-join Near (λ z y. Owned (has_number private) e-both y z) n (big_parts (unfold_items body there) most (e-both ∷ s) n) (big_parts first most (e-both ∷ v)) (big_parts first most (e-first ∷ v))
          (there-first.end most n (e-both ∷ s) (e-both ∷ v) (same-memory (λ k. ⊤) e-both, r))
          (λ m. follow-parts first (λ z y. Owned (has_number private) e-both y z) (blind-back (SomePartTouches first) (Owned (has_number private) e-both) (blind-owned (has_number private) e-both (SomePartTouches first) (touches-private body private here context.reach (λ number. refl)))) most (e-both ∷ v) (e-first ∷ v) m (owned-first private own cs v)))
          (λ s1 u1 m j. second-stage most m s1 j.0 u1 j.1 j.2)));
    }
  where
    cs : Containers
    cs = context.containers

    here : Context
    here = at_point context params private point

    also_here : Context
    also_here = at_point context params own point

    there : Context
    there = at_point context params (private ++ own) point

    e-first : Memory
    e-first = private_memory cs private

    e-second : Memory
    e-second = private_memory cs own

    e-both : Memory
    e-both = private_memory cs (private ++ own)

    first : Terms Place
    first = unfold_items body here

    second : Terms Place
    second = unfold_items other also_here

    there-first : EndAlike (unfold_items body there) first
    there-first = items-reached body own there here.reach (λ number free. sym (reach-first private own cs context.reach number free)) are.first safe

    there-second : EndAlike (unfold_items other there) second
    there-second = items-reached other private there also_here.reach (λ number free. sym (reach-second private own cs context.reach number free)) are.second safe'

    last-stage : (begin : Memory) (x y : Memories) (m : ℕ) → Joined Near (λ z y. Owned (has_number own) begin y z) x y → Follows Near m (dropping x m) (dropping y)
    last-stage begin x y m (z, near, o) = follow-reached Near m (drop 1 x) (drop 1 y) (subst (λ w. Near (drop 1 x) w) (sym (owned-dropped (has_number own) begin y z o)) (near-dropped x z near))

    second-stage : (most m : ℕ) (s1 z u1 : Memories) → Near s1 z → Owned (has_number private) e-both u1 z →
        Follows Near m (and_then (big_parts (unfold_items other there) most s1 m) dropping) (λ m. and_then (big_parts second most (e-second ∷ drop 1 u1) m) dropping)
    second-stage most m s1 z [] near o = elim o [ ]
    second-stage most m s1 [] (m1 ∷ u1) near o = elim o [ ]
    second-stage most m s1 (m2 ∷ z) (m1 ∷ u1) near (agree, same) =
        follow-then (Joined Near (λ z y. Owned (has_number own) m2 y z)) Near m (big_parts (unfold_items other there) most s1 m) (big_parts second most (e-second ∷ u1)) _ _
        (follow-join Near (λ z y. Owned (has_number own) m2 y z) m (big_parts (unfold_items other there) most s1 m) (big_parts second most (m2 ∷ u1)) (big_parts second most (e-second ∷ u1))
        (there-second.end most m s1 (m2 ∷ u1) (subst (λ w. Near s1 (m2 ∷ w)) (sym same) near))
        (λ k. follow-parts second (λ z y. Owned (has_number own) m2 y z) (blind-back (SomePartTouches second) (Owned (has_number own) m2) (blind-owned (has_number own) m2 (SomePartTouches second) (touches-private other own also_here context.reach (λ number. refl)))) most (m2 ∷ u1) (e-second ∷ u1) k (owned-second private own are.apart cs m1 m2 u1 agree)))
        (λ x y k j. last-stage m2 x y k j)

-- ---- whole maps

pub split-pools : (items others : ItemTrees) (context : Context) → HaveSafePools (unfold_items (items_then items others) context) → HaveSafePools (unfold_items items context) × HaveSafePools (unfold_items others context)
split-pools no_item others context h = (tt, h)
split-pools (and_item line kind items) others context h = let r = split-pools items others context h.1 in ((h.0, r.0), r.1)
