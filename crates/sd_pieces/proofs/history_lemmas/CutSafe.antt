-- A cut of items that may interleave may interleave.
use Rattle.std.proofs.Common.{◌≡◌, ◌⊎◌, inl, inr, ℕ, zero, suc, ◌+◌, ◌<◌, List, [], ◌∷◌, ◌++◌, Option, Some, None, slice_get, Bool, true, false, refl, sym, ◌∙◌, ap, subst, arith}
use Rattle.std.specs.Bool.{⊤}
use Rattle.std.specs.List.{AllByRecursion}
use Rattle.sd_work.specs.Memory.{Memory}
use Rattle.sd_work.specs.Residual.{Parts, Items, Points, Term, list, Terms, none, also, part_at, IsOrder}
use Rattle.sd_work.specs.Touch.{Touch, pushes, takes, inner, AreCompatible, Touches, SomePartTouches}
use Rattle.sd_work.specs.WellFormed.{IsOrdered, AreOrdered}
use Rattle.sd_work.specs.OrderedPools.{DoesNotFeed, HasOrderedPools, HaveOrderedPools}
use Rattle.sd_confluence.specs.Safe.{TouchCompatibly, TakesNothingOutside, ArePartsSafe, IsSafe, AreSafe, MayInterleave}
use Rattle.sd_pieces.specs.history.Pieces.{Piece, Work, and_parts, terms_of, before_if, piece_before, graph_of_pieces, all_parts, map_pieces, IsCut, no_items, as_it_is, in_pieces, graph_of_items}

-- ---- parts

count : {P : Type 0} → Terms P → ℕ
count none = zero
count (also t ts) = suc (count ts)

-- a touch of parts is one of some part
some-part : {P : Type 0} (ts : Terms P) (touch : Touch) → SomePartTouches ts touch → (i : ℕ) × (i < count ts) × Touches (part_at ts i) touch
unfolding count
some-part none touch h = elim h [ ]
some-part (also t ts) touch (inl h) = (zero, omega arith, h)
some-part (also t ts) touch (inr h) = let r = some-part ts touch h in (suc r.0, (let less = r.1 in omega arith), r.2)

part-some : {P : Type 0} (ts : Terms P) (i : ℕ) (touch : Touch) → Touches (part_at ts i) touch → SomePartTouches ts touch
part-some none i touch h = elim h [ ]
part-some (also t ts) zero touch h = inl h
part-some (also t ts) (suc i) touch h = inr (part-some ts i touch h)

-- a part of the first parts is one of both, and so is one of the others behind them
in-first : {P : Type 0} (ts us : Terms P) (i : ℕ) (touch : Touch) → Touches (part_at ts i) touch → Touches (part_at (and_parts ts us) i) touch
in-first none us i touch h = elim h [ ]
in-first (also t ts) us zero touch h = h
in-first (also t ts) us (suc i) touch h = in-first ts us i touch h

in-second : {P : Type 0} (ts us : Terms P) (i : ℕ) (touch : Touch) → Touches (part_at us i) touch → Touches (part_at (and_parts ts us) (count ts + i)) touch
unfolding count
in-second none us i touch h = subst (λ n. Touches (part_at us n) touch) (let e : i ≡ 0 + i = omega arith in e) h
in-second (also t ts) us i touch h =
    subst (λ n. Touches (part_at (also t (and_parts ts us)) n) touch) (let e : suc (count ts + i) ≡ suc (count ts) + i = omega arith in e) (in-second ts us i touch h)

first-safe : {P : Type 0} (ts us : Terms P) → AreSafe (and_parts ts us) → AreSafe ts
first-safe none us h = tt
first-safe (also t ts) us h = (h.0, first-safe ts us h.1)

second-safe : {P : Type 0} (ts us : Terms P) → AreSafe (and_parts ts us) → AreSafe us
second-safe none us h = h
second-safe (also t ts) us h = second-safe ts us h.1

first-ordered : {P : Type 0} (ts us : Terms P) → AreOrdered (and_parts ts us) → AreOrdered ts
first-ordered none us h = tt
first-ordered (also t ts) us h = (h.0, first-ordered ts us h.1)

second-ordered : {P : Type 0} (ts us : Terms P) → AreOrdered (and_parts ts us) → AreOrdered us
second-ordered none us h = h
second-ordered (also t ts) us h = second-ordered ts us h.1

first-pools : {P : Type 0} (d : ℕ) (ts us : Terms P) → HaveOrderedPools d (and_parts ts us) → HaveOrderedPools d ts
first-pools d none us h = tt
first-pools d (also t ts) us h = (h.0, first-pools d ts us h.1)

second-pools : {P : Type 0} (d : ℕ) (ts us : Terms P) → HaveOrderedPools d (and_parts ts us) → HaveOrderedPools d us
second-pools d none us h = h
second-pools d (also t ts) us h = second-pools d ts us h.1

-- ---- runs of points

-- points in any order, of which each pair is compatible, and each but the first takes from no stream outside
abbrev AreFree : {P : Type 0} → Terms P → Type 0
AreFree ts = (i j : ℕ) → i < j → TouchCompatibly (part_at ts i) (part_at ts j) × TakesNothingOutside (part_at ts j)

first-free : {P : Type 0} (ts us : Terms P) → AreFree (and_parts ts us) → AreFree ts
first-free ts us h = λ i j less. (
  (λ touch other p q. (h i j less).0 touch other (in-first ts us i touch p) (in-first ts us j other q)),
  λ l c p. (h i j less).1 l c (in-first ts us j (takes l c) p),
)

second-free : {P : Type 0} (ts us : Terms P) → AreFree (and_parts ts us) → AreFree us
second-free ts us h = λ i j less. (
  (λ touch other p q. (h (count ts + i) (count ts + j) (omega arith)).0 touch other (in-second ts us i touch p) (in-second ts us j other q)),
  λ l c p. (h (count ts + i) (count ts + j) (omega arith)).1 l c (in-second ts us j (takes l c) p),
)

-- two terms of which the second does not see the first
abbrev AreClear : {P : Type 0} → Term P → Term P → Type 0
AreClear a b = TouchCompatibly a b × DoesNotFeed a b

across : {P : Type 0} (before other : ℕ → ℕ → Bool) (ts us vs : Terms P) → ((touch : Touch) → SomePartTouches vs touch → SomePartTouches us touch) → AreFree (and_parts ts us) → AreClear (list Points before ts) (list Points other vs)
across before other ts us vs part h = (
  (λ touch next p q.
      let a = some-part ts touch p in
      let b = some-part us next (part next q) in
      (h a.0 (count ts + b.0) (let less = a.1 in omega arith)).0 touch next (in-first ts us a.0 touch a.2) (in-second ts us b.0 next b.2)),
  λ l c p q.
      let a = some-part ts (pushes l c) p in
      let b = some-part us (takes l c) (part (takes l c) q) in
      (h a.0 (count ts + b.0) (let less = a.1 in omega arith)).1 l c (in-second ts us b.0 (takes l c) b.2),
)

-- ---- pairs of pieces

-- of two pieces the second is of a later item, or of the same one and does not see the first
abbrev ArePair : {P : Type 0} → Piece P → Piece P → Type 0
ArePair x y = (x.item < y.item) ⊎ ((x.item ≡ y.item) × AreClear x.term y.term)

abbrev ArePairs : {P : Type 0} → List (Piece P) → Type 0
ArePairs [] = ⊤
ArePairs (x ∷ xs) = AllByRecursion (ArePair x) xs × ArePairs xs

all-both : {A : Type 0} (R : A → Type 0) (xs ys : List A) → AllByRecursion R xs → AllByRecursion R ys → AllByRecursion R (xs ++ ys)
all-both R [] ys h k = k
all-both R (x ∷ xs) ys h k = (h.0, all-both R xs ys h.1 k)

pairs-both : {P : Type 0} (xs ys : List (Piece P)) → ArePairs xs → ArePairs ys → AllByRecursion (λ x. AllByRecursion (ArePair x) ys) xs → ArePairs (xs ++ ys)
pairs-both [] ys h k r = k
pairs-both (x ∷ xs) ys h k r = (all-both (ArePair x) xs ys h.0 r.0, pairs-both xs ys h.1 k r.1)

-- pieces of items from this one on
later : {P : Type 0} (n : ℕ) {items : Terms P} {pieces : List (Piece P)} → IsCut n items pieces → (x : Piece P) → x.item < n → AllByRecursion (ArePair x) pieces
later n no_items x less = tt
later n (as_it_is term c) x less = (inl less, later (suc n) c x (omega arith))
later n (in_pieces {pieces} before runs never c) x less = all-both (ArePair x) (map_pieces n before runs) pieces (on runs) (later (suc n) c x (omega arith))
  where
    on : (runs : List (Terms _)) → AllByRecursion (ArePair x) (map_pieces n before runs)
    on [] = tt
    on (ts ∷ runs) = (inl less, on runs)

-- the pieces of a map
run-pairs : {P : Type 0} (n : ℕ) (before : ℕ → ℕ → Bool) (runs : List (Terms P)) → AreFree (all_parts runs) → ArePairs (map_pieces n before runs)
run-pairs n before [] h = tt
run-pairs {P} n before (ts ∷ runs) h = (on runs (λ touch k. k), run-pairs n before runs (second-free ts (all_parts runs) h))
  where
    on : (others : List (Terms P)) → ((touch : Touch) → SomePartTouches (all_parts others) touch → SomePartTouches (all_parts runs) touch) →
        AllByRecursion (ArePair (record { item = n; term = list Points before ts })) (map_pieces n before others)
    on [] part = tt
    on (us ∷ others) part = (
      inr (refl, across before before ts (all_parts runs) us (λ touch k. part touch (both-first us (all_parts others) touch k)) h),
      on others (λ touch k. part touch (both-second us (all_parts others) touch k)),
    )
      where
        both-first : (a b : Terms P) (touch : Touch) → SomePartTouches a touch → SomePartTouches (and_parts a b) touch
        both-first none b touch k = elim k [ ]
        both-first (also t a) b touch (inl k) = inl k
        both-first (also t a) b touch (inr k) = inr (both-first a b touch k)

        both-second : (a b : Terms P) (touch : Touch) → SomePartTouches b touch → SomePartTouches (and_parts a b) touch
        both-second none b touch k = k
        both-second (also t a) b touch k = inr (both-second a b touch k)

-- what safe points in any order are
safe-free : {P : Type 0} (before : ℕ → ℕ → Bool) (ts : Terms P) → ((i j : ℕ) → before i j ≡ false) → ArePartsSafe Points before ts → AreFree ts
safe-free before ts never h = λ i j less. (h.compatible i j less (never i j), h.points refl i j less (never i j))

free-safe : {P : Type 0} (before : ℕ → ℕ → Bool) (ts : Terms P) → AreFree ts → ArePartsSafe Points before ts
free-safe before ts h = record { compatible = λ i j less unordered. (h i j less).0; points = λ is i j less unordered. (h i j less).1 }

cut-pairs : {P : Type 0} (n : ℕ) {items : Terms P} {pieces : List (Piece P)} → IsCut n items pieces → AreSafe items → ArePairs pieces
cut-pairs n no_items h = tt
cut-pairs n (as_it_is term c) h = (later (suc n) c (record { item = n; term = term }) (omega arith), cut-pairs (suc n) c h.1)
cut-pairs {P} n (in_pieces {pieces} before runs never c) h =
    pairs-both (map_pieces n before runs) pieces (run-pairs n before runs (safe-free before (all_parts runs) never h.0.1)) (cut-pairs (suc n) c h.1) (on runs)
  where
    on : (runs : List (Terms P)) → AllByRecursion (λ x. AllByRecursion (ArePair x) pieces) (map_pieces n before runs)
    on [] = tt
    on (ts ∷ runs) = (later (suc n) c (record { item = n; term = list Points before ts }) (omega arith), on runs)

-- ---- pieces by their places

some-is : {A : Type 0} (x y : A) → Some x ≡ Some y → x ≡ y
some-is {A} x y e = ap (or_else x) e
  where
    or_else : A → Option A → A
    or_else d None = d
    or_else d (Some z) = z

pub all-at : {A : Type 0} (R : A → Type 0) (xs : List A) (i : ℕ) (x : A) → slice_get xs i ≡ Some x → AllByRecursion R xs → R x
all-at R [] i x e h = cc
all-at R (y ∷ xs) zero x e h = subst R (some-is y x e) h.0
all-at R (y ∷ xs) (suc i) x e h = all-at R xs i x e h.1

pairs-at : {P : Type 0} (xs : List (Piece P)) (i j : ℕ) (x y : Piece P) → ArePairs xs → i < j → slice_get xs i ≡ Some x → slice_get xs j ≡ Some y → ArePair x y
pairs-at [] i j x y h less p q = cc
pairs-at (z ∷ xs) zero zero x y h less p q = absurd (omega arith)
pairs-at (z ∷ xs) zero (suc j) x y h less p q = subst (λ w. ArePair w y) (some-is z x p) (all-at (ArePair z) xs j y q h.0)
pairs-at (z ∷ xs) (suc i) zero x y h less p q = absurd (omega arith)
pairs-at (z ∷ xs) (suc i) (suc j) x y h less p q = pairs-at xs i j x y h.1 (omega arith) p q

-- the part of a place is that of the piece there
piece-at : {P : Type 0} (xs : List (Piece P)) (i : ℕ) (touch : Touch) → Touches (part_at (terms_of xs) i) touch → (x : Piece P) × (slice_get xs i ≡ Some x) × Touches x.term touch
piece-at [] i touch h = elim h [ ]
piece-at (x ∷ xs) zero touch h = (x, refl, h)
piece-at (x ∷ xs) (suc i) touch h = piece-at xs i touch h

some-piece : {P : Type 0} (xs : List (Piece P)) (touch : Touch) → SomePartTouches (terms_of xs) touch → (i : ℕ) × (x : Piece P) × (slice_get xs i ≡ Some x) × Touches x.term touch
some-piece [] touch h = elim h [ ]
some-piece (x ∷ xs) touch (inl h) = (zero, x, refl, h)
some-piece (x ∷ xs) touch (inr h) = let r = some-piece xs touch h in (suc r.0, r.1, r.2, r.3)

-- a piece is of an item
abbrev pub IsOf : {P : Type 0} → ℕ → Terms P → Piece P → Type 0
IsOf n items x = (a : ℕ) × (x.item ≡ n + a) × ((touch : Touch) → Touches x.term touch → Touches (part_at items a) touch)

all-map : {A : Type 0} (R S : A → Type 0) → ((x : A) → R x → S x) → (xs : List A) → AllByRecursion R xs → AllByRecursion S xs
all-map R S f [] h = tt
all-map R S f (x ∷ xs) h = (f x h.0, all-map R S f xs h.1)

next-of : {P : Type 0} (n : ℕ) (t : Term P) (items : Terms P) (x : Piece P) → IsOf (suc n) items x → IsOf n (also t items) x
next-of n t items x h = (suc h.0, (let e = h.1 in omega arith), h.2)

both-first : {P : Type 0} (a b : Terms P) (touch : Touch) → SomePartTouches a touch → SomePartTouches (and_parts a b) touch
both-first none b touch k = elim k [ ]
both-first (also t a) b touch (inl k) = inl k
both-first (also t a) b touch (inr k) = inr (both-first a b touch k)

both-second : {P : Type 0} (a b : Terms P) (touch : Touch) → SomePartTouches b touch → SomePartTouches (and_parts a b) touch
both-second none b touch k = k
both-second (also t a) b touch k = inr (both-second a b touch k)

pub pieces-of : {P : Type 0} (n : ℕ) {items : Terms P} {pieces : List (Piece P)} → IsCut n items pieces → AllByRecursion (IsOf n items) pieces
pieces-of n no_items = tt
pieces-of n (as_it_is {items} {pieces} term c) = ((zero, omega arith, λ touch h. h), all-map _ _ (next-of n term items) pieces (pieces-of (suc n) c))
pieces-of {P} n (in_pieces {items} {pieces} before runs never c) =
    all-both _ (map_pieces n before runs) pieces (on runs (λ touch h. h)) (all-map _ _ (next-of n (list Points before (all_parts runs)) items) pieces (pieces-of (suc n) c))
  where
    on : (others : List (Terms P)) → ((touch : Touch) → SomePartTouches (all_parts others) touch → SomePartTouches (all_parts runs) touch) →
        AllByRecursion (IsOf n (also (list Points before (all_parts runs)) items)) (map_pieces n before others)
    on [] part = tt
    on (ts ∷ others) part = (
      (zero, omega arith, λ touch h. part touch (both-first ts (all_parts others) touch h)),
      on others (λ touch h. part touch (both-second ts (all_parts others) touch h)),
    )

-- ---- what holds of each piece

each-safe : {P : Type 0} (xs : List (Piece P)) → AllByRecursion (λ x. IsSafe x.term) xs → AreSafe (terms_of xs)
each-safe [] h = tt
each-safe (x ∷ xs) h = (h.0, each-safe xs h.1)

each-ordered : {P : Type 0} (xs : List (Piece P)) → AllByRecursion (λ x. IsOrdered x.term) xs → AreOrdered (terms_of xs)
each-ordered [] h = tt
each-ordered (x ∷ xs) h = (h.0, each-ordered xs h.1)

each-pools : {P : Type 0} (d : ℕ) (xs : List (Piece P)) → AllByRecursion (λ x. HasOrderedPools d x.term) xs → HaveOrderedPools d (terms_of xs)
each-pools d [] h = tt
each-pools d (x ∷ xs) h = (h.0, each-pools d xs h.1)

pieces-safe : {P : Type 0} (n : ℕ) {items : Terms P} {pieces : List (Piece P)} → IsCut n items pieces → AreSafe items → AllByRecursion (λ x. IsSafe x.term) pieces
pieces-safe n no_items h = tt
pieces-safe n (as_it_is term c) h = (h.0, pieces-safe (suc n) c h.1)
pieces-safe {P} n (in_pieces {pieces} before runs never c) h =
    all-both _ (map_pieces n before runs) pieces (on runs h.0.0 (safe-free before (all_parts runs) never h.0.1)) (pieces-safe (suc n) c h.1)
  where
    on : (runs : List (Terms P)) → AreSafe (all_parts runs) → AreFree (all_parts runs) → AllByRecursion (λ x. IsSafe x.term) (map_pieces n before runs)
    on [] k f = tt
    on (ts ∷ runs) k f =
        ((first-safe ts (all_parts runs) k, free-safe before ts (first-free ts (all_parts runs) f)), on runs (second-safe ts (all_parts runs) k) (second-free ts (all_parts runs) f))

pieces-ordered : {P : Type 0} (n : ℕ) {items : Terms P} {pieces : List (Piece P)} → IsCut n items pieces → AreOrdered items → AllByRecursion (λ x. IsOrdered x.term) pieces
pieces-ordered n no_items h = tt
pieces-ordered n (as_it_is term c) h = (h.0, pieces-ordered (suc n) c h.1)
pieces-ordered {P} n (in_pieces {pieces} before runs never c) h = all-both _ (map_pieces n before runs) pieces (on runs h.0.1) (pieces-ordered (suc n) c h.1)
  where
    on : (runs : List (Terms P)) → AreOrdered (all_parts runs) → AllByRecursion (λ x. IsOrdered x.term) (map_pieces n before runs)
    on [] k = tt
    on (ts ∷ runs) k = ((h.0.0, first-ordered ts (all_parts runs) k), on runs (second-ordered ts (all_parts runs) k))

abbrev ArePoints : Parts → Type 0
ArePoints Items = ⊥
ArePoints Points = ⊤

pieces-pools : {P : Type 0} (d n : ℕ) {items : Terms P} {pieces : List (Piece P)} → IsCut n items pieces → HaveOrderedPools d items → AllByRecursion (λ x. HasOrderedPools d x.term) pieces
pieces-pools d n no_items h = tt
pieces-pools d n (as_it_is term c) h = (h.0, pieces-pools d (suc n) c h.1)
pieces-pools {P} d n (in_pieces {pieces} before runs never c) h = all-both _ (map_pieces n before runs) pieces (on runs h.0.0) (pieces-pools d (suc n) c h.1)
  where
    on : (runs : List (Terms P)) → HaveOrderedPools d (all_parts runs) → AllByRecursion (λ x. HasOrderedPools d x.term) (map_pieces n before runs)
    on [] k = tt
    on (ts ∷ runs) k = ((first-pools d ts (all_parts runs) k, λ are. elim (subst ArePoints are tt) [ ]), on runs (second-pools d ts (all_parts runs) k))

-- ---- the cut

-- pieces of which neither is before the other
apart-at : {P : Type 0} (work : Work P) (items : Terms P) → IsCut 0 items work.pieces → AreSafe items →
    (i j : ℕ) → i < j → piece_before work i j ≡ false → (x y : Piece P) → slice_get work.pieces i ≡ Some x → slice_get work.pieces j ≡ Some y →
    ((a b : ℕ) × (a < b) × (work.before a b ≡ false) × ((touch : Touch) → Touches x.term touch → Touches (part_at items a) touch) × ((touch : Touch) → Touches y.term touch → Touches (part_at items b) touch))
    ⊎ AreClear x.term y.term
apart-at work items c safe i j less unordered x y p q = on (pairs-at work.pieces i j x y (cut-pairs 0 c safe) less p q)
  where
    of_x : IsOf 0 items x
    of_x = all-at _ work.pieces i x p (pieces-of 0 c)

    of_y : IsOf 0 items y
    of_y = all-at _ work.pieces j y q (pieces-of 0 c)

    not_before : work.before x.item y.item ≡ false
    not_before = sym (λ k. before_if work.before (p k) (q k)) ∙ unordered

    on : ArePair x y →
        ((a b : ℕ) × (a < b) × (work.before a b ≡ false) × ((touch : Touch) → Touches x.term touch → Touches (part_at items a) touch) × ((touch : Touch) → Touches y.term touch → Touches (part_at items b) touch))
        ⊎ AreClear x.term y.term
    on (inl earlier) = inl (
      of_x.0,
      of_y.0,
      (let e = of_x.1 in let f = of_y.1 in omega arith),
      (let e : of_x.0 ≡ x.item = (let e = of_x.1 in omega arith) in let f : of_y.0 ≡ y.item = (let f = of_y.1 in omega arith) in (λ k. work.before (e k) (f k)) ∙ not_before),
      of_x.2,
      of_y.2,
    )
    on (inr same) = inr same.1

parts-safe : {P : Type 0} (work : Work P) (items : Terms P) → IsCut 0 items work.pieces → AreSafe items → ArePartsSafe Items work.before items → ArePartsSafe Items (piece_before work) (terms_of work.pieces)
parts-safe {P} work items c safe h = record {
  compatible = λ i j less unordered touch other p q.
      let x = piece-at work.pieces i touch p in
      let y = piece-at work.pieces j other q in
      on touch other x.0 y.0 x.2 y.2 (apart-at work items c safe i j less unordered x.0 y.0 x.1 y.1);
  points = λ are. elim (subst ArePoints (sym are) tt) [ ];
}
  where
    on : (touch other : Touch) (x y : Piece P) → Touches x.term touch → Touches y.term other →
        ((a b : ℕ) × (a < b) × (work.before a b ≡ false) × ((touch : Touch) → Touches x.term touch → Touches (part_at items a) touch) × ((touch : Touch) → Touches y.term touch → Touches (part_at items b) touch))
        ⊎ AreClear x.term y.term → AreCompatible touch other
    on touch other x y p q (inl r) = h.compatible r.0 r.1 r.2 r.3 touch other (r.4 touch p) (r.5 other q)
    on touch other x y p q (inr clear) = clear.0 touch other p q

feeds-none : {P : Type 0} (work : Work P) (items : Terms P) → IsCut 0 items work.pieces → AreSafe items → ((i j : ℕ) → i < j → work.before i j ≡ false → DoesNotFeed (part_at items i) (part_at items j)) →
    (i j : ℕ) → i < j → piece_before work i j ≡ false → DoesNotFeed (part_at (terms_of work.pieces) i) (part_at (terms_of work.pieces) j)
feeds-none {P} work items c safe h i j less unordered l k p q =
    let x = piece-at work.pieces i (pushes l k) p in
    let y = piece-at work.pieces j (takes l k) q in
    on x.0 y.0 x.2 y.2 (apart-at work items c safe i j less unordered x.0 y.0 x.1 y.1)
  where
    on : (x y : Piece P) → Touches x.term (pushes l k) → Touches y.term (takes l k) →
        ((a b : ℕ) × (a < b) × (work.before a b ≡ false) × ((touch : Touch) → Touches x.term touch → Touches (part_at items a) touch) × ((touch : Touch) → Touches y.term touch → Touches (part_at items b) touch))
        ⊎ AreClear x.term y.term → ⊥
    on x y p q (inl r) = h r.0 r.1 r.2 r.3 l k (r.4 (pushes l k) p) (r.5 (takes l k) q)
    on x y p q (inr clear) = clear.1 l k p q

three : (j k : ℕ) → (j < k) ⊎ ((j ≡ k) ⊎ (k < j))
three zero zero = inr (inl refl)
three zero (suc k) = inl (omega arith)
three (suc j) zero = inr (inr (omega arith))
three (suc j) (suc k) = more (three j k)
  where
    more : (j < k) ⊎ ((j ≡ k) ⊎ (k < j)) → (suc j < suc k) ⊎ ((suc j ≡ suc k) ⊎ (suc k < suc j))
    more (inl h) = inl (omega arith)
    more (inr (inl e)) = inr (inl (ap suc e))
    more (inr (inr h)) = inr (inr (omega arith))

pieces-rise : {P : Type 0} (work : Work P) → ArePairs work.pieces → IsOrder work.before → (j k : ℕ) → piece_before work j k ≡ true → j < k
pieces-rise {P} work pairs order j k e = on (slice_get work.pieces j) (slice_get work.pieces k) refl refl e
  where
    not_later : (x y : Piece P) → ArePair y x → x.item < y.item → ⊥
    not_later x y (inl h) less = absurd (omega arith)
    not_later x y (inr h) less = let e = h.0 in absurd (omega arith)

    by_place : (x y : Piece P) → slice_get work.pieces j ≡ Some x → slice_get work.pieces k ≡ Some y → x.item < y.item → (j < k) ⊎ ((j ≡ k) ⊎ (k < j)) → j < k
    by_place x y p q less (inl h) = h
    by_place x y p q less (inr (inl same)) =
        let e : x ≡ y = some-is x y (sym p ∙ ap (slice_get work.pieces) same ∙ q) in
        let f : x.item ≡ y.item = ap (λ (z : Piece P). z.item) e in
        absurd (omega arith)
    by_place x y p q less (inr (inr h)) = elim (not_later x y (pairs-at work.pieces k j y x pairs h q p) less) [ ]

    on : (o p : Option (Piece P)) → slice_get work.pieces j ≡ o → slice_get work.pieces k ≡ p → before_if work.before o p ≡ true → j < k
    on None p a b e = cc
    on (Some x) None a b e = cc
    on (Some x) (Some y) a b e = by_place x y a b (order.rises x.item y.item e) (three j k)

pieces-order : {P : Type 0} (work : Work P) → ArePairs work.pieces → IsOrder work.before → IsOrder (piece_before work)
pieces-order {P} work pairs order = record {
  rises = pieces-rise work pairs order;
  passes = λ i j k. on (slice_get work.pieces i) (slice_get work.pieces j) (slice_get work.pieces k);
}
  where
    on : (o p q : Option (Piece P)) → before_if work.before o p ≡ true → before_if work.before p q ≡ true → before_if work.before o q ≡ true
    on None p q a b = a
    on (Some x) None q a b = cc
    on (Some x) (Some y) None a b = b
    on (Some x) (Some y) (Some z) a b = order.passes x.item y.item z.item a b

touches-items : {P : Type 0} (work : Work P) (items : Terms P) → IsCut 0 items work.pieces → (touch : Touch) → SomePartTouches (terms_of work.pieces) touch → SomePartTouches items touch
touches-items work items c touch h =
    let r = some-piece work.pieces touch h in
    let x = all-at _ work.pieces r.0 r.1 r.2 (pieces-of 0 c) in
    part-some items x.0 touch (x.2 touch r.3)

pub cut-interleaves : {P : Type 0} (work : Work P) (items : Terms P) (own : Memory) → IsCut 0 items work.pieces → MayInterleave (graph_of_items work.before items own) → MayInterleave (graph_of_pieces work own)
cut-interleaves work items own c may =
    let items_safe = may.safe.0.0 in
    let parts = may.safe.0.1 in
    let safe : IsSafe (list Items (piece_before work) (terms_of work.pieces)) = (each-safe work.pieces (pieces-safe 0 c items_safe), parts-safe work items c items_safe parts) in
    let ordered : IsOrdered (list Items (piece_before work) (terms_of work.pieces)) = (pieces-order work (cut-pairs 0 c items_safe) may.ordered.0.0, each-ordered work.pieces (pieces-ordered 0 c may.ordered.0.1)) in
    record {
      ordered = (ordered, λ state values. ordered);
      safe = (safe, λ state values. safe);
      inside = λ l k h. outside l k h;
    }
  where
    outside : TakesNothingOutside (graph_of_pieces work own)
    outside l k (inl h) = may.inside l k (inl (touches-items work items c (inner (takes l k)) h))
    outside l k (inr (inl h)) = may.inside l k (inr (inl (h.0, h.1, touches-items work items c (inner (takes l k)) h.2)))
    outside l k (inr (inr h)) = elim h.2 [ ]

pub cut-pools : {P : Type 0} (work : Work P) (items : Terms P) (own : Memory) (d : ℕ) → IsCut 0 items work.pieces → IsSafe (graph_of_items work.before items own) → HasOrderedPools d (graph_of_items work.before items own) →
    HasOrderedPools d (graph_of_pieces work own)
cut-pools work items own d c safe pools =
    let here : HasOrderedPools (suc d) (list Items (piece_before work) (terms_of work.pieces)) =
    (each-pools (suc d) work.pieces (pieces-pools (suc d) 0 c pools.0.0), λ are. feeds-none work items c safe.0.0 (pools.0.1 refl)) in
    (here, λ state values. here)
