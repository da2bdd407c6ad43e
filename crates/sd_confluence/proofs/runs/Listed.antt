-- The list of next moves holds exactly the places that are next.
use Rattle.std.proofs.Common.{◌≡◌, ℕ, zero, suc, ◌+◌, List, [], ◌∷◌, ◌++◌, Some, ℤ, Bool, true, false, cond, not, refl, sym, ◌∙◌, ap, subst, arith, slice_get}
use Rattle.std.specs.Bool.{⊤}
use Rattle.sd_work.specs.Memory.{Memories, waiting}
use Rattle.sd_work.specs.Leaf.{is_done}
use Rattle.sd_work.specs.Residual.{Term, leaf, list, owning, nested, ended, pool, Terms, none, also, Actives, idle, busy, finished, flags_of, is_ready}
use Rattle.sd_work.specs.Moves.{Path, here_if, moves_in, takes_from, moves, moves_of_parts, moves_of_active}
use Rattle.sd_work.proofs.Paths.{AllOf, all_more, all_append, all_in, all_if}
use Rattle.sd_confluence.proofs.image.Images.{IsNext, IsNextAt, IsNextIn, IsNextHere}

-- a place in the parts from number k on
abbrev NextFrom : {P : Type 0} → (ℕ → ℕ → Bool) → List Bool → ℕ → Terms P → Memories → Path → Type 0
NextFrom before flags k ts s path = (i : ℕ) × (p : Path) × (path ≡ (i + k) ∷ p) × (is_ready before flags (i + k) ≡ true) × IsNextAt ts i p s

-- a place in the active terms from number k on
abbrev ActiveFrom : {P : Type 0} → ℕ → Actives P → Memories → Path → Type 0
ActiveFrom k ts s path = (i : ℕ) × (p : Path) × (path ≡ (i + k) ∷ p) × IsNextIn ts i p s

-- a take of one of these values, the first of which has position k
abbrev TakeFrom : ℕ → List ℤ → Path → Type 0
TakeFrom k vs path = (i : ℕ) × (path ≡ 0 ∷ (i + k) ∷ []) × ((v : ℤ) × (slice_get vs i ≡ Some v))

all_takes : (k : ℕ) (vs : List ℤ) → AllOf (TakeFrom k vs) (takes_from k vs)
all_takes k [] = tt
all_takes k (v ∷ vs) =
    let here : k ≡ 0 + k = omega arith in (
      (0, ap (λ w. 0 ∷ w ∷ []) here, (v, refl)),
      all_more (TakeFrom (suc k) vs) (TakeFrom k (v ∷ vs)) (λ path c. let same : c.0 + suc k ≡ suc c.0 + k = omega arith in (suc c.0, c.1 ∙ ap (λ w. 0 ∷ w ∷ []) same, c.2)) (takes_from (suc k) vs) (all_takes (suc k) vs),
    )

nested_next : {P : Type 0} (part : Term P) (s : Memories) (b : Bool) (ps : List Path) → AllOf (λ p. IsNext part p s) ps → AllOf (λ p. IsNextHere b p (IsNext part p s)) (cond b ([] ∷ []) ps)
nested_next part s true ps a = (refl, tt)
nested_next part s false ps a = a

pool_next : {P : Type 0} (l c : ℕ) (body : ℤ → Term P) (active : Actives P) (closed : Bool) (s : Memories) → AllOf (ActiveFrom 0 active s) (moves_of_active 0 active s) →
    AllOf (λ p. IsNext (pool l c body active closed) p s) (cond closed [] (moves_in 1 (moves_of_active 0 active s) ++ takes_from 0 (waiting l c s)))
pool_next l c body active true s a = tt
pool_next {P} l c body active false s a =
    all_append next (moves_in 1 (moves_of_active 0 active s)) (takes_from 0 (waiting l c s))
    (all_in next 1 (moves_of_active 0 active s) (all_more (ActiveFrom 0 active s) (λ p. next (1 ∷ p)) in_work (moves_of_active 0 active s) a))
    (all_more (TakeFrom 0 (waiting l c s)) next taken (takes_from 0 (waiting l c s)) (all_takes 0 (waiting l c s)))
  where
    next : Path → Type 0
    next p = IsNext (pool l c body active false) p s

    in_work : (p : Path) → ActiveFrom 0 active s p → next (1 ∷ p)
    in_work p h = let same : h.0 ≡ h.0 + 0 = omega arith in subst (λ w. next (1 ∷ w)) (ap (λ k. k ∷ h.1) same ∙ sym h.2) (refl, h.3)

    taken : (p : Path) → TakeFrom 0 (waiting l c s) p → next p
    taken p h = let same : h.0 ≡ h.0 + 0 = omega arith in subst next (ap (λ k. 0 ∷ k ∷ []) same ∙ sym h.1) (refl, refl, h.2)

leaf_next : {P : Type 0} (place : P) (b : Bool) → (T : Path → Type 0) → (b ≡ false → T []) → AllOf T (here_if (not b))
leaf_next place true T h = tt
leaf_next place false T h = (h refl, tt)

mutual
  -- each listed move is next
  pub all-next : {P : Type 0} (t : Term P) (s : Memories) → AllOf (λ p. IsNext t p s) (moves t s)
  all-next (leaf place work) s = leaf_next place (is_done work) (λ p. IsNext (leaf place work) p s) (λ e. (e, refl))
  all-next (list kind before parts) s =
      all_more (NextFrom before (flags_of parts) 0 parts s) (λ p. IsNext (list kind before parts) p s)
      (λ path h. let same : h.0 ≡ h.0 + 0 = omega arith in
      subst (λ w. IsNext (list kind before parts) w s) (ap (λ k. k ∷ h.1) same ∙ sym h.2) (subst (λ k. is_ready before (flags_of parts) k ≡ true) (sym same) h.3, h.4))
      (moves_of_parts before (flags_of parts) 0 parts s) (all_parts before (flags_of parts) 0 parts s)
  all-next (owning own part) s = all-next part (own ∷ s)
  all-next (nested body exits own state values part) s = nested_next part (own ∷ s) (finished part) (moves part (own ∷ s)) (all-next part (own ∷ s))
  all-next (ended own) s = tt
  all-next (pool l c body active closed) s = pool_next l c body active closed s (all_active 0 active s)

  all_parts : {P : Type 0} (before : ℕ → ℕ → Bool) (flags : List Bool) (k : ℕ) (ts : Terms P) (s : Memories) → AllOf (NextFrom before flags k ts s) (moves_of_parts before flags k ts s)
  all_parts before flags k none s = tt
  all_parts before flags k (also t ts) s =
      all_append (NextFrom before flags k (also t ts) s) (cond (is_ready before flags k) (moves_in k (moves t s)) []) (moves_of_parts before flags (suc k) ts s)
      (all_if (NextFrom before flags k (also t ts) s) (is_ready before flags k) (moves_in k (moves t s)) (λ r.
      all_in (NextFrom before flags k (also t ts) s) k (moves t s)
      (all_more (λ p. IsNext t p s) (λ p. NextFrom before flags k (also t ts) s (k ∷ p))
      (λ p c. let same : k ≡ 0 + k = omega arith in (0, p, ap (λ w. w ∷ p) same, subst (λ w. is_ready before flags w ≡ true) same r, c)) (moves t s) (all-next t s))))
      (all_more (NextFrom before flags (suc k) ts s) (NextFrom before flags k (also t ts) s)
      (λ path h. let same : h.0 + suc k ≡ suc h.0 + k = omega arith in (suc h.0, h.1, h.2 ∙ ap (λ w. w ∷ h.1) same, subst (λ w. is_ready before flags w ≡ true) same h.3, h.4))
      (moves_of_parts before flags (suc k) ts s) (all_parts before flags (suc k) ts s))

  all_active : {P : Type 0} (k : ℕ) (ts : Actives P) (s : Memories) → AllOf (ActiveFrom k ts s) (moves_of_active k ts s)
  all_active k idle s = tt
  all_active k (busy v t ts) s =
      all_append (ActiveFrom k (busy v t ts) s) (moves_in k (moves t s)) (moves_of_active (suc k) ts s)
      (all_in (ActiveFrom k (busy v t ts) s) k (moves t s)
      (all_more (λ p. IsNext t p s) (λ p. ActiveFrom k (busy v t ts) s (k ∷ p)) (λ p c. let same : k ≡ 0 + k = omega arith in (0, p, ap (λ w. w ∷ p) same, c)) (moves t s) (all-next t s)))
      (all_more (ActiveFrom (suc k) ts s) (ActiveFrom k (busy v t ts) s) (λ path h. let same : h.0 + suc k ≡ suc h.0 + k = omega arith in (suc h.0, h.1, h.2 ∙ ap (λ w. w ∷ h.1) same, h.3))
      (moves_of_active (suc k) ts s) (all_active (suc k) ts s))

-- some path is listed
abbrev IsSome : List Path → Type 0
IsSome [] = ⊥
IsSome (p ∷ ps) = ⊤

some_left : (ps qs : List Path) → IsSome ps → IsSome (ps ++ qs)
some_left [] qs h = elim h [ ]
some_left (p ∷ ps) qs h = tt

some_right : (ps qs : List Path) → IsSome qs → IsSome (ps ++ qs)
some_right [] qs h = h
some_right (p ∷ ps) qs h = tt

some_in : (k : ℕ) (ps : List Path) → IsSome ps → IsSome (moves_in k ps)
some_in k [] h = elim h [ ]
some_in k (p ∷ ps) h = tt

some_if : (b : Bool) (ps : List Path) → b ≡ true → IsSome ps → IsSome (cond b ps [])
some_if true ps e h = h
some_if false ps e h = cc

some_takes : (k i : ℕ) (vs : List ℤ) (v : ℤ) → slice_get vs i ≡ Some v → IsSome (takes_from k vs)
some_takes k i [] v e = cc
some_takes k i (w ∷ vs) v e = tt

some_nested : (b : Bool) (p : Path) (C : Type 0) (ps : List Path) → (C → IsSome ps) → IsNextHere b p C → IsSome (cond b ([] ∷ []) ps)
some_nested true p C ps h c = tt
some_nested false p C ps h c = h c

some_pool : (closed : Bool) (ps : List Path) → closed ≡ false → IsSome ps → IsSome (cond closed [] ps)
some_pool true ps e h = cc
some_pool false ps e h = h

mutual
  -- where a place is next, a move is listed
  some_next : {P : Type 0} (t : Term P) (p : Path) (s : Memories) → IsNext t p s → IsSome (moves t s)
  some_next (leaf place work) p s c = subst (λ b. IsSome (here_if (not b))) (sym c.0) tt
  some_next (list kind before parts) [] s c = elim c [ ]
  some_next (list kind before parts) (k ∷ p) s c =
      let same : k ≡ 0 + k = omega arith in
      some_parts before (flags_of parts) 0 parts k p s (subst (λ w. is_ready before (flags_of parts) w ≡ true) same c.0) c.1
  some_next (owning own part) p s c = some_next part p (own ∷ s) c
  some_next (nested body exits own state values part) p s c = some_nested (finished part) p (IsNext part p (own ∷ s)) (moves part (own ∷ s)) (λ d. some_next part p (own ∷ s) d) c
  some_next (ended own) p s c = elim c [ ]
  some_next (pool l c body active closed) [] s d = elim d [ ]
  some_next (pool l c body active closed) (zero ∷ []) s d = elim d [ ]
  some_next (pool l c body active closed) (zero ∷ k ∷ p) s d =
      some_pool closed (moves_in 1 (moves_of_active 0 active s) ++ takes_from 0 (waiting l c s)) d.0
      (some_right (moves_in 1 (moves_of_active 0 active s)) (takes_from 0 (waiting l c s)) (some_takes 0 k (waiting l c s) d.2.0 d.2.1))
  some_next (pool l c body active closed) (suc zero ∷ []) s d = elim d [ ]
  some_next (pool l c body active closed) (suc zero ∷ k ∷ p) s d =
      some_pool closed (moves_in 1 (moves_of_active 0 active s) ++ takes_from 0 (waiting l c s)) d.0
      (some_left (moves_in 1 (moves_of_active 0 active s)) (takes_from 0 (waiting l c s)) (some_in 1 (moves_of_active 0 active s) (some_active 0 active k p s d.1)))
  some_next (pool l c body active closed) (suc (suc j) ∷ p) s d = elim d [ ]

  some_parts : {P : Type 0} (before : ℕ → ℕ → Bool) (flags : List Bool) (j : ℕ) (ts : Terms P) (k : ℕ) (p : Path) (s : Memories) → is_ready before flags (j + k) ≡ true → IsNextAt ts k p s → IsSome (moves_of_parts before flags j ts s)
  some_parts before flags j none k p s r c = elim c [ ]
  some_parts before flags j (also t ts) zero p s r c =
      let same : j + 0 ≡ j = omega arith in
      some_left (cond (is_ready before flags j) (moves_in j (moves t s)) []) (moves_of_parts before flags (suc j) ts s)
      (some_if (is_ready before flags j) (moves_in j (moves t s)) (subst (λ w. is_ready before flags w ≡ true) same r) (some_in j (moves t s) (some_next t p s c)))
  some_parts before flags j (also t ts) (suc k) p s r c =
      let same : j + suc k ≡ suc j + k = omega arith in
      some_right (cond (is_ready before flags j) (moves_in j (moves t s)) []) (moves_of_parts before flags (suc j) ts s)
      (some_parts before flags (suc j) ts k p s (subst (λ w. is_ready before flags w ≡ true) same r) c)

  some_active : {P : Type 0} (j : ℕ) (ts : Actives P) (k : ℕ) (p : Path) (s : Memories) → IsNextIn ts k p s → IsSome (moves_of_active j ts s)
  some_active j idle k p s c = elim c [ ]
  some_active j (busy v t ts) zero p s c = some_left (moves_in j (moves t s)) (moves_of_active (suc j) ts s) (some_in j (moves t s) (some_next t p s c))
  some_active j (busy v t ts) (suc k) p s c = some_right (moves_in j (moves t s)) (moves_of_active (suc j) ts s) (some_active (suc j) ts k p s c)

-- where no move is listed, none is next
pub none-next : {P : Type 0} (t : Term P) (p : Path) (s : Memories) → moves t s ≡ [] → IsNext t p s → ⊥
none-next t p s e c = subst IsSome e (some_next t p s c)
