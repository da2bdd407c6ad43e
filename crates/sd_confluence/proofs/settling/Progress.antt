-- A settled term has a move wherever its image has one, and settling leaves a settled term.
use Rattle.std.proofs.Common.{◌≡◌, ℕ, zero, suc, ◌+◌, ◌<◌, List, [], ◌∷◌, ◌++◌, map, length, Some, ℤ, Bool, true, false, cond, not, ◌&&◌, ◌||◌, refl, sym, ◌∙◌, ap, subst, arith, inl, inr, slice_get, slice_index_or}
use Rattle.std.specs.Bool.{⊤}
use Rattle.std.proofs.lemmas.List.{append_assoc}
use Rattle.sd_work.specs.Memory.{Memories, waiting}
use Rattle.sd_work.specs.Residual.{Parts, Points, Term, leaf, list, owning, nested, ended, pool, Terms, none, also, part_at, Actives, idle, busy, finished, none_active, flags_of, is_ready, ready_from}
use Rattle.sd_work.specs.Moves.{Path}
use Rattle.sd_work.specs.Settle.{is_empty, is_first_left, settle, settle_parts, settle_active}
use Rattle.sd_work.specs.Touch.{takes, SomePartTouches, SomeActiveTouches}
use Rattle.sd_work.proofs.Flags.{both}
use Rattle.sd_work.proofs.left_to_right.Fronts.{longer}
use Rattle.std.specs.Ordering.{int_eq}
use Rattle.sd_confluence.specs.Alike.{how_often}
use Rattle.sd_confluence.specs.Safe.{TakesNothingOutside}
use Rattle.sd_confluence.proofs.bags.Values.{same-refl}
use Rattle.sd_confluence.proofs.bags.Works.{Works, and_work, is_over, all_over, Route, part_number, taking, acting, closing, Can, CanAt, CanHere}
use Rattle.sd_confluence.proofs.image.Images.{stack_of, work_of, works_of, active_of, IsNext, IsNextAt, IsNextIn, IsNextHere}
use Rattle.sd_confluence.proofs.image.Link.{finished_is, flags_is}
use Rattle.sd_confluence.proofs.image.NextLinked.{held_image}
use Rattle.sd_confluence.proofs.settling.Waits.{Clear, Waits, AllWait, ActiveWait, clear_part, clear_inside}

-- no pool is left to be closed in what may go on
abbrev mutual
  pub Settled : {P : Type 0} → Term P → Memories → Type 0
  Settled (leaf place work) s = ⊤
  Settled (list kind before parts) s = SettledFrom before (flags_of parts) 0 parts s
  Settled (owning own part) s = Settled part (own ∷ s)
  Settled (nested body exits own state values part) s = Settled part (own ∷ s)
  Settled (ended own) s = ⊤
  Settled (pool level container body active true) s = ⊤
  Settled (pool level container body active false) s = SettledIn active s × ((none_active active && is_empty (waiting level container s)) ≡ false)

  -- the parts that may go on, from number j on
  pub SettledFrom : {P : Type 0} → (ℕ → ℕ → Bool) → (flags : List Bool) → (j : ℕ) → Terms P → Memories → Type 0
  SettledFrom before flags j none s = ⊤
  SettledFrom before flags j (also part parts) s = (is_ready before flags j ≡ true → Settled part s) × SettledFrom before flags (suc j) parts s

  pub SettledIn : {P : Type 0} → Actives P → Memories → Type 0
  SettledIn idle s = ⊤
  SettledIn (busy value part active) s = Settled part s × SettledIn active s

count_none : (vs : List ℤ) → ((v : ℤ) → how_often vs v ≡ 0) → is_empty vs ≡ true
count_none [] h = refl
count_none (x ∷ vs) h =
    let e : cond (int_eq x x) (suc (how_often vs x)) (how_often vs x) ≡ 0 = h x in
    let f : suc (how_often vs x) ≡ 0 = ap (λ b. cond b (suc (how_often vs x)) (how_often vs x)) (sym (same-refl x)) ∙ e in cc

first_value : (vs : List ℤ) (v : ℤ) (n : ℕ) → how_often vs v ≡ suc n → (w : ℤ) × (slice_get vs 0 ≡ Some w)
first_value [] v n e = cc
first_value (x ∷ vs) v n e = (x, refl)

all_done : {P : Type 0} (active : Actives P) → ((w : ℤ) → all_over (active_of active w) ≡ true) → none_active active ≡ true
all_done idle h = refl
all_done {P} (busy v t ts) h = λ i. (finished_is t ∙ here.0) i && all_done ts rest i
  where
    here : (is_over (work_of t) ≡ true) × (all_over (active_of ts v) ≡ true)
    here = both (is_over (work_of t)) (all_over (active_of ts v)) (ap (λ b. all_over (cond b (and_work (work_of t) (active_of ts v)) (active_of ts v))) (sym (same-refl v)) ∙ h v)

    part : (b : Bool) (us : Works P) → all_over (cond b (and_work (work_of t) us) us) ≡ true → all_over us ≡ true
    part true us e = (both (is_over (work_of t)) (all_over us) e).1
    part false us e = e

    rest : (w : ℤ) → all_over (active_of ts w) ≡ true
    rest w = part (int_eq v w) (active_of ts w) (h w)

here_moves : {P : Type 0} (b c : Bool) → b ≡ c → (q : Route) (C : Type 0) (t : Term P) (s : Memories) → (C → (p : Path) × IsNext t p s) → CanHere c q C → (p : Path) × IsNextHere b p (IsNext t p s)
here_moves true true e q C t s f h = ([], refl)
here_moves true false e q C t s f h = cc
here_moves false true e q C t s f h = cc
here_moves false false e q C t s f h = f h

pool_moves : {P : Type 0} (l c : ℕ) (body : ℤ → Term P) (active : Actives P) (closed : Bool) (s : Memories) (q : Route) → Settled (pool l c body active closed) s →
    ((v : ℤ) (i : ℕ) (r : Route) → SettledIn active s → CanAt (active_of active v) i r (stack_of s) → (k : ℕ) × (p : Path) × IsNextIn active k p s) →
    Can (work_of (pool l c body active closed)) q (stack_of s) → (p : Path) × IsNext (pool l c body active closed) p s
pool_moves l c body active closed s [] z h d = elim d [ ]
pool_moves l c body active closed s (part_number k ∷ q) z h d = elim d [ ]
pool_moves l c body active closed s (taking v ∷ q) z h d =
    let w = first_value (waiting l c s) v d.2.0 (sym (held_image l c v s) ∙ d.2.1) in (0 ∷ 0 ∷ [], (d.0, refl, (w.0, w.1)))
pool_moves l c body active true s (acting v i ∷ q) z h d = let bad : true ≡ false = d.0 in cc
pool_moves l c body active false s (acting v i ∷ q) z h d = let r = h v i q z.0 d.1 in (1 ∷ r.0 ∷ r.1, (refl, r.2))
pool_moves l c body active true s (closing ∷ q) z h d = let bad : true ≡ false = d.0 in cc
pool_moves l c body active false s (closing ∷ q) z h d =
    let a : none_active active ≡ true = all_done active d.2 in
    let b : is_empty (waiting l c s) ≡ true = count_none (waiting l c s) (λ v. sym (held_image l c v s) ∙ d.3 v) in
    let bad : true ≡ false = (λ i. sym a i && sym b i) ∙ z.1 in cc

in_moves : {P : Type 0} (b : Bool) (t : Term P) (ts : Actives P) (v w : ℤ) (i : ℕ) (q : Route) (s : Memories) → CanAt (cond b (and_work (work_of t) (active_of ts w)) (active_of ts w)) i q (stack_of s) →
    (Can (work_of t) q (stack_of s) → (p : Path) × IsNext t p s) → ((j : ℕ) → CanAt (active_of ts w) j q (stack_of s) → (k : ℕ) × (p : Path) × IsNextIn ts k p s) → (k : ℕ) × (p : Path) × IsNextIn (busy v t ts) k p s
in_moves true t ts v w zero q s c f g = let r = f c in (0, r.0, r.1)
in_moves true t ts v w (suc i) q s c f g = let r = g i c in (suc r.0, r.1, r.2)
in_moves false t ts v w i q s c f g = let r = g i c in (suc r.0, r.1, r.2)

mutual
  -- where the image of a settled term can move, so can the term
  pub progress : {P : Type 0} (t : Term P) (q : Route) (s : Memories) → Settled t s → Can (work_of t) q (stack_of s) → (p : Path) × IsNext t p s
  progress (leaf place work) q s z c = ([], (c.0, refl))
  progress (list kind before parts) [] s z c = elim c [ ]
  progress (list kind before parts) (part_number k ∷ q) s z c =
      let r : is_ready before (flags_of parts) k ≡ true = subst (λ bs. is_ready before bs k ≡ true) (sym (flags_is parts)) c.0 in
      let h = progress_at before (flags_of parts) 0 parts k q s z (subst (λ w. is_ready before (flags_of parts) w ≡ true) (omega arith) r) c.1 in
      (k ∷ h.0, (r, h.1))
  progress (list kind before parts) (taking v ∷ q) s z c = elim c [ ]
  progress (list kind before parts) (acting v i ∷ q) s z c = elim c [ ]
  progress (list kind before parts) (closing ∷ q) s z c = elim c [ ]
  progress (owning own t) q s z c = progress t q (own ∷ s) z c
  progress (nested body exits own state values t) q s z c =
      here_moves (finished t) (is_over (work_of t)) (finished_is t) q (Can (work_of t) q (stack_of (own ∷ s))) t (own ∷ s) (λ d. progress t q (own ∷ s) z d) c
  progress (ended own) q s z c = elim c [ ]
  progress (pool l c body active closed) q s z d = pool_moves l c body active closed s q z (λ v i r y a. progress_in active v i r s y a) d

  progress_at : {P : Type 0} (before : ℕ → ℕ → Bool) (bs : List Bool) (j : ℕ) (ts : Terms P) (k : ℕ) (q : Route) (s : Memories) → SettledFrom before bs j ts s → is_ready before bs (j + k) ≡ true → CanAt (works_of ts) k q (stack_of s) → (p : Path) × IsNextAt ts k p s
  progress_at before bs j none k q s z r c = elim c [ ]
  progress_at before bs j (also t ts) zero q s z r c = let same : j + 0 ≡ j = omega arith in progress t q s (z.0 (subst (λ w. is_ready before bs w ≡ true) same r)) c
  progress_at before bs j (also t ts) (suc k) q s z r c = let same : j + suc k ≡ suc j + k = omega arith in progress_at before bs (suc j) ts k q s z.1 (subst (λ w. is_ready before bs w ≡ true) same r) c

  progress_in : {P : Type 0} (ts : Actives P) (v : ℤ) (i : ℕ) (q : Route) (s : Memories) → SettledIn ts s → CanAt (active_of ts v) i q (stack_of s) → (k : ℕ) × (p : Path) × IsNextIn ts k p s
  progress_in idle v i q s z c = elim c [ ]
  progress_in (busy x t ts) v i q s z c = in_moves (int_eq x v) t ts x v i q s c (λ d. progress t q s z.0 d) (λ j d. progress_in ts v j q s z.1 d)

ready_front : (before : ℕ → ℕ → Bool) (j : ℕ) (bs cs : List Bool) (k : ℕ) → ready_from before j (bs ++ cs) k ≡ true → ready_from before j bs k ≡ true
ready_front before j [] cs k e = refl
ready_front before j (b ∷ bs) cs k e =
    let h = both (b || not (before j k)) (ready_from before (suc j) (bs ++ cs) k) e in
    let r = ready_front before (suc j) bs cs k h.1 in λ i. h.0 i && r i

zero_plus : (j : ℕ) → j ≡ 0 + j
zero_plus j = omega arith

plus_zero : (k : ℕ) → k + 0 ≡ k
plus_zero k = omega arith

plus_suc : (k j : ℕ) → k + suc j ≡ suc k + j
plus_suc k j = omega arith

-- a pool that is closed where no active term is left over an empty stream that is cleared
pool_settled : {P : Type 0} (l c : ℕ) (body : ℤ → Term P) (active : Actives P) (s : Memories) → SettledIn active s → (closed clear : Bool) → clear ≡ true →
    Settled (pool l c body active (closed || (none_active active && (is_empty (waiting l c s) && clear)))) s
pool_settled {P} l c body active s h closed clear e = go closed (none_active active) (is_empty (waiting l c s)) clear refl refl e
  where
    go : (x a b d : Bool) → none_active active ≡ a → is_empty (waiting l c s) ≡ b → d ≡ true → Settled (pool l c body active (x || (a && (b && d)))) s
    go true a b d p q e = tt
    go false false b d p q e = (h, ap (λ m. m && is_empty (waiting l c s)) p)
    go false true false d p q e = (h, λ i. p i && q i)
    go false true true true p q e = tt
    go false true true false p q e = cc

mutual
  -- settling leaves a settled term, where no later point takes from outside and the streams from which it takes are cleared
  pub settled-by : {P : Type 0} (t : Term P) (cleared : List Bool) (s : Memories) → Waits t → Clear t cleared → Settled (settle true cleared s t) s
  settled-by (leaf place work) cleared s w c = tt
  settled-by (list kind before parts) cleared s w c =
      settled_from cleared s kind before (flags_of (settle_parts true cleared s kind before [] 0 parts)) [] 0 parts refl refl w.0 (λ e i j a b. w.1 e i j (omega (arith, a)) (ap (before i) (zero_plus j) ∙ b)) c
  settled-by (owning own part) cleared s w c = settled-by part (true ∷ cleared) (own ∷ s) w (clear_inside part cleared (λ l d h. c l d h))
  settled-by (nested body exits own state values part) cleared s w c = settled-by part (true ∷ cleared) (own ∷ s) w.0 (clear_inside part cleared (λ l d h. c l d (inl h)))
  settled-by (ended own) cleared s w c = tt
  settled-by (pool level container body active closed) cleared s w c =
      pool_settled level container body (settle_active true cleared s active) s (settled_in active cleared s w.0 (λ l d h. c l d (inr (inl h)))) closed (slice_index_or cleared level false) (c level container (inl refl))

  -- the flags are those of the parts before number k
  settled_from : {P : Type 0} (cleared : List Bool) (s : Memories) (kind : Parts) (before : ℕ → ℕ → Bool) (all bs : List Bool) (k : ℕ) (ts : Terms P) → length bs ≡ k →
      all ≡ bs ++ flags_of (settle_parts true cleared s kind before bs k ts) → AllWait ts →
      (kind ≡ Points → (i j : ℕ) → i < k + j → before i (k + j) ≡ false → TakesNothingOutside (part_at ts j)) →
      ((l d : ℕ) → SomePartTouches ts (takes l d) → slice_index_or cleared l false ≡ true) →
      SettledFrom before all k (settle_parts true cleared s kind before bs k ts) s
  settled_from cleared s kind before all bs k none n e w o c = tt
  settled_from {P} cleared s kind before all bs k (also t ts) n e w o c =
      let x : Term P = settle (is_ready before bs k) (map (λ flag. is_first_left kind bs && flag) cleared) s t in
      let here : is_ready before bs k ≡ true → Settled (settle true (map (λ flag. is_first_left kind bs && flag) cleared) s t) s =
      λ r. settled-by t (map (λ flag. is_first_left kind bs && flag) cleared) s w.0
      (clear_part kind before bs k t cleared n r (λ p i a b. o p i 0 (omega (arith, a)) (ap (before i) (plus_zero k) ∙ b)) (λ l d h. c l d (inl h))) in (
        (λ r.
            let r' : is_ready before bs k ≡ true = ready_front before 0 bs (finished x ∷ flags_of (settle_parts true cleared s kind before (bs ++ finished x ∷ []) (suc k) ts)) k (subst (λ cs. is_ready before cs k ≡ true) e r) in
            subst (λ b. Settled (settle b (map (λ flag. is_first_left kind bs && flag) cleared) s t) s) (sym r') (here r')),
        settled_from cleared s kind before all (bs ++ finished x ∷ []) (suc k) ts (longer bs (finished x) ∙ ap suc n)
            (e ∙ sym (append_assoc bs (finished x ∷ []) (flags_of (settle_parts true cleared s kind before (bs ++ finished x ∷ []) (suc k) ts)))) w.1
            (λ p i j a b. o p i (suc j) (omega (arith, a)) (ap (before i) (plus_suc k j) ∙ b)) (λ l d h. c l d (inr h)),
      )

  settled_in : {P : Type 0} (ts : Actives P) (cleared : List Bool) (s : Memories) → ActiveWait ts → ((l d : ℕ) → SomeActiveTouches ts (takes l d) → slice_index_or cleared l false ≡ true) → SettledIn (settle_active true cleared s ts) s
  settled_in idle cleared s w c = tt
  settled_in (busy v t ts) cleared s w c = (settled-by t cleared s w.0 (λ l d h. c l d (inl h)), settled_in ts cleared s w.1 (λ l d h. c l d (inr h)))
