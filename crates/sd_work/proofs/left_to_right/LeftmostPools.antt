-- The leftmost moves of a pool: those of its last active term, and the takes of the oldest values.
use Rattle.std.proofs.Common.{◌≡◌, ℕ, zero, suc, ◌+◌, ◌<◌, ◌≤◌, ℤ, List, [], ◌∷◌, ◌++◌, length, Some, None, Bool, true, false, ◌&&◌, slice_get, slice_index_or, refl, sym, ◌∙◌, ap, subst, arith}
use Rattle.sd_work.specs.Memory.{Memories, waiting}
use Rattle.sd_work.specs.Change.{take, apply}
use Rattle.sd_work.specs.Move.{goes, map_move}
use Rattle.sd_work.specs.Residual.{Term, pool, Actives, idle, busy, finished, none_active}
use Rattle.sd_work.specs.Moves.{Path, moves_in, takes_from, moves, moves_of_active}
use Rattle.sd_work.specs.Fire.{and_last, take_move, fire, fire_active}
use Rattle.sd_work.specs.Settle.{is_empty, settle, settle_active}
use Rattle.sd_work.specs.Step.{Outcome, Faulted, Spent, Done}
use Rattle.sd_work.specs.BigStep.{Reached, Coming, and_then, after_oldest, big_takes}
use Rattle.sd_work.proofs.Absorbing.{stay_active}
use Rattle.sd_work.proofs.Finished.{moves-finished}
use Rattle.sd_work.proofs.left_to_right.Fronts.{length_apply}
use Rattle.sd_work.proofs.left_to_right.Leads.{clear, front, Feeds, Leads, FailsBy, FailsNow, Stops, Agrees}
use Rattle.sd_work.proofs.left_to_right.LeftmostLists.{leads_length, agrees_then, agrees_less, fails_map, map_twice, unfinished_of}
use Rattle.sd_work.proofs.Flags.{both, both_true, and_false}

-- active terms, and then others
abbrev pub ◌⊞◌ : {P : Type 0} → Actives P → Actives P → Actives P
◌⊞◌ idle b = b
◌⊞◌ (busy v t a) b = busy v t (◌⊞◌ a b)

-- how many they are
abbrev pub count_active : {P : Type 0} → Actives P → ℕ
count_active idle = 0
count_active (busy v t a) = suc (count_active a)

-- one active term more before the others
pub join_assoc : {P : Type 0} (a : Actives P) (v : ℤ) (t : Term P) (b : Actives P) → ◌⊞◌ (◌⊞◌ a (busy v t idle)) b ≡ ◌⊞◌ a (busy v t b)
join_assoc idle v t b = refl
join_assoc (busy w q a) v t b = ap (busy w q) (join_assoc a v t b)

-- active terms, and then no others
pub join_idle : {P : Type 0} (a : Actives P) → ◌⊞◌ a idle ≡ a
join_idle idle = refl
join_idle (busy v t a) = ap (busy v t) (join_idle a)

-- one finished active term more
pub join_finished : {P : Type 0} (a : Actives P) (v : ℤ) (t : Term P) → none_active a ≡ true → finished t ≡ true → none_active (◌⊞◌ a (busy v t idle)) ≡ true
join_finished idle v t e f = both_true (finished t) true f refl
join_finished (busy w q a) v t e f = let h = both (finished q) (none_active a) e in both_true (finished q) (none_active (◌⊞◌ a (busy v t idle))) h.0 (join_finished a v t h.1 f)

join_unfinished : {P : Type 0} (a : Actives P) (v : ℤ) (t : Term P) → finished t ≡ false → none_active (◌⊞◌ a (busy v t idle)) ≡ false
join_unfinished idle v t e = ap (λ b. b && true) e
join_unfinished (busy w q a) v t e = and_false (finished q) (none_active (◌⊞◌ a (busy v t idle))) (join_unfinished a v t e)

settled_join : {P : Type 0} (cl : List Bool) (s : Memories) (a b : Actives P) → settle_active true cl s (◌⊞◌ a b) ≡ ◌⊞◌ (settle_active true cl s a) (settle_active true cl s b)
settled_join cl s idle b = refl
settled_join cl s (busy v t a) b = ap (busy v (settle true cl s t)) (settled_join cl s a b)

last_joined : {P : Type 0} (a : Actives P) (v : ℤ) (t : Term P) → and_last a v t ≡ ◌⊞◌ a (busy v t idle)
last_joined idle v t = refl
last_joined (busy w q a) v t = ap (busy w q) (last_joined a v t)

-- finished active terms in front have no moves
active_moves : {P : Type 0} (n : ℕ) (a b : Actives P) (s : Memories) → none_active a ≡ true → moves_of_active n (◌⊞◌ a b) s ≡ moves_of_active (n + count_active a) b s
active_moves n idle b s e = let same : n ≡ n + 0 = omega arith in ap (λ k. moves_of_active k b s) same
active_moves n (busy v t a) b s e =
    let h = both (finished t) (none_active a) e in
    let same : suc n + count_active a ≡ n + suc (count_active a) = omega arith in
    ap (λ ps. moves_in n ps ++ moves_of_active (suc n) (◌⊞◌ a b) s) (moves-finished t s h.0)
    ∙ active_moves (suc n) a b s h.1 ∙ ap (λ k. moves_of_active k b s) same

active_fire : {P : Type 0} (a : Actives P) (v : ℤ) (t : Term P) (p : Path) (s : Memories) → fire_active (◌⊞◌ a (busy v t idle)) (count_active a) p s ≡ map_move (λ x. ◌⊞◌ a (busy v x idle)) (fire t p s)
active_fire idle v t p s = refl
active_fire (busy w q a) v t p s = ap (map_move (busy w q)) (active_fire a v t p s) ∙ map_twice (busy w q) (λ x. ◌⊞◌ a (busy v x idle)) (fire t p s)

pub clear_at : (l : ℕ) (s : Memories) → l < length s → slice_index_or (clear s) l false ≡ true
clear_at l [] h = let no : ⊥ = omega arith in elim no [ ]
clear_at zero (m ∷ s) h = refl
clear_at (suc l) (m ∷ s) h = clear_at l s (omega arith)

-- a pool, open as long as it is not settled
module _ {P : Type 0} (W : Feeds) (l c : ℕ) (body : ℤ → Term P) where
  -- a pool with these active terms is finished for good
  abbrev over : Memories → Actives P → Bool
  over s a = none_active a && (is_empty (waiting l c s) && slice_index_or (clear s) l false)

  abbrev ahead : Memories → Actives P → Actives P
  ahead s a = settle_active true (clear s) s a

  pool_front : (s : Memories) (a : Actives P) (v : ℤ) (t : Term P) →
      front s (pool l c body (◌⊞◌ a (busy v t idle)) false) ≡ pool l c body (◌⊞◌ (ahead s a) (busy v (front s t) idle)) (over s (◌⊞◌ (ahead s a) (busy v (front s t) idle)))
  pool_front s a v t = ap (λ i. pool l c body i (over s i)) (settled_join (clear s) s a (busy v t idle))

  pool_down : (s : Memories) (a : Actives P) (v : ℤ) (t : Term P) (p : Path) (ps : List Path) → moves (front s t) s ≡ p ∷ ps →
      front s (pool l c body (◌⊞◌ a (busy v t idle)) false) ≡ pool l c body (◌⊞◌ (ahead s a) (busy v (front s t) idle)) false
  pool_down s a v t p ps q =
      pool_front s a v t
      ∙ ap (λ b. pool l c body (◌⊞◌ (ahead s a) (busy v (front s t) idle)) (b && (is_empty (waiting l c s) && slice_index_or (clear s) l false)))
      (join_unfinished (ahead s a) v (front s t) (unfinished_of (front s t) s p ps q))

  pool_moves : (a : Actives P) → none_active a ≡ true → (v : ℤ) (t : Term P) (p : Path) (ps : List Path) (s : Memories) → moves (front s t) s ≡ p ∷ ps →
      (qs : List Path) × (moves (front s (pool l c body (◌⊞◌ a (busy v t idle)) false)) s ≡ (1 ∷ count_active (ahead s a) ∷ p) ∷ qs)
  pool_moves a e v t p ps s q =
      let z : 0 + count_active (ahead s a) ≡ count_active (ahead s a) = omega arith in
      let e' : none_active (ahead s a) ≡ true = stay_active true (clear s) s a e in (
        moves_in 1 (moves_in (count_active (ahead s a)) ps ++ []) ++ takes_from 0 (waiting l c s),
        ap (λ w. moves w s) (pool_down s a v t p ps q)
            ∙ ap (λ ps. moves_in 1 ps ++ takes_from 0 (waiting l c s)) (active_moves 0 (ahead s a) (busy v (front s t) idle) s e')
            ∙ (λ i. moves_in 1 (moves_in (z i) (q i) ++ []) ++ takes_from 0 (waiting l c s)),
      )

  pool_fire : (a : Actives P) (v : ℤ) (t : Term P) (p : Path) (ps : List Path) (s : Memories) → moves (front s t) s ≡ p ∷ ps →
      fire (front s (pool l c body (◌⊞◌ a (busy v t idle)) false)) (1 ∷ count_active (ahead s a) ∷ p) s ≡ map_move (λ x. pool l c body (◌⊞◌ (ahead s a) (busy v x idle)) false) (fire (front s t) p s)
  pool_fire a v t p ps s q =
      ap (λ w. fire w (1 ∷ count_active (ahead s a) ∷ p) s) (pool_down s a v t p ps q)
      ∙ ap (map_move (λ left. pool l c body left false)) (active_fire (ahead s a) v (front s t) p s)
      ∙ map_twice (λ left. pool l c body left false) (λ x. ◌⊞◌ (ahead s a) (busy v x idle)) (fire (front s t) p s)

  pool_alike : (s : Memories) (a : Actives P) (v : ℤ) (y x : Term P) → front s y ≡ front s x → front s (pool l c body (◌⊞◌ a (busy v y idle)) false) ≡ front s (pool l c body (◌⊞◌ a (busy v x idle)) false)
  pool_alike s a v y x e =
      pool_front s a v y
      ∙ ap (λ w. pool l c body (◌⊞◌ (ahead s a) (busy v w idle)) (over s (◌⊞◌ (ahead s a) (busy v w idle)))) e
      ∙ sym (pool_front s a v x)

  -- moves of the last active term are moves of the pool
  pool_leads : (k : ℕ) (a : Actives P) → none_active a ≡ true → (v : ℤ) (t : Term P) (s : Memories) (n : ℕ) (t' : Term P) (s' : Memories) (n' : ℕ) → Leads W k t s n t' s' n' →
      (b : Actives P) × (none_active b ≡ true) × Leads W k (pool l c body (◌⊞◌ a (busy v t idle)) false) s n (pool l c body (◌⊞◌ b (busy v t' idle)) false) s' n'
  pool_leads zero a e v t s n t' s' n' h = (a, e, (pool_alike s a v t t' h.0, h.1, h.2))
  pool_leads (suc k) a e v t s n t' s' n' h =
      let m = pool_moves a e v t h.0 h.1 s h.7 in
      let later : (b : Actives P) × (none_active b ≡ true) × Leads W k (pool l c body (◌⊞◌ (ahead s a) (busy v h.5 idle)) false) (apply h.3 s) h.6 (pool l c body (◌⊞◌ b (busy v t' idle)) false) s' n' =
      pool_leads k (ahead s a) (stay_active true (clear s) s a e) v h.5 (apply h.3 s) h.6 t' s' n' h.12 in (
        later.0,
        later.1,
        (
          1 ∷ count_active (ahead s a) ∷ h.0,
          m.0,
          h.2,
          h.3,
          pool l c body (◌⊞◌ (ahead s a) (busy v h.4 idle)) false,
          pool l c body (◌⊞◌ (ahead s a) (busy v h.5 idle)) false,
          h.6,
          m.1,
          pool_fire a v t h.0 h.1 s h.7 ∙ ap (map_move (λ x. pool l c body (◌⊞◌ (ahead s a) (busy v x idle)) false)) h.8,
          pool_alike (apply h.3 s) (ahead s a) v h.4 h.5 h.9,
          h.10,
          h.11,
          later.2,
        ),
      )

  pool_stops : (a : Actives P) → none_active a ≡ true → (v : ℤ) (t : Term P) (s : Memories) (n : ℕ) (z : Outcome P Reached) → Stops W t s n z → Stops W (pool l c body (◌⊞◌ a (busy v t idle)) false) s n z
  pool_stops a e v t s n z h =
      let b = pool_leads h.0 a e v t s n h.1 h.2 h.3 h.4 in
      let f : FailsNow h.1 h.2 h.3 z = h.5 in
      let m = pool_moves b.0 b.1 v h.1 f.0 f.1 h.2 f.2 in
      let g : FailsNow (pool l c body (◌⊞◌ b.0 (busy v h.1 idle)) false) h.2 h.3 z = (
        1 ∷ count_active (ahead h.2 b.0) ∷ f.0,
        m.0,
        m.1,
        subst (λ w. FailsBy w h.3 z) (sym (pool_fire b.0 v h.1 f.0 f.1 h.2 f.2)) (fails_map (λ x. pool l c body (◌⊞◌ (ahead h.2 b.0) (busy v x idle)) false) (fire (front h.2 h.1) f.0 h.2) h.3 z f.3),
      ) in
      (h.0, pool l c body (◌⊞◌ b.0 (busy v h.1 idle)) false, h.2, h.3, b.2, g)

  -- a pool whose last active term agrees
  pub pool_agrees : (d : ℕ) (a : Actives P) → none_active a ≡ true → (v : ℤ) (t : Term P) (s : Memories) (n : ℕ) (r : Coming P) (go : Memories → ℕ → Coming P) →
      ((b : Actives P) → none_active b ≡ true → (t' : Term P) (s' : Memories) (m : ℕ) → length s' ≡ length s → finished t' ≡ true → Agrees W d (pool l c body (◌⊞◌ b (busy v t' idle)) false) s' m (go s' m)) →
      Agrees W d t s n r → Agrees W d (pool l c body (◌⊞◌ a (busy v t idle)) false) s n (and_then r go)
  pool_agrees d a e v t s n (Some (Done now)) go h g =
      let b = pool_leads g.0 a e v t s n g.1 now.memories now.turns g.2 in
      agrees_then W d d g.0 (omega arith) (pool l c body (◌⊞◌ a (busy v t idle)) false) s n (pool l c body (◌⊞◌ b.0 (busy v g.1 idle)) false) now.memories now.turns (go now.memories now.turns)
      b.2 (h b.0 b.1 g.1 now.memories now.turns (leads_length W g.0 t s n g.1 now.memories now.turns g.2) g.3)
  pool_agrees d a e v t s n (Some (Faulted f)) go h g = pool_stops a e v t s n (Faulted f) g
  pool_agrees d a e v t s n (Some Spent) go h g = pool_stops a e v t s n Spent g
  pool_agrees d a e v t s n None go h g =
      let b = pool_leads g.0 a e v t s n g.1 g.2 g.3 g.5 in
      (g.0, pool l c body (◌⊞◌ b.0 (busy v g.1 idle)) false, g.2, g.3, g.4, b.2)

  -- with no active term and no value a pool is finished for good
  pool_ends : (s : Memories) (a : Actives P) → none_active a ≡ true → l < length s → waiting l c s ≡ [] → front s (pool l c body a false) ≡ front s (pool l c body a true)
  pool_ends s a e up q =
      let e' : none_active (ahead s a) ≡ true = stay_active true (clear s) s a e in
      let f : over s (ahead s a) ≡ true = both_true (none_active (ahead s a)) (is_empty (waiting l c s) && slice_index_or (clear s) l false) e' (both_true (is_empty (waiting l c s)) (slice_index_or (clear s) l false) (ap is_empty q) (clear_at l s up)) in
      ap (pool l c body (ahead s a)) f

  -- with no active term the oldest value is taken
  pool_takes : (s : Memories) (a : Actives P) (n : ℕ) → none_active a ≡ true → (v : ℤ) (vs : List ℤ) → waiting l c s ≡ v ∷ vs →
      Leads W 1 (pool l c body a false) s n (pool l c body (◌⊞◌ (ahead s a) (busy v (body v) idle)) false) (apply (take l c 0) s) n
  pool_takes s a n e v vs q =
      let e' : none_active (ahead s a) ≡ true = stay_active true (clear s) s a e in
      let f : over s (ahead s a) ≡ false =
      and_false (none_active (ahead s a)) (is_empty (waiting l c s) && slice_index_or (clear s) l false) (ap (λ w. is_empty w && slice_index_or (clear s) l false) q) in
      let g : front s (pool l c body a false) ≡ pool l c body (ahead s a) false = ap (pool l c body (ahead s a)) f in
      let x : Term P = pool l c body (◌⊞◌ (ahead s a) (busy v (body v) idle)) false in
      let m : moves_of_active 0 (ahead s a) s ≡ [] =
      ap (λ b. moves_of_active 0 b s) (sym (join_idle (ahead s a))) ∙ active_moves 0 (ahead s a) idle s e' in (
        0 ∷ 0 ∷ [],
        takes_from 1 vs,
        false,
        take l c 0,
        x,
        x,
        n,
        ap (λ w. moves w s) g ∙ (λ i. moves_in 1 (m i) ++ takes_from 0 (q i)),
        ap (λ w. fire w (0 ∷ 0 ∷ []) s) g ∙ ap (λ w. take_move l c body (ahead s a) false 0 (slice_get w 0)) q
            ∙ ap (λ b. goes false (take l c 0) (pool l c body b false)) (last_joined (ahead s a) v (body v)),
        refl,
        tt,
        refl,
        (refl, refl, refl),
      )

  -- the takes of a pool without active terms
  module _ (run : ℤ → Memories → ℕ → Coming P) (depth : ℕ) (below : l < depth) (limit : ℕ)
      (agrees : (v : ℤ) (s : Memories) (n : ℕ) → length s ≡ depth → Agrees W limit (body v) s n (run v s n)) where
    -- they agree, or are at least as many as are allowed
    pub takes_agree : (d : ℕ) → d ≤ limit → (a : Actives P) → none_active a ≡ true → (s : Memories) (n : ℕ) → length s ≡ depth → Agrees W d (pool l c body a false) s n (big_takes d l c run s n)
    takes_agree zero up a e s n same = (0, pool l c body a false, s, n, omega arith, (refl, refl, refl))
    takes_agree (suc d) up a e s n same =
        go (waiting l c s) refl
        (λ b f s' m g. takes_agree d (omega arith) b f s' m g)
      where
        go : (w : List ℤ) → waiting l c s ≡ w →
            ((b : Actives P) → none_active b ≡ true → (s' : Memories) (m : ℕ) → length s' ≡ depth → Agrees W d (pool l c body b false) s' m (big_takes d l c run s' m)) →
            Agrees W (suc d) (pool l c body a false) s n (after_oldest w s n (λ v. and_then (run v (apply (take l c 0) s) n) (big_takes d l c run)))
        go [] q later = (0, pool l c body a true, (pool_ends s a e (subst (λ k. l < k) (sym same) below) q, refl, refl), refl)
        go (v ∷ vs) q later =
            let s1 : Memories = apply (take l c 0) s in
            let len : length s1 ≡ depth = length_apply (take l c 0) s ∙ same in
            agrees_then W d (suc d) 1 (omega arith) (pool l c body a false) s n (pool l c body (◌⊞◌ (ahead s a) (busy v (body v) idle)) false) s1 n (and_then (run v s1 n) (big_takes d l c run))
            (pool_takes s a n e v vs q)
            (pool_agrees d (ahead s a) (stay_active true (clear s) s a e) v (body v) s1 n (run v s1 n) (big_takes d l c run)
            (λ b f t' s' m g h. later (◌⊞◌ b (busy v t' idle)) (join_finished b v t' f h) s' m (g ∙ len))
            (agrees_less W limit d (omega arith) (body v) s1 n (run v s1 n) (agrees v s1 n len)))
