-- What moves and settling keep: each cycle of transitions spends a turn, and what is unfolded later is new.
use Rattle.std.proofs.Common.{ℕ, zero, suc, ℤ, List, [], ◌∷◌, ◌++◌, map, Bool, true, ◌&&◌, slice_get}
use Rattle.sd_work.specs.Memory.{Memories, waiting}
use Rattle.sd_work.specs.LeafMove.{leaf_move}
use Rattle.sd_work.specs.Exit.{first_exit}
use Rattle.sd_work.specs.Residual.{Parts, Term, leaf, list, owning, nested, ended, pool, Terms, none, also, Actives, idle, busy, finished, is_ready}
use Rattle.sd_work.specs.Moves.{Path}
use Rattle.sd_work.specs.Fire.{owned, transition, and_last, fire, fire_part, fire_active}
use Rattle.sd_work.specs.Settle.{is_first_left, settle, settle_parts, settle_active}
use Rattle.sd_work.specs.WellFormed.{PaysCycles, PayCycles, PayActiveCycles}
use Rattle.sd_work.specs.New.{UnfoldsNew, UnfoldNew, UnfoldActiveNew}
use Rattle.sd_work.proofs.Leaving.{Leaves, leaves_any, leaves_map, leaves_owned, leaves_cond, leaves_transition, leaves_take}

-- ---- each cycle of transitions spends a turn

pay-and_last : {P : Type 0} (active : Actives P) (value : ℤ) (part : Term P) → PayActiveCycles active → PaysCycles part → PayActiveCycles (and_last active value part)
pay-and_last idle value part h g = (g, tt)
pay-and_last (busy first other active) value part h g = (h.0, pay-and_last active value part h.1 g)

mutual
  -- in what a move leaves each cycle of transitions spends a turn too
  pub pays_kept : {P : Type 0} (t : Term P) → PaysCycles t → (p : Path) (s : Memories) → Leaves PaysCycles (fire t p s)
  pays_kept (leaf place work) h p s = leaves_any (leaf place) PaysCycles (λ x. tt) (leaf_move place work s)
  pays_kept (list kind before parts) h [] s = tt
  pays_kept (list kind before parts) h (k ∷ p) s = leaves_map (list kind before) PayCycles PaysCycles (λ x g. g) (fire_part parts k p s) (pay_kept parts h k p s)
  pays_kept (owning own part) h p s = leaves_owned PaysCycles PaysCycles owning own (λ memory x g. g) (fire part p (own ∷ s)) (pays_kept part h p (own ∷ s))
  pays_kept (nested body exits own state values part) h p s =
      leaves_cond PaysCycles (finished part) (transition body exits own (first_exit (exits state values) (own ∷ s)))
      (owned (λ memory left. nested body exits memory state values left) own (fire part p (own ∷ s)))
      (leaves_transition PaysCycles body exits own tt (λ k w. (h.1 k w, h.1, h.2)) (first_exit (exits state values) (own ∷ s)))
      (leaves_owned PaysCycles PaysCycles (λ memory left. nested body exits memory state values left) own (λ memory x g. (g, h.1, h.2)) (fire part p (own ∷ s)) (pays_kept part h.0 p (own ∷ s)))
  pays_kept (ended own) h p s = tt
  pays_kept (pool level container body active closed) h [] s = tt
  pays_kept (pool level container body active closed) h (zero ∷ []) s = tt
  pays_kept (pool level container body active closed) h (zero ∷ k ∷ p) s =
      leaves_take PaysCycles level container body active closed (λ v. (pay-and_last active v (body v) h.0 (h.1 v), h.1)) k (slice_get (waiting level container s) k)
  pays_kept (pool level container body active closed) h (suc n ∷ []) s = tt
  pays_kept (pool level container body active closed) h (suc n ∷ k ∷ p) s =
      leaves_map (λ left. pool level container body left closed) PayActiveCycles PaysCycles (λ x g. (g, h.1)) (fire_active active k p s) (pay_kept_active active h.0 k p s)

  pay_kept : {P : Type 0} (ts : Terms P) → PayCycles ts → (k : ℕ) (p : Path) (s : Memories) → Leaves PayCycles (fire_part ts k p s)
  pay_kept none h k p s = tt
  pay_kept (also t ts) h zero p s = leaves_map (λ x. also x ts) PaysCycles PayCycles (λ x g. (g, h.1)) (fire t p s) (pays_kept t h.0 p s)
  pay_kept (also t ts) h (suc k) p s = leaves_map (λ x. also t x) PayCycles PayCycles (λ x g. (h.0, g)) (fire_part ts k p s) (pay_kept ts h.1 k p s)

  pay_kept_active : {P : Type 0} (ts : Actives P) → PayActiveCycles ts → (k : ℕ) (p : Path) (s : Memories) → Leaves PayActiveCycles (fire_active ts k p s)
  pay_kept_active idle h k p s = tt
  pay_kept_active (busy v t ts) h zero p s = leaves_map (λ x. busy v x ts) PaysCycles PayActiveCycles (λ x g. (g, h.1)) (fire t p s) (pays_kept t h.0 p s)
  pay_kept_active (busy v t ts) h (suc k) p s = leaves_map (λ x. busy v t x) PayActiveCycles PayActiveCycles (λ x g. (h.0, g)) (fire_active ts k p s) (pay_kept_active ts h.1 k p s)

-- ---- what is unfolded later is new

unfold-and_last : {P : Type 0} (active : Actives P) (value : ℤ) (part : Term P) → UnfoldActiveNew active → UnfoldsNew part → UnfoldActiveNew (and_last active value part)
unfold-and_last idle value part h g = (g, tt)
unfold-and_last (busy first other active) value part h g = (h.0, unfold-and_last active value part h.1 g)

mutual
  -- what is unfolded after a move is new too
  pub unfolds_kept : {P : Type 0} (t : Term P) → UnfoldsNew t → (p : Path) (s : Memories) → Leaves UnfoldsNew (fire t p s)
  unfolds_kept (leaf place work) h p s = leaves_any (leaf place) UnfoldsNew (λ x. tt) (leaf_move place work s)
  unfolds_kept (list kind before parts) h [] s = tt
  unfolds_kept (list kind before parts) h (k ∷ p) s = leaves_map (list kind before) UnfoldNew UnfoldsNew (λ x g. g) (fire_part parts k p s) (unfold_kept parts h k p s)
  unfolds_kept (owning own part) h p s = leaves_owned UnfoldsNew UnfoldsNew owning own (λ memory x g. g) (fire part p (own ∷ s)) (unfolds_kept part h p (own ∷ s))
  unfolds_kept (nested body exits own state values part) h p s =
      leaves_cond UnfoldsNew (finished part) (transition body exits own (first_exit (exits state values) (own ∷ s)))
      (owned (λ memory left. nested body exits memory state values left) own (fire part p (own ∷ s)))
      (leaves_transition UnfoldsNew body exits own tt (λ k w. ((h.1 k w).1, h.1)) (first_exit (exits state values) (own ∷ s)))
      (leaves_owned UnfoldsNew UnfoldsNew (λ memory left. nested body exits memory state values left) own (λ memory x g. (g, h.1)) (fire part p (own ∷ s)) (unfolds_kept part h.0 p (own ∷ s)))
  unfolds_kept (ended own) h p s = tt
  unfolds_kept (pool level container body active closed) h [] s = tt
  unfolds_kept (pool level container body active closed) h (zero ∷ []) s = tt
  unfolds_kept (pool level container body active closed) h (zero ∷ k ∷ p) s =
      leaves_take UnfoldsNew level container body active closed (λ v. (unfold-and_last active v (body v) h.0 (h.1 v).1, h.1)) k (slice_get (waiting level container s) k)
  unfolds_kept (pool level container body active closed) h (suc n ∷ []) s = tt
  unfolds_kept (pool level container body active closed) h (suc n ∷ k ∷ p) s =
      leaves_map (λ left. pool level container body left closed) UnfoldActiveNew UnfoldsNew (λ x g. (g, h.1)) (fire_active active k p s) (unfold_kept_active active h.0 k p s)

  unfold_kept : {P : Type 0} (ts : Terms P) → UnfoldNew ts → (k : ℕ) (p : Path) (s : Memories) → Leaves UnfoldNew (fire_part ts k p s)
  unfold_kept none h k p s = tt
  unfold_kept (also t ts) h zero p s = leaves_map (λ x. also x ts) UnfoldsNew UnfoldNew (λ x g. (g, h.1)) (fire t p s) (unfolds_kept t h.0 p s)
  unfold_kept (also t ts) h (suc k) p s = leaves_map (λ x. also t x) UnfoldNew UnfoldNew (λ x g. (h.0, g)) (fire_part ts k p s) (unfold_kept ts h.1 k p s)

  unfold_kept_active : {P : Type 0} (ts : Actives P) → UnfoldActiveNew ts → (k : ℕ) (p : Path) (s : Memories) → Leaves UnfoldActiveNew (fire_active ts k p s)
  unfold_kept_active idle h k p s = tt
  unfold_kept_active (busy v t ts) h zero p s = leaves_map (λ x. busy v x ts) UnfoldsNew UnfoldActiveNew (λ x g. (g, h.1)) (fire t p s) (unfolds_kept t h.0 p s)
  unfold_kept_active (busy v t ts) h (suc k) p s = leaves_map (λ x. busy v t x) UnfoldActiveNew UnfoldActiveNew (λ x g. (h.0, g)) (fire_active ts k p s) (unfold_kept_active ts h.1 k p s)

-- ---- settling

mutual
  -- settling keeps both
  pub kept-settle : {P : Type 0} (go : Bool) (cleared : List Bool) (s : Memories) (t : Term P) → PaysCycles t → UnfoldsNew t → PaysCycles (settle go cleared s t) × UnfoldsNew (settle go cleared s t)
  kept-settle go cleared s (leaf place work) h g = (tt, tt)
  kept-settle go cleared s (list kind before parts) h g = kept-settle_parts go cleared s kind before [] 0 parts h g
  kept-settle go cleared s (owning own part) h g = kept-settle go (true ∷ cleared) (own ∷ s) part h g
  kept-settle go cleared s (nested body exits own state values part) h g =
      let r = kept-settle go (true ∷ cleared) (own ∷ s) part h.0 g.0 in
      ((r.0, h.1, h.2), (r.1, g.1))
  kept-settle go cleared s (ended own) h g = (tt, tt)
  kept-settle go cleared s (pool level container body active closed) h g =
      let r = kept-settle_active go cleared s active h.0 g.0 in
      ((r.0, h.1), (r.1, g.1))

  kept-settle_parts : {P : Type 0} (go : Bool) (cleared : List Bool) (s : Memories) (kind : Parts) (before : ℕ → ℕ → Bool) (flags : List Bool) (k : ℕ) (ts : Terms P) → PayCycles ts → UnfoldNew ts →
      PayCycles (settle_parts go cleared s kind before flags k ts) × UnfoldNew (settle_parts go cleared s kind before flags k ts)
  kept-settle_parts go cleared s kind before flags k none h g = (tt, tt)
  kept-settle_parts {P} go cleared s kind before flags k (also t ts) h g =
      let left : Term P = settle (go && is_ready before flags k) (map (λ flag. is_first_left kind flags && flag) cleared) s t in
      let a = kept-settle (go && is_ready before flags k) (map (λ flag. is_first_left kind flags && flag) cleared) s t h.0 g.0 in
      let b = kept-settle_parts go cleared s kind before (flags ++ finished left ∷ []) (suc k) ts h.1 g.1 in
      ((a.0, b.0), (a.1, b.1))

  kept-settle_active : {P : Type 0} (go : Bool) (cleared : List Bool) (s : Memories) (ts : Actives P) → PayActiveCycles ts → UnfoldActiveNew ts → PayActiveCycles (settle_active go cleared s ts) × UnfoldActiveNew (settle_active go cleared s ts)
  kept-settle_active go cleared s idle h g = (tt, tt)
  kept-settle_active go cleared s (busy v t ts) h g =
      let a = kept-settle go cleared s t h.0 g.0 in
      let b = kept-settle_active go cleared s ts h.1 g.1 in
      ((a.0, b.0), (a.1, b.1))
