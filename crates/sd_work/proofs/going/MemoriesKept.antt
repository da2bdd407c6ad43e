-- Moves and settling keep the memories of pools.
use Rattle.std.proofs.Common.{ℕ, zero, suc, ℤ, List, [], ◌∷◌, map, Bool, true, false, ◌&&◌, slice_get}
use Rattle.sd_work.specs.Memory.{Memories, waiting}
use Rattle.sd_work.specs.LeafMove.{leaf_move}
use Rattle.sd_work.specs.Exit.{first_exit}
use Rattle.sd_work.specs.Residual.{Parts, Term, leaf, list, owning, nested, ended, pool, Terms, none, also, Actives, idle, busy, finished, is_ready}
use Rattle.sd_work.specs.Moves.{Path}
use Rattle.sd_work.specs.Fire.{and_last, fire, fire_part, fire_active}
use Rattle.sd_work.specs.Settle.{is_first_left, settle, settle_parts, settle_active}
use Rattle.sd_work.specs.WellFormed.{HasPoolMemories, HavePoolMemories, HaveActivePoolMemories}
use Rattle.sd_work.specs.OrderedPools.{HasOrderedPools, HaveOrderedPools, HaveOrderedActivePools}
use Rattle.sd_work.proofs.Leaving.{Leaves, leaves_any, leaves_map, leaves_owned, leaves_cond, leaves_transition, leaves_take}

memories_last : {P : Type 0} (depth : ℕ) (active : Actives P) (v : ℤ) (t : Term P) → HaveActivePoolMemories depth active → HasPoolMemories depth t → HaveActivePoolMemories depth (and_last active v t)
memories_last depth idle v t h g = (g, tt)
memories_last depth (busy w u us) v t h g = (h.0, memories_last depth us v t h.1 g)

mutual
  -- what a move leaves has the memories of its pools
  pub memories-kept : {P : Type 0} (depth : ℕ) (t : Term P) (p : Path) (s : Memories) → HasPoolMemories depth t → Leaves (HasPoolMemories depth) (fire t p s)
  memories-kept depth (leaf place work) p s h = leaves_any (leaf place) (HasPoolMemories depth) (λ w. tt) (leaf_move place work s)
  memories-kept depth (list kind before parts) [] s h = tt
  memories-kept depth (list kind before parts) (k ∷ p) s h = leaves_map (list kind before) (HavePoolMemories depth) (HasPoolMemories depth) (λ x g. g) (fire_part parts k p s) (memories_part depth parts k p s h)
  memories-kept depth (owning own part) p s h =
      leaves_owned (HasPoolMemories (suc depth)) (HasPoolMemories depth) owning own (λ f x g. g) (fire part p (own ∷ s)) (memories-kept (suc depth) part p (own ∷ s) h)
  memories-kept depth (nested body exits own state values part) p s h =
      leaves_cond (HasPoolMemories depth) (finished part) _ _ (leaves_transition (HasPoolMemories depth) body exits own tt (λ k e. (h.1 k e, h.1)) (first_exit (exits state values) (own ∷ s)))
      (leaves_owned (HasPoolMemories (suc depth)) (HasPoolMemories depth) (λ f x. nested body exits f state values x) own (λ f x g. (g, h.1)) (fire part p (own ∷ s)) (memories-kept (suc depth) part p (own ∷ s) h.0))
  memories-kept depth (ended own) p s h = tt
  memories-kept depth (pool level container body active closed) [] s h = tt
  memories-kept depth (pool level container body active closed) (zero ∷ []) s h = tt
  memories-kept depth (pool level container body active true) (zero ∷ k ∷ p) s h =
      leaves_take (HasPoolMemories depth) level container body active true (λ v. tt) k (slice_get (waiting level container s) k)
  memories-kept depth (pool level container body active false) (zero ∷ k ∷ p) s h =
      leaves_take (HasPoolMemories depth) level container body active false (λ v. (h.0, memories_last depth active v (body v) h.1 (h.2 v), h.2)) k (slice_get (waiting level container s) k)
  memories-kept depth (pool level container body active closed) (suc n ∷ []) s h = tt
  memories-kept depth (pool level container body active true) (suc n ∷ k ∷ p) s h =
      leaves_any (λ x. pool level container body x true) (HasPoolMemories depth) (λ x. tt) (fire_active active k p s)
  memories-kept depth (pool level container body active false) (suc n ∷ k ∷ p) s h =
      leaves_map (λ x. pool level container body x false) (HaveActivePoolMemories depth) (HasPoolMemories depth) (λ x g. (h.0, g, h.2)) (fire_active active k p s) (memories_active depth active k p s h.1)

  memories_part : {P : Type 0} (depth : ℕ) (ts : Terms P) (k : ℕ) (p : Path) (s : Memories) → HavePoolMemories depth ts → Leaves (HavePoolMemories depth) (fire_part ts k p s)
  memories_part depth none k p s h = tt
  memories_part depth (also t ts) zero p s h = leaves_map (λ x. also x ts) (HasPoolMemories depth) (HavePoolMemories depth) (λ x g. (g, h.1)) (fire t p s) (memories-kept depth t p s h.0)
  memories_part depth (also t ts) (suc k) p s h = leaves_map (λ x. also t x) (HavePoolMemories depth) (HavePoolMemories depth) (λ x g. (h.0, g)) (fire_part ts k p s) (memories_part depth ts k p s h.1)

  memories_active : {P : Type 0} (depth : ℕ) (ts : Actives P) (k : ℕ) (p : Path) (s : Memories) → HaveActivePoolMemories depth ts → Leaves (HaveActivePoolMemories depth) (fire_active ts k p s)
  memories_active depth idle k p s h = tt
  memories_active depth (busy v t ts) zero p s h =
      leaves_map (λ x. busy v x ts) (HasPoolMemories depth) (HaveActivePoolMemories depth) (λ x g. (g, h.1)) (fire t p s) (memories-kept depth t p s h.0)
  memories_active depth (busy v t ts) (suc k) p s h =
      leaves_map (λ x. busy v t x) (HaveActivePoolMemories depth) (HaveActivePoolMemories depth) (λ x g. (h.0, g)) (fire_active ts k p s) (memories_active depth ts k p s h.1)

-- a pool, closed or not
pool_memories : {P : Type 0} (depth level container : ℕ) (body : ℤ → Term P) (active : Actives P) (closed : Bool) → HasPoolMemories depth (pool level container body active false) → HasPoolMemories depth (pool level container body active closed)
pool_memories depth level container body active true h = tt
pool_memories depth level container body active false h = h

mutual
  -- a settled term has the memories of its pools
  pub memories-settled : {P : Type 0} (depth : ℕ) (go : Bool) (cleared : List Bool) (s : Memories) (t : Term P) → HasPoolMemories depth t → HasPoolMemories depth (settle go cleared s t)
  memories-settled depth go cleared s (leaf place work) h = tt
  memories-settled depth go cleared s (list kind before parts) h = memories-settled_parts depth go cleared s kind before [] 0 parts h
  memories-settled depth go cleared s (owning own part) h = memories-settled (suc depth) go (true ∷ cleared) (own ∷ s) part h
  memories-settled depth go cleared s (nested body exits own state values part) h = (memories-settled (suc depth) go (true ∷ cleared) (own ∷ s) part h.0, h.1)
  memories-settled depth go cleared s (ended own) h = tt
  memories-settled depth go cleared s (pool level container body active true) h = tt
  memories-settled depth go cleared s (pool level container body active false) h =
      pool_memories depth level container body (settle_active go cleared s active) _ (h.0, memories-settled_active depth go cleared s active h.1, h.2)

  memories-settled_parts : {P : Type 0} (depth : ℕ) (go : Bool) (cleared : List Bool) (s : Memories) (kind : Parts) (before : ℕ → ℕ → Bool) (flags : List Bool) (number : ℕ) (ts : Terms P) →
      HavePoolMemories depth ts → HavePoolMemories depth (settle_parts go cleared s kind before flags number ts)
  memories-settled_parts depth go cleared s kind before flags number none h = tt
  memories-settled_parts depth go cleared s kind before flags number (also t ts) h =
      (memories-settled depth (go && is_ready before flags number) (map (λ flag. is_first_left kind flags && flag) cleared) s t h.0, memories-settled_parts depth go cleared s kind before _ (suc number) ts h.1)

  memories-settled_active : {P : Type 0} (depth : ℕ) (go : Bool) (cleared : List Bool) (s : Memories) (ts : Actives P) → HaveActivePoolMemories depth ts → HaveActivePoolMemories depth (settle_active go cleared s ts)
  memories-settled_active depth go cleared s idle h = tt
  memories-settled_active depth go cleared s (busy v t ts) h = (memories-settled depth go cleared s t h.0, memories-settled_active depth go cleared s ts h.1)

mutual
  -- pools that are in order have their memories
  pub memories-ordered : {P : Type 0} (t : Term P) (depth : ℕ) → HasOrderedPools depth t → HasPoolMemories depth t
  memories-ordered (leaf place work) depth h = tt
  memories-ordered (list kind before parts) depth h = memories-ordered_parts parts depth h.0
  memories-ordered (owning own part) depth h = memories-ordered part (suc depth) h
  memories-ordered (nested body exits own state values part) depth h = (memories-ordered part (suc depth) h.0, λ k e. memories-ordered (body k e) (suc depth) (h.1 k e))
  memories-ordered (ended own) depth h = tt
  memories-ordered (pool level container body active true) depth h = tt
  memories-ordered (pool level container body active false) depth h = (h.0, memories-ordered_active active depth h.2, λ v. memories-ordered (body v) depth (h.3 v))

  memories-ordered_parts : {P : Type 0} (ts : Terms P) (depth : ℕ) → HaveOrderedPools depth ts → HavePoolMemories depth ts
  memories-ordered_parts none depth h = tt
  memories-ordered_parts (also t ts) depth h = (memories-ordered t depth h.0, memories-ordered_parts ts depth h.1)

  memories-ordered_active : {P : Type 0} (ts : Actives P) (depth : ℕ) → HaveOrderedActivePools depth ts → HaveActivePoolMemories depth ts
  memories-ordered_active idle depth h = tt
  memories-ordered_active (busy v t ts) depth h = (memories-ordered t depth h.0, memories-ordered_active ts depth h.1)
