-- Settled work without a move is finished, where its lists have orders and the memories of its pools are there. The first
-- part of a list that is not finished is settled as if it stood alone, so it has a move.
use Rattle.std.proofs.Common.{◌≡◌, ◌≤◌, ℕ, suc, ◌+◌, ℤ, List, [], ◌∷◌, ◌++◌, map, length, Bool, true, false, cond, not, ◌&&◌, ◌||◌, refl, sym, ◌∙◌, ap, arith, slice_index_or}
use Rattle.std.proofs.lemmas.List.{append_assoc}
use Rattle.sd_work.specs.Memory.{Memories, waiting}
use Rattle.sd_work.specs.Leaf.{is_done}
use Rattle.sd_work.specs.Residual.{Parts, Term, leaf, list, owning, nested, ended, pool, Terms, none, also, Actives, idle, busy, finished, all_finished, none_active, flags_of, is_ready, ready_from, IsOrder}
use Rattle.sd_work.specs.Moves.{Path, here_if, moves_in, takes_from, moves, moves_of_parts, moves_of_active}
use Rattle.sd_work.specs.Settle.{is_empty, all_true, is_first_left, settle, settle_parts, settle_active}
use Rattle.sd_work.specs.WellFormed.{IsOrdered, AreOrdered, AreActiveOrdered, HasPoolMemories, HavePoolMemories, HaveActivePoolMemories}
use Rattle.sd_work.proofs.Flags.{both_true, or_right}
use Rattle.sd_work.proofs.left_to_right.Leads.{clear, front}
use Rattle.sd_work.proofs.left_to_right.Fronts.{all_more, ready_all, first_all, map_true, longer}
use Rattle.sd_work.proofs.left_to_right.LeftmostPools.{clear_at}

-- ---- empty lists of places

none_in : (k : ℕ) (ps : List Path) → moves_in k ps ≡ [] → ps ≡ []
none_in k [] e = refl
none_in k (p ∷ ps) e = cc

none_both : (ps qs : List Path) → ps ++ qs ≡ [] → (ps ≡ []) × (qs ≡ [])
none_both [] qs e = (refl, e)
none_both (p ∷ ps) qs e = cc

none_here : (b : Bool) → here_if (not b) ≡ [] → b ≡ true
none_here true e = refl
none_here false e = cc

no_takes : (k : ℕ) (values : List ℤ) → takes_from k values ≡ [] → is_empty values ≡ true
no_takes k [] e = refl
no_takes k (v ∷ values) e = cc

-- a nested run always has a move
nested_moves : (b : Bool) (ps : List Path) → (ps ≡ [] → b ≡ true) → cond b ([] ∷ []) ps ≡ [] → ⊥
nested_moves true ps h e = cc
nested_moves false ps h e = let over : false ≡ true = h e in cc

-- a pool without moves is closed where it is over once nothing is left in it
pool_closes : (b : Bool) (ps : List Path) → (ps ≡ [] → b ≡ true) → cond b [] ps ≡ [] → b ≡ true
pool_closes true ps h e = refl
pool_closes false ps h e = h e

-- ---- a part behind finished ones may go on

not_so : (b : Bool) → (b ≡ true → ⊥) → not b ≡ true
not_so true h = absurd (h refl)
not_so false h = refl

-- it waits for none from itself on
ready_behind : (before : ℕ → ℕ → Bool) → IsOrder before → (j k : ℕ) (flags : List Bool) → k ≤ j → ready_from before j flags k ≡ true
ready_behind before o j k [] up = refl
ready_behind before o j k (flag ∷ flags) up =
    both_true (flag || not (before j k)) _
    (or_right flag (not (before j k)) (not_so (before j k) (λ e. let less = o.rises j k e in omega (arith, up, less))))
    (ready_behind before o (suc j) k flags (omega (arith, up)))

ready_first : (before : ℕ → ℕ → Bool) → IsOrder before → (j k : ℕ) (fs flags : List Bool) → all_true fs ≡ true → k ≤ j + length fs → ready_from before j (fs ++ flags) k ≡ true
ready_first before o j k [] flags f up = ready_behind before o j k flags (omega (arith, up))
ready_first before o j k (true ∷ fs) flags f up = ready_first before o (suc j) k fs flags f (omega (arith, up))
ready_first before o j k (false ∷ fs) flags f up = cc

mutual
  pub no_move-finished : {P : Type 0} (t : Term P) (s : Memories) → IsOrdered t → HasPoolMemories (length s) t → moves (front s t) s ≡ [] → finished (front s t) ≡ true
  no_move-finished (leaf place work) s o h e = none_here (is_done work) e
  no_move-finished (list kind before parts) s o h e =
      no_move_parts kind before o.0 (flags_of (settle_parts true (clear s) s kind before [] 0 parts)) [] 0 parts s refl refl refl o.1 h e
  no_move-finished (owning own part) s o h e = no_move-finished part (own ∷ s) o h e
  no_move-finished (nested body exits own state values part) s o h e =
      absurd (nested_moves (finished (front (own ∷ s) part)) (moves (front (own ∷ s) part) (own ∷ s)) (no_move-finished part (own ∷ s) o.0 h.0) e)
  no_move-finished (ended own) s o h e = refl
  no_move-finished (pool level container body active true) s o h e = refl
  no_move-finished {P} (pool level container body active false) s o h e =
      let inside : Actives P = settle_active true (clear s) s active in
      pool_closes (none_active inside && (is_empty (waiting level container s) && slice_index_or (clear s) level false))
      (moves_in 1 (moves_of_active 0 inside s) ++ takes_from 0 (waiting level container s))
      (λ f.
      let split = none_both (moves_in 1 (moves_of_active 0 inside s)) (takes_from 0 (waiting level container s)) f in
      both_true (none_active inside) _ (no_move_active active 0 s o.0 h.1 (none_in 1 (moves_of_active 0 inside s) split.0))
      (both_true (is_empty (waiting level container s)) _ (no_takes 0 (waiting level container s) split.1) (clear_at level s h.0)))
      e

  -- the same of the parts of a list behind finished ones; all are the flags of the whole list
  no_move_parts : {P : Type 0} (kind : Parts) (before : ℕ → ℕ → Bool) → IsOrder before → (all fs : List Bool) (n : ℕ) (ts : Terms P) (s : Memories) → all_true fs ≡ true → length fs ≡ n →
      all ≡ fs ++ flags_of (settle_parts true (clear s) s kind before fs n ts) → AreOrdered ts → HavePoolMemories (length s) ts →
      moves_of_parts before all n (settle_parts true (clear s) s kind before fs n ts) s ≡ [] → all_finished (settle_parts true (clear s) s kind before fs n ts) ≡ true
  no_move_parts kind before order all fs n none s f len q o h e = refl
  no_move_parts {P} kind before order all fs n (also t ts) s f len q o h e =
      let x : Term P = settle (is_ready before fs n) (map (λ flag. is_first_left kind fs && flag) (clear s)) s t in
      let rest : Terms P = settle_parts true (clear s) s kind before (fs ++ finished x ∷ []) (suc n) ts in
      let cleared : map (λ flag. is_first_left kind fs && flag) (clear s) ≡ clear s = ap (λ b. map (λ flag. b && flag) (clear s)) (first_all kind fs f) ∙ map_true (clear s) in
      let alone : x ≡ front s t = λ i. settle (ready_all before 0 fs n f i) (cleared i) s t in
      let ready : is_ready before all n ≡ true = ap (λ bs. is_ready before bs n) q ∙ ready_first before order 0 n fs (flags_of (also x rest)) f (omega (arith, len)) in
      let split = none_both (cond (is_ready before all n) (moves_in n (moves x s)) []) (moves_of_parts before all (suc n) rest s) e in
      let here : moves x s ≡ [] = none_in n (moves x s) (ap (λ b. cond b (moves_in n (moves x s)) []) (sym ready) ∙ split.0) in
      let over : finished x ≡ true = ap finished alone ∙ no_move-finished t s o.0 h.0 (ap (λ y. moves y s) (sym alone) ∙ here) in
      both_true (finished x) (all_finished rest) over
      (no_move_parts kind before order all (fs ++ finished x ∷ []) (suc n) ts s (ap (λ b. all_true (fs ++ b ∷ [])) over ∙ all_more fs f)
      (longer fs (finished x) ∙ ap suc len) (q ∙ sym (append_assoc fs (finished x ∷ []) (flags_of rest))) o.1 h.1 split.1)

  no_move_active : {P : Type 0} (ts : Actives P) (k : ℕ) (s : Memories) → AreActiveOrdered ts → HaveActivePoolMemories (length s) ts →
      moves_of_active k (settle_active true (clear s) s ts) s ≡ [] → none_active (settle_active true (clear s) s ts) ≡ true
  no_move_active idle k s o h e = refl
  no_move_active (busy v t ts) k s o h e =
      let split = none_both (moves_in k (moves (front s t) s)) (moves_of_active (suc k) (settle_active true (clear s) s ts) s) e in
      both_true (finished (front s t)) _ (no_move-finished t s o.0 h.0 (none_in k (moves (front s t) s) split.0)) (no_move_active ts (suc k) s o.1 h.1 split.1)
