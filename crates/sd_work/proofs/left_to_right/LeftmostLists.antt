-- Leftmost moves after others, and those of a list behind its finished parts.
use Rattle.std.proofs.Common.{◌≡◌, ℕ, zero, suc, ◌+◌, ◌<◌, ◌≤◌, List, [], ◌∷◌, ◌++◌, length, Some, None, Bool, true, false, cond, not, ◌||◌, refl, sym, ◌∙◌, ap, subst, arith}
use Rattle.sd_work.specs.Memory.{Memories}
use Rattle.sd_work.specs.Change.{Change, nothing, write, push, take, apply}
use Rattle.sd_work.specs.Move.{Move, fails, goes, no_move, map_move}
use Rattle.sd_work.specs.Residual.{Parts, Term, list, Terms, none, also, finished, all_finished, flags_of, is_ready, ready_from, IsOrder}
use Rattle.sd_work.specs.Moves.{Path, moves_in, moves, moves_of_parts}
use Rattle.sd_work.specs.Fire.{fire, fire_part}
use Rattle.sd_work.specs.Step.{Outcome, Done, Faulted, Spent}
use Rattle.sd_work.specs.BigStep.{Reached, Coming, and_then}
use Rattle.sd_work.proofs.Absorbing.{stay}
use Rattle.sd_work.proofs.Finished.{moves-finished}
use Rattle.sd_work.proofs.left_to_right.Fronts.{◌⊕◌, count_of, count_settled, lead, rest, list_front, length_apply, Apart, rest_again}
use Rattle.sd_work.proofs.left_to_right.Leads.{front, Feeds, Within, Leads, FailsBy, FailsNow, Stops, Makes, Agrees}
use Rattle.sd_work.proofs.Flags.{both, both_true, or_left, or_right, not_false}

-- a term that is settled alike leads to the same
leads_front : {P : Type 0} (W : Feeds) (j : ℕ) (t x : Term P) (s : Memories) (n : ℕ) (t' : Term P) (s' : Memories) (n' : ℕ) → front s t ≡ front s x → Leads W j x s n t' s' n' → Leads W j t s n t' s' n'
leads_front W zero t x s n t' s' n' e a = (e ∙ a.0, a.1, a.2)
leads_front W (suc j) t x s n t' s' n' e a =
    (a.0, a.1, a.2, a.3, a.4, a.5, a.6, ap (λ w. moves w s) e ∙ a.7, ap (λ w. fire w a.0 s) e ∙ a.8, a.9, a.10, a.11, a.12)

-- moves, and then more of them
pub leads_more : {P : Type 0} (W : Feeds) (k j : ℕ) (t : Term P) (s : Memories) (n : ℕ) (t' : Term P) (s' : Memories) (n' : ℕ) (t'' : Term P) (s'' : Memories) (n'' : ℕ) →
    Leads W k t s n t' s' n' → Leads W j t' s' n' t'' s'' n'' → Leads W (k + j) t s n t'' s'' n''
leads_more {P} W zero j t s n t' s' n' t'' s'' n'' a b =
    let same : j ≡ 0 + j = omega arith in
    let b' : Leads W j t' s n t'' s'' n'' = subst (λ w. Leads W j t' w n t'' s'' n'') (sym a.1) (subst (λ w. Leads W j t' s' w t'' s'' n'') (sym a.2) b) in
    subst (λ i. Leads W i t s n t'' s'' n'') same (leads_front W j t t' s n t'' s'' n'' a.0 b')
leads_more W (suc k) j t s n t' s' n' t'' s'' n'' a b =
    let same : suc (k + j) ≡ suc k + j = omega arith in
    subst (λ i. Leads W i t s n t'' s'' n'') same
    (a.0, a.1, a.2, a.3, a.4, a.5, a.6, a.7, a.8, a.9, a.10, a.11, leads_more W k j a.5 (apply a.3 s) a.6 t' s' n' t'' s'' n'' a.12 b)

-- moves, and then at least so many
pub makes_then : {P : Type 0} (W : Feeds) (least most k : ℕ) → most ≤ k + least → (t : Term P) (s : Memories) (n : ℕ) (t' : Term P) (s' : Memories) (n' : ℕ) → Leads W k t s n t' s' n' → Makes W least t' s' n' → Makes W most t s n
makes_then W least most k w t s n t' s' n' a b =
    let h : least ≤ b.0 = b.4 in
    let up : most ≤ k + b.0 = omega arith in
    (k + b.0, b.1, b.2, b.3, up, leads_more W k b.0 t s n t' s' n' b.1 b.2 b.3 a b.5)

-- moves, and then what agrees
pub agrees_then : {P : Type 0} (W : Feeds) (least most k : ℕ) → most ≤ k + least → (t : Term P) (s : Memories) (n : ℕ) (t' : Term P) (s' : Memories) (n' : ℕ) (o : Coming P) → Leads W k t s n t' s' n' → Agrees W least t' s' n' o → Agrees W most t s n o
agrees_then W least most k w t s n t' s' n' (Some (Done now)) a b = (k + b.0, b.1, leads_more W k b.0 t s n t' s' n' b.1 now.memories now.turns a b.2, b.3)
agrees_then W least most k w t s n t' s' n' (Some (Faulted f)) a b = (k + b.0, b.1, b.2, b.3, leads_more W k b.0 t s n t' s' n' b.1 b.2 b.3 a b.4, b.5)
agrees_then W least most k w t s n t' s' n' (Some Spent) a b = (k + b.0, b.1, b.2, b.3, leads_more W k b.0 t s n t' s' n' b.1 b.2 b.3 a b.4, b.5)
agrees_then W least most k w t s n t' s' n' None a b = makes_then W least most k w t s n t' s' n' a b

-- with fewer moves
pub agrees_less : {P : Type 0} (W : Feeds) (least less : ℕ) → less ≤ least → (t : Term P) (s : Memories) (n : ℕ) (o : Coming P) → Agrees W least t s n o → Agrees W less t s n o
agrees_less W least less w t s n o a = let h : less ≤ 0 + least = omega arith in agrees_then W least less 0 h t s n t s n o (refl, refl, refl) a

-- the stack stays as long as it is
pub leads_length : {P : Type 0} (W : Feeds) (k : ℕ) (t : Term P) (s : Memories) (n : ℕ) (t' : Term P) (s' : Memories) (n' : ℕ) → Leads W k t s n t' s' n' → length s' ≡ length s
leads_length W zero t s n t' s' n' a = ap length (sym a.1)
leads_length W (suc k) t s n t' s' n' a = leads_length W k a.5 (apply a.3 s) a.6 t' s' n' a.12 ∙ length_apply a.3 s

-- more streams to push into
within_up : (V W : Feeds) → ((l c : ℕ) → V l c → W l c) → (u : Change) → Within V u → Within W u
within_up V W up nothing h = tt
within_up V W up (write to by value) h = tt
within_up V W up (push l c value) h = up l c h
within_up V W up (take l c k) h = tt

-- a failure of a part is one of the whole
pub fails_map : {P A B : Type 0} (f : A → B) (m : Move P A) (n : ℕ) (o : Outcome P Reached) → FailsBy m n o → FailsBy (map_move f m) n o
fails_map f (fails false e) zero o h = h
fails_map f (fails false e) (suc n) o h = h
fails_map f (fails true e) zero o h = h
fails_map f (fails true e) (suc n) o h = h
fails_map f (goes true u x) zero o h = h
fails_map f (goes true u x) (suc n) o h = elim h [ ]
fails_map f (goes false u x) zero o h = elim h [ ]
fails_map f (goes false u x) (suc n) o h = elim h [ ]
fails_map f no_move zero o h = elim h [ ]
fails_map f no_move (suc n) o h = elim h [ ]

nothing_first : (k : ℕ) (b : Bool) → cond b (moves_in k []) [] ≡ []
nothing_first k true = refl
nothing_first k false = refl

-- no part is before itself or a part of a lower number
not_before : (before : ℕ → ℕ → Bool) → IsOrder before → (j k : ℕ) → k ≤ j → before j k ≡ false
not_before before o j k h = go (before j k) refl
  where
    go : (b : Bool) → before j k ≡ b → before j k ≡ false
    go true e =
        let up : j < k = o.rises j k e in
        let no : ⊥ = omega arith in
        elim no [ ]
    go false e = e

-- finished parts in front have no moves
prefix_moves : {P : Type 0} (before : ℕ → ℕ → Bool) (bs : List Bool) (k : ℕ) (pre ts : Terms P) (s : Memories) → all_finished pre ≡ true →
    moves_of_parts before bs k (◌⊕◌ pre ts) s ≡ moves_of_parts before bs (k + count_of pre) ts s
prefix_moves before bs k none ts s e = let same : k ≡ k + 0 = omega arith in ap (λ w. moves_of_parts before bs w ts s) same
prefix_moves before bs k (also t pre) ts s e =
    let h = both (finished t) (all_finished pre) e in
    let same : suc k + count_of pre ≡ k + suc (count_of pre) = omega arith in
    ap (λ ps. cond (is_ready before bs k) (moves_in k ps) [] ++ moves_of_parts before bs (suc k) (◌⊕◌ pre ts) s) (moves-finished t s h.0)
    ∙ ap (λ ps. ps ++ moves_of_parts before bs (suc k) (◌⊕◌ pre ts) s) (nothing_first k (is_ready before bs k))
    ∙ prefix_moves before bs (suc k) pre ts s h.1 ∙ ap (λ w. moves_of_parts before bs w ts s) same

-- a part waits for none of a number that is not lower
pub ready_late : (before : ℕ → ℕ → Bool) → IsOrder before → (j k : ℕ) (bs : List Bool) → k ≤ j → ready_from before j bs k ≡ true
ready_late before o j k [] h = refl
ready_late before o j k (b ∷ bs) h =
    both_true (b || not (before j k)) (ready_from before (suc j) bs k) (or_right b (not (before j k)) (not_false (before j k) (not_before before o j k h))) (ready_late before o (suc j) k bs (omega arith))

-- a part behind finished ones may go on
ready_prefix : {P : Type 0} (before : ℕ → ℕ → Bool) → IsOrder before → (j : ℕ) (pre ts : Terms P) → all_finished pre ≡ true → ready_from before j (flags_of (◌⊕◌ pre ts)) (j + count_of pre) ≡ true
ready_prefix before o j none ts e = ready_late before o j (j + 0) (flags_of ts) (omega arith)
ready_prefix before o j (also t pre) ts e =
    let h = both (finished t) (all_finished pre) e in
    let same : suc j + count_of pre ≡ j + suc (count_of pre) = omega arith in
    both_true (finished t || not (before j (j + suc (count_of pre)))) (ready_from before (suc j) (flags_of (◌⊕◌ pre ts)) (j + suc (count_of pre)))
    (or_left (finished t) (not (before j (j + suc (count_of pre)))) h.0)
    (subst (λ w. ready_from before (suc j) (flags_of (◌⊕◌ pre ts)) w ≡ true) same (ready_prefix before o (suc j) pre ts h.1))

-- a move of a part of a part
pub map_twice : {P A B C : Type 0} (g : B → C) (f : A → B) (m : Move P A) → map_move g (map_move f m) ≡ map_move (λ x. g (f x)) m
map_twice g f (fails turn e) = refl
map_twice g f (goes turn u x) = refl
map_twice g f no_move = refl

-- the move in the part behind these
fire_prefix : {P : Type 0} (pre : Terms P) (t : Term P) (ts : Terms P) (p : Path) (s : Memories) → fire_part (◌⊕◌ pre (also t ts)) (count_of pre) p s ≡ map_move (λ x. ◌⊕◌ pre (also x ts)) (fire t p s)
fire_prefix none t ts p s = refl
fire_prefix (also q pre) t ts p s = ap (map_move (also q)) (fire_prefix pre t ts p s) ∙ map_twice (also q) (λ x. ◌⊕◌ pre (also x ts)) (fire t p s)

-- behind finished parts of a list
module _ {P : Type 0} (kind : Parts) (before : ℕ → ℕ → Bool) (o : IsOrder before) (pre ts : Terms P) (e : all_finished pre ≡ true) where
  first_moves : (t : Term P) (p : Path) (ps : List Path) (s : Memories) → moves t s ≡ p ∷ ps → (qs : List Path) × (moves (list kind before (◌⊕◌ pre (also t ts))) s ≡ (count_of pre ∷ p) ∷ qs)
  first_moves t p ps s q =
      let bs = flags_of (◌⊕◌ pre (also t ts)) in
      let zero_left : 0 + count_of pre ≡ count_of pre = omega arith in
      let r : is_ready before bs (count_of pre) ≡ true = subst (λ w. is_ready before bs w ≡ true) zero_left (ready_prefix before o 0 pre (also t ts) e) in (
        moves_in (count_of pre) ps ++ moves_of_parts before bs (suc (count_of pre)) ts s,
        prefix_moves before bs 0 pre (also t ts) s e ∙ ap (λ w. moves_of_parts before bs w (also t ts) s) zero_left
            ∙ (λ i. cond (r i) (moves_in (count_of pre) (q i)) [] ++ moves_of_parts before bs (suc (count_of pre)) ts s),
      )

  fire_first : (t : Term P) (p : Path) (s : Memories) → fire (list kind before (◌⊕◌ pre (also t ts))) (count_of pre ∷ p) s ≡ map_move (λ x. list kind before (◌⊕◌ pre (also x ts))) (fire t p s)
  fire_first t p s = ap (map_move (list kind before)) (fire_prefix pre t ts p s) ∙ map_twice (list kind before) (λ x. ◌⊕◌ pre (also x ts)) (fire t p s)

-- a term that has a move is not finished
pub unfinished_of : {P : Type 0} (t : Term P) (s : Memories) (p : Path) (ps : List Path) → moves t s ≡ p ∷ ps → finished t ≡ false
unfinished_of t s p ps q = go (finished t) refl
  where
    go : (b : Bool) → finished t ≡ b → finished t ≡ false
    go true e = let no : p ∷ ps ≡ [] = sym q ∙ moves-finished t s e in cc
    go false e = e

-- what the first unfinished part of a list does
module _ {P : Type 0} (V W : Feeds) (up : (l c : ℕ) → V l c → W l c) (kind : Parts) (before : ℕ → ℕ → Bool) (o : IsOrder before) (number : ℕ) (ts : Terms P) (apart : Apart kind before V number ts) where
  finished_lead : (s : Memories) (pre : Terms P) → all_finished pre ≡ true → all_finished (lead kind before s pre) ≡ true
  finished_lead s pre e = stay true _ s kind before [] 0 pre e

  settled_moves : (pre : Terms P) → all_finished pre ≡ true → (t : Term P) (p : Path) (ps : List Path) (s : Memories) → moves (front s t) s ≡ p ∷ ps →
      (qs : List Path) × (moves (front s (list kind before (◌⊕◌ pre (also t ts)))) s ≡ (count_of (lead kind before s pre) ∷ p) ∷ qs)
  settled_moves pre e t p ps s q =
      let m = first_moves kind before o (lead kind before s pre) (rest kind before s pre (finished (front s t)) ts) (finished_lead s pre e) (front s t) p ps s q in
      (m.0, ap (λ w. moves w s) (list_front kind before s pre t ts e) ∙ m.1)

  settled_fire : (pre : Terms P) → all_finished pre ≡ true → (t : Term P) (p : Path) (s : Memories) →
      fire (front s (list kind before (◌⊕◌ pre (also t ts)))) (count_of (lead kind before s pre) ∷ p) s
      ≡ map_move (λ x. list kind before (◌⊕◌ (lead kind before s pre) (also x (rest kind before s pre (finished (front s t)) ts)))) (fire (front s t) p s)
  settled_fire pre e t p s =
      ap (λ w. fire w (count_of (lead kind before s pre) ∷ p) s) (list_front kind before s pre t ts e)
      ∙ fire_first kind before o (lead kind before s pre) (rest kind before s pre (finished (front s t)) ts) (finished_lead s pre e) (front s t) p s

  -- after its move, those behind it are settled as if they had not been before
  settled_alike : (pre : Terms P) → all_finished pre ≡ true → count_of pre ≡ number → (t y x : Term P) (p : Path) (ps : List Path) (s : Memories) → moves (front s t) s ≡ p ∷ ps → (u : Change) → Within V u →
      front (apply u s) y ≡ front (apply u s) x →
      front (apply u s) (list kind before (◌⊕◌ (lead kind before s pre) (also y (rest kind before s pre (finished (front s t)) ts)))) ≡ front (apply u s) (list kind before (◌⊕◌ (lead kind before s pre) (also x ts)))
  settled_alike pre e c t y x p ps s q u w same =
      let pre' : Terms P = lead kind before s pre in
      let e' : all_finished pre' ≡ true = finished_lead s pre e in
      let down : finished (front s t) ≡ false = unfinished_of (front s t) s p ps q in
      let apart' : Apart kind before V (count_of pre) ts = subst (λ k. Apart kind before V k ts) (sym c) apart in
      let r : rest kind before (apply u s) pre' (finished (front (apply u s) x)) (rest kind before s pre false ts) ≡ rest kind before (apply u s) pre' (finished (front (apply u s) x)) ts =
      rest_again kind before V s u w pre pre' (sym (count_settled true _ s kind before [] 0 pre)) (finished (front (apply u s) x)) ts apart' in
      list_front kind before (apply u s) pre' y (rest kind before s pre (finished (front s t)) ts) e'
      ∙ (λ i. list kind before (◌⊕◌ (lead kind before (apply u s) pre') (also (same i) (rest kind before (apply u s) pre' (finished (same i)) (rest kind before s pre (down i) ts)))))
      ∙ ap (λ us. list kind before (◌⊕◌ (lead kind before (apply u s) pre') (also (front (apply u s) x) us))) r
      ∙ sym (list_front kind before (apply u s) pre' x ts e')

  -- moves of the part are moves of the list
  list_leads : (k : ℕ) (pre : Terms P) → all_finished pre ≡ true → count_of pre ≡ number → (t : Term P) (s : Memories) (n : ℕ) (t' : Term P) (s' : Memories) (n' : ℕ) → Leads V k t s n t' s' n' →
      (post : Terms P) × (all_finished post ≡ true) × (count_of post ≡ number) × Leads W k (list kind before (◌⊕◌ pre (also t ts))) s n (list kind before (◌⊕◌ post (also t' ts))) s' n'
  list_leads zero pre e c t s n t' s' n' a = (
    pre,
    e,
    c,
    (
      list_front kind before s pre t ts e ∙ (λ i. list kind before (◌⊕◌ (lead kind before s pre) (also (a.0 i) (rest kind before s pre (finished (a.0 i)) ts)))) ∙ sym (list_front kind before s pre t' ts e),
      a.1,
      a.2,
    ),
  )
  list_leads (suc k) pre e c t s n t' s' n' a =
      let pre' : Terms P = lead kind before s pre in
      let m = settled_moves pre e t a.0 a.1 s a.7 in
      let later : (post : Terms P) × (all_finished post ≡ true) × (count_of post ≡ number) × Leads W k (list kind before (◌⊕◌ pre' (also a.5 ts))) (apply a.3 s) a.6 (list kind before (◌⊕◌ post (also t' ts))) s' n' =
      list_leads k pre' (finished_lead s pre e) (count_settled true _ s kind before [] 0 pre ∙ c) a.5 (apply a.3 s) a.6 t' s' n' a.12 in (
        later.0,
        later.1,
        later.2,
        (
          count_of pre' ∷ a.0,
          m.0,
          a.2,
          a.3,
          list kind before (◌⊕◌ pre' (also a.4 (rest kind before s pre (finished (front s t)) ts))),
          list kind before (◌⊕◌ pre' (also a.5 ts)),
          a.6,
          m.1,
          settled_fire pre e t a.0 s ∙ ap (map_move (λ x. list kind before (◌⊕◌ pre' (also x (rest kind before s pre (finished (front s t)) ts))))) a.8,
          settled_alike pre e c t a.4 a.5 a.0 a.1 s a.7 a.3 a.10 a.9,
          within_up V W up a.3 a.10,
          a.11,
          later.3,
        ),
      )

  list_fails : (pre : Terms P) → all_finished pre ≡ true → (t : Term P) (s : Memories) (n : ℕ) (z : Outcome P Reached) → FailsNow t s n z → FailsNow (list kind before (◌⊕◌ pre (also t ts))) s n z
  list_fails pre e t s n z h =
      let m = settled_moves pre e t h.0 h.1 s h.2 in (
        count_of (lead kind before s pre) ∷ h.0,
        m.0,
        m.1,
        subst (λ w. FailsBy w n z) (sym (settled_fire pre e t h.0 s))
            (fails_map (λ x. list kind before (◌⊕◌ (lead kind before s pre) (also x (rest kind before s pre (finished (front s t)) ts)))) (fire (front s t) h.0 s) n z h.3),
      )

  -- a stop of the part is one of the list
  list_stops : (pre : Terms P) → all_finished pre ≡ true → count_of pre ≡ number → (t : Term P) (s : Memories) (n : ℕ) (z : Outcome P Reached) → Stops V t s n z → Stops W (list kind before (◌⊕◌ pre (also t ts))) s n z
  list_stops pre e c t s n z h =
      let a = list_leads h.0 pre e c t s n h.1 h.2 h.3 h.4 in
      (h.0, list kind before (◌⊕◌ a.0 (also h.1 ts)), h.2, h.3, a.3, list_fails a.0 a.1 h.1 h.2 h.3 z h.5)

  -- a list whose first unfinished part agrees
  pub list_agrees : (d : ℕ) (pre : Terms P) → all_finished pre ≡ true → count_of pre ≡ number → (t : Term P) (s : Memories) (n : ℕ) (r : Coming P) (go : Memories → ℕ → Coming P) →
      ((post : Terms P) → all_finished post ≡ true → count_of post ≡ number → (t' : Term P) (s' : Memories) (m : ℕ) → length s' ≡ length s → finished t' ≡ true →
      Agrees W d (list kind before (◌⊕◌ post (also t' ts))) s' m (go s' m)) →
      Agrees V d t s n r → Agrees W d (list kind before (◌⊕◌ pre (also t ts))) s n (and_then r go)
  list_agrees d pre e c t s n (Some (Done now)) go h a =
      let l = list_leads a.0 pre e c t s n a.1 now.memories now.turns a.2 in
      agrees_then W d d a.0 (omega arith) (list kind before (◌⊕◌ pre (also t ts))) s n (list kind before (◌⊕◌ l.0 (also a.1 ts))) now.memories now.turns (go now.memories now.turns)
      l.3 (h l.0 l.1 l.2 a.1 now.memories now.turns (leads_length V a.0 t s n a.1 now.memories now.turns a.2) a.3)
  list_agrees d pre e c t s n (Some (Faulted f)) go h a = list_stops pre e c t s n (Faulted f) a
  list_agrees d pre e c t s n (Some Spent) go h a = list_stops pre e c t s n Spent a
  list_agrees d pre e c t s n None go h a =
      let l = list_leads a.0 pre e c t s n a.1 a.2 a.3 a.5 in
      (a.0, list kind before (◌⊕◌ l.0 (also a.1 ts)), a.2, a.3, a.4, l.3)

-- one part more before the others
pub plus_assoc : {P : Type 0} (ts : Terms P) (t : Term P) (us : Terms P) → ◌⊕◌ (◌⊕◌ ts (also t none)) us ≡ ◌⊕◌ ts (also t us)
plus_assoc none t us = refl
plus_assoc (also q ts) t us = ap (also q) (plus_assoc ts t us)

-- one finished part more
pub plus_finished : {P : Type 0} (ts : Terms P) (t : Term P) → all_finished ts ≡ true → finished t ≡ true → all_finished (◌⊕◌ ts (also t none)) ≡ true
plus_finished none t e f = both_true (finished t) true f refl
plus_finished (also q ts) t e f = let h = both (finished q) (all_finished ts) e in both_true (finished q) (all_finished (◌⊕◌ ts (also t none))) h.0 (plus_finished ts t h.1 f)

-- parts, and then no others
pub plus_none : {P : Type 0} (ts : Terms P) → ◌⊕◌ ts none ≡ ts
plus_none none = refl
plus_none (also t ts) = ap (also t) (plus_none ts)

-- one more part is one more
pub count_more : {P : Type 0} (pre : Terms P) (t : Term P) → count_of (◌⊕◌ pre (also t none)) ≡ suc (count_of pre)
count_more none t = refl
count_more (also u pre) t = ap suc (count_more pre t)
