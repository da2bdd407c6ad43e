-- The leftmost moves of a term do what it does all at once: lists, pools and the whole term.
use Rattle.std.proofs.Common.{◌≡◌, ℕ, zero, suc, ◌+◌, ◌<◌, ℤ, [], ◌∷◌, length, Bool, true, false, refl, sym, ◌∙◌, ap, subst, arith, inl, inr}
use Rattle.sd_work.specs.Memory.{Memories}
use Rattle.sd_work.specs.Leaf.{reading, doing}
use Rattle.sd_work.specs.Residual.{Parts, Items, Term, leaf, list, owning, nested, ended, pool, Terms, none, also, Actives, idle, busy, finished, all_finished, none_active, IsOrder, part_at}
use Rattle.sd_work.specs.BigStep.{Coming, reached, and_then, leaving, big_states, big_step, big_parts, big_active, big_takes}
use Rattle.sd_work.specs.Touch.{pushes, Touches, SomePartTouches, SomeActiveTouches}
use Rattle.sd_work.specs.WellFormed.{IsOrdered, AreOrdered, AreActiveOrdered}
use Rattle.sd_work.specs.OrderedPools.{DoesNotFeed, AllButLastFinished, HasOrderedPools, HaveOrderedPools, HaveOrderedActivePools}
use Rattle.sd_work.proofs.left_to_right.Fronts.{◌⊕◌, count_of, Apart}
use Rattle.sd_work.proofs.left_to_right.Leads.{Feeds, Agrees}
use Rattle.sd_work.proofs.left_to_right.LeftmostLists.{list_agrees, plus_assoc, plus_finished, plus_none, count_more}
use Rattle.sd_work.proofs.left_to_right.LeftmostPools.{◌⊞◌, join_assoc, join_idle, join_finished, pool_agrees, takes_agree}
use Rattle.sd_work.proofs.left_to_right.LeftmostOwners.{inside, owned_agrees, agree_doing, agree_reading, then_reached, nest_moves, nest_fires, nest_agrees}
use Rattle.sd_work.proofs.Flags.{both}

-- what is pushed inside an owner is pushed into its own streams or is pushed outside
inside_feeds : (W T : Feeds) → ((l c : ℕ) → T (suc l) c → W l c) → (l c : ℕ) → T l c → inside W l c
inside_feeds W T h zero c t = tt
inside_feeds W T h (suc l) c t = h l c t

-- of these parts, from this number on, the earlier feed no later ones that are not behind them
abbrev Unfed : {P : Type 0} → Parts → (ℕ → ℕ → Bool) → (number : ℕ) → Terms P → Type 0
Unfed kind before number parts = kind ≡ Items → (i j : ℕ) → i < j → before (number + i) (number + j) ≡ false → DoesNotFeed (part_at parts i) (part_at parts j)

unfed_first : {P : Type 0} (kind : Parts) (before : ℕ → ℕ → Bool) (number : ℕ) (t : Term P) (ts : Terms P) → Unfed kind before number (also t ts) → Apart kind before (λ l c. Touches t (pushes l c)) number ts
unfed_first kind before number t ts h e i q l c into touch =
    let a : number ≡ number + 0 = omega arith in
    let b : suc number + i ≡ number + suc i = omega arith in
    h e 0 (suc i) (omega arith) (subst (λ n. before n (number + suc i) ≡ false) a (subst (λ n. before number n ≡ false) b q)) l c into touch

unfed_later : {P : Type 0} (kind : Parts) (before : ℕ → ℕ → Bool) (number : ℕ) (t : Term P) (ts : Terms P) → Unfed kind before number (also t ts) → Unfed kind before (suc number) ts
unfed_later kind before number t ts h e i j up q =
    let a : suc number + i ≡ number + suc i = omega arith in
    let b : suc number + j ≡ number + suc j = omega arith in
    h e (suc i) (suc j) (omega arith) (subst (λ n. before n (number + suc j) ≡ false) a (subst (λ n. before (suc number + i) n ≡ false) b q))

unfed_all : {P : Type 0} (kind : Parts) (before : ℕ → ℕ → Bool) (parts : Terms P) → (kind ≡ Items → (i j : ℕ) → i < j → before i j ≡ false → DoesNotFeed (part_at parts i) (part_at parts j)) → Unfed kind before 0 parts
unfed_all kind before parts h e i j up q =
    let a : 0 + i ≡ i = omega arith in
    let b : 0 + j ≡ j = omega arith in
    h e i j up (subst (λ n. before n j ≡ false) a (subst (λ n. before (0 + i) n ≡ false) b q))

-- what is finished does nothing
mutual
  done_already : {P : Type 0} (t : Term P) → finished t ≡ true → (most : ℕ) (s : Memories) (n : ℕ) → big_step t most s n ≡ reached s n
  done_already (leaf place (reading begun left values evaluation)) e d s n = cc
  done_already (leaf place (doing [])) e d s n = refl
  done_already (leaf place (doing (next ∷ left))) e d s n = cc
  done_already (list kind before parts) e d s n = all_done parts e d s n
  done_already (owning own part) e d s n = ap leaving (done_already part e d (own ∷ s) n)
  done_already (nested body exits own state values part) e d s n = cc
  done_already (ended own) e d s n = refl
  done_already (pool level container body active true) e d s n = refl
  done_already (pool level container body active false) e d s n = cc

  all_done : {P : Type 0} (ts : Terms P) → all_finished ts ≡ true → (most : ℕ) (s : Memories) (n : ℕ) → big_parts ts most s n ≡ reached s n
  all_done none e d s n = refl
  all_done (also t ts) e d s n =
      let h = both (finished t) (all_finished ts) e in
      ap (λ o. and_then o (big_parts ts d)) (done_already t h.0 d s n) ∙ all_done ts h.1 d s n

mutual
  -- the leftmost moves of a term do what it does all at once, or are at least as many as the transitions and takes that are allowed
  pub agree : {P : Type 0} (term : Term P) → IsOrdered term → (depth : ℕ) → HasOrderedPools depth term → (W : Feeds) → ((l c : ℕ) → Touches term (pushes l c) → W l c) → (most : ℕ) (memories : Memories) (turns : ℕ) → length memories ≡ depth →
      Agrees W most term memories turns (big_step term most memories turns)
  agree (leaf place (reading begun left values evaluation)) h depth op W w d s n len = agree_reading W d place begun left values evaluation (λ given effects e l c t. w l c (inr (given, effects, e, t))) s n
  agree (leaf place (doing left)) h depth op W w d s n len = agree_doing W d place left w s n
  agree (list kind before parts) h depth op W w d s n len = agree_parts parts h.1 depth op.0 W w kind before h.0 none refl 0 refl (unfed_all kind before parts op.1) d s n len
  agree (owning own part) h depth op W w d s n len =
      subst (λ o. Agrees W d (owning own part) s n (leaving o)) (then_reached (big_step part d (own ∷ s) n))
      (owned_agrees W d owning (λ f t s'. refl) (λ f t p ps s' q. q) (λ f t p ps s' q. refl) own part s n (big_step part d (own ∷ s) n) (λ s' m. reached s' m)
      (λ f x s' k l e. (0, owning f x, (refl, refl, refl), e))
      (agree part h (suc depth) op (inside W) (inside_feeds W (λ l c. Touches part (pushes l c)) w) d (own ∷ s) n (ap suc len)))
  agree {P} (nested body exits own state values part) h depth op W w d s n len =
      owned_agrees W d (λ g t. nested body exits g state values t) (λ g t s'. refl)
      (λ g t p ps s'. nest_moves body exits state values g t p ps s')
      (λ g t p ps s'. nest_fires body exits state values g t p ps s')
      own part s n (big_step part d (own ∷ s) n) (big_states d (λ state values. big_step (body state values) d) exits state values)
      (λ f x s' k l e.
      nest_agrees W body exits (λ state values. big_step (body state values) d) d depth
      (λ k v s' m l. agree (body k v) (h.1 k v) (suc depth) (op.1 k v) (inside W) (inside_feeds W (λ l c. Touches (body k v) (pushes l c)) (λ l c t. w l c (inr (inl (k, v, t))))) d s' m l)
      d (omega arith) state values f x s' k (l ∙ len) e)
      (agree part h.0 (suc depth) op.0 (inside W) (inside_feeds W (λ l c. Touches part (pushes l c)) (λ l c t. w l c (inl t))) d (own ∷ s) n (ap suc len))
  agree (ended own) h depth op W w d s n len = (0, ended own, (refl, refl, refl), refl)
  agree (pool level container body active true) h depth op W w d s n len = (0, pool level container body active true, (refl, refl, refl), refl)
  agree (pool level container body active false) h depth op W w d s n len =
      agree_active active h.0 depth op.1 op.2 W (λ l c t. w l c (inr (inl t))) level container body d (big_takes d level container (λ value. big_step (body value) d))
      (λ b e s' m l.
      takes_agree W level container body (λ value. big_step (body value) d) depth op.0 d
      (λ v s' m l. agree (body v) (h.1 v) depth (op.3 v) W (λ l c t. w l c (inr (inr (v, t)))) d s' m l)
      d (omega arith) b e s' m l)
      idle refl s n len

  -- the same of the parts of a list, behind finished ones
  agree_parts : {P : Type 0} (parts : Terms P) → AreOrdered parts → (depth : ℕ) → HaveOrderedPools depth parts → (W : Feeds) → ((l c : ℕ) → SomePartTouches parts (pushes l c) → W l c) → (kind : Parts) (before : ℕ → ℕ → Bool) → IsOrder before →
      (pre : Terms P) → all_finished pre ≡ true → (number : ℕ) → count_of pre ≡ number → Unfed kind before number parts →
      (most : ℕ) (memories : Memories) (turns : ℕ) → length memories ≡ depth → Agrees W most (list kind before (◌⊕◌ pre parts)) memories turns (big_parts parts most memories turns)
  agree_parts none h depth op W w kind before o pre e number c unfed d s n len = (0, list kind before (◌⊕◌ pre none), (refl, refl, refl), ap all_finished (plus_none pre) ∙ e)
  agree_parts {P} (also t ts) h depth op W w kind before o pre e number c unfed d s n len =
      let V : Feeds = λ l c. Touches t (pushes l c) in
      list_agrees V W (λ l c into. w l c (inl into)) kind before o number ts (unfed_first kind before number t ts unfed) d pre e c t s n (big_step t d s n) (big_parts ts d)
      (λ post f g t' s' m l e'.
      subst (λ us. Agrees W d (list kind before us) s' m (big_parts ts d s' m)) (plus_assoc post t' ts)
      (agree_parts ts h.1 depth op.1 W (λ l c into. w l c (inr into)) kind before o (◌⊕◌ post (also t' none)) (plus_finished post t' f e') (suc number) (count_more post t' ∙ ap suc g)
      (unfed_later kind before number t ts unfed) d s' m (l ∙ len)))
      (agree t h.0 depth op.0 V (λ l c into. into) d s n len)

  -- the same of the active terms of a pool, of which all but the last are finished, and then of its takes
  agree_active : {P : Type 0} (active : Actives P) → AreActiveOrdered active → (depth : ℕ) → AllButLastFinished active → HaveOrderedActivePools depth active → (W : Feeds) → ((l c : ℕ) → SomeActiveTouches active (pushes l c) → W l c) →
      (level container : ℕ) (body : ℤ → Term P) (most : ℕ) (then : Memories → ℕ → Coming P) →
      ((b : Actives P) → none_active b ≡ true → (s : Memories) (m : ℕ) → length s ≡ depth → Agrees W most (pool level container body b false) s m (then s m)) →
      (pre : Actives P) → none_active pre ≡ true → (memories : Memories) (turns : ℕ) → length memories ≡ depth →
      Agrees W most (pool level container body (◌⊞◌ pre active) false) memories turns (and_then (big_active active most memories turns) then)
  agree_active idle h depth al op W w level container body d then later pre e s n len =
      subst (λ a. Agrees W d (pool level container body a false) s n (then s n)) (sym (join_idle pre)) (later pre e s n len)
  agree_active (busy v t idle) h depth al op W w level container body d then later pre e s n len =
      subst (λ o. Agrees W d (pool level container body (◌⊞◌ pre (busy v t idle)) false) s n (and_then o then)) (sym (then_reached (big_step t d s n)))
      (pool_agrees W level container body d pre e v t s n (big_step t d s n) then
      (λ b f t' s' m l e'. later (◌⊞◌ b (busy v t' idle)) (join_finished b v t' f e') s' m (l ∙ len))
      (agree t h.0 depth op.0 W (λ l c into. w l c (inl into)) d s n len))
  agree_active (busy v t (busy u q a)) h depth al op W w level container body d then later pre e s n len =
      subst (λ o. Agrees W d (pool level container body (◌⊞◌ pre (busy v t (busy u q a))) false) s n (and_then (and_then o (big_active (busy u q a) d)) then)) (sym (done_already t al.0 d s n))
      (subst (λ b. Agrees W d (pool level container body b false) s n (and_then (big_active (busy u q a) d s n) then)) (join_assoc pre v t (busy u q a))
      (agree_active (busy u q a) h.1 depth al.1 op.1 W (λ l c into. w l c (inr into)) level container body d then later (◌⊞◌ pre (busy v t idle)) (join_finished pre v t e al.0) s n len))
