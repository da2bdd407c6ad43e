-- Work does the same from stacks of memories that it cannot tell apart; so a run that is done is a list of its changes.
use Rattle.std.proofs.Common.{◌≡◌, ℕ, zero, suc, ◌+◌, List, [], ◌∷◌, ◌++◌, drop, Option, Some, None, Result, Ok, Err, true, false, refl, sym, ◌∙◌, ap, subst, arith, inl, inr, ◌⊎◌}
use Rattle.std.specs.Bool.{⊤}
use Rattle.sd_work.specs.Memory.{Memories, Reference, seen, look, waiting}
use Rattle.sd_work.specs.Change.{Change, nothing, write, push, take, apply, outer, outer_write, own_after}
use Rattle.sd_work.specs.Move.{Fault}
use Rattle.sd_work.specs.Exit.{Values, Guard, Exit, with_value, all_seen, decided, passed, or_later, first_exit}
use Rattle.sd_work.specs.Residual.{Term, leaf, list, owning, nested, ended, pool, Terms, none, also, Actives, idle, busy}
use Rattle.sd_work.specs.Step.{Done}
use Rattle.sd_work.specs.Touch.{Touch, reads, writes, pushes, takes, inner, IsRead, SomeRead, GuardTouches, SomeExitTouches, Touches, SomePartTouches, SomeActiveTouches}
use Rattle.sd_work.specs.BigStep.{Reached, Coming, reached, leaving, big_step, big_parts, big_active}
use Rattle.sd_work.proofs.Changes.{apply-own}
use Rattle.sd_exchange.proofs.reorder_lemmas.Following.{IsMadeBy, IsBlindTo, Follows, follow-reached, follow-then, follow-leaf, SameWay, follow-states, follow-takes}

-- ---- fewer touches

made_more : (T U : Touch → Type 0) → ((a : Touch) → U a → T a) → (c : Change) → IsMadeBy U c → IsMadeBy T c
made_more T U h nothing m = tt
made_more T U h (write to by value) m = h (writes to by) m
made_more T U h (push level container value) m = h (pushes level container) m
made_more T U h (take level container position) m = h (takes level container) m

pub blind-less : (T U : Touch → Type 0) (R : Memories → Memories → Type 0) → ((a : Touch) → U a → T a) → IsBlindTo T R → IsBlindTo U R
blind-less T U R h b =
    record {
      same_reads = λ from t. b.same_reads from (h (reads from) t);
      same_takes = λ level container t. b.same_takes level container (h (takes level container) t);
      stay = λ c m. b.stay c (made_more T U h c m);
    }

-- the other way round
pub blind-back : (T : Touch → Type 0) (R : Memories → Memories → Type 0) → IsBlindTo T R → IsBlindTo T (λ s u. R u s)
blind-back T R b =
    record {
      same_reads = λ from t s u r. sym (b.same_reads from t u s r);
      same_takes = λ level container t s u r. sym (b.same_takes level container t u s r);
      stay = λ c m s u r. b.stay c m u s r;
    }

-- ---- inside an owner

-- one innermost memory, and the stacks below it so related
abbrev pub Under : (Memories → Memories → Type 0) → Memories → Memories → Type 0
Under R [] u = ⊥
Under R (own ∷ s) [] = ⊥
Under R (own ∷ s) (other ∷ u) = (own ≡ other) × R s u

outer_made : (T : Touch → Type 0) (c : Change) → IsMadeBy T c → IsMadeBy (λ a. T (inner a)) (outer c)
outer_made T nothing m = tt
outer_made T (write to by value) m = at_level to.level to.container to.element m
  where
    at_level : (l c p : ℕ) → T (writes (record { level = l; container = c; element = p }) by) → IsMadeBy (λ a. T (inner a)) (outer_write l c p by value)
    at_level zero c p t = tt
    at_level (suc l) c p t = t
outer_made T (push zero container value) m = tt
outer_made T (push (suc level) container value) m = m
outer_made T (take zero container position) m = tt
outer_made T (take (suc level) container position) m = m

read_under : (T : Touch → Type 0) (R : Memories → Memories → Type 0) → IsBlindTo (λ a. T (inner a)) R → (l c p : ℕ) → T (reads (record { level = l; container = c; element = p })) →
    (s u : Memories) → Under R s u → look (record { level = l; container = c; element = p }) s ≡ look (record { level = l; container = c; element = p }) u
read_under T R b l c p t [] u r = elim r [ ]
read_under T R b l c p t (own ∷ s) [] r = elim r [ ]
read_under T R b zero c p t (own ∷ s) (other ∷ u) (e, r) = ap (λ m. look (record { level = 0; container = c; element = p }) (m ∷ [])) e
read_under T R b (suc l) c p t (own ∷ s) (other ∷ u) (e, r) = b.same_reads (record { level = l; container = c; element = p }) t s u r

take_under : (T : Touch → Type 0) (R : Memories → Memories → Type 0) → IsBlindTo (λ a. T (inner a)) R → (l c : ℕ) → T (takes l c) → (s u : Memories) → Under R s u → waiting l c s ≡ waiting l c u
take_under T R b l c t [] u r = elim r [ ]
take_under T R b l c t (own ∷ s) [] r = elim r [ ]
take_under T R b zero c t (own ∷ s) (other ∷ u) (e, r) = ap (λ m. waiting 0 c (m ∷ [])) e
take_under T R b (suc l) c t (own ∷ s) (other ∷ u) (e, r) = b.same_takes l c t s u r

stay_under : (T : Touch → Type 0) (R : Memories → Memories → Type 0) → IsBlindTo (λ a. T (inner a)) R → (c : Change) → IsMadeBy T c → (s u : Memories) → Under R s u → Under R (apply c s) (apply c u)
stay_under T R b c m [] u r = elim r [ ]
stay_under T R b c m (own ∷ s) [] r = elim r [ ]
stay_under T R b c m (own ∷ s) (other ∷ u) (e, r) =
    subst (λ x. Under R x (apply c (other ∷ u))) (sym (apply-own c own s))
    (subst (λ x. Under R (own_after c own ∷ apply (outer c) s) x) (sym (apply-own c other u))
    (ap (own_after c) e, b.stay (outer c) (outer_made T c m) s u r))

pub blind-under : (T : Touch → Type 0) (R : Memories → Memories → Type 0) → IsBlindTo (λ a. T (inner a)) R → IsBlindTo T (Under R)
blind-under T R b =
    record {
      same_reads = λ from t s u r. read_under T R b from.level from.container from.element t s u r;
      same_takes = λ level container t s u r. take_under T R b level container t s u r;
      stay = λ c m s u r. stay_under T R b c m s u r;
    }

pub follow-leaving : {P Q : Type 0} (R : Memories → Memories → Type 0) (n : ℕ) (came : Coming P) (other : ℕ → Coming Q) → Follows (Under R) n came other → Follows R n (leaving came) (λ m. leaving (other m))
follow-leaving {P} {Q} R n came other h = follow-then (Under R) R n came other _ _ h dropped
  where
    dropped : (s u : Memories) (m : ℕ) → Under R s u → Follows {P = P} {Q = Q} R m (reached (drop 1 s) m) (reached (drop 1 u))
    dropped [] u m r = elim r [ ]
    dropped (own ∷ s) [] m r = elim r [ ]
    dropped (own ∷ s) (other ∷ u) m r = follow-reached R m s u r.1

-- ---- ways out

seen_same : (T : Touch → Type 0) (R : Memories → Memories → Type 0) → IsBlindTo T R → (r : Option Reference) → ((a : Touch) → IsRead r a → T a) → (s u : Memories) → R s u → seen r s ≡ seen r u
seen_same T R b None t s u r = refl
seen_same T R b (Some from) t s u r = ap Some (b.same_reads from (t (reads from) refl) s u r)

pub all-seen-same : (T : Touch → Type 0) (R : Memories → Memories → Type 0) → IsBlindTo T R → (rs : List (Option Reference)) → ((a : Touch) → SomeRead rs a → T a) → (s u : Memories) → R s u → all_seen rs s ≡ all_seen rs u
all-seen-same T R b [] t s u r = refl
all-seen-same T R b (x ∷ rs) t s u r =
    let e = seen_same T R b x (λ a h. t a (inl h)) s u r in
    let e' = all-seen-same T R b rs (λ a h. t a (inr h)) s u r in
    λ i. with_value (e i) (e' i)

pub exit-same : {P : Type 0} (T : Touch → Type 0) (R : Memories → Memories → Type 0) → IsBlindTo T R → (es : List (Exit P)) → ((a : Touch) → SomeExitTouches es a → T a) → (s u : Memories) → R s u → first_exit es s ≡ first_exit es u
exit-same T R b [] t s u r = refl
exit-same {P} T R b (e ∷ es) t s u r =
    let p = passed_same e.when (λ a h. t a (inl h)) in
    let q = exit-same T R b es (λ a h. t a (inr h)) s u r in
    λ i. or_later (p i) e (q i)
  where
    passed_same : (g : Option (Guard P)) → ((a : Touch) → GuardTouches g a → T a) → passed g s ≡ passed g u
    passed_same None t = refl
    passed_same (Some g) t = ap (decided g) (all-seen-same T R b g.reads t s u r)

same_way : {P : Type 0} (w : Result (Option (Exit P)) (Fault P)) → SameWay w w
same_way (Err fault) = tt
same_way (Ok None) = tt
same_way (Ok (Some e)) = (refl, refl, refl)

-- ---- whole terms

mutual
  pub follow-step : {P : Type 0} (t : Term P) (R : Memories → Memories → Type 0) → IsBlindTo (Touches t) R → (most : ℕ) (s u : Memories) (n : ℕ) → R s u → Follows R n (big_step t most s n) (big_step t most u)
  follow-step (leaf place work) R b most s u n r = follow-leaf (Touches (leaf place work)) R b place place work (λ a h. h) s u r n
  follow-step (list kind before parts) R b most s u n r = follow-parts parts R b most s u n r
  follow-step (owning own part) R b most s u n r =
      follow-leaving R n _ _ (follow-step part (Under R) (blind-under (Touches part) R b) most (own ∷ s) (own ∷ u) n (refl, r))
  follow-step {P} (nested body exits own state values part) R b most s u n r =
      follow-leaving R n _ _ (follow-then (Under R) (Under R) n _ _ _ _
      (follow-step part (Under R) (blind-less T (Touches part) (Under R) (λ a h. inl h) below) most (own ∷ s) (own ∷ u) n (refl, r))
      (λ s u m r. follow-states (Under R) (λ state values. big_step (body state values) most) (λ state values. big_step (body state values) most) exits exits
      (λ state values s u n r. follow-step (body state values) (Under R) (blind-less T (Touches (body state values)) (Under R) (λ a h. inr (inl (state, values, h))) below) most s u n r)
      (λ state values s u r. subst (λ w. SameWay (first_exit (exits state values) s) w)
      (exit-same T (Under R) below (exits state values) (λ a h. inr (inr (state, values, h))) s u r) (same_way (first_exit (exits state values) s)))
      most state values s u m r))
    where
      T : Touch → Type 0
      T a = Touches part a ⊎ (((state : ℕ) × (values : Values) × Touches (body state values) a) ⊎ ((state : ℕ) × (values : Values) × SomeExitTouches (exits state values) a))

      below : IsBlindTo T (Under R)
      below = blind-under T R b
  follow-step (ended own) R b most s u n r = follow-reached R n s u r
  follow-step (pool level container body active true) R b most s u n r = follow-reached R n s u r
  follow-step (pool level container body active false) R b most s u n r =
      follow-then R R n _ _ _ _ (follow-active active R (blind-less (Touches (pool level container body active false)) (SomeActiveTouches active) R (λ a h. inr (inl h)) b) most s u n r)
      (λ s u m r. follow-takes R level container (λ value. big_step (body value) most) (λ value. big_step (body value) most)
      (λ value s u n r. follow-step (body value) R (blind-less (Touches (pool level container body active false)) (Touches (body value)) R (λ a h. inr (inr (value, h))) b) most s u n r)
      (λ s u r. b.same_takes level container (inl refl) s u r)
      (λ s u r. b.stay (take level container 0) (inl refl) s u r)
      most s u m r)

  pub follow-parts : {P : Type 0} (ts : Terms P) (R : Memories → Memories → Type 0) → IsBlindTo (SomePartTouches ts) R → (most : ℕ) (s u : Memories) (n : ℕ) → R s u → Follows R n (big_parts ts most s n) (big_parts ts most u)
  follow-parts none R b most s u n r = follow-reached R n s u r
  follow-parts (also t ts) R b most s u n r =
      follow-then R R n _ _ _ _ (follow-step t R (blind-less (SomePartTouches (also t ts)) (Touches t) R (λ a h. inl h) b) most s u n r)
      (λ s u m r. follow-parts ts R (blind-less (SomePartTouches (also t ts)) (SomePartTouches ts) R (λ a h. inr h) b) most s u m r)

  pub follow-active : {P : Type 0} (ts : Actives P) (R : Memories → Memories → Type 0) → IsBlindTo (SomeActiveTouches ts) R → (most : ℕ) (s u : Memories) (n : ℕ) → R s u → Follows R n (big_active ts most s n) (big_active ts most u)
  follow-active idle R b most s u n r = follow-reached R n s u r
  follow-active (busy value t ts) R b most s u n r =
      follow-then R R n _ _ _ _ (follow-step t R (blind-less (SomeActiveTouches (busy value t ts)) (Touches t) R (λ a h. inl h) b) most s u n r)
      (λ s u m r. follow-active ts R (blind-less (SomeActiveTouches (busy value t ts)) (SomeActiveTouches ts) R (λ a h. inr h) b) most s u m r)

-- ---- what a run does

-- changes one after another
abbrev pub apply_all : List Change → Memories → Memories
apply_all [] s = s
apply_all (c ∷ cs) s = apply_all cs (apply c s)

abbrev pub AreMadeBy : (Touch → Type 0) → List Change → Type 0
AreMadeBy T [] = ⊤
AreMadeBy T (c ∷ cs) = IsMadeBy T c × AreMadeBy T cs

apply_last : (cs : List Change) (c : Change) (s : Memories) → apply_all (cs ++ c ∷ []) s ≡ apply c (apply_all cs s)
apply_last [] c s = refl
apply_last (d ∷ cs) c s = apply_last cs c (apply d s)

made_last : (T : Touch → Type 0) (cs : List Change) (c : Change) → AreMadeBy T cs → IsMadeBy T c → AreMadeBy T (cs ++ c ∷ [])
made_last T [] c h m = (m, tt)
made_last T (d ∷ cs) c h m = (h.0, made_last T cs c h.1 m)

-- work with these touches led from here to there
abbrev Grown : (Touch → Type 0) → Memories → Memories → Memories → Type 0
Grown T begin s u = (s ≡ u) × ((cs : List Change) × AreMadeBy T cs × (s ≡ apply_all cs begin))

blind_grown : (T : Touch → Type 0) (begin : Memories) → IsBlindTo T (Grown T begin)
blind_grown T begin =
    record {
      same_reads = λ from t s u r. ap (look from) r.0;
      same_takes = λ level container t s u r. ap (waiting level container) r.0;
      stay = λ c m s u r. (ap (apply c) r.0, (r.1.0 ++ c ∷ [], made_last T r.1.0 c r.1.1 m, ap (apply c) r.1.2 ∙ sym (apply_last r.1.0 c begin)));
    }

-- done from here it leads there and spends so many turns, whatever turns there are
abbrev pub Does : {P : Type 0} → Term P → (most : ℕ) → Memories → (turns : ℕ) → Memories → Type 0
Does t most s k u = (m : ℕ) → big_step t most s (k + m) ≡ reached u m

-- what was done is done with other turns, and was changes of what is touched
pub done-does : {P : Type 0} (t : Term P) (most n : ℕ) (s : Memories) (x : Reached) → big_step t most s n ≡ Some (Done x) →
    (k : ℕ) × (n ≡ k + x.turns) × Does t most s k x.memories × ((cs : List Change) × AreMadeBy (Touches t) cs × (x.memories ≡ apply_all cs s))
done-does t most n s x e =
    let a = (follow-step t (Grown (Touches t) s) (blind_grown (Touches t) s) most s s n (refl, ([], tt, refl))).done x e in
    (a.0, a.2, λ m. (a.3 m ∙ ap (λ u. reached u m) (sym a.4.0)), a.4.1)

-- work that is done from here is done from there
pub does-follow : {P : Type 0} (t : Term P) (R : Memories → Memories → Type 0) → IsBlindTo (Touches t) R → (most k : ℕ) (s u v : Memories) → Does t most s k v → R s u → (w : Memories) × Does t most u k w × R v w
does-follow t R b most k s u v d r =
    let a = (follow-step t R b most s u (k + 0) r).done (record { memories = v; turns = 0 }) (d 0) in
    let same : k ≡ a.0 = (let p = a.2 in omega (arith, p)) in
    (a.1, subst (λ j. Does t most u j a.1) (sym same) a.3, a.4)

-- and what it did was changes of what it touches
pub does-changes : {P : Type 0} (t : Term P) (most k : ℕ) (s v : Memories) → Does t most s k v → (cs : List Change) × AreMadeBy (Touches t) cs × (v ≡ apply_all cs s)
does-changes t most k s v d = (done-does t most (k + 0) s (record { memories = v; turns = 0 }) (d 0)).3
