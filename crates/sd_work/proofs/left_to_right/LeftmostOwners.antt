-- The leftmost moves of a leaf, an owner and a run of a graph do what it does all at once.
use Rattle.std.proofs.Common.{◌≡◌, ℕ, zero, suc, ◌≤◌, List, [], ◌∷◌, ◌++◌, drop, length, Option, Some, None, Result, Ok, Err, ℤ, Bool, true, false, cond, not, refl, sym, ◌∙◌, ap, subst, arith, inl, inr}
use Rattle.std.specs.Bool.{⊤}
use Rattle.sd_num.specs.declared.resolution.Resolution.{Resolution}
use Rattle.sd_work.specs.declared.fault.FaultKind.{FaultKind}
use Rattle.sd_work.specs.declared.fault.FaultKind.TheVariants.{Subscript}
use Rattle.sd_work.specs.Memory.{Memory, Memories, Reference, seen}
use Rattle.sd_work.specs.Change.{Change, nothing, write, push, take, apply, outer, outer_write, innermost, own_after}
use Rattle.sd_work.specs.Leaf.{Pending, write_value, transfer, push_to, Evaluation, Leaf, reading, doing}
use Rattle.sd_work.specs.Move.{Fault, fault_at, Move, fails, goes, no_move, map_move}
use Rattle.sd_work.specs.LeafMove.{write_move, do_move, read_move, evaluation_move}
use Rattle.sd_work.specs.Exit.{Values, Exit, first_exit}
use Rattle.sd_work.specs.Residual.{Term, leaf, nested, ended, finished}
use Rattle.sd_work.specs.Moves.{Path, moves}
use Rattle.sd_work.specs.Fire.{owned, transition, fire}
use Rattle.sd_work.specs.Step.{Outcome, Done, Faulted, Spent}
use Rattle.sd_work.specs.BigStep.{Reached, Coming, reached, and_then, spending, after_move, big_doing, big_evaluated, after_read, big_reading, leaving, after_exit, big_states}
use Rattle.sd_work.specs.Touch.{pushes, PendingTouches, SomePendingTouches}
use Rattle.sd_work.proofs.Absorbing.{stays}
use Rattle.sd_work.proofs.Changes.{apply-own}
use Rattle.sd_work.proofs.left_to_right.Leads.{front, Feeds, Within, Leads, FailsBy, FailsNow, Stops, Agrees, clear}
use Rattle.sd_work.proofs.left_to_right.LeftmostLists.{agrees_then, agrees_less, leads_length, unfinished_of}

-- a failure of the part is one of the owner
fails_owned : {P : Type 0} (make : Memory → Term P → Term P) (own : Memory) (m : Move P (Term P)) (n : ℕ) (o : Outcome P Reached) → FailsBy m n o → FailsBy (owned make own m) n o
fails_owned make own (fails false e) zero o h = h
fails_owned make own (fails false e) (suc n) o h = h
fails_owned make own (fails true e) zero o h = h
fails_owned make own (fails true e) (suc n) o h = h
fails_owned make own (goes true u x) zero o h = h
fails_owned make own (goes true u x) (suc n) o h = elim h [ ]
fails_owned make own (goes false u x) zero o h = elim h [ ]
fails_owned make own (goes false u x) (suc n) o h = elim h [ ]
fails_owned make own no_move zero o h = elim h [ ]
fails_owned make own no_move (suc n) o h = elim h [ ]

-- inside an owner anything may be pushed into its own streams
abbrev pub inside : Feeds → Feeds
inside W zero c = ⊤
inside W (suc l) c = W l c

outside : (W : Feeds) (u : Change) → Within (inside W) u → Within W (outer u)
outside W nothing h = tt
outside W (write to by value) h = write_outside to.level to.container to.element by value
  where
    write_outside : (l c e : ℕ) (by : Option Resolution) (value : ℤ) → Within W (outer_write l c e by value)
    write_outside zero c e by value = tt
    write_outside (suc l) c e by value = tt
outside W (push zero c value) h = tt
outside W (push (suc l) c value) h = h
outside W (take zero c k) h = tt
outside W (take (suc l) c k) h = tt

-- an owner's memory stays on the stack
pub cons_leads : {P : Type 0} (W : Feeds) (k : ℕ) (t : Term P) (f : Memory) (s : Memories) (n : ℕ) (t' : Term P) (s' : Memories) (n' : ℕ) → Leads W k t (f ∷ s) n t' s' n' → (innermost s' ∷ drop 1 s') ≡ s'
cons_leads W zero t f s n t' s' n' a = ap (λ (w : Memories). innermost w ∷ drop 1 w) (sym a.1) ∙ a.1
cons_leads W (suc k) t f s n t' s' n' a =
    cons_leads W k a.5 (own_after a.3 f) (apply (outer a.3) s) a.6 t' s' n' (subst (λ w. Leads W k a.5 w a.6 t' s' n') (apply-own a.3 f s) a.12)

-- inside an owner
module _ {P : Type 0} (W : Feeds) (make : Memory → Term P → Term P)
    (nw : (f : Memory) (t : Term P) (s : Memories) → front s (make f t) ≡ make f (front (f ∷ s) t))
    (mv : (f : Memory) (t : Term P) (p : Path) (ps : List Path) (s : Memories) → moves t (f ∷ s) ≡ p ∷ ps → moves (make f t) s ≡ p ∷ ps)
    (fr : (f : Memory) (t : Term P) (p : Path) (ps : List Path) (s : Memories) → moves t (f ∷ s) ≡ p ∷ ps → fire (make f t) p s ≡ owned make f (fire t p (f ∷ s))) where
  owned_moves : (f : Memory) (t : Term P) (p : Path) (ps : List Path) (s : Memories) → moves (front (f ∷ s) t) (f ∷ s) ≡ p ∷ ps → moves (front s (make f t)) s ≡ p ∷ ps
  owned_moves f t p ps s q = ap (λ w. moves w s) (nw f t s) ∙ mv f (front (f ∷ s) t) p ps s q

  owned_fires : (f : Memory) (t : Term P) (p : Path) (ps : List Path) (s : Memories) → moves (front (f ∷ s) t) (f ∷ s) ≡ p ∷ ps →
      fire (front s (make f t)) p s ≡ owned make f (fire (front (f ∷ s) t) p (f ∷ s))
  owned_fires f t p ps s q = ap (λ w. fire w p s) (nw f t s) ∙ fr f (front (f ∷ s) t) p ps s q

  owned_alike : (u : Change) (f : Memory) (s : Memories) (y x : Term P) → front (apply u (f ∷ s)) y ≡ front (apply u (f ∷ s)) x → front (apply (outer u) s) (make (own_after u f) y) ≡ front (apply (outer u) s) (make (own_after u f) x)
  owned_alike u f s y x e =
      let e' : front (own_after u f ∷ apply (outer u) s) y ≡ front (own_after u f ∷ apply (outer u) s) x = subst (λ w. front w y ≡ front w x) (apply-own u f s) e in
      nw (own_after u f) y (apply (outer u) s) ∙ ap (make (own_after u f)) e' ∙ sym (nw (own_after u f) x (apply (outer u) s))

  -- moves of the part are moves of the owner
  pub owned_leads : (k : ℕ) (t : Term P) (f : Memory) (s : Memories) (n : ℕ) (t' : Term P) (s' : Memories) (n' : ℕ) →
      Leads (inside W) k t (f ∷ s) n t' s' n' → Leads W k (make f t) s n (make (innermost s') t') (drop 1 s') n'
  owned_leads zero t f s n t' s' n' a = (
    nw f t s ∙ ap (make f) a.0 ∙ sym (nw f t' s) ∙ ap (λ w. front s (make (innermost w) t')) a.1,
    ap (drop 1) a.1,
    a.2,
  )
  owned_leads (suc k) t f s n t' s' n' a =
      let own1 : Memory = own_after a.3 f in
      let r : Leads (inside W) k a.5 (own1 ∷ apply (outer a.3) s) a.6 t' s' n' = subst (λ w. Leads (inside W) k a.5 w a.6 t' s' n') (apply-own a.3 f s) a.12 in (
        a.0,
        a.1,
        a.2,
        outer a.3,
        make own1 a.4,
        make own1 a.5,
        a.6,
        owned_moves f t a.0 a.1 s a.7,
        owned_fires f t a.0 a.1 s a.7 ∙ ap (owned make f) a.8,
        owned_alike a.3 f s a.4 a.5 a.9,
        outside W a.3 a.10,
        a.11,
        owned_leads k a.5 own1 (apply (outer a.3) s) a.6 t' s' n' r,
      )

  owned_fails : (t : Term P) (f : Memory) (s : Memories) (n : ℕ) (o : Outcome P Reached) → FailsNow t (f ∷ s) n o → FailsNow (make f t) s n o
  owned_fails t f s n o h = (
    h.0,
    h.1,
    owned_moves f t h.0 h.1 s h.2,
    subst (λ m. FailsBy m n o) (sym (owned_fires f t h.0 h.1 s h.2)) (fails_owned make f (fire (front (f ∷ s) t) h.0 (f ∷ s)) n o h.3),
  )

  -- a stop of the part is one of the owner
  pub owned_stops : (k : ℕ) (t : Term P) (f : Memory) (s : Memories) (n : ℕ) (t' : Term P) (s' : Memories) (n' : ℕ) (o : Outcome P Reached) →
      Leads (inside W) k t (f ∷ s) n t' s' n' → FailsNow t' s' n' o → Stops W (make f t) s n o
  owned_stops k t f s n t' s' n' o a h =
      let c : innermost s' ∷ drop 1 s' ≡ s' = cons_leads (inside W) k t f s n t' s' n' a in
      (k, make (innermost s') t', drop 1 s', n', owned_leads k t f s n t' s' n' a, owned_fails t' (innermost s') (drop 1 s') n' o (subst (λ w. FailsNow t' w n' o) (sym c) h))

-- a first move that is the only one
one_agrees : {P A : Type 0} (W : Feeds) (least most : ℕ) → most ≤ suc least → (f : A → Term P) (t : Term P) (s : Memories) (n : ℕ) (m : Move P A) (go : Memories → ℕ → Coming P) → (p : Path) (ps : List Path) → moves (front s t) s ≡ p ∷ ps → fire (front s t) p s ≡ map_move f m → (m ≡ no_move → ⊥) →
    ((b : Bool) (u : Change) (w : A) → m ≡ goes b u w → Within W u) → ((b : Bool) (u : Change) (w : A) → m ≡ goes b u w → (k : ℕ) → Agrees W least (f w) (apply u s) k (go (apply u s) k)) → Agrees W most t s n (after_move m s n go)
one_agrees W least most up f t s n (fails false z) go p ps q e some v h = (0, t, s, n, (refl, refl, refl), (p, ps, q, subst (λ w. FailsBy w n (Faulted z)) (sym e) refl))
one_agrees W least most up f t s zero (fails true z) go p ps q e some v h = (0, t, s, 0, (refl, refl, refl), (p, ps, q, subst (λ w. FailsBy w 0 Spent) (sym e) refl))
one_agrees W least most up f t s (suc n) (fails true z) go p ps q e some v h = (0, t, s, suc n, (refl, refl, refl), (p, ps, q, subst (λ w. FailsBy w (suc n) (Faulted z)) (sym e) refl))
one_agrees W least most up f t s n (goes false u w) go p ps q e some v h =
    agrees_then W least most 1 (omega arith) t s n (f w) (apply u s) n (go (apply u s) n) (p, ps, false, u, f w, f w, n, q, e, refl, v false u w refl, refl, (refl, refl, refl)) (h false u w refl n)
one_agrees W least most up f t s zero (goes true u w) go p ps q e some v h = (0, t, s, 0, (refl, refl, refl), (p, ps, q, subst (λ w. FailsBy w 0 Spent) (sym e) refl))
one_agrees W least most up f t s (suc n) (goes true u w) go p ps q e some v h =
    agrees_then W least most 1 (omega arith) t s (suc n) (f w) (apply u s) n (go (apply u s) n) (p, ps, true, u, f w, f w, n, q, e, refl, v true u w refl, refl, (refl, refl, refl)) (h true u w refl n)
one_agrees W least most up f t s n no_move go p ps q e some v h = elim (some refl) [ ]

-- to change nothing is to push nothing
within_nothing : (W : Feeds) (u : Change) → nothing ≡ u → Within W u
within_nothing W u e = subst (Within W) e tt

-- what one write leaves
write_next : {P : Type 0} (place : P) (o : Option ℤ) (to : Option Reference) (by : Option Resolution) (left : List Pending) (b : Bool) (u : Change) (w : Leaf) → write_move place o to by left ≡ goes b u w → doing left ≡ w
write_next place None to by left b u w e = cc
write_next place (Some v) None by left b u w e = cc
write_next place (Some v) (Some r) by left b u w e = cc

-- a write is a move
write_some : {P : Type 0} (place : P) (o : Option ℤ) (to : Option Reference) (by : Option Resolution) (left : List Pending) → write_move place o to by left ≡ no_move → ⊥
write_some place None to by left e = cc
write_some place (Some v) None by left e = cc
write_some place (Some v) (Some r) by left e = cc

-- what one effect leaves
pub effect_next : {P : Type 0} (place : P) (next : Pending) (s : Memories) (left : List Pending) (b : Bool) (u : Change) (w : Leaf) → do_move place next s left ≡ goes b u w → doing left ≡ w
effect_next place (write_value v to by) s left b u w q = write_next place (Some v) to by left b u w q
effect_next place (transfer from to by) s left b u w q = write_next place (seen from s) to by left b u w q
effect_next place (push_to l c v) s left b u w q = cc

-- an effect is a move
pub effect_some : {P : Type 0} (place : P) (next : Pending) (s : Memories) (left : List Pending) → do_move place next s left ≡ no_move → ⊥
effect_some place (write_value v to by) s left q = write_some place (Some v) to by left q
effect_some place (transfer from to by) s left q = write_some place (seen from s) to by left q
effect_some place (push_to l c v) s left q = cc

-- one effect pushes what it touches
write_within : {P : Type 0} (W : Feeds) (place : P) (o : Option ℤ) (to : Option Reference) (by : Option Resolution) (left : List Pending) (b : Bool) (u : Change) (w : Leaf) → write_move place o to by left ≡ goes b u w → Within W u
write_within W place None to by left b u w e = cc
write_within W place (Some v) None by left b u w e = cc
write_within W place (Some v) (Some r) by left b u w e = let same : write r by v ≡ u = cc in subst (Within W) same tt

effect_within : {P : Type 0} (W : Feeds) (place : P) (next : Pending) (s : Memories) (left : List Pending) → ((l c : ℕ) → PendingTouches next (pushes l c) → W l c) → (b : Bool) (u : Change) (w : Leaf) → do_move place next s left ≡ goes b u w → Within W u
effect_within W place (write_value v to by) s left h b u w q = write_within W place (Some v) to by left b u w q
effect_within W place (transfer from to by) s left h b u w q = write_within W place (seen from s) to by left b u w q
effect_within W place (push_to l c v) s left h b u w q = let same : push l c v ≡ u = cc in subst (Within W) same (h l c refl)

-- a leaf that does what it is to do
pub agree_doing : {P : Type 0} (W : Feeds) (d : ℕ) (place : P) (es : List Pending) → ((l c : ℕ) → SomePendingTouches es (pushes l c) → W l c) → (s : Memories) (n : ℕ) → Agrees W d (leaf place (doing es)) s n (big_doing place es s n)
agree_doing W d place [] h s n = (0, leaf place (doing []), (refl, refl, refl), refl)
agree_doing W d place (e ∷ es) h s n =
    one_agrees W d d (omega arith) (leaf place) (leaf place (doing (e ∷ es))) s n (do_move place e s es) (big_doing place es) [] [] refl refl (effect_some place e s es)
    (effect_within W place e s es (λ l c t. h l c (inl t)))
    (λ b u w q k. subst (λ x. Agrees W d (leaf place x) (apply u s) k (big_doing place es (apply u s) k)) (effect_next place e s es b u w q) (agree_doing W d place es (λ l c t. h l c (inr t)) (apply u s) k))

-- what an evaluation gives pushes into these streams
abbrev Evaluated : Feeds → Evaluation → Type 0
Evaluated W eval = (given : List ℤ) (effects : List Pending) → eval given ≡ Ok effects → (l c : ℕ) → SomePendingTouches effects (pushes l c) → W l c

agree_evaluated : {P : Type 0} (W : Feeds) (d : ℕ) (place : P) (b : Bool) (got : List ℤ) (eval : Evaluation) → Evaluated W eval → (s : Memories) (n : ℕ) (r : Result (List Pending) FaultKind) → eval got ≡ r → Agrees W d (leaf place (reading b [] got eval)) s n (big_evaluated place (not b) r s n)
agree_evaluated W d place b got eval h s n (Err f) q =
    one_agrees W d d (omega arith) (leaf place) (leaf place (reading b [] got eval)) s n (fails (not b) (fault_at place f)) (λ s' k. None) [] [] refl (ap (λ r. map_move (leaf place) (evaluation_move place (not b) r)) q) (λ e. cc) (λ c u w e. cc) (λ c u w e k. cc)
agree_evaluated W d place b got eval h s n (Ok es) q =
    one_agrees W d d (omega arith) (leaf place) (leaf place (reading b [] got eval)) s n (goes (not b) nothing (doing es)) (big_doing place es) [] [] refl (ap (λ r. map_move (leaf place) (evaluation_move place (not b) r)) q) (λ e. cc)
    (λ c u w e. within_nothing W u (let v : nothing ≡ u = cc in v))
    (λ c u w e k.
    let v : nothing ≡ u = cc in
    let x : doing es ≡ w = cc in
    subst (λ u'. Agrees W d (leaf place w) (apply u' s) k (big_doing place es (apply u' s) k)) v (subst (λ w'. Agrees W d (leaf place w') s k (big_doing place es s k)) x (agree_doing W d place es (h got es q) s k)))

-- a leaf that reads
pub agree_reading : {P : Type 0} (W : Feeds) (d : ℕ) (place : P) (b : Bool) (left : List (Option Reference)) (got : List ℤ) (eval : Evaluation) → Evaluated W eval → (s : Memories) (n : ℕ) → Agrees W d (leaf place (reading b left got eval)) s n (big_reading place (not b) left got eval s n)
agree_reading W d place b [] got eval h s n = agree_evaluated W d place b got eval h s n (eval got) refl
agree_reading W d place b (r ∷ rs) got eval h s n = go (seen r s) refl (λ v k. agree_reading W d place true rs (got ++ v ∷ []) eval h s k)
  where
    go : (o : Option ℤ) → seen r s ≡ o → ((v : ℤ) (k : ℕ) → Agrees W d (leaf place (reading true rs (got ++ v ∷ []) eval)) s k (big_reading place false rs (got ++ v ∷ []) eval s k)) →
        Agrees W d (leaf place (reading b (r ∷ rs) got eval)) s n (after_read place (not b) o n (λ v. big_reading place false rs (got ++ v ∷ []) eval s))
    go None q later =
        one_agrees W d d (omega arith) (leaf place) (leaf place (reading b (r ∷ rs) got eval)) s n (fails (not b) (fault_at place Subscript)) (λ s' k. None) [] [] refl (ap (λ o. map_move (leaf place) (read_move place (not b) o rs got eval)) q) (λ e. cc) (λ c u w e. cc) (λ c u w e k. cc)
    go (Some v) q later =
        one_agrees W d d (omega arith) (leaf place) (leaf place (reading b (r ∷ rs) got eval)) s n (goes (not b) nothing (reading true rs (got ++ v ∷ []) eval)) (big_reading place false rs (got ++ v ∷ []) eval) [] [] refl
        (ap (λ o. map_move (leaf place) (read_move place (not b) o rs got eval)) q) (λ e. cc)
        (λ c u w e. within_nothing W u (let v : nothing ≡ u = cc in v))
        (λ c u w e k.
        let x : nothing ≡ u = cc in
        let y : reading true rs (got ++ v ∷ []) eval ≡ w = cc in
        subst (λ u'. Agrees W d (leaf place w) (apply u' s) k (big_reading place false rs (got ++ v ∷ []) eval (apply u' s) k)) x (subst (λ w'. Agrees W d (leaf place w') s k (big_reading place false rs (got ++ v ∷ []) eval s k)) y (later v k)))

-- the stack outside of an owner stays as long as it is
pub outer_length : {P : Type 0} (W : Feeds) (k : ℕ) (t : Term P) (f : Memory) (s : Memories) (n : ℕ) (t' : Term P) (s' : Memories) (n' : ℕ) → Leads W k t (f ∷ s) n t' s' n' → length (drop 1 s') ≡ length s
outer_length W k t f s n t' s' n' a =
    let c : suc (length (drop 1 s')) ≡ length s' = ap length (cons_leads W k t f s n t' s' n' a) in
    let d : length s' ≡ suc (length s) = leads_length W k t (f ∷ s) n t' s' n' a in
    omega arith

-- an owner whose part agrees
pub owned_agrees : {P : Type 0} (W : Feeds) (d : ℕ) (make : Memory → Term P → Term P) → ((f : Memory) (t : Term P) (s : Memories) → front s (make f t) ≡ make f (front (f ∷ s) t)) →
    ((f : Memory) (t : Term P) (p : Path) (ps : List Path) (s : Memories) → moves t (f ∷ s) ≡ p ∷ ps → moves (make f t) s ≡ p ∷ ps) →
    ((f : Memory) (t : Term P) (p : Path) (ps : List Path) (s : Memories) → moves t (f ∷ s) ≡ p ∷ ps → fire (make f t) p s ≡ owned make f (fire t p (f ∷ s))) →
    (own : Memory) (t : Term P) (s : Memories) (n : ℕ) (o : Coming P) (go : Memories → ℕ → Coming P) →
    ((f : Memory) (x : Term P) (s' : Memories) (k : ℕ) → length s' ≡ length s → finished x ≡ true → Agrees W d (make f x) s' k (leaving (go (f ∷ s') k))) →
    Agrees (inside W) d t (own ∷ s) n o → Agrees W d (make own t) s n (leaving (and_then o go))
owned_agrees W d make nw mv fr own t s n (Some (Done now)) go h a =
    let z = now.memories in
    let m = now.turns in
    let l = owned_leads W make nw mv fr a.0 t own s n a.1 z m a.2 in
    let c : innermost z ∷ drop 1 z ≡ z = cons_leads (inside W) a.0 t own s n a.1 z m a.2 in
    agrees_then W d d a.0 (omega arith) (make own t) s n (make (innermost z) a.1) (drop 1 z) m (leaving (go z m)) l
    (subst (λ w. Agrees W d (make (innermost z) a.1) (drop 1 z) m (leaving (go w m))) c (h (innermost z) a.1 (drop 1 z) m (outer_length (inside W) a.0 t own s n a.1 z m a.2) a.3))
owned_agrees W d make nw mv fr own t s n (Some (Faulted z)) go h a = owned_stops W make nw mv fr a.0 t own s n a.1 a.2 a.3 (Faulted z) a.4 a.5
owned_agrees W d make nw mv fr own t s n (Some Spent) go h a = owned_stops W make nw mv fr a.0 t own s n a.1 a.2 a.3 Spent a.4 a.5
owned_agrees W d make nw mv fr own t s n None go h a = (a.0, make (innermost a.2) a.1, drop 1 a.2, a.3, a.4, owned_leads W make nw mv fr a.0 t own s n a.1 a.2 a.3 a.5)

-- nothing more to do after the work
pub then_reached : {P : Type 0} (o : Coming P) → and_then o (λ s n. reached s n) ≡ o
then_reached (Some (Done now)) = refl
then_reached (Some (Faulted f)) = refl
then_reached (Some Spent) = refl
then_reached None = refl

-- an owner is left before or after a turn is spent
leaving_spending : {P : Type 0} (b : Bool) (n : ℕ) (g : ℕ → Coming P) → spending b n (λ m. leaving (g m)) ≡ leaving (spending b n g)
leaving_spending true zero g = refl
leaving_spending true (suc n) g = refl
leaving_spending false zero g = refl
leaving_spending false (suc n) g = refl

-- within a state, the moves of a run are those of the state
pub nest_moves : {P : Type 0} (body : ℕ → Values → Term P) (exits : ℕ → Values → List (Exit P)) (state : ℕ) (values : Values) (f : Memory) (t : Term P) (p : Path) (ps : List Path) (s : Memories) →
    moves t (f ∷ s) ≡ p ∷ ps → moves (nested body exits f state values t) s ≡ p ∷ ps
nest_moves body exits state values f t p ps s q = ap (λ b. cond b ([] ∷ []) (moves t (f ∷ s))) (unfinished_of t (f ∷ s) p ps q) ∙ q

-- and the move at a place is that of the state
pub nest_fires : {P : Type 0} (body : ℕ → Values → Term P) (exits : ℕ → Values → List (Exit P)) (state : ℕ) (values : Values) (f : Memory) (t : Term P) (p : Path) (ps : List Path) (s : Memories) →
    moves t (f ∷ s) ≡ p ∷ ps → fire (nested body exits f state values t) p s ≡ owned (λ g x. nested body exits g state values x) f (fire t p (f ∷ s))
nest_fires body exits state values f t p ps s q =
    ap (λ b. cond b (transition body exits f (first_exit (exits state values) (f ∷ s))) (owned (λ g x. nested body exits g state values x) f (fire t p (f ∷ s)))) (unfinished_of t (f ∷ s) p ps q)

-- a run whose state is finished has its transition as its one move
pub exit_moves : {P : Type 0} (body : ℕ → Values → Term P) (exits : ℕ → Values → List (Exit P)) (state : ℕ) (values : Values) (f : Memory) (x : Term P) (s : Memories) → finished x ≡ true → moves (front s (nested body exits f state values x)) s ≡ [] ∷ []
exit_moves body exits state values f x s e = ap (λ b. cond b ([] ∷ []) (moves (front (f ∷ s) x) (f ∷ s))) (stays true _ (f ∷ s) x e)

-- and it goes by the first exit
pub exit_fires : {P : Type 0} (body : ℕ → Values → Term P) (exits : ℕ → Values → List (Exit P)) (state : ℕ) (values : Values) (f : Memory) (x : Term P) (s : Memories) → finished x ≡ true →
    (r : Result (Option (Exit P)) (Fault P)) → first_exit (exits state values) (f ∷ s) ≡ r → fire (front s (nested body exits f state values x)) [] s ≡ transition body exits f r
exit_fires body exits state values f x s e r q = λ i. cond (stays true (clear (f ∷ s)) (f ∷ s) x e i) (transition body exits f (q i)) (owned (λ g y. nested body exits g state values y) f (fire (front (f ∷ s) x) [] (f ∷ s)))

map_same : {P A : Type 0} (m : Move P A) → m ≡ map_move (λ x. x) m
map_same (fails turn z) = refl
map_same (goes turn u x) = refl
map_same no_move = refl

-- the transitions of a run
module _ {P : Type 0} (W : Feeds) (body : ℕ → Values → Term P) (exits : ℕ → Values → List (Exit P)) (run : ℕ → Values → Memories → ℕ → Coming P) (limit depth : ℕ)
    (agrees : (k : ℕ) (e : Values) (s : Memories) (n : ℕ) → length s ≡ suc depth → Agrees (inside W) limit (body k e) s n (run k e s n)) where
  -- a run whose state is finished agrees, or makes at least as many moves as transitions are allowed
  pub nest_agrees : (d : ℕ) → d ≤ limit → (state : ℕ) (values : Values) (f : Memory) (x : Term P) (s : Memories) (n : ℕ) → length s ≡ depth → finished x ≡ true →
      Agrees W d (nested body exits f state values x) s n (leaving (big_states d run exits state values (f ∷ s) n))
  nest_agrees zero up state values f x s n len e = (0, nested body exits f state values x, s, n, omega arith, (refl, refl, refl))
  nest_agrees (suc d) up state values f x s n len e = go (first_exit (exits state values) (f ∷ s)) refl (λ k v g y s' m l h. nest_agrees d (omega arith) k v g y s' m l h)
    where
      here : moves (front s (nested body exits f state values x)) s ≡ [] ∷ []
      here = exit_moves body exits state values f x s e

      goes_by : (r : Result (Option (Exit P)) (Fault P)) → first_exit (exits state values) (f ∷ s) ≡ r → fire (front s (nested body exits f state values x)) [] s ≡ map_move (λ t. t) (transition body exits f r)
      goes_by r q = exit_fires body exits state values f x s e r q ∙ map_same (transition body exits f r)

      go : (r : Result (Option (Exit P)) (Fault P)) → first_exit (exits state values) (f ∷ s) ≡ r →
          ((k : ℕ) (v : Values) (g : Memory) (y : Term P) (s' : Memories) (m : ℕ) → length s' ≡ depth → finished y ≡ true → Agrees W d (nested body exits g k v y) s' m (leaving (big_states d run exits k v (g ∷ s') m))) →
          Agrees W (suc d) (nested body exits f state values x) s n (leaving (after_exit r (f ∷ s) n (λ w m. and_then (run w.state w.values (f ∷ s) m) (big_states d run exits w.state w.values))))
      go (Err z) q later =
          one_agrees W d (suc d) (omega arith) (λ (t : Term P). t) (nested body exits f state values x) s n (fails false z) (λ s' k. None) [] [] here (goes_by (Err z) q) (λ h. cc) (λ b u w h. cc) (λ b u w h k. cc)
      go (Ok None) q later =
          one_agrees W d (suc d) (omega arith) (λ (t : Term P). t) (nested body exits f state values x) s n (goes false nothing (ended f)) (λ s' k. reached s' k) [] [] here (goes_by (Ok None) q) (λ h. cc)
          (λ b u w h. within_nothing W u (let v : nothing ≡ u = cc in v))
          (λ b u w h k. (0, w, (refl, refl, refl), let same : ended f ≡ w = cc in subst (λ t. finished t ≡ true) same refl))
      go (Ok (Some w)) q later =
          subst (λ o. Agrees W (suc d) (nested body exits f state values x) s n o) (leaving_spending w.marked n (λ m. and_then (run w.state w.values (f ∷ s) m) (big_states d run exits w.state w.values)))
          (one_agrees W d (suc d) (omega arith) (λ (t : Term P). t) (nested body exits f state values x) s n (goes w.marked nothing (nested body exits f w.state w.values (body w.state w.values)))
          (λ s' m. leaving (and_then (run w.state w.values (f ∷ s') m) (big_states d run exits w.state w.values))) [] [] here (goes_by (Ok (Some w)) q) (λ h. cc)
          (λ b u y h. within_nothing W u (let v : nothing ≡ u = cc in v))
          (λ b u y h k.
          let v : nothing ≡ u = cc in
          let same : nested body exits f w.state w.values (body w.state w.values) ≡ y = cc in
          subst (λ u'. Agrees W d y (apply u' s) k (leaving (and_then (run w.state w.values (f ∷ apply u' s) k) (big_states d run exits w.state w.values)))) v
          (subst (λ y'. Agrees W d y' s k (leaving (and_then (run w.state w.values (f ∷ s) k) (big_states d run exits w.state w.values)))) same
          (owned_agrees W d (λ g t. nested body exits g w.state w.values t) (λ g t s'. refl) (λ g t p ps s'. nest_moves body exits w.state w.values g t p ps s') (λ g t p ps s'. nest_fires body exits w.state w.values g t p ps s')
          f (body w.state w.values) s k (run w.state w.values (f ∷ s) k) (big_states d run exits w.state w.values)
          (λ g t s' m l. later w.state w.values g t s' m (l ∙ len)) (agrees_less (inside W) limit d (omega arith) (body w.state w.values) (f ∷ s) k (run w.state w.values (f ∷ s) k) (agrees w.state w.values (f ∷ s) k (ap suc len)))))))
