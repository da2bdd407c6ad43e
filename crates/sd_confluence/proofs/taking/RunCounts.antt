-- In a run no value of a stream of its memory is lost and none is made.
use Rattle.std.proofs.Common.{◌≡◌, ℕ, zero, suc, ◌+◌, List, [], ◌∷◌, ◌++◌, drop, Option, Some, None, Result, Ok, Err, ℤ, Bool, true, false, cond, slice_get, refl, sym, ◌∙◌, ap, subst, arith, inl, inr}
use Rattle.std.specs.Bool.{⊤}
use Rattle.sd_work.specs.Memory.{Memory, waiting}
use Rattle.sd_work.specs.LeafMove.{leaf_move}
use Rattle.sd_work.specs.Move.{Fault, Move, fails, goes, no_move, map_move}
use Rattle.sd_work.specs.Exit.{Values, Exit, first_exit}
use Rattle.sd_work.specs.Residual.{Term, leaf, list, owning, nested, ended, pool, Actives, finished}
use Rattle.sd_work.specs.Moves.{Path}
use Rattle.sd_work.specs.Fire.{owned, transition, take_move, fire, fire_part, fire_active}
use Rattle.sd_work.specs.Settle.{settled}
use Rattle.sd_work.specs.Step.{Machine, Done, opening, moved, step}
use Rattle.sd_work.specs.Run.{Left, memory_of, chosen}
use Rattle.sd_confluence.specs.Alike.{how_often}
use Rattle.sd_confluence.specs.Event.{Event, event_of_move, event_at, events, values_pushed, values_taken, DoneWith}
use Rattle.sd_confluence.proofs.runs.Reaching.{Reaches, run-reaches, failed, paid}
use Rattle.sd_confluence.proofs.taking.StreamCounts.{taken-sum, pushed-sum, change-counts}
use Rattle.sd_confluence.proofs.taking.Told.{told-none, told-next}

-- the values that wait later, and those taken, are those that waited and those pushed
abbrev pub StreamsKeep : Memory → Memory → List Event → Type 0
StreamsKeep own left es =
    (st : ℕ) (v : ℤ) → how_often (waiting 0 st (left ∷ [])) v + how_often (values_taken st es) v ≡ how_often (waiting 0 st (own ∷ [])) v + how_often (values_pushed st es) v

-- ---- one move

-- what a move leaves keeps the values of this memory, with these events
abbrev KeepsBy : {P : Type 0} → Memory → Move P (Term P) → List Event → Type 0
KeepsBy own (fails turn fault) es = ⊤
KeepsBy own (goes turn change left) es = StreamsKeep own (memory_of left) es
KeepsBy own no_move es = es ≡ []

keeps_map : {P A : Type 0} (f : A → Term P) → ((x : A) → memory_of (f x) ≡ []) → (m : Move P A) → KeepsBy [] (map_move f m) []
keeps_map f h (fails turn fault) = tt
keeps_map f h (goes turn u x) = λ st v. ap (λ own. how_often (waiting 0 st (own ∷ [])) v + 0) (h x)
keeps_map f h no_move = refl

keeps_owned : {P : Type 0} (own : Memory) (m : Move P (Term P)) → KeepsBy [] (owned owning own m) []
keeps_owned own (fails turn fault) = tt
keeps_owned own (goes turn u x) = λ st v. refl
keeps_owned own no_move = refl

keeps_take : {P : Type 0} (level container : ℕ) (body : ℤ → Term P) (active : Actives P) (closed : Bool) (k : ℕ) (o : Option ℤ) → KeepsBy [] (take_move level container body active closed k o) []
keeps_take level container body active closed k None = refl
keeps_take level container body active closed k (Some w) = λ st v. refl

keeps_run : {P : Type 0} (body : ℕ → Values → Term P) (exits : ℕ → Values → List (Exit P)) (own : Memory) (state : ℕ) (values : Values) (b : Bool) (r : Result (Option (Exit P)) (Fault P)) (m : Move P (Term P)) →
    KeepsBy own (cond b (transition body exits own r) (owned (λ memory left. nested body exits memory state values left) own m)) (cond b [] (event_of_move own m))
keeps_run body exits own state values true (Err fault) m = tt
keeps_run body exits own state values true (Ok None) m = λ st v. refl
keeps_run body exits own state values true (Ok (Some exit)) m = λ st v. refl
keeps_run body exits own state values false r (fails turn fault) = tt
keeps_run body exits own state values false r (goes turn u x) = λ st v. change-counts st v u own
keeps_run body exits own state values false r no_move = refl

fire_keeps : {P : Type 0} (t : Term P) (path : Path) → KeepsBy (memory_of t) (fire t path []) (event_at t path)
fire_keeps (leaf place work) path = keeps_map (leaf place) (λ x. refl) (leaf_move place work [])
fire_keeps (list kind before parts) [] = refl
fire_keeps (list kind before parts) (k ∷ path) = keeps_map (list kind before) (λ x. refl) (fire_part parts k path [])
fire_keeps (owning own part) path = keeps_owned own (fire part path (own ∷ []))
fire_keeps (nested body exits own state values part) path =
    keeps_run body exits own state values (finished part) (first_exit (exits state values) (own ∷ [])) (fire part path (own ∷ []))
fire_keeps (ended own) path = refl
fire_keeps (pool level container body active closed) [] = refl
fire_keeps (pool level container body active closed) (zero ∷ []) = refl
fire_keeps (pool level container body active closed) (zero ∷ k ∷ path) = keeps_take level container body active closed k (slice_get (waiting level container []) k)
fire_keeps (pool level container body active closed) (suc i ∷ []) = refl
fire_keeps (pool level container body active closed) (suc i ∷ k ∷ path) = keeps_map (λ left. pool level container body left closed) (λ x. refl) (fire_active active k path [])

memory_settled : {P : Type 0} (t : Term P) → memory_of t ≡ memory_of (settled t)
memory_settled (leaf place work) = refl
memory_settled (list kind before parts) = refl
memory_settled (owning own part) = refl
memory_settled (nested body exits own state values part) = refl
memory_settled (ended own) = refl
memory_settled (pool level container body active closed) = refl

step_keeps : {P : Type 0} (m x : Machine P) (path : Path) → step path m ≡ Done x → StreamsKeep (memory_of m.term) (memory_of x.term) (event_at m.term path)
step_keeps {P} m x path e = go (fire m.term path []) (event_at m.term path) (fire_keeps m.term path) e
  where
    go : (w : Move P (Term P)) (es : List Event) → KeepsBy (memory_of m.term) w es → moved m w ≡ Done x → StreamsKeep (memory_of m.term) (memory_of x.term) es
    go (fails turn fault) es h d = absurd (failed turn m.turns fault x d)
    go (goes turn u y) es h d =
        let r = paid m.term m.turns turn u y x d in
        subst (λ left. StreamsKeep (memory_of m.term) left es) (memory_settled y ∙ ap (λ (z : Machine P). memory_of z.term) r.2) h
    go no_move es h d =
        let same : m ≡ x = cc in
        subst (λ (z : Machine P). StreamsKeep (memory_of m.term) (memory_of z.term) es) same (subst (StreamsKeep (memory_of m.term) (memory_of m.term)) (sym h) (λ st v. refl))

-- ---- a run

keeps_joined : (own middle left : Memory) (es fs : List Event) → StreamsKeep own middle es → StreamsKeep middle left fs → StreamsKeep own left (es ++ fs)
keeps_joined own middle left es fs f g st v =
    let a = f st v in
    let b = g st v in
    let c = taken-sum st es fs v in
    let d = pushed-sum st es fs v in
    omega (arith, a, b, c, d)

-- each value that waited or was pushed is taken or waits where a run has come to
pub run-keeps : {P : Type 0} (k : ℕ) (picks : List ℕ) (m e : Machine P) → Reaches k picks m e → StreamsKeep (memory_of m.term) (memory_of e.term) (events k picks m)
run-keeps zero picks m e h = elim h [ ]
run-keeps {P} (suc k) picks m e (inl h) =
    subst (λ (z : Machine P). StreamsKeep (memory_of m.term) (memory_of z.term) (events (suc k) picks m)) h.1
    (subst (StreamsKeep (memory_of m.term) (memory_of m.term)) (sym (told-none event_at (suc k) picks m h.0)) (λ st v. refl))
run-keeps (suc k) picks m e (inr h) =
    subst (StreamsKeep (memory_of m.term) (memory_of e.term)) (sym (told-next event_at k picks m h.3 h.0 h.1 h.2 h.4))
    (keeps_joined (memory_of m.term) (memory_of h.3.term) (memory_of e.term) (event_at m.term (chosen picks h.0 h.1)) (events k (drop 1 picks) h.3)
    (step_keeps m h.3 (chosen picks h.0 h.1) h.4) (run-keeps k (drop 1 picks) h.3 e h.5))

-- each value that waited at the begin of a run or was pushed is taken or waits at its end
pub none-lost : {P : Type 0} (term : Term P) (turns : ℕ) (picks : List ℕ) (left : Left) (happened : List Event) → DoneWith term turns picks left happened → StreamsKeep (memory_of term) left.memory happened
none-lost term turns picks left happened done =
    let r = run-reaches done.0 picks (opening term turns) left done.1 in
    subst (λ (l : Left). StreamsKeep (memory_of term) l.memory happened) (sym r.2)
    (subst (λ own. StreamsKeep own (memory_of r.0.term) happened) (sym (memory_settled term))
    (subst (StreamsKeep (memory_of (settled term)) (memory_of r.0.term)) done.2 (run-keeps done.0 picks (opening term turns) r.0 r.1)))
