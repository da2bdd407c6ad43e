-- A whole run that is done from left to right ends as the run without picks.
use Rattle.std.proofs.Common.{◌≡◌, ℕ, zero, suc, ◌+◌, ◌≤◌, List, [], ◌∷◌, drop, length, Option, Some, None, Result, Ok, Err, Bool, true, false, refl, sym, ◌∙◌, ap, subst, arith}
use Rattle.std.specs.Bool.{⊤}
use Rattle.sd_work.specs.Memory.{Memory, Memories}
use Rattle.sd_work.specs.Change.{nothing, innermost}
use Rattle.sd_work.specs.Move.{Fault, Move, goes}
use Rattle.sd_work.specs.Exit.{Values, Exit, first_exit}
use Rattle.sd_work.specs.Residual.{Term, leaf, list, owning, nested, ended, pool, finished}
use Rattle.sd_work.specs.Moves.{moves}
use Rattle.sd_work.specs.Fire.{transition, fire}
use Rattle.sd_work.specs.Settle.{settled}
use Rattle.sd_work.specs.Step.{Outcome, Done, Faulted, Spent}
use Rattle.sd_work.specs.Run.{Left, Sequential, run}
use Rattle.sd_work.specs.BigStep.{Coming, and_then, spending, after_exit, big_step, big_states}
use Rattle.sd_work.specs.BigRun.{left_by, big_run}
use Rattle.sd_work.specs.WellFormed.{IsOrdered, IsRun}
use Rattle.sd_work.specs.OrderedPools.{HasOrderedPools}
use Rattle.sd_work.proofs.left_to_right.Leads.{front, Pays, Feeds, Leads, FailsBy, Stops, Makes, Agrees}
use Rattle.sd_work.proofs.left_to_right.LeftmostLists.{leads_more, makes_then, agrees_then, agrees_less}
use Rattle.sd_work.proofs.left_to_right.LeftmostOwners.{inside, owned_leads, owned_stops, cons_leads, outer_length, nest_moves, nest_fires, exit_moves, exit_fires}
use Rattle.sd_work.proofs.left_to_right.Leftmost.{agree}
use Rattle.sd_work.proofs.left_to_right.LeftmostRuns.{machine, run-leads, run-none, stops-fault, stops-spent}
use Rattle.sd_work.proofs.Outcomes.{Run-unique}

-- the leftmost moves of a whole run, with its memory at the end; or at least so many of them
abbrev AgreesWhole : {P : Type 0} → Feeds → (least : ℕ) → Term P → Memories → ℕ → Coming P → Type 0
AgreesWhole W least t s n (Some (Done now)) = (k : ℕ) × Leads W k t s n (ended (innermost now.memories)) (drop 1 now.memories) now.turns
AgreesWhole W least t s n (Some (Faulted fault)) = Stops W t s n (Faulted fault)
AgreesWhole W least t s n (Some Spent) = Stops W t s n Spent
AgreesWhole W least t s n None = Makes W least t s n

whole_then : {P : Type 0} (W : Feeds) (least most k : ℕ) → most ≤ k + least → (t : Term P) (s : Memories) (n : ℕ) (t' : Term P) (s' : Memories) (n' : ℕ) (o : Coming P) → Leads W k t s n t' s' n' → AgreesWhole W least t' s' n' o → AgreesWhole W most t s n o
whole_then W least most k up t s n t' s' n' (Some (Done now)) a b = (k + b.0, leads_more W k b.0 t s n t' s' n' (ended (innermost now.memories)) (drop 1 now.memories) now.turns a b.1)
whole_then W least most k up t s n t' s' n' (Some (Faulted fault)) a b = agrees_then W least most k up t s n t' s' n' (Some (Faulted fault)) a b
whole_then W least most k up t s n t' s' n' (Some Spent) a b = agrees_then W least most k up t s n t' s' n' (Some Spent) a b
whole_then W least most k up t s n t' s' n' None a b = makes_then W least most k up t s n t' s' n' a b

-- the state of a run agrees, with its memory kept
module _ {P : Type 0} (W : Feeds) (body : ℕ → Values → Term P) (exits : ℕ → Values → List (Exit P)) (state : ℕ) (values : Values) where
  abbrev whole : Memory → Term P → Term P
  whole own t = nested body exits own state values t

  whole_owned : (d : ℕ) (own : Memory) (t : Term P) (s : Memories) (n : ℕ) (o : Coming P) (go : Memories → ℕ → Coming P) →
      ((f : Memory) (x : Term P) (s' : Memories) (k : ℕ) → length s' ≡ length s → finished x ≡ true → AgreesWhole W d (whole f x) s' k (go (f ∷ s') k)) →
      Agrees (inside W) d t (own ∷ s) n o → AgreesWhole W d (whole own t) s n (and_then o go)
  whole_owned d own t s n (Some (Done now)) go h a =
      let z = now.memories in
      let l = owned_leads W whole (λ g t s. refl) (nest_moves body exits state values) (nest_fires body exits state values) a.0 t own s n a.1 z now.turns a.2 in
      let c : innermost z ∷ drop 1 z ≡ z = cons_leads (inside W) a.0 t own s n a.1 z now.turns a.2 in
      whole_then W d d a.0 (omega arith) (whole own t) s n (whole (innermost z) a.1) (drop 1 z) now.turns (go z now.turns) l
      (subst (λ w. AgreesWhole W d (whole (innermost z) a.1) (drop 1 z) now.turns (go w now.turns)) c (h (innermost z) a.1 (drop 1 z) now.turns (outer_length (inside W) a.0 t own s n a.1 z now.turns a.2) a.3))
  whole_owned d own t s n (Some (Faulted fault)) go h a = owned_stops W whole (λ g t s. refl) (nest_moves body exits state values) (nest_fires body exits state values) a.0 t own s n a.1 a.2 a.3 (Faulted fault) a.4 a.5
  whole_owned d own t s n (Some Spent) go h a = owned_stops W whole (λ g t s. refl) (nest_moves body exits state values) (nest_fires body exits state values) a.0 t own s n a.1 a.2 a.3 Spent a.4 a.5
  whole_owned d own t s n None go h a =
      (a.0, whole (innermost a.2) a.1, drop 1 a.2, a.3, a.4, owned_leads W whole (λ g t s. refl) (nest_moves body exits state values) (nest_fires body exits state values) a.0 t own s n a.1 a.2 a.3 a.5)

module _ {P : Type 0} (W : Feeds) (body : ℕ → Values → Term P) (exits : ℕ → Values → List (Exit P)) (does : ℕ → Values → Memories → ℕ → Coming P) (limit depth : ℕ)
    (agrees : (k : ℕ) (e : Values) (s : Memories) (n : ℕ) → length s ≡ suc depth → Agrees (inside W) limit (body k e) s n (does k e s n)) where
  abbrev Later : ℕ → Type 0
  Later d = (k : ℕ) (v : Values) (g : Memory) (y : Term P) (s : Memories) (m : ℕ) → length s ≡ depth → finished y ≡ true → AgreesWhole W d (nested body exits g k v y) s m (big_states d does exits k v (g ∷ s) m)

  next_state : (d : ℕ) → d ≤ limit → Later d → (k : ℕ) (v : Values) (f : Memory) (s : Memories) (m : ℕ) → length s ≡ depth → AgreesWhole W d (nested body exits f k v (body k v)) s m (and_then (does k v (f ∷ s) m) (big_states d does exits k v))
  next_state d up later k v f s m len =
      whole_owned W body exits k v d f (body k v) s m (does k v (f ∷ s) m) (big_states d does exits k v)
      (λ g t s' m' l. later k v g t s' m' (l ∙ len)) (agrees_less (inside W) limit d up (body k v) (f ∷ s) m (does k v (f ∷ s) m) (agrees k v (f ∷ s) m (ap suc len)))

  module _ (d : ℕ) (up : suc d ≤ limit) (state : ℕ) (values : Values) (f : Memory) (x : Term P) (s : Memories) (n : ℕ) (len : length s ≡ depth) (e : finished x ≡ true) (later : Later d) where
    here : moves (front s (nested body exits f state values x)) s ≡ [] ∷ []
    here = exit_moves body exits state values f x s e

    goes_by : (r : Result (Option (Exit P)) (Fault P)) → first_exit (exits state values) (f ∷ s) ≡ r → fire (front s (nested body exits f state values x)) [] s ≡ transition body exits f r
    goes_by = exit_fires body exits state values f x s e

    -- an exit that is taken, where its turn is paid
    taken : (w : Exit P) → fire (front s (nested body exits f state values x)) [] s ≡ goes w.marked nothing (nested body exits f w.state w.values (body w.state w.values)) → (m : ℕ) → Pays w.marked n m →
        AgreesWhole W (suc d) (nested body exits f state values x) s n (and_then (does w.state w.values (f ∷ s) m) (big_states d does exits w.state w.values))
    taken w q m pays =
        let next : Term P = nested body exits f w.state w.values (body w.state w.values) in
        whole_then W d (suc d) 1 (omega arith) (nested body exits f state values x) s n next s m
        (and_then (does w.state w.values (f ∷ s) m) (big_states d does exits w.state w.values))
        ([], [], w.marked, nothing, next, next, m, here, q, refl, tt, pays, (refl, refl, refl))
        (next_state d (omega arith) later w.state w.values f s m len)

    -- with its turn, if it wants one
    by_turn : (b : Bool) (w : Exit P) → w.marked ≡ b → fire (front s (nested body exits f state values x)) [] s ≡ goes w.marked nothing (nested body exits f w.state w.values (body w.state w.values)) → (k : ℕ) → n ≡ k →
        AgreesWhole W (suc d) (nested body exits f state values x) s n (spending b k (λ m. and_then (does w.state w.values (f ∷ s) m) (big_states d does exits w.state w.values)))
    by_turn true w r q zero c =
        let move : Move P (Term P) = goes true nothing (nested body exits f w.state w.values (body w.state w.values)) in
        let fired : fire (front s (nested body exits f state values x)) [] s ≡ move = q ∙ ap (λ b. goes b nothing (nested body exits f w.state w.values (body w.state w.values))) r in
        (0, nested body exits f state values x, s, n, (refl, refl, refl), ([], [], here, subst (λ m. FailsBy m n Spent) (sym fired) (subst (λ k. FailsBy move k Spent) (sym c) refl)))
    by_turn true w r q (suc k) c = taken w q k (subst (λ b. Pays b n k) (sym r) c)
    by_turn false w r q k c = taken w q k (subst (λ b. Pays b n k) (sym r) c)

    by_exit : (r : Result (Option (Exit P)) (Fault P)) → first_exit (exits state values) (f ∷ s) ≡ r →
        AgreesWhole W (suc d) (nested body exits f state values x) s n (after_exit r (f ∷ s) n (λ exit turns. and_then (does exit.state exit.values (f ∷ s) turns) (big_states d does exits exit.state exit.values)))
    by_exit (Err fault) q = (0, nested body exits f state values x, s, n, (refl, refl, refl), ([], [], here, subst (λ m. FailsBy m n (Faulted fault)) (sym (goes_by (Err fault) q)) refl))
    by_exit (Ok None) q = (1, ([], [], false, nothing, ended f, ended f, n, here, goes_by (Ok None) q, refl, tt, refl, (refl, refl, refl)))
    by_exit (Ok (Some w)) q = by_turn w.marked w refl (goes_by (Ok (Some w)) q) n refl

  -- the transitions of a whole run whose state is finished
  whole_states : (d : ℕ) → d ≤ limit → Later d
  whole_states zero up = λ k v g y s m len e. (0, nested body exits g k v y, s, m, omega arith, (refl, refl, refl))
  whole_states (suc d) up = λ k v g y s m len e. by_exit d up k v g y s m len e (whole_states d (omega arith)) (first_exit (exits k v) (g ∷ s)) refl

-- any stream may be pushed into
abbrev anywhere : Feeds
anywhere l c = ⊤

anywhere_inside : (l c : ℕ) → inside anywhere l c
anywhere_inside zero c = tt
anywhere_inside (suc l) c = tt

-- a run that agrees ends as the run without picks
ends : {P : Type 0} (d : ℕ) (t : Term P) (n : ℕ) (coming : Coming P) → AgreesWhole anywhere d t [] n coming → (outcome : Outcome P Left) → left_by coming ≡ Some outcome → Sequential t n outcome
ends d t n (Some (Done now)) a outcome e = (a.0 + 1, run-leads anywhere a.0 t n (ended (innermost now.memories)) (drop 1 now.memories) now.turns a.1 1 ∙ e)
ends d t n (Some (Faulted fault)) a outcome e = (a.0 + 1, stops-fault anywhere t n fault a ∙ e)
ends d t n (Some Spent) a outcome e = (a.0 + 1, stops-spent anywhere t n a ∙ e)
ends d t n None a outcome e = cc

-- the leftmost moves of a whole run
whole_run : {P : Type 0} (body : ℕ → Values → Term P) (exits : ℕ → Values → List (Exit P)) (own : Memory) (state : ℕ) (values : Values) (part : Term P) (most turns : ℕ) →
    IsOrdered (nested body exits own state values part) → HasOrderedPools 0 (nested body exits own state values part) →
    AgreesWhole anywhere most (nested body exits own state values part) [] turns (and_then (big_step part most (own ∷ []) turns) (big_states most (λ k v. big_step (body k v) most) exits state values))
whole_run body exits own state values part most turns o h =
    whole_owned anywhere body exits state values most own part [] turns (big_step part most (own ∷ []) turns) (big_states most (λ k v. big_step (body k v) most) exits state values)
    (λ g t s m len.
    whole_states anywhere body exits (λ k v. big_step (body k v) most) most 0 (λ k v s n l. agree (body k v) (o.1 k v) 1 (h.1 k v) (inside anywhere) (λ l c into. anywhere_inside l c) most s n l) most (omega arith) state values g t s m len)
    (agree part o.0 1 h.0 (inside anywhere) (λ l c into. anywhere_inside l c) most (own ∷ []) turns refl)

-- a run that is done from left to right ends as the sequential run
pub big_run-sequential : {P : Type 0} (term : Term P) (most turns : ℕ) (outcome : Outcome P Left) → IsOrdered term → HasOrderedPools 0 term → big_run term most turns ≡ Some outcome → Sequential term turns outcome
big_run-sequential (nested body exits own state values part) most turns outcome o h e =
    ends most (nested body exits own state values part) turns (and_then (big_step part most (own ∷ []) turns) (big_states most (λ k v. big_step (body k v) most) exits state values))
    (whole_run body exits own state values part most turns o h)
    outcome e
big_run-sequential (ended own) most turns outcome o h e = (1, e)
big_run-sequential (leaf place work) most turns outcome o h e = cc
big_run-sequential (list kind before parts) most turns outcome o h e = cc
big_run-sequential (owning own part) most turns outcome o h e = cc
big_run-sequential (pool level container body active closed) most turns outcome o h e = cc

-- a run that is done within so many looks comes to an end with as many transitions and takes
answers : {P : Type 0} (t : Term P) (looks n : ℕ) (coming : Coming P) → AgreesWhole anywhere looks t [] n coming → (outcome : Outcome P Left) → run looks [] (machine (settled t) n) ≡ Some outcome → (other : Outcome P Left) × (left_by coming ≡ Some other)
answers t looks n (Some (Done now)) a outcome e = (Done (record { memory = innermost now.memories; turns = now.turns }), refl)
answers t looks n (Some (Faulted fault)) a outcome e = (Faulted fault, refl)
answers t looks n (Some Spent) a outcome e = (Spent, refl)
answers t looks n None a outcome e = let none : run looks [] (machine (settled t) n) ≡ None = run-none anywhere looks a.0 a.4 t n a.1 a.2 a.3 a.5 in cc

-- an answer is that of the sequential run
the_answer : {P : Type 0} (term : Term P) (most turns : ℕ) (outcome : Outcome P Left) → IsOrdered term → HasOrderedPools 0 term → Sequential term turns outcome → (other : Outcome P Left) × (big_run term most turns ≡ Some other) → big_run term most turns ≡ Some outcome
the_answer term most turns outcome o h s r = r.1 ∙ ap Some (Run-unique term turns [] r.0 outcome (big_run-sequential term most turns r.0 o h r.1) s)

-- and it has an end wherever the sequential run has one
pub sequential-big_run : {P : Type 0} (term : Term P) (turns : ℕ) (outcome : Outcome P Left) → IsOrdered term → HasOrderedPools 0 term → IsRun term → Sequential term turns outcome → (most : ℕ) × (big_run term most turns ≡ Some outcome)
sequential-big_run (nested body exits own state values part) turns outcome o h g s = (
  s.0,
  the_answer (nested body exits own state values part) s.0 turns outcome o h s
      (answers (nested body exits own state values part) s.0 turns (and_then (big_step part s.0 (own ∷ []) turns) (big_states s.0 (λ k v. big_step (body k v) s.0) exits state values))
      (whole_run body exits own state values part s.0 turns o h)
      outcome s.1),
)
sequential-big_run (ended own) turns outcome o h g s = (0, the_answer (ended own) 0 turns outcome o h s (Done (record { memory = own; turns = turns }), refl))
sequential-big_run (leaf place work) turns outcome o h g s = elim g [ ]
sequential-big_run (list kind before parts) turns outcome o h g s = elim g [ ]
sequential-big_run (owning own part) turns outcome o h g s = elim g [ ]
sequential-big_run (pool level container body active closed) turns outcome o h g s = elim g [ ]
