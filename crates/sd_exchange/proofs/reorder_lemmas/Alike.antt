-- The laws in the words of memories that are alike.
use Rattle.std.proofs.Common.{◌≡◌, ℕ, List, [], ◌∷◌, Some, None, refl, sym, ◌∙◌, ap, subst}
use Rattle.sd_work.specs.Memory.{Memory, Memories}
use Rattle.sd_work.specs.Change.{innermost}
use Rattle.sd_work.specs.Exit.{Values, Exit, first_exit}
use Rattle.sd_work.specs.Residual.{Term, Terms, nested}
use Rattle.sd_work.specs.Step.{Done, Faulted, Spent}
use Rattle.sd_work.specs.Run.{Left, Sequential}
use Rattle.sd_work.specs.WellFormed.{IsOrdered}
use Rattle.sd_work.specs.OrderedPools.{HasOrderedPools}
use Rattle.sd_work.specs.BigStep.{Reached, Coming, reached, big_step, big_parts, and_then, big_states}
use Rattle.sd_work.specs.BigRun.{left_by, big_run}
use Rattle.sd_work.proofs.left_to_right.BigRuns.{big_run-sequential, sequential-big_run}
use Rattle.sd_confluence.specs.Alike.{AreAlike, LeaveAlike}
use Rattle.sd_confluence.specs.Alike.{AreStacksAlike}
use Rattle.sd_exchange.specs.reorder.SafePools.{HasSafePools, HaveSafePools}
use Rattle.sd_exchange.specs.reorder.Reordered as order
use Rattle.sd_exchange.specs.reorder.Reordered.{Reordered}
use Rattle.sd_exchange.proofs.reorder_lemmas.Following.{Follows, SameWay}
use Rattle.sd_exchange.proofs.reorder_lemmas.Nearly.{near-memory, near-stack, alike-stack, Near}
use Rattle.sd_exchange.proofs.reorder_lemmas.Passing.{compatible-back}
use Rattle.sd_exchange.proofs.reorder_lemmas.Ends.{EndsAlike, end-reordered, follow-run}
use Rattle.sd_exchange.proofs.reorder_lemmas.Itself.{ends-itself, each-itself, way-near}

so_far : {P Q : Type 0} (n : ℕ) (came : Coming P) (other : ℕ → Coming Q) → Follows Near n came other → (x : Reached) → came ≡ Some (Done x) → (end : Memories) × (other n ≡ reached end x.turns) × AreStacksAlike x.memories end
so_far n came other h x e = let a = h.done x e in (a.1, ap other a.2 ∙ a.3 x.turns, alike-stack x.memories a.1 a.4)

pub alike-ends : {P : Type 0} (t : Term P) (most n : ℕ) (s v : Memories) (x : Reached) → HasSafePools t → AreStacksAlike s v → big_step t most s n ≡ Some (Done x) → (end : Memories) × (big_step t most v n ≡ reached end x.turns) × AreStacksAlike x.memories end
alike-ends t most n s v x h r e = so_far n (big_step t most s n) (big_step t most v) ((ends-itself t h).ends most n s v (near-stack s v r)) x e

pub reordered-end : {P : Type 0} (ts us : Terms P) (most n : ℕ) (s v : Memories) (x : Reached) → Reordered ts us → HaveSafePools ts → AreStacksAlike s v → big_parts ts most s n ≡ Some (Done x) → (end : Memories) × (big_parts us most v n ≡ reached end x.turns) × AreStacksAlike x.memories end
reordered-end ts us most n s v x q h r e = so_far n (big_parts ts most s n) (big_parts us most v) ((end-reordered ts us q (each-itself ts h)).end most n s v (near-stack s v r)) x e

-- ---- back

pub order-back : {P : Type 0} (ts us : Terms P) → Reordered ts us → Reordered us ts
order-back ts us (order.as_it_is parts) = order.as_it_is parts
order-back ts us (order.behind part parts others r) = order.behind part others parts (order-back parts others r)
order-back ts us (order.exchanged first second parts c) = order.exchanged second first parts (λ a b t u. compatible-back b a (c b a u t))
order-back ts us (order.and_then parts between others r q) = order.and_then others between parts (order-back between others q) (order-back parts between r)

pub safe-reordered : {P : Type 0} (ts us : Terms P) → Reordered ts us → HaveSafePools ts → HaveSafePools us
safe-reordered ts us (order.as_it_is parts) h = h
safe-reordered ts us (order.behind part parts others r) h = (h.0, safe-reordered parts others r h.1)
safe-reordered ts us (order.exchanged first second parts c) h = (h.1.0, (h.0, h.1.1))
safe-reordered ts us (order.and_then parts between others r q) h = safe-reordered between others q (safe-reordered parts between r h)

-- ---- whole runs

-- whole runs that end alike from these memories on
abbrev Whole : {P : Type 0} → Term P → Term P → Type 0
Whole {P} t u = (most n : ℕ) (x : Left) → big_run t most n ≡ Some (Done x) → (y : Left) × (big_run u most n ≡ Some (Done y)) × LeaveAlike x y

left_done : {P : Type 0} (c : Coming P) (x : Left) → left_by c ≡ Some (Done x) → (now : Reached) × (c ≡ Some (Done now)) × (x ≡ record { memory = innermost now.memories; turns = now.turns })
left_done (Some (Done now)) x e = (now, refl, cc)
left_done (Some (Faulted fault)) x e = cc
left_done (Some Spent) x e = cc
left_done None x e = cc

innermost_alike : (s v : Memories) → AreStacksAlike s v → AreAlike (innermost s) (innermost v)
innermost_alike [] [] h = tt
innermost_alike [] (n ∷ v) h = elim h [ ]
innermost_alike (m ∷ s) [] h = elim h [ ]
innermost_alike (m ∷ s) (n ∷ v) h = h.0

pub whole-alike : {P : Type 0} (body body' : ℕ → Values → Term P) (exits exits' : ℕ → Values → List (Exit P)) (own other : Memory) (state : ℕ) (values : Values) (part part' : Term P) →
    ((state : ℕ) (values : Values) → EndsAlike (body state values) (body' state values)) →
    ((state : ℕ) (values : Values) (s v : Memories) → Near s v → SameWay (first_exit (exits state values) s) (first_exit (exits' state values) v)) →
    AreAlike own other → EndsAlike part part' → Whole (nested body exits own state values part) (nested body' exits' other state values part')
whole-alike {P} body body' exits exits' own other state values part part' h g m q most n x e =
    let d = left_done (and_then (big_step part most (own ∷ []) n) (big_states most (λ state values. big_step (body state values) most) exits state values)) x e in
    let f = so_far n (and_then (big_step part most (own ∷ []) n) (big_states most (λ state values. big_step (body state values) most) exits state values))
    (λ m. and_then (big_step part' most (other ∷ []) m) (big_states most (λ state values. big_step (body' state values) most) exits' state values))
    (follow-run body body' exits exits' state values part part' h g q most n (own ∷ []) (other ∷ []) (near-memory own other m, tt)) d.0 d.1 in (
      record { memory = innermost f.0; turns = d.0.turns },
      ap left_by f.1,
      subst (λ y. LeaveAlike y (record { memory = innermost f.0; turns = d.0.turns })) (sym d.2) (record { memory = innermost_alike d.0.memories f.0 f.2; turns = refl }),
    )

-- the sequential runs of graphs whose runs from left to right end alike
pub sequential-alike : {P : Type 0} (body body' : ℕ → Values → Term P) (exits exits' : ℕ → Values → List (Exit P)) (own other : Memory) (state state' : ℕ) (values values' : Values) (part part' : Term P) (n : ℕ) (x : Left) →
    (let t = nested body exits own state values part in let u = nested body' exits' other state' values' part' in
    IsOrdered t → HasOrderedPools 0 t → IsOrdered u → HasOrderedPools 0 u → Whole t u → Sequential t n (Done x) → (y : Left) × Sequential u n (Done y) × LeaveAlike x y)
sequential-alike body body' exits exits' own other state state' values values' part part' n x o p o' p' w e =
    let a = sequential-big_run (nested body exits own state values part) n (Done x) o p tt e in
    let b = w a.0 n x a.1 in
    (b.0, big_run-sequential (nested body' exits' other state' values' part') a.0 n (Done b.0) o' p' b.1, b.2)

-- a run of a graph ends alike from alike memories
pub run-alike : {P : Type 0} (body : ℕ → Values → Term P) (exits : ℕ → Values → List (Exit P)) (own other : Memory) (state : ℕ) (values : Values) (part : Term P) (n : ℕ) (x : Left) →
    (let t = nested body exits own state values part in IsOrdered t → HasOrderedPools 0 t → HasSafePools t → AreAlike own other → Sequential t n (Done x) → (y : Left) × Sequential (nested body exits other state values part) n (Done y) × LeaveAlike x y)
run-alike body exits own other state values part n x o p h m e =
    sequential-alike body body exits exits own other state state values values part part n x o p o p
    (whole-alike body body exits exits own other state values part part (λ state values. ends-itself (body state values) (h.1 state values)) (λ state values s v r. way-near (exits state values) s v r) m (ends-itself part h.0)) e
