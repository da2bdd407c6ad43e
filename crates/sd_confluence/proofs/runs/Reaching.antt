-- Runs by picks to the machine at their end.
use Rattle.std.proofs.Common.{◌≡◌, ℕ, zero, suc, List, [], ◌∷◌, drop, Some, refl, sym, ◌∙◌, ap, subst, inl, inr, ◌⊎◌, Bool, true, false}
use Rattle.sd_work.specs.Moves.{Path}
use Rattle.sd_work.specs.Step.{Machine, Outcome, Done, Faulted, Spent, next_moves, step, spend, moved}
use Rattle.sd_work.specs.Run.{Left, memory_of, go_on, run_by, run, chosen}
use Rattle.sd_work.specs.Change.{Change}
use Rattle.sd_work.specs.Move.{Fault, goes}
use Rattle.sd_work.specs.Residual.{Term}
use Rattle.sd_work.specs.Settle.{settled}
use Rattle.sd_work.proofs.left_to_right.Leads.{Pays}
use Rattle.sd_work.proofs.left_to_right.LeftmostRuns.{machine}

-- what a machine leaves
abbrev pub left_of : {P : Type 0} → Machine P → Left
left_of machine = record { memory = memory_of machine.term; turns = machine.turns }

-- so many looks by picks lead from m to e, where no move is next
abbrev pub Reaches : {P : Type 0} → ℕ → List ℕ → Machine P → Machine P → Type 0
Reaches zero picks m e = ⊥
Reaches {P} (suc k) picks m e =
    ((next_moves m ≡ []) × (m ≡ e))
    ⊎ ((p : Path) × (ps : List Path) × (next_moves m ≡ p ∷ ps) × (x : Machine P) × (step (chosen picks p ps) m ≡ Done x) × Reaches k (drop 1 picks) x e)

-- what a run that reaches its end leaves is its outcome
pub reaches-run : {P : Type 0} (k : ℕ) (picks : List ℕ) (m e : Machine P) → Reaches k picks m e → run k picks m ≡ Some (Done (left_of e))
reaches-run zero picks m e h = elim h [ ]
reaches-run (suc k) picks m e (inl h) = ap (λ l. run_by l picks m (run k (drop 1 picks))) h.0 ∙ ap (λ w. Some (Done (left_of w))) h.1
reaches-run (suc k) picks m e (inr h) =
    ap (λ l. run_by l picks m (run k (drop 1 picks))) h.2 ∙ ap (λ w. go_on w (run k (drop 1 picks))) h.4 ∙ reaches-run k (drop 1 picks) h.3 e h.5

-- and a run with such an outcome reaches its end
pub run-reaches : {P : Type 0} (k : ℕ) (picks : List ℕ) (m : Machine P) (left : Left) → run k picks m ≡ Some (Done left) → (e : Machine P) × Reaches k picks m e × (left ≡ left_of e)
run-reaches zero picks m left h = cc
run-reaches {P} (suc k) picks m left h = at (λ x r. run-reaches k (drop 1 picks) x left r) (next_moves m) refl h
  where
    on : (p : Path) (ps : List Path) → next_moves m ≡ p ∷ ps → (o : Outcome P (Machine P)) → step (chosen picks p ps) m ≡ o → go_on o (run k (drop 1 picks)) ≡ Some (Done left) →
        ((x : Machine P) → run k (drop 1 picks) x ≡ Some (Done left) → (e : Machine P) × Reaches k (drop 1 picks) x e × (left ≡ left_of e)) →
        (e : Machine P) × Reaches (suc k) picks m e × (left ≡ left_of e)
    on p ps q (Done x) d g later = let r = later x g in (r.0, inr (p, ps, q, x, d, r.1), r.2)
    on p ps q (Faulted f) d g later = cc
    on p ps q Spent d g later = cc

    at : ((x : Machine P) → run k (drop 1 picks) x ≡ Some (Done left) → (e : Machine P) × Reaches k (drop 1 picks) x e × (left ≡ left_of e)) →
        (l : List Path) → next_moves m ≡ l → run_by l picks m (run k (drop 1 picks)) ≡ Some (Done left) → (e : Machine P) × Reaches (suc k) picks m e × (left ≡ left_of e)
    at later [] q g = let same : left_of m ≡ left = cc in (m, inl (q, refl), sym same)
    at later (p ∷ ps) q g = on p ps q (step (chosen picks p ps) m) refl g later

-- no machine is left by a move that fails
pub failed : {P A : Type 0} (turn : Bool) (n : ℕ) (fault : Fault P) (x : A) → ◌≡◌ {A = Outcome P A} (spend Spent turn n (λ turns. Faulted fault)) (Done x) → ⊥
failed true zero fault x e = cc
failed true (suc n) fault x e = cc
failed false n fault x e = cc

-- the machine that is left by a move that goes on
pub paid : {P : Type 0} (t : Term P) (n : ℕ) (b : Bool) (u : Change) (y : Term P) (x : Machine P) → moved (machine t n) (goes b u y) ≡ Done x → (l : ℕ) × Pays b n l × (machine (settled y) l ≡ x)
paid t zero true u y x e = cc
paid t (suc n) true u y x e = (n, refl, cc)
paid t n false u y x e = (n, refl, cc)

-- a run by picks has one end
pub one-end : {P : Type 0} (k j : ℕ) (picks : List ℕ) (m e f : Machine P) → Reaches k picks m e → Reaches j picks m f → e ≡ f
one-end zero j picks m e f h g = elim h [ ]
one-end (suc k) zero picks m e f h g = elim g [ ]
one-end (suc k) (suc j) picks m e f (inl h) (inl g) = sym h.1 ∙ g.1
one-end (suc k) (suc j) picks m e f (inl h) (inr g) = let bad : [] ≡ g.0 ∷ g.1 = sym h.0 ∙ g.2 in cc
one-end (suc k) (suc j) picks m e f (inr h) (inl g) = let bad : [] ≡ h.0 ∷ h.1 = sym g.0 ∙ h.2 in cc
one-end {P} (suc k) (suc j) picks m e f (inr h) (inr g) =
    let all : h.0 ∷ h.1 ≡ g.0 ∷ g.1 = sym h.2 ∙ g.2 in
    let first : h.0 ≡ g.0 = cc in
    let others : h.1 ≡ g.1 = cc in
    let done : Done h.3 ≡ Done g.3 = sym h.4 ∙ (λ i. step (chosen picks (first i) (others i)) m) ∙ g.4 in
    let next : h.3 ≡ g.3 = cc in
    one-end k j (drop 1 picks) h.3 e f h.5 (subst (λ x. Reaches j (drop 1 picks) x f) (sym next) g.5)
