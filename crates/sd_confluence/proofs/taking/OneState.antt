-- A run of a graph of one state goes as what it does there in an owner.
use Rattle.std.proofs.Common.{◌≡◌, ℕ, zero, suc, List, [], ◌∷◌, ◌++◌, drop, Bool, true, false, cond, None, Ok, refl, sym, ◌∙◌, ap, subst, inl, inr}
use Rattle.sd_work.specs.Memory.{Memory}
use Rattle.sd_work.specs.Change.{own_after, outer}
use Rattle.sd_work.specs.Move.{Move, fails, goes, no_move}
use Rattle.sd_work.specs.Exit.{Values}
use Rattle.sd_work.specs.Residual.{Term, owning, nested, ended, finished}
use Rattle.sd_work.specs.Moves.{Path, moves}
use Rattle.sd_work.specs.Fire.{owned, transition, fire}
use Rattle.sd_work.specs.Settle.{settle, settled}
use Rattle.sd_work.specs.Step.{Machine, Done, next_moves, moved, step}
use Rattle.sd_work.specs.Run.{chosen}
use Rattle.sd_work.proofs.Finished.{moves-finished}
use Rattle.sd_work.proofs.left_to_right.LeftmostRuns.{machine, moves_on}
use Rattle.sd_confluence.specs.Event.{event_of_move, event_at, events}
use Rattle.sd_confluence.proofs.runs.Reaching.{Reaches, failed, paid}
use Rattle.sd_confluence.proofs.taking.Told.{event_inside, told, told-none, told-next}

-- the run of a graph without exits
abbrev graph : {P : Type 0} → (ℕ → Values → Term P) → ℕ → Values → Memory → Term P → ℕ → Machine P
graph body state values own part n = machine (nested body (λ state values. []) own state values part) n

-- and the part that it is at in an owner
abbrev alone : {P : Type 0} → Memory → Term P → ℕ → Machine P
alone own part n = machine (owning own part) n

-- a step before the part is finished is one of the part in an owner
abbrev StepsAlone : {P : Type 0} → (ℕ → Values → Term P) → ℕ → Values → Memory → Term P → ℕ → Path → Machine P → Type 0
StepsAlone {P} body state values own part n path x =
    (left : Memory) × (later : Term P) × (m : ℕ) × (x ≡ graph body state values left later m) × (step path (alone own part n) ≡ Done (alone left later m))

steps_alone : {P : Type 0} (body : ℕ → Values → Term P) (state : ℕ) (values : Values) (own : Memory) (part : Term P) (n : ℕ) (path : Path) (x : Machine P) → finished part ≡ false →
    step path (graph body state values own part n) ≡ Done x → StepsAlone body state values own part n path x
steps_alone {P} body state values own part n path x f e =
    go (fire part path (own ∷ [])) refl (ap (λ b. moved m (cond b (transition body (λ state values. []) own (Ok None)) (owned whole own (fire part path (own ∷ []))))) (sym f) ∙ e)
  where
    whole : Memory → Term P → Term P
    whole memory left = nested body (λ state values. []) memory state values left

    m : Machine P
    m = graph body state values own part n

    go : (w : Move P (Term P)) → fire part path (own ∷ []) ≡ w → moved m (owned whole own w) ≡ Done x → StepsAlone body state values own part n path x
    go (fails turn fault) g d = absurd (failed turn n fault x d)
    go (goes turn u y) g d =
        let r = paid m.term n turn (outer u) (whole (own_after u own) y) x d in (
          own_after u own,
          settle true (true ∷ []) (own_after u own ∷ []) y,
          r.0,
          sym r.2,
          ap (λ w. moved (alone own part n) (owned owning own w)) g ∙ moves_on (owning own part) n r.0 turn (outer u) (owning (own_after u own) y) (settled (owning (own_after u own) y)) r.1 refl,
        )
    go no_move g d = (own, part, n, let same : m ≡ x = cc in sym same, ap (λ w. moved (alone own part n) (owned owning own w)) g)

-- the part in an owner comes to an end by these picks, with the events of the run
abbrev GoesAlone : {P : Type 0} → (ℕ → Values → Term P) → ℕ → Values → ℕ → List ℕ → Memory → Term P → ℕ → Type 0
GoesAlone {P} body state values k picks own part n =
    (e : Machine P) × Reaches k picks (alone own part n) e × (told event_inside k picks (alone own part n) ≡ events k picks (graph body state values own part n))

-- where a run of a graph without exits comes to an end, so does the part in an owner alone, with the same events
pub goes-alone : {P : Type 0} (body : ℕ → Values → Term P) (state : ℕ) (values : Values) (k : ℕ) (picks : List ℕ) (own : Memory) (part : Term P) (n : ℕ) (e : Machine P) →
    Reaches k picks (graph body state values own part n) e → GoesAlone body state values k picks own part n
goes-alone body state values zero picks own part n e h = elim h [ ]
goes-alone {P} body state values (suc k) picks own part n e h =
    go (finished part) refl h (λ left later m x. goes-alone body state values k (drop 1 picks) left later m e x)
  where
    G : Machine P
    G = graph body state values own part n

    A : Machine P
    A = alone own part n

    -- of a transition nothing is told
    over : finished part ≡ true → Reaches (suc k) picks G e → events (suc k) picks G ≡ []
    over f (inl h) = told-none event_at (suc k) picks G h.0
    over f (inr h) =
        let path : Path = chosen picks h.0 h.1 in
        let done : Done (machine (ended own) n) ≡ Done h.3 =
        ap (λ b. moved G (cond b (transition body (λ state values. []) own (Ok None)) (owned (λ memory left. nested body (λ state values. []) memory state values left) own (fire part path (own ∷ []))))) (sym f) ∙ h.4 in
        let same : machine (ended own) n ≡ h.3 = cc in
        told-next event_at k picks G h.3 h.0 h.1 h.2 h.4
        ∙ (λ i. cond (f i) [] (event_of_move own (fire part path (own ∷ []))) ++ events k (drop 1 picks) (sym same i))
        ∙ told-none event_at k (drop 1 picks) (machine (ended own) n) refl

    go : (b : Bool) → finished part ≡ b → Reaches (suc k) picks G e →
        ((left : Memory) (later : Term P) (m : ℕ) → Reaches k (drop 1 picks) (graph body state values left later m) e → GoesAlone body state values k (drop 1 picks) left later m) →
        GoesAlone body state values (suc k) picks own part n
    go true f r rest =
        let none : next_moves A ≡ [] = moves-finished part (own ∷ []) f in
        (A, inl (none, refl), told-none event_inside (suc k) picks A none ∙ sym (over f r))
    go false f (inl h) rest =
        let none : next_moves A ≡ [] = ap (λ b. cond b ([] ∷ []) (moves part (own ∷ []))) (sym f) ∙ h.0 in
        (A, inl (none, refl), told-none event_inside (suc k) picks A none ∙ sym (told-none event_at (suc k) picks G h.0))
    go false f (inr h) rest =
        let path : Path = chosen picks h.0 h.1 in
        let same : next_moves A ≡ h.0 ∷ h.1 = ap (λ b. cond b ([] ∷ []) (moves part (own ∷ []))) (sym f) ∙ h.2 in
        let s = steps_alone body state values own part n path h.3 f h.4 in
        let r = rest s.0 s.1 s.2 (subst (λ x. Reaches k (drop 1 picks) x e) s.3 h.5) in (
          r.0,
          inr (h.0, h.1, same, alone s.0 s.1 s.2, s.4, r.1),
          told-next event_inside k picks A (alone s.0 s.1 s.2) h.0 h.1 same s.4
              ∙ (λ i. cond (sym f i) [] (event_of_move own (fire part path (own ∷ []))) ++ r.2 i)
              ∙ ap (λ x. event_at G.term path ++ events k (drop 1 picks) x) (sym s.3)
              ∙ sym (told-next event_at k picks G h.3 h.0 h.1 h.2 h.4),
        )
