-- Every run of a term without pools ends, where each cycle of transitions spends a turn.
use Rattle.std.proofs.Common.{◌≡◌, ℕ, zero, suc, pred, ◌+◌, ◌<◌, ◌≤◌, ℤ, List, [], ◌∷◌, ◌++◌, drop, Option, Some, None, Result, Ok, Err, Bool, true, false, cond, not, refl, sym, ◌∙◌, ap, subst, arith, inl, inr, ◌⊎◌}
use Rattle.sd_work.specs.declared.fault.FaultKind.{FaultKind}
use Rattle.sd_work.specs.Memory.{Memory, Memories, Reference, seen}
use Rattle.sd_work.specs.Change.{Change, own_after, outer}
use Rattle.sd_work.specs.Leaf.{Pending, Evaluation, reading, doing}
use Rattle.sd_work.specs.Move.{Fault, Move, fails, goes, no_move, map_move}
use Rattle.sd_work.specs.LeafMove.{do_move, read_move, evaluation_move}
use Rattle.sd_work.specs.Exit.{Values, Exit, passed, or_later, first_exit}
use Rattle.sd_work.specs.Residual.{Parts, Term, leaf, list, owning, nested, ended, pool, Terms, none, also, finished}
use Rattle.sd_work.specs.Moves.{Path}
use Rattle.sd_work.specs.Fire.{owned, transition, fire, fire_part}
use Rattle.sd_work.specs.Settle.{settled}
use Rattle.sd_work.specs.Step.{Outcome}
use Rattle.sd_work.specs.Run.{Left, run, Run}
use Rattle.sd_work.specs.WellFormed.{HasNoPool, HaveNoPool, Rises, HasRanks, PaysCycles, PayCycles}
use Rattle.sd_work.proofs.left_to_right.WithoutPools.{settled-none, fired-none}
use Rattle.sd_work.proofs.left_to_right.LeftmostRuns.{machine}
use Rattle.sd_work.proofs.left_to_right.LeftmostOwners.{effect_next}
use Rattle.sd_work.proofs.ending.Kept.{pays_kept}
use Rattle.sd_work.proofs.ending.Comes.{Comes, comes_on}
use Rattle.sd_work.proofs.Leaving.{Leaves}

-- moves that spend no turn come to an end, whatever stands in memory
data Quiet {P : Type 0} : Term P → Type 0 where
  quiet : {t : Term P} → ((p : Path) (s : Memories) (u : Change) (x : Term P) → fire t p s ≡ goes false u x → Quiet x) → Quiet t

data QuietParts {P : Type 0} : Terms P → Type 0 where
  quiets : {ts : Terms P} → ((k : ℕ) (p : Path) (s : Memories) (u : Change) (x : Terms P) → fire_part ts k p s ≡ goes false u x → QuietParts x) → QuietParts ts

-- a move of a whole is one of a part, put back
pub map_back : {P A B : Type 0} (f : A → B) (m : Move P A) (b : Bool) (u : Change) (y : B) → map_move f m ≡ goes b u y → (x : A) × (m ≡ goes b u x) × (f x ≡ y)
map_back f (fails turn e) b u y q = cc
map_back f (goes turn v x) b u y q = (x, cc, cc)
map_back f no_move b u y q = cc

-- and so is one of an owner, seen from outside
pub owned_back : {P : Type 0} (whole : Memory → Term P → Term P) (own : Memory) (m : Move P (Term P)) (b : Bool) (u : Change) (y : Term P) → owned whole own m ≡ goes b u y →
    (v : Change) × (x : Term P) × (m ≡ goes b v x) × (whole (own_after v own) x ≡ y) × (outer v ≡ u)
owned_back whole own (fails turn e) b u y q = cc
owned_back whole own (goes turn v x) b u y q = (v, x, cc, cc, cc)
owned_back whole own no_move b u y q = cc

quiet_owning : {P : Type 0} (t : Term P) → Quiet t → (own : Memory) → Quiet (owning own t)
quiet_owning t (quiet h) own = quiet (λ p s u x e.
    let r = owned_back owning own (fire t p (own ∷ s)) false u x e in
    subst Quiet r.3 (quiet_owning r.1 (h p (own ∷ s) r.0 r.1 r.2) (own_after r.0 own)))

quiet_list : {P : Type 0} (kind : Parts) (before : ℕ → ℕ → Bool) (ts : Terms P) → QuietParts ts → Quiet (list kind before ts)
quiet_list {P} kind before ts (quiets h) = quiet (go ts (λ k p s u x e. quiet_list kind before x (h k p s u x e)))
  where
    go : (ts : Terms P) → ((k : ℕ) (p : Path) (s : Memories) (u : Change) (x : Terms P) → fire_part ts k p s ≡ goes false u x → Quiet (list kind before x)) →
        (p : Path) (s : Memories) (u : Change) (x : Term P) → fire (list kind before ts) p s ≡ goes false u x → Quiet x
    go ts h [] s u x e = cc
    go ts h (k ∷ p) s u x e = let r = map_back (list kind before) (fire_part ts k p s) false u x e in subst Quiet r.2 (h k p s u r.0 r.1)

-- a part beside quiet parts
beside_quiet : {P : Type 0} (t : Term P) → ((p : Path) (s : Memories) (u : Change) (x : Term P) → fire t p s ≡ goes false u x → (us : Terms P) → QuietParts us → QuietParts (also x us)) →
    (ts : Terms P) → QuietParts ts → QuietParts (also t ts)
beside_quiet {P} t h ts (quiets g) = quiets (go (λ p s u x e. h p s u x e ts (quiets g)) (λ k p s u x e. beside_quiet t h x (g k p s u x e)))
  where
    go : ((p : Path) (s : Memories) (u : Change) (x : Term P) → fire t p s ≡ goes false u x → QuietParts (also x ts)) →
        ((k : ℕ) (p : Path) (s : Memories) (u : Change) (x : Terms P) → fire_part ts k p s ≡ goes false u x → QuietParts (also t x)) →
        (k : ℕ) (p : Path) (s : Memories) (u : Change) (x : Terms P) → fire_part (also t ts) k p s ≡ goes false u x → QuietParts x
    go a b zero p s u x e = let r = map_back (λ y. also y ts) (fire t p s) false u x e in subst QuietParts r.2 (a p s u r.0 r.1)
    go a b (suc k) p s u x e = let r = map_back (λ y. also t y) (fire_part ts k p s) false u x e in subst QuietParts r.2 (b k p s u r.0 r.1)

quiet_also : {P : Type 0} (t : Term P) → Quiet t → (ts : Terms P) → QuietParts ts → QuietParts (also t ts)
quiet_also t (quiet h) ts q = beside_quiet t (λ p s u x e us r. quiet_also x (h p s u x e) us r) ts q

quiet_doing : {P : Type 0} (place : P) (left : List Pending) → Quiet (leaf place (doing left))
quiet_doing place [] = quiet (λ p s u x e. cc)
quiet_doing place (next ∷ left) = quiet (λ p s u x e.
    let r = map_back (leaf place) (do_move place next s left) false u x e in
    subst Quiet (ap (leaf place) (effect_next place next s left false u r.0 r.1) ∙ r.2) (quiet_doing place left))

quiet_reading : {P : Type 0} (place : P) (begun : Bool) (left : List (Option Reference)) (values : List ℤ) (evaluation : Evaluation) → Quiet (leaf place (reading begun left values evaluation))
quiet_reading {P} place begun [] values evaluation = quiet (λ p s u x e. go (evaluation values) u x e)
  where
    go : (r : Result (List Pending) FaultKind) (u : Change) (x : Term P) → map_move (leaf place) (evaluation_move place (not begun) r) ≡ goes false u x → Quiet x
    go (Ok effects) u x e = let same : leaf place (doing effects) ≡ x = cc in subst Quiet same (quiet_doing place effects)
    go (Err kind) u x e = cc
quiet_reading {P} place begun (next ∷ left) values evaluation = quiet (λ p s u x e. go (seen next s) u x e (λ v. quiet_reading place true left (values ++ v ∷ []) evaluation))
  where
    go : (o : Option ℤ) (u : Change) (x : Term P) → map_move (leaf place) (read_move place (not begun) o left values evaluation) ≡ goes false u x →
        ((v : ℤ) → Quiet (leaf place (reading true left (values ++ v ∷ []) evaluation))) → Quiet x
    go None u x e q = cc
    go (Some v) u x e q = let same : leaf place (reading true left (values ++ v ∷ []) evaluation) ≡ x = cc in subst Quiet same (q v)

-- an exit that is taken and not marked leads to a state of a higher rank below the bound
pub higher : {P : Type 0} (rank : ℕ → ℕ) (bound state : ℕ) (exits : List (Exit P)) (s : Memories) (e : Exit P) → Rises rank bound state exits → first_exit exits s ≡ Ok (Some e) → e.marked ≡ false →
    (rank state < rank e.state) × (rank e.state < bound)
higher rank bound state [] s e f q m = cc
higher {P} rank bound state (x ∷ xs) s e f q m = go (passed x.when s) f.0 q (λ r. higher rank bound state xs s e f.1 r m)
  where
    go : (d : Result Bool (Fault P)) → ((x.marked ≡ true) ⊎ ((rank state < rank x.state) × (rank x.state < bound))) → or_later d x (first_exit xs s) ≡ Ok (Some e) →
        (first_exit xs s ≡ Ok (Some e) → (rank state < rank e.state) × (rank e.state < bound)) → (rank state < rank e.state) × (rank e.state < bound)
    go (Err g) w q later = cc
    go (Ok true) (inl t) q later = let same : x ≡ e = cc in let bad : true ≡ false = sym t ∙ ap (λ (y : Exit P). y.marked) same ∙ m in cc
    go (Ok true) (inr p) q later = let same : x ≡ e = cc in subst (λ (y : Exit P). (rank state < rank y.state) × (rank y.state < bound)) same p
    go (Ok false) w q later = later q

-- a run of a graph whose states are quiet
module _ {P : Type 0} (body : ℕ → Values → Term P) (exits : ℕ → Values → List (Exit P)) (quiet_body : (k : ℕ) (e : Values) → Quiet (body k e)) (ranks : HasRanks exits) where
  quiet_ended : (own : Memory) → Quiet {P = P} (ended own)
  quiet_ended own = quiet (λ p s u x e. cc)

  -- with the states of higher ranks quiet, a part that is quiet stays so to the end of its state
  quiet_part : (state : ℕ) (values : Values) →
      ((k : ℕ) → ranks.rank state < ranks.rank k → ranks.rank k < ranks.bound → (own : Memory) (w : Values) → Quiet (nested body exits own k w (body k w))) →
      (t : Term P) → Quiet t → (own : Memory) → Quiet (nested body exits own state values t)
  quiet_part state values later t (quiet h) own = quiet (λ p s u x e. go (finished t) p s u x e (λ v y own' f. quiet_part state values later y (h p (own ∷ s) v y f) own'))
    where
      out : (s : Memories) (r : Result (Option (Exit P)) (Fault P)) → first_exit (exits state values) (own ∷ s) ≡ r → (u : Change) (x : Term P) → transition body exits own r ≡ goes false u x → Quiet x
      out s (Err f) q u x e = cc
      out s (Ok None) q u x e = let same : ended own ≡ x = cc in subst Quiet same (quiet_ended own)
      out s (Ok (Some y)) q u x e =
          let m : y.marked ≡ false = cc in
          let same : nested body exits own y.state y.values (body y.state y.values) ≡ x = cc in
          let up = higher ranks.rank ranks.bound state (exits state values) (own ∷ s) y (ranks.rises state values) q m in
          subst Quiet same (later y.state up.0 up.1 own y.values)

      go : (b : Bool) (p : Path) (s : Memories) (u : Change) (x : Term P) →
          cond b (transition body exits own (first_exit (exits state values) (own ∷ s))) (owned (λ f t'. nested body exits f state values t') own (fire t p (own ∷ s))) ≡ goes false u x →
          ((v : Change) (y : Term P) (own' : Memory) → fire t p (own ∷ s) ≡ goes false v y → Quiet (nested body exits own' state values y)) → Quiet x
      go true p s u x e more = out s (first_exit (exits state values) (own ∷ s)) refl u x e
      go false p s u x e more =
          let r = owned_back (λ f t'. nested body exits f state values t') own (fire t p (own ∷ s)) false u x e in
          subst Quiet r.3 (more r.0 r.1 (own_after r.0 own) r.2)

  -- d is what the rank lacks to the bound at most
  quiet_states : (d k : ℕ) → ranks.bound ≤ ranks.rank k + d → (own : Memory) (w : Values) → Quiet (nested body exits own k w (body k w))
  quiet_states zero k h own w = quiet_part k w (λ j a b own' w'. absurd (omega arith)) (body k w) (quiet_body k w) own
  quiet_states (suc d) k h own w = quiet_part k w (λ j a b own' w'. quiet_states d j (omega arith) own' w') (body k w) (quiet_body k w) own

  quiet_nested : (state : ℕ) (values : Values) (t : Term P) → Quiet t → (own : Memory) → Quiet (nested body exits own state values t)
  quiet_nested state values t q own = quiet_part state values (λ j a b own' w'. quiet_states ranks.bound j (omega arith) own' w') t q own

mutual
  all_quiet : {P : Type 0} (t : Term P) → HasNoPool t → PaysCycles t → Quiet t
  all_quiet (leaf place (reading begun left values evaluation)) np h = quiet_reading place begun left values evaluation
  all_quiet (leaf place (doing left)) np h = quiet_doing place left
  all_quiet (list kind before parts) np h = quiet_list kind before parts (all_quiet_parts parts np h)
  all_quiet (owning own part) np h = quiet_owning part (all_quiet part np h) own
  all_quiet (nested body exits own state values part) np h = quiet_nested body exits (λ k e. all_quiet (body k e) (np.1 k e) (h.1 k e)) h.2 state values part (all_quiet part np.0 h.0) own
  all_quiet (ended own) np h = quiet (λ p s u x e. cc)
  all_quiet (pool level container body active closed) np h = elim np [ ]

  all_quiet_parts : {P : Type 0} (ts : Terms P) → HaveNoPool ts → PayCycles ts → QuietParts ts
  all_quiet_parts none np h = quiets (λ k p s u x e. cc)
  all_quiet_parts (also t ts) np h = quiet_also t (all_quiet t np.0 h.0) ts (all_quiet_parts ts np.1 h.1)

comes_quiet : {P : Type 0} (n : ℕ) → ((m : ℕ) → n ≡ suc m → (x : Term P) → HasNoPool x → PaysCycles x → (picks : List ℕ) → Comes m x picks) → (t : Term P) → Quiet t → HasNoPool t → PaysCycles t → (picks : List ℕ) → Comes n t picks
comes_quiet {P} n later t (quiet h) np f picks =
    comes_on n t picks (λ p u x e. as_it_is n p false u x e (λ no g. comes_quiet n later x (h p [] u x e) no g (drop 1 picks)))
    (λ p u x m e c. as_it_is m p true u x e (λ no g. later m c x no g (drop 1 picks)))
  where
    as_it_is : (m : ℕ) (p : Path) (b : Bool) (u : Change) (x : Term P) → fire t p [] ≡ goes b u x → (HasNoPool x → PaysCycles x → Comes m x (drop 1 picks)) → Comes m (settled x) (drop 1 picks)
    as_it_is m p b u x e on =
        let no : HasNoPool x = fired-none t np p [] b u x e in
        subst (λ y. Comes m y (drop 1 picks)) (sym (settled-none x no)) (on no (subst (Leaves PaysCycles) e (pays_kept t f p [])))

comes : {P : Type 0} (n : ℕ) (t : Term P) → HasNoPool t → PaysCycles t → (picks : List ℕ) → Comes n t picks
comes zero t np f picks = comes_quiet 0 (λ m c. cc) t (all_quiet t np f) np f picks
comes (suc n) t np f picks = comes_quiet (suc n) (λ m c x no g q. let same : n ≡ m = ap pred c in subst (λ k. Comes k x q) same (comes n x no g q)) t (all_quiet t np f) np f picks

-- every run ends
pub run-ends : {P : Type 0} (term : Term P) (turns : ℕ) (picks : List ℕ) → HasNoPool term → PaysCycles term → (outcome : Outcome P Left) × Run term turns picks outcome
run-ends term turns picks np f =
    let h = comes turns term np f picks in
    (h.1, (h.0, ap (λ t. run h.0 picks (machine t turns)) (settled-none term np) ∙ h.2))
