-- Leftmost moves are those of a run without picks.
use Rattle.std.proofs.Common.{◌≡◌, ℕ, zero, suc, ◌+◌, ◌≤◌, ◌%◌, List, [], ◌∷◌, length, Some, None, Bool, true, false, refl, ap, sym, subst, ◌∙◌, arith, slice_index_or, drop}
use Rattle.sd_work.specs.Memory.{Memories}
use Rattle.sd_work.specs.Change.{Change, nothing, write, push, take, apply}
use Rattle.sd_work.specs.Move.{Fault, Move, fails, goes, no_move}
use Rattle.sd_work.specs.Residual.{Term}
use Rattle.sd_work.specs.Moves.{Path, moves}
use Rattle.sd_work.specs.Fire.{fire}
use Rattle.sd_work.specs.Settle.{settled}
use Rattle.sd_work.specs.Step.{Machine, Done, Faulted, Spent, moved, step}
use Rattle.sd_work.specs.Run.{go_on, run_by, run, chosen}
use Rattle.sd_work.proofs.left_to_right.Leads.{front, Pays, Feeds, Leads, FailsBy, FailsNow, Stops}

-- a machine with this term, settled or not
abbrev pub machine : {P : Type 0} → Term P → ℕ → Machine P
machine term turns = record { term = term; turns = turns }

pub nothing_stays : (change : Change) → apply change [] ≡ []
nothing_stays nothing = refl
nothing_stays (write to by value) = refl
nothing_stays (push level container value) = refl
nothing_stays (take level container position) = refl

leads-nothing : {P : Type 0} (W : Feeds) (k : ℕ) (t : Term P) (n : ℕ) (t' : Term P) (s' : Memories) (n' : ℕ) → Leads W k t [] n t' s' n' → s' ≡ []
leads-nothing W zero t n t' s' n' a = sym a.1
leads-nothing W (suc k) t n t' s' n' a = leads-nothing W k a.5 a.6 t' s' n' (subst (λ w. Leads W k a.5 w a.6 t' s' n') (nothing_stays a.3) a.12)

first_is_chosen : (p : Path) (ps : List Path) → slice_index_or (p ∷ ps) (0 % length (p ∷ ps)) p ≡ p
first_is_chosen p ps = let h : 0 % suc (length ps) ≡ 0 = omega arith in ap (λ k. slice_index_or (p ∷ ps) k p) h

-- the move that a pick chooses is made
pub one_move : {P : Type 0} (k n b : ℕ) (t : Term P) (picks : List ℕ) (p : Path) (ps : List Path) → moves t [] ≡ p ∷ ps → (w : Path) → w ≡ chosen picks p ps → (m : Move P (Term P)) → fire t w [] ≡ m → n ≡ b →
    run (suc k) picks (machine t n) ≡ go_on (moved (machine t b) m) (run k (drop 1 picks))
one_move k n b t picks p ps q w d m e c =
    ap (λ l. run_by l picks (machine t n) (run k (drop 1 picks))) q
    ∙ ap (λ v. go_on (step v (machine t n)) (run k (drop 1 picks))) (sym d)
    ∙ (λ i. go_on (moved (machine t (c i)) (e i)) (run k (drop 1 picks)))

-- without picks the first move is made
first_move : {P : Type 0} (k : ℕ) (t : Term P) (n : ℕ) (p : Path) (ps : List Path) → moves t [] ≡ p ∷ ps → run (suc k) [] (machine t n) ≡ go_on (moved (machine t n) (fire t p [])) (run k [])
first_move k t n p ps q = one_move k n n t [] p ps q p (sym (first_is_chosen p ps)) (fire t p []) refl refl

-- a move that goes on, and what is left is settled
pub moves_on : {P : Type 0} (t : Term P) (n m : ℕ) (b : Bool) (u : Change) (y x : Term P) → Pays b n m → settled y ≡ x → moved (machine t n) (goes b u y) ≡ Done (machine x m)
moves_on t n m false u y x pays same = λ i. Done (machine (same i) (pays i))
moves_on t n m true u y x pays same = ap (λ n. moved (machine t n) (goes true u y)) pays ∙ ap (λ left. Done (machine left m)) same

-- what is left after a leftmost move, settled
settled_left : {P : Type 0} (u : Change) (y x : Term P) → front (apply u []) y ≡ front (apply u []) x → settled y ≡ settled x
settled_left u y x e = subst (λ s. front s y ≡ front s x) (nothing_stays u) e

-- leftmost moves are moves of the run without picks
pub run-leads : {P : Type 0} (W : Feeds) (k : ℕ) (t : Term P) (n : ℕ) (t' : Term P) (s' : Memories) (n' : ℕ) → Leads W k t [] n t' s' n' → (j : ℕ) → run (k + j) [] (machine (settled t) n) ≡ run j [] (machine (settled t') n')
run-leads W zero t n t' s' n' a j = let z : 0 + j ≡ j = omega arith in ap (λ i. run i [] (machine (settled t) n)) z ∙ (λ i. run j [] (machine (a.0 i) (a.2 i)))
run-leads W (suc k) t n t' s' n' a j =
    let z : suc k + j ≡ suc (k + j) = omega arith in
    let later : Leads W k a.5 [] a.6 t' s' n' = subst (λ w. Leads W k a.5 w a.6 t' s' n') (nothing_stays a.3) a.12 in
    ap (λ i. run i [] (machine (settled t) n)) z ∙ first_move (k + j) (settled t) n a.0 a.1 a.7
    ∙ ap (λ move. go_on (moved (machine (settled t) n) move) (run (k + j) [])) a.8
    ∙ ap (λ end. go_on end (run (k + j) [])) (moves_on (settled t) n a.6 a.2 a.3 a.4 (settled a.5) a.11 (settled_left a.3 a.4 a.5 a.9))
    ∙ run-leads W k a.5 a.6 t' s' n' later j

-- a run has no outcome within no more looks than there are leftmost moves
pub run-none : {P : Type 0} (W : Feeds) (looks k : ℕ) → looks ≤ k → (t : Term P) (n : ℕ) (t' : Term P) (s' : Memories) (n' : ℕ) → Leads W k t [] n t' s' n' → run looks [] (machine (settled t) n) ≡ None
run-none W zero k up t n t' s' n' a = refl
run-none W (suc j) zero up t n t' s' n' a = let no : ⊥ = omega arith in elim no [ ]
run-none W (suc j) (suc k) up t n t' s' n' a =
    let later : Leads W k a.5 [] a.6 t' s' n' = subst (λ w. Leads W k a.5 w a.6 t' s' n') (nothing_stays a.3) a.12 in
    first_move j (settled t) n a.0 a.1 a.7
    ∙ ap (λ move. go_on (moved (machine (settled t) n) move) (run j [])) a.8
    ∙ ap (λ end. go_on end (run j [])) (moves_on (settled t) n a.6 a.2 a.3 a.4 (settled a.5) a.11 (settled_left a.3 a.4 a.5 a.9))
    ∙ run-none W j k (omega arith) a.5 a.6 t' s' n' later

-- a move that does not go on ends the run
fault_ends : {P : Type 0} (t : Term P) (n : ℕ) (move : Move P (Term P)) (fault : Fault P) → FailsBy move n (Faulted fault) → moved (machine t n) move ≡ Faulted fault
fault_ends t n (fails false f) fault h = cc
fault_ends t zero (fails true f) fault h = cc
fault_ends t (suc n) (fails true f) fault h = cc
fault_ends t zero (goes true u x) fault h = cc
fault_ends t (suc n) (goes true u x) fault h = elim h [ ]
fault_ends t n (goes false u x) fault h = elim h [ ]
fault_ends t n no_move fault h = elim h [ ]

want_ends : {P : Type 0} (t : Term P) (n : ℕ) (move : Move P (Term P)) → FailsBy move n Spent → moved (machine t n) move ≡ Spent
want_ends t n (fails false f) h = cc
want_ends t zero (fails true f) h = refl
want_ends t (suc n) (fails true f) h = cc
want_ends t zero (goes true u x) h = refl
want_ends t (suc n) (goes true u x) h = elim h [ ]
want_ends t n (goes false u x) h = elim h [ ]
want_ends t n no_move h = elim h [ ]

-- a fault after leftmost moves is the run's outcome
pub stops-fault : {P : Type 0} (W : Feeds) (t : Term P) (n : ℕ) (fault : Fault P) → (a : Stops W t [] n (Faulted fault)) → run (a.0 + 1) [] (machine (settled t) n) ≡ Some (Faulted fault)
stops-fault W t n fault a =
    let at : FailsNow a.1 [] a.3 (Faulted fault) = subst (λ w. FailsNow a.1 w a.3 (Faulted fault)) (leads-nothing W a.0 t n a.1 a.2 a.3 a.4) a.5 in
    run-leads W a.0 t n a.1 a.2 a.3 a.4 1 ∙ first_move 0 (settled a.1) a.3 at.0 at.1 at.2
    ∙ ap (λ end. go_on end (run 0 [])) (fault_ends (settled a.1) a.3 (fire (settled a.1) at.0 []) fault at.3)

-- and so is a want of turns
pub stops-spent : {P : Type 0} (W : Feeds) (t : Term P) (n : ℕ) → (a : Stops W t [] n Spent) → run (a.0 + 1) [] (machine (settled t) n) ≡ Some Spent
stops-spent W t n a =
    let at : FailsNow a.1 [] a.3 Spent = subst (λ w. FailsNow a.1 w a.3 Spent) (leads-nothing W a.0 t n a.1 a.2 a.3 a.4) a.5 in
    run-leads W a.0 t n a.1 a.2 a.3 a.4 1 ∙ first_move 0 (settled a.1) a.3 at.0 at.1 at.2
    ∙ ap (λ end. go_on end (run 0 [])) (want_ends (settled a.1) a.3 (fire (settled a.1) at.0 []) at.3)
