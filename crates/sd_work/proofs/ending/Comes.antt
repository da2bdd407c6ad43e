-- A run comes to an end where it does so after each move that it may make next.
use Rattle.std.proofs.Common.{◌≡◌, ℕ, zero, suc, List, [], ◌∷◌, drop, Some, true, false, refl, ◌∙◌, ap, subst}
use Rattle.sd_work.specs.Change.{Change}
use Rattle.sd_work.specs.Move.{Move, fails, goes, no_move}
use Rattle.sd_work.specs.Residual.{Term}
use Rattle.sd_work.specs.Moves.{Path, moves}
use Rattle.sd_work.specs.Fire.{fire}
use Rattle.sd_work.specs.Settle.{settled}
use Rattle.sd_work.specs.Step.{Outcome, Done, Faulted, Spent}
use Rattle.sd_work.specs.Run.{Left, memory_of, chosen_number, run_by, run, chosen}
use Rattle.sd_work.proofs.left_to_right.LeftmostRuns.{machine, one_move}
use Rattle.sd_work.proofs.ending.NextMoves.{IsMove, MovesAt, all_move}
use Rattle.sd_work.proofs.Paths.{AllOf, all_at}

-- a run by these picks comes to an end
abbrev pub Comes : {P : Type 0} → ℕ → Term P → List ℕ → Type 0
Comes {P} n t picks = (k : ℕ) × (o : Outcome P Left) × (run k picks (machine t n) ≡ Some o)

-- one more move
pub comes_on : {P : Type 0} (n : ℕ) (t : Term P) (picks : List ℕ) →
    ((p : Path) (u : Change) (x : Term P) → fire t p [] ≡ goes false u x → Comes n (settled x) (drop 1 picks)) →
    ((p : Path) (u : Change) (x : Term P) (m : ℕ) → fire t p [] ≡ goes true u x → n ≡ suc m → Comes m (settled x) (drop 1 picks)) →
    Comes n t picks
comes_on {P} n t picks quietly paying = at_moves (moves t []) refl
  where
    after : (p : Path) (ps : List Path) → moves t [] ≡ p ∷ ps → (w : Path) → w ≡ chosen picks p ps → (m : Move P (Term P)) → fire t w [] ≡ m → IsMove m → (b : ℕ) → n ≡ b → Comes n t picks
    after p ps q w d (fails true z) e g zero c = (1, Spent, one_move 0 n 0 t picks p ps q w d (fails true z) e c)
    after p ps q w d (fails true z) e g (suc b) c = (1, Faulted z, one_move 0 n (suc b) t picks p ps q w d (fails true z) e c)
    after p ps q w d (fails false z) e g b c = (1, Faulted z, one_move 0 n b t picks p ps q w d (fails false z) e c)
    after p ps q w d (goes true u x) e g zero c = (1, Spent, one_move 0 n 0 t picks p ps q w d (goes true u x) e c)
    after p ps q w d (goes true u x) e g (suc b) c =
        let h = paying w u x b e c in
        (suc h.0, h.1, one_move h.0 n (suc b) t picks p ps q w d (goes true u x) e c ∙ h.2)
    after p ps q w d (goes false u x) e g b c =
        let h = quietly w u x e in
        (suc h.0, h.1, one_move h.0 n n t picks p ps q w d (goes false u x) e refl ∙ h.2)
    after p ps q w d no_move e g b c = elim g [ ]

    at_moves : (ps : List Path) → moves t [] ≡ ps → Comes n t picks
    at_moves [] q = (1, Done (record { memory = memory_of t; turns = n }), ap (λ l. run_by l picks (machine t n) (run 0 (drop 1 picks))) q)
    at_moves (p ∷ ps) q =
        let all : AllOf (MovesAt t []) (p ∷ ps) = subst (AllOf (MovesAt t [])) q (all_move t []) in
        after p ps q (chosen picks p ps) refl (fire t (chosen picks p ps) []) refl (all_at (MovesAt t []) p (chosen_number picks (p ∷ ps)) (p ∷ ps) all.0 all) n refl
