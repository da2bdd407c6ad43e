-- With an end of its image ahead, safe work comes to that end by any picks.
use Rattle.std.proofs.Common.{◌≡◌, ℕ, zero, suc, ◌≤◌, ◌<◌, List, [], ◌∷◌, drop, refl, subst, arith, inl, inr}
use Rattle.sd_work.specs.Moves.{Path}
use Rattle.sd_work.specs.Step.{Machine, next_moves}
use Rattle.sd_work.specs.Run.{chosen_number, chosen}
use Rattle.sd_work.proofs.Paths.{AllOf, all_at}
use Rattle.sd_confluence.proofs.bags.WorkTouches.{Safe}
use Rattle.sd_confluence.proofs.bags.WorkRuns.{Engine, Ends}
use Rattle.sd_confluence.proofs.image.Images.{work_of, IsNext}
use Rattle.sd_confluence.proofs.settling.Progress.{progress}
use Rattle.sd_confluence.proofs.runs.Listed.{all-next, none-next}
use Rattle.sd_confluence.proofs.runs.Reaching.{Reaches}
use Rattle.sd_confluence.proofs.runs.Nearer.{engine}
use Rattle.sd_confluence.proofs.runs.Confluent.{Ready, closer}

-- where no move is listed, the image is at its end
at-end : {P : Type 0} (m : Machine P) (e : Engine P) (n : ℕ) → Ready m → Ends n (engine m.term m.turns) e → next_moves m ≡ [] → engine m.term m.turns ≡ e
at-end m e zero r a q = a.0
at-end m e (suc n) r a q = let w = progress m.term a.0 [] r.settled a.1 in absurd (none-next m.term w.0 [] q w.1)

next-chosen : {P : Type 0} (m : Machine P) (picks : List ℕ) (p : Path) (ps : List Path) → next_moves m ≡ p ∷ ps → IsNext m.term (chosen picks p ps) []
next-chosen m picks p ps q =
    let all = subst (AllOf (λ w. IsNext m.term w [])) q (all-next m.term []) in
    all_at (λ w. IsNext m.term w []) p (chosen_number picks (p ∷ ps)) (p ∷ ps) all.0 all

-- one look, and then a run from whatever is nearer
one-look : {P : Type 0} (n : ℕ) (m : Machine P) (e : Engine P) → Ready m → Safe (work_of m.term) → Ends n (engine m.term m.turns) e → (picks : List ℕ) →
    ((j : ℕ) → j < n → (y : Machine P) → Ready y → Safe (work_of y.term) → Ends j (engine y.term y.turns) e → (k : ℕ) × (x : Machine P) × Reaches k (drop 1 picks) y x × (engine x.term x.turns ≡ e)) →
    (k : ℕ) × (x : Machine P) × Reaches k picks m x × (engine x.term x.turns ≡ e)
one-look {P} n m e r f a picks later = at (next_moves m) refl
  where
    at : (l : List Path) → next_moves m ≡ l → (k : ℕ) × (x : Machine P) × Reaches k picks m x × (engine x.term x.turns ≡ e)
    at [] q = (1, m, inl (q, refl), at-end m e n r a q)
    at (p ∷ ps) q =
        let c = closer m (chosen picks p ps) n e r f a (next-chosen m picks p ps q) in
        let w = later c.left c.less c.next c.ready c.safe c.ends in
        (suc w.0, w.1, inr (p, ps, q, c.next, c.stepped, w.2), w.3)

-- the end is so many moves ahead at most
pub ends-by-any-picks : {P : Type 0} (bound n : ℕ) → n ≤ bound → (m : Machine P) (e : Engine P) → Ready m → Safe (work_of m.term) → Ends n (engine m.term m.turns) e → (picks : List ℕ) →
    (k : ℕ) × (x : Machine P) × Reaches k picks m x × (engine x.term x.turns ≡ e)
ends-by-any-picks zero n up m e r f a picks = one-look n m e r f a picks (λ j less y z s g. absurd (omega arith))
ends-by-any-picks (suc bound) n up m e r f a picks = one-look n m e r f a picks (λ j less y z s g. ends-by-any-picks bound j (omega arith) y e z s g (drop 1 picks))
