-- Every run ends where each cycle of transitions spends a turn and what is unfolded is new.
use Rattle.std.proofs.Common.{◌≡◌, ℕ, zero, suc, pred, ◌<◌, ◌≤◌, List, [], drop, Bool, true, false, arith, refl, sym, ap, subst, inl, inr}
use Rattle.sd_work.specs.Change.{Change, apply}
use Rattle.sd_work.specs.Move.{goes}
use Rattle.sd_work.specs.Residual.{Term}
use Rattle.sd_work.specs.Moves.{Path}
use Rattle.sd_work.specs.Fire.{fire}
use Rattle.sd_work.specs.Settle.{settled}
use Rattle.sd_work.specs.Step.{Outcome}
use Rattle.sd_work.specs.Run.{Left, Run}
use Rattle.sd_work.specs.WellFormed.{PaysCycles}
use Rattle.sd_work.specs.New.{UnfoldsNew}
use Rattle.sd_work.proofs.left_to_right.LeftmostRuns.{nothing_stays}
use Rattle.sd_work.proofs.ending.Kept.{pays_kept, unfolds_kept, kept-settle}
use Rattle.sd_work.proofs.ending.Comes.{Comes, comes_on}
use Rattle.sd_work.proofs.ending.Weights.{reads, pushes, held, stacked, nothing_of, reads_in, pushes_in, waiting_in, total-settle}
use Rattle.sd_work.proofs.ending.Quiet.{opened, opened-settle, Calm, Quiet, quiet, all_quiet}
use Rattle.sd_work.proofs.ending.Falls.{TermFalls, falls}
use Rattle.sd_work.proofs.Leaving.{Leaves}

-- what holds of the machine's term all along
abbrev Good : {P : Type 0} → Term P → Type 0
Good t = PaysCycles t × UnfoldsNew t

good_settled : {P : Type 0} (t : Term P) → Good t → Good (settled t)
good_settled t h = kept-settle true [] [] t h.0 h.1

good_kept : {P : Type 0} (t : Term P) → Good t → (p : Path) (b : Bool) (u : Change) (x : Term P) → fire t p [] ≡ goes b u x → Good (settled x)
good_kept t h p b u x e = good_settled x (subst (Leaves PaysCycles) e (pays_kept t h.0 p []), subst (Leaves UnfoldsNew) e (unfolds_kept t h.1 p []))

-- runs of terms that weigh less, or have fewer turns, come to an end
module _ {P : Type 0} (n r p q : ℕ)
    (fewer_turns : (m : ℕ) → n ≡ suc m → (x : Term P) → Good x → (picks : List ℕ) → Comes m x picks)
    (fewer_reads : (x : Term P) → reads_in x < r → Good x → (picks : List ℕ) → Comes n x picks)
    (fewer_pushes : (x : Term P) → reads_in x ≤ r → pushes_in x < p → Good x → (picks : List ℕ) → Comes n x picks)
    (fewer_values : (x : Term P) → reads_in x ≤ r → pushes_in x ≤ p → waiting_in x < q → Good x → (picks : List ℕ) → Comes n x picks) where
  comes_quiet : (y : Term P) → Quiet y → (t : Term P) → y ≡ opened t → reads_in t ≤ r → pushes_in t ≤ p → waiting_in t ≤ q → Good t → (picks : List ℕ) → Comes n t picks
  comes_quiet y (quiet h) t same a b c good picks =
      comes_on n t picks (λ w u x e. after u x (good_kept t good w false u x e) (falls t good.1 w [] u x e) (λ z d s. comes_quiet z (h z d) (settled x) s))
      (λ w u x m e c. fewer_turns m c (settled x) (good_kept t good w true u x e) (drop 1 picks))
    where
      after : (u : Change) (x : Term P) → Good (settled x) → TermFalls t [] u x →
          ((z : Term P) → Calm y z → z ≡ opened (settled x) → reads_in (settled x) ≤ r → pushes_in (settled x) ≤ p → waiting_in (settled x) ≤ q → Good (settled x) → (picks : List ℕ) → Comes n (settled x) picks) → Comes n (settled x) (drop 1 picks)
      after u x g f more =
          let sr : reads_in (settled x) ≡ reads_in x = total-settle reads nothing_of true [] [] x in
          let sp : pushes_in (settled x) ≡ pushes_in x = total-settle pushes nothing_of true [] [] x in
          let sv : waiting_in (settled x) ≡ waiting_in x = total-settle nothing_of held true [] [] x in
          let empty : stacked (apply u []) ≡ 0 = ap stacked (nothing_stays u) in
          elim f [
            | inl i ↦ fewer_reads (settled x) (omega (arith, sr, i, a)) g (drop 1 picks)
            | inr (i, inl j) ↦ fewer_pushes (settled x) (omega (arith, sr, i, a)) (omega (arith, sp, j, b)) g (drop 1 picks)
            | inr (i, inr (j, inl k)) ↦ fewer_values (settled x) (omega (arith, sr, i, a)) (omega (arith, sp, j, b)) (omega (arith, sv, k, c, empty)) g (drop 1 picks)
            | inr (i, inr (j, inr (k, d))) ↦
                more (opened x) (subst (λ z. Calm z (opened x)) (sym same) d) (sym (opened-settle true [] [] x))
                (omega (arith, sr, i, a)) (omega (arith, sp, j, b)) (omega (arith, sv, k, c, empty)) g (drop 1 picks)
          ]

-- runs of terms with no more of each than this come to an end
module _ {P : Type 0} (n : ℕ) (fewer_turns : (m : ℕ) → n ≡ suc m → (x : Term P) → Good x → (picks : List ℕ) → Comes m x picks) where
  by_values : (r p : ℕ) → ((x : Term P) → reads_in x < r → Good x → (picks : List ℕ) → Comes n x picks) → ((x : Term P) → reads_in x ≤ r → pushes_in x < p → Good x → (picks : List ℕ) → Comes n x picks) →
      (q : ℕ) (t : Term P) → reads_in t ≤ r → pushes_in t ≤ p → waiting_in t ≤ q → Good t → (picks : List ℕ) → Comes n t picks
  by_values r p f g zero t a b c good picks =
      comes_quiet n r p 0 fewer_turns f g (λ x i j k. absurd (omega (arith, k))) (opened t) (all_quiet t good.0) t refl a b c good picks
  by_values r p f g (suc q) t a b c good picks =
      comes_quiet n r p (suc q) fewer_turns f g (λ x i j k. by_values r p f g q x i j (omega (arith, k))) (opened t) (all_quiet t good.0) t refl a b c good picks

  by_pushes : (r : ℕ) → ((x : Term P) → reads_in x < r → Good x → (picks : List ℕ) → Comes n x picks) → (p : ℕ) (t : Term P) → reads_in t ≤ r → pushes_in t ≤ p → Good t → (picks : List ℕ) → Comes n t picks
  by_pushes r f zero t a b good picks = by_values r 0 f (λ x i j. absurd (omega (arith, j))) (waiting_in t) t a b (omega arith) good picks
  by_pushes r f (suc p) t a b good picks = by_values r (suc p) f (λ x i j. by_pushes r f p x i (omega (arith, j))) (waiting_in t) t a b (omega arith) good picks

  by_reads : (r : ℕ) (t : Term P) → reads_in t ≤ r → Good t → (picks : List ℕ) → Comes n t picks
  by_reads zero t a good picks = by_pushes 0 (λ x i. absurd (omega (arith, i))) (pushes_in t) t a (omega arith) good picks
  by_reads (suc r) t a good picks = by_pushes (suc r) (λ x i. by_reads r x (omega (arith, i))) (pushes_in t) t a (omega arith) good picks

comes : {P : Type 0} (n : ℕ) (t : Term P) → Good t → (picks : List ℕ) → Comes n t picks
comes zero t good picks = by_reads 0 (λ m c. cc) (reads_in t) t (omega arith) good picks
comes (suc n) t good picks = by_reads (suc n) (λ m c x g w. let same : n ≡ m = ap pred c in subst (λ k. Comes k x w) same (comes n x g w)) (reads_in t) t (omega arith) good picks

-- every run ends, with pools too
pub run-ends_with_pools : {P : Type 0} (term : Term P) (turns : ℕ) (picks : List ℕ) → PaysCycles term → UnfoldsNew term → (outcome : Outcome P Left) × Run term turns picks outcome
run-ends_with_pools term turns picks h g =
    let r = comes turns (settled term) (good_settled term (h, g)) picks in
    (r.1, (r.0, r.2))
