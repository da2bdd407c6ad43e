-- Where one run comes to an end, every other run from the same image comes to an end with the same image.
use Rattle.std.proofs.Common.{◌≡◌, ℕ, zero, suc, ◌≤◌, ◌<◌, List, [], ◌∷◌, drop, Bool, refl, sym, ◌∙◌, ap, subst, arith, inl, inr}
use Rattle.sd_work.specs.Change.{Change}
use Rattle.sd_work.specs.Move.{Move, fails, goes, no_move}
use Rattle.sd_work.specs.Residual.{Term}
use Rattle.sd_work.specs.Moves.{Path}
use Rattle.sd_work.specs.Fire.{fire}
use Rattle.sd_work.specs.Settle.{settled}
use Rattle.sd_work.specs.Step.{Machine, Done, opening, next_moves, moved, step}
use Rattle.sd_work.specs.Run.{chosen_number, chosen}
use Rattle.sd_work.proofs.left_to_right.Leads.{Pays}
use Rattle.sd_work.proofs.Paths.{AllOf, all_at}
use Rattle.sd_work.proofs.left_to_right.LeftmostRuns.{machine, moves_on}
use Rattle.sd_confluence.proofs.bags.BagMemory.{Update}
use Rattle.sd_confluence.proofs.bags.Works.{stops, makes, no_answer, Route, act, Can}
use Rattle.sd_confluence.proofs.bags.WorkTouches.{Safe}
use Rattle.sd_confluence.proofs.bags.WorkRuns.{Engine, answered, advance, Ends}
use Rattle.sd_confluence.proofs.commuting.Answers.{IsAnswer, can_answers}
use Rattle.sd_confluence.proofs.commuting.Front.{moved_back, moved_on, safe_step, front}
use Rattle.sd_confluence.proofs.image.Images.{work_of, route_of, update_of, IsNext}
use Rattle.sd_confluence.proofs.image.Link.{Matches, linked}
use Rattle.sd_confluence.proofs.image.NextLinked.{can_linked}
use Rattle.sd_confluence.proofs.settling.Progress.{Settled, progress}
use Rattle.sd_confluence.proofs.runs.Listed.{all-next, none-next}
use Rattle.sd_confluence.proofs.runs.Reaching.{Reaches, failed, paid}
use Rattle.sd_confluence.proofs.runs.Nearer.{engine, Sound, settled-sound, settled-nearer, settled-before, sound-settled, sound-left}

-- what each machine of a run is
pub record Ready {P : Type 0} (m : Machine P) : Type 0 where
  pub sound : Sound m.term
  pub settled : Settled m.term []

-- a next move of such a machine, with an end of its image ahead
pub record Closer {P : Type 0} (m : Machine P) (p : Path) (n : ℕ) (e : Engine P) : Type 0 where
  pub next : Machine P
  pub stepped : step p m ≡ Done next
  pub ready : Ready next
  pub safe : Safe (work_of next.term)
  pub left : ℕ
  pub less : left < n
  pub ends : Ends left (engine next.term next.turns) e

-- a next move goes on, and the end is nearer
pub closer : {P : Type 0} (m : Machine P) (p : Path) (n : ℕ) (e : Engine P) → Ready m → Safe (work_of m.term) → Ends n (engine m.term m.turns) e → IsNext m.term p [] → Closer m p n e
closer {P} m p n e r f a c = go (fire m.term p []) refl (linked m.term p [])
  where
    q : Route
    q = route_of m.term p []

    h : (k : ℕ) × (n ≡ suc k) × (x : Engine P) × (advance q (engine m.term m.turns) ≡ Done x) × Ends k x e
    h = front n (engine m.term m.turns) e f a q (can_linked m.term p [] c)

    w : (b : Bool) × (u : Update) × (act (work_of m.term) q [] ≡ makes b u h.2.work) × Pays b m.turns h.2.turns
    w = moved_back (work_of m.term) m.turns (act (work_of m.term) q []) h.2 (can_answers (work_of m.term) q [] (can_linked m.term p [] c)) h.3

    go : (move : Move P (Term P)) → fire m.term p [] ≡ move → Matches work_of [] move (act (work_of m.term) q []) → Closer m p n e
    go (fails b z) g k = let bad : stops b z ≡ makes w.0 w.1 h.2.work = sym k ∙ w.2 in cc
    go no_move g k = let bad : no_answer ≡ makes w.0 w.1 h.2.work = sym k ∙ w.2 in cc
    go (goes b u x) g k =
        let same : makes b (update_of u []) (work_of x) ≡ makes w.0 w.1 h.2.work = sym k ∙ w.2 in
        let works : h.2.work ≡ work_of x = cc in
        let bools : w.0 ≡ b = cc in
        let turns : ℕ = h.2.turns in
        let sound : Sound x = sound-left m.term p b u x r.sound c g in
        let safe : Safe (work_of x) = subst Safe works (safe_step (engine m.term m.turns) h.2 q f h.3) in
        let rest : Ends h.0 (engine x turns) e = subst (λ y. Ends h.0 (record { work = y; turns = turns }) e) works h.4 in
        let d = settled-nearer x sound h.0 turns e safe rest in
        record {
          next = machine (settled x) turns;
          stepped = ap (moved m) g ∙ moves_on m.term m.turns turns b u x (settled x) (subst (λ y. Pays y m.turns turns) bools w.3) refl;
          ready = record { sound = sound-settled x sound; settled = settled-sound x sound };
          safe = d.2;
          left = d.0;
          less = omega (arith, d.1, h.1);
          ends = d.3;
        }

-- where no move is listed, the image is at its end
ended_image : {P : Type 0} (m : Machine P) → Ready m → next_moves m ≡ [] → (q : Route) → Can (work_of m.term) q [] → ⊥
ended_image m r q route c = let w = progress m.term route [] r.settled c in none-next m.term w.0 [] q w.1

chosen_next : {P : Type 0} (m : Machine P) (picks : List ℕ) (p : Path) (ps : List Path) → next_moves m ≡ p ∷ ps → IsNext m.term (chosen picks p ps) []
chosen_next {P} m picks p ps q =
    let all = subst (AllOf (λ w. IsNext m.term w [])) q (all-next m.term []) in
    all_at (λ w. IsNext m.term w []) p (chosen_number picks (p ∷ ps)) (p ∷ ps) all.0 all

-- a machine without a listed move has the image at the end
finished_image : {P : Type 0} (m : Machine P) (e : Engine P) (n : ℕ) → Ready m → Ends n (engine m.term m.turns) e → next_moves m ≡ [] → engine m.term m.turns ≡ e
finished_image m e zero r a q = a.0
finished_image m e (suc n) r a q = absurd (ended_image m r q a.0 a.1)

-- one look, and then a run from whatever is nearer
look_on : {P : Type 0} (n : ℕ) (m : Machine P) (e : Engine P) → Ready m → Safe (work_of m.term) → Ends n (engine m.term m.turns) e → (picks : List ℕ) →
    ((j : ℕ) → j < n → (y : Machine P) → Ready y → Safe (work_of y.term) → Ends j (engine y.term y.turns) e → (k : ℕ) × (x : Machine P) × Reaches k (drop 1 picks) y x × (engine x.term x.turns ≡ e)) →
    (k : ℕ) × (x : Machine P) × Reaches k picks m x × (engine x.term x.turns ≡ e)
look_on {P} n m e r f a picks later = at (next_moves m) refl
  where
    at : (l : List Path) → next_moves m ≡ l → (k : ℕ) × (x : Machine P) × Reaches k picks m x × (engine x.term x.turns ≡ e)
    at [] q = (1, m, inl (q, refl), finished_image m e n r a q)
    at (p ∷ ps) q =
        let c = closer m (chosen picks p ps) n e r f a (chosen_next m picks p ps q) in
        let w = later c.left c.less c.next c.ready c.safe c.ends in
        (suc w.0, w.1, inr (p, ps, q, c.next, c.stepped, w.2), w.3)

-- with an end of the image ahead, a run by any picks comes to an end with this image
walk : {P : Type 0} (bound n : ℕ) → n ≤ bound → (m : Machine P) (e : Engine P) → Ready m → Safe (work_of m.term) → Ends n (engine m.term m.turns) e → (picks : List ℕ) →
    (k : ℕ) × (x : Machine P) × Reaches k picks m x × (engine x.term x.turns ≡ e)
walk zero n up m e r f a picks = look_on n m e r f a picks (λ j less y z s g. absurd (omega arith))
walk (suc bound) n up m e r f a picks = look_on n m e r f a picks (λ j less y z s g. walk bound j (omega arith) y e z s g (drop 1 picks))

-- a run to an end is one of the image
pub run_ends : {P : Type 0} (k : ℕ) (picks : List ℕ) (m x : Machine P) → Ready m → Reaches k picks m x → (j : ℕ) × Ends j (engine m.term m.turns) (engine x.term x.turns)
run_ends zero picks m x r h = elim h [ ]
run_ends (suc k) picks m x r (inl h) = (0, (ap (λ w. engine w.term w.turns) h.1, λ q c. ended_image m r h.0 q c))
run_ends {P} (suc k) picks m x r (inr h) = go (fire m.term c []) refl (linked m.term c []) h.4 (λ z. run_ends k (drop 1 picks) h.3 x z h.5)
  where
    c : Path
    c = chosen picks h.0 h.1

    next : IsNext m.term c []
    next = chosen_next m picks h.0 h.1 h.2

    route : Route
    route = route_of m.term c []

    answers : IsAnswer (act (work_of m.term) route [])
    answers = can_answers (work_of m.term) route [] (can_linked m.term c [] next)

    gone : (b : Bool) (u : Change) (y : Term P) (n : ℕ) → fire m.term c [] ≡ goes b u y → act (work_of m.term) route [] ≡ makes b (update_of u []) (work_of y) → Pays b m.turns n → machine (settled y) n ≡ h.3 →
        (Ready h.3 → (j : ℕ) × Ends j (engine h.3.term h.3.turns) (engine x.term x.turns)) → (j : ℕ) × Ends j (engine m.term m.turns) (engine x.term x.turns)
    gone b u y n g k pays same later =
        let sound : Sound y = sound-left m.term c b u y r.sound next g in
        let ready : Ready (machine (settled y) n) = record { sound = sound-settled y sound; settled = settled-sound y sound } in
        let rest = later (subst Ready same ready) in
        let back = settled-before y sound rest.0 n (engine x.term x.turns) (subst (λ w. Ends rest.0 (engine w.term w.turns) (engine x.term x.turns)) (sym same) rest.1) in
        (suc back.0, (route, can_linked m.term c [] next, engine y n, ap (answered (work_of m.term) m.turns) k ∙ moved_on (work_of m.term) m.turns n b (update_of u []) (work_of y) pays, back.1))

    go : (move : Move P (Term P)) → fire m.term c [] ≡ move → Matches work_of [] move (act (work_of m.term) route []) → step c m ≡ Done h.3 →
        (Ready h.3 → (j : ℕ) × Ends j (engine h.3.term h.3.turns) (engine x.term x.turns)) → (j : ℕ) × Ends j (engine m.term m.turns) (engine x.term x.turns)
    go (fails b z) g k d later = absurd (failed b m.turns z h.3 (ap (moved m) (sym g) ∙ d))
    go no_move g k d later = elim (subst IsAnswer k answers) [ ]
    go (goes b u y) g k d later = let w = paid m.term m.turns b u y h.3 (ap (moved m) (sym g) ∙ d) in gone b u y w.0 g k w.1 w.2 later

-- where one run comes to an end, every other run from the same image comes to an end with the same image
pub confluent : {P : Type 0} (A B : Term P) → work_of A ≡ work_of B → Sound A → Sound B → Safe (work_of A) → (turns k : ℕ) (picks : List ℕ) (x : Machine P) → Reaches k picks (opening A turns) x → (others : List ℕ) →
    (j : ℕ) × (y : Machine P) × Reaches j others (opening B turns) y × (engine y.term y.turns ≡ engine x.term x.turns)
confluent {P} A B same a b f turns k picks x h others =
    let end : Engine P = engine x.term x.turns in
    let first = run_ends k picks (opening A turns) x (record { sound = sound-settled A a; settled = settled-sound A a }) h in
    let whole = settled-before A a first.0 turns end first.1 in
    let other : Ends whole.0 (engine B turns) end = subst (λ w. Ends whole.0 (record { work = w; turns = turns }) end) same whole.1 in
    let near = settled-nearer B b whole.0 turns end (subst Safe same f) other in
    walk near.0 near.0 (omega arith) (opening B turns) end (record { sound = sound-settled B b; settled = settled-sound B b }) near.2 near.3 others
