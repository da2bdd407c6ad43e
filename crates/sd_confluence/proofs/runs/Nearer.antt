-- Each step, settled, brings the end of the image nearer.
use Rattle.std.proofs.Common.{◌≡◌, ℕ, zero, suc, ◌≤◌, [], Bool, true, false, refl, sym, ◌∙◌, ap, subst, arith}
use Rattle.sd_work.specs.Change.{Change}
use Rattle.sd_work.specs.Move.{goes}
use Rattle.sd_work.specs.Residual.{Term}
use Rattle.sd_work.specs.Moves.{Path}
use Rattle.sd_work.specs.Fire.{fire}
use Rattle.sd_work.specs.Settle.{settled}
use Rattle.sd_work.specs.Step.{Done}
use Rattle.sd_work.specs.WellFormed.{IsOrdered}
use Rattle.sd_work.proofs.Leaving.{Leaves}
use Rattle.sd_confluence.specs.Safe.{TakesNothingOutside, MayInterleave}
use Rattle.sd_confluence.proofs.bags.BagMemory.{keep}
use Rattle.sd_confluence.proofs.bags.Works.{Route}
use Rattle.sd_confluence.proofs.bags.WorkTouches.{Safe}
use Rattle.sd_confluence.proofs.bags.WorkRuns.{Engine, answered, advance, Ends}
use Rattle.sd_confluence.proofs.commuting.Front.{machine_of, moved_on, safe_step, front}
use Rattle.sd_confluence.proofs.image.Images.{work_of, IsNext}
use Rattle.sd_confluence.proofs.settling.Waits.{Waits, Clear, waits-safe}
use Rattle.sd_confluence.proofs.settling.ClosedPools.{ClosedAreIdle, closed-settled}
use Rattle.sd_confluence.proofs.settling.ClosedKept.{closed-kept, closed-safe}
use Rattle.sd_confluence.proofs.settling.Closings.{close, Closings, closing_route, closing-can, closing-acts}
use Rattle.sd_confluence.proofs.settling.SettleRow.{settles}
use Rattle.sd_work.proofs.going.OrdersKept.{ordered-kept, ordered-settled}
use Rattle.sd_confluence.proofs.settling.SettleKept.{waits-settled, takes-nothing-settled}
use Rattle.sd_confluence.proofs.settling.Progress.{Settled, settled-by}
use Rattle.sd_confluence.proofs.settling.Kept.{waits-kept, takes-nothing-kept}

abbrev pub engine : {P : Type 0} → Term P → ℕ → Engine P
engine t n = record { work = work_of t; turns = n }

-- what all moves keep, and settling too
pub record Sound {P : Type 0} (t : Term P) : Type 0 where
  pub ordered : IsOrdered t
  pub waits : Waits t
  pub idle : ClosedAreIdle t
  pub whole : TakesNothingOutside t

pub sound-of : {P : Type 0} (t : Term P) → MayInterleave t → Sound t
sound-of t h = record { ordered = h.ordered; waits = waits-safe t h.safe; idle = closed-safe t h.safe; whole = h.inside }

clear_whole : {P : Type 0} (t : Term P) → TakesNothingOutside t → Clear t []
clear_whole t w l c h = absurd (w l c h)

pub settled-sound : {P : Type 0} (t : Term P) → Sound t → Settled (settled t) []
settled-sound t h = settled-by t [] [] h.waits (clear_whole t h.whole)

pub sound-settled : {P : Type 0} (t : Term P) → Sound t → Sound (settled t)
sound-settled t h =
    record {
      ordered = ordered-settled true [] [] t h.ordered;
      waits = waits-settled true [] [] t h.waits;
      idle = closed-settled true [] [] t h.idle;
      whole = takes-nothing-settled true [] [] t h.whole;
    }

-- a row of closings brings the end nearer
closings_nearer : {P : Type 0} (k : ℕ) (t t' : Term P) (n turns : ℕ) (e : Engine P) → Safe (work_of t) → Closings k t t' [] → Ends n (engine t turns) e → (m : ℕ) × (m ≤ n) × Safe (work_of t') × Ends m (engine t' turns) e
closings_nearer zero t t' n turns e f a r = (n, omega arith, subst (λ x. Safe (work_of x)) a f, subst (λ x. Ends n (engine x turns) e) a r)
closings_nearer {P} (suc k) t t' n turns e f a r =
    let p : Route = closing_route t a.0 in
    let next : Term P = close t a.0 in
    let h = front n (engine t turns) e f r p (closing-can t a.0 [] a.1) in
    let q : advance p (engine t turns) ≡ Done (engine next turns) =
    ap (answered (work_of t) turns) (closing-acts t a.0 [] a.1) ∙ moved_on (work_of t) turns turns false keep (work_of next) refl in
    let same : h.2 ≡ engine next turns = ap (machine_of (engine next turns)) (sym h.3 ∙ q) in
    let r' : Ends h.0 (engine next turns) e = subst (λ m. Ends h.0 m e) same h.4 in
    let g = closings_nearer k next t' h.0 turns e (safe_step (engine t turns) (engine next turns) p f q) a.2 r' in
    (g.0, omega (arith, g.1, h.1), g.2, g.3)

-- settling brings the end nearer
pub settled-nearer : {P : Type 0} (t : Term P) → Sound t → (n turns : ℕ) (e : Engine P) → Safe (work_of t) → Ends n (engine t turns) e → (m : ℕ) × (m ≤ n) × Safe (work_of (settled t)) × Ends m (engine (settled t) turns) e
settled-nearer t h n turns e f r =
    let c = settles t [] [] h.ordered h.waits h.idle (clear_whole t h.whole) in
    closings_nearer c.0 t (settled t) n turns e f c.1 r

-- a run to an end that a row of closings goes before
closings_before : {P : Type 0} (c k : ℕ) (x y : Term P) (m : ℕ) (e : Engine P) → Closings c x y [] → Ends k (engine y m) e → (i : ℕ) × Ends i (engine x m) e
closings_before zero k x y m e a r = (k, subst (λ z. Ends k (engine z m) e) (sym a) r)
closings_before {P} (suc c) k x y m e a r =
    let next : Term P = close x a.0 in
    let h = closings_before c k next y m e a.2 r in
    let q : advance (closing_route x a.0) (engine x m) ≡ Done (engine next m) =
    ap (answered (work_of x) m) (closing-acts x a.0 [] a.1) ∙ moved_on (work_of x) m m false keep (work_of next) refl in
    (suc h.0, (closing_route x a.0, closing-can x a.0 [] a.1, engine next m, q, h.1))

pub settled-before : {P : Type 0} (t : Term P) → Sound t → (n turns : ℕ) (e : Engine P) → Ends n (engine (settled t) turns) e → (i : ℕ) × Ends i (engine t turns) e
settled-before t h n turns e r =
    let c = settles t [] [] h.ordered h.waits h.idle (clear_whole t h.whole) in
    closings_before c.0 n t (settled t) turns e c.1 r

-- what a next move leaves is sound
pub sound-left : {P : Type 0} (t : Term P) (p : Path) (b : Bool) (u : Change) (x : Term P) → Sound t → IsNext t p [] → fire t p [] ≡ goes b u x → Sound x
sound-left t p b u x h c q =
    record {
      ordered = subst (Leaves IsOrdered) q (ordered-kept t p [] h.ordered);
      waits = subst (Leaves Waits) q (waits-kept t p [] h.waits);
      idle = subst (Leaves ClosedAreIdle) q (closed-kept t p [] c h.idle);
      whole = subst (Leaves TakesNothingOutside) q (takes-nothing-kept t p [] h.whole);
    }
