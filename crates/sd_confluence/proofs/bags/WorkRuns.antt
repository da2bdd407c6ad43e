-- Runs of work with bags to an end, by any moves.
use Rattle.std.proofs.Common.{◌≡◌, ℕ, zero, suc, []}
use Rattle.sd_work.specs.Step.{Outcome, Done, Faulted, Spent, spend}
use Rattle.sd_confluence.proofs.bags.Works.{Work, Answer, stops, makes, no_answer, Route, act, Can}

pub record Engine (P : Type 0) : Type 0 where
  pub work : Work P
  pub turns : ℕ

abbrev pub answered : {P : Type 0} → Work P → ℕ → Answer P (Work P) → Outcome P (Engine P)
answered work n (stops turn fault) = spend Spent turn n (λ m. Faulted fault)
answered work n (makes turn u t) = spend Spent turn n (λ m. Done (record { work = t; turns = m }))
answered work n no_answer = Done (record { work = work; turns = n })

abbrev pub advance : {P : Type 0} → Route → Engine P → Outcome P (Engine P)
advance p m = answered m.work m.turns (act m.work p [])

-- n moves lead from m to e, where none is next
abbrev pub Ends : {P : Type 0} → ℕ → Engine P → Engine P → Type 0
Ends zero m e = (m ≡ e) × ((p : Route) → Can m.work p [] → ⊥)
Ends {P} (suc n) m e = (p : Route) × Can m.work p [] × (x : Engine P) × (advance p m ≡ Done x) × Ends n x e
