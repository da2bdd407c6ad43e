-- Work with two bounds, of transitions or takes and of what is allowed below.
use Rattle.std.proofs.Common.{◌≡◌, ℕ, suc, ◌+◌, Some, ◌∙◌, ap, arith}
use Rattle.std.specs.Bool.{⊤}
use Rattle.sd_work.specs.Memory.{Memories}
use Rattle.sd_work.specs.Step.{Outcome, Done, Faulted, Spent}
use Rattle.sd_work.specs.BigStep.{Reached, Coming, and_then}
use Rattle.sd_graph.specs.declared.place.Place.{Place}
use Rattle.sd_says.proofs.Follows.{Follows}

-- from some numbers on of transitions and of what is allowed below, it comes to this
abbrev pub Comes : (ℕ → ℕ → Coming Place) → Outcome Place Reached → Type 0
Comes run o = (n : ℕ) × ((i j : ℕ) → run (n + i) (n + j) ≡ Some o)

pub comes-step : (run more : ℕ → ℕ → Coming Place) → ((e m : ℕ) → run (suc e) m ≡ more e m) → (o : Outcome Place Reached) → Comes more o → Comes run o
comes-step run more same o h = (
  suc h.0,
  λ i j.
      (let e : suc h.0 + i ≡ suc (h.0 + i) = omega arith in
      let f : suc h.0 + j ≡ h.0 + suc j = omega arith in
      ap (λ n. run n (suc h.0 + j)) e ∙ same (h.0 + i) (suc h.0 + j) ∙ ap (more (h.0 + i)) f ∙ h.1 i (suc j)),
)

pub comes-then : (first : ℕ → Coming Place) (then : ℕ → ℕ → Memories → ℕ → Coming Place) (now : Reached) (o : Outcome Place Reached) → Follows first (Done now) →
    Comes (λ e m. then e m now.memories now.turns) o → Comes (λ e m. and_then (first m) (then e m)) o
comes-then first then now o f h = (
  f.0 + h.0,
  λ i j.
      (let e : (f.0 + h.0) + j ≡ f.0 + (h.0 + j) = omega arith in
      let e' : (f.0 + h.0) + j ≡ h.0 + (f.0 + j) = omega arith in
      let e'' : (f.0 + h.0) + i ≡ h.0 + (f.0 + i) = omega arith in
      ap (λ x. and_then x (then ((f.0 + h.0) + i) ((f.0 + h.0) + j))) (ap first e ∙ f.1 (h.0 + j))
      ∙ (λ k. then (e'' k) (e' k) now.memories now.turns) ∙ h.1 (f.0 + i) (f.0 + j)),
)

-- work that stops a run
abbrev pub Stops : Outcome Place Reached → Type 0
Stops (Done now) = ⊥
Stops (Faulted fault) = ⊤
Stops Spent = ⊤

pub comes-stop : (first : ℕ → Coming Place) (then : ℕ → ℕ → Memories → ℕ → Coming Place) (o : Outcome Place Reached) → Stops o → Follows first o → Comes (λ e m. and_then (first m) (then e m)) o
comes-stop first then (Done now) s f = elim s [ ]
comes-stop first then (Faulted fault) s f = (f.0, λ i j. ap (λ x. and_then x (then (f.0 + i) (f.0 + j))) (f.1 j))
comes-stop first then Spent s f = (f.0, λ i j. ap (λ x. and_then x (then (f.0 + i) (f.0 + j))) (f.1 j))
