-- Work with two bounds, of transitions or takes and of what is allowed below.
use Rattle.std.proofs.Common.{◌≡◌, ℕ, zero, suc, ◌+◌, ℤ, List, [], ◌∷◌, Some, None, refl, ◌∙◌, ap, arith}
use Rattle.std.specs.Bool.{⊤}
use Rattle.sd_work.specs.Memory.{Memories, waiting}
use Rattle.sd_work.specs.Change.{take, apply}
use Rattle.sd_work.specs.Residual.{Term}
use Rattle.sd_work.specs.Step.{Outcome, Done, Faulted, Spent}
use Rattle.sd_work.specs.BigStep.{Reached, Coming, and_then, after_oldest, big_takes, big_step}
use Rattle.sd_graph.specs.declared.place.Place.{Place}
use Rattle.sd_tie.specs.items.Follows.{Follows}

-- from some numbers on of transitions and of what is allowed below, it comes to this
abbrev pub Comes : (ℕ → ℕ → Coming Place) → Outcome Place Reached → Type 0
Comes run o = (n : ℕ) × ((i j : ℕ) → run (n + i) (n + j) ≡ Some o)

pub comes-step : (run more : ℕ → ℕ → Coming Place) → ((e m : ℕ) → run (suc e) m ≡ more e m) → (o : Outcome Place Reached) → Comes more o → Comes run o
comes-step run more same o h = (
  suc h.0,
  λ i j.
      (let e : suc h.0 + i ≡ suc (h.0 + i) = omega arith in
      let f : suc h.0 + j ≡ h.0 + suc j = omega arith in
      ap (λ n. run n (suc h.0 + j)) e ∙ same (h.0 + i) (suc h.0 + j) ∙ ap (more (h.0 + i)) f ∙ h.1 i (suc j)),
)

pub comes-then : (first : ℕ → Coming Place) (then : ℕ → ℕ → Memories → ℕ → Coming Place) (now : Reached) (o : Outcome Place Reached) → Follows first (Done now) →
    Comes (λ e m. then e m now.memories now.turns) o → Comes (λ e m. and_then (first m) (then e m)) o
comes-then first then now o f h = (
  f.0 + h.0,
  λ i j.
      (let e : (f.0 + h.0) + j ≡ f.0 + (h.0 + j) = omega arith in
      let e' : (f.0 + h.0) + j ≡ h.0 + (f.0 + j) = omega arith in
      let e'' : (f.0 + h.0) + i ≡ h.0 + (f.0 + i) = omega arith in
      ap (λ x. and_then x (then ((f.0 + h.0) + i) ((f.0 + h.0) + j))) (ap first e ∙ f.1 (h.0 + j))
      ∙ (λ k. then (e'' k) (e' k) now.memories now.turns) ∙ h.1 (f.0 + i) (f.0 + j)),
)

-- work that stops a run
abbrev pub Stops : Outcome Place Reached → Type 0
Stops (Done now) = ⊥
Stops (Faulted fault) = ⊤
Stops Spent = ⊤

pub comes-stop : (first : ℕ → Coming Place) (then : ℕ → ℕ → Memories → ℕ → Coming Place) (o : Outcome Place Reached) → Stops o → Follows first o → Comes (λ e m. and_then (first m) (then e m)) o
comes-stop first then (Done now) s f = elim s [ ]
comes-stop first then (Faulted fault) s f = (f.0, λ i j. ap (λ x. and_then x (then (f.0 + i) (f.0 + j))) (f.1 j))
comes-stop first then Spent s f = (f.0, λ i j. ap (λ x. and_then x (then (f.0 + i) (f.0 + j))) (f.1 j))

pub comes-and : (first : ℕ → Coming Place) (then : ℕ → ℕ → Memories → ℕ → Coming Place) (said : Coming Place) (rest : Memories → ℕ → Coming Place) →
    ((o : Outcome Place Reached) → said ≡ Some o → Follows first o) →
    ((memories : Memories) (turns : ℕ) (o : Outcome Place Reached) → rest memories turns ≡ Some o → Comes (λ e m. then e m memories turns) o) →
    (o : Outcome Place Reached) → and_then said rest ≡ Some o → Comes (λ e m. and_then (first m) (then e m)) o
comes-and first then None rest f g o h = cc
comes-and first then (Some (Done now)) rest f g o h = comes-then first then now o (f (Done now) refl) (g now.memories now.turns o h)
comes-and first then (Some (Faulted fault)) rest f g (Done now) h = cc
comes-and first then (Some (Faulted fault)) rest f g (Faulted other) h = comes-stop first then (Faulted other) tt (f (Faulted other) h)
comes-and first then (Some (Faulted fault)) rest f g Spent h = cc
comes-and first then (Some Spent) rest f g (Done now) h = cc
comes-and first then (Some Spent) rest f g (Faulted other) h = cc
comes-and first then (Some Spent) rest f g Spent h = comes-stop first then Spent tt (f Spent h)

-- the elements of a stream one after another
module _ (level container : ℕ) (make : ℤ → Term Place) (run : ℤ → Memories → ℕ → Coming Place)
    (f : (value : ℤ) (memories : Memories) (turns : ℕ) (o : Outcome Place Reached) → run value memories turns ≡ Some o → Follows (λ m. big_step (make value) m memories turns) o) where
  takes-come : (most : ℕ) (memories : Memories) (turns : ℕ) (o : Outcome Place Reached) → big_takes most level container run memories turns ≡ Some o →
      Comes (λ e m. big_takes e level container (λ value. big_step (make value) m) memories turns) o
  takes-come zero memories turns o h = cc
  takes-come (suc most) memories turns o h =
      comes-step (λ e m. big_takes e level container (λ value. big_step (make value) m) memories turns)
      (λ e m. after_oldest (waiting level container memories) memories turns (λ value. and_then (big_step (make value) m (apply (take level container 0) memories) turns) (big_takes e level container (λ value. big_step (make value) m))))
      (λ e m. refl) o (go (waiting level container memories) (takes-come most) h)
    where
      go : (values : List ℤ) → ((memories : Memories) (turns : ℕ) (o : Outcome Place Reached) → big_takes most level container run memories turns ≡ Some o →
          Comes (λ e m. big_takes e level container (λ value. big_step (make value) m) memories turns) o) →
          after_oldest values memories turns (λ value. and_then (run value (apply (take level container 0) memories) turns) (big_takes most level container run)) ≡ Some o →
          Comes (λ e m. after_oldest values memories turns (λ value. and_then (big_step (make value) m (apply (take level container 0) memories) turns) (big_takes e level container (λ value. big_step (make value) m)))) o
      go [] later h = (0, λ i j. h)
      go (value ∷ values) later h =
          comes-and (λ m. big_step (make value) m (apply (take level container 0) memories) turns) (λ e m memories turns. big_takes e level container (λ value. big_step (make value) m) memories turns)
          (run value (apply (take level container 0) memories) turns) (big_takes most level container run) (f value (apply (take level container 0) memories) turns) later o h

  pub takes-follow : (most : ℕ) (memories : Memories) (turns : ℕ) (o : Outcome Place Reached) → big_takes most level container run memories turns ≡ Some o →
      Follows (λ m. big_takes m level container (λ value. big_step (make value) m) memories turns) o
  takes-follow most memories turns o h = let e = takes-come most memories turns o h in (e.0, λ k. e.1 k k)
