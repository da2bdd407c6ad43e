-- Work that comes to an end wherever enough transitions and takes are allowed.
use Rattle.std.proofs.Common.{◌≡◌, ℕ, suc, ◌+◌, ℤ, List, [], ◌∷◌, ◌++◌, map, drop, length, Some, None, refl, ◌∙◌, ap, arith}
use Rattle.std.specs.List.{flat_map}
use Rattle.std.specs.Bool.{⊤}
use Rattle.sd_range.specs.Points.{tuples}
use Rattle.sd_work.specs.Memory.{Memories}
use Rattle.sd_work.specs.Residual.{Term}
use Rattle.sd_work.specs.Step.{Outcome, Done, Faulted, Spent}
use Rattle.sd_work.specs.BigStep.{Reached, Coming, reached, and_then, leaving, big_step, big_parts}
use Rattle.sd_graph.specs.Unfold.{point_terms}
use Rattle.sd_graph.specs.declared.place.Place.{Place}
use Rattle.sd_says.proofs.ByLeaves.{one_by_one}
use Rattle.sd_tie.specs.items.Follows.{Follows}

pub at-once : (work : Coming Place) (o : Outcome Place Reached) → work ≡ Some o → Follows (λ m. work) o
at-once work o h = (0, λ k. h)

-- first one work and then another
pub follows-then : (first : ℕ → Coming Place) (then : ℕ → Memories → ℕ → Coming Place) (said : Coming Place) (rest : Memories → ℕ → Coming Place) →
    ((o : Outcome Place Reached) → said ≡ Some o → Follows first o) →
    ((memories : Memories) (turns : ℕ) (o : Outcome Place Reached) → rest memories turns ≡ Some o → Follows (λ m. then m memories turns) o) →
    (o : Outcome Place Reached) → and_then said rest ≡ Some o → Follows (λ m. and_then (first m) (then m)) o
follows-then first then None rest f g o h = cc
follows-then first then (Some (Done now)) rest f g o h =
    let a = f (Done now) refl in
    let b = g now.memories now.turns o h in (
      a.0 + b.0,
      λ k.
          (let e : (a.0 + b.0) + k ≡ a.0 + (b.0 + k) = omega arith in
          let e' : (a.0 + b.0) + k ≡ b.0 + (a.0 + k) = omega arith in
          ap (λ x. and_then x (then ((a.0 + b.0) + k))) (ap first e ∙ a.1 (b.0 + k)) ∙ ap (λ n. then n now.memories now.turns) e' ∙ b.1 (a.0 + k)),
    )
follows-then first then (Some (Faulted fault)) rest f g o h =
    let a = f (Faulted fault) refl in
    (a.0, λ k. ap (λ x. and_then x (then (a.0 + k))) (a.1 k) ∙ h)
follows-then first then (Some Spent) rest f g o h =
    let a = f Spent refl in
    (a.0, λ k. ap (λ x. and_then x (then (a.0 + k))) (a.1 k) ∙ h)

-- inside an owner
pub follows-leaving : (work : ℕ → Coming Place) (said : Coming Place) → ((o : Outcome Place Reached) → said ≡ Some o → Follows work o) →
    (o : Outcome Place Reached) → leaving said ≡ Some o → Follows (λ m. leaving (work m)) o
follows-leaving work said f o h =
    follows-then work (λ m memories turns. reached (drop 1 memories) turns) said (λ memories turns. reached (drop 1 memories) turns) f
    (λ memories turns o g. at-once (reached (drop 1 memories) turns) o g) o h

pub ends-with-nothing : (said : Coming Place) → and_then said reached ≡ said
ends-with-nothing None = refl
ends-with-nothing (Some (Done now)) = refl
ends-with-nothing (Some (Faulted fault)) = refl
ends-with-nothing (Some Spent) = refl

-- ---- tuples

abbrev pub AreLong : ℕ → List (List ℤ) → Type 0
AreLong n [] = ⊤
AreLong n (point ∷ points) = (length point ≡ n) × AreLong n points

long-append : (n : ℕ) (points more : List (List ℤ)) → AreLong n points → AreLong n more → AreLong n (points ++ more)
long-append n [] more h g = g
long-append n (point ∷ points) more h g = (h.0, long-append n points more h.1 g)

long-map : (n : ℕ) (x : ℤ) (points : List (List ℤ)) → AreLong n points → AreLong (suc n) (map (λ rest. x ∷ rest) points)
long-map n x [] h = tt
long-map n x (point ∷ points) h = (ap suc h.0, long-map n x points h.1)

long-flat : (n : ℕ) (firsts : List ℤ) (others : List (List ℤ)) → AreLong n others → AreLong (suc n) (flat_map (λ first. map (λ rest. first ∷ rest) others) firsts)
long-flat n [] others h = tt
long-flat n (x ∷ firsts) others h = long-append (suc n) (map (λ rest. x ∷ rest) others) (flat_map (λ first. map (λ rest. first ∷ rest) others) firsts) (long-map n x others h) (long-flat n firsts others h)

pub long-tuples : (lists : List (List ℤ)) → AreLong (length lists) (tuples lists)
long-tuples [] = (refl, tt)
long-tuples (firsts ∷ others) = long-flat (length others) firsts (tuples others) (long-tuples others)

-- points one after another
pub follow-points : (n : ℕ) (make : List ℤ → Term Place) (run : List ℤ → Memories → ℕ → Coming Place) →
    ((point : List ℤ) → length point ≡ n → (memories : Memories) (turns : ℕ) (o : Outcome Place Reached) → run point memories turns ≡ Some o → Follows (λ m. big_step (make point) m memories turns) o) →
    (points : List (List ℤ)) → AreLong n points → (memories : Memories) (turns : ℕ) (o : Outcome Place Reached) → one_by_one run points memories turns ≡ Some o →
    Follows (λ m. big_parts (point_terms make points) m memories turns) o
follow-points n make run f [] l memories turns o h = at-once (reached memories turns) o h
follow-points n make run f (point ∷ points) l memories turns o h =
    follows-then (λ m. big_step (make point) m memories turns) (λ m. big_parts (point_terms make points) m) (run point memories turns) (one_by_one run points)
    (f point l.0 memories turns) (follow-points n make run f points l.1) o h
