-- With more rounds and takes allowed the same is said.
use Rattle.std.proofs.Common.{◌≡◌, ℕ, zero, suc, ◌+◌, ℤ, ◌+ℤ◌, List, [], ◌∷◌, Some, None, Result, Ok, Err, Bool, true, false, cond, refl, ◌∙◌, ap, arith}
use Rattle.sd_work.specs.Memory.{Memories, waiting}
use Rattle.sd_work.specs.Change.{take, apply}
use Rattle.sd_work.specs.Move.{Fault}
use Rattle.sd_work.specs.Step.{Outcome, Done, Faulted, Spent}
use Rattle.sd_work.specs.BigStep.{Reached, Coming, reached, and_then, spending, leaving, after_oldest, big_takes}
use Rattle.sd_graph.specs.declared.place.Place.{Place}
use Rattle.sd_says.proofs.ByLeaves.{one_by_one, if_passed, rounds}

-- what comes to an end comes to the same
abbrev pub Extends : Coming Place → Coming Place → Type 0
Extends first other = (o : Outcome Place Reached) → first ≡ Some o → other ≡ Some o

pub more-then : (first other : Coming Place) (f g : Memories → ℕ → Coming Place) → Extends first other → ((memories : Memories) (turns : ℕ) → Extends (f memories turns) (g memories turns)) → Extends (and_then first f) (and_then other g)
more-then None other f g h k o e = cc
more-then (Some (Done now)) other f g h k o e = ap (λ x. and_then x g) (h (Done now) refl) ∙ k now.memories now.turns o e
more-then (Some (Faulted fault)) other f g h k o e = ap (λ x. and_then x g) (h (Faulted fault) refl) ∙ e
more-then (Some Spent) other f g h k o e = ap (λ x. and_then x g) (h Spent refl) ∙ e

pub more-leaving : (first other : Coming Place) → Extends first other → Extends (leaving first) (leaving other)
more-leaving first other h = more-then first other _ _ h (λ memories turns o e. e)

pub more-cond : (b : Bool) (left right left' right' : Coming Place) → Extends left left' → Extends right right' → Extends (cond b left right) (cond b left' right')
more-cond true left right left' right' h g = h
more-cond false left right left' right' h g = g

pub more-if : (test : Result Bool (Fault Place)) (left right left' right' : Coming Place) → Extends left left' → Extends right right' → Extends (if_passed test left right) (if_passed test left' right')
more-if (Err fault) left right left' right' h g = λ o e. e
more-if (Ok true) left right left' right' h g = h
more-if (Ok false) left right left' right' h g = g

pub more-points : (run other : List ℤ → Memories → ℕ → Coming Place) → ((point : List ℤ) (memories : Memories) (turns : ℕ) → Extends (run point memories turns) (other point memories turns)) →
    (points : List (List ℤ)) (memories : Memories) (turns : ℕ) → Extends (one_by_one run points memories turns) (one_by_one other points memories turns)
more-points run other h [] memories turns = λ o e. e
more-points run other h (point ∷ points) memories turns = more-then _ _ (one_by_one run points) (one_by_one other points) (h point memories turns) (more-points run other h points)

more-spending : (turns : ℕ) (f g : ℕ → Coming Place) → ((turns : ℕ) → Extends (f turns) (g turns)) → Extends (spending true turns f) (spending true turns g)
more-spending zero f g h = λ o e. e
more-spending (suc turns) f g h = h turns

pub more-rounds : (k : ℕ) (test : ℤ → Memories → Result Bool (Fault Place)) (block other : ℤ → Memories → ℕ → Coming Place) (step : ℤ) → ((value : ℤ) (memories : Memories) (turns : ℕ) → Extends (block value memories turns) (other value memories turns)) →
    (n : ℕ) (value : ℤ) (memories : Memories) (turns : ℕ) → Extends (rounds n test block step value memories turns) (rounds (n + k) test other step value memories turns)
more-rounds k test block other step h zero value memories turns o e = cc
more-rounds k test block other step h (suc n) value memories turns o e =
    let next : suc n + k ≡ suc (n + k) = omega arith in
    ap (λ m. rounds m test other step value memories turns) next
    ∙ more-if (test value memories) (and_then (block value memories turns) (λ memories turns. spending true turns (rounds n test block step (value +ℤ step) memories))) (reached memories turns)
    (and_then (other value memories turns) (λ memories turns. spending true turns (rounds (n + k) test other step (value +ℤ step) memories))) (reached memories turns)
    (more-then (block value memories turns) (other value memories turns) (λ memories turns. spending true turns (rounds n test block step (value +ℤ step) memories)) (λ memories turns. spending true turns (rounds (n + k) test other step (value +ℤ step) memories))
    (h value memories turns)
    (λ memories turns. more-spending turns (rounds n test block step (value +ℤ step) memories) (rounds (n + k) test other step (value +ℤ step) memories) (λ turns. more-rounds k test block other step h n (value +ℤ step) memories turns)))
    (λ o e. e) o e

pub more-takes : (k level container : ℕ) (run other : ℤ → Memories → ℕ → Coming Place) → ((value : ℤ) (memories : Memories) (turns : ℕ) → Extends (run value memories turns) (other value memories turns)) →
    (n : ℕ) (memories : Memories) (turns : ℕ) → Extends (big_takes n level container run memories turns) (big_takes (n + k) level container other memories turns)
more-takes k level container run other h zero memories turns o e = cc
more-takes k level container run other h (suc n) memories turns o e =
    let next : suc n + k ≡ suc (n + k) = omega arith in
    ap (λ m. big_takes m level container other memories turns) next ∙ go (waiting level container memories) (more-takes k level container run other h n) o e
  where
    go : (values : List ℤ) → ((memories : Memories) (turns : ℕ) → Extends (big_takes n level container run memories turns) (big_takes (n + k) level container other memories turns)) →
        Extends (after_oldest values memories turns (λ value. and_then (run value (apply (take level container 0) memories) turns) (big_takes n level container run)))
        (after_oldest values memories turns (λ value. and_then (other value (apply (take level container 0) memories) turns) (big_takes (n + k) level container other)))
    go [] later = λ o e. e
    go (value ∷ values) later =
        more-then (run value (apply (take level container 0) memories) turns) (other value (apply (take level container 0) memories) turns) (big_takes n level container run) (big_takes (n + k) level container other)
        (h value (apply (take level container 0) memories) turns) later
