-- Work that comes to an end comes to the same where more transitions and takes are allowed.
use Rattle.std.proofs.Common.{◌≡◌, ℕ, zero, suc, ◌≤◌, ℤ, List, [], ◌∷◌, Option, Some, None, Result, Ok, Err, Bool, true, false, refl, sym, ap, subst, arith}
use Rattle.std.specs.Bool.{⊤}
use Rattle.sd_work.specs.Memory.{Memories, waiting}
use Rattle.sd_work.specs.Change.{take, apply}
use Rattle.sd_work.specs.Move.{Fault}
use Rattle.sd_work.specs.Exit.{Values, Exit, first_exit}
use Rattle.sd_work.specs.Residual.{Term, leaf, list, owning, nested, ended, pool, Terms, none, also, Actives, idle, busy}
use Rattle.sd_work.specs.Step.{Outcome, Done, Faulted, Spent}
use Rattle.sd_work.specs.BigStep.{Coming, Reached, and_then, spending, leaving, after_exit, big_states, after_oldest, big_takes, big_step, big_parts, big_active}

-- where the first comes to an end, the second comes to the same
abbrev Stays : {P : Type 0} → Coming P → Coming P → Type 0
Stays None other = ⊤
Stays (Some outcome) other = other ≡ Some outcome

itself : {P : Type 0} (c : Coming P) → Stays c c
itself None = tt
itself (Some outcome) = refl

and_then-stays : {P : Type 0} (c d : Coming P) (f g : Memories → ℕ → Coming P) → Stays c d → ((s : Memories) (n : ℕ) → Stays (f s n) (g s n)) → Stays (and_then c f) (and_then d g)
and_then-stays None d f g h k = tt
and_then-stays (Some (Done now)) d f g h k = subst (λ x. Stays (f now.memories now.turns) (and_then x g)) (sym h) (k now.memories now.turns)
and_then-stays (Some (Faulted fault)) d f g h k = ap (λ x. and_then x g) h
and_then-stays (Some Spent) d f g h k = ap (λ x. and_then x g) h

leaving-stays : {P : Type 0} (c d : Coming P) → Stays c d → Stays (leaving c) (leaving d)
leaving-stays c d h = and_then-stays c d _ _ h (λ s n. refl)

spending-stays : {P : Type 0} (turn : Bool) (n : ℕ) (f g : ℕ → Coming P) → ((n : ℕ) → Stays (f n) (g n)) → Stays (spending turn n f) (spending turn n g)
spending-stays true zero f g h = refl
spending-stays true (suc n) f g h = h n
spending-stays false n f g h = h n

exit-stays : {P : Type 0} (next : Result (Option (Exit P)) (Fault P)) (s : Memories) (n : ℕ) (f g : Exit P → ℕ → Coming P) → ((exit : Exit P) (n : ℕ) → Stays (f exit n) (g exit n)) → Stays (after_exit next s n f) (after_exit next s n g)
exit-stays (Err fault) s n f g h = refl
exit-stays (Ok None) s n f g h = refl
exit-stays (Ok (Some exit)) s n f g h = spending-stays exit.marked n (f exit) (g exit) (h exit)

oldest-stays : {P : Type 0} (values : List ℤ) (s : Memories) (n : ℕ) (f g : ℤ → Coming P) → ((value : ℤ) → Stays (f value) (g value)) → Stays (after_oldest values s n f) (after_oldest values s n g)
oldest-stays [] s n f g h = refl
oldest-stays (value ∷ values) s n f g h = h value

states-stay : {P : Type 0} (most more : ℕ) → most ≤ more → (f g : ℕ → Values → Memories → ℕ → Coming P) (exits : ℕ → Values → List (Exit P)) →
    ((state : ℕ) (values : Values) (s : Memories) (n : ℕ) → Stays (f state values s n) (g state values s n)) →
    (state : ℕ) (values : Values) (s : Memories) (n : ℕ) → Stays (big_states most f exits state values s n) (big_states more g exits state values s n)
states-stay zero more up f g exits h state values s n = tt
states-stay (suc most) zero up f g exits h state values s n = absurd (omega arith)
states-stay {P} (suc most) (suc more) up f g exits h state values s n =
    exit-stays (first_exit (exits state values) s) s n
    (λ exit n. and_then (f exit.state exit.values s n) (big_states most f exits exit.state exit.values))
    (λ exit n. and_then (g exit.state exit.values s n) (big_states more g exits exit.state exit.values))
    (λ (exit : Exit P) n. and_then-stays (f exit.state exit.values s n) (g exit.state exit.values s n) _ _ (h exit.state exit.values s n) (states-stay most more (omega arith) f g exits h exit.state exit.values))

takes-stay : {P : Type 0} (most more : ℕ) → most ≤ more → (level container : ℕ) (f g : ℤ → Memories → ℕ → Coming P) → ((value : ℤ) (s : Memories) (n : ℕ) → Stays (f value s n) (g value s n)) →
    (s : Memories) (n : ℕ) → Stays (big_takes most level container f s n) (big_takes more level container g s n)
takes-stay zero more up l c f g h s n = tt
takes-stay (suc most) zero up l c f g h s n = absurd (omega arith)
takes-stay (suc most) (suc more) up l c f g h s n =
    oldest-stays (waiting l c s) s n
    (λ value. and_then (f value (apply (take l c 0) s) n) (big_takes most l c f))
    (λ value. and_then (g value (apply (take l c 0) s) n) (big_takes more l c g))
    (λ value. and_then-stays (f value (apply (take l c 0) s) n) (g value (apply (take l c 0) s) n) _ _ (h value (apply (take l c 0) s) n) (takes-stay most more (omega arith) l c f g h))

mutual
  term-stays : {P : Type 0} (t : Term P) (most more : ℕ) → most ≤ more → (s : Memories) (n : ℕ) → Stays (big_step t most s n) (big_step t more s n)
  term-stays (leaf place work) most more up s n = itself (big_step (leaf place work) most s n)
  term-stays (list kind before parts) most more up s n = parts-stay parts most more up s n
  term-stays (owning own part) most more up s n = leaving-stays (big_step part most (own ∷ s) n) (big_step part more (own ∷ s) n) (term-stays part most more up (own ∷ s) n)
  term-stays (nested body exits own state values part) most more up s n =
      leaving-stays
      (and_then (big_step part most (own ∷ s) n) (big_states most (λ state values. big_step (body state values) most) exits state values))
      (and_then (big_step part more (own ∷ s) n) (big_states more (λ state values. big_step (body state values) more) exits state values))
      (and_then-stays (big_step part most (own ∷ s) n) (big_step part more (own ∷ s) n) _ _ (term-stays part most more up (own ∷ s) n)
      (states-stay most more up (λ state values. big_step (body state values) most) (λ state values. big_step (body state values) more) exits (λ state values. term-stays (body state values) most more up) state values))
  term-stays (ended own) most more up s n = refl
  term-stays (pool l c body active true) most more up s n = refl
  term-stays (pool l c body active false) most more up s n =
      and_then-stays (big_active active most s n) (big_active active more s n) _ _ (active-stay active most more up s n)
      (takes-stay most more up l c (λ value. big_step (body value) most) (λ value. big_step (body value) more) (λ value. term-stays (body value) most more up))

  parts-stay : {P : Type 0} (ts : Terms P) (most more : ℕ) → most ≤ more → (s : Memories) (n : ℕ) → Stays (big_parts ts most s n) (big_parts ts more s n)
  parts-stay none most more up s n = refl
  parts-stay (also t ts) most more up s n = and_then-stays (big_step t most s n) (big_step t more s n) _ _ (term-stays t most more up s n) (parts-stay ts most more up)

  active-stay : {P : Type 0} (ts : Actives P) (most more : ℕ) → most ≤ more → (s : Memories) (n : ℕ) → Stays (big_active ts most s n) (big_active ts more s n)
  active-stay idle most more up s n = refl
  active-stay (busy value t ts) most more up s n = and_then-stays (big_step t most s n) (big_step t more s n) _ _ (term-stays t most more up s n) (active-stay ts most more up)

pub more-allowed : {P : Type 0} (term : Term P) (most more : ℕ) (memories : Memories) (turns : ℕ) → (outcome : Outcome P Reached) → most ≤ more → big_step term most memories turns ≡ Some outcome → big_step term more memories turns ≡ Some outcome
more-allowed term most more memories turns outcome up h = subst (λ c. Stays c (big_step term more memories turns)) h (term-stays term most more up memories turns)
