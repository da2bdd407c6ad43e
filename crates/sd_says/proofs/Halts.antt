-- Work that comes to an end, and spends a turn where a stream may have grown.
use Rattle.std.proofs.Common.{◌≡◌, ℕ, zero, suc, ◌<◌, ◌≤◌, ◌+◌, ℤ, ◌+ℤ◌, List, [], ◌∷◌, ◌++◌, drop, length, map, Option, Some, None, Result, Ok, Err, Bool, true, false, slice_index_or, refl, sym, ◌∙◌, ap, subst, arith, ◌⊎◌, inl, inr}
use Rattle.std.specs.Bool.{⊤}
use Rattle.sd_num.specs.declared.resolution.Resolution.{Resolution}
use Rattle.sd_work.specs.declared.fault.FaultKind.{FaultKind}
use Rattle.sd_work.specs.declared.fault.FaultKind.TheVariants.{Subscript}
use Rattle.sd_num.specs.declared.width.Width.{Width}
use Rattle.sd_num.specs.declared.width.Width.TheVariants.{W64}
use Rattle.sd_work.specs.Memory.{Contents, array, stream, Memory, Memories, Reference, seen, values_of, waiting}
use Rattle.sd_work.specs.Change.{write, written, with_elements, take, apply, changed_at, without, with_values}
use Rattle.sd_work.specs.Leaf.{Pending, write_value, transfer, push_to, Evaluation, instance_of, copy_of, identities, reduction_of}
use Rattle.sd_work.specs.Move.{Fault, fault_at}
use Rattle.sd_work.specs.LeafMove.{write_move}
use Rattle.sd_work.specs.New.{PushesNothing}
use Rattle.sd_work.specs.Step.{Outcome, Done, Faulted, Spent}
use Rattle.sd_work.specs.BigStep.{Reached, Coming, reached, faulted, and_then, spending, after_move, big_doing, big_evaluated, after_read, big_reading, big_leaf, leaving, after_oldest, big_takes}
use Rattle.sd_graph.specs.declared.place.Place.{Place}
use Rattle.sd_says.proofs.ByLeaves.{one_by_one, if_passed, rounds}
use Rattle.sd_says.proofs.Follows.{Follows}
use Rattle.sd_says.proofs.Bounds.{Comes, comes-step, comes-then, comes-stop}

-- no stream is longer
abbrev pub NoLonger : Memories → Memories → Type 0
NoLonger later memories = (l c : ℕ) → length (waiting l c later) ≤ length (waiting l c memories)

-- a turn was spent, or no stream is longer
abbrev pub Spends : Memories → ℕ → Outcome Place Reached → Type 0
Spends memories turns (Done now) = (now.turns < turns) ⊎ ((now.turns ≡ turns) × NoLonger now.memories memories)
Spends memories turns (Faulted fault) = ⊤
Spends memories turns Spent = ⊤

-- it comes to an end
abbrev pub Halts : (ℕ → Coming Place) → Memories → ℕ → Type 0
Halts work memories turns = (o : Outcome Place Reached) × Follows work o × Spends memories turns o

spends-on : (memories later : Memories) (turns left : ℕ) (o : Outcome Place Reached) → ((left < turns) ⊎ ((left ≡ turns) × NoLonger later memories)) → Spends later left o → Spends memories turns o
spends-on memories later turns left (Done now) (inl h) (inl g) = inl (omega (arith, h, g))
spends-on memories later turns left (Done now) (inl h) (inr g) = inl (omega (arith, h, g.0))
spends-on memories later turns left (Done now) (inr h) (inl g) = inl (omega (arith, h.0, g))
spends-on memories later turns left (Done now) (inr h) (inr g) = inr (g.0 ∙ h.0, λ l c. (let a = g.1 l c in let b = h.1 l c in omega (arith, a, b)))
spends-on memories later turns left (Faulted fault) h g = tt
spends-on memories later turns left Spent h g = tt

pub halts-here : (memories : Memories) (turns : ℕ) → Halts (λ m. reached memories turns) memories turns
halts-here memories turns = (Done (record { memories = memories; turns = turns }), (0, λ k. refl), inr (refl, λ l c. omega arith))

-- first one work and then another
pub halts-then : (first : ℕ → Coming Place) (then : ℕ → Memories → ℕ → Coming Place) (memories : Memories) (turns : ℕ) → Halts first memories turns →
    ((memories : Memories) (turns : ℕ) → Halts (λ m. then m memories turns) memories turns) → Halts (λ m. and_then (first m) (then m)) memories turns
halts-then first then memories turns h g = go h.0 h.1 h.2
  where
    go : (o : Outcome Place Reached) → Follows first o → Spends memories turns o → Halts (λ m. and_then (first m) (then m)) memories turns
    go (Done now) f s =
        let k = g now.memories now.turns in (
          k.0,
          (
            f.0 + k.1.0,
            λ j.
                (let e : (f.0 + k.1.0) + j ≡ f.0 + (k.1.0 + j) = omega arith in
                let e' : (f.0 + k.1.0) + j ≡ k.1.0 + (f.0 + j) = omega arith in
                ap (λ x. and_then x (then ((f.0 + k.1.0) + j))) (ap first e ∙ f.1 (k.1.0 + j)) ∙ ap (λ n. then n now.memories now.turns) e' ∙ k.1.1 (f.0 + j)),
          ),
          spends-on memories now.memories turns now.turns k.0 s k.2,
        )
    go (Faulted fault) f s = (Faulted fault, (f.0, λ j. ap (λ x. and_then x (then (f.0 + j))) (f.1 j)), tt)
    go Spent f s = (Spent, (f.0, λ j. ap (λ x. and_then x (then (f.0 + j))) (f.1 j)), tt)

waiting-inside : (l c : ℕ) (memories : Memories) → waiting l c (drop 1 memories) ≡ waiting (suc l) c memories
waiting-inside l c [] = refl
waiting-inside l c (memory ∷ memories) = refl

-- inside an owner
pub halts-leaving : (work : ℕ → Coming Place) (own : Memory) (memories : Memories) (turns : ℕ) → Halts work (own ∷ memories) turns → Halts (λ m. leaving (work m)) memories turns
halts-leaving work own memories turns h = go h.0 h.1 h.2
  where
    go : (o : Outcome Place Reached) → Follows work o → Spends (own ∷ memories) turns o → Halts (λ m. leaving (work m)) memories turns
    go (Done now) f s =
        (Done (record { memories = drop 1 now.memories; turns = now.turns }), (f.0, λ k. ap leaving (f.1 k)), less s)
      where
        less : ((now.turns < turns) ⊎ ((now.turns ≡ turns) × NoLonger now.memories (own ∷ memories))) → (now.turns < turns) ⊎ ((now.turns ≡ turns) × NoLonger (drop 1 now.memories) memories)
        less (inl s) = inl s
        less (inr s) = inr (s.0, λ l c. subst (λ (w : List ℤ). length w ≤ length (waiting l c memories)) (sym (waiting-inside l c now.memories)) (s.1 (suc l) c))
    go (Faulted fault) f s = (Faulted fault, (f.0, λ k. ap leaving (f.1 k)), tt)
    go Spent f s = (Spent, (f.0, λ k. ap leaving (f.1 k)), tt)

-- ---- leaves

-- no turn is spent
abbrev Keeps : ℕ → Outcome Place Reached → Type 0
Keeps turns (Done now) = now.turns ≡ turns
Keeps turns (Faulted fault) = ⊤
Keeps turns Spent = ⊤

doing-halts : (place : Place) (effects : List Pending) (memories : Memories) (turns : ℕ) → (o : Outcome Place Reached) × (big_doing place effects memories turns ≡ Some o) × Keeps turns o
doing-halts place [] memories turns = (Done (record { memories = memories; turns = turns }), refl, refl)
doing-halts place (write_value value None by ∷ effects) memories turns = (Faulted _, refl, tt)
doing-halts place (write_value value (Some to) by ∷ effects) memories turns = doing-halts place effects _ turns
doing-halts place (push_to level container value ∷ effects) memories turns = doing-halts place effects _ turns
doing-halts place (transfer from to by ∷ effects) memories turns = go (seen from memories) to (λ memories. doing-halts place effects memories turns)
  where
    go : (value : Option ℤ) (to : Option Reference) → ((memories : Memories) → (o : Outcome Place Reached) × (big_doing place effects memories turns ≡ Some o) × Keeps turns o) →
        (o : Outcome Place Reached) × (after_move (write_move place value to by effects) memories turns (big_doing place effects) ≡ Some o) × Keeps turns o
    go None to f = (Faulted _, refl, tt)
    go (Some value) None f = (Faulted _, refl, tt)
    go (Some value) (Some to) f = f _

evaluated-keeps : (place : Place) (result : Result (List Pending) FaultKind) (memories : Memories) (turns : ℕ) → (o : Outcome Place Reached) × (big_evaluated place false result memories turns ≡ Some o) × Keeps turns o
evaluated-keeps place (Err kind) memories turns = (Faulted _, refl, tt)
evaluated-keeps place (Ok effects) memories turns = doing-halts place effects memories turns

reading-keeps : (place : Place) (left : List (Option Reference)) (values : List ℤ) (evaluation : Evaluation) (memories : Memories) (turns : ℕ) →
    (o : Outcome Place Reached) × (big_reading place false left values evaluation memories turns ≡ Some o) × Keeps turns o
reading-keeps place [] values evaluation memories turns = evaluated-keeps place (evaluation values) memories turns
reading-keeps place (next ∷ left) values evaluation memories turns = go (seen next memories) (λ value. reading-keeps place left (values ++ value ∷ []) evaluation memories turns)
  where
    go : (value : Option ℤ) → ((value : ℤ) → (o : Outcome Place Reached) × (big_reading place false left (values ++ value ∷ []) evaluation memories turns ≡ Some o) × Keeps turns o) →
        (o : Outcome Place Reached) × (after_read place false value turns (λ value. big_reading place false left (values ++ value ∷ []) evaluation memories) ≡ Some o) × Keeps turns o
    go None f = (Faulted _, refl, tt)
    go (Some value) f = f value

-- a turn is spent first
paid : (memories : Memories) (turns : ℕ) (rest : ℕ → Coming Place) → ((turns : ℕ) → (o : Outcome Place Reached) × (rest turns ≡ Some o) × Keeps turns o) → Halts (λ m. spending true turns rest) memories turns
paid memories zero rest f = (Spent, (0, λ k. refl), tt)
paid memories (suc turns) rest f = let r = f turns in (r.0, (0, λ k. r.1), less r.0 r.2)
  where
    less : (o : Outcome Place Reached) → Keeps turns o → Spends memories (suc turns) o
    less (Done now) k = inl (omega (arith, k))
    less (Faulted fault) k = tt
    less Spent k = tt

-- an instance
pub instance-halts : (place : Place) (reads : List (Option Reference)) (evaluation : Evaluation) (memories : Memories) (turns : ℕ) → Halts (λ m. big_leaf place (instance_of reads evaluation) memories turns) memories turns
instance-halts place [] evaluation memories turns = go (evaluation [])
  where
    go : (result : Result (List Pending) FaultKind) → Halts (λ m. big_evaluated place true result memories turns) memories turns
    go (Err kind) = paid memories turns (λ turns. faulted (fault_at place kind)) (λ turns. (Faulted _, refl, tt))
    go (Ok effects) = paid memories turns (big_doing place effects memories) (λ turns. doing-halts place effects memories turns)
instance-halts place (next ∷ left) evaluation memories turns = go (seen next memories)
  where
    go : (value : Option ℤ) → Halts (λ m. after_read place true value turns (λ value. big_reading place false left ([] ++ value ∷ []) evaluation memories)) memories turns
    go None = paid memories turns (λ turns. faulted (fault_at place Subscript)) (λ turns. (Faulted _, refl, tt))
    go (Some value) = paid memories turns (big_reading place false left ([] ++ value ∷ []) evaluation memories) (λ turns. reading-keeps place left ([] ++ value ∷ []) evaluation memories turns)

-- points one after another
pub points-halt : (run : ℕ → List ℤ → Memories → ℕ → Coming Place) → ((point : List ℤ) (memories : Memories) (turns : ℕ) → Halts (λ m. run m point memories turns) memories turns) →
    (points : List (List ℤ)) (memories : Memories) (turns : ℕ) → Halts (λ m. one_by_one (run m) points memories turns) memories turns
points-halt run f [] memories turns = halts-here memories turns
points-halt run f (point ∷ points) memories turns =
    halts-then (λ m. run m point memories turns) (λ m. one_by_one (run m) points) memories turns (f point memories turns) (points-halt run f points)

-- a condition
pub branch-halts : (test : Result Bool (Fault Place)) (left right : ℕ → Coming Place) (memories : Memories) (turns : ℕ) → Halts left memories turns → Halts right memories turns → Halts (λ m. if_passed test (left m) (right m)) memories turns
branch-halts (Err fault) left right memories turns f g = (Faulted fault, (0, λ k. refl), tt)
branch-halts (Ok true) left right memories turns f g = f
branch-halts (Ok false) left right memories turns f g = g

-- ---- loops

-- it comes to an end, with two bounds
abbrev pub HaltsBy : (ℕ → ℕ → Coming Place) → Memories → ℕ → Type 0
HaltsBy work memories turns = (o : Outcome Place Reached) × Comes work o × Spends memories turns o

-- first work and then the rest, with two bounds
then-by : (first : ℕ → Coming Place) (then : ℕ → ℕ → Memories → ℕ → Coming Place) (memories : Memories) (turns : ℕ) → Halts first memories turns →
    ((now : Reached) → Spends memories turns (Done now) → HaltsBy (λ e m. then e m now.memories now.turns) now.memories now.turns) → HaltsBy (λ e m. and_then (first m) (then e m)) memories turns
then-by first then memories turns h g = go h.0 h.1 h.2
  where
    go : (o : Outcome Place Reached) → Follows first o → Spends memories turns o → HaltsBy (λ e m. and_then (first m) (then e m)) memories turns
    go (Done now) f s = let k = g now s in (k.0, comes-then first then now k.0 f k.1, spends-on memories now.memories turns now.turns k.0 s k.2)
    go (Faulted fault) f s = (Faulted fault, comes-stop first then (Faulted fault) tt f, tt)
    go Spent f s = (Spent, comes-stop first then Spent tt f, tt)

step-by : (run more : ℕ → ℕ → Coming Place) → ((e m : ℕ) → run (suc e) m ≡ more e m) → (memories : Memories) (turns : ℕ) → HaltsBy more memories turns → HaltsBy run memories turns
step-by run more same memories turns h = (h.0, comes-step run more same h.0 h.1, h.2)

if-by : (test : Result Bool (Fault Place)) (left : ℕ → ℕ → Coming Place) (memories : Memories) (turns : ℕ) → HaltsBy left memories turns → HaltsBy (λ e m. if_passed test (left e m) (reached memories turns)) memories turns
if-by (Err fault) left memories turns h = (Faulted fault, (0, λ i j. refl), tt)
if-by (Ok true) left memories turns h = h
if-by (Ok false) left memories turns h = (Done (record { memories = memories; turns = turns }), (0, λ i j. refl), inr (refl, λ l c. omega arith))

module _ (test : ℤ → Memories → Result Bool (Fault Place)) (block : ℕ → ℤ → Memories → ℕ → Coming Place) (step : ℤ)
    (f : (value : ℤ) (memories : Memories) (turns : ℕ) → Halts (λ m. block m value memories turns) memories turns) where
  round-by : (most : ℕ) → ((value : ℤ) (memories : Memories) (turns : ℕ) → turns < most → HaltsBy (λ e m. rounds e test (block m) step value memories turns) memories turns) →
      (value : ℤ) (memories : Memories) (turns : ℕ) → turns ≤ most → HaltsBy (λ e m. rounds e test (block m) step value memories turns) memories turns
  round-by most later value memories turns le =
      step-by (λ e m. rounds e test (block m) step value memories turns)
      (λ e m. if_passed (test value memories) (and_then (block m value memories turns) (λ memories turns. spending true turns (rounds e test (block m) step (value +ℤ step) memories))) (reached memories turns))
      (λ e m. refl) memories turns
      (if-by (test value memories) (λ e m. and_then (block m value memories turns) (λ memories turns. spending true turns (rounds e test (block m) step (value +ℤ step) memories))) memories turns
      (then-by (λ m. block m value memories turns) (λ e m memories turns. spending true turns (rounds e test (block m) step (value +ℤ step) memories)) memories turns (f value memories turns)
      (λ now s. go now.turns now.memories (less now s))))
    where
      less : (now : Reached) → Spends memories turns (Done now) → now.turns ≤ most
      less now (inl s) = omega (arith, s, le)
      less now (inr s) = omega (arith, s.0, le)

      go : (left : ℕ) (more : Memories) → left ≤ most → HaltsBy (λ e m. spending true left (rounds e test (block m) step (value +ℤ step) more)) more left
      go zero more b = (Spent, (0, λ i j. refl), tt)
      go (suc left) more b = let r = later (value +ℤ step) more left (omega (arith, b)) in (r.0, r.1, spends-on more more (suc left) left r.0 (inl (omega arith)) r.2)

  -- with at most so many turns
  rounds-by : (most : ℕ) (value : ℤ) (memories : Memories) (turns : ℕ) → turns ≤ most → HaltsBy (λ e m. rounds e test (block m) step value memories turns) memories turns
  rounds-by zero value memories turns le = round-by 0 (λ value memories turns b. absurd (omega (arith, b))) value memories turns le
  rounds-by (suc most) value memories turns le = round-by (suc most) (λ value memories turns b. rounds-by most value memories turns (omega (arith, b))) value memories turns le

  pub rounds-halt : (value : ℤ) (memories : Memories) (turns : ℕ) → Halts (λ m. rounds m test (block m) step value memories turns) memories turns
  rounds-halt value memories turns = let r = rounds-by turns value memories turns (omega arith) in (r.0, (r.1.0, λ k. r.1.1 k k), r.2)

-- ---- streams

less-without : (values : List ℤ) → length (without 0 values) ≤ length values
less-without [] = omega arith
less-without (value ∷ values) = omega arith

less-contents : (contents : Contents) → length (values_of (with_values (λ width. without 0) contents)) ≤ length (values_of contents)
less-contents (array width elements) = omega arith
less-contents (stream width values) = less-without values

less-memory : (container c : ℕ) (memory : Memory) → length (values_of (slice_index_or (changed_at container (with_values (λ width. without 0)) memory) c (stream W64 []))) ≤ length (values_of (slice_index_or memory c (stream W64 [])))
less-memory container c [] = omega arith
less-memory zero zero (contents ∷ memory) = less-contents contents
less-memory zero (suc c) (contents ∷ memory) = omega arith
less-memory (suc container) zero (contents ∷ memory) = omega arith
less-memory (suc container) (suc c) (contents ∷ memory) = less-memory container c memory

-- a take makes no stream longer
take-less : (level container : ℕ) (memories : Memories) → NoLonger (apply (take level container 0) memories) memories
take-less level container [] l c = omega arith
take-less zero container (memory ∷ memories) zero c = less-memory container c memory
take-less zero container (memory ∷ memories) (suc l) c = omega arith
take-less (suc level) container (memory ∷ memories) zero c = omega arith
take-less (suc level) container (memory ∷ memories) (suc l) c = take-less level container memories l c

-- and its own stream shorter
taken-contents : (contents : Contents) (value : ℤ) (values : List ℤ) → values_of contents ≡ value ∷ values → length (values_of (with_values (λ width. without 0) contents)) ≤ length values
taken-contents (array width elements) value values e = cc
taken-contents (stream width []) value values e = cc
taken-contents (stream width (first ∷ rest)) value values e = let r : rest ≡ values = cc in subst (λ (v : List ℤ). length rest ≤ length v) r (omega arith)

taken-memory : (container : ℕ) (memory : Memory) (value : ℤ) (values : List ℤ) → values_of (slice_index_or memory container (stream W64 [])) ≡ value ∷ values →
    length (values_of (slice_index_or (changed_at container (with_values (λ width. without 0)) memory) container (stream W64 []))) ≤ length values
taken-memory container [] value values e = cc
taken-memory zero (contents ∷ memory) value values e = taken-contents contents value values e
taken-memory (suc container) (contents ∷ memory) value values e = taken-memory container memory value values e

taken : (level container : ℕ) (memories : Memories) (value : ℤ) (values : List ℤ) → waiting level container memories ≡ value ∷ values → length (waiting level container (apply (take level container 0) memories)) ≤ length values
taken level container [] value values e = cc
taken zero container (memory ∷ memories) value values e = taken-memory container memory value values e
taken (suc level) container (memory ∷ memories) value values e = taken level container memories value values e

module _ (level container : ℕ) (run : ℕ → ℤ → Memories → ℕ → Coming Place)
    (f : (value : ℤ) (memories : Memories) (turns : ℕ) → Halts (λ m. run m value memories turns) memories turns) where
  abbrev TakesBy : Memories → ℕ → Type 0
  TakesBy memories turns = HaltsBy (λ e m. big_takes e level container (run m) memories turns) memories turns

  -- with at most so many turns, and at most so many values waiting
  take-by : (most wait : ℕ) → ((memories : Memories) (turns : ℕ) → turns < most → TakesBy memories turns) → ((memories : Memories) (turns : ℕ) → turns ≤ most → length (waiting level container memories) < wait → TakesBy memories turns) →
      (memories : Memories) (turns : ℕ) → turns ≤ most → length (waiting level container memories) ≤ wait → TakesBy memories turns
  take-by most wait fewer shorter memories turns le w =
      step-by (λ e m. big_takes e level container (run m) memories turns)
      (λ e m. after_oldest (waiting level container memories) memories turns (λ value. and_then (run m value (apply (take level container 0) memories) turns) (big_takes e level container (run m))))
      (λ e m. refl) memories turns (go (waiting level container memories) refl)
    where
      go : (values : List ℤ) → waiting level container memories ≡ values →
          HaltsBy (λ e m. after_oldest values memories turns (λ value. and_then (run m value (apply (take level container 0) memories) turns) (big_takes e level container (run m)))) memories turns
      go [] e = (Done (record { memories = memories; turns = turns }), (0, λ i j. refl), inr (refl, λ l c. omega arith))
      go (value ∷ values) e =
          let r = then-by (λ m. run m value (apply (take level container 0) memories) turns) (λ e m memories turns. big_takes e level container (run m) memories turns) (apply (take level container 0) memories) turns
          (f value (apply (take level container 0) memories) turns) (λ now s. next now s) in
          (r.0, r.1, spends-on memories (apply (take level container 0) memories) turns turns r.0 (inr (refl, take-less level container memories)) r.2)
        where
          next : (now : Reached) → Spends (apply (take level container 0) memories) turns (Done now) → TakesBy now.memories now.turns
          next now (inl s) = fewer now.memories now.turns (omega (arith, s, le))
          next now (inr s) =
              let a = s.1 level container in
              let b = taken level container memories value values e in
              let c : length (waiting level container memories) ≡ suc (length values) = ap length e in
              shorter now.memories now.turns (omega (arith, s.0, le)) (omega (arith, a, b, c, w))

  wait-by : (most : ℕ) → ((memories : Memories) (turns : ℕ) → turns < most → TakesBy memories turns) → (wait : ℕ) (memories : Memories) (turns : ℕ) → turns ≤ most → length (waiting level container memories) ≤ wait → TakesBy memories turns
  wait-by most fewer zero memories turns le w = take-by most 0 fewer (λ memories turns le w. absurd (omega (arith, w))) memories turns le w
  wait-by most fewer (suc wait) memories turns le w =
      take-by most (suc wait) fewer (λ memories turns le w. wait-by most fewer wait memories turns le (omega (arith, w))) memories turns le w

  takes-by : (most wait : ℕ) (memories : Memories) (turns : ℕ) → turns ≤ most → length (waiting level container memories) ≤ wait → TakesBy memories turns
  takes-by zero wait memories turns le w = wait-by 0 (λ memories turns b. absurd (omega (arith, b))) wait memories turns le w
  takes-by (suc most) wait memories turns le w =
      wait-by (suc most) (λ memories turns b. takes-by most (length (waiting level container memories)) memories turns (omega (arith, b)) (omega arith)) wait memories turns le w

  pub takes-halt : (memories : Memories) (turns : ℕ) → Halts (λ m. big_takes m level container (run m) memories turns) memories turns
  takes-halt memories turns = let r = takes-by turns (length (waiting level container memories)) memories turns (omega arith) (omega arith) in (r.0, (r.1.0, λ k. r.1.1 k k), r.2)

-- ---- copies and reductions

module _ (change : Contents → Contents) (kept : (contents : Contents) → length (values_of (change contents)) ≤ length (values_of contents)) where
  kept-memory : (container c : ℕ) (memory : Memory) → length (values_of (slice_index_or (changed_at container change memory) c (stream W64 []))) ≤ length (values_of (slice_index_or memory c (stream W64 [])))
  kept-memory container c [] = omega arith
  kept-memory zero zero (contents ∷ memory) = kept contents
  kept-memory zero (suc c) (contents ∷ memory) = omega arith
  kept-memory (suc container) zero (contents ∷ memory) = omega arith
  kept-memory (suc container) (suc c) (contents ∷ memory) = kept-memory container c memory

  kept-memories : (level container : ℕ) (memories : Memories) → NoLonger (changed_at level (changed_at container change) memories) memories
  kept-memories level container [] l c = omega arith
  kept-memories zero container (memory ∷ memories) zero c = kept-memory container c memory
  kept-memories zero container (memory ∷ memories) (suc l) c = omega arith
  kept-memories (suc level) container (memory ∷ memories) zero c = omega arith
  kept-memories (suc level) container (memory ∷ memories) (suc l) c = kept-memories level container memories l c

elements-kept : (change : Width → List ℤ → List ℤ) (contents : Contents) → length (values_of (with_elements change contents)) ≤ length (values_of contents)
elements-kept change (array width elements) = omega arith
elements-kept change (stream width values) = omega arith

write-kept : (to : Reference) (by : Option Resolution) (value : ℤ) (memories : Memories) → NoLonger (apply (write to by value) memories) memories
write-kept to by value memories = kept-memories (with_elements (λ width. changed_at to.element (written width by value))) (elements-kept (λ width. changed_at to.element (written width by value))) to.level to.container memories

-- work that pushes nothing
pub quiet-halts : (place : Place) (effects : List Pending) → PushesNothing effects → (memories : Memories) (turns : ℕ) → Halts (λ m. big_doing place effects memories turns) memories turns
quiet-halts place [] h memories turns = halts-here memories turns
quiet-halts place (write_value value None by ∷ effects) h memories turns = (Faulted _, (0, λ k. refl), tt)
quiet-halts place (write_value value (Some to) by ∷ effects) h memories turns =
    let r = quiet-halts place effects h (apply (write to by value) memories) turns in
    (r.0, r.1, spends-on memories (apply (write to by value) memories) turns turns r.0 (inr (refl, write-kept to by value memories)) r.2)
quiet-halts place (transfer from to by ∷ effects) h memories turns = go (seen from memories) to (quiet-halts place effects h)
  where
    go : (value : Option ℤ) (to : Option Reference) → ((memories : Memories) (turns : ℕ) → Halts (λ m. big_doing place effects memories turns) memories turns) →
        Halts (λ m. after_move (write_move place value to by effects) memories turns (big_doing place effects)) memories turns
    go None to f = (Faulted _, (0, λ k. refl), tt)
    go (Some value) None f = (Faulted _, (0, λ k. refl), tt)
    go (Some value) (Some to) f =
        let r = f (apply (write to by value) memories) turns in
        (r.0, r.1, spends-on memories (apply (write to by value) memories) turns turns r.0 (inr (refl, write-kept to by value memories)) r.2)
quiet-halts place (push_to level container value ∷ effects) h memories turns = elim h [ ]

quiet-append : (effects more : List Pending) → PushesNothing effects → PushesNothing more → PushesNothing (effects ++ more)
quiet-append [] more h g = g
quiet-append (write_value value to by ∷ effects) more h g = quiet-append effects more h g
quiet-append (transfer from to by ∷ effects) more h g = quiet-append effects more h g
quiet-append (push_to level container value ∷ effects) more h g = elim h [ ]

quiet-transfers : (by : Option Resolution) (pairs : List (Option Reference × Option Reference)) → PushesNothing (map (λ pair. transfer pair.0 pair.1 by) pairs)
quiet-transfers by [] = tt
quiet-transfers by (pair ∷ pairs) = quiet-transfers by pairs

quiet-identities : (identity : Option ℤ) (targets : List (Option Reference)) → PushesNothing (identities identity targets)
quiet-identities None targets = tt
quiet-identities (Some value) [] = tt
quiet-identities (Some value) (target ∷ targets) = quiet-identities (Some value) targets

pub copy-halts : (place : Place) (pairs : List (Option Reference × Option Reference)) (memories : Memories) (turns : ℕ) → Halts (λ m. big_leaf place (copy_of pairs) memories turns) memories turns
copy-halts place pairs memories turns = quiet-halts place (map (λ pair. transfer pair.0 pair.1 None) pairs) (quiet-transfers None pairs) memories turns

pub reduction-halts : (place : Place) (resolution : Resolution) (identity : Option ℤ) (targets : List (Option Reference)) (pairs : List (Option Reference × Option Reference)) (memories : Memories) (turns : ℕ) →
    Halts (λ m. big_leaf place (reduction_of resolution identity targets pairs) memories turns) memories turns
reduction-halts place resolution identity targets pairs memories turns =
    quiet-halts place (identities identity targets ++ map (λ pair. transfer pair.0 pair.1 (Some resolution)) pairs)
    (quiet-append (identities identity targets) (map (λ pair. transfer pair.0 pair.1 (Some resolution)) pairs) (quiet-identities identity targets) (quiet-transfers (Some resolution) pairs)) memories turns
