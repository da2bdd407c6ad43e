-- Instructions one after another, and past one another.
use Rattle.std.proofs.Common.{◌≡◌, ℕ, zero, suc, ◌+◌, List, [], ◌∷◌, ◌++◌, length, Ok, Err, refl, ap, ◌∙◌, arith}
use Rattle.std.specs.List.{AllByRecursion}
use Rattle.sd_graph.specs.TaskletMeaning.{Meaning, and_then}
use Rattle.sd_work.specs.declared.fault.FaultKind.{FaultKind}
use Rattle.sd_tcode.specs.op.Machine.{Held, State, after_one, passed, after_all}
use Rattle.sd_tcode.specs.tcode.Emitted.{either_code}
use Rattle.sd_tcode.specs.declared.op.op.Op.{Op}
use Rattle.sd_tcode.specs.declared.op.op.Op.TheVariants.{Skip}

-- what holds of all instructions holds of those in front and of those behind
pub all_front : (P : Op → Type 0) (first second : List Op) → AllByRecursion P (first ++ second) → AllByRecursion P first
all_front P [] second all = tt
all_front P (op ∷ first) second all = (all.0, all_front P first second all.1)

pub all_back : (P : Op → Type 0) (first second : List Op) → AllByRecursion P (first ++ second) → AllByRecursion P second
all_back P [] second all = all
all_back P (op ∷ first) second all = all_back P first second all.1

module _ (arrays : List Held) where
  -- what comes after, with so many instructions still to be passed
  abbrev pub go_on : List Op → State × ℕ → Meaning (State × ℕ)
  go_on ops here = after_all arrays here.1 ops here.0

  pub after_append : (pass : ℕ) (first second : List Op) (state : State) → after_all arrays pass (first ++ second) state ≡ and_then (after_all arrays pass first state) (go_on second)
  after_append pass [] second state = refl
  after_append (suc pass) (op ∷ first) second state = after_append pass first second state
  after_append zero (op ∷ first) second state =
      elim (after_one arrays op state) as (λ next. and_then next (λ next. after_all arrays (passed op state) (first ++ second) next) ≡ and_then (and_then next (λ next. after_all arrays (passed op state) first next)) (go_on second))
      [ Ok next ↦ after_append (passed op state) first second next | Err kind ↦ refl ]

  -- all are passed
  pub pass_all : (ops : List Op) (state : State) → after_all arrays (length ops) ops state ≡ Ok (state, 0)
  pass_all [] state = refl
  pass_all (op ∷ ops) state = pass_all ops state

  -- some are passed, and one more
  pub pass_behind : (first second : List Op) (op : Op) (state : State) → after_all arrays (length first + 1) (first ++ op ∷ second) state ≡ after_all arrays 0 second state
  pass_behind [] second op state = refl
  pass_behind (this ∷ first) second op state =
      let e : length (this ∷ first) + 1 ≡ suc (length first + 1) = omega arith in
      ap (λ n. after_all arrays n (this ∷ (first ++ op ∷ second)) state) e ∙ pass_behind first second op state

  -- instructions that come to an end, with nothing left to be passed
  abbrev pub Comes : List Op → State → Meaning State → Type 0
  Comes ops state end = after_all arrays 0 ops state ≡ and_then end (λ state. Ok (state, 0))

  pub comes_on : (first second : List Op) (state middle : State) (end : Meaning State) → Comes first state (Ok middle) → Comes second middle end → Comes (first ++ second) state end
  comes_on first second state middle end h g = after_append 0 first second state ∙ (ap (λ m. and_then m (go_on second)) h ∙ g)

  pub comes_not : (first second : List Op) (state : State) (kind : FaultKind) → Comes first state (Err kind) → Comes (first ++ second) state (Err kind)
  comes_not first second state kind h = after_append 0 first second state ∙ ap (λ m. and_then m (go_on second)) h

  -- a jump changes nothing, and passes so many instructions
  abbrev pub Jumps : Op → State → (count : ℕ) → Type 0
  Jumps op state count = (after_one arrays op state ≡ Ok state) × (passed op state ≡ count)

  jump_on : (op : Op) (count : ℕ) (rest : List Op) (state : State) → Jumps op state count → after_all arrays 0 (op ∷ rest) state ≡ after_all arrays count rest state
  jump_on op count rest state j = ap (λ m. and_then m (λ next. after_all arrays (passed op state) rest next)) j.0 ∙ ap (λ n. after_all arrays n rest state) j.1

  -- the first instructions, where the jump is not taken
  pub either_first : (test : ℕ → Op) (first second : List Op) (state : State) (end : Meaning State) →
      Jumps (test (length first + 1)) state 0 → Comes first state end → Comes (either_code test first second) state end
  either_first test first second state end h g =
      jump_on (test (length first + 1)) 0 (first ++ Skip (length second) ∷ second) state h
      ∙ (after_append 0 first (Skip (length second) ∷ second) state
      ∙ (ap (λ m. and_then m (go_on (Skip (length second) ∷ second))) g ∙ passes end))
    where
      passes : (end : Meaning State) → and_then (and_then end (λ state. Ok (state, 0))) (go_on (Skip (length second) ∷ second)) ≡ and_then end (λ state. Ok (state, 0))
      passes (Ok middle) = pass_all second middle
      passes (Err kind) = refl

  -- the second instructions, where it is taken
  pub either_second : (test : ℕ → Op) (first second : List Op) (state : State) (end : Meaning State) →
      Jumps (test (length first + 1)) state (length first + 1) → Comes second state end → Comes (either_code test first second) state end
  either_second test first second state end h g =
      jump_on (test (length first + 1)) (length first + 1) (first ++ Skip (length second) ∷ second) state h
      ∙ (pass_behind first second (Skip (length second)) state ∙ g)
