-- A run of a graph, one state after another.
use Rattle.std.proofs.Common.{◌≡◌, ℕ, zero, suc, List, [], ◌∷◌, Option, Some, None, Result, Ok, Err, Bool, true, false, refl, sym, ◌∙◌, ap, subst, arith}
use Rattle.sd_work.specs.Memory.{Memory, Memories}
use Rattle.sd_work.specs.Change.{innermost}
use Rattle.sd_work.specs.Move.{Fault}
use Rattle.sd_work.specs.Exit.{Values, Exit, first_exit}
use Rattle.sd_work.specs.Residual.{Term, nested}
use Rattle.sd_work.specs.Step.{Outcome, Done, Faulted, Spent}
use Rattle.sd_work.specs.Run.{Left, Sequential}
use Rattle.sd_work.specs.BigStep.{Coming, Reached, and_then, spending, after_exit, big_step, big_states, reached}
use Rattle.sd_work.specs.BigRun.{left_by, big_run}
use Rattle.sd_work.specs.New.{UnfoldsNew}
use Rattle.sd_work.specs.WellFormed.{IsOrdered, PaysCycles}
use Rattle.sd_work.specs.OrderedPools.{HasOrderedPools}
use Rattle.sd_work.proofs.Outcomes.{Run-unique}
use Rattle.sd_work.proofs.left_to_right.BigRuns.{big_run-sequential, sequential-big_run}
use Rattle.sd_work.proofs.ending.HaltingPools.{run-ends_with_pools}
use Rattle.sd_pieces.specs.course.Shape.{stack_shape}
use Rattle.sd_pieces.proofs.course_lemmas.Shapes.{work-shape}
use Rattle.sd_pieces.proofs.course_lemmas.MoreAllowed.{more-allowed}
use Rattle.sd_crew.specs.Stand.{run_at}

-- ---- more transitions

spend-more : {P : Type 0} (marked : Bool) (turns : ℕ) (rest more : ℕ → Coming P) → ((n : ℕ) (o : Outcome P Reached) → rest n ≡ Some o → more n ≡ Some o) → (o : Outcome P Reached) → spending marked turns rest ≡ Some o → spending marked turns more ≡ Some o
spend-more true zero rest more h o e = e
spend-more true (suc n) rest more h o e = h n o e
spend-more false n rest more h o e = h n o e

exit-more : {P : Type 0} (choice : Result (Option (Exit P)) (Fault P)) (memories : Memories) (turns : ℕ) (rest more : Exit P → ℕ → Coming P) → ((exit : Exit P) (n : ℕ) (o : Outcome P Reached) → rest exit n ≡ Some o → more exit n ≡ Some o) → (o : Outcome P Reached) →
    after_exit choice memories turns rest ≡ Some o → after_exit choice memories turns more ≡ Some o
exit-more (Err fault) memories turns rest more h o e = e
exit-more (Ok None) memories turns rest more h o e = e
exit-more (Ok (Some exit)) memories turns rest more h o e = spend-more exit.marked turns (rest exit) (more exit) (h exit) o e

then-more : {P : Type 0} (coming : Coming P) (rest more : Memories → ℕ → Coming P) → ((memories : Memories) (n : ℕ) (o : Outcome P Reached) → rest memories n ≡ Some o → more memories n ≡ Some o) → (o : Outcome P Reached) → and_then coming rest ≡ Some o → and_then coming more ≡ Some o
then-more (Some (Done now)) rest more h o e = h now.memories now.turns o e
then-more (Some (Faulted fault)) rest more h o e = e
then-more (Some Spent) rest more h o e = e
then-more None rest more h o e = e

one-more : {P : Type 0} (most : ℕ) (run : ℕ → Values → Memories → ℕ → Coming P) (exits : ℕ → Values → List (Exit P)) (state : ℕ) (values : Values) (memories : Memories) (turns : ℕ) (o : Outcome P Reached) →
    big_states most run exits state values memories turns ≡ Some o → big_states (suc most) run exits state values memories turns ≡ Some o
one-more zero run exits state values memories turns o e = cc
one-more {P} (suc most) run exits state values memories turns o e =
    exit-more (first_exit (exits state values) memories) memories turns _ _
    (λ exit n o e. then-more (run exit.state exit.values memories n) _ _ (one-more most run exits exit.state exit.values) o e) o e

-- ---- a state alone

-- the work of a state, as that of a graph which has no other
abbrev pub alone : {P : Type 0} → Term P → Memory → Term P
alone part own = nested (λ state values. part) (λ state values. []) own 0 [] part

and_reached : {P : Type 0} (coming : Coming P) → and_then coming (λ memories turns. reached memories turns) ≡ coming
and_reached (Some (Done now)) = refl
and_reached (Some (Faulted fault)) = refl
and_reached (Some Spent) = refl
and_reached None = refl

alone-is : {P : Type 0} (part : Term P) (own : Memory) (k turns : ℕ) → big_run (alone part own) (suc k) turns ≡ left_by (big_step part (suc k) (own ∷ []) turns)
alone-is part own k turns = ap left_by (and_reached (big_step part (suc k) (own ∷ []) turns))

-- one memory stays one
one-left : (memories : Memories) (own : Memory) → stack_shape memories ≡ stack_shape (own ∷ []) → memories ≡ innermost memories ∷ []
one-left [] own e = cc
one-left (memory ∷ []) own e = refl
one-left (memory ∷ (other ∷ memories)) own e = cc

-- ---- runs of a graph

-- all runs of a graph, from the begin of a state, end and are those from left to right
pub record AllEnd {P : Type 0} (body : ℕ → Values → Term P) (exits : ℕ → Values → List (Exit P)) : Type 0 where
  pub ordered : (state : ℕ) (values : Values) (own : Memory) → IsOrdered (run_at body exits state values own)
  pub pools : (state : ℕ) (values : Values) (own : Memory) → HasOrderedPools 0 (run_at body exits state values own)
  pub pays : (state : ℕ) (values : Values) (own : Memory) → PaysCycles (run_at body exits state values own)
  pub new : (state : ℕ) (values : Values) (own : Memory) → UnfoldsNew (run_at body exits state values own)

-- a part of a state's own does as the state, and its runs alone are those from left to right
pub record IsState {P : Type 0} (term part : Term P) : Type 0 where
  pub same : (most : ℕ) (memories : Memories) (turns : ℕ) → big_step term most memories turns ≡ big_step part most memories turns
  pub ordered : (own : Memory) → IsOrdered (alone part own)
  pub pools : (own : Memory) → HasOrderedPools 0 (alone part own)

-- a turn is paid where one is wanted
abbrev pub Paid : (marked : Bool) → (turns left : ℕ) → Type 0
Paid true turns left = turns ≡ suc left
Paid false turns left = turns ≡ left

-- ---- one state

-- what a run comes to whose state came to this
abbrev pub left_came : {P : Type 0} → Outcome P Reached → Outcome P Left
left_came (Done now) = Done (record { memory = innermost now.memories; turns = now.turns })
left_came (Faulted fault) = Faulted fault
left_came Spent = Spent

by-came : {P : Type 0} (came : Outcome P Reached) → left_by (Some came) ≡ Some (left_came came)
by-came (Done now) = refl
by-came (Faulted fault) = refl
by-came Spent = refl

-- a memory with so many turns
abbrev only : Left → Reached
only left = record { memories = left.memory ∷ []; turns = left.turns }

none-some : {A B : Type 0} {x : A} → None ≡ Some x → B
none-some e = cc

same-some : {A : Type 0} (x y : A) → Some x ≡ Some y → x ≡ y
same-some x y e = cc

done-only : {P : Type 0} (term : Term P) (most : ℕ) (own : Memory) (turns : ℕ) (came : Outcome P Reached) (mid : Left) →
    big_step term most (own ∷ []) turns ≡ Some came → left_came came ≡ Done mid → came ≡ Done (only mid)
done-only {P} term most own turns (Done now) mid comes is =
    let shape : stack_shape now.memories ≡ stack_shape (own ∷ []) = work-shape term most (own ∷ []) turns now.memories now.turns comes in
    let one : now.memories ≡ innermost now.memories ∷ [] = one-left now.memories own shape in
    let memory : innermost now.memories ≡ mid.memory = ap (λ (o : Outcome P Left). memory_in o) is in
    let count : now.turns ≡ mid.turns = ap (λ (o : Outcome P Left). turns_in o) is in
    let memories : now.memories ≡ mid.memory ∷ [] = one ∙ ap (λ m. m ∷ []) memory in
    λ i. Done (record { memories = memories i; turns = count i })
  where
    memory_in : Outcome P Left → Memory
    memory_in (Done left) = left.memory
    memory_in (Faulted fault) = []
    memory_in Spent = []

    turns_in : Outcome P Left → ℕ
    turns_in (Done left) = left.turns
    turns_in (Faulted fault) = 0
    turns_in Spent = 0
done-only term most own turns (Faulted fault) mid comes is = cc
done-only term most own turns Spent mid comes is = cc

-- what a state comes to is what its run alone does
came-alone : {P : Type 0} (term part : Term P) (own : Memory) (most turns : ℕ) (came : Outcome P Reached) → IsState term part →
    big_step term most (own ∷ []) turns ≡ Some came → Sequential (alone part own) turns (left_came came)
came-alone term part own most turns came state comes =
    let more : big_step part (suc most) (own ∷ []) turns ≡ Some came = more-allowed part most (suc most) (own ∷ []) turns came (omega arith) (sym (state.same most (own ∷ []) turns) ∙ comes) in
    big_run-sequential (alone part own) (suc most) turns (left_came came) (state.ordered own) (state.pools own) (alone-is part own most turns ∙ ap left_by more ∙ by-came came)

-- where its run alone is done, so is the state
came-done : {P : Type 0} (term part : Term P) (own : Memory) (most turns : ℕ) (came : Outcome P Reached) (mid : Left) → IsState term part →
    Sequential (alone part own) turns (Done mid) → big_step term most (own ∷ []) turns ≡ Some came → came ≡ Done (only mid)
came-done term part own most turns came mid state done comes =
    done-only term most own turns came mid comes (Run-unique (alone part own) turns [] (left_came came) (Done mid) (came-alone term part own most turns came state comes) done)

came-to : {P : Type 0} (coming : Coming P) (rest : Memories → ℕ → Coming P) (outcome : Outcome P Left) → left_by (and_then coming rest) ≡ Some outcome → (came : Outcome P Reached) × (coming ≡ Some came)
came-to (Some came) rest outcome e = (came, refl)
came-to None rest outcome e = none-some e

module _ {P : Type 0} (body : ℕ → Values → Term P) (exits : ℕ → Values → List (Exit P)) (all : AllEnd body exits) where
  abbrev at : ℕ → Values → Memory → Term P
  at state values own = run_at body exits state values own

  abbrev does : (most : ℕ) → ℕ → Values → Memories → ℕ → Coming P
  does most state values = big_step (body state values) most

  -- a run from a state on has an end
  pub total : (state : ℕ) (values : Values) (own : Memory) (turns : ℕ) → (outcome : Outcome P Left) × Sequential (at state values own) turns outcome × ((most : ℕ) × (big_run (at state values own) most turns ≡ Some outcome))
  total state values own turns =
      let run = run-ends_with_pools (at state values own) turns [] (all.pays state values own) (all.new state values own) in
      (run.0, run.1, sequential-big_run (at state values own) turns run.0 (all.ordered state values own) (all.pools state values own) tt run.1)

  -- from the choice of the exit on
  abbrev onward : (k most : ℕ) → Result (Option (Exit P)) (Fault P) → Left → Coming P
  onward k most choice mid =
      after_exit choice (mid.memory ∷ []) mid.turns (λ exit turns. and_then (does most exit.state exit.values (mid.memory ∷ []) turns) (big_states k (does most) exits exit.state exit.values))

  behind : (state : ℕ) (values : Values) (own : Memory) (turns most : ℕ) (part : Term P) (mid : Left) (outcome : Outcome P Left) → IsState (body state values) part →
      Sequential (alone part own) turns (Done mid) → big_run (at state values own) most turns ≡ Some outcome →
      (k : ℕ) × (left_by (onward k (suc k) (first_exit (exits state values) (mid.memory ∷ [])) mid) ≡ Some outcome)
  behind state values own turns most part mid outcome is done run =
      let came = came-to (does most state values (own ∷ []) turns) (big_states most (does most) exits state values) outcome run in
      let same : came.0 ≡ Done (only mid) = came-done (body state values) part own most turns came.0 mid is done came.1 in
      let here : does most state values (own ∷ []) turns ≡ Some (Done (only mid)) = came.1 ∙ ap Some same in
      let rest : left_by (big_states most (does most) exits state values (mid.memory ∷ []) mid.turns) ≡ Some outcome = ap (λ coming. left_by (and_then coming (big_states most (does most) exits state values))) (sym here) ∙ run in
      open-one most rest
    where
      open-one : (most : ℕ) → left_by (big_states most (does most) exits state values (mid.memory ∷ []) mid.turns) ≡ Some outcome →
          (k : ℕ) × (left_by (onward k (suc k) (first_exit (exits state values) (mid.memory ∷ [])) mid) ≡ Some outcome)
      open-one zero e = none-some e
      open-one (suc k) e = (k, e)

  -- ---- the end of a state

  -- where no exit may be taken the run is done
  pub stage-end : (state : ℕ) (values : Values) (own : Memory) (turns : ℕ) (part : Term P) (mid : Left) → IsState (body state values) part → Sequential (alone part own) turns (Done mid) →
      first_exit (exits state values) (mid.memory ∷ []) ≡ Ok None → Sequential (at state values own) turns (Done mid)
  stage-end state values own turns part mid is done none =
      let t = total state values own turns in
      let b = behind state values own turns t.2.0 part mid t.0 is done t.2.1 in
      let same : Done mid ≡ t.0 = same-some (Done mid) t.0 (ap (λ choice. left_by (onward b.0 (suc b.0) choice mid)) (sym none) ∙ b.1) in
      subst (Sequential (at state values own) turns) (sym same) t.1

  -- where a condition comes to a fault the run is not done
  pub stage-fault : (state : ℕ) (values : Values) (own : Memory) (turns : ℕ) (part : Term P) (mid end : Left) (fault : Fault P) → IsState (body state values) part → Sequential (alone part own) turns (Done mid) →
      first_exit (exits state values) (mid.memory ∷ []) ≡ Err fault → Sequential (at state values own) turns (Done end) → ⊥
  stage-fault state values own turns part mid end fault is done bad whole =
      let t = total state values own turns in
      let b = behind state values own turns t.2.0 part mid t.0 is done t.2.1 in
      let same : Faulted fault ≡ t.0 = same-some (Faulted fault) t.0 (ap (λ choice. left_by (onward b.0 (suc b.0) choice mid)) (sym bad) ∙ b.1) in
      let unique : t.0 ≡ Done end = Run-unique (at state values own) turns [] t.0 (Done end) t.1 whole in
      cc

  -- where a turn is wanted and none is left it is not done
  pub stage-spent : (state : ℕ) (values : Values) (own : Memory) (turns : ℕ) (part : Term P) (mid end : Left) (exit : Exit P) → IsState (body state values) part → Sequential (alone part own) turns (Done mid) →
      first_exit (exits state values) (mid.memory ∷ []) ≡ Ok (Some exit) → exit.marked ≡ true → mid.turns ≡ 0 → Sequential (at state values own) turns (Done end) → ⊥
  stage-spent state values own turns part mid end exit is done taken marked none whole =
      let t = total state values own turns in
      let b = behind state values own turns t.2.0 part mid t.0 is done t.2.1 in
      let rest : ℕ → Coming P = λ left. and_then (does (suc b.0) exit.state exit.values (mid.memory ∷ []) left) (big_states b.0 (does (suc b.0)) exits exit.state exit.values) in
      let same : Spent ≡ t.0 = same-some Spent t.0 (sym (λ i. left_by (spending (marked i) (none i) rest)) ∙ ap (λ choice. left_by (onward b.0 (suc b.0) choice mid)) (sym taken) ∙ b.1) in
      let unique : t.0 ≡ Done end = Run-unique (at state values own) turns [] t.0 (Done end) t.1 whole in
      cc

  -- through an exit it goes on from the next state
  pub stage-on : (state : ℕ) (values : Values) (own : Memory) (turns : ℕ) (part : Term P) (mid : Left) (exit : Exit P) (left : ℕ) (outcome : Outcome P Left) → IsState (body state values) part →
      Sequential (alone part own) turns (Done mid) → first_exit (exits state values) (mid.memory ∷ []) ≡ Ok (Some exit) → Paid exit.marked mid.turns left →
      Sequential (at exit.state exit.values mid.memory) left outcome → Sequential (at state values own) turns outcome
  stage-on state values own turns part mid exit left outcome is done taken paid rest =
      let t = total state values own turns in
      let b = behind state values own turns t.2.0 part mid t.0 is done t.2.1 in
      let k = suc b.0 in
      let further : ℕ → Coming P = λ n. and_then (does k exit.state exit.values (mid.memory ∷ []) n) (big_states b.0 (does k) exits exit.state exit.values) in
      let here : left_by (further left) ≡ Some t.0 = through exit.marked mid.turns left further paid ∙ ap (λ choice. left_by (onward b.0 k choice mid)) (sym taken) ∙ b.1 in
      let more : left_by (and_then (does k exit.state exit.values (mid.memory ∷ []) left) (big_states k (does k) exits exit.state exit.values)) ≡ Some t.0 =
      left-more (further left) (and_then (does k exit.state exit.values (mid.memory ∷ []) left) (big_states k (does k) exits exit.state exit.values)) t.0
      (then-more (does k exit.state exit.values (mid.memory ∷ []) left) _ _ (one-more b.0 (does k) exits exit.state exit.values)) here in
      let run : Sequential (at exit.state exit.values mid.memory) left t.0 =
      big_run-sequential (at exit.state exit.values mid.memory) k left t.0 (all.ordered exit.state exit.values mid.memory) (all.pools exit.state exit.values mid.memory) more in
      let same : t.0 ≡ outcome = Run-unique (at exit.state exit.values mid.memory) left [] t.0 outcome run rest in
      subst (Sequential (at state values own) turns) same t.1
    where
      same-suc : (n m : ℕ) → suc n ≡ suc m → n ≡ m
      same-suc n m e = omega (arith, e)

      through : (marked : Bool) (turns left : ℕ) (further : ℕ → Coming P) → Paid marked turns left → left_by (further left) ≡ left_by (spending marked turns further)
      through true zero left further paid = cc
      through true (suc n) left further paid = ap (λ m. left_by (further m)) (sym (same-suc n left paid))
      through false n left further paid = ap (λ m. left_by (further m)) (sym paid)

      left-more : (coming more : Coming P) (o : Outcome P Left) → ((came : Outcome P Reached) → coming ≡ Some came → more ≡ Some came) → left_by coming ≡ Some o → left_by more ≡ Some o
      left-more (Some came) more o h e = ap left_by (h came refl) ∙ e
      left-more None more o h e = none-some e

  -- where the run is done, so is its state alone
  pub stage-done : (state : ℕ) (values : Values) (own : Memory) (turns : ℕ) (part : Term P) (end : Left) → IsState (body state values) part → Sequential (at state values own) turns (Done end) →
      (mid : Left) × Sequential (alone part own) turns (Done mid)
  stage-done state values own turns part end is whole =
      let big : (most : ℕ) × (big_run (at state values own) most turns ≡ Some (Done end)) = sequential-big_run (at state values own) turns (Done end) (all.ordered state values own) (all.pools state values own) tt whole in
      let came = came-to (does big.0 state values (own ∷ []) turns) (big_states big.0 (does big.0) exits state values) (Done end) big.1 in
      let alone-came = came-alone (body state values) part own big.0 turns came.0 is came.1 in
      on _ came.0 alone-came (ap (λ coming. left_by (and_then coming (big_states big.0 (does big.0) exits state values))) (sym came.1) ∙ big.1)
    where
      on : (rest : Memories → ℕ → Coming P) (came : Outcome P Reached) → Sequential (alone part own) turns (left_came came) → left_by (and_then (Some came) rest) ≡ Some (Done end) → (mid : Left) × Sequential (alone part own) turns (Done mid)
      on rest (Done now) run e = (_, run)
      on rest (Faulted fault) run e = cc
      on rest Spent run e = cc
