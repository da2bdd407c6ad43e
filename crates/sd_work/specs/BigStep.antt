-- What residual work comes to when it is done from left to right, with no word of moves.
use Rattle.std.specs.Prelude.{ℕ, zero, suc, ℤ, List, [], ◌∷◌, ◌++◌, drop, Option, Some, None, Result, Ok, Err, Bool, true, false, not}
use Rattle.sd_work.specs.declared.fault.FaultKind.{FaultKind}
use Rattle.sd_work.specs.declared.fault.FaultKind.TheVariants.{Subscript}
use Rattle.sd_work.specs.Memory.{Memories, Reference, seen, waiting}
use Rattle.sd_work.specs.Change.{take, apply}
use Rattle.sd_work.specs.Leaf.{Pending, Evaluation, Leaf, reading, doing}
use Rattle.sd_work.specs.Move.{Fault, fault_at, Move, fails, goes, no_move}
use Rattle.sd_work.specs.LeafMove.{do_move}
use Rattle.sd_work.specs.Exit.{Values, Exit, first_exit}
use Rattle.sd_work.specs.Residual.{Term, leaf, list, owning, nested, ended, pool, Terms, none, also, Actives, idle, busy}
use Rattle.sd_work.specs.Step.{Outcome, Done, Faulted, Spent, spend}

-- the memories and the turns when the work is done
pub record Reached : Type 0 where
  pub memories : Memories
  pub turns : ℕ

-- how the work ends; None where a run of a graph makes more transitions, or a pool more takes, than are allowed
abbrev pub Coming : Type 0 → Type 0
Coming P = Option (Outcome P Reached)

abbrev pub reached : {P : Type 0} → Memories → (turns : ℕ) → Coming P
reached memories turns = Some (Done (record { memories = memories; turns = turns }))

abbrev pub faulted : {P : Type 0} → Fault P → Coming P
faulted fault = Some (Faulted fault)

-- work, and then the rest
abbrev pub and_then : {P : Type 0} → Coming P → (Memories → ℕ → Coming P) → Coming P
and_then (Some (Done now)) rest = rest now.memories now.turns
and_then (Some (Faulted fault)) rest = Some (Faulted fault)
and_then (Some Spent) rest = Some Spent
and_then None rest = None

-- a turn spent, where one is wanted and left, and then the rest
abbrev pub spending : {P : Type 0} → (turn : Bool) → (turns : ℕ) → (ℕ → Coming P) → Coming P
spending turn turns rest = spend (Some Spent) turn turns rest

-- what a move does, and then the rest
abbrev pub after_move : {P A : Type 0} → Move P A → Memories → (turns : ℕ) → (Memories → ℕ → Coming P) → Coming P
after_move (fails turn fault) memories turns rest = spending turn turns (λ turns. faulted fault)
after_move (goes turn change left) memories turns rest = spending turn turns (rest (apply change memories))
after_move no_move memories turns rest = rest memories turns

-- effects, elements of a copy or a reduction, one after another
abbrev pub big_doing : {P : Type 0} → P → List Pending → Memories → (turns : ℕ) → Coming P
big_doing place [] memories turns = reached memories turns
big_doing place (next ∷ left) memories turns = after_move (do_move place next memories left) memories turns (big_doing place left)

-- what an evaluation gave
abbrev pub big_evaluated : {P : Type 0} → P → (turn : Bool) → Result (List Pending) FaultKind → Memories → (turns : ℕ) → Coming P
big_evaluated place turn (Err kind) memories turns = spending turn turns (λ turns. faulted (fault_at place kind))
big_evaluated place turn (Ok effects) memories turns = spending turn turns (big_doing place effects memories)

-- a value that is read, and then the rest
abbrev pub after_read : {P : Type 0} → P → (turn : Bool) → Option ℤ → (turns : ℕ) → (ℤ → ℕ → Coming P) → Coming P
after_read place turn None turns rest = spending turn turns (λ turns. faulted (fault_at place Subscript))
after_read place turn (Some value) turns rest = spending turn turns (rest value)

-- reads one after another, and then the evaluation
abbrev pub big_reading : {P : Type 0} → P → (turn : Bool) → List (Option Reference) → (values : List ℤ) → Evaluation → Memories → (turns : ℕ) → Coming P
big_reading place turn [] values evaluation memories turns = big_evaluated place turn (evaluation values) memories turns
big_reading place turn (next ∷ left) values evaluation memories turns =
    after_read place turn (seen next memories) turns (λ value. big_reading place false left (values ++ value ∷ []) evaluation memories)

abbrev pub big_leaf : {P : Type 0} → P → Leaf → Memories → (turns : ℕ) → Coming P
big_leaf place (reading begun left values evaluation) memories turns = big_reading place (not begun) left values evaluation memories turns
big_leaf place (doing left) memories turns = big_doing place left memories turns

-- work inside an owner, whose memory is dropped behind it
abbrev pub leaving : {P : Type 0} → Coming P → Coming P
leaving coming = and_then coming (λ memories turns. reached (drop 1 memories) turns)

-- an exit, and then the rest; the run ends where there is none
abbrev pub after_exit : {P : Type 0} → Result (Option (Exit P)) (Fault P) → Memories → (turns : ℕ) → (Exit P → ℕ → Coming P) → Coming P
after_exit (Err fault) memories turns rest = faulted fault
after_exit (Ok None) memories turns rest = reached memories turns
after_exit (Ok (Some exit)) memories turns rest = spending exit.marked turns (rest exit)

-- the states of a run from the end of one on, with at most so many transitions
abbrev pub big_states : {P : Type 0} → (most : ℕ) → (ℕ → Values → Memories → ℕ → Coming P) → (ℕ → Values → List (Exit P)) → (state : ℕ) → Values → Memories → (turns : ℕ) → Coming P
big_states zero run exits state values memories turns = None
big_states (suc most) run exits state values memories turns =
    after_exit (first_exit (exits state values) memories) memories turns (λ exit turns.
    and_then (run exit.state exit.values memories turns) (big_states most run exits exit.state exit.values))

-- the oldest value, if any, and then the rest
abbrev pub after_oldest : {P : Type 0} → List ℤ → Memories → (turns : ℕ) → (ℤ → Coming P) → Coming P
after_oldest [] memories turns rest = reached memories turns
after_oldest (value ∷ values) memories turns rest = rest value

-- the values of a stream one after another, the oldest first, until it is empty, with at most so many takes
abbrev pub big_takes : {P : Type 0} → (most : ℕ) → (level container : ℕ) → (ℤ → Memories → ℕ → Coming P) → Memories → (turns : ℕ) → Coming P
big_takes zero level container run memories turns = None
big_takes (suc most) level container run memories turns =
    after_oldest (waiting level container memories) memories turns (λ value.
    and_then (run value (apply (take level container 0) memories) turns) (big_takes most level container run))

-- the work of a term; each run of a graph makes at most so many transitions, and each pool so many takes
abbrev mutual
  pub big_step : {P : Type 0} → Term P → (most : ℕ) → Memories → (turns : ℕ) → Coming P
  big_step (leaf place work) most memories turns = big_leaf place work memories turns
  big_step (list kind before parts) most memories turns = big_parts parts most memories turns
  big_step (owning own part) most memories turns = leaving (big_step part most (own ∷ memories) turns)
  big_step (nested body exits own state values part) most memories turns =
      leaving (and_then (big_step part most (own ∷ memories) turns) (big_states most (λ state values. big_step (body state values) most) exits state values))
  big_step (ended own) most memories turns = reached memories turns
  big_step (pool level container body active true) most memories turns = reached memories turns
  big_step (pool level container body active false) most memories turns =
      and_then (big_active active most memories turns) (big_takes most level container (λ value. big_step (body value) most))

  pub big_parts : {P : Type 0} → Terms P → (most : ℕ) → Memories → (turns : ℕ) → Coming P
  big_parts none most memories turns = reached memories turns
  big_parts (also part parts) most memories turns = and_then (big_step part most memories turns) (big_parts parts most)

  pub big_active : {P : Type 0} → Actives P → (most : ℕ) → Memories → (turns : ℕ) → Coming P
  big_active idle most memories turns = reached memories turns
  big_active (busy value part active) most memories turns = and_then (big_step part most memories turns) (big_active active most)
