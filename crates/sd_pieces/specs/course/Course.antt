-- What residual work reads and changes, in order, when it is done from left to right.
use Rattle.std.specs.Prelude.{ℕ, zero, suc, ℤ, List, [], ◌∷◌, ◌++◌, map, Option, Some, None, Result, Ok, Err, Bool, true, false, not, ◌+◌, ⊤}
use Rattle.sd_work.specs.declared.fault.FaultKind.{FaultKind}
use Rattle.sd_work.specs.declared.fault.FaultKind.TheVariants.{Subscript}
use Rattle.sd_work.specs.Memory.{Memories, Reference, seen, waiting}
use Rattle.sd_work.specs.Change.{Change, take, apply, outer}
use Rattle.sd_work.specs.Leaf.{Pending, write_value, transfer, push_to, Evaluation, Leaf, reading, doing}
use Rattle.sd_work.specs.Move.{Fault, fault_at, Move, fails, goes, no_move}
use Rattle.sd_work.specs.LeafMove.{do_move}
use Rattle.sd_work.specs.Exit.{Values, Guard, Exit, passed, first_exit}
use Rattle.sd_work.specs.Residual.{Term, leaf, list, owning, nested, ended, pool, Terms, none, also, Actives, idle, busy}
use Rattle.sd_work.specs.Step.{Outcome, Done, Faulted, Spent, spend}
use Rattle.sd_work.specs.BigStep.{Coming, reached}
use Rattle.sd_pieces.specs.course.Reading.{Reading, reads_element, reads_stream, apply_all, outer_readings}

-- what is read and what is changed, each in order, and the end: with so many turns left, by a fault, without a turn, or None where the bound on transitions and takes is too small
pub record Course (P : Type 0) : Type 0 where
  pub readings : List Reading
  pub changes : List Change
  pub end : Option (Outcome P ℕ)

-- nothing is read or changed, and this is the end
abbrev pub comes_to : {P : Type 0} → Option (Outcome P ℕ) → Course P
comes_to end = record { readings = []; changes = []; end = end }

-- nothing is read or changed, and so many turns are left
abbrev pub rests : {P : Type 0} → (turns : ℕ) → Course P
rests turns = comes_to (Some (Done turns))

-- nothing is read or changed, and this fault is the end
abbrev pub fails_by : {P : Type 0} → Fault P → Course P
fails_by fault = comes_to (Some (Faulted fault))

-- this is read and changed before
abbrev pub after : {P : Type 0} → List Reading → List Change → Course P → Course P
after readings changes course = record { readings = readings ++ course.readings; changes = changes ++ course.changes; end = course.end }

-- what was read and changed, and then the rest where the end lets it go on
abbrev pub and_rest : {P : Type 0} → List Reading → List Change → Option (Outcome P ℕ) → (ℕ → Course P) → Course P
and_rest readings changes (Some (Done turns)) rest = after readings changes (rest turns)
and_rest readings changes (Some (Faulted fault)) rest = record { readings = readings; changes = changes; end = Some (Faulted fault) }
and_rest readings changes (Some Spent) rest = record { readings = readings; changes = changes; end = Some Spent }
and_rest readings changes None rest = record { readings = readings; changes = changes; end = None }

-- work that begins at these memories, and then the rest
abbrev pub and_on : {P : Type 0} → Course P → Memories → (Memories → ℕ → Course P) → Course P
and_on course memories rest = and_rest course.readings course.changes course.end (rest (apply_all course.changes memories))

-- a turn spent, where one is wanted and left, and then the rest
abbrev pub paying : {P : Type 0} → (turn : Bool) → (turns : ℕ) → (ℕ → Course P) → Course P
paying turn turns rest = spend (comes_to (Some Spent)) turn turns rest

-- an access that is not inside reads nothing
abbrev pub read_at : Option Reference → List Reading
read_at None = []
read_at (Some from) = reads_element from ∷ []

-- what the next thing to do reads
abbrev pub pending_reads : Pending → List Reading
pending_reads (write_value value to by) = []
pending_reads (transfer from to by) = read_at from
pending_reads (push_to level container value) = []

-- what a move does, and then the rest
abbrev pub on_move : {P A : Type 0} → Move P A → Memories → (turns : ℕ) → (Memories → ℕ → Course P) → Course P
on_move (fails turn fault) memories turns rest = paying turn turns (λ turns. fails_by fault)
on_move (goes turn change left) memories turns rest = paying turn turns (λ turns. after [] (change ∷ []) (rest (apply change memories) turns))
on_move no_move memories turns rest = rest memories turns

-- effects, elements of a copy or a reduction, one after another
abbrev pub doing_course : {P : Type 0} → P → List Pending → Memories → (turns : ℕ) → Course P
doing_course place [] memories turns = rests turns
doing_course place (next ∷ left) memories turns =
    after (pending_reads next) [] (on_move (do_move place next memories left) memories turns (doing_course place left))

-- what an evaluation gave
abbrev pub evaluated_course : {P : Type 0} → P → (turn : Bool) → Result (List Pending) FaultKind → Memories → (turns : ℕ) → Course P
evaluated_course place turn (Err kind) memories turns = paying turn turns (λ turns. fails_by (fault_at place kind))
evaluated_course place turn (Ok effects) memories turns = paying turn turns (doing_course place effects memories)

-- a value that was read, and then the rest
abbrev pub on_value : {P : Type 0} → P → Option ℤ → (ℤ → Course P) → Course P
on_value place None rest = fails_by (fault_at place Subscript)
on_value place (Some value) rest = rest value

-- reads one after another, and then the evaluation; the turn goes before the first of them
abbrev pub reading_course : {P : Type 0} → P → (turn : Bool) → List (Option Reference) → (values : List ℤ) → Evaluation → Memories → (turns : ℕ) → Course P
reading_course place turn [] values evaluation memories turns = evaluated_course place turn (evaluation values) memories turns
reading_course place turn (next ∷ left) values evaluation memories turns = paying turn turns (λ turns.
    after (read_at next) [] (on_value place (seen next memories) (λ value. reading_course place false left (values ++ value ∷ []) evaluation memories turns)))

-- what a leaf has left to do: reads and an evaluation, or its effects
abbrev pub leaf_course : {P : Type 0} → P → Leaf → Memories → (turns : ℕ) → Course P
leaf_course place (reading begun left values evaluation) memories turns = reading_course place (not begun) left values evaluation memories turns
leaf_course place (doing left) memories turns = doing_course place left memories turns

-- work inside an owner, as it is seen from outside
abbrev pub outside : {P : Type 0} → Course P → Course P
outside course = record { readings = outer_readings course.readings; changes = map outer course.changes; end = course.end }

-- what a condition reads: its elements up to the first that is not inside
abbrev pub reads_up_to : List (Option Reference) → List Reading
reads_up_to [] = []
reads_up_to (None ∷ reads) = []
reads_up_to (Some from ∷ reads) = reads_element from ∷ reads_up_to reads

-- what the condition of an exit reads, if it has one
abbrev pub guard_reads : {P : Type 0} → Option (Guard P) → List Reading
guard_reads None = []
guard_reads (Some guard) = reads_up_to guard.reads

-- later conditions are asked where this one does not hold
abbrev pub unless_passed : {P : Type 0} → Result Bool (Fault P) → List Reading → List Reading
unless_passed (Err fault) later = []
unless_passed (Ok true) later = []
unless_passed (Ok false) later = later

-- what the conditions read until one holds
abbrev pub exits_read : {P : Type 0} → List (Exit P) → Memories → List Reading
exits_read [] memories = []
exits_read (exit ∷ exits) memories = guard_reads exit.when ++ unless_passed (passed exit.when memories) (exits_read exits memories)

-- an exit, and then the rest; the run ends where there is none
abbrev pub on_exit : {P : Type 0} → Result (Option (Exit P)) (Fault P) → (turns : ℕ) → (Exit P → ℕ → Course P) → Course P
on_exit (Err fault) turns rest = fails_by fault
on_exit (Ok None) turns rest = rests turns
on_exit (Ok (Some exit)) turns rest = paying exit.marked turns (rest exit)

-- the states of a run from the end of one on, with at most so many transitions
abbrev pub states_course : {P : Type 0} → (most : ℕ) → (ℕ → Values → Memories → ℕ → Course P) → (ℕ → Values → List (Exit P)) → (state : ℕ) → Values → Memories → (turns : ℕ) → Course P
states_course zero run exits state values memories turns = comes_to None
states_course (suc most) run exits state values memories turns =
    after (exits_read (exits state values) memories) [] (on_exit (first_exit (exits state values) memories) turns (λ exit turns.
    and_on (run exit.state exit.values memories turns) memories (states_course most run exits exit.state exit.values)))

-- the oldest value, if any, and then the rest
abbrev pub on_oldest : {P : Type 0} → List ℤ → (turns : ℕ) → (ℤ → Course P) → Course P
on_oldest [] turns rest = rests turns
on_oldest (value ∷ values) turns rest = rest value

-- the values of a stream one after another until it is empty, with at most so many takes
abbrev pub takes_course : {P : Type 0} → (most : ℕ) → (level container : ℕ) → (ℤ → Memories → ℕ → Course P) → Memories → (turns : ℕ) → Course P
takes_course zero level container run memories turns = comes_to None
takes_course (suc most) level container run memories turns =
    after (reads_stream level container ∷ []) [] (on_oldest (waiting level container memories) turns (λ value.
    after [] (take level container 0 ∷ []) (and_on (run value (apply (take level container 0) memories) turns) (apply (take level container 0) memories) (takes_course most level container run))))

-- the course of a term's work; each run of a graph makes at most so many transitions, and each pool so many takes
abbrev mutual
  pub course : {P : Type 0} → Term P → (most : ℕ) → Memories → (turns : ℕ) → Course P
  course (leaf place work) most memories turns = leaf_course place work memories turns
  course (list kind before parts) most memories turns = parts_course parts most memories turns
  course (owning own part) most memories turns = outside (course part most (own ∷ memories) turns)
  course (nested body exits own state values part) most memories turns =
      outside (and_on (course part most (own ∷ memories) turns) (own ∷ memories) (states_course most (λ state values. course (body state values) most) exits state values))
  course (ended own) most memories turns = rests turns
  course (pool level container body active true) most memories turns = rests turns
  course (pool level container body active false) most memories turns =
      and_on (active_course active most memories turns) memories (takes_course most level container (λ value. course (body value) most))

  -- parts, one after another
  pub parts_course : {P : Type 0} → Terms P → (most : ℕ) → Memories → (turns : ℕ) → Course P
  parts_course none most memories turns = rests turns
  parts_course (also part parts) most memories turns = and_on (course part most memories turns) memories (parts_course parts most)

  -- the active terms of a pool, one after another
  pub active_course : {P : Type 0} → Actives P → (most : ℕ) → Memories → (turns : ℕ) → Course P
  active_course idle most memories turns = rests turns
  active_course (busy value part active) most memories turns = and_on (course part most memories turns) memories (active_course active most)

-- what work comes to that ends so, with these memories behind it
abbrev pub told_end : {P : Type 0} → Option (Outcome P ℕ) → Memories → Coming P
told_end (Some (Done turns)) memories = reached memories turns
told_end (Some (Faulted fault)) memories = Some (Faulted fault)
told_end (Some Spent) memories = Some Spent
told_end None memories = None

-- what work of this course comes to from these memories
abbrev pub told : {P : Type 0} → Course P → Memories → Coming P
told course memories = told_end course.end (apply_all course.changes memories)

-- more turns are left at an end that leaves turns
abbrev pub with_more : {P : Type 0} → (more : ℕ) → Option (Outcome P ℕ) → Option (Outcome P ℕ)
with_more more (Some (Done turns)) = Some (Done (turns + more))
with_more more (Some (Faulted fault)) = Some (Faulted fault)
with_more more (Some Spent) = Some Spent
with_more more None = None

-- the same course with more turns left
abbrev pub spare : {P : Type 0} → (more : ℕ) → Course P → Course P
spare more course = record { readings = course.readings; changes = course.changes; end = with_more more course.end }

-- the turns were enough
abbrev pub HasTurns : {P : Type 0} → Option (Outcome P ℕ) → Type 0
HasTurns (Some (Done turns)) = ⊤
HasTurns (Some (Faulted fault)) = ⊤
HasTurns (Some Spent) = ⊥
HasTurns None = ⊤

-- the same readings and changes, with these turns left
abbrev pub with_left : {P : Type 0} → Course P → (left : ℕ) → Course P
with_left course left = record { readings = course.readings; changes = course.changes; end = Some (Done left) }
