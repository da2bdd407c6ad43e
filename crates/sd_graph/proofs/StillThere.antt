-- What is there stays there: changes keep it, and so each step leaves work that touches what is there.
use Rattle.std.proofs.Common.{◌≡◌, inl, inr, ℕ, zero, suc, ◌<◌, ℤ, List, [], ◌∷◌, ◌++◌, length, drop, Option, Some, None, Result, Ok, Err, Bool, true, false, cond, slice_get, refl, ap, sym, subst, arith}
use Rattle.std.specs.Bool.{⊤}
use Rattle.std.specs.List.{AllByRecursion}
use Rattle.sd_num.specs.declared.width.Width.{Width}
use Rattle.sd_num.specs.declared.resolution.Resolution.{Resolution}
use Rattle.sd_work.specs.declared.fault.FaultKind.{FaultKind}
use Rattle.sd_work.specs.Memory.{Contents, array, stream, Memory, Memories, Reference, seen, waiting}
use Rattle.sd_work.specs.Change.{Change, nothing, write, push, take, written, changed_at, appended, without, with_elements, with_values, innermost, own_after}
use Rattle.sd_work.specs.Leaf.{Pending, write_value, transfer, push_to, Leaf, reading, doing}
use Rattle.sd_work.specs.LeafMove.{leaf_move, write_move, do_move, read_move, evaluation_move}
use Rattle.sd_work.specs.Exit.{Values, Exit, first_exit}
use Rattle.sd_work.specs.Move.{Fault, Move, fails, goes, no_move, map_move}
use Rattle.sd_work.specs.Moves.{Path}
use Rattle.sd_work.specs.Fire.{owned, transition, and_last, take_move, fire, fire_part, fire_active}
use Rattle.sd_work.specs.Residual.{Parts, Term, leaf, list, owning, nested, ended, pool, Terms, none, also, Actives, idle, busy, finished}
use Rattle.sd_work.specs.Settle.{settle, settle_parts, settle_active, settled}
use Rattle.sd_work.specs.Step.{Machine, Outcome, Done, Faulted, Spent, opening, next_moves, spend, moved, step}
use Rattle.sd_work.specs.Run.{Choice, chosen, choices, choices_by, choices_on}
use Rattle.sd_work.specs.Touch.{Touch, reads, writes, pushes, takes, LeafTouches, SomeExitTouches}
use Rattle.sd_graph.specs.There.{Holds, IsElementThere, IsStreamThere, IsThere, TouchesWhatIsThere, PartsTouchWhatIsThere, ActivesTouchWhatIsThere}

-- ---- contents of one shape

-- two arrays of one width with as many elements, or two streams of one width
abbrev IsAlikeShaped : Contents → Contents → Type 0
IsAlikeShaped (array width elements) (array other others) = (width ≡ other) × (length elements ≡ length others)
IsAlikeShaped (array width elements) (stream other values) = ⊥
IsAlikeShaped (stream width values) (array other elements) = ⊥
IsAlikeShaped (stream width values) (stream other others) = width ≡ other

one_shape : (contents : Contents) → IsAlikeShaped contents contents
one_shape (array width elements) = (refl, refl)
one_shape (stream width values) = refl

changed_length : {A : Type 0} (number : ℕ) (change : A → A) (members : List A) → length members ≡ length (changed_at number change members)
changed_length number change [] = refl
changed_length zero change (member ∷ members) = refl
changed_length (suc number) change (member ∷ members) = ap suc (changed_length number change members)

elements_shape : (number : ℕ) (change : Width → ℤ → ℤ) (contents : Contents) → IsAlikeShaped contents (with_elements (λ width. changed_at number (change width)) contents)
elements_shape number change (array width elements) = (refl, changed_length number (change width) elements)
elements_shape number change (stream width values) = refl

values_shape : (change : Width → List ℤ → List ℤ) (contents : Contents) → IsAlikeShaped contents (with_values change contents)
values_shape change (array width elements) = (refl, refl)
values_shape change (stream width values) = refl

-- ---- stacks that keep what is there

-- the container holds contents of the same shape
record StillHolds (memories : Memories) (level container : ℕ) (contents : Contents) : Type 0 where
  now : Contents
  held : Holds memories level container now
  shape : IsAlikeShaped contents now

abbrev Keeps : (memories later : Memories) → Type 0
Keeps memories later = (level container : ℕ) (contents : Contents) → Holds memories level container contents → StillHolds later level container contents

element_kept : (later : Memories) (reference : Reference) (width : Width) (elements : List ℤ) (now : Contents) → Holds later reference.level reference.container now → IsAlikeShaped (array width elements) now →
    reference.element < length elements → IsElementThere later reference
element_kept later reference width elements (array other others) held shape within = record { width = other; elements = others; held = held; within = omega (arith, shape.1, within) }
element_kept later reference width elements (stream other values) held shape within = elim shape [ ]

stream_kept : (later : Memories) (level container : ℕ) (width : Width) (values : List ℤ) (now : Contents) → Holds later level container now → IsAlikeShaped (stream width values) now → IsStreamThere later level container
stream_kept later level container width values (array other elements) held shape = elim shape [ ]
stream_kept later level container width values (stream other others) held shape = record { width = other; values = others; held = held }

element_still : (memories later : Memories) (reference : Reference) → Keeps memories later → IsElementThere memories reference → IsElementThere later reference
element_still memories later reference keeps there =
    let still : StillHolds later reference.level reference.container (array there.width there.elements) = keeps reference.level reference.container (array there.width there.elements) there.held in
    element_kept later reference there.width there.elements still.now still.held still.shape there.within

stream_still : (memories later : Memories) (level container : ℕ) → Keeps memories later → IsStreamThere memories level container → IsStreamThere later level container
stream_still memories later level container keeps there =
    let still : StillHolds later level container (stream there.width there.values) = keeps level container (stream there.width there.values) there.held in
    stream_kept later level container there.width there.values still.now still.held still.shape

touch_still : (memories later : Memories) (touch : Touch) → Keeps memories later → IsThere memories touch → IsThere later touch
touch_still memories later (reads from) keeps there = element_still memories later from keeps there
touch_still memories later (writes to by) keeps there = element_still memories later to keeps there
touch_still memories later (pushes level container) keeps there = stream_still memories later level container keeps there
touch_still memories later (takes level container) keeps there = stream_still memories later level container keeps there

-- under one more memory
keeps_under : (own : Memory) (memories later : Memories) → Keeps memories later → Keeps (own ∷ memories) (own ∷ later)
keeps_under own memories later keeps zero container contents holds =
    record { now = contents; held = record { memory = holds.memory; on_stack = holds.on_stack; in_memory = holds.in_memory }; shape = one_shape contents }
keeps_under own memories later keeps (suc level) container contents holds =
    let still : StillHolds later level container contents = keeps level container contents (record { memory = holds.memory; on_stack = holds.on_stack; in_memory = holds.in_memory }) in
    record { now = still.now; held = record { memory = still.held.memory; on_stack = still.held.on_stack; in_memory = still.held.in_memory }; shape = still.shape }

-- ---- changes

-- one memory keeps the shapes of another
abbrev KeepsMemory : (own later : Memory) → Type 0
KeepsMemory own later = (container : ℕ) (contents : Contents) → slice_get own container ≡ Some contents →
    (now : Contents) × (slice_get later container ≡ Some now) × IsAlikeShaped contents now

same_memory : (own : Memory) → KeepsMemory own own
same_memory own = λ container contents e. (contents, e, one_shape contents)

changed_memory : (number : ℕ) (change : Contents → Contents) → ((contents : Contents) → IsAlikeShaped contents (change contents)) → (own : Memory) → KeepsMemory own (changed_at number change own)
changed_memory number change alike [] container contents e = cc
changed_memory zero change alike (first ∷ own) zero contents e = (change first, refl, let same : first ≡ contents = cc in subst (λ one. IsAlikeShaped one (change first)) same (alike first))
changed_memory zero change alike (first ∷ own) (suc container) contents e = (contents, e, one_shape contents)
changed_memory (suc number) change alike (first ∷ own) zero contents e = (contents, e, one_shape contents)
changed_memory (suc number) change alike (first ∷ own) (suc container) contents e = changed_memory number change alike own container contents e

some_same : {A : Type 0} (first second : A) → Some first ≡ Some second → first ≡ second
some_same first second e = cc

-- what a change of a container of the stack leaves of the innermost memory
abbrev own_after_at : (level container : ℕ) → (Contents → Contents) → Memory → Memory
own_after_at level container change own = innermost (changed_at level (changed_at container change) (own ∷ []))

write_kept : (level container element : ℕ) (change : Width → ℤ → ℤ) (own : Memory) → KeepsMemory own (own_after_at level container (with_elements (λ width. changed_at element (change width))) own)
write_kept zero container element change own = changed_memory container (with_elements (λ width. changed_at element (change width))) (elements_shape element change) own
write_kept (suc level) container element change own = same_memory own

values_kept : (level container : ℕ) (change : Width → List ℤ → List ℤ) (own : Memory) → KeepsMemory own (own_after_at level container (with_values change) own)
values_kept zero container change own = changed_memory container (with_values change) (values_shape change) own
values_kept (suc level) container change own = same_memory own

own_kept : (change : Change) (own : Memory) → KeepsMemory own (own_after change own)
own_kept nothing own = same_memory own
own_kept (write to by value) own = write_kept to.level to.container to.element (λ width. written width by value) own
own_kept (push level container value) own = values_kept level container (appended value) own
own_kept (take level container position) own = values_kept level container (λ width. without position) own

keeps_first : (own later : Memory) (memories : Memories) → KeepsMemory own later → Keeps (own ∷ memories) (later ∷ memories)
keeps_first own later memories keeps zero container contents holds =
    let mine : own ≡ holds.memory = some_same own holds.memory holds.on_stack in
    let still : (now : Contents) × (slice_get later container ≡ Some now) × IsAlikeShaped contents now = keeps container contents (subst (λ memory. slice_get memory container ≡ Some contents) (sym mine) holds.in_memory) in
    record { now = still.0; held = record { memory = later; on_stack = refl; in_memory = still.1 }; shape = still.2 }
keeps_first own later memories keeps (suc level) container contents holds =
    record { now = contents; held = record { memory = holds.memory; on_stack = holds.on_stack; in_memory = holds.in_memory }; shape = one_shape contents }

-- a change inside an owner
keeps_own : (change : Change) (own : Memory) (memories : Memories) → Keeps (own ∷ memories) (own_after change own ∷ memories)
keeps_own change own memories = keeps_first own (own_after change own) memories (own_kept change own)

-- ---- work over a stack that keeps what is there

mutual
  still_there : {P : Type 0} (term : Term P) (memories later : Memories) → Keeps memories later → TouchesWhatIsThere memories term → TouchesWhatIsThere later term
  still_there (leaf place work) memories later keeps there = λ touch touched. touch_still memories later touch keeps (there touch touched)
  still_there (list kind before parts) memories later keeps there = parts_still_there parts memories later keeps there
  still_there (owning own part) memories later keeps there = still_there part (own ∷ memories) (own ∷ later) (keeps_under own memories later keeps) there
  still_there (nested body exits own state values part) memories later keeps there = (
    still_there part (own ∷ memories) (own ∷ later) (keeps_under own memories later keeps) there.0,
    λ state values. still_there (body state values) (own ∷ memories) (own ∷ later) (keeps_under own memories later keeps) (there.1 state values),
    λ state values touch touched. touch_still (own ∷ memories) (own ∷ later) touch (keeps_under own memories later keeps) (there.2 state values touch touched),
  )
  still_there (ended own) memories later keeps there = tt
  still_there (pool level container body active closed) memories later keeps there = (
    stream_still memories later level container keeps there.0,
    actives_still_there active memories later keeps there.1,
    λ value. still_there (body value) memories later keeps (there.2 value),
  )

  parts_still_there : {P : Type 0} (parts : Terms P) (memories later : Memories) → Keeps memories later → PartsTouchWhatIsThere memories parts → PartsTouchWhatIsThere later parts
  parts_still_there none memories later keeps there = tt
  parts_still_there (also part parts) memories later keeps there = (still_there part memories later keeps there.0, parts_still_there parts memories later keeps there.1)

  actives_still_there : {P : Type 0} (active : Actives P) (memories later : Memories) → Keeps memories later → ActivesTouchWhatIsThere memories active → ActivesTouchWhatIsThere later active
  actives_still_there idle memories later keeps there = tt
  actives_still_there (busy value part active) memories later keeps there = (still_there part memories later keeps there.0, actives_still_there active memories later keeps there.1)

-- ---- moves

-- what a move leaves has this
abbrev Leaves : {P A : Type 0} → (A → Type 0) → Move P A → Type 0
Leaves Q (fails turn fault) = ⊤
Leaves Q (goes turn change left) = Q left
Leaves Q no_move = ⊤

leaves_whole : {P A B : Type 0} (Q : A → Type 0) (R : B → Type 0) (whole : A → B) (move : Move P A) → ((left : A) → Q left → R (whole left)) → Leaves Q move → Leaves R (map_move whole move)
leaves_whole Q R whole (fails turn fault) on h = tt
leaves_whole Q R whole (goes turn change left) on h = on left h
leaves_whole Q R whole no_move on h = tt

abbrev LeafTouchesThere : Memories → Leaf → Type 0
LeafTouchesThere memories work = (touch : Touch) → LeafTouches work touch → IsThere memories touch

read_leaves : {P : Type 0} (place : P) (turn : Bool) (value : Option ℤ) (left : List (Option Reference)) (values : List ℤ) (evaluation : List ℤ → Result (List Pending) FaultKind) (memories : Memories) →
    LeafTouchesThere memories (reading true left [] evaluation) → Leaves (LeafTouchesThere memories) (read_move place turn value left values evaluation)
read_leaves place turn None left values evaluation memories there = tt
read_leaves place turn (Some value) left values evaluation memories there = there

evaluation_leaves : {P : Type 0} (place : P) (turn : Bool) (result : Result (List Pending) FaultKind) (memories : Memories) → ((effects : List Pending) → result ≡ Ok effects → LeafTouchesThere memories (doing effects)) →
    Leaves (LeafTouchesThere memories) (evaluation_move place turn result)
evaluation_leaves place turn (Err kind) memories there = tt
evaluation_leaves place turn (Ok effects) memories there = there effects refl

write_leaves : {P : Type 0} (place : P) (value : Option ℤ) (to : Option Reference) (by : Option Resolution) (left : List Pending) (memories : Memories) → LeafTouchesThere memories (doing left) →
    Leaves (LeafTouchesThere memories) (write_move place value to by left)
write_leaves place None to by left memories there = tt
write_leaves place (Some value) None by left memories there = tt
write_leaves place (Some value) (Some to) by left memories there = there

do_leaves : {P : Type 0} (place : P) (next : Pending) (left : List Pending) (memories : Memories) → LeafTouchesThere memories (doing left) → Leaves (LeafTouchesThere memories) (do_move place next memories left)
do_leaves place (write_value value to by) left memories there = write_leaves place (Some value) to by left memories there
do_leaves place (transfer from to by) left memories there = write_leaves place (seen from memories) to by left memories there
do_leaves place (push_to level container value) left memories there = there

leaf_leaves : {P : Type 0} (place : P) (work : Leaf) (memories : Memories) → LeafTouchesThere memories work → Leaves (LeafTouchesThere memories) (leaf_move place work memories)
leaf_leaves place (reading begun [] values evaluation) memories there =
    evaluation_leaves place _ (evaluation values) memories (λ effects e touch touched. there touch (inr (values, effects, e, touched)))
leaf_leaves place (reading begun (next ∷ left) values evaluation) memories there =
    read_leaves place _ (seen next memories) left values evaluation memories (λ touch touched. elim touched [ inl here ↦ there touch (inl (inr here)) | inr later ↦ there touch (inr later) ])
leaf_leaves place (doing []) memories there = tt
leaf_leaves place (doing (next ∷ left)) memories there = do_leaves place next left memories (λ touch touched. there touch (inr touched))

owned_leaves : {P : Type 0} (whole : Memory → Term P → Term P) (own : Memory) (move : Move P (Term P)) (memories : Memories) →
    ((later : Memory) (left : Term P) → Keeps (own ∷ memories) (later ∷ memories) → TouchesWhatIsThere (own ∷ memories) left → TouchesWhatIsThere memories (whole later left)) →
    Leaves (TouchesWhatIsThere (own ∷ memories)) move → Leaves (TouchesWhatIsThere memories) (owned whole own move)
owned_leaves whole own (fails turn fault) memories on h = tt
owned_leaves whole own (goes turn change left) memories on h = on (own_after change own) left (keeps_own change own memories) h
owned_leaves whole own no_move memories on h = tt

transition_leaves : {P : Type 0} (body : ℕ → Values → Term P) (exits : ℕ → Values → List (Exit P)) (own : Memory) (taken : Result (Option (Exit P)) (Fault P)) (memories : Memories) →
    ((state : ℕ) (values : Values) → TouchesWhatIsThere (own ∷ memories) (body state values)) →
    ((state : ℕ) (values : Values) (touch : Touch) → SomeExitTouches (exits state values) touch → IsThere (own ∷ memories) touch) →
    Leaves (TouchesWhatIsThere memories) (transition body exits own taken)
transition_leaves body exits own (Err fault) memories states conditions = tt
transition_leaves body exits own (Ok None) memories states conditions = tt
transition_leaves body exits own (Ok (Some exit)) memories states conditions = (states exit.state exit.values, states, conditions)

either_leaves : {P A : Type 0} (Q : A → Type 0) (test : Bool) (first second : Move P A) → Leaves Q first → Leaves Q second → Leaves Q (cond test first second)
either_leaves Q true first second one other = one
either_leaves Q false first second one other = other

one_more_there : {P : Type 0} (active : Actives P) (value : ℤ) (part : Term P) (memories : Memories) → ActivesTouchWhatIsThere memories active → TouchesWhatIsThere memories part →
    ActivesTouchWhatIsThere memories (and_last active value part)
one_more_there idle value part memories there this = (this, tt)
one_more_there (busy first other active) value part memories there this = (there.0, one_more_there active value part memories there.1 this)

take_leaves : {P : Type 0} (level container : ℕ) (body : ℤ → Term P) (active : Actives P) (closed : Bool) (position : ℕ) (value : Option ℤ) (memories : Memories) →
    TouchesWhatIsThere memories (pool level container body active closed) → Leaves (TouchesWhatIsThere memories) (take_move level container body active closed position value)
take_leaves level container body active closed position None memories there = tt
take_leaves level container body active closed position (Some value) memories there = (there.0, one_more_there active value (body value) memories there.1 (there.2 value), there.2)

mutual
  fire_leaves : {P : Type 0} (term : Term P) (path : Path) (memories : Memories) → TouchesWhatIsThere memories term → Leaves (TouchesWhatIsThere memories) (fire term path memories)
  fire_leaves (leaf place work) path memories there =
      leaves_whole (LeafTouchesThere memories) (TouchesWhatIsThere memories) (leaf place) (leaf_move place work memories) (λ left h. h) (leaf_leaves place work memories there)
  fire_leaves (list kind before parts) [] memories there = tt
  fire_leaves (list kind before parts) (number ∷ path) memories there =
      leaves_whole (PartsTouchWhatIsThere memories) (TouchesWhatIsThere memories) (list kind before) (fire_part parts number path memories) (λ left h. h) (part_leaves parts number path memories there)
  fire_leaves (owning own part) path memories there =
      owned_leaves owning own (fire part path (own ∷ memories)) memories (λ later left keeps h. still_there left (own ∷ memories) (later ∷ memories) keeps h) (fire_leaves part path (own ∷ memories) there)
  fire_leaves (nested body exits own state values part) path memories there =
      either_leaves (TouchesWhatIsThere memories) (finished part) (transition body exits own (first_exit (exits state values) (own ∷ memories))) _
      (transition_leaves body exits own (first_exit (exits state values) (own ∷ memories)) memories there.1 there.2)
      (owned_leaves (λ memory left. nested body exits memory state values left) own (fire part path (own ∷ memories)) memories
      (λ later left keeps h. (
        still_there left (own ∷ memories) (later ∷ memories) keeps h,
        λ state values. still_there (body state values) (own ∷ memories) (later ∷ memories) keeps (there.1 state values),
        λ state values touch touched. touch_still (own ∷ memories) (later ∷ memories) touch keeps (there.2 state values touch touched),
      )) (fire_leaves part path (own ∷ memories) there.0))
  fire_leaves (ended own) path memories there = tt
  fire_leaves (pool level container body active closed) [] memories there = tt
  fire_leaves (pool level container body active closed) (zero ∷ []) memories there = tt
  fire_leaves (pool level container body active closed) (zero ∷ position ∷ path) memories there =
      take_leaves level container body active closed position (slice_get (waiting level container memories) position) memories there
  fire_leaves (pool level container body active closed) (suc n ∷ []) memories there = tt
  fire_leaves (pool level container body active closed) (suc n ∷ number ∷ path) memories there =
      leaves_whole (ActivesTouchWhatIsThere memories) (TouchesWhatIsThere memories) (λ left. pool level container body left closed) (fire_active active number path memories) (λ left h. (there.0, h, there.2))
      (active_leaves active number path memories there.1)

  part_leaves : {P : Type 0} (parts : Terms P) (number : ℕ) (path : Path) (memories : Memories) → PartsTouchWhatIsThere memories parts → Leaves (PartsTouchWhatIsThere memories) (fire_part parts number path memories)
  part_leaves none number path memories there = tt
  part_leaves (also part parts) zero path memories there =
      leaves_whole (TouchesWhatIsThere memories) (PartsTouchWhatIsThere memories) (λ left. also left parts) (fire part path memories) (λ left h. (h, there.1)) (fire_leaves part path memories there.0)
  part_leaves (also part parts) (suc number) path memories there =
      leaves_whole (PartsTouchWhatIsThere memories) (PartsTouchWhatIsThere memories) (also part) (fire_part parts number path memories) (λ left h. (there.0, h)) (part_leaves parts number path memories there.1)

  active_leaves : {P : Type 0} (active : Actives P) (number : ℕ) (path : Path) (memories : Memories) → ActivesTouchWhatIsThere memories active → Leaves (ActivesTouchWhatIsThere memories) (fire_active active number path memories)
  active_leaves idle number path memories there = tt
  active_leaves (busy value part active) zero path memories there =
      leaves_whole (TouchesWhatIsThere memories) (ActivesTouchWhatIsThere memories) (λ left. busy value left active) (fire part path memories) (λ left h. (h, there.1)) (fire_leaves part path memories there.0)
  active_leaves (busy value part active) (suc number) path memories there =
      leaves_whole (ActivesTouchWhatIsThere memories) (ActivesTouchWhatIsThere memories) (busy value part) (fire_active active number path memories) (λ left h. (there.0, h)) (active_leaves active number path memories there.1)

-- ---- settling

mutual
  settled_there : {P : Type 0} (may_go : Bool) (cleared : List Bool) (over memories : Memories) (term : Term P) → TouchesWhatIsThere memories term → TouchesWhatIsThere memories (settle may_go cleared over term)
  settled_there may_go cleared over memories (leaf place work) there = there
  settled_there may_go cleared over memories (list kind before parts) there = settled_parts_there may_go cleared over memories kind before [] 0 parts there
  settled_there may_go cleared over memories (owning own part) there = settled_there may_go (true ∷ cleared) (own ∷ over) (own ∷ memories) part there
  settled_there may_go cleared over memories (nested body exits own state values part) there = (settled_there may_go (true ∷ cleared) (own ∷ over) (own ∷ memories) part there.0, there.1, there.2)
  settled_there may_go cleared over memories (ended own) there = tt
  settled_there may_go cleared over memories (pool level container body active closed) there = (there.0, settled_active_there may_go cleared over memories active there.1, there.2)

  settled_parts_there : {P : Type 0} (may_go : Bool) (cleared : List Bool) (over memories : Memories) (kind : Parts) (before : ℕ → ℕ → Bool) (flags : List Bool) (number : ℕ) (parts : Terms P) →
      PartsTouchWhatIsThere memories parts → PartsTouchWhatIsThere memories (settle_parts may_go cleared over kind before flags number parts)
  settled_parts_there may_go cleared over memories kind before flags number none there = tt
  settled_parts_there may_go cleared over memories kind before flags number (also part parts) there =
      (settled_there _ _ over memories part there.0, settled_parts_there may_go cleared over memories kind before _ (suc number) parts there.1)

  settled_active_there : {P : Type 0} (may_go : Bool) (cleared : List Bool) (over memories : Memories) (active : Actives P) → ActivesTouchWhatIsThere memories active →
      ActivesTouchWhatIsThere memories (settle_active may_go cleared over active)
  settled_active_there may_go cleared over memories idle there = tt
  settled_active_there may_go cleared over memories (busy value part active) there =
      (settled_there may_go cleared over memories part there.0, settled_active_there may_go cleared over memories active there.1)

-- ---- runs

abbrev IsMachineThere : {P : Type 0} → Machine P → Type 0
IsMachineThere machine = TouchesWhatIsThere [] machine.term

-- where a step gives a machine, it has this
abbrev Gives : {P : Type 0} → (Machine P → Type 0) → Outcome P (Machine P) → Type 0
Gives Q (Done machine) = Q machine
Gives Q (Faulted fault) = ⊤
Gives Q Spent = ⊤

spend_gives : {P : Type 0} (Q : Machine P → Type 0) (turn : Bool) (turns : ℕ) (after : ℕ → Outcome P (Machine P)) → ((turns : ℕ) → Gives Q (after turns)) → Gives Q (spend Spent turn turns after)
spend_gives Q true zero after each = tt
spend_gives Q true (suc turns) after each = each turns
spend_gives Q false turns after each = each turns

moved_there : {P : Type 0} (machine : Machine P) (move : Move P (Term P)) → IsMachineThere machine → Leaves (TouchesWhatIsThere []) move → Gives IsMachineThere (moved machine move)
moved_there machine (fails turn fault) there left = spend_gives IsMachineThere turn machine.turns (λ turns. Faulted fault) (λ turns. tt)
moved_there machine (goes turn change term) there left =
    spend_gives IsMachineThere turn machine.turns (λ turns. Done (record { term = settled term; turns = turns })) (λ turns. settled_there true [] [] [] term left)
moved_there machine no_move there left = there

step_there : {P : Type 0} (path : Path) (machine : Machine P) → IsMachineThere machine → Gives IsMachineThere (step path machine)
step_there path machine there = moved_there machine (fire machine.term path []) there (fire_leaves machine.term path [] there)

choices_on_there : {P : Type 0} (outcome : Outcome P (Machine P)) (rest : Machine P → List (Choice P)) → Gives IsMachineThere outcome →
    ((machine : Machine P) → IsMachineThere machine → AllByRecursion (λ choice. IsMachineThere choice.machine) (rest machine)) → AllByRecursion (λ choice. IsMachineThere choice.machine) (choices_on outcome rest)
choices_on_there (Done machine) rest gives each = each machine gives
choices_on_there (Faulted fault) rest gives each = tt
choices_on_there Spent rest gives each = tt

choices_by_there : {P : Type 0} (moves : List Path) (picks : List ℕ) (machine : Machine P) (rest : Machine P → List (Choice P)) → IsMachineThere machine →
    ((machine : Machine P) → IsMachineThere machine → AllByRecursion (λ choice. IsMachineThere choice.machine) (rest machine)) → AllByRecursion (λ choice. IsMachineThere choice.machine) (choices_by moves picks machine rest)
choices_by_there [] picks machine rest there each = tt
choices_by_there (first ∷ others) picks machine rest there each =
    (there, choices_on_there (step (chosen picks first others) machine) rest (step_there (chosen picks first others) machine there) each)

choices_there : {P : Type 0} (steps : ℕ) (picks : List ℕ) (machine : Machine P) → IsMachineThere machine → AllByRecursion (λ choice. IsMachineThere choice.machine) (choices steps picks machine)
choices_there zero picks machine there = tt
choices_there (suc steps) picks machine there = choices_by_there (next_moves machine) picks machine (choices steps (drop 1 picks)) there (λ next after. choices_there steps (drop 1 picks) next after)

-- at each choice of a run what is left touches what is there
pub runs_there : {P : Type 0} (term : Term P) (steps : ℕ) (picks : List ℕ) (turns : ℕ) → TouchesWhatIsThere [] term →
    AllByRecursion (λ choice. TouchesWhatIsThere [] choice.machine.term) (choices steps picks (opening term turns))
runs_there term steps picks turns there = choices_there steps picks (opening term turns) (settled_there true [] [] [] term there)
