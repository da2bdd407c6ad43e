-- Elements of the outermost memory of a stack by other numbers, and work that names them so.
use Rattle.std.specs.Prelude.{◌≡◌, ℕ, zero, suc, List, map, Option, Some, None, option_map, slice_get, Result, Ok, Err, ⊤}
use Rattle.sd_work.specs.declared.fault.FaultKind.{FaultKind}
use Rattle.sd_work.specs.Memory.{Contents, array, stream, Memories, Reference}
use Rattle.sd_work.specs.Leaf.{Pending, write_value, transfer, push_to, Leaf, reading, doing}
use Rattle.sd_work.specs.Exit.{Guard, Exit}
use Rattle.sd_work.specs.Residual.{Term, leaf, list, owning, nested, ended, pool, Terms, none, also, Actives, idle, busy}
use Rattle.sd_work.specs.Step.{Done, Faulted, Spent}
use Rattle.sd_work.specs.BigStep.{Coming, reached}
use Rattle.sd_work.specs.Touch.{Touch, reads, writes, pushes, takes}
use Rattle.sd_pieces.specs.course.Reading.{contents_found}

-- the other number of an element of a container, where it has one
abbrev pub Naming : Type 0
Naming = (container element : ℕ) → Option ℕ

-- no two elements have one number
abbrev pub IsOneToOne : Naming → Type 0
IsOneToOne naming = (container element other number : ℕ) → naming container element ≡ Some number → naming container other ≡ Some number → element ≡ other

-- the numbers in a container of a stack in which so many memories lie inside the one whose elements are named anew; in all others they stay
abbrev pub names_at : Naming → (depth level container : ℕ) → ℕ → Option ℕ
names_at naming zero zero container = naming container
names_at naming zero (suc level) container = Some
names_at naming (suc depth) zero container = Some
names_at naming (suc depth) (suc level) container = names_at naming depth level container

-- ---- work

-- an element by its other number; none where it has no other number
abbrev pub reference_named : Naming → (depth : ℕ) → Reference → Option Reference
reference_named naming depth reference =
    option_map (λ element. record { level = reference.level; container = reference.container; element = element }) (names_at naming depth reference.level reference.container reference.element)

-- an access; one of an element without a number is outside
abbrev pub access_named : Naming → (depth : ℕ) → Option Reference → Option Reference
access_named naming depth None = None
access_named naming depth (Some reference) = reference_named naming depth reference

-- an effect of a leaf; a stream keeps its number
abbrev pub pending_named : Naming → (depth : ℕ) → Pending → Pending
pending_named naming depth (write_value value to by) = write_value value (access_named naming depth to) by
pending_named naming depth (transfer from to by) = transfer (access_named naming depth from) (access_named naming depth to) by
pending_named naming depth (push_to level container value) = push_to level container value

-- the effects that an evaluation gives, or its fault
abbrev pub evaluated_named : Naming → (depth : ℕ) → Result (List Pending) FaultKind → Result (List Pending) FaultKind
evaluated_named naming depth (Ok effects) = Ok (map (pending_named naming depth) effects)
evaluated_named naming depth (Err kind) = Err kind

-- a leaf: the reads that are left and the effects of its evaluation, or the effects that are left
abbrev pub leaf_named : Naming → (depth : ℕ) → Leaf → Leaf
leaf_named naming depth (reading begun left values evaluation) =
    reading begun (map (access_named naming depth) left) values (λ read. evaluated_named naming depth (evaluation read))
leaf_named naming depth (doing left) = doing (map (pending_named naming depth) left)

-- the condition of an exit: the elements that it reads
abbrev pub guard_named : {P : Type 0} → Naming → (depth : ℕ) → Guard P → Guard P
guard_named naming depth guard = record guard { reads = map (access_named naming depth) guard.reads }

-- an exit: its condition, if it has one
abbrev pub exit_named : {P : Type 0} → Naming → (depth : ℕ) → Exit P → Exit P
exit_named naming depth exit = record exit { when = option_map (guard_named naming depth) exit.when }

abbrev mutual
  -- a term; inside an owner there is one memory more
  pub term_named : {P : Type 0} → Naming → (depth : ℕ) → Term P → Term P
  term_named naming depth (leaf place work) = leaf place (leaf_named naming depth work)
  term_named naming depth (list kind before parts) = list kind before (parts_named naming depth parts)
  term_named naming depth (owning own part) = owning own (term_named naming (suc depth) part)
  term_named naming depth (nested body exits own state values part) =
      nested (λ state values. term_named naming (suc depth) (body state values)) (λ state values. map (exit_named naming (suc depth)) (exits state values))
      own state values (term_named naming (suc depth) part)
  term_named naming depth (ended own) = ended own
  term_named naming depth (pool level container body active closed) = pool level container (λ value. term_named naming depth (body value)) (active_named naming depth active) closed

  -- each part
  pub parts_named : {P : Type 0} → Naming → (depth : ℕ) → Terms P → Terms P
  parts_named naming depth none = none
  parts_named naming depth (also part parts) = also (term_named naming depth part) (parts_named naming depth parts)

  -- each active term of a pool
  pub active_named : {P : Type 0} → Naming → (depth : ℕ) → Actives P → Actives P
  active_named naming depth idle = idle
  active_named naming depth (busy value part active) = busy value (term_named naming depth part) (active_named naming depth active)

-- what is touched has a number
abbrev pub IsTouchNamed : Naming → (depth : ℕ) → Touch → Type 0
IsTouchNamed naming depth (reads from) = (number : ℕ) × (names_at naming depth from.level from.container from.element ≡ Some number)
IsTouchNamed naming depth (writes to by) = (number : ℕ) × (names_at naming depth to.level to.container to.element ≡ Some number)
IsTouchNamed naming depth (pushes level container) = ⊤
IsTouchNamed naming depth (takes level container) = ⊤

-- ---- memories

-- what a container holds, and the same by the other numbers: both are of one width, arrays have the same at each element that has one, streams are the same
abbrev pub AreContentsNamed : (ℕ → Option ℕ) → Contents → Contents → Type 0
AreContentsNamed names (array width elements) (array other others) = (width ≡ other) × ((element number : ℕ) → names element ≡ Some number → slice_get elements element ≡ slice_get others number)
AreContentsNamed names (array width elements) (stream other others) = ⊥
AreContentsNamed names (stream width values) (array other others) = ⊥
AreContentsNamed names (stream width values) (stream other others) = (width ≡ other) × (values ≡ others)

-- where there are such containers
abbrev pub AreFoundNamed : (ℕ → Option ℕ) → Option Contents → Option Contents → Type 0
AreFoundNamed names None None = ⊤
AreFoundNamed names None (Some other) = ⊥
AreFoundNamed names (Some contents) None = ⊥
AreFoundNamed names (Some contents) (Some other) = AreContentsNamed names contents other

-- two stacks of memories, the second one by the other numbers
abbrev pub AreMemoriesNamed : Naming → (depth : ℕ) → (memories others : Memories) → Type 0
AreMemoriesNamed naming depth memories others =
    (level container : ℕ) → AreFoundNamed (names_at naming depth level container) (contents_found level container memories) (contents_found level container others)

-- work comes to the same by the other numbers: the same fault or want of turns; or it is done with the same turns and such memories
abbrev pub ComesToNamed : {P : Type 0} → Naming → (depth : ℕ) → Coming P → Coming P → Type 0
ComesToNamed naming depth (Some (Done now)) other = (others : Memories) × (other ≡ reached others now.turns) × AreMemoriesNamed naming depth now.memories others
ComesToNamed naming depth (Some (Faulted fault)) other = other ≡ Some (Faulted fault)
ComesToNamed naming depth (Some Spent) other = other ≡ Some Spent
ComesToNamed naming depth None other = other ≡ None
