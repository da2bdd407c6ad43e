-- Residual work with its bags: its image, and the names of its moves there.
use Rattle.std.proofs.Common.{◌≡◌, ℕ, zero, suc, [], ◌∷◌, Option, Some, None, ℤ, Bool, true, false, cond, slice_get}
use Rattle.sd_work.specs.Memory.{Contents, array, stream, Memory, Memories, waiting}
use Rattle.sd_work.specs.Change.{Change, nothing, write, push, take}
use Rattle.sd_work.specs.Leaf.{is_done}
use Rattle.sd_work.specs.Residual.{Term, leaf, list, owning, nested, ended, pool, Terms, none, also, Actives, idle, busy, finished, flags_of, is_ready}
use Rattle.sd_work.specs.Moves.{Path}
use Rattle.std.specs.Ordering.{int_eq}
use Rattle.sd_confluence.specs.Alike.{how_often}
use Rattle.sd_confluence.proofs.bags.BagMemory.{Holding, cells, bag, Frame, Stack, Update, keep, remove, update_by}
use Rattle.sd_confluence.proofs.bags.Works.{Work, thread, group, scope, nest, over, basin, Works, no_works, and_work, part_number, taking, acting, Route}

abbrev pub holding_of : Contents → Holding
holding_of (array width elements) = cells width elements
holding_of (stream width values) = bag width (how_often values)

abbrev pub frame_of : Memory → Frame
frame_of [] = []
frame_of (contents ∷ memory) = holding_of contents ∷ frame_of memory

abbrev pub stack_of : Memories → Stack
stack_of [] = []
stack_of (memory ∷ memories) = frame_of memory ∷ stack_of memories

-- a take of a position as one of the value that stands there
abbrev pub remove_found : (level container : ℕ) → Option ℤ → Update
remove_found level container None = keep
remove_found level container (Some value) = remove level container value

-- a change of these memories
abbrev pub update_of : Change → Memories → Update
update_of nothing memories = keep
update_of (write to by value) memories = update_by (write to by value)
update_of (push level container value) memories = update_by (push level container value)
update_of (take level container position) memories = remove_found level container (slice_get (waiting level container memories) position)

abbrev mutual
  pub work_of : {P : Type 0} → Term P → Work P
  work_of (leaf place work) = thread place work
  work_of (list kind before parts) = group before (works_of parts)
  work_of (owning own part) = scope (frame_of own) (work_of part)
  work_of (nested body exits own state values part) = nest (λ k e. work_of (body k e)) exits (frame_of own) state values (work_of part)
  work_of (ended own) = over (frame_of own)
  work_of (pool level container body active closed) = basin level container (λ v. work_of (body v)) (active_of active) closed

  pub works_of : {P : Type 0} → Terms P → Works P
  works_of none = no_works
  works_of (also part parts) = and_work (work_of part) (works_of parts)

  pub active_of : {P : Type 0} → Actives P → ℤ → Works P
  active_of idle w = no_works
  active_of (busy v part active) w = cond (int_eq v w) (and_work (work_of part) (active_of active w)) (active_of active w)

-- the value of the k-th active term, and its number among those of a value
abbrev pub value_at : {P : Type 0} → Actives P → ℕ → Option ℤ
value_at idle k = None
value_at (busy v part active) zero = Some v
value_at (busy v part active) (suc k) = value_at active k

abbrev pub number_at : {P : Type 0} → Actives P → ℤ → ℕ → ℕ
number_at idle v k = 0
number_at (busy w part active) v zero = 0
number_at (busy w part active) v (suc k) = cond (int_eq w v) (suc (number_at active v k)) (number_at active v k)

abbrev pub named : Option ℤ → (ℤ → Route) → Route
named None f = []
named (Some v) f = f v

-- the name of a move: a take by its value, and an active term by its value and its number among those of it
abbrev mutual
  pub route_of : {P : Type 0} → Term P → Path → Memories → Route
  route_of (leaf place work) p s = []
  route_of (list kind before parts) [] s = []
  route_of (list kind before parts) (k ∷ p) s = part_number k ∷ route_at parts k p s
  route_of (owning own part) p s = route_of part p (own ∷ s)
  route_of (nested body exits own state values part) p s = cond (finished part) [] (route_of part p (own ∷ s))
  route_of (ended own) p s = []
  route_of (pool level container body active closed) [] s = []
  route_of (pool level container body active closed) (zero ∷ []) s = []
  route_of (pool level container body active closed) (zero ∷ k ∷ p) s = named (slice_get (waiting level container s) k) (λ v. taking v ∷ [])
  route_of (pool level container body active closed) (suc j ∷ []) s = []
  route_of (pool level container body active closed) (suc j ∷ k ∷ p) s = named (value_at active k) (λ v. acting v (number_at active v k) ∷ route_in active k p s)

  pub route_at : {P : Type 0} → Terms P → ℕ → Path → Memories → Route
  route_at none k p s = []
  route_at (also part parts) zero p s = route_of part p s
  route_at (also part parts) (suc k) p s = route_at parts k p s

  pub route_in : {P : Type 0} → Actives P → ℕ → Path → Memories → Route
  route_in idle k p s = []
  route_in (busy v part active) zero p s = route_of part p s
  route_in (busy v part active) (suc k) p s = route_in active k p s

abbrev pub IsNextHere : Bool → Path → Type 0 → Type 0
IsNextHere true p C = p ≡ []
IsNextHere false p C = C

-- that a place is among the next moves
abbrev mutual
  pub IsNext : {P : Type 0} → Term P → Path → Memories → Type 0
  IsNext (leaf place work) p s = (is_done work ≡ false) × (p ≡ [])
  IsNext (list kind before parts) [] s = ⊥
  IsNext (list kind before parts) (k ∷ p) s = (is_ready before (flags_of parts) k ≡ true) × IsNextAt parts k p s
  IsNext (owning own part) p s = IsNext part p (own ∷ s)
  IsNext (nested body exits own state values part) p s = IsNextHere (finished part) p (IsNext part p (own ∷ s))
  IsNext (ended own) p s = ⊥
  IsNext (pool level container body active closed) [] s = ⊥
  IsNext (pool level container body active closed) (zero ∷ []) s = ⊥
  IsNext (pool level container body active closed) (zero ∷ k ∷ p) s = (closed ≡ false) × (p ≡ []) × ((v : ℤ) × (slice_get (waiting level container s) k ≡ Some v))
  IsNext (pool level container body active closed) (suc zero ∷ []) s = ⊥
  IsNext (pool level container body active closed) (suc zero ∷ k ∷ p) s = (closed ≡ false) × IsNextIn active k p s
  IsNext (pool level container body active closed) (suc (suc j) ∷ p) s = ⊥

  pub IsNextAt : {P : Type 0} → Terms P → ℕ → Path → Memories → Type 0
  IsNextAt none k p s = ⊥
  IsNextAt (also part parts) zero p s = IsNext part p s
  IsNextAt (also part parts) (suc k) p s = IsNextAt parts k p s

  pub IsNextIn : {P : Type 0} → Actives P → ℕ → Path → Memories → Type 0
  IsNextIn idle k p s = ⊥
  IsNextIn (busy v part active) zero p s = IsNext part p s
  IsNextIn (busy v part active) (suc k) p s = IsNextIn active k p s
