-- Residual work: what is left to do.
use Rattle.std.specs.Prelude.{◌≡◌, ℕ, zero, suc, ◌<◌, ℤ, List, [], ◌∷◌, Bool, true, false, not, ◌&&◌, ◌||◌}
use Rattle.sd_work.specs.Memory.{Memory}
use Rattle.sd_work.specs.Leaf.{Leaf, is_done}
use Rattle.sd_work.specs.Exit.{Values, Exit}

-- the parts of a list are the items of a state or of a scope's body, or the points of a map
pub data Parts : Type 0 where
  Items : Parts
  Points : Parts

mutual
  pub data Term (P : Type 0) : Type 0 where
    -- an instance, a copy or a reduction
    leaf : (place : P) → (work : Leaf) → Term P
    -- items or points, and which of them are before which
    list : (kind : Parts) → (before : ℕ → ℕ → Bool) → (parts : Terms P) → Term P
    -- a point, or a pool's element, with its private containers
    owning : (own : Memory) → (part : Term P) → Term P
    -- a run of a graph, whose states and exits are functions of a state's number and the values of the variables, with its own containers and what is left of its state
    nested : (body : ℕ → Values → Term P) → (exits : ℕ → Values → List (Exit P)) → (own : Memory) → (state : ℕ) → (values : Values) → (part : Term P) → Term P
    -- a run of a graph that has ended
    ended : (own : Memory) → Term P
    -- a consume scope over a stream, with what it does with a value, and its active terms. Closed: finished for good
    pool : (level container : ℕ) → (body : ℤ → Term P) → (active : Actives P) → (closed : Bool) → Term P

  pub data Terms (P : Type 0) : Type 0 where
    none : Terms P
    also : Term P → Terms P → Terms P

  -- each with the value that was taken, in the order of taking
  pub data Actives (P : Type 0) : Type 0 where
    idle : Actives P
    busy : (value : ℤ) → Term P → Actives P → Actives P

-- a graph that begins: state 0, with these containers and values of the variables
abbrev pub begun : {P : Type 0} → (ℕ → Values → Term P) → (ℕ → Values → List (Exit P)) → Memory → Values → Term P
begun body exits own values = nested body exits own 0 values (body 0 values)

-- nothing is left to do
abbrev mutual
  pub finished : {P : Type 0} → Term P → Bool
  finished (leaf place work) = is_done work
  finished (list kind before parts) = all_finished parts
  finished (owning own part) = finished part
  finished (nested body exits own state values part) = false
  finished (ended own) = true
  finished (pool level container body active closed) = closed

  pub all_finished : {P : Type 0} → Terms P → Bool
  all_finished none = true
  all_finished (also part parts) = finished part && all_finished parts

-- a pool has no active term: those that it keeps are finished
abbrev pub none_active : {P : Type 0} → Actives P → Bool
none_active idle = true
none_active (busy value part active) = finished part && none_active active

-- which parts are finished, in order
abbrev pub flags_of : {P : Type 0} → Terms P → List Bool
flags_of none = []
flags_of (also part parts) = finished part ∷ flags_of parts

-- each part from number j on, with these flags, that is before part k is finished
abbrev pub ready_from : (ℕ → ℕ → Bool) → (j : ℕ) → (flags : List Bool) → (k : ℕ) → Bool
ready_from before j [] k = true
ready_from before j (flag ∷ flags) k = (flag || not (before j k)) && ready_from before (suc j) flags k

-- part k of a list; where there is none, a run that has ended, which does nothing
abbrev pub part_at : {P : Type 0} → Terms P → (k : ℕ) → Term P
part_at none k = ended []
part_at (also part parts) zero = part
part_at (also part parts) (suc k) = part_at parts k

-- part k may go on: each part that is before it is finished
abbrev pub is_ready : (ℕ → ℕ → Bool) → (flags : List Bool) → (k : ℕ) → Bool
is_ready before flags k = ready_from before 0 flags k

-- an order of parts leads from lower to higher numbers, also over a part between
pub record IsOrder (before : ℕ → ℕ → Bool) : Type 0 where
  pub rises : (j k : ℕ) → before j k ≡ true → j < k
  pub passes : (i j k : ℕ) → before i j ≡ true → before j k ≡ true → before i k ≡ true
