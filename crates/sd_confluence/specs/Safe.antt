-- Safe work: what may go on side by side never conflicts.
use Rattle.std.specs.Prelude.{◌≡◌, ◌<◌, ℕ, ℤ, [], true, false, Bool, ⊤}
use Rattle.sd_work.specs.Exit.{Values}
use Rattle.sd_work.specs.Residual.{Parts, Points, Term, leaf, list, owning, nested, ended, pool, Terms, none, also, part_at, Actives, idle, busy, begun, none_active}
use Rattle.sd_work.specs.WellFormed.{IsOrdered}
use Rattle.sd_work.specs.Memory.{Memory}
use Rattle.sd_work.specs.Touch.{Touch, takes, AreCompatible, Touches, PoolTouches}

-- whatever the two touch does not conflict
abbrev pub TouchCompatibly : {P : Type 0} → (first second : Term P) → Type 0
TouchCompatibly first second = (touch other : Touch) → Touches first touch → Touches second other → AreCompatible touch other

-- no stream outside of this work is taken from
abbrev pub TakesNothingOutside : {P : Type 0} → Term P → Type 0
TakesNothingOutside term = (level container : ℕ) → Touches term (takes level container) → ⊥

-- parts of which neither is before the other do not conflict, and of two such points the later takes from no stream outside of it
pub record ArePartsSafe {P : Type 0} (kind : Parts) (before : ℕ → ℕ → Bool) (parts : Terms P) : Type 0 where
  pub compatible : (i j : ℕ) → i < j → before i j ≡ false → TouchCompatibly (part_at parts i) (part_at parts j)
  pub points : kind ≡ Points → (i j : ℕ) → i < j → before i j ≡ false → TakesNothingOutside (part_at parts j)

-- the works of a pool for any two values do not conflict, those of one value twice and one work with itself included
abbrev pub IsPoolSafe : {P : Type 0} → (ℤ → Term P) → Actives P → Type 0
IsPoolSafe body active = (touch other : Touch) → PoolTouches body active touch → PoolTouches body active other → AreCompatible touch other

-- each list and each pool of a term is safe, also in all that may be unfolded later, for every state and all values; a pool that is finished for good has no active term
abbrev mutual
  pub IsSafe : {P : Type 0} → Term P → Type 0
  IsSafe (leaf place work) = ⊤
  IsSafe (list kind before parts) = AreSafe parts × ArePartsSafe kind before parts
  IsSafe (owning own part) = IsSafe part
  IsSafe (nested body exits own state values part) = IsSafe part × ((state : ℕ) (values : Values) → IsSafe (body state values))
  IsSafe (ended own) = ⊤
  IsSafe (pool level container body active closed) = AreActiveSafe active × ((value : ℤ) → IsSafe (body value)) × IsPoolSafe body active × (closed ≡ true → none_active active ≡ true)

  pub AreSafe : {P : Type 0} → Terms P → Type 0
  AreSafe none = ⊤
  AreSafe (also part parts) = IsSafe part × AreSafe parts

  pub AreActiveSafe : {P : Type 0} → Actives P → Type 0
  AreActiveSafe idle = ⊤
  AreActiveSafe (busy value part active) = IsSafe part × AreActiveSafe active

-- work that may be done in any order: its lists have orders, it is safe, and each stream that it takes from is its own
pub record MayInterleave {P : Type 0} (term : Term P) : Type 0 where
  pub ordered : IsOrdered term
  pub safe : IsSafe term
  pub inside : TakesNothingOutside term

-- the run of a graph of one state that is one pool over a stream of this memory, which is all that stands around it
abbrev pub pool_over : {P : Type 0} → Memory → (container : ℕ) → (ℤ → Term P) → Term P
pool_over own container body = begun (λ state values. pool 0 container body idle false) (λ state values. []) own []
