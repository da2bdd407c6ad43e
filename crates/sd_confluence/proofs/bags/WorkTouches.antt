-- What work with bags may still touch, and safe work.
use Rattle.std.proofs.Common.{◌≡◌, ℕ, zero, suc, ◌<◌, ℤ, false, ◌⊎◌, [], Bool, true, cond}
use Rattle.std.specs.Bool.{⊤}
use Rattle.sd_work.specs.Exit.{Values}
use Rattle.sd_work.specs.Touch.{Touch, reads, writes, pushes, takes, AreCompatible, inner, LeafTouches, SomeExitTouches}
use Rattle.sd_confluence.proofs.bags.Works.{Work, thread, group, scope, nest, over, basin, Works, no_works, and_work}

-- the second touch does not depend on what the first one changes
abbrev pub IsUnseen : Touch → Touch → Type 0
IsUnseen (writes to by) (reads from) = to ≡ from → ⊥
IsUnseen (pushes l c) (takes m d) = l ≡ m → c ≡ d → ⊥
IsUnseen (takes l c) (takes m d) = l ≡ m → c ≡ d → ⊥
IsUnseen a b = ⊤

abbrev mutual
  pub WorkTouches : {P : Type 0} → Work P → Touch → Type 0
  WorkTouches (thread place work) a = LeafTouches work a
  WorkTouches (group before parts) a = SomeWork parts a
  WorkTouches (scope own part) a = WorkTouches part (inner a)
  WorkTouches (nest body exits own state values part) a =
      WorkTouches part (inner a)
      ⊎ (((k : ℕ) × (e : Values) × WorkTouches (body k e) (inner a))
      ⊎ ((k : ℕ) × (e : Values) × SomeExitTouches (exits k e) (inner a)))
  WorkTouches (over own) a = ⊥
  WorkTouches (basin l c body active closed) a = (a ≡ takes l c) ⊎ (((v : ℤ) × SomeWork (active v) a) ⊎ ((v : ℤ) × WorkTouches (body v) a))

  pub SomeWork : {P : Type 0} → Works P → Touch → Type 0
  SomeWork no_works a = ⊥
  SomeWork (and_work t ts) a = WorkTouches t a ⊎ SomeWork ts a

abbrev pub AllCompatible : {P : Type 0} → Work P → Work P → Type 0
AllCompatible t q = (a b : Touch) → WorkTouches t a → WorkTouches q b → AreCompatible a b

-- part i, or one that touches nothing
abbrev pub work_at : {P : Type 0} → Works P → ℕ → Work P
work_at no_works i = over []
work_at (and_work t ts) zero = t
work_at (and_work t ts) (suc i) = work_at ts i

abbrev mutual
  pub Safe : {P : Type 0} → Work P → Type 0
  Safe (thread place work) = ⊤
  Safe (group before parts) = AllSafe parts × ((i j : ℕ) → i < j → before i j ≡ false → AllCompatible (work_at parts i) (work_at parts j))
  Safe (scope own part) = Safe part
  Safe (nest body exits own state values part) = Safe part × ((k : ℕ) (e : Values) → Safe (body k e))
  Safe (over own) = ⊤
  Safe (basin l c body active closed) =
      ((v : ℤ) → AllSafe (active v)) × ((v : ℤ) → Safe (body v))
      × ((a b : Touch) → ((v : ℤ) × SomeWork (active v) a) ⊎ ((v : ℤ) × WorkTouches (body v) a) → ((v : ℤ) × SomeWork (active v) b) ⊎ ((v : ℤ) × WorkTouches (body v) b) → AreCompatible a b)

  pub AllSafe : {P : Type 0} → Works P → Type 0
  AllSafe no_works = ⊤
  AllSafe (and_work t ts) = Safe t × AllSafe ts

-- either of two works is safe
pub safe_put : {P : Type 0} (b : Bool) (ts us : Works P) → AllSafe ts → AllSafe us → AllSafe (cond b ts us)
safe_put true ts us a c = a
safe_put false ts us a c = c
