-- What work may still touch, and when two touches do not conflict.
use Rattle.std.specs.Prelude.{◌≡◌, ◌≢◌, ◌⊎◌, ℕ, suc, ℤ, List, [], ◌∷◌, Option, Some, None, Ok, ⊤}
use Rattle.sd_num.specs.declared.resolution.Resolution.{Resolution}
use Rattle.sd_work.specs.Memory.{Reference}
use Rattle.sd_work.specs.Leaf.{Pending, write_value, transfer, push_to, Leaf, reading, doing}
use Rattle.sd_work.specs.Exit.{Values, Guard, Exit}
use Rattle.sd_work.specs.Change.{Change}
use Rattle.sd_work.specs.Harmless.{SameCommuting, AreTwo, SparesElement, SparesStream}
use Rattle.sd_work.specs.Residual.{Term, leaf, list, owning, nested, ended, pool, Terms, none, also, Actives, idle, busy}

-- an element read; an element written, with its resolution; a stream pushed into; a stream taken from
pub data Touch : Type 0 where
  reads : (from : Reference) → Touch
  writes : (to : Reference) → (by : Option Resolution) → Touch
  pushes : (level container : ℕ) → Touch
  takes : (level container : ℕ) → Touch

-- two touches do not conflict: both read, both push (the order of a stream is left aside), both resolve by one resolution that commutes, or they are of different places
abbrev pub AreCompatible : Touch → Touch → Type 0
AreCompatible (reads from) (writes to by) = from ≢ to
AreCompatible (writes to by) (reads from) = to ≢ from
AreCompatible (writes to by) (writes into other) = to ≡ into → SameCommuting by other
AreCompatible (pushes level container) (takes other_level other) = AreTwo level container other_level other
AreCompatible (takes level container) (pushes other_level other) = AreTwo level container other_level other
AreCompatible (takes level container) (takes other_level other) = AreTwo level container other_level other
AreCompatible touch other = ⊤

-- an element outside of an owner, as it is named inside
abbrev pub inner_reference : Reference → Reference
inner_reference reference = record { level = suc reference.level; container = reference.container; element = reference.element }

-- a touch outside of an owner, as it is named inside
abbrev pub inner : Touch → Touch
inner (reads from) = reads (inner_reference from)
inner (writes to by) = writes (inner_reference to) by
inner (pushes level container) = pushes (suc level) container
inner (takes level container) = takes (suc level) container

-- an access that is not inside touches nothing
abbrev pub IsRead : Option Reference → Touch → Type 0
IsRead None touch = ⊥
IsRead (Some from) touch = touch ≡ reads from

abbrev pub IsWrite : Option Reference → Option Resolution → Touch → Type 0
IsWrite None by touch = ⊥
IsWrite (Some to) by touch = touch ≡ writes to by

abbrev pub SomeRead : List (Option Reference) → Touch → Type 0
SomeRead [] touch = ⊥
SomeRead (next ∷ left) touch = IsRead next touch ⊎ SomeRead left touch

abbrev pub PendingTouches : Pending → Touch → Type 0
PendingTouches (write_value value to by) touch = IsWrite to by touch
PendingTouches (transfer from to by) touch = IsRead from touch ⊎ IsWrite to by touch
PendingTouches (push_to level container value) touch = touch ≡ pushes level container

abbrev pub SomePendingTouches : List Pending → Touch → Type 0
SomePendingTouches [] touch = ⊥
SomePendingTouches (next ∷ left) touch = PendingTouches next touch ⊎ SomePendingTouches left touch

-- an instance touches what it reads, and what it would do by any values that its evaluation is given
abbrev pub LeafTouches : Leaf → Touch → Type 0
LeafTouches (reading begun left values evaluation) touch =
    SomeRead left touch ⊎ ((given : List ℤ) × (effects : List Pending) × (evaluation given ≡ Ok effects) × SomePendingTouches effects touch)
LeafTouches (doing left) touch = SomePendingTouches left touch

abbrev pub GuardTouches : {P : Type 0} → Option (Guard P) → Touch → Type 0
GuardTouches None touch = ⊥
GuardTouches (Some guard) touch = SomeRead guard.reads touch

abbrev pub SomeExitTouches : {P : Type 0} → List (Exit P) → Touch → Type 0
SomeExitTouches [] touch = ⊥
SomeExitTouches (exit ∷ exits) touch = GuardTouches exit.when touch ⊎ SomeExitTouches exits touch

-- what holds of the active terms of a pool, or of its work for some value
abbrev pub NowOrForAValue : (now : Type 0) → (later : ℤ → Type 0) → Type 0
NowOrForAValue now later = now ⊎ ((value : ℤ) × later value)

-- a term touches what its parts do, now and in every state for all values of the variables, whether it comes to them or not; a pool takes from its stream
abbrev mutual
  pub Touches : {P : Type 0} → Term P → Touch → Type 0
  Touches (leaf place work) touch = LeafTouches work touch
  Touches (list kind before parts) touch = SomePartTouches parts touch
  Touches (owning own part) touch = Touches part (inner touch)
  Touches (nested body exits own state values part) touch =
      Touches part (inner touch)
      ⊎ (((state : ℕ) × (values : Values) × Touches (body state values) (inner touch))
      ⊎ ((state : ℕ) × (values : Values) × SomeExitTouches (exits state values) (inner touch)))
  Touches (ended own) touch = ⊥
  Touches (pool level container body active closed) touch =
      (touch ≡ takes level container) ⊎ NowOrForAValue (SomeActiveTouches active touch) (λ value. Touches (body value) touch)

  pub SomePartTouches : {P : Type 0} → Terms P → Touch → Type 0
  SomePartTouches none touch = ⊥
  SomePartTouches (also part parts) touch = Touches part touch ⊎ SomePartTouches parts touch

  pub SomeActiveTouches : {P : Type 0} → Actives P → Touch → Type 0
  SomeActiveTouches idle touch = ⊥
  SomeActiveTouches (busy value part active) touch = Touches part touch ⊎ SomeActiveTouches active touch

-- what the work of a pool touches, now and for any value: all that the pool touches but its own take
abbrev pub PoolTouches : {P : Type 0} → (body : ℤ → Term P) → Actives P → Touch → Type 0
PoolTouches body active touch = NowOrForAValue (SomeActiveTouches active touch) (λ value. Touches (body value) touch)

-- a change is not seen by what touches this: it writes no element that is read, and leaves a stream alone that is taken from
abbrev pub SparesTouch : Touch → Change → Type 0
SparesTouch (reads from) change = SparesElement from change
SparesTouch (takes level container) change = SparesStream level container change
SparesTouch touch change = ⊤

-- a change is not seen by work, whatever it may touch
abbrev pub SparesWork : {P : Type 0} → Term P → Change → Type 0
SparesWork term change = (touch : Touch) → Touches term touch → SparesTouch touch change
