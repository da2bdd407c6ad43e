-- Terms as they are unfolded: nothing is begun, no value waits, and no pool has an active term.
use Rattle.std.specs.Prelude.{◌≡◌, ℕ, ℤ, List, [], ◌∷◌, false, ⊤}
use Rattle.sd_work.specs.Memory.{Memory, values_of}
use Rattle.sd_work.specs.Leaf.{Pending, write_value, transfer, push_to, Leaf, reading, doing}
use Rattle.sd_work.specs.Exit.{Values}
use Rattle.sd_work.specs.Residual.{Term, leaf, list, owning, nested, ended, pool, Terms, none, also, Actives, idle, busy}

-- no value is left to push
abbrev pub PushesNothing : List Pending → Type 0
PushesNothing [] = ⊤
PushesNothing (write_value value to by ∷ left) = PushesNothing left
PushesNothing (transfer from to by ∷ left) = PushesNothing left
PushesNothing (push_to level container value ∷ left) = ⊥

-- an instance that has not begun; a copy or a reduction, which pushes nothing
abbrev pub IsNewLeaf : Leaf → Type 0
IsNewLeaf (reading begun left values evaluation) = begun ≡ false
IsNewLeaf (doing left) = PushesNothing left

-- no value waits in a stream of this memory
abbrev pub HasEmptyStreams : Memory → Type 0
HasEmptyStreams [] = ⊤
HasEmptyStreams (contents ∷ memory) = (values_of contents ≡ []) × HasEmptyStreams memory

-- a term as it is unfolded: new leaves, empty streams in its own memories, and open pools without active terms
abbrev mutual
  pub IsNew : {P : Type 0} → Term P → Type 0
  IsNew (leaf place work) = IsNewLeaf work
  IsNew (list kind before parts) = AreNew parts
  IsNew (owning own part) = HasEmptyStreams own × IsNew part
  IsNew (nested body exits own state values part) = HasEmptyStreams own × IsNew part
  IsNew (ended own) = HasEmptyStreams own
  IsNew (pool level container body active closed) = (active ≡ idle) × (closed ≡ false)

  pub AreNew : {P : Type 0} → Terms P → Type 0
  AreNew none = ⊤
  AreNew (also part parts) = IsNew part × AreNew parts

-- what may be unfolded later is new, for every state and all values
abbrev mutual
  pub UnfoldsNew : {P : Type 0} → Term P → Type 0
  UnfoldsNew (leaf place work) = ⊤
  UnfoldsNew (list kind before parts) = UnfoldNew parts
  UnfoldsNew (owning own part) = UnfoldsNew part
  UnfoldsNew (nested body exits own state values part) =
      UnfoldsNew part × ((state : ℕ) (values : Values) → IsNew (body state values) × UnfoldsNew (body state values))
  UnfoldsNew (ended own) = ⊤
  UnfoldsNew (pool level container body active closed) =
      UnfoldActiveNew active × ((value : ℤ) → IsNew (body value) × UnfoldsNew (body value))

  pub UnfoldNew : {P : Type 0} → Terms P → Type 0
  UnfoldNew none = ⊤
  UnfoldNew (also part parts) = UnfoldsNew part × UnfoldNew parts

  pub UnfoldActiveNew : {P : Type 0} → Actives P → Type 0
  UnfoldActiveNew idle = ⊤
  UnfoldActiveNew (busy value part active) = UnfoldsNew part × UnfoldActiveNew active
