-- What is there: the elements and streams of a stack of memories, and work that touches nothing else.
use Rattle.std.specs.Prelude.{◌≡◌, ◌<◌, ℕ, ℤ, List, ◌∷◌, length, Some, slice_get, ⊤}
use Rattle.sd_num.specs.declared.width.Width.{Width}
use Rattle.sd_work.specs.Memory.{Contents, array, stream, Memory, Memories, Reference}
use Rattle.sd_work.specs.Exit.{Values}
use Rattle.sd_work.specs.Residual.{Term, leaf, list, owning, nested, ended, pool, Terms, none, also, Actives, idle, busy}
use Rattle.sd_work.specs.Touch.{Touch, reads, writes, pushes, takes, LeafTouches, SomeExitTouches}

-- the memory of this level is on the stack, has a container of this number, and holds this in it
pub record Holds (memories : Memories) (level container : ℕ) (contents : Contents) : Type 0 where
  pub memory : Memory
  pub on_stack : slice_get memories level ≡ Some memory
  pub in_memory : slice_get memory container ≡ Some contents

-- an element is there: its container holds an array, which has an element of this number
pub record IsElementThere (memories : Memories) (reference : Reference) : Type 0 where
  pub width : Width
  pub elements : List ℤ
  pub held : Holds memories reference.level reference.container (array width elements)
  pub within : reference.element < length elements

-- a stream is there: the container holds one
pub record IsStreamThere (memories : Memories) (level container : ℕ) : Type 0 where
  pub width : Width
  pub values : List ℤ
  pub held : Holds memories level container (stream width values)

-- what is touched is there: an element that is read or written, a stream that is pushed into or taken from
abbrev pub IsThere : Memories → Touch → Type 0
IsThere memories (reads from) = IsElementThere memories from
IsThere memories (writes to by) = IsElementThere memories to
IsThere memories (pushes level container) = IsStreamThere memories level container
IsThere memories (takes level container) = IsStreamThere memories level container

-- All that work touches over this stack is there, now and in all that may be unfolded later, in every state for all values of
-- the variables and of each pool for all values. Changes keep what is there, so what an owner holds now stands for what it will hold.
abbrev mutual
  pub TouchesWhatIsThere : {P : Type 0} → Memories → Term P → Type 0
  TouchesWhatIsThere memories (leaf place work) = (touch : Touch) → LeafTouches work touch → IsThere memories touch
  TouchesWhatIsThere memories (list kind before parts) = PartsTouchWhatIsThere memories parts
  TouchesWhatIsThere memories (owning own part) = TouchesWhatIsThere (own ∷ memories) part
  TouchesWhatIsThere memories (nested body exits own state values part) =
      TouchesWhatIsThere (own ∷ memories) part
      × ((state : ℕ) (values : Values) → TouchesWhatIsThere (own ∷ memories) (body state values))
      × ((state : ℕ) (values : Values) (touch : Touch) → SomeExitTouches (exits state values) touch → IsThere (own ∷ memories) touch)
  TouchesWhatIsThere memories (ended own) = ⊤
  TouchesWhatIsThere memories (pool level container body active closed) =
      IsStreamThere memories level container × ActivesTouchWhatIsThere memories active × ((value : ℤ) → TouchesWhatIsThere memories (body value))

  pub PartsTouchWhatIsThere : {P : Type 0} → Memories → Terms P → Type 0
  PartsTouchWhatIsThere memories none = ⊤
  PartsTouchWhatIsThere memories (also part parts) = TouchesWhatIsThere memories part × PartsTouchWhatIsThere memories parts

  pub ActivesTouchWhatIsThere : {P : Type 0} → Memories → Actives P → Type 0
  ActivesTouchWhatIsThere memories idle = ⊤
  ActivesTouchWhatIsThere memories (busy value part active) = TouchesWhatIsThere memories part × ActivesTouchWhatIsThere memories active
