-- What a move changes in the memories.
use Rattle.std.specs.Prelude.{ℕ, zero, suc, ℤ, List, [], ◌∷◌, ◌++◌, Option, Some, None}
use Rattle.sd_num.specs.Width.{wrapped_to}
use Rattle.sd_num.specs.Resolution.{resolved, stored}
use Rattle.sd_num.specs.declared.resolution.Resolution.{Resolution}
use Rattle.sd_num.specs.declared.width.Width.{Width}
use Rattle.sd_work.specs.Memory.{Contents, array, stream, Memory, Memories, Reference}

-- nothing; a value written to an element, with or without a resolution; a value appended to a stream; the value at a position of a stream taken out
pub data Change : Type 0 where
  nothing : Change
  write : (to : Reference) → (by : Option Resolution) → (value : ℤ) → Change
  push : (level container : ℕ) → (value : ℤ) → Change
  take : (level container : ℕ) → (position : ℕ) → Change

-- what an old and a new element become: the new one, or the two resolved
abbrev pub became : Option Resolution → (old new : ℤ) → ℤ
became None old new = new
became (Some resolution) old new = resolved resolution old new

-- what stands in an element of a width after a value is written there
abbrev pub written : Width → Option Resolution → (value old : ℤ) → ℤ
written width by value old = stored width by old value

-- a list with the member of this number changed; a list without such a member stays as it is
abbrev pub changed_at : {A : Type 0} → ℕ → (A → A) → List A → List A
changed_at number change [] = []
changed_at zero change (member ∷ members) = change member ∷ members
changed_at (suc number) change (member ∷ members) = member ∷ changed_at number change members

-- a list without the member of this number
abbrev pub without : {A : Type 0} → ℕ → List A → List A
without number [] = []
without zero (member ∷ members) = members
without (suc number) (member ∷ members) = member ∷ without number members

-- the elements of an array changed, by its width; a stream stays as it is
abbrev pub with_elements : (Width → List ℤ → List ℤ) → Contents → Contents
with_elements change (array width elements) = array width (change width elements)
with_elements change (stream width values) = stream width values

-- the values of a stream changed, by its width; an array stays as it is
abbrev pub with_values : (Width → List ℤ → List ℤ) → Contents → Contents
with_values change (array width elements) = array width elements
with_values change (stream width values) = stream width (change width values)

-- one more value, the newest, which is wrapped to the width
abbrev pub appended : (value : ℤ) → Width → (values : List ℤ) → List ℤ
appended value width values = values ++ wrapped_to width value ∷ []

-- a container of a memory of the stack changed
abbrev pub with_contents : (level container : ℕ) → (Contents → Contents) → Memories → Memories
with_contents level container change memories = changed_at level (changed_at container change) memories

-- the memories after a change
abbrev pub apply : Change → Memories → Memories
apply nothing memories = memories
apply (write to by value) memories = with_contents to.level to.container (with_elements (λ width. changed_at to.element (written width by value))) memories
apply (push level container value) memories = with_contents level container (with_values (appended value)) memories
apply (take level container position) memories = with_contents level container (with_values (λ width. without position)) memories

-- a write seen from outside the innermost memory: one inside it is none
abbrev pub outer_write : (level container element : ℕ) → Option Resolution → ℤ → Change
outer_write zero container element by value = nothing
outer_write (suc level) container element by value = write (record { level = level; container = container; element = element }) by value

-- a change seen from outside the innermost memory: one inside it is none
abbrev pub outer : Change → Change
outer nothing = nothing
outer (write to by value) = outer_write to.level to.container to.element by value
outer (push zero container value) = nothing
outer (push (suc level) container value) = push level container value
outer (take zero container position) = nothing
outer (take (suc level) container position) = take level container position

-- the innermost memory of a stack; an empty stack has an empty one
abbrev pub innermost : Memories → Memory
innermost [] = []
innermost (memory ∷ memories) = memory

-- the innermost memory after a change
abbrev pub own_after : Change → Memory → Memory
own_after change own = innermost (apply change (own ∷ []))
