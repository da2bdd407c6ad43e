-- Elements that are read, and effects on memories.
use Rattle.std.specs.Prelude.{ℤ, List, [], ◌∷◌, Option, Some, None, Ok, Err}
use Rattle.sd_num.specs.Resolution.{stored}
use Rattle.sd_num.specs.declared.resolution.Resolution.{Resolution}
use Rattle.sd_work.specs.declared.fault.FaultKind.TheVariants.{Subscript}
use Rattle.sd_work.specs.Memory.{Memories, Reference, look}
use Rattle.sd_work.specs.Change.{changed_at, with_elements, with_values, with_contents, appended}
use Rattle.sd_work.specs.Leaf.{Pending, write_value, transfer, push_to}
use Rattle.sd_work.specs.BigStep.{reached}
use Rattle.sd_graph.specs.TaskletMeaning.{Meaning, and_then}
use Rattle.sd_graph.specs.declared.place.Place.{Place}
use Rattle.sd_says.specs.Work.{Doing, at_place, spending_one}

-- ---- reading

-- the value of an element, which is to be inside
abbrev pub element_value : Memories → Option Reference → Meaning ℤ
element_value memories None = Err Subscript
element_value memories (Some element) = Ok (look element memories)

-- the values of elements
abbrev pub element_values : Memories → List (Option Reference) → Meaning (List ℤ)
element_values memories [] = Ok []
element_values memories (first ∷ rest) = and_then (element_value memories first) (λ value. and_then (element_values memories rest) (λ values. Ok (value ∷ values)))

-- ---- effects

-- a value stored in an element, which is to be inside
abbrev pub stored_in : Option Reference → (by : Option Resolution) → (value : ℤ) → Memories → Meaning Memories
stored_in None by value memories = Err Subscript
stored_in (Some to) by value memories =
    Ok (with_contents to.level to.container (with_elements (λ width. changed_at to.element (λ old. stored width by old value))) memories)

abbrev pub done : Pending → Memories → Meaning Memories
done (write_value value to by) memories = stored_in to by value memories
done (transfer from to by) memories = and_then (element_value memories from) (λ value. stored_in to by value memories)
done (push_to level container value) memories = Ok (with_contents level container (with_values (appended value)) memories)

-- effects one after another
abbrev pub all_done : List Pending → Memories → Meaning Memories
all_done [] memories = Ok memories
all_done (first ∷ rest) memories = and_then (done first memories) (all_done rest)

abbrev pub effects_at : Place → List Pending → Doing
effects_at place effects memories turns = at_place place (all_done effects memories) (λ memories. reached memories turns)

-- an instance: it spends a turn, evaluates, and then does what that gave
abbrev pub instance_at : Place → (Memories → Meaning (List Pending)) → Doing
instance_at place evaluated memories turns =
    spending_one turns (λ turns. at_place place (evaluated memories) (λ effects. effects_at place effects memories turns))
