-- What is there, and work that touches what is not.
use Rattle.std.proofs.Common.{◌≡◌, inl, inr, ℕ, ◌≤◌, ℤ, pos, List, [], ◌∷◌, length, Option, Some, None, Result, Ok, true, false, slice_get, refl, sym, subst, arith}
use Rattle.sd_num.specs.declared.width.Width.TheVariants.{W64}
use Rattle.sd_num.specs.declared.width.Width.{Width}
use Rattle.sd_work.specs.Memory.{Contents, array, stream, Memory, Memories, Reference}
use Rattle.sd_work.specs.Leaf.{Pending, write_value, Leaf, instance_of, copy_of}
use Rattle.sd_work.specs.Exit.{Values, Exit}
use Rattle.sd_work.specs.Residual.{Items, Term, leaf, list, owning, nested, pool, none, also, idle, busy}
use Rattle.sd_work.specs.declared.fault.FaultKind.{FaultKind}
use Rattle.sd_work.specs.Touch.{Touch, reads, writes, pushes, takes, SomePendingTouches}
use Rattle.sd_graph.specs.There.{Holds, IsElementThere, IsStreamThere, IsThere, TouchesWhatIsThere}

-- ---- what a place holds

held_one : (memories : Memories) (level container : ℕ) (memory : Memory) (found contents : Contents) → slice_get memories level ≡ Some memory → slice_get memory container ≡ Some found →
    Holds memories level container contents → found ≡ contents
held_one memories level container memory found contents on_stack in_memory holds =
    let same : memory ≡ holds.memory = one_of_some memory holds.memory (slice_get memories level) on_stack holds.on_stack in
    one_of_some found contents (slice_get memory container) in_memory (subst (λ one. slice_get one container ≡ Some contents) (sym same) holds.in_memory)
  where
    one_of_some : {A : Type 0} (first second : A) (given : Option A) → given ≡ Some first → given ≡ Some second → first ≡ second
    one_of_some first second given e h = cc

nothing_held : (memories : Memories) (level container : ℕ) (memory : Memory) (contents : Contents) → slice_get memories level ≡ Some memory → slice_get memory container ≡ None → Holds memories level container contents → ⊥
nothing_held memories level container memory contents on_stack missing holds =
    let same : memory ≡ holds.memory = one_of_some memory holds.memory (slice_get memories level) on_stack holds.on_stack in
    none_some (slice_get memory container) missing (subst (λ one. slice_get one container ≡ Some contents) (sym same) holds.in_memory)
  where
    one_of_some : {A : Type 0} (first second : A) (given : Option A) → given ≡ Some first → given ≡ Some second → first ≡ second
    one_of_some first second given e h = cc

    none_some : (given : Option Contents) → given ≡ None → given ≡ Some contents → ⊥
    none_some given e h = cc

pub no_element : (memories : Memories) (reference : Reference) (memory : Memory) (elements : List ℤ) → slice_get memories reference.level ≡ Some memory → slice_get memory reference.container ≡ Some (array W64 elements) →
    length elements ≤ reference.element → IsElementThere memories reference → ⊥
no_element memories reference memory elements on_stack in_memory few there =
    let same : array W64 elements ≡ array there.width there.elements = held_one memories reference.level reference.container memory (array W64 elements) (array there.width there.elements) on_stack in_memory there.held in
    let one : elements ≡ there.elements = arrays elements there.width there.elements same in
    absurd (omega (arith, there.within, subst (λ list. length list ≤ reference.element) one few))
  where
    arrays : (first : List ℤ) (width : Width) (second : List ℤ) → array W64 first ≡ array width second → first ≡ second
    arrays first width second e = cc

-- ---- an array with two elements, and a stream in which nothing waits

abbrev memory : Memory
memory = array W64 (pos 1 ∷ pos 2 ∷ []) ∷ stream W64 [] ∷ []

abbrev element_at : (level container element : ℕ) → Reference
element_at level container element = record { level = level; container = container; element = element }

an_element_of_an_array_is_there : IsThere (memory ∷ []) (reads (element_at 0 0 1))
an_element_of_an_array_is_there = record { width = W64; elements = pos 1 ∷ pos 2 ∷ []; held = record { memory = memory; on_stack = refl; in_memory = refl }; within = omega arith }

an_element_that_is_written_is_there : IsThere (memory ∷ []) (writes (element_at 0 0 0) None)
an_element_that_is_written_is_there = record { width = W64; elements = pos 1 ∷ pos 2 ∷ []; held = record { memory = memory; on_stack = refl; in_memory = refl }; within = omega arith }

one_element_more_is_not_there : IsThere (memory ∷ []) (reads (element_at 0 0 2)) → ⊥
one_element_more_is_not_there there = no_element (memory ∷ []) (element_at 0 0 2) memory (pos 1 ∷ pos 2 ∷ []) refl refl (omega arith) there

nor_can_it_be_written : IsThere (memory ∷ []) (writes (element_at 0 0 2) None) → ⊥
nor_can_it_be_written there = one_element_more_is_not_there there

a_stream_has_no_element : IsThere (memory ∷ []) (reads (element_at 0 1 0)) → ⊥
a_stream_has_no_element there = stream_array there.width there.elements (held_one (memory ∷ []) 0 1 memory (stream W64 []) (array there.width there.elements) refl refl there.held)
  where
    stream_array : (width : Width) (elements : List ℤ) → stream W64 [] ≡ array width elements → ⊥
    stream_array width elements e = cc

a_stream_is_there : IsThere (memory ∷ []) (pushes 0 1) × IsThere (memory ∷ []) (takes 0 1)
a_stream_is_there = (there, there)
  where
    there : IsStreamThere (memory ∷ []) 0 1
    there = record { width = W64; values = []; held = record { memory = memory; on_stack = refl; in_memory = refl } }

an_array_is_no_stream : IsThere (memory ∷ []) (pushes 0 0) → ⊥
an_array_is_no_stream there = array_stream there.width there.values (held_one (memory ∷ []) 0 0 memory (array W64 (pos 1 ∷ pos 2 ∷ [])) (stream there.width there.values) refl refl there.held)
  where
    array_stream : (width : Width) (values : List ℤ) → array W64 (pos 1 ∷ pos 2 ∷ []) ≡ stream width values → ⊥
    array_stream width values e = cc

nor_can_it_be_taken_from : IsThere (memory ∷ []) (takes 0 0) → ⊥
nor_can_it_be_taken_from there = an_array_is_no_stream there

a_container_more_is_not_there : (IsThere (memory ∷ []) (reads (element_at 0 2 0)) → ⊥) × (IsThere (memory ∷ []) (pushes 0 2) → ⊥)
a_container_more_is_not_there =
    (λ there. nothing_held (memory ∷ []) 0 2 memory (array there.width there.elements) refl refl there.held, λ there. nothing_held (memory ∷ []) 0 2 memory (stream there.width there.values) refl refl there.held)

a_memory_more_is_not_there : (IsThere (memory ∷ []) (reads (element_at 1 0 0)) → ⊥) × (IsThere (memory ∷ []) (takes 1 1) → ⊥)
a_memory_more_is_not_there = (λ there. off_stack there.held.memory there.held.on_stack, λ there. off_stack there.held.memory there.held.on_stack)
  where
    off_stack : (other : Memory) → slice_get (memory ∷ []) 1 ≡ Some other → ⊥
    off_stack other e = cc

-- ---- work

abbrev nothing_meant : Result (List Pending) FaultKind
nothing_meant = Ok []

abbrev leaf_of : Leaf → Term ℕ
leaf_of work = leaf 0 work

abbrev that_reads : Reference → Term ℕ
that_reads from = leaf_of (instance_of (Some from ∷ []) (λ given. nothing_meant))

abbrev inside : Reference
inside = element_at 0 0 1

abbrev beyond : Reference
beyond = element_at 0 0 2

what_is_read_is_there : TouchesWhatIsThere (memory ∷ []) (that_reads inside)
what_is_read_is_there = λ touch touched. elim touched [
  | inl read ↦ elim read [ inl here ↦ subst (IsThere (memory ∷ [])) (sym here) an_element_of_an_array_is_there | inr later ↦ elim later [ ] ]
  | inr done ↦ elim (nothing_done done.1 touch done.2 done.3) [ ]
]
  where
    nothing_done : (effects : List Pending) (touch : Touch) → nothing_meant ≡ Ok effects → SomePendingTouches effects touch → ⊥
    nothing_done [] touch e touched = touched
    nothing_done (next ∷ left) touch e touched = cc

what_is_read_is_not_there : TouchesWhatIsThere (memory ∷ []) (that_reads beyond) → ⊥
what_is_read_is_not_there there = one_element_more_is_not_there (there (reads beyond) (inl (inl refl)))

an_access_outside_touches_nothing : TouchesWhatIsThere (memory ∷ []) (leaf_of (copy_of ((None, None) ∷ [])))
an_access_outside_touches_nothing = λ touch touched. elim touched [ inl here ↦ elim here [ inl read ↦ elim read [ ] | inr write ↦ elim write [ ] ] | inr later ↦ elim later [ ] ]

what_an_instance_may_write_is_not_there : TouchesWhatIsThere (memory ∷ []) (leaf_of (instance_of [] (λ given. Ok (write_value (pos 1) (Some beyond) None ∷ [])))) → ⊥
what_an_instance_may_write_is_not_there there = nor_can_it_be_written (there (writes beyond None) (inr ([], _, refl, inl refl)))

the_second_part_counts_too : TouchesWhatIsThere (memory ∷ []) (list Items (λ i j. false) (also (that_reads inside) (also (that_reads beyond) none))) → ⊥
the_second_part_counts_too there = what_is_read_is_not_there there.1.0

-- an owner's memory is the innermost one: what was at hand stands one memory further
an_owner_has_other_elements : TouchesWhatIsThere (memory ∷ []) (owning [] (that_reads inside)) → ⊥
an_owner_has_other_elements there =
    let read : IsElementThere ([] ∷ memory ∷ []) inside = there (reads inside) (inl (inl refl)) in
    nothing_held ([] ∷ memory ∷ []) 0 0 [] (array read.width read.elements) refl refl read.held

an_owner_s_own_element : TouchesWhatIsThere [] (owning memory (leaf_of (copy_of ((Some inside, Some inside) ∷ []))))
an_owner_s_own_element = λ touch touched. elim touched [
  | inl here ↦ elim here [
    | inl read ↦ subst (IsThere (memory ∷ [])) (sym read) an_element_of_an_array_is_there
    | inr write ↦ subst (IsThere (memory ∷ [])) (sym write) an_element_of_an_array_is_there
  ]
  | inr later ↦ elim later [ ]
]

-- a run of a graph whose states are these, from this one on
abbrev run_with : (body : ℕ → Values → Term ℕ) → (exits : ℕ → Values → List (Exit ℕ)) → (part : Term ℕ) → Term ℕ
run_with body exits part = nested body exits memory 0 [] part

abbrev nothing_to_do : Term ℕ
nothing_to_do = list Items (λ i j. false) none

what_is_left_of_a_state_counts : TouchesWhatIsThere [] (run_with (λ state values. nothing_to_do) (λ state values. []) (that_reads beyond)) → ⊥
what_is_left_of_a_state_counts there = what_is_read_is_not_there there.0

other_states_count_too : TouchesWhatIsThere [] (run_with (λ state values. that_reads beyond) (λ state values. []) nothing_to_do) → ⊥
other_states_count_too there = what_is_read_is_not_there (there.1 3 [])

conditions_count_too : TouchesWhatIsThere [] (run_with (λ state values. nothing_to_do)
    (λ state values. record { when = Some (record { place = 0; reads = Some beyond ∷ []; holds = λ given. Ok true }); marked = false; state = 1; values = [] } ∷ []) nothing_to_do) → ⊥
conditions_count_too there = one_element_more_is_not_there (there.2 0 [] (reads beyond) (inl (inl refl)))

a_pool_is_over_a_stream : TouchesWhatIsThere (memory ∷ []) (pool 0 0 (λ value. nothing_to_do) idle false) → ⊥
a_pool_is_over_a_stream there = nor_can_it_be_taken_from there.0

what_it_does_with_a_value_counts : TouchesWhatIsThere (memory ∷ []) (pool 0 1 (λ value. that_reads beyond) idle false) → ⊥
what_it_does_with_a_value_counts there = what_is_read_is_not_there (there.2 (pos 0))

its_active_terms_count_too : TouchesWhatIsThere (memory ∷ []) (pool 0 1 (λ value. nothing_to_do) (busy (pos 4) (that_reads beyond) idle) false) → ⊥
its_active_terms_count_too there = what_is_read_is_not_there there.1.0
