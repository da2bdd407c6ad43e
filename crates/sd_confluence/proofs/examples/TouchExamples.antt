-- What work touches, and which touches conflict.
use Rattle.std.proofs.Common.{◌≡◌, ◌↔◌, ℕ, zero, suc, ◌⊎◌, ℤ, pos, negsuc, ◌-ℤ◌, List, [], ◌∷◌, Option, Some, None, Ok, Err, Bool, true, false, refl, sym, subst, ap, inl, inr, arith}
use Rattle.sd_num.specs.declared.resolution.Resolution.TheVariants.{Sum, Product, Last}
use Rattle.sd_work.specs.declared.fault.FaultKind.TheVariants.{Division}
use Rattle.sd_num.specs.declared.width.Width.TheVariants.{W64}
use Rattle.sd_work.specs.Memory.{Memory, array, Reference}
use Rattle.sd_work.specs.Leaf.{Pending, write_value, push_to, reading, instance_of, copy_of}
use Rattle.sd_work.specs.Exit.{Values, Exit}
use Rattle.sd_work.specs.Residual.{Items, Term, leaf, list, owning, nested, ended, pool, begun, none, Actives, idle, busy}
use Rattle.sd_work.specs.Touch.{Touch, reads, writes, pushes, takes, AreCompatible, inner, SomeRead, SomePendingTouches, SomeExitTouches, Touches, PoolTouches}
use Rattle.sd_work.proofs.examples.ExampleParts.{cell, value_of, task, sets, two, unordered, points}
use Rattle.sd_work.proofs.examples.PoolExamples.{counts_down}
use Rattle.sd_work.proofs.examples.RunExamples.{round, leads, loop}

-- ---- two touches

abbrev pub at : (element : ℕ) → Reference
at element = record { level = 0; container = 0; element = element }

two_pushes_into_one_stream_do_not_conflict : AreCompatible (pushes 0 1) (pushes 0 1)
two_pushes_into_one_stream_do_not_conflict = tt

a_push_and_a_take_of_one_stream_conflict : AreCompatible (pushes 0 1) (takes 0 1) → ⊥
a_push_and_a_take_of_one_stream_conflict h = h refl refl

a_take_and_a_push_of_one_stream_conflict : AreCompatible (takes 0 1) (pushes 0 1) → ⊥
a_take_and_a_push_of_one_stream_conflict h = h refl refl

a_push_and_a_take_of_two_streams_do_not_conflict : AreCompatible (pushes 0 1) (takes 0 2)
a_push_and_a_take_of_two_streams_do_not_conflict = λ e f. cc

-- the number is the same, the memory another one
a_take_and_a_push_of_two_memories_do_not_conflict : AreCompatible (takes 0 1) (pushes 1 1)
a_take_and_a_push_of_two_memories_do_not_conflict = λ e f. cc

two_takes_of_one_stream_conflict : AreCompatible (takes 0 1) (takes 0 1) → ⊥
two_takes_of_one_stream_conflict h = h refl refl

takes_of_two_streams_do_not_conflict : AreCompatible (takes 0 1) (takes 0 2)
takes_of_two_streams_do_not_conflict = λ e f. cc

pub sums_into_one_element_do_not_conflict : AreCompatible (writes (at 0) (Some Sum)) (writes (at 0) (Some Sum))
sums_into_one_element_do_not_conflict = λ e. (refl, λ same. cc)

a_sum_and_a_product_into_one_element_conflict : AreCompatible (writes (at 0) (Some Sum)) (writes (at 0) (Some Product)) → ⊥
a_sum_and_a_product_into_one_element_conflict h = let e : Sum ≡ Product = (h refl).0 in cc

two_last_values_of_one_element_conflict : AreCompatible (writes (at 0) (Some Last)) (writes (at 0) (Some Last)) → ⊥
two_last_values_of_one_element_conflict h = (h refl).1 refl

two_replacements_of_one_element_conflict : AreCompatible (writes (at 0) None) (writes (at 0) None) → ⊥
two_replacements_of_one_element_conflict h = h refl

a_sum_and_a_replacement_of_one_element_conflict : AreCompatible (writes (at 0) (Some Sum)) (writes (at 0) None) → ⊥
a_sum_and_a_replacement_of_one_element_conflict h = h refl

pub replacements_of_two_elements_do_not_conflict : AreCompatible (writes (at 0) None) (writes (at 1) None)
replacements_of_two_elements_do_not_conflict = λ e. let clash : 0 ≡ 1 = ap (λ (r : Reference). r.element) e in let wrong : ⊥ = omega (arith, clash) in elim wrong [ ]

a_read_and_a_write_of_one_element_conflict : AreCompatible (reads (at 0)) (writes (at 0) (Some Sum)) → ⊥
a_read_and_a_write_of_one_element_conflict h = h refl

a_write_and_a_read_of_one_element_conflict : AreCompatible (writes (at 0) (Some Sum)) (reads (at 0)) → ⊥
a_write_and_a_read_of_one_element_conflict h = h refl

a_read_and_a_write_of_two_elements_do_not_conflict : AreCompatible (reads (at 0)) (writes (at 1) None)
a_read_and_a_write_of_two_elements_do_not_conflict = λ e. let clash : 0 ≡ 1 = ap (λ (r : Reference). r.element) e in omega (arith, clash)

two_reads_of_one_element_do_not_conflict : AreCompatible (reads (at 0)) (reads (at 0))
two_reads_of_one_element_do_not_conflict = tt

-- ---- what a term touches

-- what a tasklet does, it does by some values
abbrev Does : List (Option Reference) → (List ℤ → List Pending) → Touch → Type 0
Does from effects touch = SomeRead from touch ⊎ ((given : List ℤ) × SomePendingTouches (effects given) touch)

pub task_does : (line : ℕ) (from : List (Option Reference)) (effects : List ℤ → List Pending) (a : Touch) → Touches (task line from effects) a → Does from effects a
task_does line from effects a (inl h) = inl h
task_does line from effects a (inr h) = let same : effects h.0 ≡ h.1 = cc in inr (h.0, subst (λ e. SomePendingTouches e a) (sym same) h.3)

-- a tasklet that has read one value, and writes only for a negative one
abbrev by_sign : ℤ → List Pending
by_sign (pos n) = []
by_sign (negsuc n) = write_value (pos 1) (cell 0 0 0) None ∷ []

abbrev has_read : Term ℕ
has_read = leaf 1 (reading true [] (pos 7 ∷ []) (λ values. Ok (by_sign (value_of values 0))))

an_instance_touches_what_it_may_do_by_other_values : Touches has_read (writes (at 0) None)
an_instance_touches_what_it_may_do_by_other_values = inr (negsuc 0 ∷ [], write_value (pos 1) (cell 0 0 0) None ∷ [], refl, inl refl)

-- a tasklet that has read one value and has three left, of which one is outside of its array
abbrev has_to_read : Term ℕ
has_to_read = leaf 1 (reading true (cell 0 0 1 ∷ None ∷ cell 0 0 2 ∷ []) (pos 7 ∷ []) (λ values. Ok []))

an_instance_touches_what_it_has_still_to_read : Touches has_to_read (reads (at 1)) × Touches has_to_read (reads (at 2))
an_instance_touches_what_it_has_still_to_read = (inl (inl refl), inl (inr (inr (inl refl))))

-- what it has read is no more touched
an_instance_does_not_touch_what_it_has_read : Touches has_read (reads (at 0)) → ⊥
an_instance_does_not_touch_what_it_has_read (inl h) = elim h [ ]
an_instance_does_not_touch_what_it_has_read (inr h) =
    let same : by_sign (value_of h.0 0) ≡ h.1 = cc in writes_alone (value_of h.0 0) (subst (λ e. SomePendingTouches e (reads (at 0))) (sym same) h.3)
  where
    writes_alone : (v : ℤ) → SomePendingTouches (by_sign v) (reads (at 0)) → ⊥
    writes_alone (pos n) h = elim h [ ]
    writes_alone (negsuc n) (inl e) = let clash : reads (at 0) ≡ writes (at 0) None = e in cc
    writes_alone (negsuc n) (inr h) = elim h [ ]

abbrev divides : Term ℕ
divides = leaf 1 (instance_of [] (λ values. Err Division))

an_evaluation_that_faults_touches_nothing : (a : Touch) → Touches divides a → ⊥
an_evaluation_that_faults_touches_nothing a (inl h) = elim h [ ]
an_evaluation_that_faults_touches_nothing a (inr h) = let clash : Err Division ≡ Ok h.1 = h.2 in cc

abbrev copies : Term ℕ
copies = leaf 1 (copy_of ((cell 0 0 0, cell 0 0 1) ∷ []))

a_copy_touches_both_ends : Touches copies (reads (at 0)) × Touches copies (writes (at 1) None)
a_copy_touches_both_ends = (inl (inl refl), inl (inr refl))

-- an array of one element
abbrev pub cells : Memory
cells = array W64 (pos 0 ∷ []) ∷ []

-- a tasklet that replaces an element touches that and no more
pub replaces : (line : ℕ) (l p : ℕ) (v : ℤ) (a : Touch) → Touches (sets line (cell l 0 p) v) a → a ≡ writes (record { level = l; container = 0; element = p }) None
replaces line l p v a h = elim (task_does line [] (λ values. write_value v (cell l 0 p) None ∷ []) a h) [ inl x ↦ elim x [ ] | inr x ↦ elim x.1 [ inl e ↦ e | inr y ↦ elim y [ ] ] ]

-- which memory a touch is of
abbrev pub level_of : Touch → ℕ
level_of (reads from) = from.level
level_of (writes to by) = to.level
level_of (pushes level container) = level
level_of (takes level container) = level

inner_level : (a : Touch) → level_of (inner a) ≡ suc (level_of a)
inner_level (reads from) = refl
inner_level (writes to by) = refl
inner_level (pushes level container) = refl
inner_level (takes level container) = refl

-- what is touched outside is not of the innermost memory
pub not_own : (a : Touch) → level_of (inner a) ≡ 0 → ⊥
not_own a e = let up : suc (level_of a) ≡ level_of (inner a) = sym (inner_level a) in cc

a_private_container_is_not_touched_outside : (a : Touch) → Touches (owning cells (sets 1 (cell 0 0 0) (pos 5))) a → ⊥
a_private_container_is_not_touched_outside a h = not_own a (ap level_of (replaces 1 0 0 (pos 5) (inner a) h))

a_container_outside_is_touched_one_level_less : Touches (owning cells (sets 1 (cell 1 0 0) (pos 5))) (writes (at 0) None)
a_container_outside_is_touched_one_level_less = inr ([], write_value (pos 5) (cell 1 0 0) None ∷ [], refl, inl refl)

-- state 0 does nothing, and each later one writes the first variable into an element outside
abbrev later : ℕ → Values → Term ℕ
later zero values = list Items unordered none
later (suc state) values = sets 1 (cell 1 0 0) (value_of values 0)

-- an exit whose condition reads one element
abbrev reading_exit : Option Reference → Exit ℕ
reading_exit from = record { when = Some (record { place = 3; reads = from ∷ []; holds = λ values. Ok true }); marked = false; state = 1; values = pos 5 ∷ [] }

-- state 0 has no condition, and the second one of each later state reads an element outside
abbrev pub conditions : ℕ → Values → List (Exit ℕ)
conditions zero values = record { when = None; marked = false; state = 1; values = pos 5 ∷ [] } ∷ []
conditions (suc state) values = reading_exit (cell 0 0 0) ∷ reading_exit (cell 1 0 1) ∷ []

abbrev later_run : Term ℕ
later_run = begun later conditions cells []

a_nested_run_touches_what_a_later_state_does : Touches later_run (writes (at 0) None)
a_nested_run_touches_what_a_later_state_does = inr (inl (1, pos 5 ∷ [], inr ([], write_value (pos 5) (cell 1 0 0) None ∷ [], refl, inl refl)))

a_nested_run_touches_what_a_later_condition_reads : Touches later_run (reads (at 1))
a_nested_run_touches_what_a_later_condition_reads = inr (inr (1, [], inr (inl (inl refl))))

-- the state that it is in is touched too, though it is none that it comes to
a_nested_run_touches_what_is_left_of_its_state : Touches (nested later conditions cells 0 [] (sets 1 (cell 1 0 2) (pos 5))) (writes (at 2) None)
a_nested_run_touches_what_is_left_of_its_state = inl (inr ([], write_value (pos 5) (cell 1 0 2) None ∷ [], refl, inl refl))

-- a loop reads and writes elements of its own
round_is_inside : (state : ℕ) (values : Values) (a : Touch) → Touches (round state values) a → level_of a ≡ 0
round_is_inside zero values a h = elim h [ ]
round_is_inside (suc state) values a (inl h) =
    elim (task_does 1 [] (λ none_read. write_value (value_of values 0) (cell 0 0 1) (Some Sum) ∷ []) a h) [ inl x ↦ elim x [ ] | inr x ↦ elim x.1 [ inl e ↦ ap level_of e | inr y ↦ elim y [ ] ] ]
round_is_inside (suc state) values a (inr (inl h)) =
    elim (task_does 2 (cell 0 0 0 ∷ []) (λ read. write_value (value_of read 0 -ℤ pos 1) (cell 0 0 0) None ∷ []) a h) [
      | inl x ↦ elim x [ inl e ↦ ap level_of e | inr y ↦ elim y [ ] ]
      | inr x ↦ elim x.1 [ inl e ↦ ap level_of e | inr y ↦ elim y [ ] ]
    ]
round_is_inside (suc state) values a (inr (inr h)) = elim h [ ]

leads_are_inside : (state : ℕ) (values : Values) (a : Touch) → SomeExitTouches (leads state values) a → level_of a ≡ 0
leads_are_inside zero values a (inl h) = elim h [ ]
leads_are_inside zero values a (inr h) = elim h [ ]
leads_are_inside (suc state) values a (inl h) = elim h [ inl e ↦ ap level_of e | inr y ↦ elim y [ ] ]
leads_are_inside (suc state) values a (inr h) = elim h [ ]

containers_of_a_run_are_not_touched_outside : (a : Touch) → Touches (loop cells) a → ⊥
containers_of_a_run_are_not_touched_outside a (inl h) = not_own a (round_is_inside 0 [] (inner a) h)
containers_of_a_run_are_not_touched_outside a (inr (inl h)) = not_own a (round_is_inside h.0 h.1 (inner a) h.2)
containers_of_a_run_are_not_touched_outside a (inr (inr h)) = not_own a (leads_are_inside h.0 h.1 (inner a) h.2)

-- a pool over the stream outside that is container 1
abbrev pub consume : (ℤ → Term ℕ) → (active : Actives ℕ) → (closed : Bool) → Term ℕ
consume body active closed = pool 0 1 body active closed

a_pool_takes_from_its_stream : Touches counts_down (takes 0 1)
a_pool_takes_from_its_stream = inl refl

a_closed_pool_takes_from_its_stream : Touches (consume (λ value. task 1 [] (λ values. [])) idle true) (takes 0 1)
a_closed_pool_takes_from_its_stream = inl refl

-- it pushes for a value above 0
a_pool_touches_what_its_body_does_for_any_value : Touches counts_down (pushes 0 1)
a_pool_touches_what_its_body_does_for_any_value = inr (inr (pos 1, inr ([], write_value (pos 1) (cell 0 0 0) (Some Sum) ∷ push_to 0 1 (pos 0) ∷ [], refl, inr (inl refl))))

a_pool_touches_what_its_active_terms_do : Touches (consume (λ value. list Items unordered none) (busy (pos 7) (sets 1 (cell 0 0 0) (pos 5)) idle) false) (writes (at 0) None)
a_pool_touches_what_its_active_terms_do = inr (inl (inl (inr ([], write_value (pos 5) (cell 0 0 0) None ∷ [], refl, inl refl))))

-- its own take, and what its work touches
a_pool_touches_its_stream_and_what_its_work_does : {P : Type 0} (level container : ℕ) (body : ℤ → Term P) (active : Actives P) (closed : Bool) (touch : Touch)
    → Touches (pool level container body active closed) touch ↔ ((touch ≡ takes level container) ⊎ PoolTouches body active touch)
a_pool_touches_its_stream_and_what_its_work_does level container body active closed touch = (λ h. h, λ h. h)

a_run_that_has_ended_touches_nothing : (a : Touch) → Touches {P = ℕ} (ended cells) a → ⊥
a_run_that_has_ended_touches_nothing a h = h

a_list_touches_what_any_part_does : Touches (points (two (sets 1 (cell 0 0 0) (pos 5)) (sets 2 (cell 0 0 1) (pos 5)))) (writes (at 1) None)
a_list_touches_what_any_part_does = inr (inl (inr ([], write_value (pos 5) (cell 0 0 1) None ∷ [], refl, inl refl)))
