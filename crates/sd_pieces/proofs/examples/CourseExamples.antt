-- What some work reads and changes.
use Rattle.std.proofs.Common.{◌≡◌, ℕ, zero, suc, pos, List, [], ◌∷◌, Some, None, Ok, true, false, refl}
use Rattle.sd_num.specs.declared.resolution.Resolution.TheVariants.{Sum}
use Rattle.sd_num.specs.declared.width.Width.TheVariants.{W32, W64}
use Rattle.sd_work.specs.Memory.{array, stream, Memories}
use Rattle.sd_work.specs.Change.{nothing, write, take}
use Rattle.sd_work.specs.Leaf.{write_value}
use Rattle.sd_work.specs.Exit.{Exit}
use Rattle.sd_work.specs.Residual.{Items, Term, list, owning, begun, pool, none, idle}
use Rattle.sd_work.specs.Step.{Done, Spent}
use Rattle.sd_work.proofs.examples.ExampleParts.{cell, value_of, task, unordered}
use Rattle.sd_confluence.proofs.examples.TouchExamples.{at}
use Rattle.sd_pieces.specs.course.Reading.{reads_element, reads_stream, AgreeAt}
use Rattle.sd_pieces.specs.course.Shape.{stack_shape}
use Rattle.sd_pieces.specs.course.Course.{course}

abbrev here : Memories
here = (array W64 (pos 4 ∷ pos 9 ∷ []) ∷ stream W64 (pos 3 ∷ []) ∷ []) ∷ []

-- element 0 is read, and element 1 added to
abbrev adds_on : Term ℕ
adds_on = task 1 (cell 0 0 0 ∷ []) (λ values. write_value (value_of values 0) (cell 0 0 1) (Some Sum) ∷ [])

an_instance_reads_its_inputs : (course adds_on 1 here 2).readings ≡ reads_element (at 0) ∷ []
an_instance_reads_its_inputs = refl

what_is_resolved_is_changed_and_not_read : (course adds_on 1 here 2).changes ≡ write (at 1) (Some Sum) (pos 4) ∷ []
what_is_resolved_is_changed_and_not_read = refl

turns_are_left : (course adds_on 1 here 2).end ≡ Some (Done 1)
turns_are_left = refl

without_a_turn_nothing_is_read : (course adds_on 1 here 0).readings ≡ []
without_a_turn_nothing_is_read = refl

without_a_turn_work_is_spent : (course adds_on 1 here 0).end ≡ Some Spent
without_a_turn_work_is_spent = refl

-- reads stop at the first one that is outside
abbrev reads_outside : Term ℕ
reads_outside = task 1 (cell 0 0 0 ∷ None ∷ cell 0 0 1 ∷ []) (λ values. [])

nothing_is_read_behind_a_fault : (course reads_outside 1 here 1).readings ≡ reads_element (at 0) ∷ []
nothing_is_read_behind_a_fault = refl

-- what an owner has is read and changed inside; element 0 outside is read from there
abbrev owns : Term ℕ
owns = owning (array W64 (pos 7 ∷ []) ∷ []) (task 1 (cell 0 0 0 ∷ cell 1 0 0 ∷ []) (λ values. write_value (value_of values 1) (cell 0 0 0) None ∷ []))

work_inside_an_owner_is_seen_from_outside : (course owns 1 here 1).readings ≡ reads_element (at 0) ∷ []
work_inside_an_owner_is_seen_from_outside = refl

changes_inside_an_owner_are_none_outside : (course owns 1 here 1).changes ≡ nothing ∷ []
changes_inside_an_owner_are_none_outside = refl

-- a pool asks its stream until it is empty
abbrev takes_all : Term ℕ
takes_all = pool 0 1 (λ value. list Items unordered none) idle false

a_pool_asks_until_its_stream_is_empty : (course takes_all 2 here 0).readings ≡ reads_stream 0 1 ∷ reads_stream 0 1 ∷ []
a_pool_asks_until_its_stream_is_empty = refl

a_pool_changes_its_stream_by_takes : (course takes_all 2 here 0).changes ≡ take 0 1 0 ∷ []
a_pool_changes_its_stream_by_takes = refl

-- out of state 0 lead two conditions, each on an element outside, of which the first holds
abbrev leads_to_the_end : (element : ℕ) → Exit ℕ
leads_to_the_end element = record {
  when = Some (record { place = 1; reads = cell 1 0 element ∷ []; holds = λ values. Ok true });
  marked = false;
  state = 1;
  values = [];
}

abbrev ways_out : (state : ℕ) → List (Exit ℕ)
ways_out zero = leads_to_the_end 0 ∷ leads_to_the_end 1 ∷ []
ways_out (suc state) = []

abbrev two_ways : Term ℕ
two_ways = begun (λ state values. list Items unordered none) (λ state values. ways_out state) [] []

later_conditions_are_not_read : (course two_ways 2 here 0).readings ≡ reads_element (at 0) ∷ []
later_conditions_are_not_read = refl

-- ---- widths

an_element_of_another_width_is_not_the_same : AgreeAt (reads_element (at 0)) ((array W32 (pos 4 ∷ []) ∷ []) ∷ []) ((array W64 (pos 4 ∷ []) ∷ []) ∷ []) → ⊥
an_element_of_another_width_is_not_the_same agree = let clash : W32 ≡ W64 = agree.1 in cc

a_stream_of_another_width_is_not_the_same : AgreeAt (reads_stream 0 0) ((stream W32 [] ∷ []) ∷ []) ((stream W64 [] ∷ []) ∷ []) → ⊥
a_stream_of_another_width_is_not_the_same agree = let clash : W32 ≡ W64 = agree.1 in cc

a_shape_has_widths : stack_shape ((array W32 (pos 4 ∷ pos 9 ∷ []) ∷ stream W64 (pos 3 ∷ []) ∷ []) ∷ []) ≡ ((W32, Some 2) ∷ (W64, None) ∷ []) ∷ []
a_shape_has_widths = refl
