-- Work on two elements of an array of four, of either width: one is read, and added to the other.
use Rattle.std.proofs.Common.{◌≡◌, ◌⊎◌, ℕ, zero, suc, ◌+◌, ◌<◌, ◌-◌, ◌^◌, ℤ, pos, negsuc, [], ◌∷◌, Some, None, slice_get, refl, sym, ◌∙◌, ap, subst, inl, inr, arith, rules}
use Rattle.std.specs.Int.{int_wrap}
use Rattle.sd_num.specs.declared.resolution.Resolution.{Resolution}
use Rattle.sd_num.specs.declared.resolution.Resolution.TheVariants.{Sum}
use Rattle.sd_num.specs.declared.width.Width.{Width}
use Rattle.sd_num.specs.declared.width.Width.TheVariants.{W32, W64}
use Rattle.sd_num.specs.Width.{IsElement}
use Rattle.sd_num.specs.Resolution.{identity_of}
use Rattle.sd_work.specs.Memory.{Memories, array}
use Rattle.sd_work.specs.Leaf.{write_value}
use Rattle.sd_work.specs.Residual.{Term}
use Rattle.sd_work.specs.BigStep.{reached, big_step}
use Rattle.sd_work.specs.Touch.{Touch, reads, writes, Touches}
use Rattle.sd_work.proofs.examples.ExampleParts.{cell, value_of, task}
use Rattle.sd_confluence.proofs.examples.TouchExamples.{at, task_does}
use Rattle.sd_pieces.specs.course.Reading.{reads_element, container_width, HaveOneWidth, AgreeAt, element_found}
use Rattle.sd_pieces.specs.cut.Naming.{Naming, IsOneToOne, term_named, IsTouchNamed, AreMemoriesNamed}
use Rattle.sd_pieces.specs.cut.Merged.{Mark, untouched, kept, gathered, unused, Marking, outermost, IsMarked, IsPrepared, IsMerged, AreElementsOfWidth, MergesTo}
use Rattle.sd_pieces.proofs.cut_lemmas.OnCut.{on-cut}
use Rattle.sd_pieces.proofs.cut_lemmas.OneMerged.{one-merged}
use Rattle.sd_pieces.proofs.history_lemmas.Doing.{memories_in}

-- element 3 is added to element 2
abbrev adds_on : Term ℕ
adds_on = task 1 (cell 0 0 3 ∷ []) (λ values. write_value (value_of values 0) (cell 0 0 2) (Some Sum) ∷ [])

-- the cut has these two, by the numbers 0 and 1
abbrev numbers : Naming
numbers zero zero = None
numbers zero (suc zero) = None
numbers zero (suc (suc zero)) = Some 0
numbers zero (suc (suc (suc zero))) = Some 1
numbers zero (suc (suc (suc (suc element)))) = None
numbers (suc container) element = None

-- values are added to the one, the other is read
abbrev marks : (container element : ℕ) → Mark
marks zero zero = untouched
marks zero (suc zero) = untouched
marks zero (suc (suc zero)) = gathered Sum
marks zero (suc (suc (suc zero))) = kept
marks zero (suc (suc (suc (suc element)))) = untouched
marks (suc container) element = untouched

abbrev marking : Marking
marking = record { element = marks; stream = λ container. unused }

-- element 2 is the greatest one of 32 bits
abbrev opening : Width → Memories
opening width = (array width (pos 1 ∷ pos 1 ∷ pos (2 ^ 31 - 1) ∷ pos 4 ∷ []) ∷ []) ∷ []

-- the same, with the element that is added to at the identity
abbrev prepared : Width → Memories
prepared width = (array width (pos 1 ∷ pos 1 ∷ pos 0 ∷ pos 4 ∷ []) ∷ []) ∷ []

abbrev cut : Width → Memories
cut width = (array width (pos 0 ∷ pos 4 ∷ []) ∷ []) ∷ []

-- what it leaves on the cut, and what that comes to in the array of four: at 32 bits the sum is wrapped
abbrev left_there : Width → Memories
left_there width = (array width (pos 4 ∷ pos 4 ∷ []) ∷ []) ∷ []

abbrev sum_of : Width → ℤ
sum_of W32 = negsuc (2 ^ 31 - 4)
sum_of W64 = pos (2 ^ 31 + 3)

abbrev merged_there : Width → Memories
merged_there width = (array width (pos 1 ∷ pos 1 ∷ sum_of width ∷ pos 4 ∷ []) ∷ []) ∷ []

on_the_cut_it_adds_to_the_identity : (width : Width) → big_step (term_named numbers 0 adds_on) 1 (cut width) 1 ≡ reached (left_there width) 0
unfolding int_wrap
on_the_cut_it_adds_to_the_identity W32 = refl
on_the_cut_it_adds_to_the_identity W64 = refl

what_is_left_is_merged : (width : Width) → big_step adds_on 1 (opening width) 1 ≡ reached (merged_there width) 0
unfolding int_wrap
what_is_left_is_merged W32 = refl
what_is_left_is_merged W64 = refl

-- ---- all that the law asks for

number_is : (container element number : ℕ) → numbers container element ≡ Some number → element ≡ number + 2
number_is zero zero number e = cc
number_is zero (suc zero) number e = cc
number_is zero (suc (suc zero)) number e = let is : 0 ≡ number = cc in omega arith
number_is zero (suc (suc (suc zero))) number e = let is : 1 ≡ number = cc in omega arith
number_is zero (suc (suc (suc (suc element)))) number e = cc
number_is (suc container) element number e = cc

numbers_are_one_to_one : IsOneToOne numbers
numbers_are_one_to_one container element other number e f = number_is container element number e ∙ sym (number_is container other number f)

touches : (touch : Touch) → Touches adds_on touch → (touch ≡ reads (at 3)) ⊎ (touch ≡ writes (at 2) (Some Sum))
touches touch h =
    elim (task_does 1 (cell 0 0 3 ∷ []) (λ values. write_value (value_of values 0) (cell 0 0 2) (Some Sum) ∷ []) touch h)
    [ inl x ↦ elim x [ inl e ↦ inl e | inr y ↦ elim y [ ] ] | inr x ↦ elim x.1 [ inl e ↦ inr e | inr y ↦ elim y [ ] ] ]

touches_have_numbers : (touch : Touch) → Touches adds_on touch → IsTouchNamed numbers 0 touch
touches_have_numbers touch h = on (touches touch h)
  where
    on : (touch ≡ reads (at 3)) ⊎ (touch ≡ writes (at 2) (Some Sum)) → IsTouchNamed numbers 0 touch
    on (inl e) = subst (IsTouchNamed numbers 0) (sym e) (1, refl)
    on (inr e) = subst (IsTouchNamed numbers 0) (sym e) (0, refl)

touches_are_marked : (touch : Touch) → Touches adds_on touch → IsMarked marking touch
touches_are_marked touch h = on (touches touch h)
  where
    on : (touch ≡ reads (at 3)) ⊎ (touch ≡ writes (at 2) (Some Sum)) → IsMarked marking touch
    on (inl e) = subst (IsMarked marking) (sym e) (refl, refl)
    on (inr e) = subst (IsMarked marking) (sym e) (refl, inr (Sum, refl, refl))

it_is_prepared : (width : Width) → IsPrepared marking (prepared width) (opening width)
it_is_prepared width = record { kept_so = kept_ones; drained_so = λ container e. cc; gathered_so = gathered_ones; appended_so = λ container e. cc }
  where
    one_width : (container : ℕ) → HaveOneWidth 0 container (prepared width) (opening width)
    one_width zero = refl
    one_width (suc container) = refl

    kept_ones : (container element : ℕ) → marks container element ≡ kept → AgreeAt (reads_element (outermost container element)) (prepared width) (opening width)
    kept_ones zero zero e = (refl, refl)
    kept_ones zero (suc zero) e = (refl, refl)
    kept_ones zero (suc (suc zero)) e = cc
    kept_ones zero (suc (suc (suc zero))) e = (refl, refl)
    kept_ones zero (suc (suc (suc (suc element)))) e = (refl, refl)
    kept_ones (suc container) element e = (refl, refl)

    gathered_ones : (container element : ℕ) (by : Resolution) → marks container element ≡ gathered by →
        HaveOneWidth 0 container (prepared width) (opening width)
        × ((identity : ℤ) × (identity_of by (container_width 0 container (prepared width)) ≡ Some identity) × (element_found (outermost container element) (prepared width) ≡ Some identity))
    gathered_ones zero zero by e = cc
    gathered_ones zero (suc zero) by e = cc
    gathered_ones zero (suc (suc zero)) by e = let same : Sum ≡ by = cc in (refl, (pos 0, subst (λ r. identity_of r width ≡ Some (pos 0)) same refl, refl))
    gathered_ones zero (suc (suc (suc zero))) by e = cc
    gathered_ones zero (suc (suc (suc (suc element)))) by e = cc
    gathered_ones (suc container) element by e = cc

the_cut_has_them : (width : Width) → AreMemoriesNamed numbers 0 (prepared width) (cut width)
the_cut_has_them width zero zero = (refl, elements)
  where
    elements : (element number : ℕ) → numbers zero element ≡ Some number → slice_get (pos 1 ∷ pos 1 ∷ pos 0 ∷ pos 4 ∷ []) element ≡ slice_get (pos 0 ∷ pos 4 ∷ []) number
    elements zero number e = cc
    elements (suc zero) number e = cc
    elements (suc (suc zero)) number e = let is : 0 ≡ number = cc in subst (λ n. Some (pos 0) ≡ slice_get (pos 0 ∷ pos 4 ∷ []) n) is refl
    elements (suc (suc (suc zero))) number e = let is : 1 ≡ number = cc in subst (λ n. Some (pos 4) ≡ slice_get (pos 0 ∷ pos 4 ∷ []) n) is refl
    elements (suc (suc (suc (suc element)))) number e = cc
the_cut_has_them width zero (suc container) = tt
the_cut_has_them width (suc level) container = tt

it_merges : (width : Width) → MergesTo numbers marking (opening width) (big_step (term_named numbers 0 adds_on) 1 (cut width) 1) (big_step adds_on 1 (opening width) 1)
it_merges width =
    on-cut numbers marking adds_on 1 (prepared width) (cut width) (opening width) 1 numbers_are_one_to_one touches_have_numbers touches_are_marked (it_is_prepared width) (the_cut_has_them width)

-- a cut has to have the width of the memory
a_cut_of_another_width_does_not_have_them : AreMemoriesNamed numbers 0 (prepared W64) (cut W32) → ⊥
a_cut_of_another_width_does_not_have_them named = let clash : W64 ≡ W32 = (named 0 0).0 in cc

a_memory_of_another_width_is_not_prepared : IsPrepared marking (prepared W64) (opening W32) → ⊥
a_memory_of_another_width_is_not_prepared is = let clash : W64 ≡ W32 = (is.gathered_so 0 2 Sum refl).0 in cc

-- and nothing else is what is merged there

is_element : (width : Width) (n : ℕ) → n < 2 ^ 31 → IsElement width (pos n)
is_element W32 n below = search rules
is_element W64 n below = search rules

elements_are_of_their_width : (width : Width) → AreElementsOfWidth (opening width)
elements_are_of_their_width width zero zero value e = let is : pos 1 ≡ value = cc in subst (IsElement width) is (is_element width 1 (omega arith))
elements_are_of_their_width width zero (suc zero) value e = let is : pos 1 ≡ value = cc in subst (IsElement width) is (is_element width 1 (omega arith))
elements_are_of_their_width width zero (suc (suc zero)) value e = let is : pos (2 ^ 31 - 1) ≡ value = cc in subst (IsElement width) is (is_element width (2 ^ 31 - 1) (omega arith))
elements_are_of_their_width width zero (suc (suc (suc zero))) value e = let is : pos 4 ≡ value = cc in subst (IsElement width) is (is_element width 4 (omega arith))
elements_are_of_their_width width zero (suc (suc (suc (suc element)))) value e = cc
elements_are_of_their_width width (suc container) element value e = cc

it_merges_to_one_stack : (width : Width) (after : Memories) → IsMerged numbers marking (left_there width) (opening width) after → after ≡ merged_there width
it_merges_to_one_stack width after merged =
    let coming = subst (λ c. MergesTo numbers marking (opening width) c (big_step adds_on 1 (opening width) 1)) (on_the_cut_it_adds_to_the_identity width) (it_merges width) in
    let is_merged = subst (IsMerged numbers marking (left_there width) (opening width)) (ap (memories_in (opening width)) (sym coming.1 ∙ what_is_left_is_merged width)) coming.2 in
    one-merged numbers marking (left_there width) (opening width) after (merged_there width) (elements_are_of_their_width width) merged is_merged
