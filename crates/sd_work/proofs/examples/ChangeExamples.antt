-- What single changes and readings do.
use Rattle.std.proofs.Common.{ℕ, ◌≡◌, pos, negsuc, neg_ℤ, ◌-◌, ◌^◌, [], ◌∷◌, Some, None, refl, Option, ap, arith}
use Rattle.std.specs.Int.{int_wrap}
use Rattle.sd_num.specs.declared.resolution.Resolution.{Resolution}
use Rattle.sd_num.specs.declared.resolution.Resolution.TheVariants.{Sum, Min, Last}
use Rattle.sd_num.specs.declared.width.Width.TheVariants.{W64}
use Rattle.sd_work.specs.Memory.{Memory, Memories, Reference, array, stream, look, seen, waiting}
use Rattle.sd_work.specs.Change.{Change, nothing, write, push, take, apply, outer, own_after}
use Rattle.sd_work.specs.Harmless.{AreHarmless, SparesElement, SparesStream}

-- a private array and stream, and an array and a stream outside
abbrev inner : Memory
inner = array W64 (pos 1 ∷ pos 2 ∷ []) ∷ stream W64 [] ∷ []

abbrev round : Memory
round = array W64 (pos 3 ∷ pos 4 ∷ pos 5 ∷ []) ∷ stream W64 (pos 6 ∷ pos 7 ∷ pos 8 ∷ []) ∷ []

abbrev both : Memories
both = inner ∷ round ∷ []

an_element_is_seen_at_its_level : look (record { level = 1; container = 0; element = 2 }) both ≡ pos 5
an_element_is_seen_at_its_level = refl

an_access_outside_sees_nothing : seen None both ≡ None
an_access_outside_sees_nothing = refl

the_oldest_value_waits_first : waiting 1 1 both ≡ pos 6 ∷ pos 7 ∷ pos 8 ∷ []
the_oldest_value_waits_first = refl

nothing_changes_nothing : apply nothing both ≡ both
nothing_changes_nothing = refl

a_write_replaces : apply (write (record { level = 1; container = 0; element = 1 }) None (pos 9)) both ≡ inner ∷ (array W64 (pos 3 ∷ pos 9 ∷ pos 5 ∷ []) ∷ stream W64 (pos 6 ∷ pos 7 ∷ pos 8 ∷ []) ∷ []) ∷ []
unfolding int_wrap
a_write_replaces = refl

a_write_with_a_resolution_resolves : apply (write (record { level = 0; container = 0; element = 1 }) (Some Sum) (pos 9)) both ≡ (array W64 (pos 1 ∷ pos 11 ∷ []) ∷ stream W64 [] ∷ []) ∷ round ∷ []
unfolding int_wrap
a_write_with_a_resolution_resolves = refl

the_last_one_replaces : apply (write (record { level = 0; container = 0; element = 0 }) (Some Last) (pos 9)) both ≡ (array W64 (pos 9 ∷ pos 2 ∷ []) ∷ stream W64 [] ∷ []) ∷ round ∷ []
unfolding int_wrap
the_last_one_replaces = refl

a_written_value_is_an_element : apply (write (record { level = 0; container = 0; element = 0 }) None (pos (2 ^ 63))) both ≡ (array W64 (neg_ℤ (pos (2 ^ 63)) ∷ pos 2 ∷ []) ∷ stream W64 [] ∷ []) ∷ round ∷ []
unfolding int_wrap
a_written_value_is_an_element = refl

a_resolved_value_is_an_element : apply (write (record { level = 0; container = 0; element = 0 }) (Some Min) (pos (2 ^ 64 - 1))) both ≡ (array W64 (negsuc 0 ∷ pos 2 ∷ []) ∷ stream W64 [] ∷ []) ∷ round ∷ []
unfolding int_wrap
a_resolved_value_is_an_element = refl

a_push_appends : apply (push 1 1 (pos 9)) both ≡ inner ∷ (array W64 (pos 3 ∷ pos 4 ∷ pos 5 ∷ []) ∷ stream W64 (pos 6 ∷ pos 7 ∷ pos 8 ∷ pos 9 ∷ []) ∷ []) ∷ []
unfolding int_wrap
a_push_appends = refl

a_pushed_value_is_an_element : apply (push 0 1 (pos (2 ^ 64))) both ≡ (array W64 (pos 1 ∷ pos 2 ∷ []) ∷ stream W64 (pos 0 ∷ []) ∷ []) ∷ round ∷ []
unfolding int_wrap
a_pushed_value_is_an_element = refl

a_take_is_of_its_position : apply (take 1 1 1) both ≡ inner ∷ (array W64 (pos 3 ∷ pos 4 ∷ pos 5 ∷ []) ∷ stream W64 (pos 6 ∷ pos 8 ∷ []) ∷ []) ∷ []
unfolding int_wrap
a_take_is_of_its_position = refl

a_change_inside_is_none_outside : outer (write (record { level = 0; container = 0; element = 1 }) None (pos 9)) ≡ nothing
a_change_inside_is_none_outside = refl

a_change_outside_is_one_level_less : outer (push 1 1 (pos 9)) ≡ push 0 1 (pos 9)
a_change_outside_is_one_level_less = refl

a_change_outside_leaves_the_own_memory : own_after (write (record { level = 1; container = 0; element = 1 }) None (pos 9)) inner ≡ inner
a_change_outside_leaves_the_own_memory = refl

a_push_inside_is_none_outside : outer (push 0 1 (pos 9)) ≡ nothing
a_push_inside_is_none_outside = refl

a_take_inside_is_none_outside : outer (take 0 1 0) ≡ nothing
a_take_inside_is_none_outside = refl

a_take_outside_is_one_level_less : outer (take 2 1 0) ≡ take 1 1 0
a_take_outside_is_one_level_less = refl

-- ---- changes that do not meet

abbrev at : (element : ℕ) → Option Resolution → Change
at element by = write (record { level = 0; container = 0; element = element }) by (pos 5)

writes_of_two_elements_are_harmless : AreHarmless (at 0 None) (at 1 None)
writes_of_two_elements_are_harmless = λ e. let clash : 0 ≡ 1 = ap (λ (r : Reference). r.element) e in let wrong : ⊥ = omega (arith, clash) in wrong

sums_into_one_element_are_harmless : AreHarmless (at 0 (Some Sum)) (at 0 (Some Sum))
sums_into_one_element_are_harmless = λ e. (refl, λ same. cc)

a_sum_and_a_replacement_are_not_harmless : AreHarmless (at 0 (Some Sum)) (at 0 None) → ⊥
a_sum_and_a_replacement_are_not_harmless h = h refl

-- the containers have one number
changes_of_streams_of_two_memories_are_harmless : AreHarmless (push 0 1 (pos 5)) (take 1 1 0)
changes_of_streams_of_two_memories_are_harmless = λ e f. cc

changes_of_one_stream_are_not_harmless : AreHarmless (push 0 1 (pos 5)) (take 0 1 0) → ⊥
changes_of_one_stream_are_not_harmless h = h refl refl

a_write_and_a_push_are_harmless : AreHarmless (at 0 None) (push 0 0 (pos 5))
a_write_and_a_push_are_harmless = tt

a_take_and_a_write_are_harmless : AreHarmless (take 0 0 0) (at 0 None)
a_take_and_a_write_are_harmless = tt

changes_of_two_streams_are_harmless : AreHarmless (push 0 1 (pos 5)) (take 0 2 0)
changes_of_two_streams_are_harmless = λ e f. cc

a_push_spares_elements : SparesElement (record { level = 0; container = 0; element = 0 }) (push 0 0 (pos 5))
a_push_spares_elements = tt

a_write_spares_streams : SparesStream 0 0 (at 0 None)
a_write_spares_streams = tt
