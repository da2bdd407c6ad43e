-- Two streams that were cut: of one a value was taken and one was pushed to it, to the other one was pushed alone.
use Rattle.std.proofs.Common.{◌≡◌, pos, [], ◌∷◌, Some, None, refl}
use Rattle.std.specs.Int.{int_wrap}
use Rattle.sd_num.specs.declared.width.Width.TheVariants.{W64}
use Rattle.sd_work.specs.Memory.{stream}
use Rattle.sd_mem.specs.mem.Shaped.{Shaped}
use Rattle.sd_cut.specs.declared.streams.StreamUse.TheVariants.{Unused, Drained, Appended}
use Rattle.sd_cut.specs.Using.{values_seen, pushed_in, taken_in, drained_at, Agrees, committed}
use Rattle.sd_cut.specs.Overlaid.{Overlaid}

abbrev memory : Shaped
memory = record { shapes = [] ∷ [] ∷ []; contents = stream W64 (pos 1 ∷ pos 2 ∷ []) ∷ stream W64 (pos 7 ∷ []) ∷ [] }

abbrev fresh : Overlaid
fresh = record {
  windows = None ∷ None ∷ [];
  arrays = [] ∷ [] ∷ [];
  streams = Some (record { opening = pos 1 ∷ pos 2 ∷ []; taken = 0; usage = Unused }) ∷ Some (record { opening = pos 7 ∷ []; taken = 0; usage = Unused }) ∷ [];
  left = record { shapes = [] ∷ [] ∷ []; contents = stream W64 [] ∷ stream W64 [] ∷ [] };
}

abbrev used : Overlaid
used = pushed_in 1 (pos 8) (taken_in 0 (pushed_in 0 (pos 3) fresh))

the_first_is_drained_and_the_second_appended : used ≡ record {
  windows = None ∷ None ∷ [];
  arrays = [] ∷ [] ∷ [];
  streams = Some (record { opening = pos 1 ∷ pos 2 ∷ []; taken = 1; usage = Drained }) ∷ Some (record { opening = pos 7 ∷ []; taken = 0; usage = Appended }) ∷ [];
  left = record { shapes = [] ∷ [] ∷ []; contents = stream W64 (pos 3 ∷ []) ∷ stream W64 (pos 8 ∷ []) ∷ [] };
}
unfolding int_wrap
the_first_is_drained_and_the_second_appended = refl

work_sees_what_was_not_taken_and_what_was_pushed : values_seen 0 used ≡ pos 2 ∷ pos 3 ∷ []
unfolding int_wrap
work_sees_what_was_not_taken_and_what_was_pushed = refl

-- a memory in which the second stream differs
abbrev later : Shaped
later = record { shapes = [] ∷ [] ∷ []; contents = stream W64 (pos 1 ∷ pos 2 ∷ []) ∷ stream W64 (pos 5 ∷ pos 6 ∷ []) ∷ [] }

the_first_is_as_it_was : Agrees used later
the_first_is_as_it_was = ((tt, (tt, tt)), (refl, (tt, tt)))

what_was_taken_is_taken_and_what_was_pushed_is_pushed : committed used later ≡ record { shapes = [] ∷ [] ∷ []; contents = stream W64 (pos 2 ∷ pos 3 ∷ []) ∷ stream W64 (pos 5 ∷ pos 6 ∷ pos 8 ∷ []) ∷ [] }
unfolding int_wrap
what_was_taken_is_taken_and_what_was_pushed_is_pushed = refl

a_drained_stream_is_all_left : values_seen 0 (drained_at 0 used) ≡ pos 2 ∷ pos 3 ∷ []
unfolding int_wrap
a_drained_stream_is_all_left = refl
