-- The elements of windows of an array of 3 times 3.
use Rattle.std.proofs.Common.{◌≡◌, pos, negsuc, [], ◌∷◌, map, refl}
use Rattle.sd_range.specs.Subset.{elements}
use Rattle.sd_num.specs.declared.width.Width.TheVariants.{W64}
use Rattle.sd_work.specs.Memory.{array}
use Rattle.sd_mem.specs.mem.Shaped.{Shaped}
use Rattle.sd_cut.specs.Cells.{subset_within, value_at}

abbrev memory : Shaped
memory = record {
  shapes = (3 ∷ 3 ∷ []) ∷ [];
  contents = array W64 (pos 1 ∷ pos 2 ∷ pos 3 ∷ pos 4 ∷ pos 5 ∷ pos 6 ∷ pos 7 ∷ pos 8 ∷ pos 9 ∷ []) ∷ [];
}

elements_come_row_by_row : map (value_at memory 0) (elements (subset_within (negsuc 0 ∷ pos 0 ∷ []) (2 ∷ 2 ∷ [])) []) ≡ pos 4 ∷ pos 5 ∷ pos 7 ∷ pos 8 ∷ []
elements_come_row_by_row = refl

outside_of_the_container_they_are_0 : map (value_at memory 0) (elements (subset_within (negsuc 1 ∷ negsuc 1 ∷ []) (2 ∷ 2 ∷ [])) []) ≡ pos 9 ∷ pos 0 ∷ pos 0 ∷ pos 0 ∷ []
outside_of_the_container_they_are_0 = refl

a_window_may_have_none : map (value_at memory 0) (elements (subset_within (pos 0 ∷ pos 0 ∷ []) (2 ∷ 0 ∷ [])) []) ≡ []
a_window_may_have_none = refl
