-- Windows and pieces of ranges in numbers.
use Rattle.std.proofs.Common.{◌≡◌, ℕ, pos, negsuc, List, [], ◌∷◌, Some, None, refl}
use Rattle.sd_range.specs.declared.range.Range.{Range}
use Rattle.sd_range.specs.Range.{range_values}
use Rattle.sd_windows.specs.Windows.{Window, numbers_in_window}
use Rattle.sd_windows.specs.MapPieces.{number, range_piece}

-- ---- rows 1 and 2 of columns 2 and 3, of an array of 4 times 5

abbrev window : Window
window = record { shift = negsuc 0 ∷ negsuc 1 ∷ []; extents = 2 ∷ 2 ∷ [] }

abbrev extents : List ℕ
extents = 4 ∷ 5 ∷ []

its_first_element_has_number_0 : numbers_in_window extents (Some window) 7 ≡ Some 0
its_first_element_has_number_0 = refl

numbers_go_row_by_row : numbers_in_window extents (Some window) 12 ≡ Some 2
numbers_go_row_by_row = refl

an_element_beside_it_has_none : numbers_in_window extents (Some window) 9 ≡ None
an_element_beside_it_has_none = refl

an_element_before_it_has_none : numbers_in_window extents (Some window) 2 ≡ None
an_element_before_it_has_none = refl

no_element_has_no_number : numbers_in_window extents (Some window) 20 ≡ None
no_element_has_no_number = refl

without_a_window_numbers_stay : numbers_in_window extents None 7 ≡ Some 7
without_a_window_numbers_stay = refl

-- ---- the values 1, 4, 7 and 10

abbrev range : Range
range = record { begin = number (pos 1); ends = number (pos 11) ∷ []; step = pos 3 }

all_values : range_values [] range ≡ pos 1 ∷ pos 4 ∷ pos 7 ∷ pos 10 ∷ []
all_values = refl

two_values_from_the_second_on : range_values [] (range_piece [] 1 2 range) ≡ pos 4 ∷ pos 7 ∷ []
two_values_from_the_second_on = refl

a_piece_may_have_none : range_values [] (range_piece [] 1 0 range) ≡ []
a_piece_may_have_none = refl
