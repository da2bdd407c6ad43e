-- Pieces of small maps: what their boxes are in numbers, and what they mark.
use Rattle.std.proofs.Common.{◌≡◌, ℕ, ℤ, pos, negsuc, List, [], ◌∷◌, map, Option, Some, None, refl}
use Rattle.sd_num.specs.declared.resolution.Resolution.TheVariants.{Sum}
use Rattle.sd_range.specs.declared.affine.Affine.{Affine}
use Rattle.sd_pieces.specs.cut.Merged.{Mark, untouched, kept, gathered, StreamMark, unused, drained, appended}
use Rattle.sd_graph.specs.ContainerParts.{Containers}
use Rattle.sd_graph.specs.declared.container.ContainerKind.TheVariants.{Argument}
use Rattle.sd_graph.specs.Mode.{Mode, Read, Write, Resolve, Push, Take}
use Rattle.sd_graph.proofs.examples.ExampleParts.{constant, affine, from_to, container_of}
use Rattle.sd_prop.specs.propagation.Accesses.{Access}
use Rattle.sd_cut.specs.declared.window.Window.{Window}
use Rattle.sd_cut.specs.Windowed.{numbers_in}
use Rattle.sd_part.specs.declared.outline.Outline.{Outline}
use Rattle.sd_part.specs.Outline.{piece_accesses}
use Rattle.sd_part.specs.Boxes.{NumberBox, number_box}
use Rattle.sd_part.specs.Hulls.{window_for}
use Rattle.sd_part.specs.Marks.{numbers_among, marking_by}

abbrev access_at : (container : ℕ) → Mode → List Affine → Access
access_at container mode index = record { node = 0; container = container; mode = mode; box = map (λ (at : Affine). record { low = at; high = at }) index }

-- a variable and a number
abbrev shifted : (variable : ℕ) → ℤ → Affine
shifted variable number = affine number ((variable, pos 1) ∷ [])

-- the boxes of a piece
abbrev boxes_of : Containers → Outline → (first count : ℕ) → List NumberBox
boxes_of containers outline first count = map (number_box containers []) (piece_accesses [] first count outline)

-- the windows over boxes of so many containers
abbrev windows_for : List NumberBox → List ℕ → List (Option Window)
windows_for boxes containers = map (window_for boxes) containers

-- how an element is marked by a piece
abbrev mark_in : Containers → List ℕ → List NumberBox → (container element : ℕ) → Mark
mark_in containers numbers boxes = (marking_by (numbers_in containers (windows_for boxes numbers)) boxes).element

-- ---- for i from 0 to 3: A[i] = A[i + 4], in pieces of two values of i

abbrev line : Containers
line = ([], container_of (constant (pos 8) ∷ []) Argument) ∷ []

abbrev shift : Outline
shift = record { params = (0, from_to (pos 0) (pos 3)) ∷ []; accesses = access_at 0 Read (shifted 0 (pos 4) ∷ []) ∷ access_at 0 Write (shifted 0 (pos 0) ∷ []) ∷ [] }

-- the first piece reads 4 and 5 and writes 0 and 1
its_boxes : boxes_of line shift 0 2 ≡
    record { container = 0; mode = Read; intervals = record { low = 4; count = 2 } ∷ [] } ∷ record { container = 0; mode = Write; intervals = record { low = 0; count = 2 } ∷ [] } ∷ []
its_boxes = refl

-- its window goes from 0 to 5, the one of the second piece from 2 to 7
its_window : window_for (boxes_of line shift 0 2) 0 ≡ Some (record { shift = pos 0 ∷ []; extents = 6 ∷ [] })
its_window = refl

the_window_of_the_second : window_for (boxes_of line shift 2 2) 0 ≡ Some (record { shift = negsuc 1 ∷ []; extents = 6 ∷ [] })
the_window_of_the_second = refl

-- but what the second piece writes, which is 2 and 3, is not marked by the first, though its window has it
marks_of_the_first : map (mark_in line (0 ∷ []) (boxes_of line shift 0 2) 0) (0 ∷ 1 ∷ 2 ∷ 3 ∷ 4 ∷ 5 ∷ 6 ∷ 7 ∷ []) ≡ kept ∷ kept ∷ untouched ∷ untouched ∷ kept ∷ kept ∷ untouched ∷ untouched ∷ []
marks_of_the_first = refl

-- nor is what the first writes marked by the second
marks_of_the_second : map (mark_in line (0 ∷ []) (boxes_of line shift 2 2) 0) (0 ∷ 1 ∷ 2 ∷ 3 ∷ 4 ∷ 5 ∷ 6 ∷ 7 ∷ []) ≡ untouched ∷ untouched ∷ kept ∷ kept ∷ untouched ∷ untouched ∷ kept ∷ kept ∷ []
marks_of_the_second = refl

-- by their numbers in the window
numbers_of_the_second : map (numbers_among (boxes_of line shift 2 2)) (boxes_of line shift 2 2) ≡ (4 ∷ 5 ∷ []) ∷ (0 ∷ 1 ∷ []) ∷ []
numbers_of_the_second = refl

-- ---- for i from 0 to 1 and j from 0 to 2: B[j, i] = A[i, j], in pieces of one value of i

abbrev turned : Containers
turned = ([], container_of (constant (pos 2) ∷ constant (pos 3) ∷ []) Argument) ∷ ([], container_of (constant (pos 3) ∷ constant (pos 2) ∷ []) Argument) ∷ []

abbrev turn : Outline
turn = record {
  params = (0, from_to (pos 0) (pos 1)) ∷ (1, from_to (pos 0) (pos 2)) ∷ [];
  accesses = access_at 0 Read (shifted 0 (pos 0) ∷ shifted 1 (pos 0) ∷ []) ∷ access_at 1 Write (shifted 1 (pos 0) ∷ shifted 0 (pos 0) ∷ []) ∷ [];
}

-- the second piece reads a row and writes a column
a_row_and_a_column : windows_for (boxes_of turned turn 1 1) (0 ∷ 1 ∷ []) ≡
    Some (record { shift = negsuc 0 ∷ pos 0 ∷ []; extents = 1 ∷ 3 ∷ [] }) ∷ Some (record { shift = pos 0 ∷ negsuc 0 ∷ []; extents = 3 ∷ 1 ∷ [] }) ∷ []
a_row_and_a_column = refl

marks_of_the_column : map (mark_in turned (0 ∷ 1 ∷ []) (boxes_of turned turn 1 1) 1) (0 ∷ 1 ∷ 2 ∷ 3 ∷ 4 ∷ 5 ∷ []) ≡ untouched ∷ kept ∷ untouched ∷ kept ∷ untouched ∷ kept ∷ []
marks_of_the_column = refl

-- ---- for i from 0 to 7: S[0] is resolved with A[i], and where S is read too

abbrev summed : Containers
summed = ([], container_of (constant (pos 8) ∷ []) Argument) ∷ ([], container_of (constant (pos 1) ∷ []) Argument) ∷ []

abbrev sum_with : List Access → Outline
sum_with others = record { params = (0, from_to (pos 0) (pos 7)) ∷ []; accesses = access_at 0 Read (shifted 0 (pos 0) ∷ []) ∷ access_at 1 (Resolve Sum) (constant (pos 0) ∷ []) ∷ others }

what_is_only_resolved_is_gathered : mark_in summed (0 ∷ 1 ∷ []) (boxes_of summed (sum_with []) 2 3) 1 0 ≡ gathered Sum
what_is_only_resolved_is_gathered = refl

what_is_read_too_is_kept : mark_in summed (0 ∷ 1 ∷ []) (boxes_of summed (sum_with (access_at 1 Read (constant (pos 0) ∷ []) ∷ [])) 2 3) 1 0 ≡ kept
what_is_read_too_is_kept = refl

-- ---- streams

abbrev streams_by : List Mode → StreamMark
streams_by modes = (marking_by (λ container element. None) (map (λ (mode : Mode). let box : NumberBox = record { container = 0; mode = mode; intervals = [] } in box) modes)).stream 0

a_stream_that_is_pushed_to_is_appended : streams_by (Push ∷ Push ∷ []) ≡ appended
a_stream_that_is_pushed_to_is_appended = refl

one_that_is_taken_from_is_drained : streams_by (Push ∷ Take ∷ []) ≡ drained
one_that_is_taken_from_is_drained = refl

another_one_is_unused : streams_by [] ≡ unused
another_one_is_unused = refl
