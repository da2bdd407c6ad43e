-- An array of 3 times 3 elements of 32 bits, of which a window of 2 times 2 is cut.
use Rattle.std.proofs.Common.{◌≡◌, pos, negsuc, [], ◌∷◌, map, List, refl}
use Rattle.std.specs.Int.{int_wrap}
use Rattle.sd_range.specs.Subset.{elements}
use Rattle.sd_num.specs.declared.resolution.Resolution.TheVariants.{Sum}
use Rattle.sd_num.specs.declared.width.Width.TheVariants.{W32}
use Rattle.sd_work.specs.Memory.{array}
use Rattle.sd_mem.specs.mem.Shaped.{Shaped}
use Rattle.sd_cut.specs.declared.elements.CutElement.{CutElement}
use Rattle.sd_cut.specs.declared.elements.ElementMark.TheVariants.{Untouched, Kept, Replaced, Gathered}
use Rattle.sd_cut.specs.Cells.{subset_within}
use Rattle.sd_cut.specs.Elements.{told, told_at, AreAllAsCut, all_effects, all_changed}

abbrev memory : Shaped
memory = record {
  shapes = (3 ∷ 3 ∷ []) ∷ [];
  contents = array W32 (pos 1 ∷ pos 2 ∷ pos 3 ∷ pos 4 ∷ pos 5 ∷ pos 6 ∷ pos 7 ∷ pos 8 ∷ pos 9 ∷ []) ∷ [];
}

-- the last two rows, the first two of each
abbrev cuts : List CutElement
cuts =
    record { place = 3; opening = pos 4; mark = Untouched } ∷ record { place = 4; opening = pos 5; mark = Untouched }
    ∷ record { place = 6; opening = pos 7; mark = Untouched } ∷ record { place = 7; opening = pos 8; mark = Untouched } ∷ []

they_are_cut_row_by_row : map told cuts ≡ map (told_at memory 0) (elements (subset_within (negsuc 0 ∷ pos 0 ∷ []) (2 ∷ 2 ∷ [])) [])
they_are_cut_row_by_row = refl

-- one of them is kept, and one is gathered
abbrev marked_cuts : List CutElement
marked_cuts =
    record { place = 3; opening = pos 4; mark = Kept } ∷ record { place = 4; opening = pos 5; mark = Gathered Sum }
    ∷ record { place = 6; opening = pos 7; mark = Untouched } ∷ record { place = 7; opening = pos 8; mark = Untouched } ∷ []

-- a memory in which other elements differ
abbrev later : Shaped
later = record {
  shapes = (3 ∷ 3 ∷ []) ∷ [];
  contents = array W32 (pos 0 ∷ pos 0 ∷ pos 0 ∷ pos 4 ∷ pos 100 ∷ pos 0 ∷ pos 70 ∷ pos 80 ∷ pos 0 ∷ []) ∷ [];
}

the_kept_one_is_as_it_was : AreAllAsCut later 0 (marked_cuts ∷ [])
the_kept_one_is_as_it_was = ((refl, (tt, (tt, (tt, tt)))), tt)

-- what is left in the window
abbrev left : Shaped
left = record { shapes = (2 ∷ 2 ∷ []) ∷ []; contents = array W32 (pos 11 ∷ pos 12 ∷ pos 13 ∷ pos 14 ∷ []) ∷ [] }

the_kept_one_is_replaced_and_the_gathered_one_is_added :
    all_changed (all_effects 0 left (marked_cuts ∷ [])) later
    ≡ record { shapes = (3 ∷ 3 ∷ []) ∷ []; contents = array W32 (pos 0 ∷ pos 0 ∷ pos 0 ∷ pos 11 ∷ pos 112 ∷ pos 0 ∷ pos 70 ∷ pos 80 ∷ pos 0 ∷ []) ∷ [] }
unfolding int_wrap
the_kept_one_is_replaced_and_the_gathered_one_is_added = refl

-- an element that was replaced has not to be as it was, and is replaced when it is committed
abbrev replaced_cuts : List CutElement
replaced_cuts = record { place = 4; opening = pos 5; mark = Replaced } ∷ []

the_replaced_one_may_differ : AreAllAsCut later 0 (replaced_cuts ∷ [])
the_replaced_one_may_differ = ((tt, tt), tt)

the_replaced_one_is_replaced :
    all_changed (all_effects 0 left (replaced_cuts ∷ [])) later
    ≡ record { shapes = (3 ∷ 3 ∷ []) ∷ []; contents = array W32 (pos 0 ∷ pos 0 ∷ pos 0 ∷ pos 4 ∷ pos 11 ∷ pos 0 ∷ pos 70 ∷ pos 80 ∷ pos 0 ∷ []) ∷ [] }
unfolding int_wrap
the_replaced_one_is_replaced = refl
